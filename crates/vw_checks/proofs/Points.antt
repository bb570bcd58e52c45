-- What stands at a point decides what fails there.
use Rattle.std.proofs.Common.{ℕ, ◌+◌, ◌≤◌, Option, Some, subst, arith}
use Rattle.std.specs.Prelude.{IfOk, Result, Ok, Err}
use Rattle.vw_insn.specs.declared.instruction.Insn.{Insn}
use Rattle.vw_domain.specs.declared.parts.Parts.{Parts}
use Rattle.vw_state.specs.Code.{NothingAt, StandsAlone}
use Rattle.vw_state.specs.Context.{Context, code_of}
use Rattle.vw_checks.specs.Checks.{InsnFails, Fails, lacks_code, at_insn, IsLowestOf, LowestFailing}
use Rattle.vw_checks.proofs.LowestLemmas.{lowest_as}

module _ (f : Context) (at : ℕ) (state : Parts) where
  -- nothing decodes at the point
  pub none_stands : NothingAt (code_of f) at → LowestFailing f at state (Some 1)
  none_stands lacks = (lacks_code lacks, λ number fails. least number fails)
    where
      least : (number : ℕ) → Fails f at state number → 1 ≤ number
      least number (lacks_code _) = omega arith
      least number (at_insn i len n begins fails) = absurd (lacks i len begins)

  -- this instruction stands at the point, and no other
  module _ (i : Insn) (len : ℕ) (stands : StandsAlone (code_of f) at i len) where
    to_point : (n : ℕ) → InsnFails f (at + len) state i n → Fails f at state n
    to_point n fails = at_insn i len n stands.begins fails

    from_point : (n : ℕ) → Fails f at state n → InsnFails f (at + len) state i n
    from_point n (lacks_code lacks) = absurd (lacks i len stands.begins)
    from_point n (at_insn j other m begins fails) =
        let one = stands.alone j other begins in
        subst (λ (k : ℕ). InsnFails f (at + k) state i n) one.1 (subst (λ (k : Insn). InsnFails f (at + other) state k n) one.0 fails)

    pub as_point : (o : Option ℕ) → IsLowestOf (InsnFails f (at + len) state i) o → LowestFailing f at state o
    as_point o lowest = lowest_as (InsnFails f (at + len) state i) (Fails f at state) o to_point from_point lowest

-- what holds of an answer gives more, where it gives more of each
pub ok_as : {T E : Type 0} (P Q : T → Type 0) → ((x : T) → P x → Q x) → (r : Result T E) → IfOk r P → IfOk r Q
ok_as P Q gives (Ok x) h = gives x h
ok_as P Q gives (Err e) h = h
