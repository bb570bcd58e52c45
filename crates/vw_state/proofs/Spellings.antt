-- What a decoder's answer says of the code at a point.
use Rattle.std.proofs.Common.{◌≡◌, ℕ, ◌<◌, ◌≤◌, List, length, take, drop, Option, Some, None, sym, ap, subst, arith}
use Rattle.std.proofs.lemmas.List.{length-drop}
use Rattle.vw_insn.specs.declared.instruction.Insn.{Insn}
use Rattle.vw_rows.specs.Spelling.{Spells}
use Rattle.vw_state.specs.Code.{BeginsAt, StandsAlone, NothingAt}

same_some : {A : Type 0} {x y : A} → Some x ≡ Some y → x ≡ y
same_some e = cc

same_pair : {A B : Type 0} {a c : A} {b d : B} → ◌≡◌ {A = Option (A × B)} (Some (a, b)) (Some (c, d)) → (c ≡ a) × (d ≡ b)
same_pair {A} {B} e = let p = same_some e in (sym (ap (λ (q : A × B). q.0) p), sym (ap (λ (q : A × B). q.1) p))

apart : {A : Type 0} {a : A} → None ≡ Some a → ⊥
apart e = absurd cc

-- what a decoder says of the bytes from a point on, as it says of the code at the point
module _ (code : List ℕ) (at : ℕ) (inside : at ≤ length code) (rest : List ℕ) (same : rest ≡ drop at code) where
  abbrev pub Only : Option (Insn × ℕ) → Type 0
  Only result = (n : ℕ) (i : Insn) → n ≤ length rest → Spells (take n rest) i → result ≡ Some (i, n)

  only_at : (result : Option (Insn × ℕ)) → Only result → (i : Insn) (len : ℕ) → BeginsAt code at i len → result ≡ Some (i, len)
  only_at result only i len begins =
      only len i (omega (arith, begins.inside, ap length same, length-drop at code)) (subst (λ (bytes : List ℕ). Spells (take len bytes) i) (sym same) begins.spelled)

  pub none_at : Only None → NothingAt code at
  none_at only i len begins = apart (only_at None only i len begins)

  pub found_at : (i : Insn) (len : ℕ) → Only (Some (i, len)) → len ≤ length rest → 1 ≤ len → Spells (take len rest) i → StandsAlone code at i len
  found_at i len only short some spells =
      record {
        begins = record {
          inside = omega (arith, inside, short, ap length same, length-drop at code);
          spelled = subst (λ (bytes : List ℕ). Spells (take len bytes) i) same spells;
        };
        some = some;
        alone = λ other other_len others. same_pair (only_at (Some (i, len)) only other other_len others);
      }

-- behind the code's end nothing begins
pub nothing_behind : (code : List ℕ) (at : ℕ) → length code < at → NothingAt code at
nothing_behind code at behind i len b = absurd (omega (arith, b.inside))
