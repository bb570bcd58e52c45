-- What is encoded decodes to itself.
use Rattle.std.proofs.Common.{◌≡◌, ℕ, ◌≤◌, List, [], ◌++◌, length, take, length-append, Option, Some, None, IfSome, refl, sym, ◌∙◌, ap, subst, arith}
use Rattle.std.proofs.Math.Seq.{take-append_seam}
use Rattle.vw_insn.specs.declared.instruction.Insn.{Insn}
use Rattle.vw_rows.specs.Spelling.{Spells}
use Rattle.vw_encode.specs.Order.{IsFirst}

-- what a decoder answers that finds every spelling in front of these bytes
pub decoded_back : (front behind bytes : List ℕ) (insn : Insn) (result : Option (Insn × ℕ)) → bytes ≡ front ++ behind → Spells front insn
    → ((n : ℕ) (i : Insn) → n ≤ length bytes → Spells (take n bytes) i → result ≡ Some (i, n)) → result ≡ Some (insn, length front)
decoded_back front behind bytes insn result made spelled only =
    let seam : take (length front) bytes ≡ front = ap (λ (b : List ℕ). take (length front) b) made ∙ take-append_seam front behind in
    only (length front) insn (omega (arith, ap length made, length-append front behind)) (subst (λ (b : List ℕ). Spells b insn) (sym seam) spelled)

pub made_of : (start one two bytes front behind : List ℕ) → start ≡ [] → one ≡ start ++ front → two ≡ one ++ behind → bytes ≡ two → bytes ≡ front ++ behind
made_of start one two bytes front behind a b d e = rw (e, d, b, a) refl

abbrev pub GoesBack : Insn → Option (Insn × ℕ) → Type 0
GoesBack insn found = IfSome found (λ f. (f.0 ≡ insn) × (front : List ℕ) × IsFirst front insn × (f.1 ≡ length front))

pub goes_back : (front : List ℕ) (insn : Insn) (result : Option (Insn × ℕ)) → IsFirst front insn → result ≡ Some (insn, length front) → GoesBack insn result
goes_back front insn result first is = subst (GoesBack insn) (sym is) (refl, front, first, refl)

apart : {B : Type 0} {x : B} → None ≡ Some x → ⊥
apart e = absurd cc

pub never_none : {A : Type 0} (front : List ℕ) (insn : Insn) (result : Option (Insn × ℕ)) → result ≡ Some (insn, length front) → result ≡ None → A
never_none front insn result is none = absurd (let e : None ≡ Some (insn, length front) = sym none ∙ is in apart e)
