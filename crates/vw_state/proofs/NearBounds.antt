-- The bounds near the immediates that decode in some code.
use Rattle.std.proofs.Common.{◌≡◌, ◌↔◌, ℕ, suc, ◌+◌, ◌<◌, ◌≤◌, List, [], ◌∷◌, ◌++◌, length, take, drop, Option, Some, None, get_or, refl, sym, ◌∙◌, ap, arith}
use Rattle.std.proofs.Math.Seq.{drop-cons}
use Rattle.std.proofs.lemmas.List.{append_assoc}
use Rattle.vw_insn.specs.declared.instruction.Insn.{Insn}
use Rattle.vw_rows.specs.Numbers.{IsBytes}
use Rattle.vw_rows.specs.Spelling.{Spells}
use Rattle.vw_decode.specs.Lexing.{Found, insn_found, length_found, read}
use Rattle.vw_state.specs.Bounds.{bounds_in, bounds_near, bounds_read, counted_immediate}

some_none : {A : Type 0} {x : A} → None ≡ Some x → ⊥
some_none e = absurd cc

some_is : {A : Type 0} {x y : A} → Some x ≡ Some y → x ≡ y
some_is e = cc

first_is : {A B : Type 0} {a c : A} {b d : B} → ◌≡◌ {A = Option (A × B)} (Some (a, b)) (Some (c, d)) → a ≡ c
first_is {A} {B} e = ap (λ (p : A × B). p.0) (some_is e)

-- what decodes at the front of bytes is what is read there
module _ (no_front : (bytes : List ℕ) → IsBytes bytes → (read bytes ≡ None) ↔ ((n : ℕ) (insn : Insn) → Spells (take n bytes) insn → ⊥))
    (spelled : (bytes : List ℕ) (f : Found) → IsBytes bytes → read bytes ≡ Some f → Spells (take (length_found bytes f) bytes) (insn_found f))
    (bytes : List ℕ) (are : IsBytes bytes) where
  -- a decoder that answers every spelling of a front
  abbrev pub Only : Option (Insn × ℕ) → Type 0
  Only answer = (n : ℕ) (insn : Insn) → n ≤ length bytes → Spells (take n bytes) insn → answer ≡ Some (insn, n)

  answered : (answer : Option (Insn × ℕ)) → Only answer → (f : Found) → read bytes ≡ Some f → answer ≡ Some (insn_found f, length_found bytes f)
  answered answer only f e = only (length_found bytes f) (insn_found f) (omega arith) (spelled bytes f are e)

  pub near_none : Only None → [] ≡ bounds_read (read bytes)
  near_none only = by_read (read bytes) refl
    where
      by_read : (r : Option Found) → read bytes ≡ r → [] ≡ bounds_read r
      by_read None e = refl
      by_read (Some f) e = absurd (some_none (answered None only f e))

  pub near_some : (i : Insn) (len : ℕ) → Only (Some (i, len)) → Spells (take len bytes) i → bounds_near (counted_immediate i) ≡ bounds_read (read bytes)
  near_some i len only spells = by_read (read bytes) refl
    where
      by_read : (r : Option Found) → read bytes ≡ r → bounds_near (counted_immediate i) ≡ bounds_read r
      by_read None e = absurd ((no_front bytes are).0 e len i spells)
      by_read (Some f) e = ap (λ (j : Insn). bounds_near (counted_immediate j)) (first_is (answered (Some (i, len)) only f e))

-- one more byte of the code, with what is left of it from there on
pub one_more : (code rest before near after whole : List ℕ) (at : ℕ) → at < length code → rest ≡ drop at code → near ≡ bounds_read (read rest) → after ≡ before ++ near
    → before ++ bounds_in (drop at code) ≡ whole → after ++ bounds_in (drop (at + 1) code) ≡ whole
one_more code rest before near after whole at inside left is grown so_far =
    let first : drop at code ≡ get_or code at 0 ∷ drop (suc at) code = drop-cons code at 0 inside in
    let here : bounds_in (drop at code) ≡ near ++ bounds_in (drop (suc at) code) =
    ap bounds_in first
    ∙ (ap (λ (bytes : List ℕ). bounds_read (read bytes) ++ bounds_in (drop (suc at) code)) (sym first ∙ sym left)
    ∙ ap (λ (bounds : List ℕ). bounds ++ bounds_in (drop (suc at) code)) (sym is)) in
    let next : at + 1 ≡ suc at = omega arith in
    ap (λ (n : ℕ). after ++ bounds_in (drop n code)) next
    ∙ (ap (λ (bounds : List ℕ). bounds ++ bounds_in (drop (suc at) code)) grown
    ∙ (append_assoc before near (bounds_in (drop (suc at) code)) ∙ (ap (λ (bounds : List ℕ). before ++ bounds) (sym here) ∙ so_far)))
