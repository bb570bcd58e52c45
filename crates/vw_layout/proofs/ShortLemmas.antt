-- What rule 28 gives of function symbols.
use Rattle.std.proofs.Common.{◌≡◌, ℕ, ◌+◌, ◌≤◌, ◌<◌, ◌^◌, ◌&&◌, Bool, true, false, not, nat_le, List, [], ◌∷◌, All, Option, Some, None, refl, arith, inl, inr}
use Rattle.std.specs.List.{find, list_any}
use Rattle.std.proofs.lemmas.Bool.{false≢true}
use Rattle.std.proofs.lemmas.Bool.Decides.{nat_tests}
use Rattle.std.proofs.lemmas.List.Elements.{All-nil, All-cons, All-weaker}
use Rattle.vw_bits.specs.declared.records.Segment.{Segment}
use Rattle.vw_bits.specs.Bounds.{IsBounded, AreBounded}
use Rattle.vw_layout.specs.Bounds.{IsShort, AreShort}
use Rattle.vw_bits.specs.Rules.{AllHold}
use Rattle.vw_bits.proofs.RuleLemmas.{lowest-each}
use Rattle.vw_bits.proofs.ListLemmas.{passed, or_cases}
use Rattle.vw_layout.specs.Functions.{symbol_offset, is_code, is_misplaced, function_rules}
use Rattle.vw_layout.specs.declared.symbols.SymbolEntry.{SymbolEntry}

-- none passes where none is found
pub find_none-All : {X : Type 0} (p : X → Bool) (xs : List X) → find p xs ≡ None → All (λ x. p x ≡ false) xs
find_none-All p [] none = All-nil (λ x. p x ≡ false)
find_none-All p (x ∷ xs) none =
    let both = passed x (find p xs) (p x) none in
    All-cons (λ x. p x ≡ false) x xs both.0 (find_none-All p xs both.1)

pub unfound : (found : Option SymbolEntry) → symbol_offset found ≡ None → found ≡ None
unfound None none = refl
unfound (Some s) none = cc

below_of : (segment : Segment) (s : SymbolEntry) → IsBounded (2 ^ 64) segment → is_code segment s ≡ true → (s.symbol.value < 2 ^ 32) × (s.symbol.value + s.symbol.size ≤ 2 ^ 32)
below_of segment s bounded code =
    let end : segment.vaddr + segment.memsz ≤ 2 ^ 31 = bounded.below in
    let short : segment.filesz ≤ segment.memsz = bounded.part in
    let first : s.symbol.value < segment.vaddr + segment.filesz = grind (arith, nat_tests, code) in
    let inside : s.symbol.value + s.symbol.size ≤ segment.vaddr + segment.filesz = grind (arith, nat_tests, code) in
    (omega (arith, end, short, first), omega (arith, end, short, inside))

in_some : (segments : List Segment) (s : SymbolEntry) → AreBounded (2 ^ 64) segments → list_any (λ segment. is_code segment s) segments ≡ true → (s.symbol.value < 2 ^ 32) × (s.symbol.value + s.symbol.size ≤ 2 ^ 32)
in_some [] s bounded some = absurd (false≢true some)
in_some (segment ∷ more) s bounded some =
    elim (or_cases (is_code segment s) (list_any (λ segment. is_code segment s) more) some) [
      | inl here ↦ below_of segment s bounded.0 here
      | inr there ↦ in_some more s bounded.1 there
    ]

both_hold : (small placed : Bool) → not (small && placed) ≡ false → (small ≡ true) × (placed ≡ true)
both_hold true true none = (refl, refl)
both_hold true false none = cc
both_hold false placed none = cc

is_short : (segments : List Segment) (s : SymbolEntry) → AreBounded (2 ^ 64) segments → is_misplaced segments s ≡ false → IsShort s
is_short segments s bounded placed =
    let both = both_hold (nat_le s.symbol.size 1048576) (list_any (λ segment. is_code segment s) segments) placed in
    let test : nat_le s.symbol.size 1048576 ≡ true = both.0 in
    let place = in_some segments s bounded both.1 in
    record { at = place.0; below = place.1; short = grind (arith, nat_tests, test) }

pub AreShort-from_rule : (segments : List Segment) (symbols : List SymbolEntry) → AreBounded (2 ^ 64) segments → symbol_offset (find (is_misplaced segments) symbols) ≡ None → AreShort symbols
AreShort-from_rule segments symbols bounded holds =
    All-weaker (λ s. is_misplaced segments s ≡ false) IsShort (λ s placed. is_short segments s bounded placed) symbols (find_none-All (is_misplaced segments) symbols (unfound (find (is_misplaced segments) symbols) holds))

pub AreShort-from_rules : (bytes : List ℕ) (segments : List Segment) (symbols : List SymbolEntry) → AreBounded (2 ^ 64) segments → AllHold (function_rules bytes segments symbols) → AreShort symbols
unfolding function_rules
AreShort-from_rules bytes segments symbols bounded holds =
    let rule : symbol_offset (find (is_misplaced segments) symbols) ≡ None = lowest-each 1 (function_rules bytes segments symbols) holds 1 in
    AreShort-from_rule segments symbols bounded rule
