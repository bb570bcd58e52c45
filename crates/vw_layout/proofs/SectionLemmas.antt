-- What the rules on section headers give of the sections of symbols.
use Rattle.std.proofs.Common.{◌≡◌, ℕ, ◌+◌, ◌≤◌, ◌&&◌, [], ◌∷◌, Bool, true, false, not, cond, List, length, map, All, None, refl, arith}
use Rattle.std.specs.List.{filter}
use Rattle.std.proofs.lemmas.Bool.Decides.{nat_tests}
use Rattle.std.proofs.lemmas.List.Elements.{All-nil, All-cons, All-head, All-tail}
use Rattle.vw_bits.specs.Headers.{section_headers, sh_offset, sh_size}
use Rattle.vw_bits.specs.HeaderRules.{header_fault, header_rules, segment_rules, symbol_section_rule, is_symbol_section, symbol_section_fits}
use Rattle.vw_bits.proofs.RuleLemmas.{lowest-each}
use Rattle.vw_bits.proofs.BoundLemmas.{all_rules}
use Rattle.vw_elf.specs.SymbolSections.{symbol_section_at, symbol_sections}
use Rattle.vw_layout.specs.Bounds.{IsInside, AreInside}
use Rattle.vw_layout.proofs.ShortLemmas.{find_none-All}

fits_inside : (bytes : List ℕ) (header : ℕ) → symbol_section_fits bytes header ≡ true → IsInside (length bytes) (symbol_section_at bytes header)
unfolding symbol_section_fits symbol_section_at
fits_inside bytes header fits =
    let inside : sh_offset bytes header + sh_size bytes header ≤ length bytes = grind (arith, nat_tests, fits) in
    omega (arith, inside)

fits_from_test : (kind fits : Bool) → kind ≡ true → (kind && not fits) ≡ false → fits ≡ true
fits_from_test true true is none = refl
fits_from_test true false is none = cc
fits_from_test false fits is none = cc

inside_step : (bytes : List ℕ) (header : ℕ) (rest : List ℕ) (kind : Bool) → is_symbol_section bytes header ≡ kind → (is_symbol_section bytes header && not (symbol_section_fits bytes header)) ≡ false → AreInside (length bytes) (map (symbol_section_at bytes) rest) → AreInside (length bytes) (map (symbol_section_at bytes) (cond kind (header ∷ rest) rest))
inside_step bytes header rest true is test behind =
    All-cons (IsInside (length bytes)) (symbol_section_at bytes header) (map (symbol_section_at bytes) rest) (fits_inside bytes header (fits_from_test (is_symbol_section bytes header) (symbol_section_fits bytes header) is test)) behind
inside_step bytes header rest false is test behind = behind

all_inside : (bytes headers : List ℕ) → All (λ h. (is_symbol_section bytes h && not (symbol_section_fits bytes h)) ≡ false) headers → AreInside (length bytes) (map (symbol_section_at bytes) (filter (is_symbol_section bytes) headers))
all_inside bytes [] all = All-nil (IsInside (length bytes))
all_inside bytes (header ∷ headers) all =
    inside_step bytes header (filter (is_symbol_section bytes) headers) (is_symbol_section bytes header) refl (All-head (λ h. (is_symbol_section bytes h && not (symbol_section_fits bytes h)) ≡ false) header headers all) (all_inside bytes headers (All-tail (λ h. (is_symbol_section bytes h && not (symbol_section_fits bytes h)) ≡ false) header headers all))

from_rule : (bytes : List ℕ) → symbol_section_rule bytes ≡ None → AreInside (length bytes) (symbol_sections bytes)
unfolding symbol_section_rule symbol_sections
from_rule bytes holds =
    all_inside bytes (section_headers bytes) (find_none-All (λ h. is_symbol_section bytes h && not (symbol_section_fits bytes h)) (section_headers bytes) holds)

pub AreInside-from_rules : (bytes : List ℕ) → header_fault bytes ≡ None → AreInside (length bytes) (symbol_sections bytes)
unfolding header_fault header_rules segment_rules
AreInside-from_rules bytes holds =
    let rule : symbol_section_rule bytes ≡ None = lowest-each 1 (all_rules bytes) holds 13 in
    from_rule bytes rule
