-- What the rules on headers give of the segments, and where a range is in the file.
use Rattle.std.proofs.Common.{◌≡◌, ℕ, ◌+◌, ◌-◌, ◌<◌, ◌≤◌, ◌^◌, ◌++◌, ◌∷◌, [], true, false, not, nat_le, List, length, Option, Some, None, option_map, refl, arith}
use Rattle.std.specs.List.{find}
use Rattle.std.proofs.lemmas.Bool.Decides.{nat_tests}
use Rattle.vw_bits.specs.Headers.{segments_of}
use Rattle.vw_bits.specs.Places.{is_among, in_file_part, file_offset}
use Rattle.vw_bits.specs.Bounds.{IsBounded, AreBounded}
use Rattle.vw_bits.specs.Rules.{unless}
use Rattle.vw_bits.specs.HeaderRules.{header_fault, header_rules, segment_rules, segment_fits, header_of, section_table_rule, symbol_section_rule}
use Rattle.vw_bits.specs.declared.records.Segment.{Segment}
use Rattle.vw_bits.proofs.RuleLemmas.{lowest-each, unless-holds}
use Rattle.vw_bits.proofs.ListLemmas.{find-passes, find-holds, find_none-All, All-weaker}

pub unfound : (found : Option Segment) → header_of found ≡ None → found ≡ None
unfound None none = refl
unfound (Some s) none = cc

bounded : (len : ℕ) (s : Segment) → not (segment_fits len s) ≡ false → IsBounded len s
bounded len s fits = record { inside = grind (arith, nat_tests, fits); part = grind (arith, nat_tests, fits); below = grind (arith, nat_tests, fits) }

-- rules 1 to 14
abbrev pub all_rules : List ℕ → List (Option ℕ)
all_rules bytes = header_rules bytes ++ segment_rules (length bytes) (segments_of bytes) ++ section_table_rule bytes ∷ symbol_section_rule bytes ∷ []

pub AreBounded-from_rules : (bytes : List ℕ) → header_fault bytes ≡ None → AreBounded (length bytes) (segments_of bytes)
unfolding header_fault header_rules segment_rules
AreBounded-from_rules bytes holds =
    let rule : header_of (find (λ s. not (segment_fits (length bytes) s)) (segments_of bytes)) ≡ None = lowest-each 1 (all_rules bytes) holds 9 in
    All-weaker (λ s. not (segment_fits (length bytes) s) ≡ false) (IsBounded (length bytes)) (segments_of bytes) (bounded (length bytes))
    (find_none-All (λ s. not (segment_fits (length bytes) s)) (segments_of bytes) (unfound _ rule))

pub length-from_rules : (bytes : List ℕ) → header_fault bytes ≡ None → length bytes ≤ 67108864
unfolding header_fault header_rules segment_rules
length-from_rules bytes holds =
    let rule : unless (nat_le (length bytes) 67108864) 67108864 ≡ None = lowest-each 1 (all_rules bytes) holds 0 in
    let test = unless-holds (nat_le (length bytes) 67108864) 67108864 rule in
    grind (arith, nat_tests, test)

widen : (len more : ℕ) → len ≤ more → (s : Segment) → IsBounded len s → IsBounded more s
widen len more small s b =
    let end : s.offset + s.filesz ≤ len = b.inside in
    record { inside = omega arith; part = b.part; below = b.below }

pub AreBounded-widen : (len more : ℕ) (segments : List Segment) → len ≤ more → AreBounded len segments → AreBounded more segments
AreBounded-widen len more segments small all = All-weaker (IsBounded len) (IsBounded more) segments (widen len more small) all

pub among : (start size a n : ℕ) → is_among start size a n ≡ true → (start ≤ a) × (a < start + size) × (a + n ≤ start + size)
among start size a n is = grind (arith, nat_tests)

pub among_is : (start size a n : ℕ) → start ≤ a → a < start + size → a + n ≤ start + size → is_among start size a n ≡ true
among_is start size a n low high end = grind (arith, nat_tests)

inside_step : (len : ℕ) (segments : List Segment) (a n o : ℕ) (found : Option Segment) → AreBounded len segments → find (in_file_part a n) segments ≡ found → option_map (λ s. s.offset + (a - s.vaddr)) found ≡ Some o → o + n ≤ len
inside_step len segments a n o None bounded is at = cc
inside_step len segments a n o (Some s) bounded is at =
    let holds = find-holds (IsBounded len) (in_file_part a n) segments s bounded is in
    let part = among s.vaddr s.filesz a n (find-passes (in_file_part a n) segments s is) in
    let place : s.offset + (a - s.vaddr) ≡ o = cc in
    let end : s.offset + s.filesz ≤ len = holds.inside in
    omega arith

pub file_offset-inside : (len : ℕ) (segments : List Segment) (a n o : ℕ) → AreBounded len segments → file_offset segments a n ≡ Some o → o + n ≤ len
unfolding file_offset
file_offset-inside len segments a n o bounded at = inside_step len segments a n o (find (in_file_part a n) segments) bounded refl at

far_step : (len : ℕ) (segments : List Segment) (a n : ℕ) (found : Option Segment) → AreBounded len segments → 2 ^ 32 ≤ a → find (in_file_part a n) segments ≡ found → option_map (λ s. s.offset + (a - s.vaddr)) found ≡ None
far_step len segments a n None bounded far is = refl
far_step len segments a n (Some s) bounded far is =
    let holds = find-holds (IsBounded len) (in_file_part a n) segments s bounded is in
    let part = among s.vaddr s.filesz a n (find-passes (in_file_part a n) segments s is) in
    let end : s.vaddr + s.memsz ≤ 2 ^ 31 = holds.below in
    let short : s.filesz ≤ s.memsz = holds.part in
    absurd (omega arith)

-- an address past every segment is nowhere
pub file_offset-far : (len : ℕ) (segments : List Segment) (a n : ℕ) → AreBounded len segments → 2 ^ 32 ≤ a → file_offset segments a n ≡ None
unfolding file_offset
file_offset-far len segments a n bounded far = far_step len segments a n (find (in_file_part a n) segments) bounded far refl
