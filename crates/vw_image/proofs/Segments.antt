-- What the rules on headers give of the segments, and where a byte is.
use Rattle.std.proofs.Common.{◌≡◌, ℕ, ◌+◌, ◌<◌, ◌≤◌, ◌++◌, ◌||◌, ◌∷◌, Bool, true, false, cond, nat_le, List, Option, Some, None, option_map, refl, sym, ◌∙◌, arith}
use Rattle.std.specs.List.{find, list_any}
use Rattle.std.proofs.lemmas.Bool.{false≢true}
use Rattle.std.proofs.lemmas.Bool.Decides.{nat_tests}
use Rattle.std.proofs.lemmas.List.Folds.{list_any-append}
use Rattle.vw_bits.specs.Headers.{segments_of}
use Rattle.vw_bits.specs.Places.{in_memory}
use Rattle.vw_bits.specs.HeaderRules.{header_fault, header_rules, segment_rules, share_page, segments_clash, first_clash, header_of, has_no_segment}
use Rattle.vw_bits.specs.declared.records.Segment.{Segment}
use Rattle.vw_bits.proofs.RuleLemmas.{lowest-each}
use Rattle.vw_bits.proofs.BoundLemmas.{unfound, all_rules, among, among_is}
use Rattle.vw_image.specs.Bounds.{AreApart, AllApart}
use Rattle.vw_image.specs.Image.{segment_byte, memory_byte}
use Rattle.vw_bits.specs.Fields.{load}
use Rattle.vw_image.proofs.Numbers.{load-same}
use Rattle.vw_bits.proofs.ListLemmas.{not_true, or_left, or_right}
use Rattle.vw_image.proofs.Lists.{find-unique, Pairwise-from_earlier}

-- segments that touch different pages have no byte in common
apart : (s t : Segment) → segments_clash s t ≡ false → AreApart s t
apart s t none a inside =
    not_true (in_memory a 1 t) (λ there.
    let p = among s.vaddr s.memsz a 1 inside in
    let q = among t.vaddr t.memsz a 1 there in
    let share = or_right (nat_le t.vaddr s.vaddr) (share_page s t) none in
    grind (arith, nat_tests, share))

abbrev clashes : List Segment × Segment → Bool
clashes p = list_any (λ earlier. segments_clash earlier p.1) p.0

tells : (front back : List Segment) (s t : Segment) → clashes (front ++ s ∷ back, t) ≡ false → AreApart s t
tells front back s t none =
    let split : (list_any (λ e. segments_clash e t) front || (segments_clash s t || list_any (λ e. segments_clash e t) back)) ≡ false = rw list_any-append at none in
    apart s t (or_left (segments_clash s t) (list_any (λ e. segments_clash e t) back) (or_right (list_any (λ e. segments_clash e t) front) (segments_clash s t || list_any (λ e. segments_clash e t) back) split))

unmapped : (found : Option (List Segment × Segment)) → option_map (λ p. p.1) found ≡ None → found ≡ None
unmapped None none = refl
unmapped (Some p) none = cc

some_segment : (none : Bool) (found : Option Segment) → cond none (Some 32) (header_of found) ≡ None → found ≡ None
some_segment true found rule = cc
some_segment false found rule = unfound found rule

pub AllApart-from_rules : (bytes : List ℕ) → header_fault bytes ≡ None → AllApart (segments_of bytes)
unfolding header_fault header_rules segment_rules first_clash
AllApart-from_rules bytes holds =
    let rule : cond (has_no_segment (segments_of bytes)) (Some 32) (header_of (first_clash (segments_of bytes))) ≡ None = lowest-each 1 (all_rules bytes) holds 10 in
    Pairwise-from_earlier clashes AreApart tells (segments_of bytes) (unmapped _ (some_segment _ _ rule))

-- a byte in the memory of a segment is that segment's
pub find-segment : (p : Segment → Bool) (segments : List Segment) (s : Segment) (b : ℕ) → AllApart segments → find p segments ≡ Some s → in_memory b 1 s ≡ true → find (in_memory b 1) segments ≡ Some s
find-segment p segments s b pairs found inside =
    find-unique AreApart p (in_memory b 1) segments s pairs
    (λ t other. not_true (in_memory b 1 t) (λ there. false≢true (sym (other b there) ∙ inside))) found inside

pub memory_byte-in : (bytes : List ℕ) (p : Segment → Bool) (segments : List Segment) (s : Segment) (b : ℕ) → AllApart segments → find p segments ≡ Some s → in_memory b 1 s ≡ true → memory_byte bytes segments b ≡ segment_byte bytes s b
unfolding memory_byte
memory_byte-in bytes p segments s b pairs found inside = rw (find-segment p segments s b pairs found inside) refl

-- one byte of a range
pub in_memory-one : (a n k : ℕ) (s : Segment) → k < n → in_memory a n s ≡ true → in_memory (a + k) 1 s ≡ true
in_memory-one a n k s inside held =
    let p = among s.vaddr s.memsz a n held in
    among_is s.vaddr s.memsz (a + k) 1 (omega arith) (omega arith) (omega arith)

pub in_memory-starts : (a n : ℕ) (s : Segment) → in_memory a n s ≡ true → s.vaddr ≤ a
in_memory-starts a n s held = (among s.vaddr s.memsz a n held).0

-- a range in the memory of a segment spells what the segment's bytes spell
pub load-in : (bytes : List ℕ) (p : Segment → Bool) (segments : List Segment) (s : Segment) (a n : ℕ) → AllApart segments → find p segments ≡ Some s → in_memory a n s ≡ true → load (segment_byte bytes s) a n ≡ load (memory_byte bytes segments) a n
load-in bytes p segments s a n apart found held =
    load-same (segment_byte bytes s) (memory_byte bytes segments) a a n
    (λ k inside. sym (memory_byte-in bytes p segments s (a + k) apart found (in_memory-one a n k s inside held)))
