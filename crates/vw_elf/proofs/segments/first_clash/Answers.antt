use Rattle.std.proofs.Common.{◌≡◌, ◌≤◌, Bool, List, length, None, refl, sym, ap, ◌∙◌}
use Rattle.std.specs.List.{find, list_any}
use Rattle.std.proofs.lemmas.List.{take_all}
use Rattle.vw_bits.specs.Rules.{with_earlier}
use Rattle.vw_bits.specs.HeaderRules.{segments_clash, first_clash}
use Rattle.vw_bits.specs.declared.records.Segment.{Segment}
use Rattle.vw_bits.proofs.Tables.{find_earlier_more, find_earlier_here}
use Rattle.vw_elf.proofs.segments.first_clash.Goals as goal

abbrev clashing : List Segment × Segment → Bool
clashing p = list_any (λ earlier. segments_clash earlier p.1) p.0

abbrev blank : Segment
blank = record { offset = 0; vaddr = 0; filesz = 0; memsz = 0; rights = record { 0 = 0 }; header_at = 0 }

pub returns-then-clashes : goal.returns-then-clashes
unfolding first_clash
returns-then-clashes c =
    let xs = c.args.segments.now in
    let found = find_earlier_here clashing xs c.loop-index.index blank c.loop-index-test.true c.loop-index.invariant (sym c.clashes.ensures ∙ c.if-clashes.true) in
    rw (← c.is_empty.ensures, c.if-is_empty.false, found) refl

pub loop-index-preserved : goal.loop-index-preserved
loop-index-preserved c =
    find_earlier_more clashing c.args.segments.now c.loop-index.index blank c.loop-index-test.true c.loop-index.invariant (sym c.clashes.ensures ∙ c.if-clashes.false)

pub returns : goal.returns
unfolding first_clash
returns c =
    let xs = c.args.segments.now in
    let past : length xs ≤ c.loop-index.index = c.loop-index-test.false in
    let none : find clashing (with_earlier xs) ≡ None = ap (λ (ys : List Segment). find clashing (with_earlier ys)) (sym (take_all c.loop-index.index xs past)) ∙ c.loop-index.invariant in
    rw (← c.is_empty.ensures, c.if-is_empty.false, none) refl
