use Rattle.std.proofs.Common.{sym, ◌∙◌, refl}
use Rattle.vw_bits.specs.Places.{in_file_part, file_offset}
use Rattle.vw_bits.specs.declared.records.Segment.{Segment}
use Rattle.vw_bits.proofs.ListLemmas.{find_more, find_here, find_past}
use Rattle.vw_bits.proofs.places.file_offset.Goals as goal

abbrev blank : Segment
blank = record { offset = 0; vaddr = 0; filesz = 0; memsz = 0; rights = record { 0 = 0 }; header_at = 0 }

pub returns-then-is_among : goal.returns-then-is_among
unfolding file_offset
returns-then-is_among c =
    let found = find_here (in_file_part c.args.address c.args.size) c.args.segments.now c.loop-segment.segment-index blank c.loop-segment-test.true c.loop-segment.invariant (sym c.is_among.ensures ∙ c.if-is_among.true) in
    rw found refl

pub loop-segment-preserved : goal.loop-segment-preserved
loop-segment-preserved c =
    find_more (in_file_part c.args.address c.args.size) c.args.segments.now c.loop-segment.segment-index blank c.loop-segment-test.true c.loop-segment.invariant (sym c.is_among.ensures ∙ c.if-is_among.false)

pub returns : goal.returns
unfolding file_offset
returns c = rw (find_past _ _ _ c.loop-segment-test.false c.loop-segment.invariant) refl
