use Rattle.std.proofs.Common.{◌≡◌, take, None}
use Rattle.std.specs.List.{find}
use Rattle.vw_bits.specs.Places.{in_file_part}
use Rattle.vw_bits.proofs.places.file_offset.Given as goal

abbrev pub invariant-loop-segment : goal.invariant-loop-segment
invariant-loop-segment l = find (in_file_part l.address l.size) (take l.segment-index l.segments) ≡ None
