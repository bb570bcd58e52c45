use Rattle.std.proofs.Common.{◌≡◌, ◌+◌, drop}
use Rattle.vw_image.specs.Image.{segment_byte}
use Rattle.vw_image.specs.Stubs.{spells}
use Rattle.vw_image.proofs.stub.spells.Given as goal

abbrev pub invariant-loop-byte : goal.invariant-loop-byte
invariant-loop-byte l = record {
  place : l.at ≡ l.address + l.byte-index;
  rest : spells (segment_byte l.bytes l.segment) l.at (drop l.byte-index l.expected) ≡ spells (segment_byte l.bytes l.segment) l.address l.expected;
}
