use Rattle.std.proofs.Common.{◌≡◌, ℕ, ◌+◌, ◌<◌, ◌≤◌, length, slice_index}
use Rattle.vw_image.specs.Image.{segment_byte}
use Rattle.vw_image.proofs.places.number_in.Given as goal

abbrev pub invariant-loop-k : goal.invariant-loop-k
invariant-loop-k l = record {
  long : length l.word ≡ 8;
  same : (j : ℕ) → j < l.k → slice_index l.word j ≡ segment_byte l.bytes l.segment (l.address + j);
  rest : (j : ℕ) → l.k ≤ j → slice_index l.word j ≡ 0;
}
