use Rattle.std.proofs.Common.{◌≡◌, ℕ, ◌+◌, ◌<◌, ◌≤◌, length, slice_index}
use Rattle.vw_machine.specs.Kept.{byte_in}
use Rattle.vw_machine.proofs.memory.number_in.Given as goal

abbrev pub invariant-loop-k : goal.invariant-loop-k
invariant-loop-k l = record {
  long : length l.word ≡ 8;
  same : (j : ℕ) → j < l.k → slice_index l.word j ≡ byte_in l.bytes (l.at + j);
  rest : (j : ℕ) → l.k ≤ j → slice_index l.word j ≡ 0;
}
