use Rattle.std.proofs.Common.{◌≡◌, ℕ, ◌+◌, ◌-◌, ◌<◌, ◌≤◌, length, slice_index}
use Rattle.vw_machine.specs.Module.{view_of}
use Rattle.vw_machine.proofs.image.number_at.Given as goal

abbrev pub invariant-loop-k : goal.invariant-loop-k
invariant-loop-k l = record {
  long : length l.word ≡ 8;
  same : (j : ℕ) → j < l.k → slice_index l.word j ≡ (view_of l.«module»).byte l.world (l.at + j - l.world.load);
  rest : (j : ℕ) → l.k ≤ j → slice_index l.word j ≡ 0;
}
