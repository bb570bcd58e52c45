use Rattle.std.proofs.Common.{◌≡◌, ◌+◌, ◌-◌}
use Rattle.vw_machine.specs.Module.{view_of}
use Rattle.vw_machine.specs.Step.{is_in_image}
use Rattle.vw_machine.proofs.image.is_in_image.Given as goal

abbrev pub invariant-loop-k : goal.invariant-loop-k
invariant-loop-k l = is_in_image (view_of l.«module») l.world l.at l.size ≡ is_in_image (view_of l.«module») l.world (l.at + l.k) (l.size - l.k)
