use Rattle.std.proofs.Common.{◌≡◌, ◌++◌}
use Rattle.vw_make.specs.Bytes.{counted}
use Rattle.vw_make.specs.Text.{stub_text}
use Rattle.vw_make.proofs.text.put_stubs.Given as goal

abbrev pub invariant-loop-number : goal.invariant-loop-number
invariant-loop-number l = l.out.items ≡ l.initial.out.items ++ counted (stub_text l.plan.layout) l.number
