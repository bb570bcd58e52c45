use Rattle.std.proofs.Common.{refl, arith, subst, ◌+◌, sym}
use Rattle.vw_report.proofs.FunctionLoop.{Keeps, keeps_first, keeps_more, done_none, done_empty, stop_low, stopped_points}
use Rattle.vw_report.proofs.read_tables.functions_at.Goals as goal

pub loop-i-init : goal.loop-i-init
loop-i-init c = subst (λ fs. Keeps c.args.bytes.now fs c.args.bytes.now 0 0) (sym c.new-functions.ensures) (keeps_first c.args.bytes.now)

pub returns-in-None-clause-done : goal.returns-in-None-clause-done
returns-in-None-clause-done c = done_none c.args.bytes.now c.loop-i.functions c.loop-i.rest.now c.loop-i.low c.loop-i.i c.loop-i.invariant c.in-None.ensures

pub returns-then-entry-low-clause-stopped : goal.returns-then-entry-low-clause-stopped
returns-then-entry-low-clause-stopped c =
    (c.loop-i.rest.now, refl, stop_low c.args.bytes.now c.loop-i.functions c.loop-i.rest.now c.loop-i.low c.loop-i.i c.in-Some.entry c.in-Some.tail.now c.loop-i.invariant c.in-Some.ensures (omega arith))

pub returns-in-Err-clause-stopped : goal.returns-in-Err-clause-stopped
returns-in-Err-clause-stopped c =
    stopped_points c.args.bytes.now c.loop-i.functions c.loop-i.rest.now c.loop-i.low c.loop-i.i c.in-Some.entry c.in-Some.tail.now c.in-Err.stop c.loop-i.invariant c.in-Some.ensures (omega arith) c.in-Err.ensures.stopped

pub loop-i-preserved : goal.loop-i-preserved
loop-i-preserved c =
    subst (λ fs. Keeps c.args.bytes.now fs c.in-Ok.tail.now (c.in-Some.entry + 1) (c.loop-i.i + 1)) (sym c.in-Ok-push.ensures.ok)
    (keeps_more c.args.bytes.now c.loop-i.functions c.loop-i.rest.now c.loop-i.low c.loop-i.i c.in-Some.entry c.in-Some.tail.now c.in-Ok.states c.in-Ok.tail.now c.loop-i.invariant c.in-Some.ensures (omega arith) c.in-Ok.ensures.done)

pub returns-clause-done : goal.returns-clause-done
returns-clause-done c = done_empty c.args.bytes.now c.loop-i.functions c.loop-i.rest.now c.loop-i.low c.loop-i.i c.loop-i.invariant (omega arith)
