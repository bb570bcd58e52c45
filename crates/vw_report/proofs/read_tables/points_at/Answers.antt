use Rattle.std.proofs.Common.{refl, arith, subst, ◌+◌, sym}
use Rattle.vw_report.proofs.PointLoop.{Keeps, keeps_first, keeps_more, done_bad, done_empty, stop_bad, stop_low}
use Rattle.vw_report.proofs.read_tables.points_at.Goals as goal

pub returns-then-begins_point-clause-stopped : goal.returns-then-begins_point-clause-stopped
returns-then-begins_point-clause-stopped c =
    (c.loop-i.rest.now, refl, stop_bad c.args.bytes.now c.loop-i.points c.loop-i.rest.now c.loop-i.low c.loop-i.i c.loop-i.invariant (rw c.in-Err-Bad.field-0-is at c.in-Err-Bad.ensures.fails) (c.begins_point.ensures.0 c.if-begins_point.true))

pub returns-in-Err-Bad-clause-done : goal.returns-in-Err-Bad-clause-done
returns-in-Err-Bad-clause-done c = done_bad c.args.bytes.now c.loop-i.points c.loop-i.rest.now c.loop-i.low c.loop-i.i c.loop-i.invariant (rw c.in-Err-Bad.field-0-is at c.in-Err-Bad.ensures.fails)

pub returns-then-at-low-clause-stopped : goal.returns-then-at-low-clause-stopped
returns-then-at-low-clause-stopped c =
    (c.loop-i.rest.now, refl, stop_low c.args.bytes.now c.loop-i.points c.loop-i.rest.now c.loop-i.low c.loop-i.i c.in-Ok.point c.in-Ok.tail.now c.loop-i.invariant c.in-Ok.ensures.found (omega arith))

pub loop-i-preserved : goal.loop-i-preserved
loop-i-preserved c =
    subst (λ ps. Keeps c.args.bytes.now ps c.in-Ok.tail.now (c.in-Ok.point.at + 1) (c.loop-i.i + 1)) (sym c.in-Ok-push.ensures.ok)
    (keeps_more c.args.bytes.now c.loop-i.points c.loop-i.rest.now c.loop-i.low c.loop-i.i c.in-Ok.point c.in-Ok.tail.now c.loop-i.invariant c.in-Ok.ensures.found (omega arith))

pub returns-clause-done : goal.returns-clause-done
returns-clause-done c = done_empty c.args.bytes.now c.loop-i.points c.loop-i.rest.now c.loop-i.low c.loop-i.i c.loop-i.invariant (omega arith)

pub loop-i-init : goal.loop-i-init
loop-i-init c = subst (λ ps. Keeps c.args.bytes.now ps c.args.bytes.now 0 0) (sym c.new-points.ensures) (keeps_first c.args.bytes.now)
