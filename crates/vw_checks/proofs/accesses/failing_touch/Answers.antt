use Rattle.vw_checks.proofs.accesses.failing_touch.Goals as goal

pub returns-then-write : goal.returns-then-write
returns-then-write c = λ f next is. rw c.if-write.true c.failing_write.ensures

pub returns-else-write : goal.returns-else-write
returns-else-write c = λ f next is. rw c.if-write.false (c.failing_read.ensures f next is)
