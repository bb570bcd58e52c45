use Rattle.std.proofs.Common.{rules}
use Rattle.vw_values.proofs.JoinLemmas.{answers-apart, answers-none, answers-raised}
use Rattle.vw_values.proofs.order.join_of.Goals as goal

pub returns-in-None : goal.returns-in-None
returns-in-None c = answers-none c.args.bounds.now c.args.a c.args.b c.shape_of-s.result c.shape_of-t.result c.shape_of-s.ensures c.shape_of-t.ensures c.max.result (c.are_apart.ensures.same c.if-are_apart.false) c.max.ensures c.in-None.ensures.up

pub returns-in-Some : goal.returns-in-Some
returns-in-Some c = answers-raised c.args.bounds.now c.args.a c.args.b c.shape_of-s.result c.shape_of-t.result c.shape_of-s.ensures c.shape_of-t.ensures c.max.result c.max-in-Some.result c.in-Some.low c.shared_mark-mark.result c.value_of.result (c.are_apart.ensures.same c.if-are_apart.false) c.max.ensures c.in-Some.ensures.up c.max-in-Some.ensures c.shared_mark-mark.ensures c.value_of.ensures

pub returns-then-are_apart : goal.returns-then-are_apart
returns-then-are_apart c = answers-apart c.args.bounds.now c.args.a c.args.b c.shape_of-s.result c.shape_of-t.result c.shape_of-s.ensures c.shape_of-t.ensures (c.are_apart.ensures.apart (search (rules, c.if-are_apart.true)))
