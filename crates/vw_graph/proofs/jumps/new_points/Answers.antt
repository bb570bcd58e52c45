use Rattle.std.proofs.Common.{◌≡◌, ◌∙◌, ℕ, ◌+◌, subst, arith}
use Rattle.vw_graph.specs.search.Jumps.{AreNew}
use Rattle.vw_graph.proofs.jumps.new_points.Goals as goal

pub loop-point-preserved : goal.loop-point-preserved
loop-point-preserved c = record {
  size = c.look_further.ensures.size ∙ c.loop-point.invariant.size;
  used = c.look_further.ensures.used;
  new = λ f is. c.in_ok-look_further.ensures.new f is (c.loop-point.invariant.new f is);
}

pub returns : goal.returns
returns c = λ f is.
    let done : c.loop-point.point ≡ c.args.site.now.size + 1 = omega (arith, c.loop-point-test.false, c.loop-point.auto.point-end) in
    subst (λ (n : ℕ). AreNew f c.args.before.now c.args.now.now n c.loop-point.points.keys) done (c.loop-point.invariant.new f is)
