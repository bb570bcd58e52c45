use Rattle.std.proofs.Common.{◌≡◌, ◌+◌, ◌<◌, ℕ, subst, arith}
use Rattle.vw_solver.proofs.Search.{state_within}
use Rattle.vw_graph.specs.search.Jumps.{AreSlots}
use Rattle.vw_graph.proofs.walk.walk_over.Goals as goal

pub returns-clause-finds : goal.returns-clause-finds
returns-clause-finds c = λ f is code.
    let done : c.loop-point.point ≡ c.args.site.now.size + 1 = omega (arith, c.loop-point-test.false, c.loop-point.auto.point-end) in (
      λ at state there.
          let inside : at < c.loop-point.point = omega (arith, done, c.requires.size, state_within c.args.table.now at state there) in
          c.loop-point.invariant.passes f is code at state inside there,
      subst (λ (n : ℕ). AreSlots f c.args.table.now c.loop-point.slots.items n) done (c.loop-point.invariant.slots f is code),
    )
