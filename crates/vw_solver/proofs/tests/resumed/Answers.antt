use Rattle.vw_lattice.specs.Flat.{flat_below}
use Rattle.vw_solver.specs.Chains.{chain_rises}
use Rattle.vw_solver.proofs.tests.resumed.Goals as goal

pub solve-requires-clause-rise : goal.solve-requires-clause-rise
solve-requires-clause-rise g c = chain_rises c.args.chain.now.upward flat_below _ (λ x. tt)

pub resume-requires-clause-rise : goal.resume-requires-clause-rise
resume-requires-clause-rise g c = chain_rises c.args.chain.now.upward flat_below _ (λ x. tt)
