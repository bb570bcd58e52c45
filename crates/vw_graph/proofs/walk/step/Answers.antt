use Rattle.std.proofs.Common.{sym}
use Rattle.vw_graph.proofs.Finds.{nothing_here, passes_here, jumps_here}
use Rattle.vw_graph.proofs.walk.step.Goals as goal

pub returns-in_default-clause-finds : goal.returns-in_default-clause-finds
returns-in_default-clause-finds c = λ f is code. nothing_here f c.args.table.now c.args.point c.args.slots.now.items c.in_default.ensures

pub look_at-requires-clause-fits : goal.look_at-requires-clause-fits
look_at-requires-clause-fits c = c.requires.fits c.args.point c.in-Some.state.now (sym c.in-Some.ensures)

pub returns-in-Passes-clause-finds : goal.returns-in-Passes-clause-finds
returns-in-Passes-clause-finds c = λ f is code. passes_here f c.args.table.now c.args.point c.args.slots.now.items c.in-Some.state.now c.in-Some.ensures c.in_ok-look_at.field-0 c.in-Passes.is (c.in_ok-look_at.ensures f is code)

pub returns-in_ok-put-in-Jumps-clause-finds : goal.returns-in_ok-put-in-Jumps-clause-finds
returns-in_ok-put-in-Jumps-clause-finds c = λ f is code.
    jumps_here f c.args.table.now c.args.point c.args.slots.now.items c.in-Some.state.now c.in-Some.ensures c.in_ok-look_at.field-0 c.in-Jumps.jumps c.in-Jumps.is (c.in_ok-look_at.ensures f is code) _ c.put.new.slots.items c.in_ok-put-in-Jumps.ensures
