use Rattle.std.proofs.Common.{◌∙◌}
use Rattle.vw_state.proofs.TableTargets.{same_target}
use Rattle.vw_state.proofs.jumps.entry_target.Goals as goal

pub returns : goal.returns
returns c = λ f is. c.target.ensures ∙ same_target f c.args.site.now c.args.table c.args.i is
