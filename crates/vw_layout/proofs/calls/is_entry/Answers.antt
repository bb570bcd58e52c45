use Rattle.std.proofs.Common.{ap, ◌∙◌, is_some, ◌==◌}
use Rattle.vw_layout.proofs.SearchLemmas.{position_some}
use Rattle.vw_layout.proofs.calls.is_entry.Goals as goal

pub returns : goal.returns
returns c = c.is_some.ensures ∙ ap is_some c.position_of.ensures ∙ position_some (λ f. f.entry == c.args.address) c.args.functions.now
