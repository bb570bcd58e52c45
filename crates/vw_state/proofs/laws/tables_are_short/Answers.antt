use Rattle.vw_state.proofs.SiteRanges.{lengths_small}
use Rattle.vw_state.proofs.laws.tables_are_short.Goals as goal

pub returns : goal.returns
returns c = lengths_small c.tables_are_few.ensures.entries
