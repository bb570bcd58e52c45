use Rattle.vw_domain.proofs.TagSets.{set_bit}
use Rattle.vw_domain.proofs.edge_tags.with_table.Goals as goal

pub returns : goal.returns
returns c = λ t. set_bit c.args.tables c.args.table t c.requires
