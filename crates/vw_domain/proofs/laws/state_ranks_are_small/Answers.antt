use Rattle.vw_domain.proofs.RankLemmas.{ranks_bounded, ranks_small}
use Rattle.vw_domain.proofs.laws.state_ranks_are_small.Goals as goal

pub returns-clause-bounded : goal.returns-clause-bounded
returns-clause-bounded c = ranks_bounded c.ranks_are_small.ensures

pub returns-clause-small : goal.returns-clause-small
returns-clause-small c = ranks_small c.ranks_are_small.ensures
