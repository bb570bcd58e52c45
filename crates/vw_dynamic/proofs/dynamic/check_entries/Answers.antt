use Rattle.std.proofs.Common.{rules}
use Rattle.vw_dynamic.specs.Dynamic.{entry_rules}
use Rattle.vw_bits.proofs.FaultLemmas.{names_here, names_next, holds_next}
use Rattle.vw_dynamic.proofs.dynamic.check_entries.Goals as goal

pub returns-in_err-refuse-clause-fault : goal.returns-in_err-refuse-clause-fault
unfolding entry_rules
returns-in_err-refuse-clause-fault c = search (rules, names_here, names_next) depth 20

pub returns-in_err-refuse-2-clause-fault : goal.returns-in_err-refuse-2-clause-fault
unfolding entry_rules
returns-in_err-refuse-2-clause-fault c = search (rules, names_here, names_next) depth 20

pub returns-in_err-refuse-3-clause-fault : goal.returns-in_err-refuse-3-clause-fault
unfolding entry_rules
returns-in_err-refuse-3-clause-fault c = search (rules, names_here, names_next) depth 20

pub returns-in_err-refuse-4-clause-fault : goal.returns-in_err-refuse-4-clause-fault
unfolding entry_rules
returns-in_err-refuse-4-clause-fault c = search (rules, names_here, names_next) depth 20

pub returns-in_err-refuse-5-clause-fault : goal.returns-in_err-refuse-5-clause-fault
unfolding entry_rules
returns-in_err-refuse-5-clause-fault c = search (rules, names_here, names_next) depth 20

pub returns-clause-rules : goal.returns-clause-rules
unfolding entry_rules
returns-clause-rules c = search (rules, holds_next) depth 20
