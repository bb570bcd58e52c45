use Rattle.std.proofs.Common.{rules}
use Rattle.vw_bits.specs.HeaderRules.{header_rules}
use Rattle.vw_bits.proofs.FaultLemmas.{names_here, names_next, holds_next}
use Rattle.vw_elf.proofs.header.check_header.Goals as goal

pub returns-in_err-refuse-clause-fault : goal.returns-in_err-refuse-clause-fault
unfolding header_rules
returns-in_err-refuse-clause-fault c = search (rules, names_here, names_next) depth 30

pub returns-in_err-refuse-2-clause-fault : goal.returns-in_err-refuse-2-clause-fault
unfolding header_rules
returns-in_err-refuse-2-clause-fault c = search (rules, names_here, names_next) depth 30

pub returns-in_err-refuse-3-clause-fault : goal.returns-in_err-refuse-3-clause-fault
unfolding header_rules
returns-in_err-refuse-3-clause-fault c = search (rules, names_here, names_next) depth 30

pub returns-in_err-refuse-4-clause-fault : goal.returns-in_err-refuse-4-clause-fault
unfolding header_rules
returns-in_err-refuse-4-clause-fault c = search (rules, names_here, names_next) depth 30

pub returns-in_err-refuse-5-clause-fault : goal.returns-in_err-refuse-5-clause-fault
unfolding header_rules
returns-in_err-refuse-5-clause-fault c = search (rules, names_here, names_next) depth 30

pub returns-in_err-refuse-6-clause-fault : goal.returns-in_err-refuse-6-clause-fault
unfolding header_rules
returns-in_err-refuse-6-clause-fault c = search (rules, names_here, names_next) depth 30

pub returns-in_err-refuse-7-clause-fault : goal.returns-in_err-refuse-7-clause-fault
unfolding header_rules
returns-in_err-refuse-7-clause-fault c = search (rules, names_here, names_next) depth 30

pub returns-in_err-refuse-8-clause-fault : goal.returns-in_err-refuse-8-clause-fault
unfolding header_rules
returns-in_err-refuse-8-clause-fault c = search (rules, names_here, names_next) depth 30

pub returns-clause-ok : goal.returns-clause-ok
unfolding header_rules
returns-clause-ok c = search (rules, holds_next) depth 30

pub returns-in_err-refuse-9-clause-fault : goal.returns-in_err-refuse-9-clause-fault
unfolding header_rules
returns-in_err-refuse-9-clause-fault c = search (rules, names_here, names_next) depth 30
