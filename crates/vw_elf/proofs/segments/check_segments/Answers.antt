use Rattle.std.proofs.Common.{rules}
use Rattle.vw_bits.specs.HeaderRules.{segment_rules}
use Rattle.vw_bits.proofs.FaultLemmas.{names_here, names_next, holds_next}
use Rattle.vw_elf.proofs.segments.check_segments.Goals as goal

pub returns-in_err-refuse-clause-fault : goal.returns-in_err-refuse-clause-fault
unfolding segment_rules
returns-in_err-refuse-clause-fault c = search (rules, names_here, names_next) depth 20

pub returns-in_err-refuse-2-clause-fault : goal.returns-in_err-refuse-2-clause-fault
unfolding segment_rules
returns-in_err-refuse-2-clause-fault c = search (rules, names_here, names_next) depth 20

pub returns-clause-ok : goal.returns-clause-ok
unfolding segment_rules
returns-clause-ok c = search (rules, holds_next) depth 20

pub returns-clause-fault : goal.returns-clause-fault
unfolding segment_rules
returns-clause-fault c = search (rules, names_here, names_next) depth 20
