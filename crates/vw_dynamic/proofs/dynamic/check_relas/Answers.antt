use Rattle.std.proofs.Common.{rules}
use Rattle.vw_bits.proofs.FaultLemmas.{names_here, names_next}
use Rattle.vw_dynamic.proofs.dynamic.check_relas.Goals as goal

pub returns-in_err-refuse-clause-fault : goal.returns-in_err-refuse-clause-fault
returns-in_err-refuse-clause-fault c = search (rules, names_here, names_next) depth 20

pub returns-in_err-refuse-2-clause-fault : goal.returns-in_err-refuse-2-clause-fault
returns-in_err-refuse-2-clause-fault c = search (rules, names_here, names_next) depth 20
