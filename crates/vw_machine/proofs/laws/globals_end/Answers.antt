use Rattle.vw_machine.proofs.LawLemmas.{globals_read, globals_written}
use Rattle.vw_machine.proofs.laws.globals_end.Goals as goal

pub returns-clause-reads : goal.returns-clause-reads
returns-clause-reads c m w top way a n laid framed = globals_read m w top way laid framed a n

pub returns-clause-writes : goal.returns-clause-writes
returns-clause-writes c m w top way a n laid framed = globals_written m w top way laid framed a n
