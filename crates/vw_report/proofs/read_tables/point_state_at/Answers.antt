use Rattle.vw_report.specs.Grammar.{point_of}
use Rattle.vw_report.proofs.PointLoop.{bad_parts, fails_at}
use Rattle.vw_report.proofs.read_tables.point_state_at.Goals as goal

pub returns-in-Err-NotAState-clause-fails : goal.returns-in-Err-NotAState-clause-fails
returns-in-Err-NotAState-clause-fails c =
    bad_parts c.args.bytes.now (point_of c.in-Ok.read.0) c.in-Ok.read.1.now c.in-Ok.ensures (rw c.in-Err-NotAState.field-0-is at c.in-Err-NotAState.ensures)

pub returns-in-Err-clause-fails : goal.returns-in-Err-clause-fails
returns-in-Err-clause-fails c = fails_at c.args.bytes.now c.in-Err.fail c.in-Err.ensures
