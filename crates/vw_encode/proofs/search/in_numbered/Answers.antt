use Rattle.vw_encode.proofs.Rows.{answered_none, answered_by}
use Rattle.vw_encode.proofs.search.in_numbered.Goals as goal

pub returns-in-None : goal.returns-in-None
returns-in-None c = answered_none c.args.number c.args.insn.now c.in-None.ensures.only

pub returns-in-Some : goal.returns-in-Some
returns-in-Some c = answered_by c.args.number c.args.insn.now c.in-Some.row c.in_row.result c.in-Some.ensures.only c.in_row.ensures
