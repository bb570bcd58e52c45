use Rattle.std.proofs.Common.{◌==◌, take, filter}
use Rattle.vw_rows.specs.declared.forms.Row.{Row}
use Rattle.vw_rows.specs.Rows.{rows}
use Rattle.vw_encode.specs.search.Kinds.{kind_number, insn_number}
use Rattle.vw_encode.proofs.Rows.{Passed}
use Rattle.vw_encode.proofs.search.first_spelling.Given as goal

abbrev pub invariant-loop-number : goal.invariant-loop-number
invariant-loop-number l = Passed (take l.number-index (filter (λ (r : Row). kind_number r.kind == insn_number l.insn) rows)) l.insn
