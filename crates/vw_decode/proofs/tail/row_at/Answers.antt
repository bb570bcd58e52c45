use Rattle.std.proofs.Common.{ℕ, ◌∙◌, ◌==◌, ap, Option, find}
use Rattle.vw_rows.specs.declared.forms.Row.{Row}
use Rattle.vw_rows.specs.Rows.{rows}
use Rattle.vw_rows.specs.Lookup.{key, matches}
use Rattle.vw_rows.specs.Parts.{mode, reg}
use Rattle.vw_rows.proofs.Uniqueness.{find_answer}
use Rattle.vw_decode.proofs.tail.row_at.Goals as goal

pub returns : goal.returns
returns c = λ bytes is.
    let search_with : ℕ → Option Row = λ n. find (λ r. matches r (key c.args.prefix c.args.map c.args.opcode (reg n) (mode n == 3))) rows in
    find_answer (key c.args.prefix c.args.map c.args.opcode (reg c.byte_or_zero-byte.result) (mode c.byte_or_zero-byte.result == 3)) c.row_of.result c.row_of.ensures.found c.row_of.ensures.only ∙ ap search_with (c.byte_or_zero-byte.ensures bytes is)
