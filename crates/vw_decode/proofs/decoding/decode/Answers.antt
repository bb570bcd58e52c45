use Rattle.std.proofs.Common.{sym, ◌∙◌, arith}
use Rattle.vw_rows.proofs.SpelledListed.{spelled_listed}
use Rattle.vw_decode.specs.Views.{found_view}
use Rattle.vw_decode.proofs.Whole.{rest_within, read_spells, none_spelled, one_answer, same_answer, read_length}
use Rattle.vw_decode.proofs.decoding.decode.Goals as goal

pub returns-in_err-found-clause-only : goal.returns-in_err-found-clause-only
returns-in_err-found-clause-only c = λ n insn le s. absurd (none_spelled c.args.bytes.now n insn (sym c.in_err-found.ensures) s)

pub overflow_sub-result : goal.overflow_sub-result
overflow_sub-result c = rest_within c.args.bytes.now (found_view c.in_ok-found.found) (sym c.in_ok-found.ensures)

pub returns-clause-found : goal.returns-clause-found
returns-clause-found c = read_spells c.args.bytes.now (found_view c.in_ok-found.found) c.insn_of-insn.result (λ i. omega (arith, c.type_inv.bytes i)) (sym c.in_ok-found.ensures) c.insn_of-insn.ensures

pub returns-clause-only : goal.returns-clause-only
returns-clause-only c = λ n insn le s.
    let one = one_answer c.args.bytes.now (found_view c.in_ok-found.found) n insn (sym c.in_ok-found.ensures) le s in
    same_answer c.insn_of-insn.result insn _ n (c.insn_of-insn.ensures ∙ one.0) one.1

pub returns-clause-size : goal.returns-clause-size
returns-clause-size c = read_length c.args.bytes.now (found_view c.in_ok-found.found) (sym c.in_ok-found.ensures)

pub returns-clause-listed : goal.returns-clause-listed
returns-clause-listed c = spelled_listed _ _ (read_spells c.args.bytes.now (found_view c.in_ok-found.found) c.insn_of-insn.result (λ i. omega (arith, c.type_inv.bytes i)) (sym c.in_ok-found.ensures) c.insn_of-insn.ensures)
