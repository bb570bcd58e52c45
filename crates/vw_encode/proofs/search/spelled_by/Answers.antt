use Rattle.std.proofs.Common.{◌≡◌, true, sym, ◌∙◌, rules}
use Rattle.vw_rows.specs.Views.{parts_view}
use Rattle.vw_rows.specs.Meaning.{insn_of}
use Rattle.vw_encode.specs.search.Normal.{is_laid}
use Rattle.vw_encode.proofs.Laid.{laid_of, has_room}
use Rattle.vw_encode.proofs.search.spelled_by.Goals as goal

pub returns-in_err-spelled : goal.returns-in_err-spelled
returns-in_err-spelled c = rw c.from_residual.ensures (λ laid meant. has_room c.args.row c.args.w (parts_view c.args.parts.now) laid c.in_err-spelled.ensures)

pub returns : goal.returns
returns c =
    let p = parts_view c.args.parts.now in
    let test : is_laid c.args.row c.args.w p ≡ true = sym c.is_laid.ensures ∙ c.if-not-is_laid.false in
    let meant : insn_of c.args.row c.args.w p ≡ c.args.insn.now = search rules in
    record { laid = laid_of c.args.row c.args.w p c.requires.listed c.requires.rex c.requires.width test; meant = meant; holds = c.in_ok-spelled.ensures }
