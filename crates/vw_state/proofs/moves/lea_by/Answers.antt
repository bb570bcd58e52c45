use Rattle.std.proofs.Common.{◌≡◌, ap, ◌∙◌, w32, to_z, of_z}
use Rattle.std.proofs.lemmas.Int.{to_z-of_z}
use Rattle.std.specs.Prelude.{ℤ}
use Rattle.vw_values.specs.declared.value.Value.{Value}
use Rattle.vw_domain.specs.Statements.{plus_disp}
use Rattle.vw_state.specs.Context.{equation_site}
use Rattle.vw_state.proofs.moves.lea_by.Goals as goal

pub returns-in-Some : goal.returns-in-Some
returns-in-Some c =
    let read : to_z w32 (of_z w32 c.args.disp) ≡ c.args.disp = to_z-of_z w32 c.args.disp c.ranges.disp in
    rw (c.in-None.is, c.in-Some.is)
    (c.plus_disp.ensures c.args.next
    ∙ ap (λ (z : ℤ). plus_disp (equation_site c.args.site.now c.args.next) c.scaled.result z) read
    ∙ ap (λ (v : Value). plus_disp (equation_site c.args.site.now c.args.next) v c.args.disp) c.scaled.ensures)

pub returns-in-Some-index : goal.returns-in-Some-index
returns-in-Some-index c =
    let read : to_z w32 (of_z w32 c.args.disp) ≡ c.args.disp = to_z-of_z w32 c.args.disp c.ranges.disp in
    rw (c.in-Reg.is, c.in-Some-index.is)
    (c.plus_disp-in-Some-index.ensures c.args.next
    ∙ ap (λ (z : ℤ). plus_disp (equation_site c.args.site.now c.args.next) c.base_and_index.result z) read
    ∙ ap (λ (v : Value). plus_disp (equation_site c.args.site.now c.args.next) v c.args.disp) c.base_and_index.ensures)
