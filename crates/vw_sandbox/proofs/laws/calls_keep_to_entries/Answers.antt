use Rattle.std.proofs.Common.{Some, sym, ap, ◌∙◌}
use Rattle.std.proofs.lemmas.Bool.{false≢true}
use Rattle.vw_sandbox.proofs.laws.calls_keep_to_entries.Goals as goal

pub returns : goal.returns
returns c m w map top rip to elsewhere keeps =
    let typed = keeps.typed in
    let given = typed.given ∙ ap (λ tag. Some (typed.number, tag)) (sym typed.tagged) in
    false≢true (sym (elsewhere keeps.function keeps.point typed.number typed.table typed.entry keeps.of_top keeps.at given typed.declared typed.of_table) ∙ typed.pointer)
