use Rattle.std.proofs.Common.{◌≤◌, List, length, sym, subst, ◌∙◌}
use Rattle.vw_layout.specs.Spans.{Ascend}
use Rattle.vw_layout.specs.Layout.{function_symbols}
use Rattle.vw_layout.specs.declared.functions.Function.{Function}
use Rattle.vw_layout.proofs.ModuleLemmas.{functions_ascend}
use Rattle.vw_layout.proofs.ApartLemmas.{few_functions}
use Rattle.vw_layout.proofs.layout.Module.function_at.Goals as goal

pub number_at-requires-clause-ascend : goal.number_at-requires-clause-ascend
number_at-requires-clause-ascend c =
    let bytes = c.args.self.now.image.bytes in
    let P : List Function → Type 0 = λ fs. Ascend fs in
    subst P (sym (c.as_slice.ensures ∙ c.requires.functions)) (functions_ascend bytes (function_symbols bytes))

pub number_at-requires-clause-few : goal.number_at-requires-clause-few
number_at-requires-clause-few c =
    let P : List Function → Type 0 = λ fs. length fs ≤ 65536 in
    subst P (sym (c.as_slice.ensures ∙ c.requires.functions)) (few_functions c.args.self.now.image.bytes c.requires.rules)
