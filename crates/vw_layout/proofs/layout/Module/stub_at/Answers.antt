use Rattle.std.proofs.Common.{List, sym, subst, ◌∙◌}
use Rattle.vw_layout.specs.Spans.{Ascend}
use Rattle.vw_layout.specs.Layout.{function_symbols}
use Rattle.vw_layout.specs.declared.functions.Function.{Function}
use Rattle.vw_layout.proofs.ModuleLemmas.{functions_ascend}
use Rattle.vw_layout.proofs.layout.Module.stub_at.Goals as goal

pub module_stub-requires : goal.module_stub-requires
module_stub-requires c =
    let bytes = c.args.self.now.image.bytes in
    let P : List Function → Type 0 = λ fs. Ascend fs in
    subst P (sym (c.as_slice.ensures ∙ c.requires.functions)) (functions_ascend bytes (function_symbols bytes))
