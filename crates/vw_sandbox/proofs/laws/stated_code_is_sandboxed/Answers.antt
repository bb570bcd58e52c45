use Rattle.vw_sandbox.specs.Gathered.{ModuleLaws}
use Rattle.vw_sandbox.proofs.Rules.{set_up}
use Rattle.vw_sandbox.proofs.Kept.{sandboxed_by}
use Rattle.vw_sandbox.proofs.Stating.{StatementLaws, module_bytes, stated_kept}
use Rattle.vw_machine.specs.declared.world.World.{World}
use Rattle.vw_machine.specs.Module.{module_of}
use Rattle.vw_sandbox.proofs.laws.stated_code_is_sandboxed.Goals as goal

pub returns : goal.returns
returns g c file map is bytes stated =
    let rules : ModuleLaws = c.module_laws.ensures in
    let statements : StatementLaws = record { form = c.lists_are_in_form.ensures; run = c.effect_is_a_run.ensures; words = c.words_stay.ensures } in
    sandboxed_by (module_of file) map (λ (w : World). g.A.Assertions.holds w) (set_up rules file is)
    (λ (w : World) laid. stated_kept (module_of file) w laid (module_bytes file bytes w) statements map (g.A.Assertions.holds w) (stated w laid))
