use Rattle.vw_sandbox.specs.Gathered.{ModuleLaws}
use Rattle.vw_sandbox.proofs.Rules.{set_up}
use Rattle.vw_sandbox.proofs.Kept.{sandboxed_by}
use Rattle.vw_machine.specs.declared.world.World.{World}
use Rattle.vw_machine.specs.Module.{module_of}
use Rattle.vw_sandbox.proofs.laws.asserted_code_is_sandboxed.Goals as goal

pub returns : goal.returns
returns g c file map is kept =
    let rules : ModuleLaws = c.module_laws.ensures in
    sandboxed_by (module_of file) map (λ (w : World). g.A.Assertions.holds w) (set_up rules file is) kept
