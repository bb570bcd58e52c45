use Rattle.vw_sandbox.specs.Maps.{entries}
use Rattle.vw_sandbox.specs.Gathered.{ModuleLaws}
use Rattle.vw_sandbox.proofs.Returning.{JustEntered, returns_kept}
use Rattle.vw_sandbox.proofs.Rules.{set_up, functions_have_bytes}
use Rattle.vw_sandbox.proofs.Kept.{sandboxed_by}
use Rattle.vw_machine.specs.declared.world.World.{World}
use Rattle.vw_machine.specs.Module.{module_of}
use Rattle.vw_sandbox.proofs.laws.returning_code_is_sandboxed.Goals as goal

pub returns : goal.returns
returns c file is begin =
    let rules : ModuleLaws = c.module_laws.ensures in
    sandboxed_by (module_of file) entries (λ (w : World). JustEntered) (set_up rules file is)
    (λ (w : World) laid. returns_kept (module_of file) w (set_up rules file is w laid) (functions_have_bytes rules file is) (begin w))
