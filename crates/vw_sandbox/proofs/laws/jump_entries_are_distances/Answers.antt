use Rattle.std.proofs.Common.{◌≤◌, ◌+◌, ◌^◌, refl, arith}
use Rattle.vw_image.specs.Image.{image_of}
use Rattle.vw_layout.specs.Layout.{IsWhole}
use Rattle.vw_layout.specs.declared.layout.Module.{Module as Declared}
use Rattle.vw_state.specs.Context.{context_of}
use Rattle.vw_machine.specs.Module.{declared_module}
use Rattle.vw_sandbox.specs.Gathered.{FileLaws}
use Rattle.vw_sandbox.proofs.Jumps.{entry_leads}
use Rattle.vw_sandbox.proofs.Modules.{ends_low}
use Rattle.vw_sandbox.proofs.laws.jump_entries_are_distances.Goals as goal

pub returns : goal.returns
unfolding image_of
returns c file f base i to is bytes listed leads =
    let m : Declared = declared_module file in
    let whole : IsWhole m = record { rules = is; functions = refl; tables = refl; image = refl } in
    let code : FileLaws = c.file_laws.ensures in
    let low = ends_low code file is f listed in
    let ends : f.entry + f.size ≤ 2 ^ 64 = omega (arith, low) in
    let led = entry_leads (context_of m f) (record { base = base; count = i + 1 }) i to (c.functions_have_sites.ensures m f whole bytes listed) ends leads in
    (led.x, led.plain, led.sum, led.inside)
