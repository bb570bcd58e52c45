use Rattle.vw_image.specs.Image.{image_of}
use Rattle.vw_layout.specs.Layout.{declared_functions}
use Rattle.vw_state.specs.Code.{code_at}
use Rattle.vw_machine.specs.Module.{module_of}
use Rattle.vw_sandbox.specs.Gathered.{FileLaws}
use Rattle.vw_sandbox.proofs.Modules.{holds_code}
use Rattle.vw_sandbox.proofs.Witnesses.{limited, one_by_entry, not_sandboxed}
use Rattle.vw_sandbox.proofs.laws.unspelled_code_is_not_sandboxed.Goals as goal

pub returns : goal.returns
unfolding module_of
returns c file map f is listed nothing sandboxed =
    let laws : FileLaws = c.file_laws.ensures in
    not_sandboxed (module_of file) map f (code_at (image_of file) f.entry f.size)
    (limited c.segments_are_bounded.ensures c.imports_are_few.ensures file is)
    (holds_code laws file is f listed)
    (λ g of_file same. one_by_entry (declared_functions file) (λ j k h i. c.functions_ascend.ensures.ascend file j k h i is) f g listed of_file same)
    nothing sandboxed
