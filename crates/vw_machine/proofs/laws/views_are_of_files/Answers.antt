use Rattle.std.proofs.Common.{◌≡◌, List, ap}
use Rattle.vw_image.specs.Image.{Contents, image_of}
use Rattle.vw_layout.specs.Layout.{declared_functions, declared_tables}
use Rattle.vw_layout.specs.declared.functions.Function.{Function}
use Rattle.vw_layout.specs.declared.tables.TableInfo.{TableInfo}
use Rattle.vw_layout.specs.declared.layout.Module.{Module as Declared}
use Rattle.vw_machine.specs.Module.{module_of, view_of}
use Rattle.vw_machine.proofs.laws.views_are_of_files.Goals as goal

same_parts : (f g : List Function) (t u : List TableInfo) (i j : Contents) → f ≡ g → t ≡ u → i ≡ j
    → (let one : Declared = record { functions = f; tables = t; image = i } in one) ≡ record { functions = g; tables = u; image = j }
same_parts f g t u i j p q r = cc

pub returns : goal.returns
unfolding module_of
returns c declared whole =
    let bytes = declared.image.bytes in
    ap view_of (same_parts declared.functions (declared_functions bytes) declared.tables (declared_tables bytes) declared.image (image_of bytes) whole.functions whole.tables whole.image)
