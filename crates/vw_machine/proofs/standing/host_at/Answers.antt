use Rattle.std.proofs.Common.{◌≡◌, length, ap, arith}
use Rattle.std.proofs.lemmas.Option.{slice_get_within}
use Rattle.vw_dynamic.specs.Dynamic.{file_imports}
use Rattle.vw_image.specs.Image.{Contents, image_of}
use Rattle.vw_layout.specs.declared.layout.Module.{Module as Declared}
use Rattle.vw_layout.specs.Layout.{IsWhole}
use Rattle.vw_machine.proofs.standing.host_at.Goals as goal

imports_are : (m : Declared) → IsWhole m → m.image.imports ≡ file_imports m.image.bytes
unfolding image_of
imports_are m whole = ap (λ (i : Contents). i.imports) whole.image

pub import_at-requires : goal.import_at-requires
import_at-requires c =
    let m = c.args.module.now in
    let one = c.requires.placed.one_host_each in
    let few = c.imports_are_few.ensures m.image.bytes c.requires.whole.rules in
    let same : length m.image.imports ≡ length (file_imports m.image.bytes) = ap length (imports_are m c.requires.whole) in
    omega arith

pub is_probe-requires : goal.is_probe-requires
is_probe-requires c =
    let one = c.requires.placed.one_host_each in
    let inside = slice_get_within c.args.world.now.hosts c.in-Some.number c.args.rip c.in-Some.ensures.some in
    omega arith
