use Rattle.std.proofs.Common.{List, sym, subst}
use Rattle.vw_dynamic.specs.declared.dynamic.Relocation.{Relocation}
use Rattle.vw_image.specs.Bounds.{AllSeparate}
use Rattle.vw_image.specs.Index.{IsIndex, bound_ones}
use Rattle.vw_image.proofs.Rules.{image-separate, IsImage-from_rules}
use Rattle.vw_image.proofs.image.Image.build.Goals as goal

pub by_place-requires : goal.by_place-requires
by_place-requires c =
    let is = IsImage-from_rules c.args.bytes c.args.segments c.args.dynamic.relocations c.args.dynamic.imports c.requires.headers c.requires.rules c.requires.segments c.requires.relocations c.requires.imports in
    subst AllSeparate (sym c.as_slice-relocations.ensures) (image-separate _ is)

pub bound_by_place-requires : goal.bound_by_place-requires
bound_by_place-requires c =
    let is = IsImage-from_rules c.args.bytes c.args.segments c.args.dynamic.relocations c.args.dynamic.imports c.requires.headers c.requires.rules c.requires.segments c.requires.relocations c.requires.imports in
    subst AllSeparate (sym c.as_slice-relocations.ensures) (image-separate _ is)

pub invariant_of-result : goal.invariant_of-result
invariant_of-result c =
    let is = IsImage-from_rules c.args.bytes c.args.segments c.args.dynamic.relocations c.args.dynamic.imports c.requires.headers c.requires.rules c.requires.segments c.requires.relocations c.requires.imports in (
      is,
      subst (λ (rs : List Relocation). IsIndex c.in_ok-places.places rs) c.as_slice-relocations.ensures c.in_ok-places.ensures,
      subst (λ (rs : List Relocation). IsIndex c.in_ok-bindings.bindings (bound_ones rs)) c.as_slice-relocations.ensures c.in_ok-bindings.ensures,
    )

pub returns : goal.returns
returns c =
    let is = IsImage-from_rules c.args.bytes c.args.segments c.args.dynamic.relocations c.args.dynamic.imports c.requires.headers c.requires.rules c.requires.segments c.requires.relocations c.requires.imports in
    is.whole
