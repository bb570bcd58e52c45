use Rattle.std.proofs.Common.{refl, sym, subst}
use Rattle.vw_domain.specs.declared.parts.Parts.{Parts}
use Rattle.vw_domain.specs.PartRanges.{IsStateOf}
use Rattle.vw_domain.proofs.JoinedClasses.{told_bare, told_names, told_none, no_places, made_of, refused_of}
use Rattle.vw_domain.proofs.state.State.of.Goals as goal

pub returns-in-None-2 : goal.returns-in-None-2
returns-in-None-2 c =
    let p = c.args.parts.now in
    let bare = c.in-Some.bare in
    no_places p bare (told_bare p c.in_ok-bare_parts.field-0 bare c.in-Some.is c.in_ok-bare_parts.ensures)
    (told_none bare.slots c.as_slice.result.now p.classes c.in_ok-named_classes.field-0 c.in-None-2.is c.as_slice.ensures c.in_ok-named_classes.ensures)

pub returns-then-not-are_same_classes : goal.returns-then-not-are_same_classes
returns-then-not-are_same_classes c =
    let p = c.args.parts.now in
    let bare = c.in-Some.bare in
    let names = c.in-Some-2.names in
    refused_of p bare names c.in_ok-groups.groups c.as_slice-2.result.now c.as_slice-3.result.now c.as_slice-4.result.now c.in_ok-classes.classes
    (told_bare p c.in_ok-bare_parts.field-0 bare c.in-Some.is c.in_ok-bare_parts.ensures)
    (told_names bare.slots c.as_slice.result.now p.classes names c.in_ok-named_classes.field-0 c.in-Some-2.is c.as_slice.ensures c.in_ok-named_classes.ensures)
    c.in_ok-classes.ensures.division c.as_slice-2.ensures c.in_ok-classes.ensures.joins c.in_ok-groups.ensures c.as_slice-3.ensures c.as_slice-4.ensures c.if-not-are_same_classes.ensures.apart

pub with-requires : goal.with-requires
with-requires c =
    let p = c.args.parts.now in
    let bare = c.in-Some.bare in
    let names = c.in-Some-2.names in
    (made_of p bare names c.in_ok-groups.groups c.as_slice-2.result.now c.as_slice-3.result.now c.as_slice-4.result.now c.in_ok-classes.classes
    (told_bare p c.in_ok-bare_parts.field-0 bare c.in-Some.is c.in_ok-bare_parts.ensures)
    (told_names bare.slots c.as_slice.result.now p.classes names c.in_ok-named_classes.field-0 c.in-Some-2.is c.as_slice.ensures c.in_ok-named_classes.ensures)
    c.in_ok-classes.ensures.division c.as_slice-2.ensures c.in_ok-classes.ensures.joins c.in_ok-groups.ensures c.as_slice-3.ensures c.as_slice-4.ensures (c.if-not-are_same_classes.ensures.same refl)).point.state

pub returns : goal.returns
returns c =
    let p = c.args.parts.now in
    let bare = c.in-Some.bare in
    let names = c.in-Some-2.names in
    subst (λ (s : Parts). IsStateOf p s) (sym c.in_ok-state.ensures)
    (made_of p bare names c.in_ok-groups.groups c.as_slice-2.result.now c.as_slice-3.result.now c.as_slice-4.result.now c.in_ok-classes.classes
    (told_bare p c.in_ok-bare_parts.field-0 bare c.in-Some.is c.in_ok-bare_parts.ensures)
    (told_names bare.slots c.as_slice.result.now p.classes names c.in_ok-named_classes.field-0 c.in-Some-2.is c.as_slice.ensures c.in_ok-named_classes.ensures)
    c.in_ok-classes.ensures.division c.as_slice-2.ensures c.in_ok-classes.ensures.joins c.in_ok-groups.ensures c.as_slice-3.ensures c.as_slice-4.ensures (c.if-not-are_same_classes.ensures.same refl))
