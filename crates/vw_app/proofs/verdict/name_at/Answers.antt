use Rattle.std.proofs.Common.{◌∙◌, refl, sym, subst}
use Rattle.vw_app.proofs.Names.{Ascend, named, never, found_name, no_name}
use Rattle.vw_app.proofs.verdict.name_at.Goals as goal

pub returns-in-Some-clause-numbered : goal.returns-in-Some-clause-numbered
returns-in-Some-clause-numbered c number f is at =
    let m = c.args.loaded.now in
    let ascend : Ascend m.functions = subst Ascend (sym c.requires.functions) (λ j k f g. c.functions_ascend.ensures.ascend m.image.bytes j k f g c.requires.rules) in
    c.as_slice-in-Some.ensures ∙ named m.functions ascend c.args.entry number f is at c.as_slice.result.now c.in-Some.number c.index-as_slice-number.result c.as_slice.ensures (sym c.in-Some.ensures)

pub returns-in-Some-clause-name : goal.returns-in-Some-clause-name
returns-in-Some-clause-name c =
    found_name c.args.loaded.now c.args.entry c.in-Some.number c.as_slice.result.now c.index-as_slice-number.result c.as_slice-in-Some.result.now c.as_slice.ensures (sym c.in-Some.ensures) c.as_slice-in-Some.ensures

pub returns-in-None-clause-numbered : goal.returns-in-None-clause-numbered
returns-in-None-clause-numbered c number f is at =
    let m = c.args.loaded.now in
    let ascend : Ascend m.functions = subst Ascend (sym c.requires.functions) (λ j k f g. c.functions_ascend.ensures.ascend m.image.bytes j k f g c.requires.rules) in
    absurd (never m.functions ascend c.args.entry number f is at (sym c.in-None.ensures))

pub returns-in-None-clause-name : goal.returns-in-None-clause-name
returns-in-None-clause-name c =
    let m = c.args.loaded.now in
    let ascend : Ascend m.functions = subst Ascend (sym c.requires.functions) (λ j k f g. c.functions_ascend.ensures.ascend m.image.bytes j k f g c.requires.rules) in
    no_name m c.args.entry _ ascend (sym c.in-None.ensures) refl
