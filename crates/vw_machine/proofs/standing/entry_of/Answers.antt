use Rattle.std.proofs.Common.{◌≡◌, ◌≤◌, ◌+◌, ◌^◌, List, get_or, sym, ◌∙◌, ap, arith}
use Rattle.std.specs.Prelude.{Contains}
use Rattle.std.proofs.lemmas.Option.{get_or_from_slice_get}
use Rattle.vw_layout.specs.declared.functions.Function.{Function}
use Rattle.vw_machine.proofs.CodeLemmas.{Laws, function_ends}
use Rattle.vw_machine.proofs.standing.entry_of.Goals as goal

pub overflow_add-result : goal.overflow_add-result
overflow_add-result c =
    let m = c.args.module.now in
    let w = c.args.world.now in
    let r = c.index-as_slice-number.result in
    let is : r ≡ get_or m.functions c.args.number r = c.index-as_slice-number.is ∙ ap (λ (xs : List Function). get_or xs c.args.number r) c.as_slice.ensures in
    let listed : Contains m.functions r = (c.args.number, c.requires.declared, sym is) in
    let laws : Laws = record { code = c.functions_are_code.ensures; bounded = c.segments_are_bounded.ensures } in
    let ends : w.load + r.entry + r.size ≤ 2 ^ 47 = function_ends laws m c.requires.whole c.segments.ensures.whole r listed w c.requires.placed in
    let e : (get_or c.as_slice.result.now c.args.number r).entry ≡ r.entry = ap (λ (g : Function). g.entry) (sym c.index-as_slice-number.is) in
    omega arith

pub returns : goal.returns
returns c f there =
    let m = c.args.module.now in
    let r = c.index-as_slice-number.result in
    let is : r ≡ get_or m.functions c.args.number r = c.index-as_slice-number.is ∙ ap (λ (xs : List Function). get_or xs c.args.number r) c.as_slice.ensures in
    let same : r ≡ f = is ∙ get_or_from_slice_get m.functions c.args.number f r there in
    ap (λ (g : Function). c.args.world.now.load + g.entry) (sym c.index-as_slice-number.is ∙ same)
