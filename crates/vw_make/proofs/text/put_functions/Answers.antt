use Rattle.std.proofs.Common.{List, ◌∙◌, length, ap, sym, arith}
use Rattle.vw_make.specs.Bounds.{FuncFits}
use Rattle.vw_make.specs.declared.parts.Func.{Func}
use Rattle.vw_make.specs.Text.{fix_field, fixed_code, function_text}
use Rattle.vw_make.proofs.FieldLemmas.{length-with_fields}
use Rattle.vw_make.proofs.Places.{plan_facts, place_of, function_fits, item_here}
use Rattle.vw_make.proofs.Steps.{numbered_step, text_piece}
use Rattle.vw_make.proofs.text.put_functions.Goals as goal

pub code_with_fixes-requires-clause-low : goal.code_with_fixes-requires-clause-low
code_with_fixes-requires-clause-low c =
    let facts = plan_facts c.requires in
    let placed = place_of c.requires _ c.as_slice-functions.ensures c.loop-number.number c.loop-number-test.true c.index-at.result.now c.index-at.ensures in
    let fits = function_fits c.requires _ c.as_slice-functions.ensures c.loop-number.number in
    omega (arith, placed, fits, facts.low.stubs)

pub pad-requires-clause-fits : goal.pad-requires-clause-fits
unfolding fixed_code
pad-requires-clause-fits c =
    let fits = item_here (λ (f : Func). FuncFits c.args.plan.now.parts.now f) _ _ c.as_slice-functions.ensures c.requires.bounds.functions c.loop-number.number c.index-functions-number.result c.loop-number-test.true in
    let fixed = ap length c.in_ok-code.ensures in
    let same = length-with_fields (fix_field c.args.plan.now.parts.now.functions c.args.plan.now.layout c.index-at.result.now) 4 c.index-functions-number.result.fixes c.index-functions-number.result.code in
    omega (arith, fits.code, ap (λ (f : Func). length f.code) c.index-functions-number.is, fixed, same)

pub loop-number-preserved : goal.loop-number-preserved
loop-number-preserved c =
    let placed = place_of c.requires _ c.as_slice-functions.ensures c.loop-number.number c.loop-number-test.true c.index-at.result.now c.index-at.ensures in
    numbered_step (function_text c.as_slice-functions.result.now c.args.plan.now.layout) c.as_slice-functions.result.now c.loop-number.number c.index-functions-number.result
    c.args.out.now.items c.loop-number.out.items c.put.new.out.items c.as_slice.result.now c.loop-number-test.true c.loop-number.invariant c.in_ok-put.ensures
    (c.as_slice.ensures.value
    ∙ text_piece c.as_slice-functions.result.now c.args.plan.now.layout c.loop-number.number c.index-at.result.now c.index-functions-number.result c.in_ok-code.code.items c.pad.new.bytes.items
    placed c.index-functions-number.is
    (c.in_ok-code.ensures ∙ ap (λ (fs : List Func). fixed_code fs c.args.plan.now.layout c.index-at.result.now c.index-functions-number.result) (sym c.as_slice-functions.ensures))
    c.in_ok-pad.ensures)
