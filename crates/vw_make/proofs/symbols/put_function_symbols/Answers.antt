use Rattle.std.proofs.Common.{ℕ, List, length, ap, arith}
use Rattle.vw_make.specs.declared.parts.Func.{Func}
use Rattle.vw_make.specs.Layout.{strings_size, function_names}
use Rattle.vw_make.specs.Symbols.{function_symbol}
use Rattle.vw_make.proofs.Places.{plan_facts, function_names_le, function_names_more, place_of}
use Rattle.vw_make.proofs.Steps.{numbered_step, function_piece}
use Rattle.vw_make.proofs.symbols.put_function_symbols.Goals as goal

pub overflow_add-name-in-loop-number : goal.overflow_add-name-in-loop-number
overflow_add-name-in-loop-number c =
    let facts = plan_facts c.requires in
    let le = function_names_le c.as_slice-functions.result.now c.loop-number.number c.index-functions-number.result c.loop-number-test.true c.index-functions-number.is in
    let all = ap (λ (fs : List Func). strings_size (function_names fs)) c.as_slice-functions.ensures in
    omega (arith, le, all, c.loop-number.invariant.name, ap (λ (name : List ℕ). length name) c.as_slice.ensures, facts.names, facts.ordered.sections, facts.fits)

pub loop-number-preserved : goal.loop-number-preserved
loop-number-preserved c =
    let more = function_names_more c.as_slice-functions.result.now c.loop-number.number c.index-functions-number.result c.loop-number-test.true c.index-functions-number.is in
    let placed = place_of c.requires c.as_slice-functions.result.now c.as_slice-functions.ensures c.loop-number.number c.loop-number-test.true c.index.result.now c.index.ensures in
    record {
      name = omega (arith, more, c.loop-number.invariant.name, ap (λ (name : List ℕ). length name) c.as_slice.ensures);
      bytes =
          numbered_step (function_symbol c.as_slice-functions.result.now c.args.plan.now.layout) c.as_slice-functions.result.now c.loop-number.number c.index-functions-number.result
          c.args.out.now.items c.loop-number.out.items c.put_symbol.new.out.items _ c.loop-number-test.true c.loop-number.invariant.bytes c.in_ok-put_symbol.ensures
          (function_piece c.as_slice-functions.result.now c.args.plan.now.layout c.loop-number.number c.loop-number.name c.index.result.now c.len.result c.index-functions-number.result c.loop-number.invariant.name placed c.len.ensures c.index-functions-number.is);
    }
