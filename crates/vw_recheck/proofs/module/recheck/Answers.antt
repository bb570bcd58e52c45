use Rattle.std.proofs.Common.{◌≤◌, ◌⊎◌, inl, inr, subst, length, List}
use Rattle.vw_layout.specs.declared.functions.Function.{Function}
use Rattle.vw_layout.specs.Layout.{declared_functions}
use Rattle.vw_state.specs.declared.tables.FunctionTable.{FunctionTable}
use Rattle.vw_state.specs.Context.{context_of}
use Rattle.vw_state.specs.Post.{destinations}
use Rattle.vw_recheck.specs.Places.{IsFirstLeft}
use Rattle.vw_recheck.proofs.Points.{safe_fails}
use Rattle.vw_recheck.proofs.Tables.{matched_none, matched_more, place_unsafe, place_lowest, unsafe_answer, left_answers, left_lowest, functions_rise, read_is}
use Rattle.vw_recheck.proofs.module.recheck.Goals as goal
use Rattle.vw_recheck.proofs.module.recheck.Goals.{then-loop-number-test+else-number-given, else-loop-number-test}

pub returns-in-Some-clause-safe : goal.returns-in-Some-clause-safe
returns-in-Some-clause-safe c =
    let m = c.args.loaded.now in
    let n = c.loop-number.number in
    let is_f = read_is m.functions c.as_slice-functions.result.now n c.index-functions-number.result c.as_slice-functions.ensures c.loop-number-test.true c.index-functions-number.is in
    let is_t = read_is c.args.tables.now.functions c.as_slice-given.result.now n c.index-given-number.result c.as_slice-given.ensures c.if-number-given.true c.index-given-number.is in
    unsafe_answer m c.args.tables.now c.in-Some.place
    (place_unsafe m c.args.tables.now (λ f table has safe at number fails. safe_fails (context_of m f) table (λ a s. c.edges_are_post.ensures.are (context_of m f) (destinations (context_of m f)) a s (c.codes_are_bytes.ensures f)) safe at number fails) n c.index-functions-number.result c.index-given-number.result c.in-Some.place is_f is_t (rw c.in-Some.is at c.in_ok-place.ensures))

pub returns-in-Some-clause-lowest : goal.returns-in-Some-clause-lowest
returns-in-Some-clause-lowest c =
    let m = c.args.loaded.now in
    let n = c.loop-number.number in
    let is_f = read_is m.functions c.as_slice-functions.result.now n c.index-functions-number.result c.as_slice-functions.ensures c.loop-number-test.true c.index-functions-number.is in
    let is_t = read_is c.args.tables.now.functions c.as_slice-given.result.now n c.index-given-number.result c.as_slice-given.ensures c.if-number-given.true c.index-given-number.is in
    λ ascend. place_lowest m c.args.tables.now n (λ f table has safe at number fails. safe_fails (context_of m f) table (λ a s. c.edges_are_post.ensures.are (context_of m f) (destinations (context_of m f)) a s (c.codes_are_bytes.ensures f)) safe at number fails)
    (functions_rise m (declared_functions m.image.bytes) c.requires.functions (λ j k f g is_f is_g less. c.functions_ascend.ensures.ascend m.image.bytes j k f g c.requires.rules is_f is_g less))
    ascend c.loop-number.invariant c.index-functions-number.result c.index-given-number.result is_f is_t c.in-Some.place (rw c.in-Some.is at c.in_ok-place.ensures)

pub loop-number-preserved : goal.loop-number-preserved
loop-number-preserved c =
    let m = c.args.loaded.now in
    let n = c.loop-number.number in
    let is_f = read_is m.functions c.as_slice-functions.result.now n c.index-functions-number.result c.as_slice-functions.ensures c.loop-number-test.true c.index-functions-number.is in
    let is_t = read_is c.args.tables.now.functions c.as_slice-given.result.now n c.index-given-number.result c.as_slice-given.ensures c.if-number-given.true c.index-given-number.is in
    matched_more m c.args.tables.now.functions n c.index-functions-number.result c.index-given-number.result is_f is_t c.loop-number.invariant (rw c.in_default.is at c.in_ok-place.ensures)

pub returns-clause-safe : goal.returns-clause-safe
returns-clause-safe c =
    let m = c.args.loaded.now in
    let n = c.loop-number.number in
    let end : (length m.functions ≤ n) ⊎ (length c.args.tables.now.functions ≤ n) =
    elim c.loop-number-test.branch [
      | then-loop-number-test+else-number-given w ↦ inr (subst (λ (ts : List FunctionTable). length ts ≤ n) c.as_slice-given.ensures w.if-number-given.false)
      | else-loop-number-test w ↦ inl (subst (λ (fs : List Function). length fs ≤ n) c.as_slice-functions.ensures w.loop-number-test.false)
    ] in
    let left = subst (λ (ts : List FunctionTable). IsFirstLeft m.functions ts n c.first_left.result) c.as_slice-given.ensures (subst (λ (fs : List Function). IsFirstLeft fs c.as_slice-given.result.now n c.first_left.result) c.as_slice-functions.ensures c.first_left.ensures) in
    left_answers m c.args.tables.now n c.first_left.result c.loop-number.invariant left end

pub returns-clause-lowest : goal.returns-clause-lowest
returns-clause-lowest c =
    let m = c.args.loaded.now in
    let n = c.loop-number.number in
    let end : (length m.functions ≤ n) ⊎ (length c.args.tables.now.functions ≤ n) =
    elim c.loop-number-test.branch [
      | then-loop-number-test+else-number-given w ↦ inr (subst (λ (ts : List FunctionTable). length ts ≤ n) c.as_slice-given.ensures w.if-number-given.false)
      | else-loop-number-test w ↦ inl (subst (λ (fs : List Function). length fs ≤ n) c.as_slice-functions.ensures w.loop-number-test.false)
    ] in
    let left = subst (λ (ts : List FunctionTable). IsFirstLeft m.functions ts n c.first_left.result) c.as_slice-given.ensures (subst (λ (fs : List Function). IsFirstLeft fs c.as_slice-given.result.now n c.first_left.result) c.as_slice-functions.ensures c.first_left.ensures) in
    λ ascend. left_lowest m c.args.tables.now n c.first_left.result (λ f table has safe at number fails. safe_fails (context_of m f) table (λ a s. c.edges_are_post.ensures.are (context_of m f) (destinations (context_of m f)) a s (c.codes_are_bytes.ensures f)) safe at number fails)
    (functions_rise m (declared_functions m.image.bytes) c.requires.functions (λ j k f g is_f is_g less. c.functions_ascend.ensures.ascend m.image.bytes j k f g c.requires.rules is_f is_g less))
    ascend c.loop-number.invariant left end

pub loop-number-init : goal.loop-number-init
loop-number-init c = matched_none c.args.loaded.now c.args.tables.now.functions
