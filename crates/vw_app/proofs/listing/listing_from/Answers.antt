use Rattle.std.proofs.Common.{List, ℕ, length, ◌<◌, ◌^◌, arith}
use Rattle.std.proofs.lemmas.Option.{get_or_from_slice_get}
use Rattle.vw_layout.specs.declared.functions.Function.{Function}
use Rattle.vw_layout.specs.declared.layout.Module.{Module}
use Rattle.vw_state.specs.Context.{context_of}
use Rattle.vw_app.specs.Listing.{AreTexts, IsFunctionListing}
use Rattle.vw_app.proofs.Least.{numbered_at, number_fits}
use Rattle.vw_app.proofs.Texts.{grown, grows_none, grows_more, grows_all}
use Rattle.vw_app.proofs.listing.listing_from.Goals as goal

abbrev IsText : Module → Function → List ℕ → Type 0
IsText m f = IsFunctionListing (context_of m f) f.name

pub overflow_cast-number : goal.overflow_cast-number
overflow_cast-number g c =
    let low : c.loop-number.number < 2 ^ 32 = number_fits c.args.loaded.now c.as_slice-functions.result.now c.loop-number.number c.requires.whole c.functions_ascend.ensures.few c.as_slice-functions.ensures c.loop-number-test.true in
    omega (arith, low)

pub loop-number-init : goal.loop-number-init
loop-number-init g c = grows_none (IsText c.args.loaded.now) c.args.loaded.now.functions c.new-text.result

pub loop-number-preserved : goal.loop-number-preserved
loop-number-preserved g c =
    let m = c.args.loaded.now in
    let inside : c.loop-number.number < length m.functions = rw c.as_slice-functions.ensures at c.loop-number-test.true in
    let f = numbered_at m.functions c.loop-number.number inside in
    grows_more (IsText m) m.functions c.loop-number.number f.0 c.new-text.result c.loop-number.text c.push_function.new.text inside (get_or_from_slice_get m.functions c.loop-number.number f.0 f.0 f.1) c.loop-number.invariant (c.in_ok-push_function.ensures f.0 f.1)

pub returns : goal.returns
returns g c =
    let m = c.args.loaded.now in
    grown (AreTexts (IsText m) m.functions) c.new-text.result c.loop-number.text c.new-text.ensures
    (grows_all (IsText m) m.functions c.loop-number.number c.new-text.result c.loop-number.text (rw c.as_slice-functions.ensures at c.loop-number-test.false) c.loop-number.invariant)
