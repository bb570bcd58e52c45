use Rattle.std.proofs.Common.{◌≤◌, List, arith, sym, subst, w64, to_z, of_z}
use Rattle.std.specs.Prelude.{ℤ}
use Rattle.std.proofs.lemmas.Int.{to_z-of_z}
use mir.Val.{SFits}
use Rattle.vw_lattice.specs.Entries.{CutsKeys}
use Rattle.vw_lattice.proofs.CutLemmas.{places_read, cuts_keys, cuts_nothing}
use Rattle.vw_lattice.proofs.cuts.cut_keys.Goals as goal

pub returns-then-from-to : goal.returns-then-from-to
returns-then-from-to g c =
    let xs = c.args.entries.now.items in
    let fits_low : SFits w64 c.args.low = c.ranges.low in
    let fits_high : SFits w64 c.args.high = c.ranges.high in
    let places = places_read xs c.as_slice.result.now c.as_slice-2.result.now c.args.low c.args.high (to_z w64 (of_z w64 c.args.low)) (to_z w64 (of_z w64 c.args.high)) c.place-from.result c.place-to.result c.as_slice.ensures.value c.as_slice-2.ensures.value (to_z-of_z w64 c.args.low fits_low) (to_z-of_z w64 c.args.high fits_high) c.place-from.ensures.within c.place-from.ensures.below c.place-from.ensures.above c.place-to.ensures.within c.place-to.ensures.below c.place-to.ensures.above in
    let ordered : c.place-from.result ≤ c.place-to.result = omega (arith, c.if-from-to.true) in
    let C : List (ℤ × g.row.V.Denot) → Type 0 = λ es. CutsKeys c.args.low c.args.high xs es in
    subst C (sym {A = List (ℤ × g.row.V.Denot)} c.take_out.ensures) (cuts_keys xs c.args.low c.args.high c.place-from.result c.place-to.result ordered places c.requires)

pub returns-else-from-to : goal.returns-else-from-to
returns-else-from-to g c =
    let xs = c.args.entries.now.items in
    let fits_low : SFits w64 c.args.low = c.ranges.low in
    let fits_high : SFits w64 c.args.high = c.ranges.high in
    let places = places_read xs c.as_slice.result.now c.as_slice-2.result.now c.args.low c.args.high (to_z w64 (of_z w64 c.args.low)) (to_z w64 (of_z w64 c.args.high)) c.place-from.result c.place-to.result c.as_slice.ensures.value c.as_slice-2.ensures.value (to_z-of_z w64 c.args.low fits_low) (to_z-of_z w64 c.args.high fits_high) c.place-from.ensures.within c.place-from.ensures.below c.place-from.ensures.above c.place-to.ensures.within c.place-to.ensures.below c.place-to.ensures.above in
    let not_less : c.place-to.result ≤ c.place-from.result = omega (arith, c.if-from-to.false) in
    cuts_nothing xs c.args.low c.args.high c.place-from.result c.place-to.result not_less places c.requires
