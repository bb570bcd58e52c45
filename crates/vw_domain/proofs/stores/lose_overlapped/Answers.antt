use Rattle.std.proofs.Common.{arith, w64, to_z, of_z, ◌||◌, Bool}
use Rattle.std.proofs.lemmas.Int.{ints}
use Rattle.std.specs.Prelude.{ℤ, pos, ◌+ℤ◌, ◌-ℤ◌}
use Rattle.vw_locals.specs.Ranges.{is_between}
use Rattle.vw_domain.specs.declared.parts.Parts.{Parts}
use Rattle.vw_domain.specs.State.{wide_key}
use Rattle.vw_domain.specs.Stores.{is_wide_at, LosesSlots}
use Rattle.vw_domain.proofs.LeaveLemmas.{lose_one, lose_range, lose_both}
use Rattle.vw_domain.proofs.stores.lose_overlapped.Goals as goal

pub returns : goal.returns
returns c =
    let o : ℤ = c.args.offset in
    let z : ℤ → ℤ = λ x. to_z w64 (of_z w64 x) in
    let key : ℤ = to_z w64 (of_z w64 (to_z w64 (of_z w64 o) +ℤ to_z w64 (of_z w64 o))) in
    let m0 : Parts = c.args.parts.now in
    let m1 : Parts = c.lose_between.new.parts in
    let m2 : Parts = c.lose_between-2.new.parts in
    let m3 : Parts = c.lose_between-3.new.parts in
    let m4 : Parts = c.lose_between-4.new.parts in
    let m5 : Parts = c.lose_between-5.new.parts in
    let end : ℤ = to_z w64 (of_z w64 (to_z w64 (of_z w64 (key +ℤ to_z w64 c.args.count)) +ℤ to_z w64 c.args.count)) in
    let in_bytes : LosesSlots (is_between (wide_key (o -ℤ pos 3)) (wide_key (o +ℤ pos c.args.count))) m0 m1 =
    lose_range (to_z w64 (of_z w64 (key -ℤ pos 6))) end (wide_key (o -ℤ pos 3)) (wide_key (o +ℤ pos c.args.count)) m0 m1 (omega (arith, ints)) (omega (arith, ints)) c.lose_between.ensures in
    let four : LosesSlots (is_wide_at (o -ℤ pos 4)) m1 m2 =
    lose_one (o -ℤ pos 4) (to_z w64 (of_z w64 (key -ℤ pos 8))) (to_z w64 (of_z w64 (key -ℤ pos 7))) m1 m2 (omega (arith, ints)) (omega (arith, ints)) c.lose_between-2.ensures in
    let five : LosesSlots (is_wide_at (o -ℤ pos 5)) m2 m3 =
    lose_one (o -ℤ pos 5) (to_z w64 (of_z w64 (key -ℤ pos 10))) (to_z w64 (of_z w64 (key -ℤ pos 9))) m2 m3 (omega (arith, ints)) (omega (arith, ints)) c.lose_between-3.ensures in
    let six : LosesSlots (is_wide_at (o -ℤ pos 6)) m3 m4 =
    lose_one (o -ℤ pos 6) (to_z w64 (of_z w64 (key -ℤ pos 12))) (to_z w64 (of_z w64 (key -ℤ pos 11))) m3 m4 (omega (arith, ints)) (omega (arith, ints)) c.lose_between-4.ensures in
    let seven : LosesSlots (is_wide_at (o -ℤ pos 7)) m4 m5 =
    lose_one (o -ℤ pos 7) (to_z w64 (of_z w64 (key -ℤ pos 14))) (to_z w64 (of_z w64 (key -ℤ pos 13))) m4 m5 (omega (arith, ints)) (omega (arith, ints)) c.lose_between-5.ensures in
    let f0 : ℤ → Bool = is_between (wide_key (o -ℤ pos 3)) (wide_key (o +ℤ pos c.args.count)) in
    let f1 : ℤ → Bool = λ k. is_wide_at (o -ℤ pos 4) k || f0 k in
    let f2 : ℤ → Bool = λ k. is_wide_at (o -ℤ pos 5) k || f1 k in
    let f3 : ℤ → Bool = λ k. is_wide_at (o -ℤ pos 6) k || f2 k in
    lose_both f3 (is_wide_at (o -ℤ pos 7)) m0 m4 m5
    (lose_both f2 (is_wide_at (o -ℤ pos 6)) m0 m3 m4
    (lose_both f1 (is_wide_at (o -ℤ pos 5)) m0 m2 m3
    (lose_both f0 (is_wide_at (o -ℤ pos 4)) m0 m1 m2 in_bytes four) five) six) seven
