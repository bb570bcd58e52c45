use Rattle.std.proofs.Common.{◌≡◌, ◌<◌, length, arith, ◌-◌}
use Rattle.std.specs.Prelude.{slice_index_or}
use Rattle.vw_rows.specs.Levels.{owners}
use Rattle.vw_rows.proofs.ReadLevels.{first-at, first-length, small-entry, large-entry, second-entry, owners-length}
use Rattle.vw_rows.proofs.levels.entry_at.Goals as goal

pub returns-then-entry-lt32768 : goal.returns-then-entry-lt32768
returns-then-entry-lt32768 c =
    let len : length c.first_level.result.now.entries ≡ 256 = first-length _ _ _ c.first_level.ensures in
    let lt : c.args.opcode < length c.first_level.result.now.entries = omega (arith, c.ranges.opcode.fits) in
    small-entry _ _ _ _ _ _ c.if-entry-lt32768.true c.requires (first-at _ _ _ c.first_level.ensures c.args.opcode lt)

pub bounds-levels-entry : goal.bounds-levels-entry
bounds-levels-entry c =
    let len : length c.first_level.result.now.entries ≡ 256 = first-length _ _ _ c.first_level.ensures in
    let lt : c.args.opcode < length c.first_level.result.now.entries = omega (arith, c.ranges.opcode.fits) in
    let found = large-entry _ _ _ _ c.if-entry-lt32768.false (first-at _ _ _ c.first_level.ensures c.args.opcode lt) in
    let same : length owners ≡ length c.second_levels-levels.result.now = owners-length owners _ c.second_levels-levels.ensures in
    let inside : slice_index_or c.first_level.result.now.entries c.args.opcode 0 - 32768 < length owners = found.1 in
    omega arith

pub returns : goal.returns
returns c =
    let len : length c.first_level.result.now.entries ≡ 256 = first-length _ _ _ c.first_level.ensures in
    let lt : c.args.opcode < length c.first_level.result.now.entries = omega (arith, c.ranges.opcode.fits) in
    let found = large-entry _ _ _ _ c.if-entry-lt32768.false (first-at _ _ _ c.first_level.ensures c.args.opcode lt) in
    let same : length owners ≡ length c.second_levels-levels.result.now = owners-length owners _ c.second_levels-levels.ensures in
    let inside : slice_index_or c.first_level.result.now.entries c.args.opcode 0 - 32768 < length owners = found.1 in
    let within : slice_index_or c.first_level.result.now.entries c.args.opcode 0 - 32768 < length c.second_levels-levels.result.now = omega arith in
    rw c.column.ensures (second-entry _ _ _ _ _ _ _ _ c.second_levels-levels.ensures found.0 within c.requires)
