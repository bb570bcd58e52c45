use Rattle.std.proofs.Common.{w64, to_z, of_z}
use Rattle.std.proofs.lemmas.Int.{to_z-of_z}
use mir.Val.{SFits}
use Rattle.vw_lattice.proofs.CutLemmas.{cuts_as}
use Rattle.vw_lattice.proofs.map_of.MapOf.cut_range.Goals as goal

pub returns-clause-inside : goal.returns-clause-inside
returns-clause-inside g c =
    let fits_low : SFits w64 c.args.low = c.ranges.low in
    let fits_high : SFits w64 c.args.high = c.ranges.high in
    (cuts_as c.args.low (to_z w64 (of_z w64 c.args.low)) c.args.high (to_z w64 (of_z w64 c.args.high)) c.args.self.now c.self.inside.entries.items c.cut_keys.new.entries.items (to_z-of_z w64 c.args.low fits_low) (to_z-of_z w64 c.args.high fits_high) c.self.view_is c.cut_keys.ensures).inside

pub returns-clause-outside : goal.returns-clause-outside
returns-clause-outside g c =
    let fits_low : SFits w64 c.args.low = c.ranges.low in
    let fits_high : SFits w64 c.args.high = c.ranges.high in
    (cuts_as c.args.low (to_z w64 (of_z w64 c.args.low)) c.args.high (to_z w64 (of_z w64 c.args.high)) c.args.self.now c.self.inside.entries.items c.cut_keys.new.entries.items (to_z-of_z w64 c.args.low fits_low) (to_z-of_z w64 c.args.high fits_high) c.self.view_is c.cut_keys.ensures).outside
