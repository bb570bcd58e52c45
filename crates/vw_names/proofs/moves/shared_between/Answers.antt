use Rattle.std.proofs.Common.{◌<◌, ◌≤◌, length, rules}
use Rattle.vw_names.proofs.BetweenLemmas.{shared_place, shared_root, none_between}
use Rattle.vw_names.proofs.moves.shared_between.Goals as goal

pub returns-then-entry-high : goal.returns-then-entry-high
returns-then-entry-high c =
    let within : c.loop-entry.entry-index < length c.args.entries.now = search rules in
    shared_place c.args.entries.now c.loop-entry.entry-index c.args.low c.args.high c.requires within c.if-low-entry.true c.if-entry-high.true

pub returns-then-entry-high-2 : goal.returns-then-entry-high-2
returns-then-entry-high-2 c =
    let within : c.loop-entry.entry-index < length c.args.entries.now = search rules in
    shared_root c.args.entries.now c.loop-entry.entry-index c.args.low c.args.high c.requires within c.if-low-entry-2.true c.if-entry-high-2.true

pub returns : goal.returns
returns c =
    let all : length c.args.entries.now ≤ c.loop-entry.entry-index = search rules in
    none_between c.args.entries.now c.args.low c.args.high c.loop-entry.entry-index c.requires all c.loop-entry.invariant
