use Rattle.std.proofs.Common.{◌<◌, ◌≤◌, length, get_or, rules, arith, refl, sym, ◌∙◌}
use Rattle.vw_names.specs.DivisionOrder.{below_from_roots}
use Rattle.vw_names.proofs.Lookups.{roots_by_entries, below_at}
use Rattle.vw_names.proofs.order.is_coarser.Goals as goal

pub returns-then-root_of : goal.returns-then-root_of
returns-then-root_of c =
    let within : c.loop-entry.entry-index < length c.args.high.now = search rules in (
      λ no. absurd (search rules),
      λ below. absurd (c.if-root_of.true (c.root_of.ensures ∙ below_at c.args.low.now c.args.high.now c.loop-entry.entry-index c.requires.high within below ∙ sym c.root_of-in-loop-entry.ensures)),
    )

pub returns : goal.returns
returns c =
    let all : length c.args.high.now ≤ c.loop-entry.entry-index = search rules in (
      λ yes. below_from_roots c.args.low.now c.args.high.now (roots_by_entries c.args.low.now c.args.high.now (λ k within. c.loop-entry.invariant k (omega arith))),
      λ below. refl,
    )
