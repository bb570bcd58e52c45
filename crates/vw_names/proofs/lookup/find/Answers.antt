use Rattle.std.proofs.Common.{◌≡◌, ℕ, ◌<◌, length, get_or, sym, ap, ◌∙◌, arith}
use Rattle.std.proofs.lemmas.List.{get_or_default}
use Rattle.vw_names.proofs.Lookups.{root_none}
use Rattle.vw_names.proofs.lookup.find.Goals as goal
use Rattle.vw_names.proofs.lookup.find.Goals.{else-at-entries-via-then-at-entries+else-entries-at, else-at-entries-via-else-at-entries}

pub returns-else-at-entries : goal.returns-else-at-entries
returns-else-at-entries c =
    let xs = c.args.entries.now in
    let at = c.count_below-at.result in
    root_none xs c.args.place at c.requires c.count_below-at.ensures.below c.count_below-at.ensures.above (λ d within. elim c.else-at-entries.branch [
      | else-at-entries-via-then-at-entries+else-entries-at w ↦
          let key : (get_or xs at d).0 ≡ (get_or xs at (0, 0)).0 = ap (λ (e : ℕ × ℕ). e.0) (get_or_default xs at d (0, 0) within) in
          λ same. absurd (omega (arith, w.if-entries-at))
      | else-at-entries-via-else-at-entries w ↦ λ same. absurd (omega (arith, w.if-at-entries))
    ])
