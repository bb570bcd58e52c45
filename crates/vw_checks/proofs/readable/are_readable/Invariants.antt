use Rattle.std.proofs.Common.{◌≡◌, ℕ, ◌+◌, ◌<◌, true}
use Rattle.vw_state.specs.Sites.{may_be_read}
use Rattle.vw_checks.proofs.readable.are_readable.Given as goal

abbrev pub invariant-loop-i : goal.invariant-loop-i
invariant-loop-i l = (j : ℕ) → j < l.i → may_be_read l.site.image.now l.site.tables.now (l.at + j) ≡ true
