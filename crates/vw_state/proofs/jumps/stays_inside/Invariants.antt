use Rattle.std.proofs.Common.{◌≡◌, ℕ, ◌<◌, None}
use Rattle.vw_state.specs.Context.{Context, IsSite}
use Rattle.vw_state.specs.Post.{entry_target}
use Rattle.vw_state.proofs.jumps.stays_inside.Given as goal

abbrev pub invariant-loop-i : goal.invariant-loop-i
invariant-loop-i l = (f : Context) → IsSite f l.site → (k : ℕ) → k < l.i → entry_target f l.table k ≡ None → ⊥
