use Rattle.std.proofs.Common.{◌≡◌, ℕ}
use Rattle.vw_state.specs.Context.{Context, IsSite}
use Rattle.vw_graph.proofs.Leads.{LeadsBelow, mark_at}
use Rattle.vw_graph.proofs.jumps.leads_beyond.Given as goal

abbrev pub invariant-loop-i : goal.invariant-loop-i
invariant-loop-i l = (f : Context) → IsSite f l.site → (to : ℕ) → LeadsBelow f l.table l.i to → mark_at l.marks to ≡ l.mark
