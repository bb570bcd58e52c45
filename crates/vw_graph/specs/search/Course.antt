-- The course of the rounds, as the program takes them.
use Rattle.std.specs.Prelude.{◌≡◌, ℕ, ◌+◌, ◌*◌, ◌<◌, ◌≤◌, List, Option, Contains}
use Rattle.vw_solver.specs.Seed.{IsSeed, Grown}
use Rattle.vw_domain.specs.declared.parts.Parts.{Parts}
use Rattle.vw_domain.specs.State.{IsValidState, state_below, entry_state}
use Rattle.vw_state.specs.declared.jumps.JumpTable.{JumpTable}
use Rattle.vw_state.specs.declared.tables.FunctionTable.{FunctionTable}
use Rattle.vw_state.specs.Context.{Context}
use Rattle.vw_state.specs.Laws.{tick_limit}
use Rattle.vw_state.specs.Post.{edges_with}
use Rattle.vw_state.specs.Rounds.{IsRound}
use Rattle.vw_state.specs.Tables.{AllFit}
use Rattle.vw_graph.specs.declared.round.Step.{Step}
use Rattle.vw_graph.specs.declared.round.Step.TheVariants.{Ends, GoesOn}
use Rattle.vw_graph.specs.search.Jumps.{pairs_of, AreSame, AreSlots, AreNew}
use Rattle.vw_graph.specs.Rounds.{IsRounds, last_table}
use Rattle.vw_graph.specs.search.Solved.{gather, NoneStops}

-- the table is what the solver makes of the function's equations with these pairs
abbrev pub IsSolvedWith : Context → List (ℕ × ℕ) → List (Option Parts) → Type 0
IsSolvedWith f pairs table = Grown state_below (IsValidState f.bounds) (λ at state. edges_with f pairs at state) (f.size + 1) 0 entry_state table

-- the solver may begin from the table, where these points wait
abbrev pub IsSeedWith : Context → List (ℕ × ℕ) → List (Option Parts) → List ℕ → Type 0
IsSeedWith f pairs table waiting = IsSeed state_below (IsValidState f.bounds) (λ at state. edges_with f pairs at state) (f.size + 1) 0 entry_state table waiting

-- A round, with its table, the tables of jumps that give its pairs, and the count of steps before the first round and now.
pub record IsInRound (f : Context) (slots : List (Option JumpTable)) (table : List (Option Parts)) (old new : ℕ) : Type 0 where
  pub solved : IsSolvedWith f (pairs_of f slots) table
  pub number : ℕ
  pub pairs : List (ℕ × ℕ)
  pub round : IsRound f number pairs (gather 0 table)
  pub same : AreSame pairs (pairs_of f slots)
  pub counted : new ≤ old + number * tick_limit f

-- the next round, which has more pairs
pub record IsNextRound (f : Context) (before : List (Option JumpTable)) (old new : ℕ) (slots : List (Option JumpTable)) (table : List (Option Parts)) : Type 0 where
  pub in_round : IsInRound f slots table old new
  pub grows : (at to : ℕ) → Contains (pairs_of f before) (at, to) → Contains (pairs_of f slots) (at, to)
  pub at : ℕ
  pub to : ℕ
  pub there : Contains (pairs_of f slots) (at, to)
  pub new_pair : Contains (pairs_of f before) (at, to) → ⊥
  pub inside : (at to : ℕ) → Contains (pairs_of f slots) (at, to) → (at < f.size + 1) × (to < f.size + 1)

-- the states of the solver's table, as those of a function with this entry
pub record IsTableOf (entry : ℕ) (table : List (Option Parts)) (states : FunctionTable) : Type 0 where
  pub entry_is : states.entry ≡ entry
  pub gathers : states.states ≡ gather 0 table

-- No check stops at the table of a round. These are the tables of jumps of which it tells, and these points, of which there
-- is one, those whose table leads further than that of the round.
pub record LeadsOn (f : Context) (before : List (Option JumpTable)) (table : List (Option Parts)) (old new : ℕ) (slots : List (Option JumpTable)) (waiting : List ℕ) : Type 0 where
  pub in_round : IsInRound f before table old new
  pub passes : NoneStops f table
  pub are : AreSlots f table slots (f.size + 1)
  pub are_new : AreNew f before slots (f.size + 1) waiting
  pub first : ℕ
  pub waits : Contains waiting first

-- the rounds end, or there is another one
abbrev pub IsStep : Context → List (Option JumpTable) → ℕ → ℕ → Step → Type 0
IsStep f before old new (Ends rounds) = IsRounds f rounds × AllFit f.bounds (last_table rounds).states
IsStep f before old new (GoesOn slots table) = IsNextRound f before old new slots.items table
