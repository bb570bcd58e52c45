-- What comes of a round, by what is found in its table.
use Rattle.std.proofs.Common.{IsTrue, ◌≡◌, ◌↔◌, ℕ, ◌+◌, ◌-◌, ◌≤◌, List, [], ◌∷◌, length, Option, Bool, true, false, refl, sym, ap, subst, ◌∙◌, arith}
use Rattle.std.specs.List.{Contains}
use Rattle.vw_rows.specs.Numbers.{IsBytes}
use Rattle.vw_domain.specs.declared.parts.Parts.{Parts}
use Rattle.vw_domain.specs.FormLaws.{EntryIsState}
use Rattle.vw_state.specs.declared.jumps.JumpTable.{JumpTable}
use Rattle.vw_state.specs.declared.site.Site.{Site}
use Rattle.vw_state.specs.declared.tables.FunctionTable.{FunctionTable}
use Rattle.vw_state.specs.Context.{Context, IsSite, code_of}
use Rattle.vw_state.specs.Laws.{HasSites, EdgesRise, EdgesAreValid, tick_limit}
use Rattle.vw_graph.specs.declared.all_rounds.Rounds.TheVariants.{Stable, Stopped}
use Rattle.vw_graph.specs.declared.round.Step.TheVariants.{Ends}
use Rattle.vw_graph.specs.declared.walk.Walk.{Walk}
use Rattle.vw_graph.specs.search.Course.{IsSeedWith, IsSolvedWith, IsInRound, IsNextRound, IsTableOf, LeadsOn, IsStep}
use Rattle.vw_graph.specs.search.Graphs.{IsGraph}
use Rattle.vw_graph.specs.search.Jumps.{pairs_of, HasSlots, AreSlots, AreNew}
use Rattle.vw_graph.specs.Rounds.{WithinRounds}
use Rattle.vw_graph.specs.search.Solved.{NoneStops, StopsFirst}
use Rattle.vw_graph.specs.search.Walks.{AllFitIn, FindsIn}
use Rattle.vw_graph.proofs.Least.{Are, Only}
use Rattle.vw_graph.proofs.Members.{contains_head}
use Rattle.vw_graph.proofs.NextRound.{Stay, Few, all_fit, solved_fit, stopped, stable, next_seed, within_next, next}
use Rattle.vw_graph.proofs.Targets.{site_code}

module _ (stay : Stay) (few : Few) (f : Context) (bytes : IsBytes (code_of f)) (sites : HasSites f) (slots : List (Option JumpTable)) (table : List (Option Parts)) (old new : ℕ) (now : IsInRound f slots table old new) where
  -- it ends, since a check stops
  pub stops : (then : ℕ) (states : FunctionTable) → IsTableOf f.entry table states → (at check : ℕ) → StopsFirst f table at check → IsStep f slots old then (Ends (Stopped states at check))
  stops then states of at check first = (
    stopped stay few f bytes sites slots table old new now states.states of.gathers states.entry of.entry_is at check first,
    all_fit f (pairs_of f slots) table now.solved states.states of.gathers,
  )

  -- it ends, since no jump is new
  pub is_stable : (then : ℕ) (further : List (Option JumpTable)) → NoneStops f table → AreSlots f table further (f.size + 1) → AreNew f slots further (f.size + 1) [] → (states : FunctionTable) → IsTableOf f.entry table states → IsStep f slots old then (Ends (Stable states))
  is_stable then further none are nothing states of = (
    stable stay few f bytes sites slots table old new now none further are nothing states.states of.gathers states.entry of.entry_is,
    all_fit f (pairs_of f slots) table now.solved states.states of.gathers,
  )

module _ (stay : Stay) (few : Few) (f : Context) (bytes : IsBytes (code_of f)) (sites : HasSites f) (slots : List (Option JumpTable)) (table : List (Option Parts)) (old new : ℕ) (further : List (Option JumpTable)) (waiting : List ℕ) (on : LeadsOn f slots table old new further waiting) where
  -- it goes on
  pub seeds : EntryIsState → IsSeedWith f (pairs_of f further) table waiting
  seeds entry = next_seed stay few f bytes sites slots table old new on.in_round on.passes further on.are waiting on.are_new entry

  pub keeps_within : (then : ℕ) → then ≤ new + tick_limit f → WithinRounds f (then - old)
  keeps_within then ticks = within_next stay few f bytes sites slots table old new on.in_round on.passes further on.are waiting on.are_new on.first on.waits then ticks

  pub goes_on : Are → Only → EntryIsState → EdgesRise f → EdgesAreValid f → (risen : List (Option Parts)) → IsSolvedWith f (pairs_of f further) risen → (then : ℕ) → then ≤ new + tick_limit f → IsNextRound f slots old then further risen
  goes_on are only entry rise valid risen solved then ticks =
      next stay few f bytes sites slots table old new on.in_round on.passes further on.are waiting on.are_new on.first on.waits are only entry rise valid risen solved then ticks

-- ---- a walk over the table

module _ (f : Context) (site : Site) (code : List ℕ) (graph : IsGraph f site code (f.size + 1)) where
  -- its points are those of the function
  pub finds_in : (table : List (Option Parts)) (found : Walk) → ((f : Context) → IsSite f site → code_of f ≡ code → FindsIn f table (site.size + 1) found) → FindsIn f table (f.size + 1) found
  finds_in table found finds =
      let is_code : code_of f ≡ code = sym (graph.code_is ∙ site_code f site graph.is_site) in
      subst (λ (n : ℕ). FindsIn f table (n + 1) found) (sym graph.is_site.size) (finds f graph.is_site is_code)

  pub fit_in : (slots : List (Option JumpTable)) (table : List (Option Parts)) (old new : ℕ) → IsInRound f slots table old new → AllFitIn site.bounds.now table
  fit_in slots table old new now = subst (λ (b : List ℕ). AllFitIn b table) graph.is_site.bounds (solved_fit f (pairs_of f slots) table now.solved)

  pub has_points : (slots : List (Option JumpTable)) (table : List (Option Parts)) (old new : ℕ) → IsInRound f slots table old new → length table ≡ site.size + 1
  has_points slots table old new now = now.solved.least.solution.size ∙ ap (λ (n : ℕ). n + 1) graph.is_site.size

  pub new_in : (before further shown : List (Option JumpTable)) (waiting : List ℕ) → shown ≡ further → ((f : Context) → IsSite f site → AreNew f before shown (site.size + 1) waiting) → AreNew f before further (f.size + 1) waiting
  new_in before further shown waiting same are =
      subst (λ (n : ℕ). AreNew f before further (n + 1) waiting) (sym graph.is_site.size) (subst (λ (s : List (Option JumpTable)). AreNew f before s (site.size + 1) waiting) same (are f graph.is_site))

  pub slots_in : (further shown : List (Option JumpTable)) → shown ≡ further → HasSlots (f.size + 1) further → HasSlots (site.size + 1) shown
  slots_in further shown same has =
      subst (λ (n : ℕ). HasSlots (n + 1) shown) graph.is_site.size (subst (λ (s : List (Option JumpTable)). HasSlots (f.size + 1) s) (sym same) has)

-- ---- whether a point waits

pub some_waits : (waiting : List ℕ) (is_empty : Bool) → (IsTrue is_empty ↔ (length waiting ≡ 0)) → is_empty ≡ false → (first : ℕ) × Contains waiting first
some_waits [] is_empty tells is = let yes : is_empty ≡ true = tells.1 refl in absurd cc
some_waits (first ∷ rest) is_empty tells is = (first, contains_head first rest)

pub none_waits : (waiting : List ℕ) (is_empty : Bool) → (IsTrue is_empty ↔ (length waiting ≡ 0)) → is_empty ≡ true → waiting ≡ []
none_waits [] is_empty tells is = refl
none_waits (first ∷ rest) is_empty tells is = let none : length (first ∷ rest) ≡ 0 = tells.0 is in absurd (omega (arith, none))
