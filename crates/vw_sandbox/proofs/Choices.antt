-- The two forms of what it means that a module stays in its sandbox say the same.
use Rattle.std.proofs.Common.{◌≡◌, ℕ, List, [], ◌∷◌, false, refl, sym, subst}
use Rattle.std.specs.Prelude.{Contains}
use Rattle.vw_insn.specs.Words.{Registers}
use Rattle.vw_layout.specs.declared.functions.Function.{Function}
use Rattle.vw_machine.specs.declared.world.World.{World}
use Rattle.vw_machine.specs.declared.choice.Choice.{Choice}
use Rattle.vw_machine.specs.World.{IsLaidOut}
use Rattle.vw_machine.specs.Module.{ModuleView}
use Rattle.vw_machine.specs.State.{Activation, MachineState}
use Rattle.vw_machine.specs.Standing.{Here, StandsAt}
use Rattle.vw_machine.specs.Step.{Ending, Went, Returned, Trapped, Stuck, step}
use Rattle.vw_machine.specs.Entered.{IsInitial}
use Rattle.vw_sandbox.specs.Runs.{Reaches, begins, goes_on, RunsTo, of_runs}
use Rattle.vw_sandbox.specs.Claims.{ReturnsKept, HasStep, IsPermitted, PassesHeap, KeepsRegisters}
use Rattle.vw_sandbox.specs.Maps.{Map, KeepsToMap, IsSandboxedBy}
use Rattle.vw_sandbox.specs.Gathered.{StandsAlone}
use Rattle.vw_sandbox.specs.Sandboxed.{Onward, IsSafeStep, StaysSafe, StaysSandboxed}

-- where a run goes on, it does not return wrongly
pub returns_of : (entered : Registers) (Rest : MachineState → Type 0) (e : Ending) → Onward entered Rest e → ReturnsKept entered e
returns_of entered Rest (Went s) onward = tt
returns_of entered Rest (Returned s) onward = onward
returns_of entered Rest Trapped onward = tt
returns_of entered Rest Stuck onward = onward

-- what is claimed of a state
pub record IsSafeState (m : ModuleView) (w : World) (map : Map) (entered : Registers) (s : MachineState) : Type 0 where
  pub steps : HasStep m w s
  pub permitted : IsPermitted m w s
  pub keeps_to_map : KeepsToMap m w map s
  pub passes_heap : PassesHeap m w s
  pub keeps_registers : KeepsRegisters m w entered s

-- some choice
pub some_choice : Choice
some_choice = record { numbers = []; flags = 0; trap = false; below = [] }

module _ (m : ModuleView) (w : World) (map : Map) (entered : Registers) (alone : StandsAlone m w) where
  module _ (first : MachineState) (safe : (s : MachineState) → Reaches m w first s → IsSafeState m w map entered s) where
    pub stays_safe : (choices : List Choice) (s : MachineState) → Reaches m w first s → StaysSafe m w map entered choices s
    stays_safe [] s run = tt
    stays_safe (choice ∷ choices) s run =
        let safe_here = safe s run in
        let here = safe_here.steps.0 in
        let stands = safe_here.steps.1 in (
          here,
          stands,
          record {
            permitted = safe_here.permitted here stands choice;
            keeps_to_map = safe_here.keeps_to_map here stands choice;
            passes_heap = safe_here.passes_heap here stands choice;
            onward =
                onward_by choices s here choice (λ next is. stays_safe choices next (goes_on here choice run stands is)) (step m w s here choice) refl (safe_here.keeps_registers here stands choice);
          },
        )
      where
        onward_by : (choices : List Choice) (s : MachineState) (here : Here) (choice : Choice) → ((next : MachineState) → step m w s here choice ≡ Went next → StaysSafe m w map entered choices next)
            → (e : Ending) → step m w s here choice ≡ e → ReturnsKept entered e → Onward entered (StaysSafe m w map entered choices) e
        onward_by choices s here choice later (Went next) is kept = later next is
        onward_by choices s here choice later (Returned next) is kept = kept
        onward_by choices s here choice later Trapped is kept = tt
        onward_by choices s here choice later Stuck is kept = kept

  -- the step of whatever stands there
  step_of : (choice : Choice) (choices : List Choice) (s : MachineState) → StaysSafe m w map entered (choice ∷ choices) s → (here : Here) → StandsAt m w s.rip s.active here
      → IsSafeStep m w map entered (StaysSafe m w map entered choices) s here choice
  step_of choice choices s stays here stands =
      subst (λ (h : Here). IsSafeStep m w map entered (StaysSafe m w map entered choices) s h choice) (alone s.rip s.active stays.0 here stays.1 stands) stays.2

  -- a state from which the run stays safe under all choices
  abbrev Stays : MachineState → Type 0
  Stays s = (choices : List Choice) → StaysSafe m w map entered choices s

  stays_on : (s next : MachineState) (here : Here) (choice : Choice) → Stays s → StandsAt m w s.rip s.active here → step m w s here choice ≡ Went next → Stays next
  stays_on s next here choice stays stands is choices =
      subst (Onward entered (StaysSafe m w map entered choices)) is (step_of choice choices s (stays (choice ∷ choices)) here stands).onward

  safe_state : (s : MachineState) → Stays s → IsSafeState m w map entered s
  safe_state s stays =
      let some = stays (some_choice ∷ []) in
      record {
        steps = (some.0, some.1);
        permitted = λ here stands choice. (step_of choice [] s (stays (choice ∷ [])) here stands).permitted;
        keeps_to_map = λ here stands choice. (step_of choice [] s (stays (choice ∷ [])) here stands).keeps_to_map;
        passes_heap = λ here stands choice. (step_of choice [] s (stays (choice ∷ [])) here stands).passes_heap;
        keeps_registers = λ here stands choice. returns_of entered (StaysSafe m w map entered []) (step m w s here choice) (step_of choice [] s (stays (choice ∷ [])) here stands).onward;
      }

  pub safe_of_stays : (first : MachineState) → Stays first → (s : MachineState) → Reaches m w first s → IsSafeState m w map entered s
  safe_of_stays first stays s run = safe_state s (of_runs m w first Stays stays stays_on s run)

module _ (m : ModuleView) (map : Map) (alone : (w : World) → IsLaidOut m.image m.imports w → StandsAlone m w) where
  pub by_choices : IsSandboxedBy m map → StaysSandboxed m map
  by_choices sandboxed w laid f listed first initial choices =
      stays_safe m w map first.registers (alone w laid) first
      (λ s run. record {
        steps = sandboxed.steps w laid f listed first initial s run;
        permitted = sandboxed.permitted w laid f listed first initial s run;
        keeps_to_map = sandboxed.keeps_to_map w laid f listed first initial s run;
        passes_heap = sandboxed.passes_heap w laid f listed first initial s run;
        keeps_registers = sandboxed.keeps_registers w laid f listed first initial s run;
      })
      choices first begins

  pub by_states : StaysSandboxed m map → IsSandboxedBy m map
  by_states stays =
      let safe : (w : World) → IsLaidOut m.image m.imports w → (f : Function) → Contains m.functions f → (first : MachineState) → IsInitial w f first → (s : MachineState) → Reaches m w first s → IsSafeState m w map first.registers s =
      λ w laid f listed first initial s run. safe_of_stays m w map first.registers (alone w laid) first (stays w laid f listed first initial) s run in
      record {
        steps = λ w laid f listed first initial s run. (safe w laid f listed first initial s run).steps;
        permitted = λ w laid f listed first initial s run. (safe w laid f listed first initial s run).permitted;
        keeps_to_map = λ w laid f listed first initial s run. (safe w laid f listed first initial s run).keeps_to_map;
        passes_heap = λ w laid f listed first initial s run. (safe w laid f listed first initial s run).passes_heap;
        keeps_registers = λ w laid f listed first initial s run. (safe w laid f listed first initial s run).keeps_registers;
      }

-- ---- the states that a run is in, by lists of choices

module _ (m : ModuleView) (w : World) where
  pub runs_on : (choices : List Choice) (first s last : MachineState) → Reaches m w first s → RunsTo m w choices s last → Reaches m w first last
  runs_on [] first s last run same = subst (Reaches m w first) same run
  runs_on (choice ∷ choices) first s last run (here, next, stands, is, later) = runs_on choices first next last (goes_on here choice run stands is) later

  runs_one_more : (choices : List Choice) (first s next : MachineState) (here : Here) (choice : Choice) → RunsTo m w choices first s → StandsAt m w s.rip s.active here → step m w s here choice ≡ Went next
      → (more : List Choice) × RunsTo m w more first next
  runs_one_more [] first s next here choice same stands is =
      (choice ∷ [], subst (λ (z : MachineState). RunsTo m w (choice ∷ []) z next) (sym same) (here, next, stands, is, refl))
  runs_one_more (c ∷ choices) first s next here choice (h, between, stood, went, later) stands is =
      let rest = runs_one_more choices between s next here choice later stands is in
      (c ∷ rest.0, (h, between, stood, went, rest.1))

  pub runs_to : (first s : MachineState) → Reaches m w first s → (choices : List Choice) × RunsTo m w choices first s
  runs_to first s begins = ([], refl)
  runs_to first s (goes_on {s = before} here choice run stands is) =
      let earlier = runs_to first before run in
      runs_one_more earlier.0 first before s here choice earlier.1 stands is
