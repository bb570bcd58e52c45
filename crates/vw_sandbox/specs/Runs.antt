-- Runs of the machine: which states it is in after some steps, and how a claim is shown of all of them.
use Rattle.std.specs.Prelude.{◌≡◌, List, [], ◌∷◌, Contains}
use Rattle.vw_insn.specs.Words.{Registers}
use Rattle.vw_layout.specs.declared.functions.Function.{Function}
use Rattle.vw_machine.specs.declared.world.World.{World}
use Rattle.vw_machine.specs.declared.choice.Choice.{Choice}
use Rattle.vw_machine.specs.World.{IsLaidOut}
use Rattle.vw_machine.specs.Module.{ModuleView}
use Rattle.vw_machine.specs.State.{MachineState}
use Rattle.vw_machine.specs.Standing.{Here, StandsAt}
use Rattle.vw_machine.specs.Step.{Went, step}
use Rattle.vw_machine.specs.Entered.{IsInitial}

module _ (m : ModuleView) (w : World) where
  -- A run from a state is in these states: in the first, and in each that a step leaves of what stands at rip, under any
  -- choice. A run ends where a step returns to the host or traps.
  pub data Reaches (first : MachineState) : MachineState → Type 0 where
    begins : Reaches first first
    goes_on : {s next : MachineState} (here : Here) (choice : Choice) → Reaches first s → StandsAt m w s.rip s.active here → step m w s here choice ≡ Went next → Reaches first next

  -- The same with the choices at hand: under these, one for each step, the run from a state is in the last state.
  abbrev pub RunsTo : List Choice → MachineState → MachineState → Type 0
  RunsTo [] s last = s ≡ last
  RunsTo (choice ∷ choices) s last =
      (here : Here)
      × (next : MachineState)
      × StandsAt m w s.rip s.active here
      × (step m w s here choice ≡ Went next)
      × RunsTo choices next last

  -- A claim that the first state meets and that each step keeps is met by every state of a run.
  pub of_runs : (first : MachineState) (Claim : MachineState → Type 0) → Claim first
      → ((s next : MachineState) (here : Here) (choice : Choice) → Claim s → StandsAt m w s.rip s.active here → step m w s here choice ≡ Went next → Claim next)
      → (s : MachineState) → Reaches first s → Claim s
  of_runs first Claim met keeps s begins = met
  of_runs first Claim met keeps s (goes_on {s = before} here choice run stands is) =
      keeps before s here choice (of_runs first Claim met keeps before run) stands is

-- A claim about the registers with which the host enters a function, and a state, is met by every state of every run: in
-- every instance that is laid out well, of every declared function, from every state in which the host enters it.
abbrev pub OfRuns : ModuleView → (World → Registers → MachineState → Type 0) → Type 0
OfRuns m Claim =
    (w : World) → IsLaidOut m.image m.imports w → (f : Function) → Contains m.functions f → (first : MachineState) → IsInitial w f first
    → (s : MachineState) → Reaches m w first s → Claim w first.registers s
