-- What it means that a module stays in its sandbox: a statement about every run.
use Rattle.std.specs.Prelude.{ℕ, List, [], ◌∷◌, Contains}
use Rattle.vw_insn.specs.Words.{Registers}
use Rattle.vw_layout.specs.declared.functions.Function.{Function}
use Rattle.vw_layout.specs.Layout.{IsModule}
use Rattle.vw_state.specs.declared.tables.Tables.{Tables}
use Rattle.vw_checks.specs.Modules.{AreSafe, AreLeast}
use Rattle.vw_machine.specs.declared.world.World.{World}
use Rattle.vw_machine.specs.declared.choice.Choice.{Choice}
use Rattle.vw_machine.specs.World.{IsLaidOut}
use Rattle.vw_machine.specs.Module.{ModuleView, declared_module, module_of}
use Rattle.vw_machine.specs.State.{MachineState}
use Rattle.vw_machine.specs.Standing.{Here, StandsAt}
use Rattle.vw_machine.specs.Step.{Ending, Went, Returned, Trapped, Stuck, step}
use Rattle.vw_machine.specs.Permitted.{Permitted}
use Rattle.vw_machine.specs.Entered.{IsInitial}
use Rattle.vw_sandbox.specs.Claims.{IsKept, StepPassesHeap, EachEvent}
use Rattle.vw_sandbox.specs.Maps.{Map, StepKeepsToMap, IsSandboxedBy}
use Rattle.vw_sandbox.specs.MapOf.{map_of}

-- The file is a module that stays in its sandbox and keeps to its least tables, which are safe.
pub record IsSandboxedFile (file : List ℕ) : Type 0 where
  pub rules : IsModule file
  pub tables : Tables
  pub least : AreLeast (declared_module file) tables
  pub are_safe : AreSafe (declared_module file) tables
  pub sandboxed : IsSandboxedBy (module_of file) (map_of (declared_module file) tables)

-- ---- the same by lists of choices

-- how a run goes on after a step, where `Rest` says it of the state that the step leaves
abbrev pub Onward : Registers → (MachineState → Type 0) → Ending → Type 0
Onward entered Rest (Went s) = Rest s
Onward entered Rest (Returned s) = IsKept entered s.registers
Onward entered Rest Trapped = Unit {0}
Onward entered Rest Stuck = ⊥

module _ (m : ModuleView) (w : World) (map : Map) (entered : Registers) where
  -- A step keeps to the sandbox, and the run goes on so, or it traps, or it returns as it should.
  pub record IsSafeStep (Rest : MachineState → Type 0) (s : MachineState) (here : Here) (choice : Choice) : Type 0 where
    pub permitted : EachEvent m w (Permitted m w s here) s here choice
    pub keeps_to_map : EachEvent m w (StepKeepsToMap m w map s.rip s.active here) s here choice
    pub passes_heap : EachEvent m w (StepPassesHeap m w s.registers here) s here choice
    pub onward : Onward entered Rest (step m w s here choice)

  -- The run from a state under these choices, one for each step, stays in the sandbox.
  abbrev pub StaysSafe : List Choice → MachineState → Type 0
  StaysSafe [] s = Unit {0}
  StaysSafe (choice ∷ choices) s = (here : Here) × StandsAt m w s.rip s.active here × IsSafeStep (StaysSafe choices) s here choice

-- Under every list of choices every run stays in the sandbox.
abbrev pub StaysSandboxed : ModuleView → Map → Type 0
StaysSandboxed m map =
    (w : World) → IsLaidOut m.image m.imports w → (f : Function) → Contains m.functions f → (first : MachineState) → IsInitial w f first
    → (choices : List Choice) → StaysSafe m w map first.registers choices first
