-- What the calls on a machine answer.
use Rattle.std.specs.Prelude.{◌≡◌, ℕ, ◌+◌, ◌≤◌, List, ◌∷◌, ◌++◌}
use Rattle.std.specs.List.{AllByRecursion}
use Rattle.vw_layout.specs.declared.layout.Module.{Module as Declared}
use Rattle.vw_machine.specs.declared.world.World.{World}
use Rattle.vw_machine.specs.declared.choice.Choice.{Choice}
use Rattle.vw_machine.specs.declared.event.Event.{Event}
use Rattle.vw_machine.specs.declared.event.Outcome.{Outcome}
use Rattle.vw_machine.specs.declared.event.Outcome.TheVariants as outcome
use Rattle.vw_machine.specs.World.{IsLaidOut}
use Rattle.vw_machine.specs.Module.{ModuleView, view_of}
use Rattle.vw_machine.specs.State.{MachineState}
use Rattle.vw_machine.specs.Standing.{Here, StandsAt}
use Rattle.vw_machine.specs.Step.{Went, Returned, Trapped, step}
use Rattle.vw_machine.specs.Events.{events}
use Rattle.vw_machine.specs.Permitted.{Permitted}

-- the module is laid out well in the world, with room for the rsp of some entry
abbrev pub IsPlaced : Declared → World → Type 0
IsPlaced declared w = IsLaidOut (view_of declared).image (view_of declared).imports w

-- rsp is one with which the host may enter a function
pub record IsEntryRsp (w : World) (rsp : ℕ) : Type 0 where
  pub low : w.stack_low ≤ rsp
  pub high : rsp + 4104 ≤ w.stack_high

module _ (m : ModuleView) (w : World) (s : MachineState) where
  -- the first of these events that is not permitted
  pub record IsFirstRefused (here : Here) (all : List Event) (event : Event) : Type 0 where
    pub before : List Event
    pub behind : List Event
    pub in_order : all ≡ before ++ event ∷ behind
    pub permitted : AllByRecursion (Permitted m w s here) before
    pub refused : ¬ Permitted m w s here event

module _ (m : ModuleView) (w : World) (s : MachineState) (choice : Choice) where
  -- these are the events of the next step
  abbrev pub AreEvents : List Event → Type 0
  AreEvents found = (here : Here) × StandsAt m w s.rip s.active here × (found ≡ events m w s here choice)

  -- each event of the step is permitted
  abbrev pub AllPermitted : Here → Type 0
  AllPermitted here = AllByRecursion (Permitted m w s here) (events m w s here choice)

  -- the first event of the step that is not permitted
  abbrev pub IsViolation : Here → Event → Type 0
  IsViolation here event = IsFirstRefused m w s here (events m w s here choice) event

  -- A step of what stands at rip ends so and leaves this state. Only a step of which each event is permitted is made.
  abbrev pub EndsAs : Here → Outcome → MachineState → Type 0
  EndsAs here outcome.Went s' = AllPermitted here × (step m w s here choice ≡ Went s')
  EndsAs here outcome.Returned s' = AllPermitted here × (step m w s here choice ≡ Returned s')
  EndsAs here outcome.Trapped s' = AllPermitted here × (step m w s here choice ≡ Trapped) × (s' ≡ s)
  EndsAs here (outcome.Violation event) s' = IsViolation here event × (s' ≡ s)

  -- the same of whatever stands at rip
  abbrev pub IsAnswer : Outcome → MachineState → Type 0
  IsAnswer found s' = (here : Here) × StandsAt m w s.rip s.active here × EndsAs here found s'
