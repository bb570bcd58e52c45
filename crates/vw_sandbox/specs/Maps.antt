-- What tables of any kind say of the points of functions, as far as claims about runs speak of it.
use Rattle.std.specs.Prelude.{◌≡◌, ℕ, ◌+◌, ◌==◌, Bool, true, List, [], ◌∷◌, Option, Some, None, Contains, slice_get}
use Rattle.vw_insn.specs.Effect.{Way, Ordinary, Return, Direct, Indirect, way}
use Rattle.vw_layout.specs.declared.functions.Function.{Function}
use Rattle.vw_layout.specs.declared.tables.TableInfo.{TableInfo}
use Rattle.vw_layout.specs.declared.tables.TableEntry.{TableEntry}
use Rattle.vw_machine.specs.declared.world.World.{World}
use Rattle.vw_machine.specs.declared.event.Event.{Event}
use Rattle.vw_machine.specs.declared.event.Event.TheVariants.{Read, Write, Goto}
use Rattle.vw_machine.specs.Module.{ModuleView}
use Rattle.vw_machine.specs.State.{Activation, MachineState}
use Rattle.vw_machine.specs.Standing.{Here, Code, Stub, Host, Probe, Nowhere, IsOf}
use Rattle.vw_machine.specs.Permitted.{is_pointer}
use Rattle.vw_sandbox.specs.Runs.{OfRuns}
use Rattle.vw_sandbox.specs.Claims.{EachEvent, EachStep, HasStep, IsPermitted, PassesHeap, KeepsRegisters}

-- By a function's entry and a point, an offset from its first byte.
pub record Map : Type 0 where
  -- whether the tables give the point a state
  pub is_point : ℕ → ℕ → Bool
  -- for a call there through a register or memory, the number of the table and the tag that they give its operand
  pub callee : ℕ → ℕ → Option (ℕ × ℕ)

module _ (m : ModuleView) (w : World) (map : Map) where
  -- the address is that of a point of the activation's function that has a state
  pub record IsPointAt (top : Activation) (to : ℕ) : Type 0 where
    pub function : Function
    pub of_top : IsOf m w top function
    pub point : ℕ
    pub has_state : map.is_point function.entry point ≡ true
    pub at : to ≡ w.load + function.entry + point

  -- The call at this point of the function goes to an entry of the table and with the tag that the tables give its
  -- operand.
  pub record IsTypedFrom (f : Function) (point to : ℕ) : Type 0 where
    pub number : ℕ
    pub tag : ℕ
    pub given : map.callee f.entry point ≡ Some (number, tag)
    pub table : TableInfo
    pub declared : slice_get m.tables number ≡ Some table
    pub entry : TableEntry
    pub of_table : Contains table.entries entry
    pub tagged : entry.tag ≡ tag
    pub pointer : is_pointer w entry.pointer to ≡ true

  -- the same of the call at an address, in an activation
  pub record IsTypedCall (top : Activation) (rip to : ℕ) : Type 0 where
    pub function : Function
    pub of_top : IsOf m w top function
    pub point : ℕ
    pub at : rip ≡ w.load + function.entry + point
    pub typed : IsTypedFrom function point to

  -- An event of an instruction that transfers control in this way keeps to the tables. A transfer inside the function
  -- goes to a point that has a state. A call through a register or memory goes to an entry of the table and with the tag
  -- that the tables give its operand. Accesses, returns and calls that name their target are not meant.
  abbrev pub InsnKeepsToMap : Activation → ℕ → Way → Event → Type 0
  InsnKeepsToMap top rip Ordinary (Read a n) = Unit {0}
  InsnKeepsToMap top rip Ordinary (Write a n) = Unit {0}
  InsnKeepsToMap top rip Ordinary (Goto to) = IsPointAt top to
  InsnKeepsToMap top rip Return (Read a n) = Unit {0}
  InsnKeepsToMap top rip Return (Write a n) = Unit {0}
  InsnKeepsToMap top rip Return (Goto to) = Unit {0}
  InsnKeepsToMap top rip Direct (Read a n) = Unit {0}
  InsnKeepsToMap top rip Direct (Write a n) = Unit {0}
  InsnKeepsToMap top rip Direct (Goto to) = Unit {0}
  InsnKeepsToMap top rip Indirect (Read a n) = Unit {0}
  InsnKeepsToMap top rip Indirect (Write a n) = Unit {0}
  InsnKeepsToMap top rip Indirect (Goto to) = IsTypedCall top rip to

  -- An event of a step keeps to the tables. Stubs and functions of the host are in no declared function, and tables
  -- say nothing of where they go. Where nothing stands, nothing keeps to them.
  abbrev pub StepKeepsToMap : ℕ → List Activation → Here → Event → Type 0
  StepKeepsToMap rip [] here event = ⊥
  StepKeepsToMap rip (top ∷ rest) (Code i len) event = InsnKeepsToMap top rip (way i) event
  StepKeepsToMap rip (top ∷ rest) (Stub slot) event = Unit {0}
  StepKeepsToMap rip (top ∷ rest) Host event = Unit {0}
  StepKeepsToMap rip (top ∷ rest) Probe event = Unit {0}
  StepKeepsToMap rip (top ∷ rest) Nowhere event = ⊥

  -- each event of each step keeps to the tables
  abbrev pub KeepsToMap : MachineState → Type 0
  KeepsToMap s = EachStep m w (λ here choice. EachEvent m w (StepKeepsToMap s.rip s.active here) s here choice) s

-- A module stays in its sandbox, and keeps to the tables of which the map tells. For every load address and instance, every
-- declared function that the host enters, and every number of steps under any choices: each event is permitted; each
-- transfer inside a function, and each call through a register or memory, keeps to the tables; each call but that of the
-- function that probes the stack is made with the heap's base in rdi; and a run that returns does so with rsp 8 above that
-- at its entry and the callee-saved registers as they were. At each state of a run something is known to stand at rip, or
-- that nothing does, so that each of these tells of some step.
pub record IsSandboxedBy (m : ModuleView) (map : Map) : Type 0 where
  pub steps : OfRuns m (λ w entered s. HasStep m w s)
  pub permitted : OfRuns m (λ w entered s. IsPermitted m w s)
  pub keeps_to_map : OfRuns m (λ w entered s. KeepsToMap m w map s)
  pub passes_heap : OfRuns m (λ w entered s. PassesHeap m w s)
  pub keeps_registers : OfRuns m (λ w entered s. KeepsRegisters m w entered s)

-- the map that has the entries of functions alone
abbrev pub entries : Map
entries = record { is_point = λ entry point. point == 0; callee = λ entry point. None }
