-- What stands at rip: an instruction of the function that was entered last, a stub, a function of the host, or nothing.
use Rattle.std.specs.Prelude.{◌≡◌, ℕ, ◌+◌, ◌-◌, ◌⊎◌, true, false, List, [], ◌∷◌, Some, Contains, slice_get}
use Rattle.vw_insn.specs.declared.instruction.Insn.{Insn}
use Rattle.vw_rows.specs.Spelling.{Spells}
use Rattle.vw_image.specs.declared.stub.Stub as image_stub
use Rattle.vw_layout.specs.declared.functions.Function.{Function}
use Rattle.vw_machine.specs.declared.world.World.{World}
use Rattle.vw_machine.specs.World.{Range, IsWithin, IsIn}
use Rattle.vw_machine.specs.Module.{ModuleView, bytes_from}
use Rattle.vw_machine.specs.State.{Activation}

-- what stands at rip
pub data Here : Type 0 where
  -- an instruction of this length
  Code : (i : Insn) (len : ℕ) → Here
  -- a stub with this slot, whose place counts from the load address
  Stub : (slot : ℕ) → Here
  -- a function of the host, but not the probe
  Host : Here
  -- the host's function that probes the stack
  Probe : Here
  Nowhere : Here

-- where the bytes of a function lie in an instance
abbrev pub function_range : World → Function → Range
function_range w f = record { from = w.load + f.entry; to = w.load + f.entry + f.size }

module _ (m : ModuleView) (w : World) where
  -- the activation is one of this declared function
  abbrev pub IsOf : Activation → Function → Type 0
  IsOf top f = Contains m.functions f × (top.entry ≡ w.load + f.entry)

  -- rip lies in the bytes of the activation's declared function
  pub record IsInside (top : Activation) (rip : ℕ) : Type 0 where
    pub function : Function
    pub of_top : IsOf top function
    pub inside : IsIn rip (function_range w function)

  -- An instruction of this length is spelled at rip, inside the declared function of the activation.
  pub record IsSpelledAt (top : Activation) (rip : ℕ) (i : Insn) (len : ℕ) : Type 0 where
    pub function : Function
    pub of_top : IsOf top function
    pub begins : IsIn rip (function_range w function)
    pub ends : IsWithin rip len (function_range w function)
    pub spelled : Spells (bytes_from (m.byte w) (rip - w.load) len) i

  -- rip is where the activation was entered, and a stub with this slot stands there
  pub record IsStubAt (top : Activation) (rip : ℕ) (slot : ℕ) : Type 0 where
    pub entered : rip ≡ top.entry
    pub place : ℕ
    pub at : rip ≡ w.load + place
    pub stub : image_stub.Stub
    pub there : m.stub place ≡ Some stub
    pub has_slot : slot ≡ stub.slot

  -- rip is the address of the host's function for an import, which is the probe
  abbrev pub IsProbeAt : ℕ → Type 0
  IsProbeAt rip = (number : ℕ) × (slice_get w.hosts number ≡ Some rip) × (m.is_probe number ≡ true)

  -- and one that is not
  abbrev pub IsHostAt : ℕ → Type 0
  IsHostAt rip = (number : ℕ) × (slice_get w.hosts number ≡ Some rip) × (m.is_probe number ≡ false)

  abbrev pub NoStubAt : Activation → ℕ → Type 0
  NoStubAt top rip = (slot : ℕ) → ¬ IsStubAt top rip slot

  -- What stands at rip, where the activation is the one entered last. The cases are tried in this order, so that inside
  -- the function nothing but an instruction stands: not even a stub, where nothing is spelled.
  abbrev pub StandsFor : Activation → ℕ → Here → Type 0
  StandsFor top rip (Code i len) = IsSpelledAt top rip i len
  StandsFor top rip (Stub slot) = (¬ IsInside top rip) × IsStubAt top rip slot
  StandsFor top rip Host = (¬ IsInside top rip) × NoStubAt top rip × IsHostAt rip
  StandsFor top rip Probe = (¬ IsInside top rip) × NoStubAt top rip × IsProbeAt rip
  StandsFor top rip Nowhere =
      (IsInside top rip × ((i : Insn) (len : ℕ) → ¬ IsSpelledAt top rip i len))
      ⊎ ((¬ IsInside top rip) × NoStubAt top rip × (¬ IsHostAt rip) × (¬ IsProbeAt rip))

  -- what stands at rip for these activations; where none is left, nothing does
  abbrev pub StandsAt : ℕ → List Activation → Here → Type 0
  StandsAt rip [] (Code i len) = ⊥
  StandsAt rip [] (Stub slot) = ⊥
  StandsAt rip [] Host = ⊥
  StandsAt rip [] Probe = ⊥
  StandsAt rip [] Nowhere = Unit {0}
  StandsAt rip (top ∷ rest) here = StandsFor top rip here
