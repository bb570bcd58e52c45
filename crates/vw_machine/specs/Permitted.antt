-- Which events a sandbox permits.
use Rattle.std.specs.Prelude.{◌≡◌, ℕ, ◌+◌, ◌-◌, ◌%◌, ◌^◌, ◌<◌, ◌≤◌, ◌⊎◌, ◌==◌, Bool, true, false, ◌||◌, List, [], ◌∷◌, Some, Contains, slice_index}
use Rattle.std.specs.List.{list_any}
use Rattle.vw_insn.specs.Effect.{Way, Ordinary, Return, Direct, Indirect, way}
use Rattle.vw_image.specs.declared.word.Word.{Word}
use Rattle.vw_image.specs.declared.word.Word.TheVariants.{Plain, Based, Bound, Mixed, Outside}
use Rattle.vw_image.specs.declared.stub.Stub as image_stub
use Rattle.vw_layout.specs.declared.functions.Function.{Function}
use Rattle.vw_layout.specs.declared.tables.TableInfo.{TableInfo}
use Rattle.vw_layout.specs.declared.tables.TableEntry.{TableEntry}
use Rattle.vw_layout.specs.Tables.{is_empty_tag}
use Rattle.vw_machine.specs.declared.world.World.{World}
use Rattle.vw_machine.specs.declared.event.Event.{Event}
use Rattle.vw_machine.specs.declared.event.Event.TheVariants.{Read, Write, Goto}
use Rattle.vw_machine.specs.World.{Range, IsWithin, IsIn, loaded_range, heap_range, globals_range}
use Rattle.vw_machine.specs.Module.{ModuleView, is_in_table}
use Rattle.vw_machine.specs.State.{Activation, MachineState}
use Rattle.vw_machine.specs.Standing.{Here, Code, Stub, Host, Probe, Nowhere, IsOf, function_range, StandsAt}
use Rattle.vw_machine.specs.Step.{slot_word, slot_address}

-- a pointer has this address in an instance
abbrev pub is_pointer : World → Word → ℕ → Bool
is_pointer w (Plain number) to = false
is_pointer w (Based place) to = to == (w.load + place) % 2 ^ 64
is_pointer w (Bound number) to = to == slice_index w.hosts number
is_pointer w Mixed to = false
is_pointer w Outside to = false

module _ (m : ModuleView) (w : World) where
  -- the byte at q is one of the image that may be read: a readable one, or one of a declared table
  pub record IsReadableAt (q : ℕ) : Type 0 where
    pub part : Range
    pub of_image : Contains m.image part
    pub inside : IsIn q (loaded_range w part)
    pub may_read : (m.is_readable (q - w.load) || list_any (is_in_table (q - w.load)) m.tables) ≡ true

  -- Whoever steps may read n bytes from a, where they lie wholly in one of these: the heap's reservation, the instance
  -- word, which is read as a whole, the globals, readable bytes of the image, bytes that the activation has written, and
  -- the 4,096 bytes above its return address, which are its caller's.
  abbrev pub MayRead : Activation → ℕ → ℕ → Type 0
  MayRead top a n =
      IsWithin a n (heap_range w)
      ⊎ ((a + 8 ≡ w.heap) × (n ≡ 8))
      ⊎ IsWithin a n (globals_range w)
      ⊎ ((q : ℕ) → a ≤ q → q < a + n → IsReadableAt q)
      ⊎ ((q : ℕ) → a ≤ q → q < a + n → top.written q ≡ true)
      ⊎ IsWithin a n (record { from = top.rsp0 + 8; to = top.rsp0 + 4104 })

  -- It may write n bytes at a in the heap's reservation, in the globals, and in its frame with the guard below it, so
  -- never over its return address.
  abbrev pub MayWrite : Activation → ℕ → ℕ → Type 0
  MayWrite top a n =
      IsWithin a n (heap_range w) ⊎ IsWithin a n (globals_range w) ⊎ IsWithin a n (record { from = w.stack_low - 8192; to = top.rsp0 })

  -- control stays in the bytes of the function
  abbrev pub StaysInside : Activation → ℕ → Type 0
  StaysInside top to = (f : Function) × IsOf m w top f × IsIn to (function_range w f)

  -- a declared function or a stub begins at the address
  abbrev pub IsCallee : ℕ → Type 0
  IsCallee to =
      (place : ℕ) × (to ≡ w.load + place)
      × (((f : Function) × Contains m.functions f × (f.entry ≡ place)) ⊎ ((stub : image_stub.Stub) × (m.stub place ≡ Some stub)))

  -- the address is the pointer of an entry, not empty, of a declared table
  pub record IsTabled (to : ℕ) : Type 0 where
    pub table : TableInfo
    pub declared : Contains m.tables table
    pub entry : TableEntry
    pub of_table : Contains table.entries entry
    pub not_empty : is_empty_tag entry.tag ≡ false
    pub pointer : is_pointer w entry.pointer to ≡ true

  -- What is permitted to an instruction, by the way in which it transfers control. A return reads its return address,
  -- all of it at once and nothing else, and goes there. A call that names its target goes to a declared function or a
  -- stub, and another call to the pointer of a table's entry. Every other instruction stays in its function.
  abbrev pub MayDo : Activation → Way → Event → Type 0
  MayDo top Ordinary (Read a n) = MayRead top a n
  MayDo top Ordinary (Write a n) = MayWrite top a n
  MayDo top Ordinary (Goto to) = StaysInside top to
  MayDo top Return (Read a n) = (a ≡ top.rsp0) × (n ≡ 8)
  MayDo top Return (Write a n) = MayWrite top a n
  MayDo top Return (Goto to) = to ≡ top.back
  MayDo top Direct (Read a n) = MayRead top a n
  MayDo top Direct (Write a n) = MayWrite top a n
  MayDo top Direct (Goto to) = IsCallee to
  MayDo top Indirect (Read a n) = MayRead top a n
  MayDo top Indirect (Write a n) = MayWrite top a n
  MayDo top Indirect (Goto to) = IsTabled to

  -- a stub may read its slot too, all eight bytes, and goes to the word there
  abbrev pub StubMayDo : Activation → ℕ → Event → Type 0
  StubMayDo top slot (Read a n) = ((a ≡ slot_address w slot) × (n ≡ 8)) ⊎ MayRead top a n
  StubMayDo top slot (Write a n) = MayWrite top a n
  StubMayDo top slot (Goto to) = to ≡ slot_word m w slot

  -- a function of the host goes to the return address
  abbrev pub HostMayDo : Activation → Event → Type 0
  HostMayDo top (Read a n) = MayRead top a n
  HostMayDo top (Write a n) = MayWrite top a n
  HostMayDo top (Goto to) = to ≡ top.back

  abbrev pub PermittedFrom : Activation → Here → Event → Type 0
  PermittedFrom top (Code i len) event = MayDo top (way i) event
  PermittedFrom top (Stub slot) event = StubMayDo top slot event
  PermittedFrom top Host event = HostMayDo top event
  PermittedFrom top Probe event = HostMayDo top event
  PermittedFrom top Nowhere event = ⊥

  abbrev pub PermittedOf : List Activation → Here → Event → Type 0
  PermittedOf [] here event = ⊥
  PermittedOf (top ∷ rest) here event = PermittedFrom top here event

  -- an event of the next step is permitted; where no step is defined, none is
  abbrev pub Permitted : MachineState → Here → Event → Type 0
  Permitted s here event = PermittedOf s.active here event

  -- an event is permitted from a state, whatever stands at rip
  abbrev pub IsPermitted : MachineState → Event → Type 0
  IsPermitted s event = (here : Here) × StandsAt m w s.rip s.active here × Permitted s here event
