-- What stands at rip, and what a step does, as the code has them.
use Rattle.std.specs.Prelude.{◌≡◌, ℕ, ◌+◌, Bool, not, ◌&&◌, ◌||◌, if◌then◌else◌, List, [], ◌∷◌, ◌++◌, Option, None, Some}
use Rattle.std.specs.List.{list_any, AllByRecursion}
use Rattle.vw_insn.specs.declared.instruction.Insn.{Insn}
use Rattle.vw_insn.specs.Listed.{IsListed}
use Rattle.vw_insn.specs.Effect.{Access, After, Transfer, Next, To, Enter, Back, Stop, raised, reads}
use Rattle.vw_insn.specs.Words.{put}
use Rattle.vw_effect.specs.Meaning.{reads_of, writes_of, transfer_of, after_of}
use Rattle.vw_stmt.specs.Accesses.{places_of}
use Rattle.vw_bits.specs.Places.{in_memory}
use Rattle.vw_image.specs.Words.{readable}
use Rattle.vw_image.specs.declared.word.Word.{Word}
use Rattle.vw_image.specs.declared.word.Word.TheVariants.{Plain, Based, Bound, Mixed, Outside}
use Rattle.vw_layout.specs.Tables.{is_empty_tag}
use Rattle.vw_layout.specs.declared.tables.TableInfo.{TableInfo}
use Rattle.vw_layout.specs.declared.tables.TableEntry.{TableEntry}
use Rattle.vw_layout.specs.declared.layout.Module.{Module as Declared}
use Rattle.vw_machine.specs.declared.world.World.{World}
use Rattle.vw_machine.specs.declared.event.Event.{Event}
use Rattle.vw_machine.specs.declared.event.Outcome.{Outcome}
use Rattle.vw_machine.specs.declared.event.Outcome.TheVariants as outcome
use Rattle.vw_machine.specs.declared.event.Event.TheVariants.{Read, Goto}
use Rattle.vw_machine.specs.declared.standing.Position.{Position}
use Rattle.vw_machine.specs.declared.standing.Position.TheVariants as position
use Rattle.vw_machine.specs.declared.standing.Outer.{Outer}
use Rattle.vw_machine.specs.declared.standing.Outer.TheVariants as outer
use Rattle.vw_machine.specs.declared.standing.Thing.{Thing}
use Rattle.vw_machine.specs.declared.standing.Thing.TheVariants as thing
use Rattle.vw_machine.specs.declared.doing.Deeds.{Deeds}
use Rattle.vw_machine.specs.declared.doing.Work.{Work}
use Rattle.vw_machine.specs.declared.choice.Choice.{Choice}
use Rattle.vw_machine.specs.World.{is_within, touches, guard_range, heap_range, loaded_range}
use Rattle.vw_machine.specs.Module.{ModuleView, is_in_table}
use Rattle.vw_machine.specs.State.{Activation, MachineState}
use Rattle.vw_machine.specs.Standing.{Here, Code, Stub, Host, Probe, Nowhere, IsInside, IsSpelledAt, IsHostAt, IsProbeAt}
use Rattle.vw_machine.specs.Step.{Ending, Went, Returned, Trapped, after_insn, accesses, does_trap, slot_word, slot_address, entered, go, arrive, host_registers, host_leaves, probe_traps}
use Rattle.vw_machine.specs.Permitted.{is_pointer, Permitted}
use Rattle.vw_machine.specs.Answers.{IsFirstRefused}
use Rattle.vw_machine.specs.Events.{read_events, write_events, transfer_events}

abbrev pub here_of_outer : Outer → Here
here_of_outer (outer.Stub slot to) = Stub slot
here_of_outer outer.Host = Host
here_of_outer outer.Probe = Probe

abbrev pub here_of : Thing → Here
here_of (thing.Insn i len) = Code i len
here_of (thing.Outer o) = here_of_outer o
here_of thing.Nowhere = Nowhere

-- a relocation gives the word
abbrev pub IsRelocated : Word → Type 0
IsRelocated (Plain number) = ⊥
IsRelocated (Based to) = Unit {0}
IsRelocated (Bound number) = Unit {0}
IsRelocated Mixed = ⊥
IsRelocated Outside = ⊥

-- the byte at an address is one of the image
abbrev pub is_image_byte : ModuleView → World → ℕ → Bool
is_image_byte m w a = list_any (λ part. is_within a 1 (loaded_range w part)) m.image

-- the byte at a place is one of the image that may be read
abbrev pub is_open : Declared → ℕ → Bool
is_open declared place =
    list_any (in_memory place 1) declared.image.segments && (readable declared.image place 1 || list_any (is_in_table place) declared.tables)

-- an entry that is not empty has this address
abbrev pub is_entry_to : World → ℕ → TableEntry → Bool
is_entry_to w to entry = not (is_empty_tag entry.tag) && is_pointer w entry.pointer to

-- an entry of the table does
abbrev pub has_entry_to : World → ℕ → TableInfo → Bool
has_entry_to w to table = list_any (is_entry_to w to) table.entries

module _ (m : ModuleView) (w : World) where
  -- this is where rip lies, seen from the declared function of the activation
  abbrev pub IsPositionOf : Activation → ℕ → Position → Type 0
  IsPositionOf top rip position.Outside = ¬ IsInside m w top rip
  IsPositionOf top rip position.Unspelled = IsInside m w top rip × ((i : Insn) (len : ℕ) → ¬ IsSpelledAt m w top rip i len)
  IsPositionOf top rip (position.Spelled i len) = IsSpelledAt m w top rip i len × IsListed i

  -- the word in a stub's slot
  abbrev pub IsKnownOuter : Outer → Type 0
  IsKnownOuter (outer.Stub slot to) = to ≡ slot_word m w slot
  IsKnownOuter outer.Host = Unit {0}
  IsKnownOuter outer.Probe = Unit {0}

  -- what is known of a thing beside where it stands
  abbrev pub IsKnown : Thing → Type 0
  IsKnown (thing.Insn i len) = IsListed i
  IsKnown (thing.Outer o) = IsKnownOuter o
  IsKnown thing.Nowhere = Unit {0}

  -- the thing is the function of the host at rip, or there is none
  abbrev pub IsHostThing : ℕ → Thing → Type 0
  IsHostThing rip (thing.Insn i len) = ⊥
  IsHostThing rip (thing.Outer (outer.Stub slot to)) = ⊥
  IsHostThing rip (thing.Outer outer.Host) = IsHostAt m w rip
  IsHostThing rip (thing.Outer outer.Probe) = IsProbeAt m w rip
  IsHostThing rip thing.Nowhere = (¬ IsHostAt m w rip) × (¬ IsProbeAt m w rip)

abbrev pub goto_events : Option ℕ → List Event
goto_events None = []
goto_events (Some to) = Goto to ∷ []

-- the events that slots have, in order
abbrev pub events_in : List (Option Event) → List Event
events_in [] = []
events_in (None ∷ slots) = events_in slots
events_in (Some event ∷ slots) = event ∷ events_in slots

-- the events of what a step does
abbrev pub deed_events : Deeds → List Event
deed_events deeds =
    read_events (reads_of deeds.reads)
    ++ write_events (places_of (writes_of deeds.write))
    ++ goto_events deeds.goto

-- an access touches the guard, or under the choice the heap
abbrev pub is_trap : World → Choice → Access → Bool
is_trap w choice a = touches a.at a.size (guard_range w) || (choice.trap && touches a.at a.size (heap_range w))

-- the return address of the activation that was entered last
abbrev pub back_of : List Activation → Option ℕ
back_of [] = None
back_of (top ∷ rest) = Some top.back

-- the events of what is none of the module's code
abbrev pub outer_events : World → MachineState → Outer → List Event
outer_events w s (outer.Stub slot to) = Read (slot_address w slot) 8 ∷ Goto to ∷ []
outer_events w s outer.Host = goto_events (back_of s.active)
outer_events w s outer.Probe =
    if probe_traps w s.registers then [] else goto_events (back_of s.active)

-- the events of what an instruction does
abbrev pub work_events : Work → List Event
work_events work =
    read_events (reads_of work.reads)
    ++ write_events (places_of (writes_of work.after.write))
    ++ (if work.traps then [] else transfer_events work.next (transfer_of work.after.transfer))

-- what is behind an instruction of this length, what it reads, what it leaves, and whether it traps
pub record IsWork (m : ModuleView) (w : World) (s : MachineState) (i : Insn) (len : ℕ) (choice : Choice) (work : Work) : Type 0 where
  pub what_is_next : work.next ≡ s.rip + len
  pub what_is_read : reads_of work.reads ≡ reads i (s.rip + len) s.registers
  pub what_is_left : after_of work.after ≡ after_insn m w s i len choice
  pub whether_it_traps : work.traps ≡ does_trap w i (accesses (reads i (s.rip + len) s.registers) (after_insn m w s i len choice).writes) choice

-- the first of these events that is not permitted, or that each is
abbrev pub IsRefusal : ModuleView → World → MachineState → Here → List Event → Option Event → Type 0
IsRefusal m w s here all None = AllByRecursion (Permitted m w s here) all
IsRefusal m w s here all (Some event) = IsFirstRefused m w s here all event

-- a step from a state has this ending, seen by what the code answers and by the state that it leaves
abbrev pub IsEnding : MachineState → Ending → Outcome → MachineState → Type 0
IsEnding s ending outcome.Went s' = ending ≡ Went s'
IsEnding s ending outcome.Returned s' = ending ≡ Returned s'
IsEnding s ending outcome.Trapped s' = (ending ≡ Trapped) × (s' ≡ s)
IsEnding s ending (outcome.Violation event) s' = ⊥

-- the activations after an instruction that goes somewhere, which `top` made, with what it wrote
abbrev pub active_after : After → ℕ → Transfer → Activation → List Activation → List Activation
active_after after next Next top rest = top ∷ rest
active_after after next (To to) top rest = top ∷ rest
active_after after next (Enter to) top rest = entered after next to ∷ top ∷ rest
active_after after next (Back to) top rest = rest
active_after after next Stop top rest = rest

-- the ending of a step of an instruction
abbrev pub work_ending : World → MachineState → Activation → List Activation → Work → Ending
work_ending w s top rest work =
    if work.traps then Trapped else go w s top rest (after_of work.after) work.next (transfer_of work.after.transfer)

-- the ending of a step of the probe
abbrev pub probe_ending :
    World → MachineState → Activation → List Activation → Choice → Ending
probe_ending w s top rest choice =
    if probe_traps w s.registers then Trapped
    else arrive w (host_leaves w s top rest (put s.registers 4 (raised (s.registers 4))) choice)

-- the ending of a step of what is none of the module's code
abbrev pub outer_ending :
    World → MachineState → Activation → List Activation → Outer → Choice → Ending
outer_ending w s top rest (outer.Stub slot to) choice =
    arrive w (record s { rip = to; active = record top { entry = to } ∷ rest })
outer_ending w s top rest outer.Host choice =
    arrive w (host_leaves w s top rest (host_registers s.registers choice) choice)
outer_ending w s top rest outer.Probe choice = probe_ending w s top rest choice
