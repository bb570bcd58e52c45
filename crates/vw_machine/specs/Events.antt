-- The events of a step: what it reads and writes, and where control goes.
use Rattle.std.specs.Prelude.{ℕ, ◌+◌, if◌then◌else◌, List, [], ◌∷◌, ◌++◌, map}
use Rattle.vw_insn.specs.declared.instruction.Insn.{Insn}
use Rattle.vw_insn.specs.Effect.{Access, Transfer, Next, To, Enter, Back, Stop, reads}
use Rattle.vw_stmt.specs.Accesses.{places_of}
use Rattle.vw_machine.specs.declared.world.World.{World}
use Rattle.vw_machine.specs.declared.choice.Choice.{Choice}
use Rattle.vw_machine.specs.declared.event.Event.{Event}
use Rattle.vw_machine.specs.declared.event.Event.TheVariants.{Read, Write, Goto}
use Rattle.vw_machine.specs.Module.{ModuleView}
use Rattle.vw_machine.specs.State.{Activation, MachineState}
use Rattle.vw_machine.specs.Standing.{Here, Code, Stub, Host, Probe, Nowhere}
use Rattle.vw_machine.specs.Step.{after_insn, accesses, does_trap, slot_word, slot_address, probe_traps}

-- where a transfer goes, seen from the instruction before `next`
abbrev pub transfer_events : ℕ → Transfer → List Event
transfer_events next Next = Goto next ∷ []
transfer_events next (To to) = Goto to ∷ []
transfer_events next (Enter to) = Goto to ∷ []
transfer_events next (Back to) = Goto to ∷ []
transfer_events next Stop = []

abbrev pub read_events : List Access → List Event
read_events all = map (λ a. Read a.at a.size) all

abbrev pub write_events : List Access → List Event
write_events all = map (λ a. Write a.at a.size) all

module _ (m : ModuleView) (w : World) where
  -- the reads, the writes and then the transfer of an instruction; one that traps has no transfer
  abbrev pub insn_events : MachineState → Insn → ℕ → Choice → List Event
  insn_events s i len choice =
      let after = after_insn m w s i len choice in
      let rs = reads i (s.rip + len) s.registers in
      read_events rs
      ++ write_events (places_of after.writes)
      ++ (if does_trap w i (accesses rs after.writes) choice then [] else transfer_events (s.rip + len) after.transfer)

  -- A stub reads its slot and goes to the word there. A host step has its transfer alone, and the probe none where it
  -- traps. Where nothing stands, the one event is the transfer to rip.
  abbrev pub events_from : MachineState → Activation → Here → Choice → List Event
  events_from s top (Code i len) choice = insn_events s i len choice
  events_from s top (Stub slot) choice = Read (slot_address w slot) 8 ∷ Goto (slot_word m w slot) ∷ []
  events_from s top Host choice = Goto top.back ∷ []
  events_from s top Probe choice = if probe_traps w s.registers then [] else Goto top.back ∷ []
  events_from s top Nowhere choice = Goto s.rip ∷ []

  abbrev pub events_of : MachineState → List Activation → Here → Choice → List Event
  events_of s [] here choice = Goto s.rip ∷ []
  events_of s (top ∷ rest) here choice = events_from s top here choice

  -- the events of the next step, of what stands at rip
  abbrev pub events : MachineState → Here → Choice → List Event
  events s here choice = events_of s s.active here choice
