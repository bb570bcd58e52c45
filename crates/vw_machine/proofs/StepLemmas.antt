-- How a step ends, and what it leaves.
use Rattle.std.proofs.Common.{◌≡◌, ℕ, ◌+◌, Bool, true, false, if◌then◌else◌, List, [], ◌∷◌, ◌++◌, refl, sym, ◌∙◌, ap, subst}
use Rattle.vw_insn.specs.declared.instruction.Insn.{Insn}
use Rattle.vw_insn.specs.Words.{Registers, Flags}
use Rattle.vw_insn.specs.Effect.{After, Transfer, Next, To, Enter, Back, Stop, reads}
use Rattle.vw_effect.specs.Meaning.{after_of, transfer_of}
use Rattle.vw_machine.specs.declared.world.World.{World}
use Rattle.vw_machine.specs.declared.choice.Choice.{Choice}
use Rattle.vw_machine.specs.declared.event.Event.{Event}
use Rattle.vw_machine.specs.declared.event.Event.TheVariants.{Goto}
use Rattle.vw_machine.specs.declared.event.Outcome.{Outcome}
use Rattle.vw_machine.specs.declared.event.Outcome.TheVariants as outcome
use Rattle.vw_machine.specs.declared.machine.Frame.{Frame}
use Rattle.vw_machine.specs.declared.doing.Work.{Work}
use Rattle.vw_machine.specs.Module.{ModuleView}
use Rattle.vw_machine.specs.State.{Bytes, Activation, MachineState, after_writes}
use Rattle.vw_machine.specs.Standing.{Here, Code, Stub, Host, Probe, StandsAt}
use Rattle.vw_machine.specs.Step.{Trapped, after_insn, accesses, does_trap, arrive, left, go, step, step_of, step_from}
use Rattle.vw_machine.specs.Events.{transfer_events}
use Rattle.vw_machine.specs.Kept.{activation_of, activations_of}
use Rattle.vw_machine.specs.Answers.{AllPermitted, EndsAs}
use Rattle.vw_machine.specs.declared.standing.Outer.{Outer}
use Rattle.vw_machine.specs.declared.standing.Outer.TheVariants as outer
use Rattle.vw_machine.specs.Found.{here_of_outer, IsKnownOuter, IsWork, IsEnding, active_after, work_ending, outer_ending}
use Rattle.vw_machine.proofs.FrameLemmas.{activations_of-push}

-- the state that has these parts
abbrev pub state : Registers → ℕ → Flags → Bytes → List Activation → MachineState
state registers rip flags bytes active = record { registers = registers; rip = rip; flags = flags; bytes = bytes; active = active }

pub same_state : (registers : Registers) (i j : ℕ) (f g : Flags) (a b : Bytes) (xs ys : List Activation) → i ≡ j → f ≡ g → a ≡ b → xs ≡ ys → state registers i f a xs ≡ state registers j g b ys
same_state registers i j f g a b xs ys rip flags bytes active =
    ap (λ (n : ℕ). state registers n f a xs) rip
    ∙ ap (λ (n : Flags). state registers j n a xs) flags
    ∙ ap (λ (n : Bytes). state registers j g n xs) bytes
    ∙ ap (λ (n : List Activation). state registers j g b n) active

same_head : (a b : Activation) (xs ys : List Activation) → a ∷ xs ≡ b ∷ ys → a ≡ b
same_head a b xs ys same = cc

same_tail : (a b : Activation) (xs ys : List Activation) → a ∷ xs ≡ b ∷ ys → xs ≡ ys
same_tail a b xs ys same = cc

-- the frame that is taken off is that of the activation entered last, and the others are those below it
pub taken : (frames rest : List Frame) (frame : Frame) (top : Activation) (others : List Activation)
    → frames ≡ rest ++ frame ∷ [] → activations_of frames ≡ top ∷ others → (activation_of frame ≡ top) × (activations_of rest ≡ others)
taken frames rest frame top others is active =
    let same : activation_of frame ∷ activations_of rest ≡ top ∷ others = sym (activations_of-push rest frame) ∙ sym (ap activations_of is) ∙ active in
    (same_head (activation_of frame) top (activations_of rest) others same, same_tail (activation_of frame) top (activations_of rest) others same)

module _ (w : World) (s : MachineState) (top : Activation) (rest : List Activation) where
  goes_by : (after : After) (next to : ℕ) (traps : Bool) (transfer : Transfer) → Goto to ∷ [] ≡ (if traps then [] else transfer_events next transfer)
      → (if traps then Trapped else go w s top rest after next transfer)
      ≡ arrive w (left w s after to (active_after after next transfer (after_writes w top after.writes) rest))
  goes_by after next to true transfer is = absurd (let none : ◌≡◌ {A = List Event} (Goto to ∷ []) [] = is in cc)
  goes_by after next to false Next is =
      let same : to ≡ next = cc in
      ap (λ (n : ℕ). arrive w (left w s after n (after_writes w top after.writes ∷ rest))) (sym same)
  goes_by after next to false (To a) is =
      let same : to ≡ a = cc in
      ap (λ (n : ℕ). arrive w (left w s after n (after_writes w top after.writes ∷ rest))) (sym same)
  goes_by after next to false (Enter a) is =
      let same : to ≡ a = cc in
      let active = active_after after next (Enter a) (after_writes w top after.writes) rest in
      ap (λ (n : ℕ). arrive w (left w s after n active)) (sym same)
  goes_by after next to false (Back a) is =
      let same : to ≡ a = cc in
      ap (λ (n : ℕ). arrive w (left w s after n rest)) (sym same)
  goes_by after next to false Stop is = absurd (let none : ◌≡◌ {A = List Event} (Goto to ∷ []) [] = is in cc)

  -- an instruction that goes somewhere
  pub goes : (work : Work) (to : ℕ) → Goto to ∷ [] ≡ (if work.traps then [] else transfer_events work.next (transfer_of work.after.transfer))
      → work_ending w s top rest work
      ≡ arrive w (left w s (after_of work.after) to (active_after (after_of work.after) work.next (transfer_of work.after.transfer) (after_writes w top (after_of work.after).writes) rest))
  goes work to is = goes_by (after_of work.after) work.next to work.traps (transfer_of work.after.transfer) is

  -- the ending of a step of an instruction is that of what it does
  pub ending_of_work : (m : ModuleView) (i : Insn) (len : ℕ) (choice : Choice) (work : Work) → IsWork m w s i len choice work → work_ending w s top rest work ≡ step_from m w s top rest (Code i len) choice
  ending_of_work m i len choice work is =
      let f = λ (traps : Bool) (after : After) (next : ℕ). if traps then Trapped else go w s top rest after next after.transfer in
      let after = after_insn m w s i len choice in
      ap (λ (a : After). f work.traps a work.next) is.what_is_left
      ∙ ap (λ (b : Bool). f b after work.next) is.whether_it_traps
      ∙ ap (λ (n : ℕ). f (does_trap w i (accesses (reads i (s.rip + len) s.registers) after.writes) choice) after n) is.what_is_next

module _ (m : ModuleView) (w : World) (s : MachineState) (choice : Choice) (here : Here) where
  ends : (found : Outcome) (s' : MachineState) → AllPermitted m w s choice here → IsEnding s (step m w s here choice) found s' → EndsAs m w s choice here found s'
  ends outcome.Went s' all is = (all, is)
  ends outcome.Returned s' all is = (all, is)
  ends outcome.Trapped s' all is = (all, is.0, is.1)
  ends (outcome.Violation event) s' all is = absurd is

  -- what ends a step where the activation that makes it is known ends it
  pub ends_by : ¬ StandsAt m w s.rip [] here → StandsAt m w s.rip s.active here → AllPermitted m w s choice here
      → (found : Outcome) (s' : MachineState)
      → ((top : Activation) (rest : List Activation) → s.active ≡ top ∷ rest → IsEnding s (step_from m w s top rest here choice) found s')
      → EndsAs m w s choice here found s'
  ends_by none stands all found s' ending = ends found s' all (by_active s.active refl stands)
    where
      by_active : (active : List Activation) → s.active ≡ active → StandsAt m w s.rip active here → IsEnding s (step_of m w s active here choice) found s'
      by_active [] is stands = absurd (none stands)
      by_active (top ∷ rest) is stands = ending top rest is

-- so does a step of what is none of the module's code
pub outer_ends : (m : ModuleView) (w : World) (s : MachineState) (choice : Choice) (o : Outer)
    → StandsAt m w s.rip s.active (here_of_outer o) → IsKnownOuter m w o
    → AllPermitted m w s choice (here_of_outer o) → (found : Outcome) (s' : MachineState)
    → ((top : Activation) (rest : List Activation) → s.active ≡ top ∷ rest
    → IsEnding s (outer_ending w s top rest o choice) found s')
    → EndsAs m w s choice (here_of_outer o) found s'
outer_ends m w s choice (outer.Stub slot to) stands known all found s' ending =
    ends_by m w s choice (Stub slot) (λ none. none) stands all found s'
    (λ top rest active.
    subst (λ (n : ℕ). IsEnding s (arrive w (record s { rip = n; active = record top { entry = n } ∷ rest })) found s')
    known (ending top rest active))
outer_ends m w s choice outer.Host stands known all found s' ending =
    ends_by m w s choice Host (λ none. none) stands all found s' ending
outer_ends m w s choice outer.Probe stands known all found s' ending =
    ends_by m w s choice Probe (λ none. none) stands all found s' ending
