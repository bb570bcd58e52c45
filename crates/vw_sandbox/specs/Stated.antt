-- The rule of kept assertions, over the statements of instructions: what is asked speaks of runs of statements, as the
-- equations of an analysis do, and not of the effects of instructions.
use Rattle.std.specs.Prelude.{◌≡◌, ℕ, ◌+◌, ◌^◌, ◌<◌, ◌≤◌, true, false, Contains}
use Rattle.std.specs.List.{AllByRecursion}
use Rattle.vw_insn.specs.declared.instruction.Insn.{Insn}
use Rattle.vw_insn.specs.Effect.{way}
use Rattle.vw_insn.specs.Listed.{IsListed}
use Rattle.vw_insn.specs.Words.{Registers}
use Rattle.vw_stmt.specs.Does.{Does}
use Rattle.vw_stmt.specs.Environment.{Environment, start}
use Rattle.vw_stmt.specs.Laws.{HasWords, AreBytes}
use Rattle.vw_lift.specs.Lifted.{lifted}
use Rattle.vw_lift.specs.Simulation.{HasWord}
use Rattle.vw_rows.specs.Spelling.{Spells}
use Rattle.vw_layout.specs.declared.functions.Function.{Function}
use Rattle.vw_machine.specs.declared.world.World.{World}
use Rattle.vw_machine.specs.declared.choice.Choice.{Choice}
use Rattle.vw_machine.specs.declared.event.Event.TheVariants.{Read}
use Rattle.vw_machine.specs.Module.{ModuleView, bytes_from}
use Rattle.vw_machine.specs.State.{Activation, store, after_writes}
use Rattle.vw_machine.specs.Standing.{IsOf}
use Rattle.vw_machine.specs.Step.{loads, accesses, does_trap}
use Rattle.vw_machine.specs.Permitted.{MayDo, MayWrite}
use Rattle.vw_sandbox.specs.Maps.{Map}
use Rattle.vw_sandbox.specs.Assertions.{Moment, IsEntered, IsRunning, GoesBy}

-- what an environment has of a moment
abbrev pub moment_in : Environment → Moment
moment_in e = record { registers = e.registers; flags = e.flags; bytes = e.bytes }

module _ (m : ModuleView) (w : World) (map : Map) (At : Function → ℕ → Registers → Activation → Moment → Type 0) where
  -- Where a run of the statements of the instruction at a point came to this environment, it accessed only what it may,
  -- and goes on to a point at which what is asserted holds, or it traps, returns, or calls as it may.
  pub record IsRunKept (f : Function) (point : ℕ) (i : Insn) (len : ℕ) (entered : Registers) (top : Activation) (now : Moment) (choice : Choice) (e : Environment) : Type 0 where
    pub reads_permitted : AllByRecursion (λ a. MayDo m w top (way i) (Read a.at a.size)) e.reads
    pub writes_permitted : AllByRecursion (λ v. MayWrite m w top v.at v.size) e.writes
    pub goes_on :
        does_trap w i (accesses e.reads e.writes) choice ≡ false
        → GoesBy m w map At f point (point + len) entered top (after_writes w top e.writes) now (moment_in e) (w.load + f.entry + point + len) (way i) e.transfer

  -- an instruction stands at a point of the function, and each run of its statements keeps what is asserted
  pub record IsPointStated (f : Function) (point : ℕ) : Type 0 where
    pub i : Insn
    pub len : ℕ
    pub begins : point < f.size
    pub inside : point + len ≤ f.size
    pub spelled : Spells (bytes_from (m.byte w) (f.entry + point) len) i
    pub listed : IsListed i
    pub word : HasWord i
    pub each :
        (entered : Registers) (top : Activation) (now : Moment) → IsRunning m w f top now → At f point entered top now
        → (choice : Choice) (tmp : ℕ) → tmp < 2 ^ 64 → (e : Environment) → HasWords e → AreBytes e.bytes
        → Does (loads m w choice) (store w) (w.load + f.entry + point + len) (lifted i) (start now.registers tmp now.flags now.bytes) e
        → IsRunKept f point i len entered top now choice e

  -- What is asserted holds where a function is entered, and each run of an instruction's statements keeps it.
  pub record AreStated : Type 0 where
    pub begins : (f : Function) → Contains m.functions f → map.is_point f.entry 0 ≡ true
    pub enters :
        (f : Function) → Contains m.functions f → (top : Activation) (now : Moment) → IsOf m w top f → IsEntered m w top now
        → At f 0 now.registers top now
    pub keeps : (f : Function) → Contains m.functions f → (point : ℕ) → map.is_point f.entry point ≡ true → IsPointStated f point
