-- Assertions that are kept: of functions that return at once.
use Rattle.std.proofs.Common.{◌≡◌, ℕ, ◌+◌, ◌%◌, ◌^◌, ◌≤◌, ◌<◌, ◌==◌, ◌&&◌, Bool, true, false, if◌then◌else◌, refl, sym, ap, ◌∙◌, subst, arith, lit<}
use Rattle.std.specs.Prelude.{Contains}
use Rattle.std.proofs.lemmas.Bool.{false≢true, eqb-true}
use Rattle.std.proofs.lemmas.Bool.Decides.{nat_tests}
use Rattle.std.proofs.Math.Nat.{mod-lt}
use Rattle.vw_bits.specs.Fields.{load}
use Rattle.vw_insn.specs.declared.instruction.Insn.TheVariants as insn
use Rattle.vw_insn.specs.Effect.{raised}
use Rattle.vw_insn.specs.Words.{Registers}
use Rattle.vw_rows.specs.Spelling.{Spells}
use Rattle.vw_layout.specs.declared.functions.Function.{Function}
use Rattle.vw_machine.specs.declared.world.World.{World}
use Rattle.vw_machine.specs.declared.choice.Choice.{Choice}
use Rattle.vw_machine.specs.World.{Range, IsWithin, is_within, stack_range}
use Rattle.vw_machine.specs.Module.{ModuleView, bytes_from}
use Rattle.vw_machine.specs.State.{Activation}
use Rattle.vw_machine.specs.Step.{is_saved, loads}
use Rattle.vw_sandbox.specs.Maps.{entries}
use Rattle.vw_sandbox.specs.Assertions.{Moment, SavesRegisters, IsRunning, IsStepKept, IsPointKept, AreKept}
use Rattle.vw_machine.proofs.Regions.{stack_ends}
use Rattle.vw_sandbox.proofs.Instances.{heap_or_stack}
use Rattle.vw_sandbox.proofs.SetUp.{IsSetUp}

chosen : {A : Type 0} (b : Bool) (x y : A) → b ≡ false → (if b then x else y) ≡ y
chosen true x y h = absurd (let e : true ≡ false = h in cc)
chosen false x y h = refl

taken : {A : Type 0} (b : Bool) (x y : A) → b ≡ true → (if b then x else y) ≡ x
taken true x y h = refl
taken false x y h = absurd (let e : false ≡ true = h in cc)

refuted : (b : Bool) → (b ≡ true → ⊥) → b ≡ false
refuted true never = absurd (never refl)
refuted false never = refl

both : (a b : Bool) → a && b ≡ true → (a ≡ true) × (b ≡ true)
both true b h = (refl, h)
both false b h = absurd (let e : false ≡ true = h in cc)

within_is_true : (a n : ℕ) (range : Range) → IsWithin a n range → is_within a n range ≡ true
within_is_true a n range h = let one = h.0 in let two = h.1 in grind (arith, nat_tests)

-- rsp is at the return address, and the callee-saved registers are as they were at the entry
abbrev pub JustEntered : Function → ℕ → Registers → Activation → Moment → Type 0
JustEntered f point entered top now = (now.registers 4 ≡ top.rsp0) × SavesRegisters entered now.registers

module _ (m : ModuleView) (w : World) (setup : IsSetUp m w) (some : (f : Function) → Contains m.functions f → 1 ≤ f.size)
    (returns : (f : Function) → Contains m.functions f → Spells (bytes_from (m.byte w) f.entry 1) insn.Ret) where
  module _ (f : Function) (entered : Registers) (top : Activation) (now : Moment) (running : IsRunning m w f top now) (holds : JustEntered f 0 entered top now) (choice : Choice) where
    at_top : (now.registers 4 + 0) % 2 ^ 64 ≡ top.rsp0
    at_top = omega (arith, holds.0, running.framed.high, stack_ends setup.laid)

    -- the return address is read from the stack
    return_address : (a : ℕ) → a ≡ top.rsp0 → loads m w choice now.bytes a 8 ≡ top.back
    return_address a is =
        let low = running.framed.low in
        let high = running.framed.high in
        let ends = stack_ends setup.laid in
        let room = setup.laid.room_below_heap in
        let not_word : (a + 8 == w.heap) && true ≡ false = refuted _ (λ h.
        let word : a + 8 ≡ w.heap = grind (arith, nat_tests, (both (a + 8 == w.heap) true h).0) in
        heap_or_stack setup.laid a (omega arith) (omega arith) (omega arith) (omega arith)) in
        let in_stack : is_within a 8 (stack_range w) ≡ true = within_is_true a 8 (stack_range w) (omega arith, omega arith) in
        chosen ((a + 8 == w.heap) && true) _ _ not_word ∙ (taken (is_within a 8 (stack_range w)) _ _ in_stack ∙ (ap (λ (q : ℕ). load now.bytes q 8) is ∙ running.return))

    word : (q : ℕ) (b : Bool) → (if b then raised (now.registers 4) else now.registers q) < 2 ^ 64
    word q true = mod-lt _ (lit< tt)
    word q false = running.words.registers q

    saves : (q : ℕ) → is_saved q ≡ true → (b : Bool) → (q == 4) ≡ b → (if b then raised (now.registers 4) else now.registers q) ≡ entered q
    saves q s true e = absurd (false≢true (ap is_saved (sym (eqb-true q 4 e)) ∙ s))
    saves q s false e = holds.1 q s

    ret_kept : IsStepKept m w entries JustEntered f 0 insn.Ret 1 entered top now choice
    ret_kept = record {
      reads_permitted = ((at_top, refl), tt);
      writes_permitted = tt;
      words = record { registers = λ q. word q (q == 4); bytes = running.words.bytes };
      goes_on = λ free. (
        return_address ((now.registers 4 + 0) % 2 ^ 64) at_top,
        omega (arith, holds.0, running.framed.high, stack_ends setup.laid),
        λ q s. saves q s (q == 4) refl,
      );
    }

  entry_kept : (f : Function) → Contains m.functions f → IsPointKept m w entries JustEntered f 0
  entry_kept f listed = record {
    i = insn.Ret;
    len = 1;
    begins = some f listed;
    inside = some f listed;
    spelled = subst (λ (p : ℕ). Spells (bytes_from (m.byte w) p 1) insn.Ret) (omega arith) (returns f listed);
    each = λ entered top now running holds choice. ret_kept f entered top now running holds choice;
  }

  pub returns_kept : AreKept m w entries JustEntered
  returns_kept = record {
    begins = λ f listed. refl;
    enters = λ f listed top now of_top begun. (begun.rsp, λ q s. refl);
    keeps = λ f listed point is. subst (IsPointKept m w entries JustEntered f) (sym (eqb-true point 0 is)) (entry_kept f listed);
  }
