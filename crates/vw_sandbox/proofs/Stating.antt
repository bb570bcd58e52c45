-- Where each run of an instruction's statements keeps what is asserted, each of its steps does.
use Rattle.std.proofs.Common.{◌≡◌, ℕ, zero, suc, ◌+◌, ◌-◌, ◌*◌, ◌%◌, ◌^◌, ◌≤◌, ◌<◌, ◌==◌, ◌&&◌, Bool, true, false, if◌then◌else◌, Option, Some, None, slice_index, List, arith, lit<}
use Rattle.std.specs.Prelude.{nat_lt}
use Rattle.std.specs.List.{find, AllByRecursion}
use Rattle.std.specs.Option.{option_map_or}
use Rattle.std.proofs.Math.Nat.{mod-lt, mod-le, pow-le-pow_right, pow-suc}
use Rattle.vw_bits.specs.Fields.{load}
use Rattle.vw_bits.specs.Places.{in_memory}
use Rattle.vw_bits.specs.declared.records.Segment.{Segment}
use Rattle.vw_dynamic.specs.declared.dynamic.Relocation.{Relocation}
use Rattle.vw_insn.specs.declared.instruction.Insn.{Insn}
use Rattle.vw_insn.specs.Effect.{effect, reads}
use Rattle.vw_insn.specs.Listed.{IsListed}
use Rattle.vw_insn.specs.Words.{Registers}
use Rattle.vw_stmt.specs.declared.statement.Stmt.{Stmt}
use Rattle.vw_stmt.specs.Environment.{Environment}
use Rattle.vw_stmt.specs.Laws.{AreBytes, HoldsWords, KeepsWords}
use Rattle.vw_stmt.specs.Lifted.{IsLifted}
use Rattle.vw_lift.specs.Lifted.{lifted}
use Rattle.vw_lift.specs.Simulation.{first_loaded, finish, IsRunOf, IsInForm, HasWord}
use Rattle.vw_image.specs.Image.{Contents, segment_byte, memory_byte, touches, byte_of, relocated_word, image_byte, image_of}
use Rattle.vw_rows.specs.Numbers.{IsBytes}
use Rattle.vw_layout.specs.declared.functions.Function.{Function}
use Rattle.vw_machine.specs.declared.world.World.{World}
use Rattle.vw_machine.specs.declared.choice.Choice.{Choice}
use Rattle.vw_machine.specs.World.{IsLaidOut, is_within, stack_range}
use Rattle.vw_machine.specs.Choices.{number_of, open_of}
use Rattle.vw_machine.specs.Module.{ModuleView, module_of}
use Rattle.vw_machine.specs.State.{Bytes, Activation, is_in_stack, is_one_of, store}
use Rattle.vw_machine.specs.Step.{is_in_image, image_number, loads}
use Rattle.vw_sandbox.specs.Maps.{Map}
use Rattle.vw_sandbox.specs.Assertions.{Moment, IsRunning, IsStepKept, IsPointKept, AreKept}
use Rattle.vw_sandbox.specs.Stated.{IsPointStated, AreStated}

-- what the crates below say of statements
pub record StatementLaws : Type 0 where
  pub form : (i : Insn) → IsListed i → HasWord i → IsInForm (lifted i)
  pub run : (i : Insn) → IsListed i → IsRunOf (lifted i) i
  pub words : (loads : (ℕ → ℕ) → ℕ → ℕ → ℕ) (stores : (ℕ → ℕ) → ℕ → ℕ → ℕ → ℕ → ℕ) (next : ℕ) (stmts : List Stmt) → HoldsWords loads stores → AllByRecursion IsLifted stmts → KeepsWords loads stores next stmts

pub load_fits : (bytes : Bytes) (a n : ℕ) → AreBytes bytes → load bytes a n < 256 ^ n
load_fits bytes a zero h = omega arith
load_fits bytes a (suc n) h =
    let rest = load_fits bytes (a + 1) n h in
    let here = h a in
    let power : 256 ^ suc n ≡ 256 ^ n * 256 = pow-suc 256 n in
    omega arith

-- ---- bytes of the image

module _ (image : Contents) (are : IsBytes image.bytes) (base : ℕ) (hosts : ℕ → ℕ) (a : ℕ) where
  of_segment : (s : Segment) (b : Bool) → (if b then slice_index image.bytes (s.offset + (a - s.vaddr)) else 0) < 256
  of_segment s true = are (s.offset + (a - s.vaddr))
  of_segment s false = lit< tt

  of_found : (found : Option Segment) → option_map_or (λ s. segment_byte image.bytes s a) found 0 < 256
  of_found None = lit< tt
  of_found (Some s) = of_segment s (nat_lt (a - s.vaddr) s.filesz)

  of_memory : memory_byte image.bytes image.segments a < 256
  unfolding memory_byte
  of_memory = of_found (find (in_memory a 1) image.segments)

  by_relocation : (found : Option Relocation) → option_map_or (λ r. byte_of (relocated_word base hosts r.kind) (a - r.place)) found (memory_byte image.bytes image.segments a) < 256
  by_relocation None = of_memory
  by_relocation (Some r) = mod-lt _ (lit< tt)

  pub image_fits : image_byte image base hosts a < 256
  unfolding image_byte
  image_fits = by_relocation (find (touches a 1) image.relocations)

pub module_bytes : (file : List ℕ) → IsBytes file → (w : World) (a : ℕ) → (module_of file).byte w a < 256
unfolding module_of image_of
module_bytes file are w a = image_fits (image_of file) are w.load (slice_index w.hosts) a

-- ---- loads and stores

module _ (m : ModuleView) (w : World) (laid : IsLaidOut m.image m.imports w) (bytes_are : (a : ℕ) → m.byte w a < 256) where
  globals_small : w.globals < 2 ^ 64
  globals_small =
      let low : w.globals < 2 ^ 47 = laid.instance_ends.1.0 w.globals (omega arith, omega arith) in
      omega arith

  pub holds_words : (choice : Choice) → HoldsWords (loads m w choice) (store w)
  holds_words choice =
      record {
        gives = λ bytes fits a n small. by_place ((a + 8 == w.heap) && (n == 8)) (is_within a n (stack_range w)) (is_in_image m w a n) bytes fits a n (below n small);
        stays = λ bytes a n v fits q. by_byte (is_in_stack w q && is_one_of a n q) _ _ (mod-lt _ (lit< tt)) (fits q);
      }
    where
      below : (n : ℕ) → n ≤ 8 → 256 ^ n ≤ 2 ^ 64
      below n small = pow-le-pow_right {n = 256} (lit< tt) {i = n} {j = 8} small

      by_byte : (b : Bool) (x y : ℕ) → x < 256 → y < 256 → (if b then x else y) < 256
      by_byte true x y h k = h
      by_byte false x y h k = k

      by_place : (p q r : Bool) (bytes : Bytes) → AreBytes bytes → (a n : ℕ) → 256 ^ n ≤ 2 ^ 64
          → (if p then w.globals else (if q then load bytes a n else (if r then image_number m w a n else number_of choice 0 % 256 ^ n))) < 2 ^ 64
      by_place true q r bytes fits a n b = globals_small
      by_place false true r bytes fits a n b = let f = load_fits bytes a n fits in omega arith
      by_place false false true bytes fits a n b = let f = load_fits (λ q. m.byte w (q - w.load)) a n (λ q. bytes_are (q - w.load)) in omega arith
      by_place false false false bytes fits a n b =
          let f = mod-le (number_of choice 0) (256 ^ n) in
          let c : number_of choice 0 < 2 ^ 64 = mod-lt _ (lit< tt) in
          omega arith

  -- ---- a step is a run of statements

  module _ (laws : StatementLaws) (map : Map) (At : Function → ℕ → Registers → Activation → Moment → Type 0) where
    point_kept : (f : Function) (point : ℕ) → IsPointStated m w map At f point → IsPointKept m w map At f point
    point_kept f point stated =
        record {
          i = stated.i;
          len = stated.len;
          begins = stated.begins;
          inside = stated.inside;
          spelled = stated.spelled;
          each = each;
        }
      where
        each : (entered : Registers) (top : Activation) (now : Moment) → IsRunning m w f top now → At f point entered top now → (choice : Choice) → IsStepKept m w map At f point stated.i stated.len entered top now choice
        each entered top now running holds choice =
            let i = stated.i in
            let next = w.load + f.entry + point + stated.len in
            let good = holds_words choice in
            let sim = laws.run i stated.listed (loads m w choice) (store w) next now.registers now.flags now.bytes (open_of choice) (λ a n small. good.gives now.bytes running.words.bytes a n small) running.words.registers in
            let rs = reads i next now.registers in
            let e : Environment = finish (store w) now.bytes rs (effect i next now.registers now.flags (first_loaded (loads m w choice) now.bytes rs) (open_of choice)) sim.1 in
            let wide = laws.words (loads m w choice) (store w) next (lifted i) good (laws.form i stated.listed stated.word).fields _ e (record { in_registers = running.words.registers; in_tmp = sim.2 }) running.words.bytes sim.3 in
            let k = stated.each entered top now running holds choice sim.0 sim.2 e wide.0 wide.1 sim.3 in
            record {
              reads_permitted = k.reads_permitted;
              writes_permitted = k.writes_permitted;
              words = record { registers = wide.0.in_registers; bytes = wide.1 };
              goes_on = k.goes_on;
            }

    pub stated_kept : AreStated m w map At → AreKept m w map At
    stated_kept stated = record { begins = stated.begins; enters = stated.enters; keeps = λ f listed point is. point_kept f point (stated.keeps f listed point is) }
