-- Moves, addresses, the stack and transfers of control: their effect is a run of their statements.
use Rattle.std.proofs.Common.{◌≡◌, ℕ, ℤ, ◌%◌, ◌/◌, ◌^◌, ◌<◌, Bool, true, false, if◌then◌else◌, List, [], ◌∷◌, ◌++◌, refl, ap, subst, arith, ◌∙◌}
use Rattle.std.proofs.lemmas.Nat.{mod_below}
use Rattle.vw_insn.specs.declared.registers.Width.{Width}
use Rattle.vw_insn.specs.declared.registers.Width.TheVariants.{W8, W16, W32, W64}
use Rattle.vw_insn.specs.declared.registers.Reg.{Reg}
use Rattle.vw_insn.specs.declared.registers.Reg.TheVariants.{Rax, Rdx}
use Rattle.vw_insn.specs.declared.operands.Mem.{Mem}
use Rattle.vw_insn.specs.declared.operands.Place.{Place}
use Rattle.vw_insn.specs.declared.operands.Place.TheVariants as place
use Rattle.vw_insn.specs.declared.operands.Source.{Source}
use Rattle.vw_insn.specs.declared.operands.Source.TheVariants as source
use Rattle.vw_insn.specs.declared.operations.Cond.{Cond}
use Rattle.vw_insn.specs.declared.instruction.Insn.{Insn}
use Rattle.vw_insn.specs.declared.instruction.Insn.TheVariants as insn
use Rattle.vw_insn.specs.Conditions.{holds}
use Rattle.vw_insn.specs.Listed.{IsNarrow, IsFullPlace, IsFullSource}
use Rattle.vw_insn.specs.Words.{Registers, Flags, number, register_of, bytes_in, low, with_low, word_of}
use Rattle.vw_insn.specs.Effect.{Open, Access, After, Next, reads_place, reads_source, place_word, source_word, put_place, writing, going, address}
use Rattle.vw_stmt.specs.declared.operands.Operand.TheVariants as operand
use Rattle.vw_stmt.specs.declared.operands.Var.TheVariants as var
use Rattle.vw_stmt.specs.declared.statement.Flow.TheVariants as flow
use Rattle.vw_stmt.specs.declared.statement.Stmt.{Stmt}
use Rattle.vw_stmt.specs.declared.statement.Stmt.TheVariants as stmt
use Rattle.vw_stmt.specs.Environment.{Environment, Pick, start, var_value, operand_value}
use Rattle.vw_stmt.specs.Does.{Does}
use Rattle.vw_lift.specs.Lifted.{var_of, operand_of, fetched_source, left_open, lifted}
use Rattle.vw_lift.specs.Simulation.{first_loaded, finish, MayDo, AreWords, GivesWords}
use Rattle.vw_stmt.proofs.WordLemmas.{word_of_word, put_word}
use Rattle.vw_lift.proofs.Numbers.{zero_word, low_written, stored_low, bit_low, bit_word}
use Rattle.vw_lift.proofs.OperandRuns.{Ends, after_reads, chosen, taken, fetch_any_source, fetch_exact, fetch_source, open_place, open_register, source_word_word, loaded_source}

module _ (loads : (ℕ → ℕ) → ℕ → ℕ → ℕ) (stores : (ℕ → ℕ) → ℕ → ℕ → ℕ → ℕ → ℕ) (next : ℕ) (registers : Registers) (flags : Flags) (bytes : ℕ → ℕ) (choice : Open) where
  abbrev pub Runs : Insn → Type 0
  Runs i = MayDo loads stores next registers flags bytes choice (lifted i) i

  -- statements that may end with these reads and this effect
  abbrev pub MayDoThis : List Stmt → List Access → After → Type 0
  MayDoThis stmts rs after = (tmp : ℕ) × (tmp' : ℕ) × (tmp < 2 ^ 64) × Does loads stores next stmts (start registers tmp flags bytes) (finish stores bytes rs after tmp')

  abbrev pick : Pick
  pick = chosen loads stores next registers bytes choice

  abbrev pick_second : Bool → Pick
  pick_second = taken loads stores next registers bytes choice

  pub pop : (dst : Reg) → Runs (insn.Pop dst)
  pop dst = (0, _, zero_word, (pick, (pick, (pick, (pick, refl)))))

  pub leave : Runs insn.Leave
  leave = (0, _, zero_word, (pick, (pick, (pick, (pick, (pick, refl))))))

  pub jcc : (cond : Cond) (rel : ℤ) → Runs (insn.Jcc cond rel)
  jcc cond rel = (0, _, zero_word, (pick, refl))

  pub jump : (rel : ℤ) → Runs (insn.Jump rel)
  jump rel = (0, _, zero_word, (pick, refl))

  pub call : (rel : ℤ) → Runs (insn.Call rel)
  call rel = (0, _, zero_word, (pick, refl))

  pub ret : Runs insn.Ret
  ret = (0, _, zero_word, (pick, refl))

  pub ud2 : Runs insn.Ud2
  ud2 = (0, _, zero_word, (pick, refl))

  pub nop : Runs insn.Nop
  nop = (0, _, zero_word, (pick, refl))

  pub endbr : Runs insn.Endbr
  endbr = (0, _, zero_word, (pick, refl))

  pub movimm : (dst : Reg) (imm : ℕ) → Runs (insn.MovImm64 dst imm)
  movimm dst imm = (0, _, zero_word, (pick, (pick, refl)))

  pub call_ind : (src : Place) → IsFullPlace src → Runs (insn.CallInd src)
  call_ind (place.Reg r) full = (0, _, zero_word, (pick, refl))
  call_ind (place.High h) full = absurd full
  call_ind (place.Mem mem) full = (0, _, zero_word, (pick, (pick, refl)))

  pub jump_ind : (src : Place) → IsFullPlace src → Runs (insn.JumpInd src)
  jump_ind (place.Reg r) full = (0, _, zero_word, (pick, refl))
  jump_ind (place.High h) full = absurd full
  jump_ind (place.Mem mem) full = (0, _, zero_word, (pick, (pick, refl)))

  pub push : (src : Source) → IsFullSource src → Runs (insn.Push src)
  push (source.Place (place.Reg r)) full = (0, _, zero_word, (pick, (pick, (pick, refl))))
  push (source.Place (place.High h)) full = absurd full
  push (source.Place (place.Mem mem)) full = (0, _, zero_word, (pick, (pick, (pick, (pick, refl)))))
  push (source.Imm i) full = (0, _, zero_word, (pick, (pick, (pick, refl))))

  pub extend : (signed : Bool) (from to : Width) (dst : Reg) (src : Place) → IsNarrow from → Runs (insn.Extend signed from to dst src)
  extend signed from to dst (place.Reg q) narrow = (0, _, zero_word, (pick, (pick, refl)))
  extend signed from to dst (place.High h) narrow = (registers (number (register_of h)) / 2 ^ 8 % 2 ^ 8, _, omega arith, (pick, (pick, refl)))
  extend signed W8 to dst (place.Mem mem) narrow = (0, _, zero_word, (pick, (pick, refl)))
  extend signed W16 to dst (place.Mem mem) narrow = (0, _, zero_word, (pick, (pick, refl)))
  extend signed W32 to dst (place.Mem mem) narrow = (0, _, zero_word, (pick, (pick, refl)))
  extend signed W64 to dst (place.Mem mem) narrow = absurd narrow

  either_branch : (b : Bool) (x y z : ℕ) (w : Width) → low w x ≡ low w y → low w (if b then x else z) ≡ low w (if b then y else z)
  either_branch true x y z w e = e
  either_branch false x y z w e = refl

  pub cmov : (cond : Cond) (w : Width) (dst : Reg) (src : Place) → Runs (insn.Cmov cond w dst src)
  cmov cond w dst src =
      let old : ℕ = registers (number dst) in
      let word : ℕ = place_word registers (first_loaded loads bytes (reads_place next registers w src)) src in
      fetch_exact loads stores next registers bytes choice flags w src (stmt.Choose (var.Reg dst) w (var.Reg dst) (operand.Var (var_of src)) ∷ []) (stmt.Flow flow.Next ∷ [])
      (finish stores bytes (reads_place next registers w src) (writing next registers flags w (place.Reg dst) (low w (if holds cond flags then word else old))))
      (λ t e. (
        t,
        (
          pick_second (holds cond flags),
          (
            pick,
            ap (λ (v : ℕ). finish stores bytes (reads_place next registers w src) (writing next registers flags w (place.Reg dst) v) t)
                (either_branch (holds cond flags) (var_value (after_reads loads stores next registers bytes choice flags (reads_place next registers w src) t) (var_of src)) word old w e),
          ),
        ),
      ))

  opens : AreWords registers → (w : Width) (p : Place) (x : ℕ) → x < 2 ^ 64
      → MayDoThis (left_open w p ++ stmt.Flow flow.Next ∷ []) [] (writing next registers flags w p (low w x))
  opens words w p x h =
      let e : Ends loads stores next registers bytes choice (left_open w p ++ stmt.Flow flow.Next ∷ []) (start registers 0 flags bytes) (finish stores bytes [] (writing next registers flags w p (low w x))) = open_place loads stores next registers bytes choice words flags w p [] 0 x h in
      (0, e.0, zero_word, e.1)

  pub set : AreWords registers → (cond : Cond) (dst : Place) → Runs (insn.Set cond dst)
  set words cond dst =
      let b : Bool = holds cond flags in
      let P : ℕ → Type 0 = λ x. MayDoThis (left_open W8 dst ++ stmt.Flow flow.Next ∷ []) [] (writing next registers flags W8 dst x) in
      subst P (bit_low b) (opens words W8 dst (if b then 1 else 0) (bit_word b))

  pub widen : AreWords registers → (w : Width) → Runs (insn.Widen w)
  widen words w = opens words w (place.Reg Rax) (choice.numbers 0) (choice.are_words 0)

  pub sign : AreWords registers → (w : Width) → Runs (insn.SignA w)
  sign words w = opens words w (place.Reg Rdx) (choice.numbers 0) (choice.are_words 0)

  pub bswap : AreWords registers → (w : Width) (dst : Reg) → Runs (insn.Bswap w dst)
  bswap words w dst = opens words w (place.Reg dst) (choice.numbers 0) (choice.are_words 0)

  pub lea : AreWords registers → (w : Width) (dst : Reg) (mem : Mem) → Runs (insn.Lea w dst mem)
  lea words W64 dst mem = (0, _, zero_word, (pick, (pick, refl)))
  lea words W32 dst mem = opens words W32 (place.Reg dst) (address next registers mem) (mod_below _ (2 ^ 64) (omega arith))
  lea words W16 dst mem = opens words W16 (place.Reg dst) (address next registers mem) (mod_below _ (2 ^ 64) (omega arith))
  lea words W8 dst mem = opens words W8 (place.Reg dst) (address next registers mem) (mod_below _ (2 ^ 64) (omega arith))

  two_open : AreWords registers → (w : Width) (a b : Reg) (x y : ℕ) → x < 2 ^ 64 → y < 2 ^ 64
      → MayDoThis (stmt.Open (var.Reg a) w ∷ stmt.Open (var.Reg b) w ∷ stmt.Flow flow.Next ∷ []) []
      (going (put_place (put_place registers w (place.Reg a) (low w x)) w (place.Reg b) (low w y)) flags Next)
  two_open words w a b x y hx hy =
      let first : Registers = put_place registers w (place.Reg a) (low w x) in
      let first_words : AreWords first = put_word registers (number a) (with_low w (registers (number a)) (low w x)) words (low_written w (registers (number a)) x (words (number a)) hx) in
      let after : ℕ → Environment = finish stores bytes [] (going (put_place first w (place.Reg b) (low w y)) flags Next) in
      let e : Ends loads stores next registers bytes choice (stmt.Open (var.Reg a) w ∷ stmt.Open (var.Reg b) w ∷ stmt.Flow flow.Next ∷ []) (start registers 0 flags bytes) after =
      open_register loads stores next registers bytes choice words flags w a [] 0 x (stmt.Open (var.Reg b) w ∷ stmt.Flow flow.Next ∷ []) after hx
      (open_place loads stores next first bytes choice first_words flags w (place.Reg b) [] 0 y hy) in
      (0, e.0, zero_word, e.1)

  pub xchg : AreWords registers → (w : Width) (a b : Reg) → Runs (insn.Xchg w a b)
  xchg words W64 a b = (0, _, zero_word, (pick, (pick, (pick, (pick, refl)))))
  xchg words W32 a b = two_open words W32 a b (registers (number b)) (registers (number a)) (words (number b)) (words (number a))
  xchg words W16 a b = two_open words W16 a b (registers (number b)) (registers (number a)) (words (number b)) (words (number a))
  xchg words W8 a b = two_open words W8 a b (registers (number b)) (registers (number a)) (words (number b)) (words (number a))

  mov_register : AreWords registers → GivesWords loads bytes → (w : Width) (r : Reg) (src : Source) → Runs (insn.Mov w (place.Reg r) src)
  mov_register words l W64 r (source.Place (place.Reg q)) = (0, _, zero_word, (pick, (pick, refl)))
  mov_register words l W64 r (source.Place (place.High h)) = (registers (number (register_of h)) / 2 ^ 8 % 2 ^ 8, _, omega arith, (pick, (pick, refl)))
  mov_register words l W64 r (source.Place (place.Mem mem)) = (0, _, zero_word, (pick, (pick, refl)))
  mov_register words l W64 r (source.Imm i) = (0, _, zero_word, (pick, (pick, refl)))
  mov_register words l W32 r (source.Place (place.Reg q)) = (0, _, zero_word, (pick, (pick, refl)))
  mov_register words l W32 r (source.Place (place.High h)) = (registers (number (register_of h)) / 2 ^ 8 % 2 ^ 8, _, omega arith, (pick, (pick, refl)))
  mov_register words l W32 r (source.Place (place.Mem mem)) = (0, _, zero_word, (pick, (pick, refl)))
  mov_register words l W32 r (source.Imm i) = (0, _, zero_word, (pick, (pick, refl)))
  mov_register words l W16 r (source.Place (place.Reg q)) = opens words W16 (place.Reg r) (registers (number q)) (words (number q))
  mov_register words l W16 r (source.Place (place.High h)) = opens words W16 (place.Reg r) (registers (number (register_of h)) / 2 ^ 8 % 2 ^ 8) (omega arith)
  mov_register words l W16 r (source.Place (place.Mem mem)) = (0, _, zero_word, (pick, (pick, refl)))
  mov_register words l W16 r (source.Imm i) = opens words W16 (place.Reg r) (word_of i) (word_of_word i)
  mov_register words l W8 r (source.Place (place.Reg q)) = opens words W8 (place.Reg r) (registers (number q)) (words (number q))
  mov_register words l W8 r (source.Place (place.High h)) = opens words W8 (place.Reg r) (registers (number (register_of h)) / 2 ^ 8 % 2 ^ 8) (omega arith)
  mov_register words l W8 r (source.Place (place.Mem mem)) = (0, _, zero_word, (pick, (pick, refl)))
  mov_register words l W8 r (source.Imm i) = opens words W8 (place.Reg r) (word_of i) (word_of_word i)

  pub mov : AreWords registers → GivesWords loads bytes → (w : Width) (dst : Place) (src : Source) → Runs (insn.Mov w dst src)
  mov words l w (place.Reg r) src = mov_register words l w r src
  mov words l w (place.High h) src =
      let x : ℕ = source_word registers (first_loaded loads bytes (reads_source next registers w src)) src in
      let word : x < 2 ^ 64 = source_word_word loads stores next registers bytes choice words (first_loaded loads bytes (reads_source next registers w src)) src (loaded_source loads stores next registers bytes choice l w src) in
      let after : ℕ → Environment = finish stores bytes (reads_source next registers w src) (writing next registers flags w (place.High h) (low w x)) in
      let e : Ends loads stores next registers bytes choice ((fetched_source w src ++ left_open w (place.High h)) ++ stmt.Flow flow.Next ∷ []) (start registers 0 flags bytes) after =
      fetch_any_source loads stores next registers bytes choice flags w src [] 0 (left_open w (place.High h)) (stmt.Flow flow.Next ∷ []) after
      (λ t. open_place loads stores next registers bytes choice words flags w (place.High h) (reads_source next registers w src) t x word) in
      (0, e.0, zero_word, e.1)
  mov words l w (place.Mem mem) src =
      let a : ℕ = address next registers mem in
      let x : ℕ = source_word registers (first_loaded loads bytes (reads_source next registers w src)) src in
      let after : ℕ → After = λ v. record { registers = registers; flags = flags; writes = record { at = a; size = bytes_in w; value = v } ∷ []; transfer = Next } in
      fetch_source loads stores next registers bytes choice flags w src (stmt.Store mem (bytes_in w) (operand_of src) ∷ []) (stmt.Flow flow.Next ∷ [])
      (finish stores bytes (reads_source next registers w src) (after (low w x)))
      (λ t e. (
        t,
        (
          pick,
          (
            pick,
            ap (λ (v : ℕ). finish stores bytes (reads_source next registers w src) (after v) t)
                (stored_low w (operand_value (after_reads loads stores next registers bytes choice flags (reads_source next registers w src) t) (operand_of src)) ∙ e),
          ),
        ),
      ))
