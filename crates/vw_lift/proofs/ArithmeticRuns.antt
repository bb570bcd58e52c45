-- Arithmetic, shifts and what sets flags: their effect is a run of their statements.
use Rattle.std.proofs.Common.{◌≡◌, ℕ, ℤ, ◌*◌, ◌%◌, ◌^◌, ◌<◌, ◌==◌, Bool, true, false, if◌then◌else◌, List, [], ◌∷◌, ◌++◌, Option, Some, refl, sym, ap, arith, ◌∙◌, bit_and}
use Rattle.std.specs.Int.Bits.{xor_self}
use Rattle.std.proofs.lemmas.Nat.{mod_below}
use Rattle.std.proofs.lemmas.Bool.Decides.{nat_tests}
use Rattle.vw_insn.specs.declared.registers.Width.{Width}
use Rattle.vw_insn.specs.declared.registers.Width.TheVariants.{W8, W16, W32, W64}
use Rattle.vw_insn.specs.declared.registers.Reg.{Reg}
use Rattle.vw_insn.specs.declared.registers.Reg.TheVariants.{Rax, Rdx}
use Rattle.vw_insn.specs.declared.operands.Mem.{Mem}
use Rattle.vw_insn.specs.declared.operands.Place.{Place}
use Rattle.vw_insn.specs.declared.operands.Place.TheVariants as place
use Rattle.vw_insn.specs.declared.operands.Source.{Source}
use Rattle.vw_insn.specs.declared.operands.Source.TheVariants as source
use Rattle.vw_insn.specs.declared.operands.Count.{Count}
use Rattle.vw_insn.specs.declared.operands.Count.TheVariants as count
use Rattle.vw_insn.specs.declared.operations.AluOp.{AluOp}
use Rattle.vw_insn.specs.declared.operations.AluOp.TheVariants as alu
use Rattle.vw_insn.specs.declared.operations.ShiftOp.{ShiftOp}
use Rattle.vw_insn.specs.declared.operations.ShiftOp.TheVariants as shift
use Rattle.vw_insn.specs.declared.operations.UnaryOp.{UnaryOp}
use Rattle.vw_insn.specs.declared.operations.UnaryOp.TheVariants as unary
use Rattle.vw_insn.specs.declared.operations.BitsOp.{BitsOp}
use Rattle.vw_insn.specs.declared.operations.BitsOp.TheVariants as bits
use Rattle.vw_insn.specs.declared.operations.MulDivOp.{MulDivOp}
use Rattle.vw_insn.specs.declared.instruction.Insn.{Insn}
use Rattle.vw_insn.specs.declared.instruction.Insn.TheVariants as insn
use Rattle.vw_insn.specs.Listed.{IsWide}
use Rattle.vw_insn.specs.Words.{Registers, Flags, number, low, with_low, put, word_of}
use Rattle.vw_insn.specs.Arithmetic.{alu_result, alu_flags, shift_result, masked_count, flags_of_difference, wrapped_sum, wrapped_difference}
use Rattle.vw_insn.specs.Effect.{Open, Access, After, Next, reads_place, reads_source, place_word, source_word, put_place, writing, going}
use Rattle.vw_stmt.specs.declared.operands.Operand.{Operand}
use Rattle.vw_stmt.specs.declared.operands.Operand.TheVariants as operand
use Rattle.vw_stmt.specs.declared.operands.Var.TheVariants as var
use Rattle.vw_stmt.specs.declared.statement.Flow.TheVariants as flow
use Rattle.vw_stmt.specs.declared.statement.Stmt.{Stmt}
use Rattle.vw_stmt.specs.declared.statement.Stmt.TheVariants as stmt
use Rattle.vw_stmt.specs.Environment.{Environment, Pick, start, operand_value}
use Rattle.vw_lift.specs.Lifted.{operand_of, fetched, fetched_source, left_open, any_flags, is_itself, computed, is_times_16}
use Rattle.vw_lift.specs.Simulation.{first_loaded, finish, AreWords, GivesWords}
use Rattle.vw_stmt.proofs.WordLemmas.{put_word}
use Rattle.vw_lift.proofs.Numbers.{zero_word, low_word, low_written, alu_word, difference_self}
use Rattle.vw_lift.proofs.OperandRuns.{Ends, after_reads, chosen, pick_number, pick_flags, fetch_any, fetch_both, fetch_exact, fetch_source, open_place, open_register, place_word_word, source_word_word, loaded_both}
use Rattle.vw_lift.proofs.MoveRuns.{Runs, MayDoThis}

-- a statement that is one of two
either_stmt : (P : Stmt → Type 0) (b : Bool) (x y : Stmt) → (b ≡ true → P x) → (b ≡ false → P y) → P (if b then x else y)
either_stmt P true x y f g = f refl
either_stmt P false x y f g = g refl

same_number : (n m : ℕ) → (n == m) ≡ true → n ≡ m
same_number n m e = grind (arith, nat_tests)

-- the difference and the exclusive or of a number with itself
abbrev Cancels : AluOp → Type 0
Cancels op = (chosen x : ℕ) → x < 2 ^ 64 → alu_result op chosen x x ≡ 0

sub_cancels : Cancels alu.Sub
sub_cancels c x h = difference_self x h

xor_cancels : Cancels alu.Xor
xor_cancels c x h = xor_self x

with_low_zero : (w : Width) (old : ℕ) → IsWide w → with_low w old (low w 0) ≡ 0
with_low_zero W32 old wide = refl
with_low_zero W64 old wide = refl
with_low_zero W16 old wide = absurd wide
with_low_zero W8 old wide = absurd wide

shift_word : (op : ShiftOp) (w : Width) (by : Count) (chosen x : ℕ) → chosen < 2 ^ 64 → shift_result op w by chosen x < 2 ^ 64
shift_word shift.Shl w (count.Imm n) chosen x h = mod_below (x * 2 ^ masked_count w n) (2 ^ 64) (omega arith)
shift_word shift.Shl w count.Cl chosen x h = h
shift_word shift.Rol w by chosen x h = h
shift_word shift.Ror w by chosen x h = h
shift_word shift.Shr w by chosen x h = h
shift_word shift.Sar w by chosen x h = h

module _ (loads : (ℕ → ℕ) → ℕ → ℕ → ℕ) (stores : (ℕ → ℕ) → ℕ → ℕ → ℕ → ℕ → ℕ) (next : ℕ) (registers : Registers) (flags : Flags) (bytes : ℕ → ℕ) (choice : Open) where
  abbrev Run : Insn → Type 0
  Run i = Runs loads stores next registers flags bytes choice i

  abbrev May : List Stmt → List Access → After → Type 0
  May stmts rs after = MayDoThis loads stores next registers flags bytes choice stmts rs after

  abbrev pick : Pick
  pick = chosen loads stores next registers bytes choice

  abbrev flags_pick : Flags → Pick
  flags_pick f = pick_flags loads stores next registers bytes choice f

  abbrev reads_both : Width → Place → Source → List Access
  reads_both w dst src = reads_place next registers w dst ++ reads_source next registers w src

  from_zero : (stmts : List Stmt) (rs : List Access) (after : After) → Ends loads stores next registers bytes choice stmts (start registers 0 flags bytes) (finish stores bytes rs after) → May stmts rs after
  from_zero stmts rs after e = (0, e.0, zero_word, e.1)

  -- any flags, and any result that is written to an operand
  any_result : AreWords registers → (w : Width) (dst : Place) (src : Source) (f : Flags) (x : ℕ) → x < 2 ^ 64
      → May (((fetched w dst ++ fetched_source w src) ++ any_flags ∷ left_open w dst) ++ stmt.Flow flow.Next ∷ []) (reads_both w dst src) (writing next registers f w dst (low w x))
  any_result words w dst src f x h =
      let after : ℕ → Environment = finish stores bytes (reads_both w dst src) (writing next registers f w dst (low w x)) in
      from_zero _ (reads_both w dst src) (writing next registers f w dst (low w x))
      (fetch_both loads stores next registers bytes choice flags w dst src 0 (any_flags ∷ left_open w dst) (stmt.Flow flow.Next ∷ []) after
      (λ t. let e : Ends loads stores next registers bytes choice (left_open w dst ++ stmt.Flow flow.Next ∷ []) (after_reads loads stores next registers bytes choice f (reads_both w dst src) t) after =
      open_place loads stores next registers bytes choice words f w dst (reads_both w dst src) t x h in
      (e.0, (flags_pick f, e.1))))

  -- any flags alone
  any_flags_alone : (w : Width) (dst : Place) (src : Source) (f : Flags)
      → May (((fetched w dst ++ fetched_source w src) ++ any_flags ∷ []) ++ stmt.Flow flow.Next ∷ []) (reads_both w dst src) (going registers f Next)
  any_flags_alone w dst src f =
      let after : ℕ → Environment = finish stores bytes (reads_both w dst src) (going registers f Next) in
      from_zero _ (reads_both w dst src) (going registers f Next)
      (fetch_both loads stores next registers bytes choice flags w dst src 0 (any_flags ∷ []) (stmt.Flow flow.Next ∷ []) after
      (λ t. (t, (flags_pick f, (pick, refl)))))

  -- the operands of an operation, and its result
  abbrev first_operand : Width → Place → Source → ℕ
  first_operand w dst src = low w (place_word registers (first_loaded loads bytes (reads_both w dst src)) dst)

  abbrev second_operand : Width → Place → Source → ℕ
  second_operand w dst src = low w (source_word registers (first_loaded loads bytes (reads_both w dst src)) src)

  abbrev result_of : AluOp → Width → Place → Source → ℕ
  result_of op w dst src = alu_result op (choice.numbers 0) (first_operand w dst src) (second_operand w dst src)

  abbrev flags_after : AluOp → Width → Place → Source → Flags
  flags_after op w dst src = alu_flags op w choice.flags (first_operand w dst src) (second_operand w dst src)

  alu_any : AreWords registers → GivesWords loads bytes → (op : AluOp) (w : Width) (dst : Place) (src : Source)
      → May (((fetched w dst ++ fetched_source w src) ++ any_flags ∷ left_open w dst) ++ stmt.Flow flow.Next ∷ []) (reads_both w dst src)
      (writing next registers (flags_after op w dst src) w dst (low w (result_of op w dst src)))
  alu_any words l op w dst src =
      let loaded : ℕ = first_loaded loads bytes (reads_both w dst src) in
      let fine : loaded < 2 ^ 64 = loaded_both loads stores next registers bytes choice l w dst src in
      any_result words w dst src (flags_after op w dst src) (result_of op w dst src)
      (alu_word op (choice.numbers 0) (first_operand w dst src) (second_operand w dst src) (choice.are_words 0)
      (low_word w (place_word registers loaded dst) (place_word_word loads stores next registers bytes choice words loaded dst fine))
      (low_word w (source_word registers loaded src) (source_word_word loads stores next registers bytes choice words loaded src fine)))

  -- a sum or difference of 64 bits, and the and of 32 or 64 bits
  alu_sum : (r : Reg) (src : Source) → Run (insn.Alu alu.Add W64 (place.Reg r) src)
  alu_sum r src =
      let f : Flags = flags_after alu.Add W64 (place.Reg r) src in
      let rs : List Access = reads_source next registers W64 src in
      let after : ℕ → After = λ y. writing next registers f W64 (place.Reg r) (wrapped_sum (registers (number r)) y) in
      fetch_source loads stores next registers bytes choice flags W64 src (any_flags ∷ stmt.Sum (var.Reg r) (var.Reg r) (operand_of src) false ∷ []) (stmt.Flow flow.Next ∷ [])
      (finish stores bytes rs (after (source_word registers (first_loaded loads bytes rs) src)))
      (λ t e. (t, (flags_pick f, (pick, (pick, ap (λ (y : ℕ). finish stores bytes rs (after y) t) e)))))

  alu_difference : (r : Reg) (src : Source)
      → May ((fetched_source W64 src ++ any_flags ∷ stmt.Sum (var.Reg r) (var.Reg r) (operand_of src) true ∷ []) ++ stmt.Flow flow.Next ∷ []) (reads_source next registers W64 src)
      (writing next registers (flags_after alu.Sub W64 (place.Reg r) src) W64 (place.Reg r) (result_of alu.Sub W64 (place.Reg r) src))
  alu_difference r src =
      let f : Flags = flags_after alu.Sub W64 (place.Reg r) src in
      let rs : List Access = reads_source next registers W64 src in
      let after : ℕ → After = λ y. writing next registers f W64 (place.Reg r) (wrapped_difference (registers (number r)) y) in
      fetch_source loads stores next registers bytes choice flags W64 src (any_flags ∷ stmt.Sum (var.Reg r) (var.Reg r) (operand_of src) true ∷ []) (stmt.Flow flow.Next ∷ [])
      (finish stores bytes rs (after (source_word registers (first_loaded loads bytes rs) src)))
      (λ t e. (t, (flags_pick f, (pick, (pick, ap (λ (y : ℕ). finish stores bytes rs (after y) t) e)))))

  alu_and : (w : Width) (r : Reg) (src : Source)
      → May ((fetched_source w src ++ any_flags ∷ stmt.And (var.Reg r) w (var.Reg r) (operand_of src) ∷ []) ++ stmt.Flow flow.Next ∷ []) (reads_source next registers w src)
      (writing next registers (flags_after alu.And w (place.Reg r) src) w (place.Reg r) (low w (result_of alu.And w (place.Reg r) src)))
  alu_and w r src =
      let f : Flags = flags_after alu.And w (place.Reg r) src in
      let rs : List Access = reads_source next registers w src in
      let after : ℕ → After = λ y. writing next registers f w (place.Reg r) (low w (bit_and (low w (registers (number r))) y)) in
      fetch_source loads stores next registers bytes choice flags w src (any_flags ∷ stmt.And (var.Reg r) w (var.Reg r) (operand_of src) ∷ []) (stmt.Flow flow.Next ∷ [])
      (finish stores bytes rs (after (low w (source_word registers (first_loaded loads bytes rs) src))))
      (λ t e. (t, (flags_pick f, (pick, (pick, ap (λ (y : ℕ). finish stores bytes rs (after y) t) e)))))

  -- a register with itself
  alu_zero : AreWords registers → (op : AluOp) (w : Width) (r : Reg) (src : Source) (f : Flags) → IsWide w → Cancels op → is_itself r src ≡ true
      → May (((fetched w (place.Reg r) ++ fetched_source w src) ++ any_flags ∷ stmt.Set (var.Reg r) 0 ∷ []) ++ stmt.Flow flow.Next ∷ []) (reads_both w (place.Reg r) src)
      (writing next registers f w (place.Reg r) (low w (result_of op w (place.Reg r) src)))
  alu_zero words op w r (source.Place (place.Reg q)) f wide cancels same =
      let one : number r ≡ number q = same_number (number r) (number q) same in
      let x : ℕ = low w (registers (number r)) in
      let value : ℕ → ℕ = λ n. alu_result op (choice.numbers 0) x (low w (registers n)) in
      let is_zero : value (number q) ≡ 0 = ap value (sym one) ∙ cancels (choice.numbers 0) x (low_word w (registers (number r)) (words (number r))) in
      let after : ℕ → After = λ v. going (put registers (number r) v) f Next in (
        0,
        0,
        zero_word,
        (
          flags_pick f,
          (
            pick,
            (
              pick,
              sym (ap (λ (y : ℕ). finish stores bytes [] (after (with_low w (registers (number r)) (low w y))) 0) is_zero
                  ∙ ap (λ (v : ℕ). finish stores bytes [] (after v) 0) (with_low_zero w (registers (number r)) wide)),
            ),
          ),
        ),
      )
  alu_zero words op w r (source.Place (place.High h)) f wide cancels same = cc
  alu_zero words op w r (source.Place (place.Mem mem)) f wide cancels same = cc
  alu_zero words op w r (source.Imm i) f wide cancels same = cc

  -- flags of a comparison with a register, or of memory
  compare_register : (w : Width) (r : Reg) (src : Source)
      → May ((fetched_source w src ++ stmt.Flags (Some (record { w = w; a = var.Reg r; b = operand_of src })) ∷ []) ++ stmt.Flow flow.Next ∷ []) (reads_source next registers w src)
      (going registers (flags_after alu.Cmp w (place.Reg r) src) Next)
  compare_register w r src =
      let rs : List Access = reads_source next registers w src in
      fetch_source loads stores next registers bytes choice flags w src (stmt.Flags (Some (record { w = w; a = var.Reg r; b = operand_of src })) ∷ []) (stmt.Flow flow.Next ∷ [])
      (finish stores bytes rs (going registers (flags_after alu.Cmp w (place.Reg r) src) Next))
      (λ t e. (t, (pick, (pick, ap (λ (y : ℕ). finish stores bytes rs (going registers (flags_of_difference w (low w (registers (number r))) y) Next) t) e))))

  compare_memory : (w : Width) (mem : Mem) (b : Operand) (y : ℕ) → ((t : ℕ) → operand_value (after_reads loads stores next registers bytes choice flags (reads_place next registers w (place.Mem mem)) t) b ≡ y)
      → May ((fetched w (place.Mem mem) ++ stmt.Flags (Some (record { w = w; a = var.Tmp; b = b })) ∷ []) ++ stmt.Flow flow.Next ∷ []) (reads_place next registers w (place.Mem mem))
      (going registers (flags_of_difference w (low w (first_loaded loads bytes (reads_place next registers w (place.Mem mem)))) (low w y)) Next)
  compare_memory w mem b y is =
      let rs : List Access = reads_place next registers w (place.Mem mem) in
      let x : ℕ = first_loaded loads bytes rs in
      fetch_exact loads stores next registers bytes choice flags w (place.Mem mem) (stmt.Flags (Some (record { w = w; a = var.Tmp; b = b })) ∷ []) (stmt.Flow flow.Next ∷ [])
      (finish stores bytes rs (going registers (flags_of_difference w (low w x) (low w y)) Next))
      (λ t e. (
        t,
        (
          pick,
          (
            pick,
            ap (λ (v : ℕ). finish stores bytes rs (going registers (flags_of_difference w v (low w (operand_value (after_reads loads stores next registers bytes choice flags rs t) b))) Next) t) e
                ∙ ap (λ (v : ℕ). finish stores bytes rs (going registers (flags_of_difference w (low w x) (low w v)) Next) t) (is t),
          ),
        ),
      ))

  compare_wide : (w : Width) (dst : Place) (src : Source) → IsWide w → Run (insn.Alu alu.Cmp w dst src)
  compare_wide W32 (place.Reg r) src wide = compare_register W32 r src
  compare_wide W64 (place.Reg r) src wide = compare_register W64 r src
  compare_wide W32 (place.Mem mem) (source.Place (place.Reg q)) wide = compare_memory W32 mem (operand.Var (var.Reg q)) (registers (number q)) (λ t. refl)
  compare_wide W64 (place.Mem mem) (source.Place (place.Reg q)) wide = compare_memory W64 mem (operand.Var (var.Reg q)) (registers (number q)) (λ t. refl)
  compare_wide W32 (place.Mem mem) (source.Imm i) wide = compare_memory W32 mem (operand.Imm i) (word_of i) (λ t. refl)
  compare_wide W64 (place.Mem mem) (source.Imm i) wide = compare_memory W64 mem (operand.Imm i) (word_of i) (λ t. refl)
  compare_wide W32 (place.Mem mem) (source.Place (place.Mem m)) wide = any_flags_alone W32 (place.Mem mem) (source.Place (place.Mem m)) _
  compare_wide W64 (place.Mem mem) (source.Place (place.Mem m)) wide = any_flags_alone W64 (place.Mem mem) (source.Place (place.Mem m)) _
  compare_wide W32 (place.Mem mem) (source.Place (place.High h)) wide = any_flags_alone W32 (place.Mem mem) (source.Place (place.High h)) _
  compare_wide W64 (place.Mem mem) (source.Place (place.High h)) wide = any_flags_alone W64 (place.Mem mem) (source.Place (place.High h)) _
  compare_wide W32 (place.High h) src wide = any_flags_alone W32 (place.High h) src _
  compare_wide W64 (place.High h) src wide = any_flags_alone W64 (place.High h) src _
  compare_wide W16 dst src wide = absurd wide
  compare_wide W8 dst src wide = absurd wide

  cmp : (w : Width) (dst : Place) (src : Source) → Run (insn.Alu alu.Cmp w dst src)
  cmp W8 dst src = any_flags_alone W8 dst src _
  cmp W16 dst src = any_flags_alone W16 dst src _
  cmp W32 dst src = compare_wide W32 dst src tt
  cmp W64 dst src = compare_wide W64 dst src tt

  -- XOR or SUB of a register: with itself it is 0, and with another operand it is y
  alu_itself : AreWords registers → (op : AluOp) (w : Width) (r : Reg) (src : Source) (y : Stmt) (f : Flags) → IsWide w → Cancels op
      → May (((fetched w (place.Reg r) ++ fetched_source w src) ++ any_flags ∷ y ∷ []) ++ stmt.Flow flow.Next ∷ []) (reads_both w (place.Reg r) src)
      (writing next registers f w (place.Reg r) (low w (result_of op w (place.Reg r) src)))
      → May (((fetched w (place.Reg r) ++ fetched_source w src) ++ any_flags ∷ (if is_itself r src then stmt.Set (var.Reg r) 0 else y) ∷ []) ++ stmt.Flow flow.Next ∷ []) (reads_both w (place.Reg r) src)
      (writing next registers f w (place.Reg r) (low w (result_of op w (place.Reg r) src)))
  alu_itself words op w r src y f wide cancels other =
      let P : Stmt → Type 0 = λ s. May (((fetched w (place.Reg r) ++ fetched_source w src) ++ any_flags ∷ s ∷ []) ++ stmt.Flow flow.Next ∷ []) (reads_both w (place.Reg r) src)
      (writing next registers f w (place.Reg r) (low w (result_of op w (place.Reg r) src))) in
      either_stmt P (is_itself r src) (stmt.Set (var.Reg r) 0) y (λ e. alu_zero words op w r src f wide cancels e) (λ e. other)

  pub alu_op : AreWords registers → GivesWords loads bytes → (op : AluOp) (w : Width) (dst : Place) (src : Source) → Run (insn.Alu op w dst src)
  alu_op words l alu.Cmp w dst src = cmp w dst src
  alu_op words l alu.Or w (place.Reg r) src = alu_any words l alu.Or w (place.Reg r) src
  alu_op words l alu.Or w (place.High h) src = alu_any words l alu.Or w (place.High h) src
  alu_op words l alu.Or w (place.Mem mem) src = alu_any words l alu.Or w (place.Mem mem) src
  alu_op words l alu.Adc w (place.Reg r) src = alu_any words l alu.Adc w (place.Reg r) src
  alu_op words l alu.Adc w (place.High h) src = alu_any words l alu.Adc w (place.High h) src
  alu_op words l alu.Adc w (place.Mem mem) src = alu_any words l alu.Adc w (place.Mem mem) src
  alu_op words l alu.Sbb w (place.Reg r) src = alu_any words l alu.Sbb w (place.Reg r) src
  alu_op words l alu.Sbb w (place.High h) src = alu_any words l alu.Sbb w (place.High h) src
  alu_op words l alu.Sbb w (place.Mem mem) src = alu_any words l alu.Sbb w (place.Mem mem) src
  alu_op words l alu.Add W64 (place.Reg r) src = alu_sum r src
  alu_op words l alu.Add W32 (place.Reg r) src = alu_any words l alu.Add W32 (place.Reg r) src
  alu_op words l alu.Add W16 (place.Reg r) src = alu_any words l alu.Add W16 (place.Reg r) src
  alu_op words l alu.Add W8 (place.Reg r) src = alu_any words l alu.Add W8 (place.Reg r) src
  alu_op words l alu.Add w (place.High h) src = alu_any words l alu.Add w (place.High h) src
  alu_op words l alu.Add w (place.Mem mem) src = alu_any words l alu.Add w (place.Mem mem) src
  alu_op words l alu.And W64 (place.Reg r) src = alu_and W64 r src
  alu_op words l alu.And W32 (place.Reg r) src = alu_and W32 r src
  alu_op words l alu.And W16 (place.Reg r) src = alu_any words l alu.And W16 (place.Reg r) src
  alu_op words l alu.And W8 (place.Reg r) src = alu_any words l alu.And W8 (place.Reg r) src
  alu_op words l alu.And w (place.High h) src = alu_any words l alu.And w (place.High h) src
  alu_op words l alu.And w (place.Mem mem) src = alu_any words l alu.And w (place.Mem mem) src
  alu_op words l alu.Sub W64 (place.Reg r) src = alu_itself words alu.Sub W64 r src (computed alu.Sub W64 r src) (flags_after alu.Sub W64 (place.Reg r) src) tt sub_cancels (alu_difference r src)
  alu_op words l alu.Sub W32 (place.Reg r) src = alu_itself words alu.Sub W32 r src (computed alu.Sub W32 r src) (flags_after alu.Sub W32 (place.Reg r) src) tt sub_cancels (alu_any words l alu.Sub W32 (place.Reg r) src)
  alu_op words l alu.Sub W16 (place.Reg r) src = alu_any words l alu.Sub W16 (place.Reg r) src
  alu_op words l alu.Sub W8 (place.Reg r) src = alu_any words l alu.Sub W8 (place.Reg r) src
  alu_op words l alu.Sub w (place.High h) src = alu_any words l alu.Sub w (place.High h) src
  alu_op words l alu.Sub w (place.Mem mem) src = alu_any words l alu.Sub w (place.Mem mem) src
  alu_op words l alu.Xor W64 (place.Reg r) src = alu_itself words alu.Xor W64 r src (computed alu.Xor W64 r src) (flags_after alu.Xor W64 (place.Reg r) src) tt xor_cancels (alu_any words l alu.Xor W64 (place.Reg r) src)
  alu_op words l alu.Xor W32 (place.Reg r) src = alu_itself words alu.Xor W32 r src (computed alu.Xor W32 r src) (flags_after alu.Xor W32 (place.Reg r) src) tt xor_cancels (alu_any words l alu.Xor W32 (place.Reg r) src)
  alu_op words l alu.Xor W16 (place.Reg r) src = alu_any words l alu.Xor W16 (place.Reg r) src
  alu_op words l alu.Xor W8 (place.Reg r) src = alu_any words l alu.Xor W8 (place.Reg r) src
  alu_op words l alu.Xor w (place.High h) src = alu_any words l alu.Xor w (place.High h) src
  alu_op words l alu.Xor w (place.Mem mem) src = alu_any words l alu.Xor w (place.Mem mem) src

  pub test : (w : Width) (a : Place) (b : Source) → Run (insn.Test w a b)
  test w a b = any_flags_alone w a b _

  pub bt : (w : Width) (a : Reg) (bit : Source) → Run (insn.Bt w a bit)
  bt w a bit = (0, _, zero_word, (flags_pick choice.flags, (pick, refl)))

  -- one operand is fetched, and any flags and any result are written
  any_of_one : AreWords registers → (w : Width) (src dst : Place) (f : Flags) (x : ℕ) → x < 2 ^ 64
      → May ((fetched w src ++ any_flags ∷ left_open w dst) ++ stmt.Flow flow.Next ∷ []) (reads_place next registers w src) (writing next registers f w dst (low w x))
  any_of_one words w src dst f x h =
      let rs : List Access = reads_place next registers w src in
      let after : ℕ → Environment = finish stores bytes rs (writing next registers f w dst (low w x)) in
      from_zero _ rs (writing next registers f w dst (low w x))
      (fetch_any loads stores next registers bytes choice flags w src [] 0 (any_flags ∷ left_open w dst) (stmt.Flow flow.Next ∷ []) after
      (λ t. let e : Ends loads stores next registers bytes choice (left_open w dst ++ stmt.Flow flow.Next ∷ []) (after_reads loads stores next registers bytes choice f rs t) after =
      open_place loads stores next registers bytes choice words f w dst rs t x h in
      (e.0, (flags_pick f, e.1))))

  pub imul : AreWords registers → (w : Width) (dst : Reg) (src : Place) (imm : Option ℤ) → Run (insn.Imul w dst src imm)
  imul words w dst src imm = any_of_one words w src (place.Reg dst) choice.flags (choice.numbers 0) (choice.are_words 0)

  pub unary_op : AreWords registers → (op : UnaryOp) (w : Width) (dst : Place) → Run (insn.Unary op w dst)
  unary_op words unary.Neg w dst = any_of_one words w dst dst choice.flags (choice.numbers 0) (choice.are_words 0)
  unary_op words unary.Inc w dst = any_of_one words w dst dst choice.flags (choice.numbers 0) (choice.are_words 0)
  unary_op words unary.Dec w dst = any_of_one words w dst dst choice.flags (choice.numbers 0) (choice.are_words 0)
  unary_op words unary.Not w dst =
      let rs : List Access = reads_place next registers w dst in
      let after : After = writing next registers flags w dst (low w (choice.numbers 0)) in
      from_zero _ rs after
      (fetch_any loads stores next registers bytes choice flags w dst [] 0 (left_open w dst) (stmt.Flow flow.Next ∷ []) (finish stores bytes rs after)
      (λ t. open_place loads stores next registers bytes choice words flags w dst rs t (choice.numbers 0) (choice.are_words 0)))

  -- the effect of a shift of a register
  abbrev shifted : ShiftOp → Width → Reg → Count → After
  shifted op w r by = writing next registers choice.flags w (place.Reg r) (low w (shift_result op w by (choice.numbers 0) (low w (registers (number r)))))

  shift_exact : (op : ShiftOp) (w : Width) (r : Reg) (by : Count) → is_times_16 op w by ≡ true
      → May (any_flags ∷ stmt.Shl (var.Reg r) ∷ stmt.Flow flow.Next ∷ []) [] (shifted op w r by)
  shift_exact shift.Shl W64 r (count.Imm n) e =
      let four : n ≡ 4 = same_number n 4 e in
      let after : ℕ → After = λ k. going (put registers (number r) (registers (number r) * 2 ^ (k % 64) % 2 ^ 64)) choice.flags Next in
      (0, 0, zero_word, (flags_pick choice.flags, (pick, (pick, ap (λ (k : ℕ). finish stores bytes [] (after k) 0) (sym four)))))
  shift_exact _ w r by e = cc

  pub shift_op : AreWords registers → (op : ShiftOp) (w : Width) (dst : Place) (by : Count) → Run (insn.Shift op w dst by)
  shift_op words op w (place.Reg r) by =
      let P : Stmt → Type 0 = λ s. May (any_flags ∷ s ∷ stmt.Flow flow.Next ∷ []) [] (shifted op w r by) in
      let x : ℕ = low w (registers (number r)) in
      either_stmt P (is_times_16 op w by) (stmt.Shl (var.Reg r)) (stmt.Open (var.Reg r) w) (λ e. shift_exact op w r by e)
      (λ e. any_of_one words w (place.Reg r) (place.Reg r) choice.flags (shift_result op w by (choice.numbers 0) x) (shift_word op w by (choice.numbers 0) x (choice.are_words 0)))
  shift_op words op w (place.High h) by =
      let x : ℕ = low w (place_word registers 0 (place.High h)) in
      any_of_one words w (place.High h) (place.High h) choice.flags (shift_result op w by (choice.numbers 0) x) (shift_word op w by (choice.numbers 0) x (choice.are_words 0))
  shift_op words op w (place.Mem mem) by =
      let x : ℕ = low w (first_loaded loads bytes (reads_place next registers w (place.Mem mem))) in
      any_of_one words w (place.Mem mem) (place.Mem mem) choice.flags (shift_result op w by (choice.numbers 0) x) (shift_word op w by (choice.numbers 0) x (choice.are_words 0))

  -- a register is open in all 64 bits
  whole_register : (w : Width) (src : Place) (dst : Reg) (x : ℕ) → x < 2 ^ 64
      → May ((fetched w src ++ any_flags ∷ stmt.Open (var.Reg dst) W64 ∷ []) ++ stmt.Flow flow.Next ∷ []) (reads_place next registers w src) (going (put registers (number dst) x) choice.flags Next)
  whole_register w src dst x h =
      let rs : List Access = reads_place next registers w src in
      let after : After = going (put registers (number dst) x) choice.flags Next in
      from_zero _ rs after
      (fetch_any loads stores next registers bytes choice flags w src [] 0 (any_flags ∷ stmt.Open (var.Reg dst) W64 ∷ []) (stmt.Flow flow.Next ∷ []) (finish stores bytes rs after)
      (λ t. (t, (flags_pick choice.flags, (pick_number loads stores next registers bytes choice x h, (pick, refl))))))

  pub bits_op : AreWords registers → (op : BitsOp) (w : Width) (dst : Reg) (src : Place) → Run (insn.Bits op w dst src)
  bits_op words bits.Popcnt w dst src = whole_register w src dst _ (low_written w (registers (number dst)) (choice.numbers 0) (words (number dst)) (choice.are_words 0))
  bits_op words bits.Bsf w dst src = whole_register w src dst (choice.numbers 0) (choice.are_words 0)
  bits_op words bits.Bsr w dst src = whole_register w src dst (choice.numbers 0) (choice.are_words 0)
  bits_op words bits.Tzcnt w dst src = whole_register w src dst (choice.numbers 0) (choice.are_words 0)
  bits_op words bits.Lzcnt w dst src = whole_register w src dst (choice.numbers 0) (choice.are_words 0)

  two_products : AreWords registers → (w : Width) (src : Place)
      → May ((fetched w src ++ any_flags ∷ stmt.Open (var.Reg Rax) w ∷ stmt.Open (var.Reg Rdx) w ∷ []) ++ stmt.Flow flow.Next ∷ []) (reads_place next registers w src)
      (going (put_place (put_place registers w (place.Reg Rax) (low w (choice.numbers 0))) w (place.Reg Rdx) (low w (choice.numbers 1))) choice.flags Next)
  two_products words w src =
      let rs : List Access = reads_place next registers w src in
      let x : ℕ = choice.numbers 0 in
      let y : ℕ = choice.numbers 1 in
      let first : Registers = put_place registers w (place.Reg Rax) (low w x) in
      let first_words : AreWords first = put_word registers 0 (with_low w (registers 0) (low w x)) words (low_written w (registers 0) x (words 0) (choice.are_words 0)) in
      let after : After = going (put_place first w (place.Reg Rdx) (low w y)) choice.flags Next in
      from_zero _ rs after
      (fetch_any loads stores next registers bytes choice flags w src [] 0 (any_flags ∷ stmt.Open (var.Reg Rax) w ∷ stmt.Open (var.Reg Rdx) w ∷ []) (stmt.Flow flow.Next ∷ []) (finish stores bytes rs after)
      (λ t. let e : Ends loads stores next registers bytes choice (stmt.Open (var.Reg Rax) w ∷ stmt.Open (var.Reg Rdx) w ∷ stmt.Flow flow.Next ∷ []) (after_reads loads stores next registers bytes choice choice.flags rs t) (finish stores bytes rs after) =
      open_register loads stores next registers bytes choice words choice.flags w Rax rs t x (stmt.Open (var.Reg Rdx) w ∷ stmt.Flow flow.Next ∷ []) (finish stores bytes rs after) (choice.are_words 0)
      (open_place loads stores next first bytes choice first_words choice.flags w (place.Reg Rdx) rs t y (choice.are_words 1)) in
      (e.0, (flags_pick choice.flags, e.1))))

  pub muldiv : AreWords registers → (op : MulDivOp) (w : Width) (src : Place) → Run (insn.MulDiv op w src)
  muldiv words op W8 src = whole_register W8 src Rax _ (low_written W16 (registers 0) (choice.numbers 0) (words 0) (choice.are_words 0))
  muldiv words op W16 src = two_products words W16 src
  muldiv words op W32 src = two_products words W32 src
  muldiv words op W64 src = two_products words W64 src
