-- Every result of a statement is a word of 64 bits.
use Rattle.std.proofs.Common.{◌≡◌, ℕ, ℤ, pos, negsuc, ◌*◌, ◌^◌, ◌<◌, ◌≤◌, ◌==◌, Bool, true, false, List, [], ◌∷◌, Option, None, Some, sym, ap, subst, arith, bit_and, if◌then◌else◌, inl, inr}
use Rattle.std.proofs.lemmas.Bool.{false≢true}
use Rattle.std.proofs.lemmas.Nat.{mod_below, and_le_l}
use Rattle.vw_insn.specs.declared.registers.Width.{Width}
use Rattle.vw_insn.specs.declared.registers.Width.TheVariants.{W8, W16, W32, W64}
use Rattle.vw_insn.specs.Listed.{IsNarrow, IsWide}
use Rattle.vw_insn.specs.Words.{number, low, with_low, word_of, put}
use Rattle.vw_insn.specs.Arithmetic.{modulus, has_top_bit, extended}
use Rattle.vw_insn.specs.Effect.{address, lowered, raised}
use Rattle.vw_insn.specs.declared.operands.Mem.{Mem}
use Rattle.vw_stmt.specs.declared.operands.Var.{Var}
use Rattle.vw_stmt.specs.declared.operands.Var.TheVariants as var
use Rattle.vw_stmt.specs.declared.operands.Operand.{Operand}
use Rattle.vw_stmt.specs.declared.operands.Operand.TheVariants as operand
use Rattle.vw_stmt.specs.declared.operands.Compare.{Compare}
use Rattle.vw_stmt.specs.declared.statement.Flow.{Flow}
use Rattle.vw_stmt.specs.declared.statement.Flow.TheVariants as flow
use Rattle.vw_stmt.specs.declared.statement.Stmt.{Stmt}
use Rattle.vw_stmt.specs.declared.statement.Stmt.TheVariants as stmt
use Rattle.vw_stmt.specs.Environment.{Environment, Pick, var_value, operand_value, set_var}
use Rattle.vw_stmt.specs.Does.{width_of, set_width, opened, sum_or_difference, reading, writing, flows, flagging, does, Does}
use Rattle.vw_stmt.specs.Lifted.{IsLifted, IsLoad}
use Rattle.vw_stmt.specs.Laws.{HasWords, AreBytes, HoldsWords}
use Rattle.std.specs.List.{AllByRecursion}

pub low_fits : (w : Width) (x : ℕ) → x < 2 ^ 64 → low w x < modulus w
low_fits W8 x h = mod_below x (2 ^ 8) (omega arith)
low_fits W16 x h = mod_below x (2 ^ 16) (omega arith)
low_fits W32 x h = mod_below x (2 ^ 32) (omega arith)
low_fits W64 x h = h

pub modulus_word : (w : Width) (x : ℕ) → x < modulus w → x < 2 ^ 64
modulus_word W8 x h = omega arith
modulus_word W16 x h = omega arith
modulus_word W32 x h = omega arith
modulus_word W64 x h = h

pub with_low_word : (w : Width) (old x : ℕ) → old < 2 ^ 64 → x < modulus w → with_low w old x < 2 ^ 64
with_low_word W8 old x o h = omega arith
with_low_word W16 old x o h = omega arith
with_low_word W32 old x o h = omega arith
with_low_word W64 old x o h = h

pub word_of_word : (i : ℤ) → word_of i < 2 ^ 64
word_of_word (pos n) = mod_below n (2 ^ 64) (omega arith)
word_of_word (negsuc n) = omega arith

pub either : (b : Bool) (m x y : ℕ) → x < m → y < m → (if b then x else y) < m
either true m x y hx hy = hx
either false m x y hx hy = hy

pub put_word : (registers : ℕ → ℕ) (q v : ℕ) → ((r : ℕ) → registers r < 2 ^ 64) → v < 2 ^ 64 → (r : ℕ) → put registers q v r < 2 ^ 64
put_word registers q v all h r = either (r == q) (2 ^ 64) v (registers r) h (all r)

-- a number of at most 32 bits, extended to 32 or 64 bits
pub extended_fits : (signed : Bool) (from to : Width) (x : ℕ) → IsNarrow from → IsWide to → x < modulus from → extended signed from to x < modulus to
extended_fits false W8 W32 x n w h = omega arith
extended_fits false W8 W64 x n w h = omega arith
extended_fits false W16 W32 x n w h = omega arith
extended_fits false W16 W64 x n w h = omega arith
extended_fits false W32 W32 x n w h = h
extended_fits false W32 W64 x n w h = omega arith
extended_fits true W8 W32 x n w h = either (has_top_bit W8 x) (2 ^ 32) _ _ (mod_below _ (2 ^ 32) (omega arith)) (omega arith)
extended_fits true W8 W64 x n w h = either (has_top_bit W8 x) (2 ^ 64) _ _ (omega arith) (omega arith)
extended_fits true W16 W32 x n w h = either (has_top_bit W16 x) (2 ^ 32) _ _ (mod_below _ (2 ^ 32) (omega arith)) (omega arith)
extended_fits true W16 W64 x n w h = either (has_top_bit W16 x) (2 ^ 64) _ _ (omega arith) (omega arith)
extended_fits true W32 W32 x n w h = either (has_top_bit W32 x) (2 ^ 32) _ _ (mod_below _ (2 ^ 32) (omega arith)) h
extended_fits true W32 W64 x n w h = either (has_top_bit W32 x) (2 ^ 64) _ _ (omega arith) (omega arith)
extended_fits _ W64 to x n w h = absurd n
extended_fits _ _ W8 x n w h = absurd w
extended_fits _ _ W16 x n w h = absurd w

at_width : (signed : Bool) (to : Width) (x : ℕ) (from : Width) (size : ℕ) → width_of size ≡ from → extended signed from to (low from x) < modulus to → extended signed (width_of size) to (low (width_of size) x) < modulus to
at_width signed to x from size e t = rw e t

narrow_load : (signed : Bool) (to : Width) (x : ℕ) (from : Width) (size : ℕ) → width_of size ≡ from → IsNarrow from → IsWide to → x < 2 ^ 64 → extended signed (width_of size) to (low (width_of size) x) < modulus to
narrow_load signed to x from size e n w h = at_width signed to x from size e (extended_fits signed from to (low from x) n w (low_fits from x h))

-- a number that is loaded fits the width to which it is extended
pub load_fits : (size : ℕ) (to : Width) (signed : Bool) (x : ℕ) → IsLoad size to signed → x < 2 ^ 64 → extended signed (width_of size) to (low (width_of size) x) < modulus to
load_fits size W8 false x l h = at_width false W8 x W8 size (ap width_of l.0) (low_fits W8 x h)
load_fits size W8 true x l h = absurd (false≢true (sym l.1))
load_fits size W16 false x l h = at_width false W16 x W16 size (ap width_of l.0) (low_fits W16 x h)
load_fits size W16 true x l h = absurd (false≢true (sym l.1))
load_fits size W32 signed x (inl e) h = narrow_load signed W32 x W8 size (ap width_of e) tt tt h
load_fits size W32 signed x (inr (inl e)) h = narrow_load signed W32 x W16 size (ap width_of e) tt tt h
load_fits size W32 signed x (inr (inr e)) h = narrow_load signed W32 x W32 size (ap width_of e) tt tt h
load_fits size W64 true x (inl e) h = narrow_load true W64 x W8 size (ap width_of e) tt tt h
load_fits size W64 true x (inr (inl e)) h = narrow_load true W64 x W16 size (ap width_of e) tt tt h
load_fits size W64 true x (inr (inr e)) h = narrow_load true W64 x W32 size (ap width_of e) tt tt h
load_fits size W64 false x (inl e) h = narrow_load false W64 x W8 size (ap width_of e) tt tt h
load_fits size W64 false x (inr (inl e)) h = narrow_load false W64 x W16 size (ap width_of e) tt tt h
load_fits size W64 false x (inr (inr (inl e))) h = narrow_load false W64 x W32 size (ap width_of e) tt tt h
load_fits size W64 false x (inr (inr (inr e))) h = at_width false W64 x W64 size (ap width_of e) h

pub var_word : (e : Environment) (v : Var) → HasWords e → var_value e v < 2 ^ 64
var_word e (var.Reg r) h = h.in_registers (number r)
var_word e var.Tmp h = h.in_tmp

pub operand_word : (e : Environment) (b : Operand) → HasWords e → operand_value e b < 2 ^ 64
operand_word e (operand.Var v) h = var_word e v h
operand_word e (operand.Imm i) h = word_of_word i

pub set_words : (e : Environment) (dst : Var) (x : ℕ) → HasWords e → x < 2 ^ 64 → HasWords (set_var e dst x)
set_words e (var.Reg r) x h fits = record { in_registers = put_word e.registers (number r) x h.in_registers fits; in_tmp = h.in_tmp }
set_words e var.Tmp x h fits = record { in_registers = h.in_registers; in_tmp = fits }

pub set_width_words : (e : Environment) (dst : Var) (w : Width) (x : ℕ) → HasWords e → x < modulus w → HasWords (set_width e dst w x)
set_width_words e dst w x h fits = set_words e dst (with_low w (var_value e dst) x) h (with_low_word w (var_value e dst) x (var_word e dst h) fits)

pub opened_word : (w : Width) (x : ℕ) → x < 2 ^ 64 → opened w x < 2 ^ 64
opened_word W8 x h = h
opened_word W16 x h = h
opened_word W32 x h = modulus_word W32 _ (low_fits W32 x h)
opened_word W64 x h = h

pub sum_word : (minus : Bool) (x y : ℕ) → sum_or_difference minus x y < 2 ^ 64
sum_word true x y = mod_below _ (2 ^ 64) (omega arith)
sum_word false x y = mod_below _ (2 ^ 64) (omega arith)

pub address_word : (next : ℕ) (registers : ℕ → ℕ) (mem : Mem) → address next registers mem < 2 ^ 64
address_word next registers mem = mod_below _ (2 ^ 64) (omega arith)

pub and_fits : (w : Width) (x y : ℕ) → x < 2 ^ 64 → low w (bit_and (low w x) (low w y)) < modulus w
and_fits w x y h = low_fits w (bit_and (low w x) (low w y)) (let le : bit_and (low w x) (low w y) ≤ low w x = and_le_l (low w x) (low w y) in
    let low_is_word : low w x < 2 ^ 64 = modulus_word w (low w x) (low_fits w x h) in
    omega (arith, le, low_is_word))

size_le : (size : ℕ) (to : Width) (signed : Bool) → IsLoad size to signed → size ≤ 8
size_le size W8 signed l = omega (arith, l.0)
size_le size W16 signed l = omega (arith, l.0)
size_le size W32 signed l = omega (arith, l)
size_le size W64 true l = omega (arith, l)
size_le size W64 false l = omega (arith, l)

module _ (loads : (ℕ → ℕ) → ℕ → ℕ → ℕ) (stores : (ℕ → ℕ) → ℕ → ℕ → ℕ → ℕ → ℕ) (next : ℕ) where
  pushed : (e : Environment) → HasWords e → (r : ℕ) → put e.registers 4 (lowered (e.registers 4)) r < 2 ^ 64
  pushed e h = put_word e.registers 4 (lowered (e.registers 4)) h.in_registers (mod_below _ (2 ^ 64) (omega arith))

  popped : (e : Environment) → HasWords e → (r : ℕ) → put e.registers 4 (raised (e.registers 4)) r < 2 ^ 64
  popped e h = put_word e.registers 4 (raised (e.registers 4)) h.in_registers (mod_below _ (2 ^ 64) (omega arith))

  flow_words : (f : Flow) (e : Environment) → HasWords e → HasWords (flows loads stores next f e)
  flow_words flow.Next e h = record { in_registers = h.in_registers; in_tmp = h.in_tmp }
  flow_words (flow.Jump rel) e h = record { in_registers = h.in_registers; in_tmp = h.in_tmp }
  flow_words (flow.Branch cond rel) e h = record { in_registers = h.in_registers; in_tmp = h.in_tmp }
  flow_words (flow.JumpReg src) e h = record { in_registers = h.in_registers; in_tmp = h.in_tmp }
  flow_words (flow.Call rel) e h = record { in_registers = pushed e h; in_tmp = h.in_tmp }
  flow_words (flow.CallReg src) e h = record { in_registers = pushed e h; in_tmp = h.in_tmp }
  flow_words flow.Ret e h = record { in_registers = popped e h; in_tmp = h.in_tmp }
  flow_words flow.Stop e h = record { in_registers = h.in_registers; in_tmp = h.in_tmp }

  read_words : (e : Environment) (a n : ℕ) → HasWords e → HasWords (reading loads stores next e a n)
  read_words e a n h = record { in_registers = h.in_registers; in_tmp = h.in_tmp }

  write_words : (e : Environment) (a n v : ℕ) → HasWords e → HasWords (writing loads stores next e a n v)
  write_words e a n v h = record { in_registers = h.in_registers; in_tmp = h.in_tmp }

  flag_words : (fact : Option Compare) (pick : Pick) (e : Environment) → HasWords e → HasWords (flagging loads stores next fact pick e)
  flag_words None pick e h = record { in_registers = h.in_registers; in_tmp = h.in_tmp }
  flag_words (Some c) pick e h = record { in_registers = h.in_registers; in_tmp = h.in_tmp }

  stmt_words : (s : Stmt) (pick : Pick) (e : Environment) → ((a n : ℕ) → n ≤ 8 → loads e.bytes a n < 2 ^ 64) → IsLifted s → HasWords e → HasWords (does loads stores next s pick e)
  stmt_words (stmt.Set dst c) pick e l i h = set_words e dst c h i
  stmt_words (stmt.Copy dst src) pick e l i h = set_words e dst (var_value e src) h (var_word e src h)
  stmt_words (stmt.Narrow dst src from to signed) pick e l i h =
      set_width_words e dst to _ h (extended_fits signed from to (low from (var_value e src)) i.0 i.1 (low_fits from (var_value e src) (var_word e src h)))
  stmt_words (stmt.Sum dst a b minus) pick e l i h = set_words e dst _ h (sum_word minus (var_value e a) (operand_value e b))
  stmt_words (stmt.Lea dst mem) pick e l i h = set_words e dst _ h (address_word next e.registers mem)
  stmt_words (stmt.And dst w a b) pick e l i h = set_width_words e dst w _ h (and_fits w (var_value e a) (operand_value e b) (var_word e a h))
  stmt_words (stmt.Shl dst) pick e l i h = set_words e dst _ h (mod_below (var_value e dst * 2 ^ 4) (2 ^ 64) (omega arith))
  stmt_words (stmt.Open dst w) pick e l i h = set_words e dst _ h (opened_word w (pick.choice.numbers 0) (pick.choice.are_words 0))
  stmt_words (stmt.Choose dst w a b) pick e l i h =
      set_width_words e dst w _ h (low_fits w _ (either pick.second (2 ^ 64) _ _ (operand_word e b h) (var_word e a h)))
  stmt_words (stmt.Load dst size to signed mem) pick e l i h =
      set_width_words (reading loads stores next e (address next e.registers mem) size) dst to _ (read_words e (address next e.registers mem) size h)
      (load_fits size to signed _ i.0 (l (address next e.registers mem) size (size_le size to signed i.0)))
  stmt_words (stmt.Store mem size src) pick e l i h = write_words e _ _ _ h
  stmt_words (stmt.Touch mem size true) pick e l i h = write_words e _ _ _ h
  stmt_words (stmt.Touch mem size false) pick e l i h = read_words e _ _ h
  stmt_words (stmt.Flags fact) pick e l i h = flag_words fact pick e h
  stmt_words (stmt.Flow f) pick e l i h = flow_words f e h

  set_good : (e : Environment) (v : Var) (x : ℕ) → AreBytes e.bytes → AreBytes (set_var e v x).bytes
  set_good e (var.Reg r) x g = g
  set_good e var.Tmp x g = g

  flow_good : HoldsWords loads stores → (f : Flow) (e : Environment) → AreBytes e.bytes → AreBytes (flows loads stores next f e).bytes
  flow_good m flow.Next e g = g
  flow_good m (flow.Jump rel) e g = g
  flow_good m (flow.Branch cond rel) e g = g
  flow_good m (flow.JumpReg src) e g = g
  flow_good m (flow.Call rel) e g = m.stays e.bytes _ _ _ g
  flow_good m (flow.CallReg src) e g = m.stays e.bytes _ _ _ g
  flow_good m flow.Ret e g = g
  flow_good m flow.Stop e g = g

  flag_good : (fact : Option Compare) (pick : Pick) (e : Environment) → AreBytes e.bytes → AreBytes (flagging loads stores next fact pick e).bytes
  flag_good None pick e g = g
  flag_good (Some c) pick e g = g

  stmt_good : HoldsWords loads stores → (s : Stmt) (pick : Pick) (e : Environment) → AreBytes e.bytes → AreBytes (does loads stores next s pick e).bytes
  stmt_good m (stmt.Set dst c) pick e g = set_good e dst _ g
  stmt_good m (stmt.Copy dst src) pick e g = set_good e dst _ g
  stmt_good m (stmt.Narrow dst src from to signed) pick e g = set_good e dst _ g
  stmt_good m (stmt.Sum dst a b minus) pick e g = set_good e dst _ g
  stmt_good m (stmt.Lea dst mem) pick e g = set_good e dst _ g
  stmt_good m (stmt.And dst w a b) pick e g = set_good e dst _ g
  stmt_good m (stmt.Shl dst) pick e g = set_good e dst _ g
  stmt_good m (stmt.Open dst w) pick e g = set_good e dst _ g
  stmt_good m (stmt.Choose dst w a b) pick e g = set_good e dst _ g
  stmt_good m (stmt.Load dst size to signed mem) pick e g = set_good (reading loads stores next e (address next e.registers mem) size) dst _ g
  stmt_good m (stmt.Store mem size src) pick e g = m.stays e.bytes _ _ _ g
  stmt_good m (stmt.Touch mem size true) pick e g = m.stays e.bytes _ _ _ g
  stmt_good m (stmt.Touch mem size false) pick e g = g
  stmt_good m (stmt.Flags fact) pick e g = flag_good fact pick e g
  stmt_good m (stmt.Flow f) pick e g = flow_good m f e g

  pub run_words : HoldsWords loads stores → (stmts : List Stmt) → AllByRecursion IsLifted stmts → (e e' : Environment) → HasWords e → AreBytes e.bytes → Does loads stores next stmts e e' → HasWords e' × AreBytes e'.bytes
  run_words m [] i e e' h g d = (subst HasWords d h, subst (λ (q : Environment). AreBytes q.bytes) d g)
  run_words m (s ∷ stmts) i e e' h g (pick, d) =
      run_words m stmts i.1 (does loads stores next s pick e) e' (stmt_words s pick e (m.gives e.bytes g) i.0 h) (stmt_good m s pick e g) d
