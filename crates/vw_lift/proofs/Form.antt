-- The form of the lists: their fields, their length, and that nothing accesses memory after a write.
use Rattle.std.proofs.Common.{◌≡◌, ℕ, ◌+◌, ◌≤◌, Bool, true, false, ◌&&◌, if◌then◌else◌, List, [], ◌∷◌, ◌++◌, length, refl, sym, subst, arith, inl, inr, ℤ, pos}
use Rattle.std.specs.List.{AllByRecursion}
use Rattle.vw_insn.specs.declared.registers.Width.{Width}
use Rattle.vw_insn.specs.declared.registers.Width.TheVariants.{W8, W16, W32, W64}
use Rattle.vw_insn.specs.declared.registers.Reg.{Reg}
use Rattle.vw_insn.specs.declared.registers.Reg.TheVariants.{Rax, Rdx, Rsp, Rbp}
use Rattle.vw_insn.specs.declared.operands.Mem.{Mem}
use Rattle.vw_insn.specs.declared.operands.Place.{Place}
use Rattle.vw_insn.specs.declared.operands.Place.TheVariants as place
use Rattle.vw_insn.specs.declared.operands.Source.{Source}
use Rattle.vw_insn.specs.declared.operands.Source.TheVariants as source
use Rattle.vw_insn.specs.declared.operands.XmmOperand.{XmmOperand}
use Rattle.vw_insn.specs.declared.operands.XmmOperand.TheVariants as xmm
use Rattle.vw_insn.specs.declared.operations.AluOp.{AluOp}
use Rattle.vw_insn.specs.declared.operations.AluOp.TheVariants as alu
use Rattle.vw_insn.specs.declared.operations.UnaryOp.{UnaryOp}
use Rattle.vw_insn.specs.declared.operations.UnaryOp.TheVariants as unary
use Rattle.vw_insn.specs.declared.operations.ShiftOp.{ShiftOp}
use Rattle.vw_insn.specs.declared.operations.MulDivOp.{MulDivOp}
use Rattle.vw_insn.specs.declared.operands.Count.{Count}
use Rattle.vw_insn.specs.declared.xmm.XmmRow.{XmmRow}
use Rattle.vw_insn.specs.declared.xmm.XmmRole.{XmmRole}
use Rattle.vw_insn.specs.declared.xmm.XmmRole.TheVariants as role
use Rattle.vw_insn.specs.declared.xmm.XmmSize.{XmmSize}
use Rattle.vw_insn.specs.declared.xmm.XmmSize.TheVariants as size
use Rattle.vw_insn.specs.declared.instruction.Insn.{Insn}
use Rattle.vw_insn.specs.declared.instruction.Insn.TheVariants as insn
use Rattle.vw_insn.specs.Listed.{IsListed, IsMem, IsPlace, IsFullPlace, IsSource, IsFullSource, IsTested, IsNarrow, IsWide, IsXmmOperand}
use Rattle.vw_insn.specs.Words.{bytes_in, word_of}
use Rattle.vw_insn.specs.XmmTable.{xmm_traits, xmm_role, bytes_of, is_xmm_store}
use Rattle.vw_insn.specs.Effect.{at_rsp, below_rsp}
use Rattle.vw_stmt.specs.declared.operands.Operand.{Operand}
use Rattle.vw_stmt.specs.declared.operands.Operand.TheVariants as operand
use Rattle.vw_stmt.specs.declared.operands.Var.{Var}
use Rattle.vw_stmt.specs.declared.operands.Var.TheVariants as var
use Rattle.vw_stmt.specs.declared.statement.Flow.{Flow}
use Rattle.vw_stmt.specs.declared.statement.Flow.TheVariants as flow
use Rattle.vw_stmt.specs.declared.statement.Stmt.{Stmt}
use Rattle.vw_stmt.specs.declared.statement.Stmt.TheVariants as stmt
use Rattle.vw_stmt.specs.Lifted.{IsLifted, IsLoad, IsWordSize, IsXmmSize, IsFact}
use Rattle.vw_lift.specs.Lifted.{var_of, operand_of, load_tmp, fetched, fetched_source, left_open, any_flags, cancels, is_itself, computed, alu_written, compared_at, is_times_16, copied, set_to, pushed, general_open, xmm_compared, lifted}
use Rattle.vw_lift.specs.Simulation.{writes_memory, is_silent, stores_last, is_empty, is_flow, ends_with_flow, HasWord, IsInForm}
use Rattle.vw_stmt.proofs.WordLemmas.{word_of_word}
use Rattle.vw_lift.proofs.Numbers.{low_word}

record Form (n : ℕ) (stmts : List Stmt) : Type 0 where
  pub fields : AllByRecursion IsLifted stmts
  pub few : length stmts ≤ n
  pub stores : stores_last stmts ≡ true
  pub flow : ends_with_flow stmts ≡ true

wider : (n m : ℕ) (stmts : List Stmt) → n ≤ m → Form n stmts → Form m stmts
wider n m stmts h f = record { fields = f.fields; few = let k : length stmts ≤ n = f.few in omega arith; stores = f.stores; flow = f.flow }

load_size : (w : Width) → IsLoad (bytes_in w) w false
load_size W8 = (refl, refl)
load_size W16 = (refl, refl)
load_size W32 = inr (inr refl)
load_size W64 = inr (inr (inr refl))

word_size : (w : Width) → IsWordSize (bytes_in w)
word_size W8 = inl refl
word_size W16 = inr (inl refl)
word_size W32 = inr (inr (inl refl))
word_size W64 = inr (inr (inr refl))

extend_size : (signed : Bool) (from to : Width) → IsNarrow from → IsWide to → IsLoad (bytes_in from) to signed
extend_size signed W8 W32 n w = inl refl
extend_size signed W16 W32 n w = inr (inl refl)
extend_size signed W32 W32 n w = inr (inr refl)
extend_size true W8 W64 n w = inl refl
extend_size true W16 W64 n w = inr (inl refl)
extend_size true W32 W64 n w = inr (inr refl)
extend_size false W8 W64 n w = inl refl
extend_size false W16 W64 n w = inr (inl refl)
extend_size false W32 W64 n w = inr (inr (inl refl))
extend_size signed W64 to n w = absurd n
extend_size signed from W8 n w = absurd w
extend_size signed from W16 n w = absurd w

stack_mem : IsMem at_rsp
stack_mem = record { index = tt; rip = λ e. refl }

pushed_mem : IsMem below_rsp
pushed_mem = record { index = tt; rip = λ e. refl }

full_place : (p : Place) → IsFullPlace p → IsPlace p
full_place (place.Reg r) h = tt
full_place (place.High q) h = absurd h
full_place (place.Mem mem) h = h

full_source : (s : Source) → IsFullSource s → IsSource s
full_source (source.Place p) h = full_place p h
full_source (source.Imm i) h = tt

tested : (s : Source) → IsTested s → IsSource s
tested (source.Place (place.Reg r)) h = tt
tested (source.Place (place.High q)) h = tt
tested (source.Place (place.Mem mem)) h = absurd h
tested (source.Imm i) h = tt

-- a statement that writes no memory comes first
quiet_first : (n : ℕ) (s : Stmt) (stmts : List Stmt) → IsLifted s → writes_memory s ≡ false → is_flow s ≡ false → Form n stmts → Form (n + 1) (s ∷ stmts)
quiet_first n s stmts l e step f =
    record {
      fields = (l, f.fields);
      few = let k : length stmts ≤ n = f.few in omega arith;
      stores = let P : Bool → Type 0 = λ b. (if b then is_silent stmts else stores_last stmts) ≡ true in subst P (sym e) f.stores;
      flow = let Q : Bool → Type 0 = λ b. (if b then is_empty stmts else ends_with_flow stmts) ≡ true in subst Q (sym step) f.flow;
    }

flags_first : (n : ℕ) (stmts : List Stmt) → Form n stmts → Form (n + 1) (any_flags ∷ stmts)
flags_first n stmts f = quiet_first n any_flags stmts tt refl refl f

load_first : (n : ℕ) (w : Width) (mem : Mem) (stmts : List Stmt) → IsMem mem → Form n stmts → Form (n + 1) (load_tmp w mem ∷ stmts)
load_first n w mem stmts m f = quiet_first n (load_tmp w mem) stmts (load_size w, m) refl refl f

fetch_form : (n : ℕ) (w : Width) (p : Place) (a b : List Stmt) → IsPlace p → Form n (a ++ b) → Form (n + 1) ((fetched w p ++ a) ++ b)
fetch_form n w (place.Reg r) a b is f = wider n (n + 1) (a ++ b) (omega arith) f
fetch_form n w (place.High h) a b is f = wider n (n + 1) (a ++ b) (omega arith) f
fetch_form n w (place.Mem mem) a b is f = load_first n w mem (a ++ b) is f

fetch_source_form : (n : ℕ) (w : Width) (s : Source) (a b : List Stmt) → IsSource s → Form n (a ++ b) → Form (n + 1) ((fetched_source w s ++ a) ++ b)
fetch_source_form n w (source.Place p) a b is f = fetch_form n w p a b is f
fetch_source_form n w (source.Imm i) a b is f = wider n (n + 1) (a ++ b) (omega arith) f

fetch_both_form : (n : ℕ) (w : Width) (p : Place) (s : Source) (a b : List Stmt) → IsPlace p → IsSource s → Form n (a ++ b)
    → Form (n + 1 + 1) (((fetched w p ++ fetched_source w s) ++ a) ++ b)
fetch_both_form n w (place.Reg r) s a b p is f = wider (n + 1) (n + 1 + 1) _ (omega arith) (fetch_source_form n w s a b is f)
fetch_both_form n w (place.High h) s a b p is f = wider (n + 1) (n + 1 + 1) _ (omega arith) (fetch_source_form n w s a b is f)
fetch_both_form n w (place.Mem mem) s a b p is f = load_first (n + 1) w mem _ p (fetch_source_form n w s a b is f)

flow_form : (f : Flow) → Form 1 (stmt.Flow f ∷ [])
flow_form flow.Next = record { fields = (tt, tt); few = omega arith; stores = refl; flow = refl }
flow_form (flow.Jump rel) = record { fields = (tt, tt); few = omega arith; stores = refl; flow = refl }
flow_form (flow.Branch cond rel) = record { fields = (tt, tt); few = omega arith; stores = refl; flow = refl }
flow_form (flow.JumpReg src) = record { fields = (tt, tt); few = omega arith; stores = refl; flow = refl }
flow_form (flow.Call rel) = record { fields = (tt, tt); few = omega arith; stores = refl; flow = refl }
flow_form (flow.CallReg src) = record { fields = (tt, tt); few = omega arith; stores = refl; flow = refl }
flow_form flow.Ret = record { fields = (tt, tt); few = omega arith; stores = refl; flow = refl }
flow_form flow.Stop = record { fields = (tt, tt); few = omega arith; stores = refl; flow = refl }

always : (b : Bool) (x y : Bool) → x ≡ true → y ≡ true → (if b then x else y) ≡ true
always true x y hx hy = hx
always false x y hx hy = hy

-- the last statement but the transfer to the next instruction
last_form : (s : Stmt) → IsLifted s → is_flow s ≡ false → Form 2 (s ∷ stmt.Flow flow.Next ∷ [])
last_form s l step =
    record {
      fields = (l, (tt, tt));
      few = omega arith;
      stores = always (writes_memory s) true true refl refl;
      flow = let Q : Bool → Type 0 = λ b. (if b then false else true) ≡ true in subst Q (sym step) refl;
    }

open_form : (w : Width) (p : Place) → IsPlace p → Form 3 (left_open w p ++ stmt.Flow flow.Next ∷ [])
open_form w (place.Reg r) is = wider 2 3 _ (omega arith) (last_form (stmt.Open (var.Reg r) w) tt refl)
open_form w (place.High h) is = wider 2 3 _ (omega arith) (last_form (stmt.Open _ W8) tt refl)
open_form w (place.Mem mem) is = quiet_first 2 (stmt.Open var.Tmp w) _ tt refl refl (last_form (stmt.Store mem (bytes_in w) (operand.Var var.Tmp)) (word_size w, is) refl)

computed_lifted : (op : AluOp) (w : Width) (r : Reg) (src : Source) → IsLifted (computed op w r src)
computed_lifted alu.Add W64 r src = tt
computed_lifted alu.Sub W64 r src = tt
computed_lifted alu.And W32 r src = tt
computed_lifted alu.And W64 r src = tt
computed_lifted _ w r src = tt

either_step : (b : Bool) (x y : Stmt) → is_flow x ≡ false → is_flow y ≡ false → is_flow (if b then x else y) ≡ false
either_step true x y hx hy = hx
either_step false x y hx hy = hy

computed_step : (op : AluOp) (w : Width) (r : Reg) (src : Source) → is_flow (computed op w r src) ≡ false
computed_step alu.Add W64 r src = refl
computed_step alu.Sub W64 r src = refl
computed_step alu.And W32 r src = refl
computed_step alu.And W64 r src = refl
computed_step _ w r src = refl

either_lifted : (b : Bool) (x y : Stmt) → IsLifted x → IsLifted y → IsLifted (if b then x else y)
either_lifted true x y hx hy = hx
either_lifted false x y hx hy = hy

written_form : (op : AluOp) (w : Width) (dst : Place) (src : Source) → IsPlace dst → Form 3 (alu_written op w dst src ++ stmt.Flow flow.Next ∷ [])
written_form op w (place.Reg r) src is =
    wider 2 3 _ (omega arith) (last_form _ (either_lifted (cancels op w && is_itself r src) (stmt.Set (var.Reg r) 0) (computed op w r src) (omega arith) (computed_lifted op w r src)) (either_step (cancels op w && is_itself r src) (stmt.Set (var.Reg r) 0) (computed op w r src) refl (computed_step op w r src)))
written_form op w (place.High h) src is = open_form w (place.High h) is
written_form op w (place.Mem mem) src is = open_form w (place.Mem mem) is

compared_lifted : (w : Width) (dst : Place) (src : Source) → IsFact (compared_at w dst src)
compared_lifted W8 dst src = tt
compared_lifted W16 dst src = tt
compared_lifted W32 (place.Reg r) src = tt
compared_lifted W32 (place.High h) src = tt
compared_lifted W32 (place.Mem mem) (source.Place (place.Reg r)) = tt
compared_lifted W32 (place.Mem mem) (source.Place (place.High h)) = tt
compared_lifted W32 (place.Mem mem) (source.Place (place.Mem m)) = tt
compared_lifted W32 (place.Mem mem) (source.Imm i) = tt
compared_lifted W64 (place.Reg r) src = tt
compared_lifted W64 (place.High h) src = tt
compared_lifted W64 (place.Mem mem) (source.Place (place.Reg r)) = tt
compared_lifted W64 (place.Mem mem) (source.Place (place.High h)) = tt
compared_lifted W64 (place.Mem mem) (source.Place (place.Mem m)) = tt
compared_lifted W64 (place.Mem mem) (source.Imm i) = tt

to_form : (n : ℕ) (stmts : List Stmt) → n ≤ 8 → Form n stmts → IsInForm stmts
to_form n stmts h f = record { fields = f.fields; few = let k : length stmts ≤ n = f.few in omega arith; stores = f.stores; flow = f.flow }

alu_form : (op : AluOp) (w : Width) (dst : Place) (src : Source) → IsPlace dst → IsSource src → IsInForm (lifted (insn.Alu op w dst src))
alu_form alu.Cmp w dst src p s = to_form _ _ (omega arith) (fetch_both_form 2 w dst src _ _ p s (last_form (stmt.Flags (compared_at w dst src)) (compared_lifted w dst src) refl))
alu_form alu.Add w dst src p s = to_form _ _ (omega arith) (fetch_both_form 4 w dst src _ _ p s (flags_first 3 _ (written_form alu.Add w dst src p)))
alu_form alu.Or w dst src p s = to_form _ _ (omega arith) (fetch_both_form 4 w dst src _ _ p s (flags_first 3 _ (written_form alu.Or w dst src p)))
alu_form alu.Adc w dst src p s = to_form _ _ (omega arith) (fetch_both_form 4 w dst src _ _ p s (flags_first 3 _ (written_form alu.Adc w dst src p)))
alu_form alu.Sbb w dst src p s = to_form _ _ (omega arith) (fetch_both_form 4 w dst src _ _ p s (flags_first 3 _ (written_form alu.Sbb w dst src p)))
alu_form alu.And w dst src p s = to_form _ _ (omega arith) (fetch_both_form 4 w dst src _ _ p s (flags_first 3 _ (written_form alu.And w dst src p)))
alu_form alu.Sub w dst src p s = to_form _ _ (omega arith) (fetch_both_form 4 w dst src _ _ p s (flags_first 3 _ (written_form alu.Sub w dst src p)))
alu_form alu.Xor w dst src p s = to_form _ _ (omega arith) (fetch_both_form 4 w dst src _ _ p s (flags_first 3 _ (written_form alu.Xor w dst src p)))

copied_lifted : (w : Width) (r : Reg) (v : Var) → IsLifted (copied w r v)
copied_lifted W64 r v = tt
copied_lifted W32 r v = (tt, tt)
copied_lifted W16 r v = tt
copied_lifted W8 r v = tt

copied_step : (w : Width) (r : Reg) (v : Var) → is_flow (copied w r v) ≡ false
copied_step W64 r v = refl
copied_step W32 r v = refl
copied_step W16 r v = refl
copied_step W8 r v = refl

set_step : (w : Width) (r : Reg) (i : ℤ) → is_flow (set_to w r i) ≡ false
set_step W64 r i = refl
set_step W32 r i = refl
set_step W16 r i = refl
set_step W8 r i = refl

set_lifted : (w : Width) (r : Reg) (i : ℤ) → IsLifted (set_to w r i)
set_lifted W64 r i = word_of_word i
set_lifted W32 r i = low_word W32 (word_of i) (word_of_word i)
set_lifted W16 r i = tt
set_lifted W8 r i = tt

mov_form : (w : Width) (dst : Place) (src : Source) → IsPlace dst → IsSource src → IsInForm (lifted (insn.Mov w dst src))
mov_form w (place.Reg r) (source.Place (place.Reg q)) p s = to_form 2 _ (omega arith) (last_form (copied w r (var.Reg q)) (copied_lifted w r (var.Reg q)) (copied_step w r (var.Reg q)))
mov_form w (place.Reg r) (source.Place (place.High h)) p s = to_form 2 _ (omega arith) (last_form (copied w r var.Tmp) (copied_lifted w r var.Tmp) (copied_step w r var.Tmp))
mov_form w (place.Reg r) (source.Place (place.Mem mem)) p s = to_form 2 _ (omega arith) (last_form (stmt.Load (var.Reg r) (bytes_in w) w false mem) (load_size w, s) refl)
mov_form w (place.Reg r) (source.Imm i) p s = to_form 2 _ (omega arith) (last_form (set_to w r i) (set_lifted w r i) (set_step w r i))
mov_form w (place.High h) src p s = to_form _ _ (omega arith) (fetch_source_form 3 w src (left_open w (place.High h)) _ s (open_form w (place.High h) p))
mov_form w (place.Mem mem) src p s = to_form _ _ (omega arith) (fetch_source_form 2 w src (stmt.Store mem (bytes_in w) (operand_of src) ∷ []) _ s (last_form (stmt.Store mem (bytes_in w) (operand_of src)) (word_size w, p) refl))

pushed_form : (b : Operand) → Form 3 (stmt.Store below_rsp 8 b ∷ stmt.Sum (var.Reg Rsp) (var.Reg Rsp) (operand.Imm (pos 8)) true ∷ stmt.Flow flow.Next ∷ [])
pushed_form b = record { fields = ((inr (inr (inr refl)), pushed_mem), (tt, (tt, tt))); few = omega arith; stores = refl; flow = refl }

popped_form : (r : Reg) → Form 4 (load_tmp W64 at_rsp ∷ stmt.Sum (var.Reg Rsp) (var.Reg Rsp) (operand.Imm (pos 8)) false ∷ stmt.Copy (var.Reg r) var.Tmp ∷ stmt.Flow flow.Next ∷ [])
popped_form r = record { fields = ((load_size W64, stack_mem), (tt, (tt, (tt, tt)))); few = omega arith; stores = refl; flow = refl }

xmm_size_of : (size : XmmSize) (wide : Bool) → IsXmmSize (bytes_of size wide)
xmm_size_of size.Bytes4 wide = inl refl
xmm_size_of size.Bytes8 wide = inr (inl refl)
xmm_size_of size.Bytes16 wide = inr (inr refl)
xmm_size_of size.ByWide true = inr (inl refl)
xmm_size_of size.ByWide false = inl refl

-- what comes after the access: nothing that accesses memory
record Rest (stmts : List Stmt) : Type 0 where
  pub fields : AllByRecursion IsLifted stmts
  pub few : length stmts ≤ 3
  pub silent : is_silent stmts ≡ true
  pub stores : stores_last stmts ≡ true
  pub flow : ends_with_flow stmts ≡ true

rest_two : (s : Stmt) → IsLifted s → is_silent (s ∷ stmt.Flow flow.Next ∷ []) ≡ true → is_flow s ≡ false → Rest (s ∷ stmt.Flow flow.Next ∷ [])
rest_two s l e step =
    record { fields = (l, (tt, tt)); few = omega arith; silent = e; stores = (last_form s l step).stores; flow = (last_form s l step).flow }

xmm_rest : (what : XmmRole) (wide : Bool) (reg : ℕ) (rm : XmmOperand) → Rest ((general_open what wide reg rm ++ xmm_compared what) ++ stmt.Flow flow.Next ∷ [])
xmm_rest role.ToGeneral wide reg rm = rest_two _ tt refl refl
xmm_rest role.MoveToGeneral wide reg (xmm.Reg n) = rest_two _ tt refl refl
xmm_rest role.MoveToGeneral wide reg (xmm.Mem mem) = record { fields = (tt, tt); few = omega arith; silent = refl; stores = refl; flow = refl }
xmm_rest role.Compare wide reg rm = rest_two _ tt refl refl
xmm_rest _ wide reg rm = record { fields = (tt, tt); few = omega arith; silent = refl; stores = refl; flow = refl }

xmm_form : (row : XmmRow) (wide : Bool) (reg : ℕ) (rm : XmmOperand) (imm : ℕ) → IsXmmOperand rm → IsInForm (lifted (insn.Xmm row wide reg rm imm))
xmm_form row wide reg (xmm.Reg n) imm is =
    let rest : Rest ((general_open (xmm_role row) wide reg (xmm.Reg n) ++ xmm_compared (xmm_role row)) ++ stmt.Flow flow.Next ∷ []) = xmm_rest (xmm_role row) wide reg (xmm.Reg n) in
    record { fields = rest.fields; few = let k : length ((general_open (xmm_role row) wide reg (xmm.Reg n) ++ xmm_compared (xmm_role row)) ++ stmt.Flow flow.Next ∷ []) ≤ 3 = rest.few in omega arith; stores = rest.stores; flow = rest.flow }
xmm_form row wide reg (xmm.Mem mem) imm is =
    let rest : Rest ((general_open (xmm_role row) wide reg (xmm.Mem mem) ++ xmm_compared (xmm_role row)) ++ stmt.Flow flow.Next ∷ []) = xmm_rest (xmm_role row) wide reg (xmm.Mem mem) in
    record {
      fields = ((xmm_size_of (xmm_traits row).2 wide, is), rest.fields);
      few = let k : length ((general_open (xmm_role row) wide reg (xmm.Mem mem) ++ xmm_compared (xmm_role row)) ++ stmt.Flow flow.Next ∷ []) ≤ 3 = rest.few in omega arith;
      stores = always (is_xmm_store row) _ _ rest.silent rest.stores;
      flow = rest.flow;
    }

two_form : (s : Stmt) → IsLifted s → is_flow s ≡ false → IsInForm (s ∷ stmt.Flow flow.Next ∷ [])
two_form s l step = to_form 2 (s ∷ stmt.Flow flow.Next ∷ []) (omega arith) (last_form s l step)

fetch_last : (w : Width) (p : Place) (s : Stmt) → IsPlace p → IsLifted s → is_flow s ≡ false → IsInForm ((fetched w p ++ any_flags ∷ s ∷ []) ++ stmt.Flow flow.Next ∷ [])
fetch_last w p s is l step = to_form 4 _ (omega arith) (fetch_form 3 w p (any_flags ∷ s ∷ []) (stmt.Flow flow.Next ∷ []) is (flags_first 2 _ (last_form s l step)))

unary_form : (op : UnaryOp) (w : Width) (dst : Place) → IsPlace dst → IsInForm (lifted (insn.Unary op w dst))
unary_form unary.Not w dst is = to_form 4 _ (omega arith) (fetch_form 3 w dst (left_open w dst) _ is (open_form w dst is))
unary_form unary.Neg w dst is = to_form 5 _ (omega arith) (fetch_form 4 w dst (any_flags ∷ left_open w dst) _ is (flags_first 3 _ (open_form w dst is)))
unary_form unary.Inc w dst is = to_form 5 _ (omega arith) (fetch_form 4 w dst (any_flags ∷ left_open w dst) _ is (flags_first 3 _ (open_form w dst is)))
unary_form unary.Dec w dst is = to_form 5 _ (omega arith) (fetch_form 4 w dst (any_flags ∷ left_open w dst) _ is (flags_first 3 _ (open_form w dst is)))

shift_form : (op : ShiftOp) (w : Width) (dst : Place) (by : Count) → IsPlace dst → IsInForm (lifted (insn.Shift op w dst by))
shift_form op w (place.Reg r) by is = to_form 3 _ (omega arith) (flags_first 2 _ (last_form _ (either_lifted (is_times_16 op w by) (stmt.Shl (var.Reg r)) (stmt.Open (var.Reg r) w) tt tt) (either_step (is_times_16 op w by) (stmt.Shl (var.Reg r)) (stmt.Open (var.Reg r) w) refl refl)))
shift_form op w (place.High h) by is = to_form 4 _ (omega arith) (flags_first 3 _ (open_form w (place.High h) is))
shift_form op w (place.Mem mem) by is = to_form 5 _ (omega arith) (load_first 4 w mem _ is (flags_first 3 _ (open_form w (place.Mem mem) is)))

product_form : (w : Width) (src : Place) → IsPlace src → IsInForm ((fetched w src ++ any_flags ∷ stmt.Open (var.Reg Rax) w ∷ stmt.Open (var.Reg Rdx) w ∷ []) ++ stmt.Flow flow.Next ∷ [])
product_form w src is =
    to_form 5 _ (omega arith) (fetch_form 4 w src (any_flags ∷ stmt.Open (var.Reg Rax) w ∷ stmt.Open (var.Reg Rdx) w ∷ []) (stmt.Flow flow.Next ∷ []) is
    (flags_first 3 _ (quiet_first 2 (stmt.Open (var.Reg Rax) w) _ tt refl refl (last_form (stmt.Open (var.Reg Rdx) w) tt refl))))

muldiv_form : (op : MulDivOp) (w : Width) (src : Place) → IsPlace src → IsInForm (lifted (insn.MulDiv op w src))
muldiv_form op W8 src is = fetch_last W8 src (stmt.Open (var.Reg Rax) W64) is tt refl
muldiv_form op W16 src is = product_form W16 src is
muldiv_form op W32 src is = product_form W32 src is
muldiv_form op W64 src is = product_form W64 src is

exchange_form : (w : Width) (a b : Reg) → IsInForm (lifted (insn.Xchg w a b))
exchange_form W64 a b = record { fields = (tt, (tt, (tt, (tt, tt)))); few = omega arith; stores = refl; flow = refl }
exchange_form W32 a b = record { fields = (tt, (tt, (tt, tt))); few = omega arith; stores = refl; flow = refl }
exchange_form W16 a b = record { fields = (tt, (tt, (tt, tt))); few = omega arith; stores = refl; flow = refl }
exchange_form W8 a b = record { fields = (tt, (tt, (tt, tt))); few = omega arith; stores = refl; flow = refl }

lea_form : (w : Width) (dst : Reg) (mem : Mem) → IsMem mem → IsInForm (lifted (insn.Lea w dst mem))
lea_form W64 dst mem is = two_form (stmt.Lea (var.Reg dst) mem) is refl
lea_form W32 dst mem is = two_form (stmt.Open (var.Reg dst) W32) tt refl
lea_form W16 dst mem is = two_form (stmt.Open (var.Reg dst) W16) tt refl
lea_form W8 dst mem is = two_form (stmt.Open (var.Reg dst) W8) tt refl

extend_form : (signed : Bool) (from to : Width) (dst : Reg) (src : Place) → IsNarrow from → IsWide to → IsPlace src → IsInForm (lifted (insn.Extend signed from to dst src))
extend_form signed from to dst (place.Reg q) n w is = two_form (stmt.Narrow (var.Reg dst) (var.Reg q) from to signed) (n, w) refl
extend_form signed from to dst (place.High h) n w is = two_form (stmt.Narrow (var.Reg dst) var.Tmp from to signed) (n, w) refl
extend_form signed from to dst (place.Mem mem) n w is = two_form (stmt.Load (var.Reg dst) (bytes_in from) to signed mem) (extend_size signed from to n w, is) refl

push_form : (src : Source) → IsSource src → IsInForm (lifted (insn.Push src))
push_form src is = to_form 4 _ (omega arith) (fetch_source_form 3 W64 src (pushed (operand_of src)) (stmt.Flow flow.Next ∷ []) is (pushed_form (operand_of src)))

indirect_form : (src : Place) (f : Flow) → IsPlace src → IsInForm (fetched W64 src ++ stmt.Flow f ∷ [])
indirect_form (place.Reg r) f is = to_form 1 _ (omega arith) (flow_form f)
indirect_form (place.High h) f is = to_form 1 _ (omega arith) (flow_form f)
indirect_form (place.Mem mem) f is = to_form 2 _ (omega arith) (load_first 1 W64 mem _ is (flow_form f))

flow_alone : (f : Flow) → IsInForm (stmt.Flow f ∷ [])
flow_alone f = to_form 1 _ (omega arith) (flow_form f)

pub in_form : (i : Insn) → IsListed i → HasWord i → IsInForm (lifted i)
in_form (insn.Alu op w dst src) is word = alu_form op w dst src is.0 is.1
in_form (insn.Push src) is word = push_form src (full_source src is)
in_form (insn.Pop dst) is word = to_form 4 _ (omega arith) (popped_form dst)
in_form (insn.Extend signed from to dst src) is word = extend_form signed from to dst src is.0 is.1 is.2
in_form (insn.Imul w dst src imm) is word = fetch_last w src (stmt.Open (var.Reg dst) w) (full_place src is.1) tt refl
in_form (insn.Jcc cond rel) is word = flow_alone (flow.Branch cond rel)
in_form (insn.Jump rel) is word = flow_alone (flow.Jump rel)
in_form (insn.Call rel) is word = flow_alone (flow.Call rel)
in_form insn.Ret is word = flow_alone flow.Ret
in_form insn.Leave is word = to_form 5 _ (omega arith) (quiet_first 4 (stmt.Copy (var.Reg Rsp) (var.Reg Rbp)) _ tt refl refl (popped_form Rbp))
in_form (insn.CallInd src) is word = indirect_form src (flow.CallReg (var_of src)) (full_place src is)
in_form (insn.JumpInd src) is word = indirect_form src (flow.JumpReg (var_of src)) (full_place src is)
in_form (insn.Test w a b) is word = to_form 4 _ (omega arith) (fetch_both_form 2 w a b (any_flags ∷ []) (stmt.Flow flow.Next ∷ []) is.0 (tested b is.1) (last_form any_flags tt refl))
in_form (insn.Xchg w a b) is word = exchange_form w a b
in_form (insn.Mov w dst src) is word = mov_form w dst src is.0 is.1
in_form (insn.MovImm64 dst imm) is word = two_form (stmt.Set (var.Reg dst) imm) word refl
in_form (insn.Lea w dst mem) is word = lea_form w dst mem is.1
in_form insn.Nop is word = flow_alone flow.Next
in_form (insn.Widen w) is word = two_form (stmt.Open (var.Reg Rax) w) tt refl
in_form (insn.SignA w) is word = two_form (stmt.Open (var.Reg Rdx) w) tt refl
in_form (insn.Shift op w dst by) is word = shift_form op w dst by is
in_form (insn.Unary op w dst) is word = unary_form op w dst is
in_form (insn.MulDiv op w src) is word = muldiv_form op w src is
in_form insn.Ud2 is word = flow_alone flow.Stop
in_form (insn.Cmov cond w dst src) is word =
    to_form 3 _ (omega arith) (fetch_form 2 w src (stmt.Choose (var.Reg dst) w (var.Reg dst) (operand.Var (var_of src)) ∷ []) (stmt.Flow flow.Next ∷ []) (full_place src is.1)
    (last_form (stmt.Choose (var.Reg dst) w (var.Reg dst) (operand.Var (var_of src))) (is.0, tt) refl))
in_form (insn.Set cond dst) is word = to_form 3 _ (omega arith) (open_form W8 dst is)
in_form (insn.Bits op w dst src) is word = fetch_last w src (stmt.Open (var.Reg dst) W64) (full_place src is.1) tt refl
in_form (insn.Bt w a bit) is word = two_form any_flags tt refl
in_form (insn.Bswap w dst) is word = two_form (stmt.Open (var.Reg dst) w) tt refl
in_form insn.Endbr is word = flow_alone flow.Next
in_form (insn.Xmm row wide reg rm imm) is word = xmm_form row wide reg rm imm is.1
