-- The statements of an instruction that is spelled: their fields are in range, and their displacements have 32 bits.
use Rattle.std.proofs.Common.{◌≡◌, ℕ, ◌^◌, ◌<◌, ◌==◌, Bool, true, false, ◌&&◌, if◌then◌else◌, List, [], ◌∷◌, ◌++◌, Option, Some, None, subst, arith, inl, inr}
use Rattle.std.specs.Prelude.{ℤ, pos, negsuc}
use Rattle.std.proofs.lemmas.Bool.{cases_Bool}
use Rattle.std.proofs.lemmas.Int.{ints}
use Rattle.std.specs.List.{AllByRecursion}
use Rattle.vw_insn.specs.declared.registers.Reg.{Reg}
use Rattle.vw_insn.specs.declared.registers.Width.{Width}
use Rattle.vw_insn.specs.declared.registers.Width.TheVariants.{W8, W16, W32, W64}
use Rattle.vw_insn.specs.declared.operands.Place.{Place}
use Rattle.vw_insn.specs.declared.operands.Place.TheVariants as place
use Rattle.vw_insn.specs.declared.operands.Source.{Source}
use Rattle.vw_insn.specs.declared.operands.Source.TheVariants as source
use Rattle.vw_insn.specs.declared.operands.Count.{Count}
use Rattle.vw_insn.specs.declared.operands.Mem.{Mem}
use Rattle.vw_insn.specs.declared.operands.XmmOperand.{XmmOperand}
use Rattle.vw_insn.specs.declared.operands.XmmOperand.TheVariants as xmm
use Rattle.vw_insn.specs.declared.operations.AluOp.{AluOp}
use Rattle.vw_insn.specs.declared.operations.AluOp.TheVariants as alu
use Rattle.vw_insn.specs.declared.operations.ShiftOp.{ShiftOp}
use Rattle.vw_insn.specs.declared.operations.UnaryOp.{UnaryOp}
use Rattle.vw_insn.specs.declared.operations.UnaryOp.TheVariants as unary
use Rattle.vw_insn.specs.declared.xmm.XmmRow.{XmmRow}
use Rattle.vw_insn.specs.declared.xmm.XmmRole.{XmmRole}
use Rattle.vw_insn.specs.declared.xmm.XmmRole.TheVariants as role
use Rattle.vw_insn.specs.XmmTable.{xmm_role}
use Rattle.vw_insn.specs.declared.instruction.Insn.{Insn}
use Rattle.vw_insn.specs.declared.instruction.Insn.TheVariants as insn
use Rattle.vw_insn.specs.Listed.{IsListed}
use Rattle.vw_stmt.specs.declared.operands.Var.{Var}
use Rattle.vw_stmt.specs.declared.operands.Var.TheVariants as var
use Rattle.vw_stmt.specs.declared.statement.Stmt.{Stmt}
use Rattle.vw_stmt.specs.declared.statement.Stmt.TheVariants as stmt
use Rattle.vw_stmt.specs.Lifted.{IsLifted}
use Rattle.vw_lift.specs.Lifted.{fetched, fetched_source, left_open, cancels, is_itself, computed, alu_written, alu_steps, is_times_16, shift_steps, unary_steps, products, copied, set_to, mov_steps, lea_step, extend_step, exchanged, touched, general_open, xmm_compared, steps, flow_of, lifted}
use Rattle.vw_lift.specs.Simulation.{HasWord, IsInForm}
use Rattle.vw_rows.specs.declared.forms.Kind.{Kind}
use Rattle.vw_rows.specs.declared.forms.Kind.TheVariants as kind
use Rattle.vw_rows.specs.declared.forms.Operands.{Operands}
use Rattle.vw_rows.specs.declared.forms.Operands.TheVariants as ops
use Rattle.vw_rows.specs.declared.forms.Immediate.{Immediate}
use Rattle.vw_rows.specs.declared.shape.Shape.{Shape}
use Rattle.vw_rows.specs.Numbers.{IsBytes, signed_of}
use Rattle.vw_rows.specs.Parts.{Modrm, Parts, mode}
use Rattle.vw_rows.specs.Shape.{register_place, memory_at, rm_place, xmm_operand, rm_width, first_place, second_place, xmm_second, shape_of}
use Rattle.vw_rows.specs.Meaning.{memory_in, is_given, source_or, mov_immediate, built}
use Rattle.vw_rows.specs.Spelling.{Spells}
use Rattle.vw_rows.proofs.Bytes.{ModrmBytes, OptionalBytes, part_bytes, unsigned_below}
use Rattle.vw_rows.proofs.Places.{register_has, rm_has, first_has, second_has}
use Rattle.vw_domain.specs.FormLaws.{IsDisplacement, HasDisplacement}

-- ---- operands

signed_fits : (bytes : List ℕ) → IsBytes bytes → IsDisplacement (signed_of bytes)
signed_fits [] h = (omega (arith, ints), omega (arith, ints))
signed_fits (a ∷ []) h = let ha = h 0 in (omega (arith, ints), omega (arith, ints))
signed_fits (a ∷ b ∷ []) h = let ha = h 0 in let hb = h 1 in (omega (arith, ints), omega (arith, ints))
signed_fits (a ∷ b ∷ c ∷ []) h = (omega (arith, ints), omega (arith, ints))
signed_fits (a ∷ b ∷ c ∷ d ∷ []) h = let ha = h 0 in let hb = h 1 in let hc = h 2 in let hd = h 3 in (omega (arith, ints), omega (arith, ints))
signed_fits (a ∷ b ∷ c ∷ d ∷ e ∷ rest) h = (omega (arith, ints), omega (arith, ints))

-- the displacement of a memory operand has 32 bits
abbrev PlaceFits : Place → Type 0
PlaceFits (place.Reg r) = Unit {0}
PlaceFits (place.High h) = Unit {0}
PlaceFits (place.Mem mem) = IsDisplacement mem.disp

abbrev SourceFits : Source → Type 0
SourceFits (source.Place p) = PlaceFits p
SourceFits (source.Imm i) = Unit {0}

abbrev XmmFits : XmmOperand → Type 0
XmmFits (xmm.Reg n) = Unit {0}
XmmFits (xmm.Mem mem) = IsDisplacement mem.disp

-- where the bytes of the parts are bytes
memory_fits : (rex : Option ℕ) (o : Option Modrm) → OptionalBytes o → (m : Modrm) → o ≡ Some m
    → IsDisplacement (memory_at rex m).disp
memory_fits rex o h m e =
    let there : ModrmBytes m = subst (λ (x : Option Modrm). OptionalBytes x) e h in
    signed_fits m.disp there.disp

register_fits : (w : Width) (rex : Option ℕ) (n : ℕ) → PlaceFits (register_place w rex n)
register_fits w rex n = register_has PlaceFits (λ r. tt) (λ h. tt) w rex n

rm_fits :
    (w : Width) (rex : Option ℕ) (o : Option Modrm) → OptionalBytes o
    → PlaceFits (rm_place w rex o)
rm_fits w rex o h = rm_has PlaceFits w rex o tt (register_fits w rex) (memory_fits rex o h)

xmm_fits : (rex : Option ℕ) (o : Option Modrm) → OptionalBytes o → XmmFits (xmm_operand rex o)
xmm_fits rex None h = tt
xmm_fits rex (Some m) h = elim (cases_Bool (mode m.byte == 3)) [
  | inl hit ↦ rw hit tt
  | inr miss ↦ rw miss (signed_fits m.disp h.disp)
]

first_fits :
    (o : Operands) (k : Kind) (w : Width) (p : Parts) → OptionalBytes p.modrm
    → PlaceFits (first_place o k w p)
first_fits o k w p h =
    first_has PlaceFits o k w p tt (register_fits w p.rex) (rm_fits (rm_width k w) p.rex p.modrm h)

second_fits :
    (o : Operands) (k : Kind) (w : Width) (p : Parts) → OptionalBytes p.modrm
    → PlaceFits (second_place o k w p)
second_fits o k w p h =
    second_has PlaceFits o k w p tt (register_fits w p.rex) (rm_fits (rm_width k w) p.rex p.modrm h)

xmm_second_fits :
    (o : Operands) (p : Parts) → OptionalBytes p.modrm → XmmFits (xmm_second o p)
xmm_second_fits ops.Xmm p h = xmm_fits p.rex p.modrm h
xmm_second_fits _ p h = tt

-- ---- instructions

-- each memory operand of an instruction has such a displacement
abbrev InsnFits : Insn → Type 0
InsnFits (insn.Alu op w dst src) = PlaceFits dst × SourceFits src
InsnFits (insn.Push src) = SourceFits src
InsnFits (insn.Extend signed from to dst src) = PlaceFits src
InsnFits (insn.Imul w dst src imm) = PlaceFits src
InsnFits (insn.CallInd src) = PlaceFits src
InsnFits (insn.JumpInd src) = PlaceFits src
InsnFits (insn.Test w a b) = PlaceFits a × SourceFits b
InsnFits (insn.Mov w dst src) = PlaceFits dst × SourceFits src
InsnFits (insn.Lea w dst mem) = IsDisplacement mem.disp
InsnFits (insn.Shift op w dst by) = PlaceFits dst
InsnFits (insn.Unary op w dst) = PlaceFits dst
InsnFits (insn.MulDiv op w src) = PlaceFits src
InsnFits (insn.Cmov cond w dst src) = PlaceFits src
InsnFits (insn.Set cond dst) = PlaceFits dst
InsnFits (insn.Bits op w dst src) = PlaceFits src
InsnFits (insn.Xmm row wide reg rm imm) = XmmFits rm
InsnFits _ = Unit {0}

memory_in_fits : (p : Place) → PlaceFits p → IsDisplacement (memory_in p).disp
memory_in_fits (place.Reg r) h = (omega (arith, ints), omega (arith, ints))
memory_in_fits (place.High r) h = (omega (arith, ints), omega (arith, ints))
memory_in_fits (place.Mem m) h = h

source_or_fits : (b : Bool) (p : Place) (n : ℤ) → PlaceFits p → SourceFits (source_or b p n)
source_or_fits true p n h = tt
source_or_fits false p n h = h

mov_fits : (w : Width) (dst : Place) (n : ℤ) (word : ℕ) → PlaceFits dst → word < 2 ^ 64
    → InsnFits (mov_immediate w dst n word) × HasWord (mov_immediate w dst n word)
mov_fits W8 dst n word h small = ((h, tt), tt)
mov_fits W16 dst n word h small = ((h, tt), tt)
mov_fits W32 dst n word h small = ((h, tt), tt)
mov_fits W64 dst n word h small = (tt, small)

module _ (i : Immediate) (s : Shape) (first : PlaceFits s.first) (second : PlaceFits s.second) (rm : XmmFits s.rm) (word : s.word < 2 ^ 64) where
  built_fits : (k : Kind) → InsnFits (built k i s) × HasWord (built k i s)
  built_fits (kind.Alu op) = ((first, source_or_fits (is_given i) s.second s.signed second), tt)
  built_fits kind.Push = (source_or_fits (is_given i) s.first s.signed first, tt)
  built_fits (kind.Extend signed from) = (second, tt)
  built_fits kind.Imul = (second, tt)
  built_fits kind.CallInd = (first, tt)
  built_fits kind.JumpInd = (first, tt)
  built_fits kind.Test = ((first, source_or_fits (is_given i) s.second s.signed second), tt)
  built_fits kind.Mov = ((first, source_or_fits (is_given i) s.second s.signed second), tt)
  built_fits kind.MovImm = mov_fits s.w s.first s.signed s.word first word
  built_fits kind.Lea = (memory_in_fits s.second second, tt)
  built_fits (kind.Shift op) = (first, tt)
  built_fits (kind.Unary op) = (first, tt)
  built_fits (kind.MulDiv op) = (first, tt)
  built_fits (kind.Cmov cond) = (second, tt)
  built_fits (kind.Set cond) = (first, tt)
  built_fits (kind.Bits op) = (second, tt)
  built_fits (kind.Xmm row) = (rm, tt)
  built_fits _ = (tt, tt)

spelled_fits : (bytes : List ℕ) (i : Insn) → Spells bytes i → InsnFits i × HasWord i
spelled_fits bytes i s =
    let p = s.parts in
    let o = s.row.operands in
    let k = s.row.kind in
    let n = part_bytes p (subst IsBytes s.spelled s.are_bytes) in
    subst (λ (x : Insn). InsnFits x × HasWord x) s.meant
    (built_fits s.row.immediate (shape_of s.row s.width p) (first_fits o k s.width p n.fields)
    (second_fits o k s.width p n.fields) (xmm_second_fits o p n.fields)
    (unsigned_below p.imm n.imm) k)

-- its immediate has no more than 64 bits
pub spelled_word : {bytes : List ℕ} {i : Insn} → Spells bytes i → HasWord i
spelled_word {bytes} {i} s = (spelled_fits bytes i s).1

-- ---- statements

-- so have those of all statements
abbrev AllFit : List Stmt → Type 0
AllFit stmts = AllByRecursion HasDisplacement stmts

pub all_append : {X : Type 0} (P : X → Type 0) (xs ys : List X) → AllByRecursion P xs → AllByRecursion P ys → AllByRecursion P (xs ++ ys)
all_append P [] ys h k = k
all_append P (x ∷ xs) ys h k = (h.0, all_append P xs ys h.1 k)

both_fit : (xs ys : List Stmt) → AllFit xs → AllFit ys → AllFit (xs ++ ys)
both_fit xs ys h k = all_append HasDisplacement xs ys h k

either_fits : (b : Bool) (x y : Stmt) → HasDisplacement x → HasDisplacement y → HasDisplacement (if b then x else y)
either_fits true x y h k = h
either_fits false x y h k = k

fetched_fit : (w : Width) (p : Place) → PlaceFits p → AllFit (fetched w p)
fetched_fit w (place.Reg r) h = tt
fetched_fit w (place.High q) h = tt
fetched_fit w (place.Mem mem) h = (h, tt)

fetched_source_fit : (w : Width) (s : Source) → SourceFits s → AllFit (fetched_source w s)
fetched_source_fit w (source.Place p) h = fetched_fit w p h
fetched_source_fit w (source.Imm i) h = tt

open_fit : (w : Width) (p : Place) → PlaceFits p → AllFit (left_open w p)
open_fit w (place.Reg r) h = (tt, tt)
open_fit w (place.High q) h = (tt, tt)
open_fit w (place.Mem mem) h = (tt, (h, tt))

computed_fits : (op : AluOp) (w : Width) (r : Reg) (src : Source) → HasDisplacement (computed op w r src)
computed_fits alu.Add W64 r src = tt
computed_fits alu.Sub W64 r src = tt
computed_fits alu.And W32 r src = tt
computed_fits alu.And W64 r src = tt
computed_fits _ w r src = tt

written_fit : (op : AluOp) (w : Width) (dst : Place) (src : Source) → PlaceFits dst → AllFit (alu_written op w dst src)
written_fit op w (place.Reg r) src h = (either_fits (cancels op w && is_itself r src) (stmt.Set (var.Reg r) 0) (computed op w r src) tt (computed_fits op w r src), tt)
written_fit op w (place.High q) src h = open_fit w (place.High q) h
written_fit op w (place.Mem mem) src h = open_fit w (place.Mem mem) h

alu_fit : (op : AluOp) (w : Width) (dst : Place) (src : Source) → PlaceFits dst → AllFit (alu_steps op w dst src)
alu_fit alu.Cmp w dst src h = (tt, tt)
alu_fit alu.Add w dst src h = (tt, written_fit alu.Add w dst src h)
alu_fit alu.Or w dst src h = (tt, written_fit alu.Or w dst src h)
alu_fit alu.Adc w dst src h = (tt, written_fit alu.Adc w dst src h)
alu_fit alu.Sbb w dst src h = (tt, written_fit alu.Sbb w dst src h)
alu_fit alu.And w dst src h = (tt, written_fit alu.And w dst src h)
alu_fit alu.Sub w dst src h = (tt, written_fit alu.Sub w dst src h)
alu_fit alu.Xor w dst src h = (tt, written_fit alu.Xor w dst src h)

shift_fit : (op : ShiftOp) (w : Width) (dst : Place) (by : Count) → PlaceFits dst → AllFit (shift_steps op w dst by)
shift_fit op w (place.Reg r) by h = (tt, (either_fits (is_times_16 op w by) (stmt.Shl (var.Reg r)) (stmt.Open (var.Reg r) w) tt tt, tt))
shift_fit op w (place.High q) by h = (tt, open_fit w (place.High q) h)
shift_fit op w (place.Mem mem) by h = (tt, open_fit w (place.Mem mem) h)

unary_fit : (op : UnaryOp) (w : Width) (dst : Place) → PlaceFits dst → AllFit (unary_steps op w dst)
unary_fit unary.Not w dst h = open_fit w dst h
unary_fit unary.Neg w dst h = (tt, open_fit w dst h)
unary_fit unary.Inc w dst h = (tt, open_fit w dst h)
unary_fit unary.Dec w dst h = (tt, open_fit w dst h)

products_fit : (w : Width) → AllFit (products w)
products_fit W8 = (tt, tt)
products_fit W16 = (tt, (tt, tt))
products_fit W32 = (tt, (tt, tt))
products_fit W64 = (tt, (tt, tt))

copied_fits : (w : Width) (r : Reg) (v : Var) → HasDisplacement (copied w r v)
copied_fits W8 r v = tt
copied_fits W16 r v = tt
copied_fits W32 r v = tt
copied_fits W64 r v = tt

set_fits : (w : Width) (r : Reg) (i : ℤ) → HasDisplacement (set_to w r i)
set_fits W8 r i = tt
set_fits W16 r i = tt
set_fits W32 r i = tt
set_fits W64 r i = tt

mov_fit : (w : Width) (dst : Place) (src : Source) → PlaceFits dst → SourceFits src → AllFit (mov_steps w dst src)
mov_fit w (place.Reg r) (source.Place (place.Mem mem)) h k = (k, tt)
mov_fit w (place.Reg r) (source.Place (place.Reg q)) h k = (copied_fits w r (var.Reg q), tt)
mov_fit w (place.Reg r) (source.Place (place.High q)) h k = (copied_fits w r var.Tmp, tt)
mov_fit w (place.Reg r) (source.Imm i) h k = (set_fits w r i, tt)
mov_fit w (place.High q) src h k = both_fit (fetched_source w src) (left_open w (place.High q)) (fetched_source_fit w src k) (open_fit w (place.High q) h)
mov_fit w (place.Mem mem) src h k = both_fit (fetched_source w src) _ (fetched_source_fit w src k) (h, tt)

lea_fits : (w : Width) (r : Reg) (mem : Mem) → IsDisplacement mem.disp → HasDisplacement (lea_step w r mem)
lea_fits W8 r mem h = tt
lea_fits W16 r mem h = tt
lea_fits W32 r mem h = tt
lea_fits W64 r mem h = h

extend_fits : (signed : Bool) (from to : Width) (r : Reg) (p : Place) → PlaceFits p → HasDisplacement (extend_step signed from to r p)
extend_fits signed from to r (place.Mem mem) h = h
extend_fits signed from to r (place.Reg q) h = tt
extend_fits signed from to r (place.High q) h = tt

exchanged_fit : (w : Width) (a b : Reg) → AllFit (exchanged w a b)
exchanged_fit W64 a b = (tt, (tt, (tt, tt)))
exchanged_fit W32 a b = (tt, (tt, tt))
exchanged_fit W16 a b = (tt, (tt, tt))
exchanged_fit W8 a b = (tt, (tt, tt))

touched_fit : (row : XmmRow) (wide : Bool) (rm : XmmOperand) → XmmFits rm → AllFit (touched row wide rm)
touched_fit row wide (xmm.Reg n) h = tt
touched_fit row wide (xmm.Mem mem) h = (h, tt)

general_fit : (what : XmmRole) (wide : Bool) (reg : ℕ) (rm : XmmOperand) → AllFit (general_open what wide reg rm)
general_fit role.ToGeneral wide reg rm = (tt, tt)
general_fit role.MoveToGeneral wide reg (xmm.Reg n) = (tt, tt)
general_fit role.MoveToGeneral wide reg (xmm.Mem mem) = tt
general_fit _ wide reg rm = tt

xmm_compared_fit : (what : XmmRole) → AllFit (xmm_compared what)
xmm_compared_fit role.Compare = (tt, tt)
xmm_compared_fit _ = tt

stack_disp : IsDisplacement (pos 0)
stack_disp = (omega (arith, ints), omega (arith, ints))

pushed_disp : IsDisplacement (negsuc 7)
pushed_disp = (omega (arith, ints), omega (arith, ints))

steps_fit : (i : Insn) → InsnFits i → AllFit (steps i)
steps_fit (insn.Alu op w dst src) h =
    both_fit (fetched w dst ++ fetched_source w src) (alu_steps op w dst src) (both_fit (fetched w dst) (fetched_source w src) (fetched_fit w dst h.0) (fetched_source_fit w src h.1)) (alu_fit op w dst src h.0)
steps_fit (insn.Push src) h = both_fit (fetched_source W64 src) _ (fetched_source_fit W64 src h) (pushed_disp, (tt, tt))
steps_fit (insn.Pop dst) h = (stack_disp, (tt, (tt, tt)))
steps_fit (insn.Extend signed from to dst src) h = (extend_fits signed from to dst src h, tt)
steps_fit (insn.Imul w dst src imm) h = both_fit (fetched w src) _ (fetched_fit w src h) (tt, (tt, tt))
steps_fit insn.Leave h = (tt, (stack_disp, (tt, (tt, tt))))
steps_fit (insn.CallInd src) h = fetched_fit W64 src h
steps_fit (insn.JumpInd src) h = fetched_fit W64 src h
steps_fit (insn.Test w a b) h =
    both_fit (fetched w a ++ fetched_source w b) _ (both_fit (fetched w a) (fetched_source w b) (fetched_fit w a h.0) (fetched_source_fit w b h.1)) (tt, tt)
steps_fit (insn.Xchg w a b) h = exchanged_fit w a b
steps_fit (insn.Mov w dst src) h = mov_fit w dst src h.0 h.1
steps_fit (insn.MovImm64 dst imm) h = (tt, tt)
steps_fit (insn.Lea w dst mem) h = (lea_fits w dst mem h, tt)
steps_fit (insn.Widen w) h = (tt, tt)
steps_fit (insn.SignA w) h = (tt, tt)
steps_fit (insn.Shift op w dst by) h = both_fit (fetched w dst) (shift_steps op w dst by) (fetched_fit w dst h) (shift_fit op w dst by h)
steps_fit (insn.Unary op w dst) h = both_fit (fetched w dst) (unary_steps op w dst) (fetched_fit w dst h) (unary_fit op w dst h)
steps_fit (insn.MulDiv op w src) h = both_fit (fetched w src) _ (fetched_fit w src h) (tt, products_fit w)
steps_fit (insn.Cmov cond w dst src) h = both_fit (fetched w src) _ (fetched_fit w src h) (tt, tt)
steps_fit (insn.Set cond dst) h = open_fit W8 dst h
steps_fit (insn.Bits op w dst src) h = both_fit (fetched w src) _ (fetched_fit w src h) (tt, (tt, tt))
steps_fit (insn.Bt w a bit) h = (tt, tt)
steps_fit (insn.Bswap w dst) h = (tt, tt)
steps_fit (insn.Xmm row wide reg rm imm) h =
    let what : XmmRole = xmm_role row in
    both_fit (touched row wide rm ++ general_open what wide reg rm) (xmm_compared what)
    (both_fit (touched row wide rm) (general_open what wide reg rm) (touched_fit row wide rm h) (general_fit what wide reg rm))
    (xmm_compared_fit what)
steps_fit (insn.Jcc cond rel) h = tt
steps_fit (insn.Jump rel) h = tt
steps_fit (insn.Call rel) h = tt
steps_fit insn.Ret h = tt
steps_fit insn.Nop h = tt
steps_fit insn.Ud2 h = tt
steps_fit insn.Endbr h = tt

front_lifted : (xs ys : List Stmt) → AllByRecursion IsLifted (xs ++ ys) → AllByRecursion IsLifted xs
front_lifted [] ys h = tt
front_lifted (x ∷ xs) ys h = (h.0, front_lifted xs ys h.1)

-- by what is proved of instructions that are spelled, and of their statements
module _ (listed : (bytes : List ℕ) (i : Insn) → Spells bytes i → IsListed i) (in_form : (i : Insn) → IsListed i → HasWord i → IsInForm (lifted i)) where
  pub spelled_form : (bytes : List ℕ) (i : Insn) → Spells bytes i → IsInForm (lifted i)
  spelled_form bytes i s = in_form i (listed bytes i s) (spelled_fits bytes i s).1

  pub spelled_steps : (bytes : List ℕ) (i : Insn) → Spells bytes i → AllByRecursion HasDisplacement (steps i) × AllByRecursion IsLifted (steps i)
  spelled_steps bytes i s =
      (steps_fit i (spelled_fits bytes i s).0, front_lifted (steps i) (stmt.Flow (flow_of i) ∷ []) (spelled_form bytes i s).fields)
