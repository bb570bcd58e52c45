use Rattle.std.specs.Prelude.{ℕ, ◌+◌, ◌*◌, Bool, true, false, Option, None, Some}
use Rattle.std.specs.Prelude.{List, [], ◌∷◌, ◌++◌}
use Rattle.vw_insn.specs.declared.registers.Width.TheVariants as width
use Rattle.vw_insn.specs.declared.operations.AluOp.{AluOp}
use Rattle.vw_insn.specs.declared.operations.AluOp.TheVariants as alu
use Rattle.vw_insn.specs.declared.operations.ShiftOp.{ShiftOp}
use Rattle.vw_insn.specs.declared.operations.ShiftOp.TheVariants as shift
use Rattle.vw_insn.specs.declared.operations.UnaryOp.{UnaryOp}
use Rattle.vw_insn.specs.declared.operations.UnaryOp.TheVariants as unary
use Rattle.vw_insn.specs.declared.operations.MulDivOp.{MulDivOp}
use Rattle.vw_insn.specs.declared.operations.MulDivOp.TheVariants as muldiv
use Rattle.vw_insn.specs.declared.operations.BitsOp.TheVariants as bits
use Rattle.vw_insn.specs.declared.operations.Cond.{Cond}
use Rattle.vw_insn.specs.declared.operations.Cond.TheVariants as cond
use Rattle.vw_insn.specs.declared.xmm.XmmRow.{XmmRow}
use Rattle.vw_insn.specs.declared.xmm.XmmRow.TheVariants as xmm
use Rattle.vw_rows.specs.declared.patterns.Prefixes.{Prefixes}
use Rattle.vw_rows.specs.declared.patterns.Map.{Map}
use Rattle.vw_rows.specs.declared.patterns.Form.{Form}
use Rattle.vw_rows.specs.declared.forms.Kind.{Kind}
use Rattle.vw_rows.specs.declared.forms.Operands.{Operands}
use Rattle.vw_rows.specs.declared.forms.Sizing.{Sizing}
use Rattle.vw_rows.specs.declared.forms.Immediate.{Immediate}
use Rattle.vw_rows.specs.declared.patterns.Prefixes.TheVariants as pre
use Rattle.vw_rows.specs.declared.patterns.Map.TheVariants as map
use Rattle.vw_rows.specs.declared.patterns.Form.TheVariants as form
use Rattle.vw_rows.specs.declared.forms.Kind.TheVariants as kind
use Rattle.vw_rows.specs.declared.forms.Operands.TheVariants as ops
use Rattle.vw_rows.specs.declared.forms.Sizing.TheVariants as size
use Rattle.vw_rows.specs.declared.forms.Immediate.TheVariants as imm
use Rattle.vw_rows.specs.declared.forms.Row.{Row}

-- one row: its number; the prefixes that it takes, its opcode map and opcode, whether the opcode's
-- low three bits name a register (+r), its digit (/d) and its form; the instruction, where its
-- operands stand, their width, and its immediate
abbrev pub row :
    ℕ → Prefixes → Map → ℕ → Bool → Option ℕ → Form → Kind → Operands → Sizing → Immediate → Row
row n p m o plus d f k ops w i = record {
  number = n;
  pattern = record { prefixes = p; map = m; opcode = o; plus = plus; digit = d; form = f };
  kind = k;
  operands = ops;
  width = w;
  immediate = i;
}

-- a cell of the opcode maps: a row but for its number
abbrev Cell : Type 0
Cell = ℕ → Row

abbrev cell :
    Prefixes → Map → ℕ → Bool → Option ℕ → Form → Kind → Operands → Sizing → Immediate → Cell
cell p m o plus d f k ops w i n = row n p m o plus d f k ops w i

-- the prefixes where none belongs to the opcode: 66, if it makes the operands 16 bits wide
abbrev prefixes_at : Sizing → Prefixes
prefixes_at size.V = pre.PlainOr66
prefixes_at _ = pre.Plain

-- opcodes of one byte: alone, with /d, with +r
abbrev one : ℕ → Kind → Operands → Sizing → Immediate → Cell
one o k ops w = cell (prefixes_at w) map.One o false None form.Any k ops w

abbrev digit : ℕ → ℕ → Kind → Operands → Sizing → Immediate → Cell
digit o d k ops w = cell (prefixes_at w) map.One o false (Some d) form.Any k ops w

abbrev plus_r : ℕ → Kind → Operands → Sizing → Immediate → Cell
plus_r o k ops w = cell (prefixes_at w) map.One o true None form.Any k ops w

-- opcodes behind 0F, behind F3 0F, and behind any prefix and 0F, of XMM registers
abbrev two : ℕ → Kind → Operands → Sizing → Immediate → Cell
two o k ops w = cell (prefixes_at w) map.Two o false None form.Any k ops w

abbrev f3_two : ℕ → Kind → Operands → Sizing → Immediate → Cell
f3_two o k ops w = cell pre.PF3 map.Two o false None form.Any k ops w

abbrev xmm_two : Prefixes → ℕ → Sizing → XmmRow → Cell
xmm_two p o w x = cell p map.Two o false None form.Any (kind.Xmm x) ops.Xmm w imm.None

-- an opcode without prefix and behind 66 (packed single and double), behind F3 and F2 (scalar
-- single and double), and all four
abbrev np_66 : ℕ → XmmRow → XmmRow → List Cell
np_66 o a b = xmm_two pre.Plain o size.Narrow a ∷ xmm_two pre.P66 o size.Narrow b ∷ []

abbrev f3_f2 : ℕ → Sizing → XmmRow → XmmRow → List Cell
f3_f2 o w a b = xmm_two pre.PF3 o w a ∷ xmm_two pre.PF2 o w b ∷ []

abbrev np_66_f3_f2 : ℕ → XmmRow → XmmRow → XmmRow → XmmRow → List Cell
np_66_f3_f2 o a b c d = np_66 o a b ++ f3_f2 o size.Narrow c d

-- a cell for each operation of a family, by its number there
abbrev each : {A : Type 0} → List (ℕ × A) → (ℕ → A → Cell) → List Cell
each [] f = []
each (x ∷ xs) f = f x.0 x.1 ∷ each xs f

-- rows have their numbers by their places
abbrev rows_from : ℕ → List Cell → List Row
rows_from n [] = []
rows_from n (c ∷ cs) = c n ∷ rows_from (n + 1) cs

-- k of 8k+0 to 8k+5 (SDM volume 2, table A-2), and of 80, 81 and 83 /k (table A-6, group 1)
abbrev arithmetic : List (ℕ × AluOp)
arithmetic =
    (0, alu.Add) ∷ (1, alu.Or) ∷ (2, alu.Adc) ∷ (3, alu.Sbb) ∷
    (4, alu.And) ∷ (5, alu.Sub) ∷ (6, alu.Xor) ∷ (7, alu.Cmp) ∷ []

-- c of 70+c, 0F 80+c, 0F 90+c and 0F 40+c (tables A-2 and A-3)
abbrev conditions : List (ℕ × Cond)
conditions =
    (0, cond.O) ∷ (1, cond.No) ∷ (2, cond.B) ∷ (3, cond.Ae) ∷
    (4, cond.E) ∷ (5, cond.Ne) ∷ (6, cond.Be) ∷ (7, cond.A) ∷
    (8, cond.S) ∷ (9, cond.Ns) ∷ (10, cond.P) ∷ (11, cond.Np) ∷
    (12, cond.L) ∷ (13, cond.Ge) ∷ (14, cond.Le) ∷ (15, cond.G) ∷ []

-- /d of C0, C1 and D0 to D3 (table A-6, group 2)
abbrev shifts : List (ℕ × ShiftOp)
shifts = (0, shift.Rol) ∷ (1, shift.Ror) ∷ (4, shift.Shl) ∷ (5, shift.Shr) ∷ (7, shift.Sar) ∷ []

-- /d of F6 and F7 (table A-6, group 3), and of FE and FF (groups 4 and 5)
abbrev not_neg : List (ℕ × UnaryOp)
not_neg = (2, unary.Not) ∷ (3, unary.Neg) ∷ []

abbrev mul_div : List (ℕ × MulDivOp)
mul_div = (4, muldiv.Mul) ∷ (5, muldiv.Imul) ∷ (6, muldiv.Div) ∷ (7, muldiv.Idiv) ∷ []

abbrev inc_dec : List (ℕ × UnaryOp)
inc_dec = (0, unary.Inc) ∷ (1, unary.Dec) ∷ []

-- The rows, after the opcode maps of the SDM (volume 2, appendix A) and the pages of the
-- instructions (volume 2, chapters 3 to 5). Above each group stand its opcodes in the SDM's
-- notation: E is the operand of ModRM, G the register of its reg field, b a byte, w a word, v 16, 32
-- or 64 bits, y 32 or 64, q 64, Ib one immediate byte, Iz two or four, Jb and Jz a distance of one
-- byte and of four; V is the XMM register of the reg field, W an XMM register or memory.
unfoldable pub rows : List Row
rows = rows_from 0 (
    -- 8k+0 Eb,Gb; 8k+1 Ev,Gv; 8k+2 Gb,Eb; 8k+3 Gv,Ev; 8k+4 AL,Ib; 8k+5 rAX,Iz
    each arithmetic (λ k op. one (8 * k + 0) (kind.Alu op) ops.EG size.B imm.None) ++
    each arithmetic (λ k op. one (8 * k + 1) (kind.Alu op) ops.EG size.V imm.None) ++
    each arithmetic (λ k op. one (8 * k + 2) (kind.Alu op) ops.GE size.B imm.None) ++
    each arithmetic (λ k op. one (8 * k + 3) (kind.Alu op) ops.GE size.V imm.None) ++
    each arithmetic (λ k op. one (8 * k + 4) (kind.Alu op) ops.Accumulator size.B imm.Ib) ++
    each arithmetic (λ k op. one (8 * k + 5) (kind.Alu op) ops.Accumulator size.V imm.Iz) ++
    -- 80 /k Eb,Ib; 83 /k Ev,Ib; 81 /k Ev,Iz
    each arithmetic (λ k op. digit 0x80 k (kind.Alu op) ops.E size.B imm.Ib) ++
    each arithmetic (λ k op. digit 0x83 k (kind.Alu op) ops.E size.V imm.Ib) ++
    each arithmetic (λ k op. digit 0x81 k (kind.Alu op) ops.E size.V imm.Iz) ++
    -- 50+r q; 68 Iz q; 6A Ib q; FF /6 Eq; 58+r q
    plus_r 0x50 kind.Push ops.OpcodeReg size.Q imm.None ∷
    one 0x68 kind.Push ops.None size.Q imm.Iz ∷ one 0x6A kind.Push ops.None size.Q imm.Ib ∷
    digit 0xFF 6 kind.Push ops.E size.Q imm.None ∷
    plus_r 0x58 kind.Pop ops.OpcodeReg size.Q imm.None ∷
    -- 63 Gv,Ed with W: movsxd; 0F B6 Gy,Eb; 0F B7 Gy,Ew: movzx; 0F BE Gy,Eb; 0F BF Gy,Ew: movsx
    one 0x63 (kind.Extend true width.W32) ops.GE size.OnlyW imm.None ∷
    two 0xB6 (kind.Extend false width.W8) ops.GE size.V32Or64 imm.None ∷
    two 0xB7 (kind.Extend false width.W16) ops.GE size.V32Or64 imm.None ∷
    two 0xBE (kind.Extend true width.W8) ops.GE size.V32Or64 imm.None ∷
    two 0xBF (kind.Extend true width.W16) ops.GE size.V32Or64 imm.None ∷
    -- 6B Gv,Ev,Ib; 69 Gv,Ev,Iz; 0F AF Gv,Ev
    one 0x6B kind.Imul ops.GE size.V imm.Ib ∷ one 0x69 kind.Imul ops.GE size.V imm.Iz ∷
    two 0xAF kind.Imul ops.GE size.V imm.None ∷ [] ++
    -- 70+c Jb; 0F 80+c Jz
    each conditions (λ c is. one (0x70 + c) (kind.Jcc is) ops.None size.None imm.Rel8) ++
    each conditions (λ c is. two (0x80 + c) (kind.Jcc is) ops.None size.None imm.Rel32) ++
    -- EB Jb; E9 Jz; E8 Jz; C3; C9; FF /2 Eq; FF /4 Eq
    one 0xEB kind.Jump ops.None size.None imm.Rel8 ∷
    one 0xE9 kind.Jump ops.None size.None imm.Rel32 ∷
    one 0xE8 kind.Call ops.None size.None imm.Rel32 ∷
    one 0xC3 kind.Ret ops.None size.None imm.None ∷
    one 0xC9 kind.Leave ops.None size.None imm.None ∷
    digit 0xFF 2 kind.CallInd ops.E size.Q imm.None ∷
    digit 0xFF 4 kind.JumpInd ops.E size.Q imm.None ∷
    -- 84 Eb,Gb; 85 Ev,Gv; F6 /0 Eb,Ib; F7 /0 Ev,Iz; A8 and A9 are not listed
    one 0x84 kind.Test ops.EG size.B imm.None ∷ one 0x85 kind.Test ops.EG size.V imm.None ∷
    digit 0xF6 0 kind.Test ops.E size.B imm.Ib ∷ digit 0xF7 0 kind.Test ops.E size.V imm.Iz ∷
    -- 87 Ev,Gv, a register only
    cell pre.PlainOr66 map.One 0x87 false None form.Register kind.Xchg ops.EG size.V imm.None ∷
    -- 88 Eb,Gb; 89 Ev,Gv; 8A Gb,Eb; 8B Gv,Ev; B0+r Ib; C6 /0 Eb,Ib; C7 /0 Ev,Iz
    one 0x88 kind.Mov ops.EG size.B imm.None ∷ one 0x89 kind.Mov ops.EG size.V imm.None ∷
    one 0x8A kind.Mov ops.GE size.B imm.None ∷ one 0x8B kind.Mov ops.GE size.V imm.None ∷
    plus_r 0xB0 kind.Mov ops.OpcodeReg size.B imm.Ib ∷
    digit 0xC6 0 kind.Mov ops.E size.B imm.Ib ∷ digit 0xC7 0 kind.Mov ops.E size.V imm.Iz ∷
    -- B8+r, one row: Iz at v 16, 32, and 8 bytes with W
    plus_r 0xB8 kind.MovImm ops.OpcodeReg size.V imm.Iv ∷
    -- 8D Gv,M, memory only
    cell pre.PlainOr66 map.One 0x8D false None form.Memory kind.Lea ops.GE size.V imm.None ∷
    -- 90 without REX.B, also with 66; 0F 1F /0 Ev
    cell pre.PlainOr66 map.One 0x90 false None form.Any
    kind.Nop ops.WithoutRexB size.None imm.None ∷
    cell pre.PlainOr66 map.Two 0x1F false (Some 0) form.Any kind.Nop ops.E size.V imm.None ∷
    -- 98: cbw cwde cdqe; 99: cwd cdq cqo
    one 0x98 kind.Widen ops.None size.V imm.None ∷
    one 0x99 kind.SignA ops.None size.V imm.None ∷ [] ++
    -- C0 Eb,Ib; C1 Ev,Ib; D0 Eb,1; D1 Ev,1; D2 Eb,CL; D3 Ev,CL
    each shifts (λ d op. digit 0xC0 d (kind.Shift op) ops.E size.B imm.Ub) ++
    each shifts (λ d op. digit 0xC1 d (kind.Shift op) ops.E size.V imm.Ub) ++
    each shifts (λ d op. digit 0xD0 d (kind.Shift op) ops.E size.B imm.By1) ++
    each shifts (λ d op. digit 0xD1 d (kind.Shift op) ops.E size.V imm.By1) ++
    each shifts (λ d op. digit 0xD2 d (kind.Shift op) ops.E size.B imm.Cl) ++
    each shifts (λ d op. digit 0xD3 d (kind.Shift op) ops.E size.V imm.Cl) ++
    -- F6 Eb, F7 Ev, with /2 /3; FE Eb, FF Ev, with /0 /1; F6 Eb, F7 Ev, with /4 /5 /6 /7
    each not_neg (λ d op. digit 0xF6 d (kind.Unary op) ops.E size.B imm.None) ++
    each not_neg (λ d op. digit 0xF7 d (kind.Unary op) ops.E size.V imm.None) ++
    each inc_dec (λ d op. digit 0xFE d (kind.Unary op) ops.E size.B imm.None) ++
    each inc_dec (λ d op. digit 0xFF d (kind.Unary op) ops.E size.V imm.None) ++
    each mul_div (λ d op. digit 0xF6 d (kind.MulDiv op) ops.E size.B imm.None) ++
    each mul_div (λ d op. digit 0xF7 d (kind.MulDiv op) ops.E size.V imm.None) ++
    -- 0F 0B; 0F 40+c Gv,Ev; 0F 90+c Eb
    two 0x0B kind.Ud2 ops.None size.None imm.None ∷ [] ++
    each conditions (λ c is. two (0x40 + c) (kind.Cmov is) ops.GE size.V imm.None) ++
    each conditions (λ c is. two (0x90 + c) (kind.Set is) ops.E size.B imm.None) ++
    -- 0F BC Gv,Ev; 0F BD Gv,Ev; F3 0F B8, BC, BD Gy,Ey
    two 0xBC (kind.Bits bits.Bsf) ops.GE size.V imm.None ∷
    two 0xBD (kind.Bits bits.Bsr) ops.GE size.V imm.None ∷
    f3_two 0xB8 (kind.Bits bits.Popcnt) ops.GE size.V32Or64 imm.None ∷
    f3_two 0xBC (kind.Bits bits.Tzcnt) ops.GE size.V32Or64 imm.None ∷
    f3_two 0xBD (kind.Bits bits.Lzcnt) ops.GE size.V32Or64 imm.None ∷
    -- 0F A3 Ev,Gv and 0F BA /4 Ev,Ib, a register only; 0F C8+r y; F3 0F 1E FA
    cell pre.PlainOr66 map.Two 0xA3 false None form.Register kind.Bt ops.EG size.V imm.None ∷
    cell pre.PlainOr66 map.Two 0xBA false (Some 4) form.Register kind.Bt ops.E size.V imm.Ib ∷
    cell pre.Plain map.Two 0xC8 true None form.Any kind.Bswap ops.OpcodeReg size.V32Or64 imm.None ∷
    f3_two 0x1E kind.Endbr ops.EndsInFa size.None imm.OpcodeByte ∷ [] ++
    -- 0F 10, 28, 6F V,W and 11, 29, 7F W,V
    np_66_f3_f2 0x10 xmm.MovupsLoad xmm.MovupdLoad xmm.MovssLoad xmm.MovsdLoad ++
    np_66_f3_f2 0x11 xmm.MovupsStore xmm.MovupdStore xmm.MovssStore xmm.MovsdStore ++
    np_66 0x28 xmm.MovapsLoad xmm.MovapdLoad ++ np_66 0x29 xmm.MovapsStore xmm.MovapdStore ++
    xmm_two pre.P66 0x6F size.Narrow xmm.MovdqaLoad ∷
    xmm_two pre.PF3 0x6F size.Narrow xmm.MovdquLoad ∷
    xmm_two pre.P66 0x7F size.Narrow xmm.MovdqaStore ∷
    xmm_two pre.PF3 0x7F size.Narrow xmm.MovdquStore ∷
    -- 66 0F 6E V,Ey; 66 0F 7E Ey,V; F3 0F 7E V,W; 66 0F D6 W,V
    xmm_two pre.P66 0x6E size.Wide xmm.MovdLoad ∷ xmm_two pre.P66 0x7E size.Wide xmm.MovdStore ∷
    xmm_two pre.PF3 0x7E size.Narrow xmm.MovqLoad ∷
    xmm_two pre.P66 0xD6 size.Narrow xmm.MovqStore ∷ [] ++
    -- V,W
    np_66_f3_f2 0x51 xmm.Sqrtps xmm.Sqrtpd xmm.Sqrtss xmm.Sqrtsd ++
    np_66_f3_f2 0x58 xmm.Addps xmm.Addpd xmm.Addss xmm.Addsd ++
    np_66_f3_f2 0x59 xmm.Mulps xmm.Mulpd xmm.Mulss xmm.Mulsd ++
    np_66_f3_f2 0x5C xmm.Subps xmm.Subpd xmm.Subss xmm.Subsd ++
    np_66_f3_f2 0x5D xmm.Minps xmm.Minpd xmm.Minss xmm.Minsd ++
    np_66_f3_f2 0x5E xmm.Divps xmm.Divpd xmm.Divss xmm.Divsd ++
    np_66_f3_f2 0x5F xmm.Maxps xmm.Maxpd xmm.Maxss xmm.Maxsd ++
    np_66 0x54 xmm.Andps xmm.Andpd ++ np_66 0x55 xmm.Andnps xmm.Andnpd ++
    np_66 0x56 xmm.Orps xmm.Orpd ++ np_66 0x57 xmm.Xorps xmm.Xorpd ++
    np_66_f3_f2 0x5A xmm.Cvtps2pd xmm.Cvtpd2ps xmm.Cvtss2sd xmm.Cvtsd2ss ++
    np_66 0x5B xmm.Cvtdq2ps xmm.Cvtps2dq ++ xmm_two pre.PF3 0x5B size.Narrow xmm.Cvttps2dq ∷ [] ++
    -- 0F 2A V,Ey; 0F 2C Gy,W; 0F 2D Gy,W
    f3_f2 0x2A size.Wide xmm.Cvtsi2ss xmm.Cvtsi2sd ++
    f3_f2 0x2C size.Wide xmm.Cvttss2si xmm.Cvttsd2si ++
    f3_f2 0x2D size.Wide xmm.Cvtss2si xmm.Cvtsd2si ++
    -- V,W; 66 0F 3A 0A and 0B V,W,Ib
    np_66 0x2E xmm.Ucomiss xmm.Ucomisd ++ np_66 0x2F xmm.Comiss xmm.Comisd ++
    xmm_two pre.P66 0xEF size.Narrow xmm.Pxor ∷ [] ++
    each ((0x0A, xmm.Roundss) ∷ (0x0B, xmm.Roundsd) ∷ [])
    (λ o x. cell pre.P66 map.Three o false None form.Any (kind.Xmm x) ops.Xmm size.Narrow imm.Ub))
