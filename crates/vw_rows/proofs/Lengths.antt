-- How long an instruction can be.
use Rattle.std.proofs.Common.{◌≡◌, ℕ, ◌+◌, ◌≤◌, ◌==◌, Bool, true, false, cond, length, ◌++◌}
use Rattle.std.proofs.Common.{Option, None, Some, refl, subst, leb, arith}
use Rattle.std.proofs.lemmas.Bool.{leb-true}
use Rattle.std.proofs.lemmas.List.{length-append}
use Rattle.std.specs.List.{list_all}
use Rattle.vw_insn.specs.declared.registers.Width.{Width}
use Rattle.vw_insn.specs.declared.registers.Width.TheVariants.{W8, W16, W32, W64}
use Rattle.vw_rows.specs.declared.patterns.Prefix.{Prefix}
use Rattle.vw_rows.specs.declared.patterns.Prefix.TheVariants.{Plain, P66, PF2, PF3}
use Rattle.vw_rows.specs.declared.patterns.Map.{Map}
use Rattle.vw_rows.specs.declared.patterns.Map.TheVariants.{One, Two, Three}
use Rattle.vw_rows.specs.declared.forms.Immediate.{Immediate}
use Rattle.vw_rows.specs.declared.forms.Immediate.TheVariants as imm
use Rattle.vw_rows.specs.declared.forms.Row.{Row}
use Rattle.vw_rows.specs.Rows.{rows}
use Rattle.vw_rows.specs.Lookup.{IsIn}
use Rattle.vw_rows.specs.Parts.{Modrm, Parts, bytes_of, mode}
use Rattle.vw_rows.specs.Parts.{prefix_bytes, rex_bytes, opcode_bytes, sib_bytes, modrm_bytes}
use Rattle.vw_rows.specs.Layout.{key_of, has_modrm, IsModrm, without_base, immediate_length, IsLaid}
use Rattle.vw_rows.proofs.Matching.{tests-of, same_map-≡}
use Rattle.vw_rows.proofs.Uniqueness.{rows_all}

abbrev opcode_size : Map → ℕ
opcode_size One = 1
opcode_size Two = 2
opcode_size Three = 3

abbrev immediate_bound : Immediate → ℕ
immediate_bound imm.None = 0
immediate_bound imm.Ib = 1
immediate_bound imm.Iz = 4
immediate_bound imm.Ub = 1
immediate_bound imm.Rel8 = 1
immediate_bound imm.Rel32 = 4
immediate_bound imm.By1 = 0
immediate_bound imm.Cl = 0
immediate_bound imm.Iv = 8
immediate_bound imm.OpcodeByte = 1

immediate_within :
    (i : Immediate) (w : Width) → leb (immediate_length i w) (immediate_bound i) ≡ true
immediate_within imm.None w = refl
immediate_within imm.Ib w = refl
immediate_within imm.Iz W8 = refl
immediate_within imm.Iz W16 = refl
immediate_within imm.Iz W32 = refl
immediate_within imm.Iz W64 = refl
immediate_within imm.Ub w = refl
immediate_within imm.Rel8 w = refl
immediate_within imm.Rel32 w = refl
immediate_within imm.By1 w = refl
immediate_within imm.Cl w = refl
immediate_within imm.Iv W8 = refl
immediate_within imm.Iv W16 = refl
immediate_within imm.Iv W32 = refl
immediate_within imm.Iv W64 = refl
immediate_within imm.OpcodeByte w = refl

-- ModRM, SIB and displacement
abbrev modrm_size : Bool → ℕ
modrm_size true = 6
modrm_size false = 0

abbrev is_short : Row → Bool
is_short r =
    leb
    (opcode_size r.pattern.map + modrm_size (has_modrm r.operands) + immediate_bound r.immediate) 13

all_short : list_all is_short rows ≡ true
unfolding rows
all_short = refl

row_short :
    (r : Row) → IsIn r rows → (w : Width)
    → opcode_size r.pattern.map + modrm_size (has_modrm r.operands) + immediate_length r.immediate w ≤ 13
row_short r i w =
    let short :
    opcode_size r.pattern.map + modrm_size (has_modrm r.operands) + immediate_bound r.immediate ≤ 13 =
    leb-true _ _ (rows_all is_short all_short r i) in
    let imm : immediate_length r.immediate w ≤ immediate_bound r.immediate =
    leb-true _ _ (immediate_within r.immediate w) in
    omega arith

prefix_length : (p : Prefix) → length (prefix_bytes p) ≤ 1
prefix_length Plain = omega arith
prefix_length P66 = omega arith
prefix_length PF2 = omega arith
prefix_length PF3 = omega arith

rex_length : (r : Option ℕ) → length (rex_bytes r) ≤ 1
rex_length None = omega arith
rex_length (Some bits) = omega arith

opcode_length : (m : Map) (o : ℕ) → length (opcode_bytes m o) ≡ opcode_size m
opcode_length One o = refl
opcode_length Two o = refl
opcode_length Three o = refl

opcode_not_empty : (m : Map) → 1 ≤ opcode_size m
opcode_not_empty One = omega arith
opcode_not_empty Two = omega arith
opcode_not_empty Three = omega arith

sib_length : (s : Option ℕ) → length (sib_bytes s) ≤ 1
sib_length None = omega arith
sib_length (Some b) = omega arith

four_at_most : (a b c : Bool) → cond a 1 (cond b 4 (cond c 4 0)) ≤ 4
four_at_most true b c = omega arith
four_at_most false true c = omega arith
four_at_most false false true = omega arith
four_at_most false false false = omega arith

modrm_length :
    (is : Bool) (m : Option Modrm) → IsModrm is m → length (modrm_bytes m) ≤ modrm_size is
modrm_length false None laid = omega arith
modrm_length false (Some m) laid = absurd laid
modrm_length true None laid = absurd laid
modrm_length true (Some m) laid =
    let four = four_at_most (mode m.byte == 1) (mode m.byte == 2) (without_base m.byte m.sib) in
    let disp : length m.disp ≤ 4 = rw laid.disp four in
    let sib = sib_length m.sib in
    omega (arith, length-append (sib_bytes m.sib) m.disp)

pub spelled_length :
    (p : Parts) (row : Row) (w : Width) → IsLaid p row w
    → (1 ≤ length (bytes_of p)) × (length (bytes_of p) ≤ 15)
spelled_length p row w laid =
    let t = tests-of row (key_of p) laid.found in
    let map : row.pattern.map ≡ p.map = same_map-≡ row.pattern.map p.map t.map in
    let size : Map → ℕ =
    λ m. opcode_size m + modrm_size (has_modrm row.operands) + immediate_length row.immediate w in
    let short : size p.map ≤ 13 = subst (λ (m : Map). size m ≤ 13) map (row_short row laid.listed w) in
    let pl = prefix_length p.prefix in
    let rl = rex_length p.rex in
    let ol = opcode_length p.map p.opcode in
    let on = opcode_not_empty p.map in
    let ml = modrm_length (has_modrm row.operands) p.modrm laid.modrm in
    let il = laid.imm in
    let operands = modrm_bytes p.modrm ++ p.imm in
    let named = opcode_bytes p.map p.opcode ++ operands in
    let a = length-append (prefix_bytes p.prefix) (rex_bytes p.rex ++ named) in
    let b = length-append (rex_bytes p.rex) named in
    let c = length-append (opcode_bytes p.map p.opcode) operands in
    let d = length-append (modrm_bytes p.modrm) p.imm in
    (omega arith, omega arith)
