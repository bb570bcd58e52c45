-- The test of parts decides how they are laid out.
use Rattle.std.proofs.Common.{◌≡◌, ◌+◌, ◌≤◌, ◌==◌, Bool, true, false, ◌&&◌, Option, None, Some, length, refl, eq-eqb, arith}
use Rattle.std.proofs.lemmas.Bool.{and_parts, eqb-true, false≢true}
use Rattle.std.specs.Cmp.Derive.{both_true}
use Rattle.vw_insn.specs.declared.registers.Width.{Width}
use Rattle.vw_rows.specs.declared.forms.Row.{Row}
use Rattle.vw_rows.specs.Rows.{rows}
use Rattle.vw_rows.specs.Lookup.{IsIn, matches}
use Rattle.vw_rows.specs.Parts.{Modrm, Parts, bytes_of, rex_w}
use Rattle.vw_rows.specs.Layout.{key_of, has_modrm, takes_sib, displacement_length, has_sib, IsModrm, immediate_length, has_fixed, IsRex, width_at, IsLaid}
use Rattle.vw_encode.specs.search.Normal.{same_bool, modrm_fits, is_laid}
use Rattle.vw_rows.proofs.Lengths.{spelled_length}

pub same_is : (a b : Bool) → same_bool a b ≡ true → b ≡ a
same_is true b h = h
same_is false true h = absurd (false≢true h)
same_is false false h = refl

is_same : (a b : Bool) → b ≡ a → same_bool a b ≡ true
is_same true b h = h
is_same false b h = rw h refl

modrm_is : (is : Bool) (m : Option Modrm) → modrm_fits is m ≡ true → IsModrm is m
modrm_is true None h = absurd (false≢true h)
modrm_is true (Some m) h =
    let both = and_parts (same_bool (takes_sib m.byte) (has_sib m.sib)) (length m.disp == displacement_length m.byte m.sib) h in
    record { sib = same_is (takes_sib m.byte) (has_sib m.sib) both.0; disp = eqb-true (length m.disp) (displacement_length m.byte m.sib) both.1 }
modrm_is false None h = tt
modrm_is false (Some m) h = absurd (false≢true h)

modrm_tests : (is : Bool) (m : Option Modrm) → IsModrm is m → modrm_fits is m ≡ true
modrm_tests true None h = absurd h
modrm_tests true (Some m) h = both_true (is_same (takes_sib m.byte) (has_sib m.sib) h.sib) (eq-eqb (length m.disp) (displacement_length m.byte m.sib) h.disp)
modrm_tests false None h = refl
modrm_tests false (Some m) h = absurd h

pub laid_of : (row : Row) (w : Width) (p : Parts) → IsIn row rows → IsRex p.rex → width_at row.width p.prefix (rex_w p.rex) ≡ Some w → is_laid row w p ≡ true → IsLaid p row w
laid_of row w p listed rex width h =
    let one = and_parts (matches row (key_of p)) (modrm_fits (has_modrm row.operands) p.modrm && ((length p.imm == immediate_length row.immediate w) && has_fixed row.operands p)) h in
    let two = and_parts (modrm_fits (has_modrm row.operands) p.modrm) ((length p.imm == immediate_length row.immediate w) && has_fixed row.operands p) one.1 in
    let three = and_parts (length p.imm == immediate_length row.immediate w) (has_fixed row.operands p) two.1 in
    record {
      listed = listed;
      found = one.0;
      rex = rex;
      width = width;
      modrm = modrm_is (has_modrm row.operands) p.modrm two.0;
      imm = eqb-true (length p.imm) (immediate_length row.immediate w) three.0;
      fixed = three.1;
    }

pub laid_tests : (row : Row) (w : Width) (p : Parts) → IsLaid p row w → is_laid row w p ≡ true
laid_tests row w p laid =
    both_true laid.found (both_true (modrm_tests (has_modrm row.operands) p.modrm laid.modrm) (both_true (eq-eqb (length p.imm) (immediate_length row.immediate w) laid.imm) laid.fixed))

-- there is room
pub has_room : (row : Row) (w : Width) (p : Parts) → IsLaid p row w → 16 ≤ 0 + length (bytes_of p) → ⊥
has_room row w p laid h = (let l = spelled_length p row w laid in omega arith)
