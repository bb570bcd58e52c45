-- What the bytes of stubs are read as.
use Rattle.std.proofs.Common.{◌≡◌, ℕ, zero, suc, ◌+◌, ◌-◌, ◌<◌, ◌≤◌, List, [], ◌∷◌, length, take, Option, Some, None, if◌then◌else◌, refl, sym, ap, ◌∙◌, subst, arith}
use Rattle.std.specs.Prelude.{true, false, nat_le, ℤ, ◌↔◌}
use Rattle.std.proofs.Math.Dec.{lit<}
use Rattle.std.proofs.lemmas.Bool.Decides.{nat_tests}
use Rattle.vw_insn.specs.declared.instruction.Insn.{Insn}
use Rattle.vw_insn.specs.declared.instruction.Insn.TheVariants as insn
use Rattle.vw_insn.specs.declared.operands.Base.TheVariants as base
use Rattle.vw_insn.specs.declared.operands.Place.TheVariants as place
use Rattle.vw_rows.specs.declared.forms.Row.{Row}
use Rattle.vw_rows.specs.declared.patterns.Prefix.TheVariants.{Plain, PF3}
use Rattle.vw_rows.specs.declared.patterns.Map.TheVariants.{One, Two}
use Rattle.vw_rows.specs.Layout.{has_fixed}
use Rattle.vw_rows.specs.Numbers.{IsBytes}
use Rattle.vw_rows.specs.Spelling.{Spells}
use Rattle.vw_machine.specs.Module.{bytes_from}
use Rattle.vw_rows.specs.Rows.{rows, row}
use Rattle.vw_rows.specs.Parts.{Modrm, Parts}
use Rattle.vw_insn.specs.declared.registers.Width.TheVariants.{W32, W64}
use Rattle.vw_rows.specs.declared.patterns.Prefixes.TheVariants as pre
use Rattle.vw_rows.specs.declared.patterns.Form.TheVariants as form
use Rattle.vw_rows.specs.declared.forms.Kind.TheVariants as kind
use Rattle.vw_rows.specs.declared.forms.Operands.TheVariants as ops
use Rattle.vw_rows.specs.declared.forms.Sizing.TheVariants as size
use Rattle.vw_rows.specs.declared.forms.Immediate.TheVariants as imm
use Rattle.vw_decode.specs.Lexing.{Found, Head, insn_found, length_found, read, tail_at, split, row_at, modrm_at, ◌>>=◌}

-- JMP of the word at a distance from the next instruction
abbrev pub through : ℤ → Insn
through d = insn.JumpInd (place.Mem (record { base = base.Rip; index = None; disp = d }))

four : (n : ℕ) → nat_le 4 (suc (suc (suc (suc n)))) ≡ true
four n = grind (arith, nat_tests)

none_less : (n : ℕ) → nat_le 0 n ≡ true
none_less n = grind (arith, nat_tests)

split_four : (a b c d : ℕ) (rest : List ℕ) → split 4 (a ∷ b ∷ c ∷ d ∷ rest) ≡ Some (a ∷ b ∷ c ∷ d ∷ [], rest)
split_four a b c d rest = ap (λ t. if t then Some (a ∷ b ∷ c ∷ d ∷ [], rest) else None) (four (length rest))

split_none : (bytes : List ℕ) → split 0 bytes ≡ Some ([], bytes)
split_none bytes = ap (λ t. if t then Some ([], bytes) else None) (none_less (length bytes))

abbrev after_disp : List ℕ × List ℕ → Option (Modrm × List ℕ)
after_disp disp = Some (record { byte = 0x25; sib = None; disp = disp.0 }, disp.1)

abbrev after_modrm : Modrm × List ℕ → Option (Option Modrm × List ℕ)
after_modrm m = Some (Some m.0, m.1)

modrm_is : (a b c d : ℕ) (rest : List ℕ) → modrm_at true (0x25 ∷ a ∷ b ∷ c ∷ d ∷ rest) ≡ Some (Some (record { byte = 0x25; sib = None; disp = a ∷ b ∷ c ∷ d ∷ [] }), rest)
modrm_is a b c d rest = ap (λ (o : Option (List ℕ × List ℕ)). (o >>= after_disp) >>= after_modrm) (split_four a b c d rest)

abbrev jump_row : Row
jump_row = row 123 pre.Plain One 0xFF false (Some 4) form.Any kind.JumpInd ops.E size.Q imm.None

abbrev jump_head : List ℕ → Head
jump_head rest = record { prefix = Plain; rex = None; map = One; opcode = 0xFF; rest = rest }

abbrev jump_parts : Option Modrm → List ℕ → Parts
jump_parts m i = record { prefix = Plain; rex = None; map = One; opcode = 0xFF; modrm = m; imm = i }

abbrev found_of : Option Modrm × List ℕ → List ℕ × List ℕ → Option Found
found_of m i = Some (record { row = jump_row; width = W64; parts = jump_parts m.0 i.0; rest = i.1 })

abbrev after_all : Option Modrm × List ℕ → Option Found
after_all m = split 0 m.1 >>= found_of m

row_is : (bytes : List ℕ) → row_at Plain One 0xFF (0x25 ∷ bytes) ≡ Some jump_row
unfolding rows
row_is bytes = refl

abbrev jump_modrm : ℕ → ℕ → ℕ → ℕ → Modrm
jump_modrm a b c d = record { byte = 0x25; sib = None; disp = a ∷ b ∷ c ∷ d ∷ [] }

tail_is : (a b c d : ℕ) (rest : List ℕ) → tail_at (jump_head (0x25 ∷ a ∷ b ∷ c ∷ d ∷ rest)) jump_row ≡ Some (record { row = jump_row; width = W64; parts = jump_parts (Some (jump_modrm a b c d)) []; rest = rest })
unfolding tail_at
tail_is a b c d rest =
    ap (λ (o : Option (Option Modrm × List ℕ)). o >>= after_all) (modrm_is a b c d rest)
    ∙ ap (λ (o : Option (List ℕ × List ℕ)). o >>= found_of (Some (jump_modrm a b c d), rest)) (split_none rest)

pub record IsThrough (bytes : List ℕ) : Type 0 where
  pub found : Found
  pub is_read : read bytes ≡ Some found
  pub distance : ℤ
  pub is_jump : insn_found found ≡ through distance

abbrev row_then : List ℕ → Option Row → Option Found
row_then rest o = o >>= tail_at (jump_head rest)

pub jump_read : (a b c d : ℕ) (rest : List ℕ) → IsThrough (0xFF ∷ 0x25 ∷ a ∷ b ∷ c ∷ d ∷ rest)
unfolding read
jump_read a b c d rest = record {
  found = record { row = jump_row; width = W64; parts = jump_parts (Some (jump_modrm a b c d)) []; rest = rest };
  is_read = ap (row_then (0x25 ∷ a ∷ b ∷ c ∷ d ∷ rest)) (row_is (a ∷ b ∷ c ∷ d ∷ rest)) ∙ tail_is a b c d rest;
  distance = _;
  is_jump = refl;
}

-- ---- ENDBR64

split_one : (a : ℕ) (rest : List ℕ) → split 1 (a ∷ rest) ≡ Some (a ∷ [], rest)
split_one a rest = ap (λ t. if t then Some (a ∷ [], rest) else None) (one (length rest))
  where
    one : (n : ℕ) → nat_le 1 (suc n) ≡ true
    one n = grind (arith, nat_tests)

abbrev endbr_row : Row
endbr_row = row 229 pre.PF3 Two 0x1E false None form.Any kind.Endbr ops.EndsInFa size.None imm.OpcodeByte

abbrev endbr_head : List ℕ → Head
endbr_head rest = record { prefix = PF3; rex = None; map = Two; opcode = 0x1E; rest = rest }

abbrev endbr_parts : List ℕ → Parts
endbr_parts i = record { prefix = PF3; rex = None; map = Two; opcode = 0x1E; modrm = None; imm = i }

abbrev endbr_of : List ℕ × List ℕ → Option Found
endbr_of i = if has_fixed ops.EndsInFa (endbr_parts i.0) then Some (record { row = endbr_row; width = W32; parts = endbr_parts i.0; rest = i.1 }) else None

endbr_tail : (rest : List ℕ) → tail_at (endbr_head (0xFA ∷ rest)) endbr_row ≡ Some (record { row = endbr_row; width = W32; parts = endbr_parts (0xFA ∷ []); rest = rest })
unfolding tail_at
endbr_tail rest = ap (λ (o : Option (List ℕ × List ℕ)). o >>= endbr_of) (split_one 0xFA rest)

endbr_row_is : (bytes : List ℕ) → row_at PF3 Two 0x1E (0xFA ∷ bytes) ≡ Some endbr_row
unfolding rows
endbr_row_is bytes = refl

abbrev endbr_then : List ℕ → Option Row → Option Found
endbr_then rest o = o >>= tail_at (endbr_head rest)

pub record IsEndbr (bytes : List ℕ) : Type 0 where
  pub found : Found
  pub is_read : read bytes ≡ Some found
  pub is_endbr : insn_found found ≡ insn.Endbr
  pub four_bytes : length_found bytes found ≡ 4

pub endbr_read : (rest : List ℕ) → IsEndbr (0xF3 ∷ 0x0F ∷ 0x1E ∷ 0xFA ∷ rest)
unfolding read
endbr_read rest = record {
  found = record { row = endbr_row; width = W32; parts = endbr_parts (0xFA ∷ []); rest = rest };
  is_read = ap (endbr_then (0xFA ∷ rest)) (endbr_row_is rest) ∙ endbr_tail rest;
  is_endbr = refl;
  four_bytes = four_left (length rest);
}
  where
    four_left : (n : ℕ) → suc (suc (suc (suc n))) - n ≡ 4
    four_left n = omega arith

-- a jump with the prefix that bounds it is no instruction
pub bound_read : (rest : List ℕ) → read (0xF2 ∷ 0xFF ∷ 0x25 ∷ rest) ≡ None
unfolding read rows
bound_read rest = refl

-- ---- as the only instruction there

abbrev pub ReadsOnly : Type 0
ReadsOnly = (bytes : List ℕ) (f : Found) (n : ℕ) (i : Insn) → read bytes ≡ Some f → n ≤ length bytes → Spells (take n bytes) i → (insn_found f ≡ i) × (length_found bytes f ≡ n)

abbrev pub ReadsNone : Type 0
ReadsNone = (bytes : List ℕ) → IsBytes bytes → (read bytes ≡ None) ↔ ((n : ℕ) (i : Insn) → Spells (take n bytes) i → ⊥)

from_length : (b : ℕ → ℕ) (p k : ℕ) → length (bytes_from b p k) ≡ k
from_length b p zero = refl
from_length b p (suc k) = ap suc (from_length b (p + 1) k)

from_taken : (b : ℕ → ℕ) (p n k : ℕ) → n ≤ k → take n (bytes_from b p k) ≡ bytes_from b p n
from_taken b p zero k l = refl
from_taken b p (suc n) zero l = absurd (omega arith)
from_taken b p (suc n) (suc k) l = ap (λ xs. b p ∷ xs) (from_taken b (p + 1) n k (omega arith))

from_bytes : (b : ℕ → ℕ) (p k : ℕ) → ((a : ℕ) → b a < 256) → IsBytes (bytes_from b p k)
from_bytes b p zero h i = lit< tt
from_bytes b p (suc k) h zero = h p
from_bytes b p (suc k) h (suc i) = from_bytes b (p + 1) k h i

module _ (b : ℕ → ℕ) (p len : ℕ) (i : Insn) (spelled : Spells (bytes_from b p len) i) where
  -- enough bytes from there
  abbrev enough : List ℕ
  enough = bytes_from b p (suc (suc (suc (suc (suc (suc len))))))

  taken : Spells (take len enough) i
  taken = subst (λ (xs : List ℕ). Spells xs i) (sym (from_taken b p len (suc (suc (suc (suc (suc (suc len)))))) (omega arith))) spelled

  fits : len ≤ length enough
  fits = let n = from_length b p (suc (suc (suc (suc (suc (suc len)))))) in omega (arith, n)

  pub jump_only : ReadsOnly → b p ≡ 0xFF → b (p + 1) ≡ 0x25 → (d : ℤ) × (i ≡ through d)
  jump_only only one two =
      let t : IsThrough enough = subst (λ x. IsThrough (x ∷ b (p + 1) ∷ bytes_from b (p + 1 + 1) (suc (suc (suc (suc len)))))) (sym one)
      (subst (λ x. IsThrough (0xFF ∷ x ∷ bytes_from b (p + 1 + 1) (suc (suc (suc (suc len)))))) (sym two) (jump_read _ _ _ _ _)) in
      (t.distance, sym (only enough t.found len i t.is_read fits taken).0 ∙ t.is_jump)

  pub endbr_only : ReadsOnly → b p ≡ 0xF3 → b (p + 1) ≡ 0x0F → b (p + 1 + 1) ≡ 0x1E → b (p + 1 + 1 + 1) ≡ 0xFA → (i ≡ insn.Endbr) × (len ≡ 4)
  endbr_only only one two three four =
      let rest = bytes_from b (p + 1 + 1 + 1 + 1) (suc (suc len)) in
      let t : IsEndbr enough =
      subst (λ x. IsEndbr (x ∷ b (p + 1) ∷ b (p + 1 + 1) ∷ b (p + 1 + 1 + 1) ∷ rest)) (sym one)
      (subst (λ x. IsEndbr (0xF3 ∷ x ∷ b (p + 1 + 1) ∷ b (p + 1 + 1 + 1) ∷ rest)) (sym two)
      (subst (λ x. IsEndbr (0xF3 ∷ 0x0F ∷ x ∷ b (p + 1 + 1 + 1) ∷ rest)) (sym three)
      (subst (λ x. IsEndbr (0xF3 ∷ 0x0F ∷ 0x1E ∷ x ∷ rest)) (sym four) (endbr_read rest)))) in
      let o = only enough t.found len i t.is_read fits taken in
      (sym o.0 ∙ t.is_endbr, sym o.1 ∙ t.four_bytes)

  pub bound_none : ReadsNone → ((a : ℕ) → b a < 256) → b p ≡ 0xF2 → b (p + 1) ≡ 0xFF → b (p + 1 + 1) ≡ 0x25 → ⊥
  bound_none none are one two three =
      let rest = bytes_from b (p + 1 + 1 + 1) (suc (suc (suc len))) in
      let nothing : read enough ≡ None =
      subst (λ x. read (x ∷ b (p + 1) ∷ b (p + 1 + 1) ∷ rest) ≡ None) (sym one)
      (subst (λ x. read (0xF2 ∷ x ∷ b (p + 1 + 1) ∷ rest) ≡ None) (sym two)
      (subst (λ x. read (0xF2 ∷ 0xFF ∷ x ∷ rest) ≡ None) (sym three) (bound_read rest))) in
      (none enough (from_bytes b p (suc (suc (suc (suc (suc (suc len)))))) are)).0 nothing len i taken
