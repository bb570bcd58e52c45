-- What a normal spelling has.
use Rattle.std.proofs.Common.{◌≡◌, ℕ, ◌<◌, Bool, true, false, ◌&&◌, Option, None, Some, IfSome, refl, arith}
use Rattle.std.proofs.lemmas.Bool.{and_parts, false≢true}
use Rattle.vw_insn.specs.declared.registers.Width.{Width}
use Rattle.vw_insn.specs.declared.registers.Width.TheVariants.{W8, W16, W32, W64}
use Rattle.vw_insn.specs.declared.instruction.Insn.{Insn}
use Rattle.vw_insn.specs.Listed.{IsWord}
use Rattle.vw_rows.specs.declared.forms.Row.{Row}
use Rattle.vw_rows.specs.Parts.{Modrm, Parts}
use Rattle.vw_rows.specs.Layout.{is_word, IsLaid}
use Rattle.vw_rows.proofs.Bytes.{OptionalBytes, part_bytes}
use Rattle.vw_rows.proofs.SpelledListed.{laid_word}
use Rattle.vw_encode.specs.Order.{mode_of, scale_in, scale_of}
use Rattle.vw_encode.specs.search.Normal.{Normal, implies, first_told, first_full, second_told, second_register, second_memory, signed_told, mov_told, byte_told, xmm_told, plus_told, end_told, is_told}

pub follows : (a b : Bool) → implies a b ≡ true → a ≡ true → b ≡ true
follows true b h e = h
follows false b h e = absurd (false≢true e)

-- ---- fields of the parts

mode_within : (o : Option Modrm) → OptionalBytes o → mode_of o < 4
mode_within None h = omega arith
mode_within (Some m) h = (let b = h.byte in omega arith)

scale_within_sib : (s : Option ℕ) → IfSome s (λ b. b < 256) → IfSome (scale_in s) (λ n. n < 4)
scale_within_sib None h = tt
scale_within_sib (Some b) h = omega arith

scale_within : (o : Option Modrm) → OptionalBytes o → IfSome (scale_of o) (λ n. n < 4)
scale_within None h = tt
scale_within (Some m) h = scale_within_sib m.sib h.sib

pub mode_below : (p : Parts) (row : Row) (insn : Insn) → Normal p row insn → mode_of p.modrm < 4
mode_below p row insn n = mode_within p.modrm (part_bytes p n.are_bytes).fields

pub scale_below : (p : Parts) (row : Row) (insn : Insn) → Normal p row insn → IfSome (scale_of p.modrm) (λ s. s < 4)
scale_below p row insn n = scale_within p.modrm (part_bytes p n.are_bytes).fields

-- ---- widths

abbrev pub is_w8 : Width → Bool
is_w8 W8 = true
is_w8 W16 = false
is_w8 W32 = false
is_w8 W64 = false

word_sized : (w : Width) → IsWord w → is_w8 w ≡ false
word_sized W8 h = absurd h
word_sized W16 h = refl
word_sized W32 h = refl
word_sized W64 h = refl

pub word_width : (row : Row) (p : Parts) (w : Width) → IsLaid p row w → is_word row.width ≡ true → is_w8 w ≡ false
word_width row p w laid h = word_sized w (laid_word p row w laid h)

-- ---- the tests of a row that is told

pub record Tests (r : Row) : Type 0 where
  pub first : first_told r ≡ true
  pub full : first_full r ≡ true
  pub second : second_told r ≡ true
  pub register : second_register r ≡ true
  pub memory : second_memory r ≡ true
  pub signed : signed_told r ≡ true
  pub mov : mov_told r ≡ true
  pub byte : byte_told r ≡ true
  pub xmm : xmm_told r ≡ true
  pub plus : plus_told r ≡ true
  pub end : end_told r ≡ true

pub tests_of : (r : Row) → is_told r ≡ true → Tests r
tests_of r h =
    let a = and_parts (first_told r) (first_full r && (second_told r && (second_register r && (second_memory r && (signed_told r && (mov_told r && (byte_told r && (xmm_told r && (plus_told r && end_told r))))))))) h in
    let b = and_parts (first_full r) (second_told r && (second_register r && (second_memory r && (signed_told r && (mov_told r && (byte_told r && (xmm_told r && (plus_told r && end_told r)))))))) a.1 in
    let c = and_parts (second_told r) (second_register r && (second_memory r && (signed_told r && (mov_told r && (byte_told r && (xmm_told r && (plus_told r && end_told r))))))) b.1 in
    let d = and_parts (second_register r) (second_memory r && (signed_told r && (mov_told r && (byte_told r && (xmm_told r && (plus_told r && end_told r)))))) c.1 in
    let e = and_parts (second_memory r) (signed_told r && (mov_told r && (byte_told r && (xmm_told r && (plus_told r && end_told r))))) d.1 in
    let f = and_parts (signed_told r) (mov_told r && (byte_told r && (xmm_told r && (plus_told r && end_told r)))) e.1 in
    let g = and_parts (mov_told r) (byte_told r && (xmm_told r && (plus_told r && end_told r))) f.1 in
    let i = and_parts (byte_told r) (xmm_told r && (plus_told r && end_told r)) g.1 in
    let j = and_parts (xmm_told r) (plus_told r && end_told r) i.1 in
    let k = and_parts (plus_told r) (end_told r) j.1 in
    record { first = a.0; full = b.0; second = c.0; register = d.0; memory = e.0; signed = f.0; mov = g.0; byte = i.0; xmm = j.0; plus = k.0; end = k.1 }
