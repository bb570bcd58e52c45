-- The fields of ModRM and SIB, written again from what they name.
use Rattle.std.proofs.Common.{◌≡◌, ◌⊎◌, ℕ, ◌+◌, ◌*◌, ◌%◌, ◌<◌, ◌≤◌, ◌==◌, Bool, true, false, not, ◌&&◌, cond, List, [], ◌∷◌, length, take, Option, None, Some, IfSome, refl, sym, ◌∙◌, ap, arith, inl, inr}
use Rattle.std.proofs.lemmas.Bool.{and_parts, cases_Bool, eqb-true, false≢true}
use Rattle.std.specs.Int.{w32, cast_unsigned, to_le_bytes}
use Rattle.vw_insn.specs.declared.registers.Width.{Width}
use Rattle.vw_insn.specs.declared.registers.Width.TheVariants.{W8, W16, W32, W64}
use Rattle.vw_insn.specs.Words.{number, register}
use Rattle.vw_insn.proofs.RegisterNumbers.{number_register}
use Rattle.vw_rows.specs.Numbers.{IsBytes, signed_of}
use Rattle.vw_rows.specs.Parts.{mode, rm, scale, index, rex_r, rex_x, rex_b}
use Rattle.vw_rows.specs.Parts as parts
use Rattle.vw_rows.specs.Layout.{takes_sib, without_base, displacement_length, has_sib}
use Rattle.vw_rows.specs.Shape.{byte_register, register_place, base_at, index_at, memory_at}
use Rattle.vw_encode.specs.search.Asked.{place_number}
use Rattle.vw_encode.specs.search.Candidate.{base_field, index_field, rm_in_memory, sib_field}
use Rattle.vw_encode.specs.Order.{scale_in}
use Rattle.vw_rows.proofs.Below.{below, below_at}
use Rattle.vw_rows.proofs.SpelledListed.{bit_b, bit_x}
use Rattle.vw_encode.proofs.Digits.{signed_again, signed_again_4}

low_again : below (λ n. place_number (byte_register false n) == n) 8 ≡ true
low_again = refl

byte_again : (n : ℕ) → n < 8 → place_number (byte_register false n) ≡ n
byte_again n lt = eqb-true (place_number (byte_register false n)) n (below_at (λ k. place_number (byte_register false k) == k) 8 low_again n lt)

place_low : (w : Width) (n : ℕ) → n < 8 → place_number (register_place w None n) ≡ n
place_low W8 n lt = byte_again n lt
place_low W16 n lt = number_register n (omega arith)
place_low W32 n lt = number_register n (omega arith)
place_low W64 n lt = number_register n (omega arith)

place_full : (w : Width) (bits n : ℕ) → n < 16 → place_number (register_place w (Some bits) n) ≡ n
place_full W8 bits n lt = number_register n lt
place_full W16 bits n lt = number_register n lt
place_full W32 bits n lt = number_register n lt
place_full W64 bits n lt = number_register n lt

low_field : (m f : ℕ) → f < 8 → m ≡ f → m % 8 ≡ f
low_field m f lt e = omega arith

full_field : (m f b : ℕ) → f < 8 → m ≡ f + 8 * b → m % 8 ≡ f
full_field m f b lt e = omega arith

-- a register is named by its low three bits
pub field_b : (w : Width) (rex : Option ℕ) (f : ℕ) → f < 8 → place_number (register_place w rex (f + 8 * rex_b rex)) % 8 ≡ f
field_b w None f lt = (let same : f + 8 * 0 ≡ f = omega arith in low_field (place_number (register_place w None (f + 8 * 0))) f lt (place_low w (f + 8 * 0) (omega arith) ∙ same))
field_b w (Some bits) f lt = full_field (place_number (register_place w (Some bits) (f + 8 * rex_b (Some bits)))) f (rex_b (Some bits)) lt (place_full w bits (f + 8 * rex_b (Some bits)) (omega arith))

pub field_r : (w : Width) (rex : Option ℕ) (f : ℕ) → f < 8 → place_number (register_place w rex (f + 8 * rex_r rex)) % 8 ≡ f
field_r w None f lt = (let same : f + 8 * 0 ≡ f = omega arith in low_field (place_number (register_place w None (f + 8 * 0))) f lt (place_low w (f + 8 * 0) (omega arith) ∙ same))
field_r w (Some bits) f lt = full_field (place_number (register_place w (Some bits) (f + 8 * rex_r (Some bits)))) f (rex_r (Some bits)) lt (place_full w bits (f + 8 * rex_r (Some bits)) (omega arith))

-- ---- memory

base_again : (rex : Option ℕ) (byte : ℕ) → base_field (base_at rex byte None) ≡ rm byte
base_again rex byte = elim (cases_Bool (without_base byte None)) [
  | inl hit ↦ rw hit (sym (eqb-true (rm byte) 5 (and_parts (mode byte == 0) (rm byte == 5) hit).1))
  | inr miss ↦ (let b = bit_b rex in rw miss (full_field (number (register (rm byte + 8 * rex_b rex))) (rm byte) (rex_b rex) (omega arith) (number_register (rm byte + 8 * rex_b rex) (omega arith))))
]

base_sib_again : (rex : Option ℕ) (byte sib : ℕ) → base_field (base_at rex byte (Some sib)) ≡ parts.base sib
base_sib_again rex byte sib = elim (cases_Bool (without_base byte (Some sib))) [
  | inl hit ↦ rw hit (sym (eqb-true (parts.base sib) 5 (and_parts (mode byte == 0) (parts.base sib == 5) hit).1))
  | inr miss ↦ (let b = bit_b rex in rw miss (full_field (number (register (parts.base sib + 8 * rex_b rex))) (parts.base sib) (rex_b rex) (omega arith) (number_register (parts.base sib + 8 * rex_b rex) (omega arith))))
]

index_again : (rex : Option ℕ) (sib : ℕ) → index_field (index_at rex (Some sib)) ≡ index sib
index_again rex sib = elim (cases_Bool (index sib + 8 * rex_x rex == 4)) [
  | inl hit ↦ (let e : index sib + 8 * rex_x rex ≡ 4 = eqb-true (index sib + 8 * rex_x rex) 4 hit in rw hit (omega arith))
  | inr miss ↦ (let x = bit_x rex in rw miss (full_field (number (register (index sib + 8 * rex_x rex))) (index sib) (rex_x rex) (omega arith) (number_register (index sib + 8 * rex_x rex) (omega arith))))
]

four_of : (byte : ℕ) → takes_sib byte ≡ true → 4 ≡ rm byte
four_of byte h = sym (eqb-true (rm byte) 4 (and_parts (not (mode byte == 3)) (rm byte == 4) h).1)

pub rm_memory : (rex : Option ℕ) (byte : ℕ) (sib : Option ℕ) (disp : List ℕ) → has_sib sib ≡ takes_sib byte → rm_in_memory (scale_in sib) (memory_at rex (record { byte = byte; sib = sib; disp = disp })) ≡ rm byte
rm_memory rex byte None disp h = base_again rex byte
rm_memory rex byte (Some sib) disp h = four_of byte (sym h)

pub sib_memory : (rex : Option ℕ) (byte : ℕ) (sib : Option ℕ) (disp : List ℕ) → IfSome sib (λ b. b < 256) → sib_field (scale_in sib) (memory_at rex (record { byte = byte; sib = sib; disp = disp })) ≡ sib
sib_memory rex byte None disp h = refl
sib_memory rex byte (Some sib) disp h =
    let one = base_sib_again rex byte sib in
    let two = index_again rex sib in
    let whole : scale sib * 64 + index_field (index_at rex (Some sib)) * 8 + base_field (base_at rex byte (Some sib)) ≡ sib = rw (one, two) (omega arith) in
    ap (λ (n : ℕ). some n) whole
  where
    some : ℕ → Option ℕ
    some n = Some n

pub disp_again : (n : ℕ) (bs : List ℕ) → length bs ≡ n → IsBytes bs → (n ≤ 2) ⊎ (n ≡ 4) → take n (to_le_bytes w32 (cast_unsigned w32 (signed_of bs))) ≡ bs
disp_again n bs e h (inl le) = signed_again n bs e h le
disp_again n bs e h (inr is) = (let four : length bs ≡ 4 = e ∙ is in rw is (signed_again_4 bs four h))

abbrev pub IsWritten : ℕ → Type 0
IsWritten n = (n ≤ 2) ⊎ (n ≡ 4)

some_length : (a b c : Bool) → IsWritten (cond a 1 (cond b 4 (cond c 4 0)))
some_length true b c = inl (omega arith)
some_length false true c = inr refl
some_length false false true = inr refl
some_length false false false = inl (omega arith)

pub disp_memory : (byte : ℕ) (sib : Option ℕ) (disp : List ℕ) → length disp ≡ displacement_length byte sib → IsBytes disp → take (displacement_length byte sib) (to_le_bytes w32 (cast_unsigned w32 (signed_of disp))) ≡ disp
disp_memory byte sib disp e h = disp_again (displacement_length byte sib) disp e h (some_length (mode byte == 1) (mode byte == 2) (without_base byte sib))

-- ---- a register as E has no SIB and no displacement

pub no_sib_at : (byte : ℕ) (sib : Option ℕ) → mode byte ≡ 3 → has_sib sib ≡ takes_sib byte → sib ≡ None
no_sib_at byte None e h = refl
no_sib_at byte (Some s) e h = absurd (false≢true (sym (h ∙ ap (λ (n : ℕ). not (n == 3) && (rm byte == 4)) e)))

pub no_disp_at : (byte : ℕ) (sib : Option ℕ) → mode byte ≡ 3 → displacement_length byte sib ≡ 0
no_disp_at byte None e = rw e refl
no_disp_at byte (Some s) e = rw e refl

pub empty_list : (bs : List ℕ) → length bs ≡ 0 → bs ≡ []
empty_list [] e = refl
empty_list (b ∷ bs) e = absurd (omega arith)
