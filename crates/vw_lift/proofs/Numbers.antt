-- Numbers of a width, in registers and in tmp.
use Rattle.std.proofs.Common.{◌≡◌, ℕ, ◌+◌, ◌-◌, ◌%◌, ◌^◌, ◌<◌, ◌≤◌, Bool, true, false, if◌then◌else◌, refl, arith, bit_and}
use Rattle.std.proofs.lemmas.Nat.{mod_below, and_le_l, or_lt, xor_lt}
use Rattle.vw_insn.specs.declared.registers.Width.{Width}
use Rattle.vw_insn.specs.declared.registers.Width.TheVariants.{W8, W16, W32, W64}
use Rattle.vw_insn.specs.declared.operations.AluOp.{AluOp}
use Rattle.vw_insn.specs.declared.operations.AluOp.TheVariants as alu
use Rattle.vw_insn.specs.Words.{bytes_in, low, with_low, with_high}
use Rattle.vw_insn.specs.Arithmetic.{alu_result}
use Rattle.vw_stmt.specs.Does.{width_of, opened}
use Rattle.vw_stmt.proofs.WordLemmas.{either, low_fits, modulus_word, with_low_word}

pub zero_word : 0 < 2 ^ 64
zero_word = omega arith

pub low_word : (w : Width) (x : ℕ) → x < 2 ^ 64 → low w x < 2 ^ 64
low_word w x h = modulus_word w (low w x) (low_fits w x h)

pub low_low : (w : Width) (x : ℕ) → low w (low w x) ≡ low w x
low_low W8 x = omega arith
low_low W16 x = omega arith
low_low W32 x = omega arith
low_low W64 x = refl

pub low_written : (w : Width) (old x : ℕ) → old < 2 ^ 64 → x < 2 ^ 64 → with_low w old (low w x) < 2 ^ 64
low_written w old x o h = with_low_word w old (low w x) o (low_fits w x h)

pub high_word : (old x : ℕ) → old < 2 ^ 64 → with_high old (x % 2 ^ 8) < 2 ^ 64
high_word old x o = omega arith

-- what is written to a register of a width can be any number of Open
pub opened_with_low : (w : Width) (old x : ℕ) → opened w (with_low w old (low w x)) ≡ with_low w old (low w x)
opened_with_low W8 old x = refl
opened_with_low W16 old x = refl
opened_with_low W32 old x = low_low W32 x
opened_with_low W64 old x = refl

-- and so can what is stored from tmp
pub stored_opened : (w : Width) (x : ℕ) → low (width_of (bytes_in w)) (opened w (low w x)) ≡ low w x
stored_opened W8 x = low_low W8 x
stored_opened W16 x = low_low W16 x
stored_opened W32 x = omega arith
stored_opened W64 x = refl

pub stored_low : (w : Width) (x : ℕ) → low (width_of (bytes_in w)) x ≡ low w x
stored_low W8 x = refl
stored_low W16 x = refl
stored_low W32 x = refl
stored_low W64 x = refl

-- the low bits of tmp after a load
pub loaded_low : (w : Width) (old x : ℕ) → low w (with_low w old (low (width_of (bytes_in w)) x)) ≡ low w x
loaded_low W8 old x = omega arith
loaded_low W16 old x = omega arith
loaded_low W32 old x = low_low W32 x
loaded_low W64 old x = refl

pub loaded_word : (w : Width) (x : ℕ) → x < 2 ^ 64 → with_low w 0 (low (width_of (bytes_in w)) x) < 2 ^ 64
loaded_word W8 x h = omega arith
loaded_word W16 x h = omega arith
loaded_word W32 x h = omega arith
loaded_word W64 x h = h

pub alu_word : (op : AluOp) (chosen x y : ℕ) → chosen < 2 ^ 64 → x < 2 ^ 64 → y < 2 ^ 64 → alu_result op chosen x y < 2 ^ 64
alu_word alu.Add chosen x y c h k = mod_below (x + y) (2 ^ 64) (omega arith)
alu_word alu.Or chosen x y c h k = or_lt 64 x y h k
alu_word alu.Adc chosen x y c h k = c
alu_word alu.Sbb chosen x y c h k = c
alu_word alu.And chosen x y c h k = let le : bit_and x y ≤ x = and_le_l x y in omega arith
alu_word alu.Sub chosen x y c h k = mod_below (x + (2 ^ 64 - y)) (2 ^ 64) (omega arith)
alu_word alu.Xor chosen x y c h k = xor_lt 64 x y h k
alu_word alu.Cmp chosen x y c h k = mod_below (x + (2 ^ 64 - y)) (2 ^ 64) (omega arith)

-- a number less itself
pub difference_self : (x : ℕ) → x < 2 ^ 64 → (x + (2 ^ 64 - x)) % 2 ^ 64 ≡ 0
difference_self x h = omega arith

pub bit_low : (b : Bool) → low W8 (if b then 1 else 0) ≡ (if b then 1 else 0)
bit_low true = refl
bit_low false = refl

pub bit_word : (b : Bool) → (if b then 1 else 0) < 2 ^ 64
bit_word b = either b (2 ^ 64) 1 0 (omega arith) (omega arith)
