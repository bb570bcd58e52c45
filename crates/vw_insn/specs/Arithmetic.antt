-- Results and flags of arithmetic on numbers of a width (SDM volume 1, 3.4.3.1 and 4.2.1; volume 2, "Operation" of
-- ADD, SUB, CMP, AND, OR, XOR, TEST, MOVSX, MOVZX and SAL/SAR/SHL/SHR). x and y are numbers of the width.
use Rattle.std.specs.Prelude.{ℕ, ◌+◌, ◌-◌, ◌*◌, ◌%◌, ◌^◌, ◌==◌, Bool, true, false, not, ◌&&◌, if◌then◌else◌, nat_le, nat_lt, bit_and, bit_or, bit_xor, count_ones}
use Rattle.vw_insn.specs.declared.registers.Width.{Width}
use Rattle.vw_insn.specs.declared.registers.Width.TheVariants.{W8, W16, W32, W64}
use Rattle.vw_insn.specs.declared.operations.AluOp.{AluOp}
use Rattle.vw_insn.specs.declared.operations.AluOp.TheVariants as alu
use Rattle.vw_insn.specs.declared.operations.ShiftOp.{ShiftOp}
use Rattle.vw_insn.specs.declared.operations.ShiftOp.TheVariants as shift
use Rattle.vw_insn.specs.declared.operations.UnaryOp.{UnaryOp}
use Rattle.vw_insn.specs.declared.operations.UnaryOp.TheVariants as unary
use Rattle.vw_insn.specs.declared.operands.Count.{Count}
use Rattle.vw_insn.specs.declared.operands.Count.TheVariants as count
use Rattle.vw_insn.specs.Words.{Flags, low}

-- two to the power of the width: the least number that is too large for it
abbrev pub modulus : Width → ℕ
modulus W8 = 2 ^ 8
modulus W16 = 2 ^ 16
modulus W32 = 2 ^ 32
modulus W64 = 2 ^ 64

-- the most significant bit, which is the sign of a number in two's complement (SDM volume 1, 4.2.1.2)
abbrev pub top_bit : Width → ℕ
top_bit W8 = 2 ^ 7
top_bit W16 = 2 ^ 15
top_bit W32 = 2 ^ 31
top_bit W64 = 2 ^ 63

abbrev pub has_top_bit : Width → ℕ → Bool
has_top_bit w x = nat_le (top_bit w) x

abbrev pub differ : Bool → Bool → Bool
differ true b = not b
differ false b = b

-- a number of width `from` extended to width `to`, by its sign where it is signed and by zeros where it is not
-- (SDM volume 2, "MOVSX/MOVSXD" and "MOVZX")
abbrev pub extended : Bool → Width → Width → ℕ → ℕ
extended true from to x = if has_top_bit from x then low to (x + (2 ^ 64 - modulus from)) else x
extended false from to x = x

-- x + y modulo 2 ^ 64
abbrev pub wrapped_sum : ℕ → ℕ → ℕ
wrapped_sum x y = (x + y) % 2 ^ 64

-- x - y modulo 2 ^ 64
abbrev pub wrapped_difference : ℕ → ℕ → ℕ
wrapped_difference x y = (x + (2 ^ 64 - y)) % 2 ^ 64

-- The flags by a result (SDM volume 1, 3.4.3.1): PF where the least significant byte has an even number of ones, ZF
-- where the result is 0, SF its most significant bit. Carry and overflow are given.
abbrev pub flags_of : Width → Bool → Bool → ℕ → Flags
flags_of w carry overflow result =
    record { carry = carry; parity = count_ones (result % 2 ^ 8) % 2 == 0; is_zero = result == 0; sign = has_top_bit w result; overflow = overflow }

-- The flags after ADD: CF where the sum reaches two to the power of the width, OF where both summands have one sign
-- and the result the other.
abbrev pub flags_of_sum : Width → ℕ → ℕ → Flags
flags_of_sum w x y =
    let result = low w (wrapped_sum x y) in
    flags_of w (nat_le (modulus w) (x + y)) (not (differ (has_top_bit w x) (has_top_bit w y)) && differ (has_top_bit w x) (has_top_bit w result)) result

-- The flags after SUB and CMP: CF where x is below y, unsigned, OF where x and y differ in sign and the result
-- differs in it from x.
abbrev pub flags_of_difference : Width → ℕ → ℕ → Flags
flags_of_difference w x y =
    let result = low w (wrapped_difference x y) in
    flags_of w (nat_lt x y) (differ (has_top_bit w x) (has_top_bit w y) && differ (has_top_bit w x) (has_top_bit w result)) result

-- The flags after AND, OR, XOR and TEST: CF and OF are cleared (SDM volume 2, "Flags Affected" of each).
abbrev pub flags_of_bits : Width → ℕ → Flags
flags_of_bits w result = flags_of w false false result

-- The result of an operation, of which an instruction takes the low bits (SDM volume 2, "Operation" of each). That of
-- ADC and SBB is open. CMP has none that it writes.
abbrev pub alu_result : AluOp → ℕ → ℕ → ℕ → ℕ
alu_result alu.Add chosen x y = wrapped_sum x y
alu_result alu.Or chosen x y = bit_or x y
alu_result alu.Adc chosen x y = chosen
alu_result alu.Sbb chosen x y = chosen
alu_result alu.And chosen x y = bit_and x y
alu_result alu.Sub chosen x y = wrapped_difference x y
alu_result alu.Xor chosen x y = bit_xor x y
alu_result alu.Cmp chosen x y = wrapped_difference x y

-- the flags after an operation
abbrev pub alu_flags : AluOp → Width → Flags → ℕ → ℕ → Flags
alu_flags alu.Add w chosen x y = flags_of_sum w x y
alu_flags alu.Or w chosen x y = flags_of_bits w (bit_or x y)
alu_flags alu.Adc w chosen x y = chosen
alu_flags alu.Sbb w chosen x y = chosen
alu_flags alu.And w chosen x y = flags_of_bits w (bit_and x y)
alu_flags alu.Sub w chosen x y = flags_of_difference w x y
alu_flags alu.Xor w chosen x y = flags_of_bits w (bit_xor x y)
alu_flags alu.Cmp w chosen x y = flags_of_difference w x y

-- The count that a shift heeds: its low five bits, and at width 64 its low six (SDM volume 2, "SAL/SAR/SHL/SHR").
abbrev pub masked_count : Width → ℕ → ℕ
masked_count W64 n = n % 64
masked_count _ n = n % 32

-- The result of a shift or rotate, of which an instruction takes the low bits: of SHL by a constant it is x times a
-- power of two, of all others it is open (SDM volume 2, "SAL/SAR/SHL/SHR" and "RCL/RCR/ROL/ROR").
abbrev pub shift_result : ShiftOp → Width → Count → ℕ → ℕ → ℕ
shift_result shift.Shl w (count.Imm n) chosen x = x * 2 ^ masked_count w n % 2 ^ 64
shift_result _ w by chosen x = chosen

-- the flags after NOT, which changes none, and after NEG, INC and DEC, where they are open (SDM volume 2, "Flags
-- Affected" of each)
abbrev pub unary_flags : UnaryOp → Flags → Flags → Flags
unary_flags unary.Not flags chosen = flags
unary_flags _ flags chosen = chosen
