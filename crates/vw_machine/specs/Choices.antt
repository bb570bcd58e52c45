-- What a choice stands for.
use Rattle.std.specs.Prelude.{ℕ, ◌/◌, ◌%◌, ◌^◌, ◌==◌, Bool, slice_index}
use Rattle.std.proofs.Common.{lit<}
use Rattle.std.proofs.Math.Nat.{mod-lt}
use Rattle.vw_insn.specs.Words.{Flags}
use Rattle.vw_insn.specs.Effect.{Open}
use Rattle.vw_machine.specs.declared.choice.Choice.{Choice}

-- The word at a place of a choice. Where it has none there, as at each place from 10 on, it is 0.
abbrev pub number_of : Choice → ℕ → ℕ
number_of choice i = slice_index choice.numbers i % 2 ^ 64

-- bit k of a number
abbrev pub bit_of : ℕ → ℕ → Bool
bit_of n k = n / 2 ^ k % 2 == 1

-- the flags that a number has in bits 0 to 4: CF, PF, ZF, SF, OF
abbrev pub flags_in : ℕ → Flags
flags_in n = record { carry = bit_of n 0; parity = bit_of n 1; is_zero = bit_of n 2; sign = bit_of n 3; overflow = bit_of n 4 }

-- what an instruction takes of a choice
abbrev pub open_of : Choice → Open
open_of choice = record {
  numbers = number_of choice;
  are_words = λ i. mod-lt (slice_index choice.numbers i) (lit< tt);
  flags = flags_in choice.flags;
}
