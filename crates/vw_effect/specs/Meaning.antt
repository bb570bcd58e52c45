-- What the values of the code stand for in the definitions of what an instruction does. A list of sixteen words is the
-- registers, by number.
use Rattle.std.specs.Prelude.{◌≡◌, ℕ, ◌≤◌, Option, None, Some, List, [], ◌∷◌, slice_index}
use Rattle.std.specs.List.{AllByRecursion}
use Rattle.vw_insn.specs.declared.instruction.Insn.{Insn}
use Rattle.vw_insn.specs.declared.instruction.Insn.TheVariants as insn
use Rattle.vw_insn.specs.Words.{Registers, Flags}
use Rattle.vw_insn.specs.Effect as meaning
use Rattle.vw_effect.specs.declared.status.Flags as status
use Rattle.vw_effect.specs.declared.accesses.Access as access
use Rattle.vw_effect.specs.declared.accesses.Reads as reading
use Rattle.vw_effect.specs.declared.accesses.Reads.TheVariants as reads
use Rattle.vw_effect.specs.declared.accesses.Write as write
use Rattle.vw_effect.specs.declared.outcome.Transfer as transfer
use Rattle.vw_effect.specs.declared.outcome.Transfer.TheVariants as to
use Rattle.vw_effect.specs.declared.outcome.Open as open_part
use Rattle.vw_effect.specs.declared.outcome.After as after
use Rattle.vw_effect.specs.declared.before.Before as before
use Rattle.vw_effect.specs.declared.ways.Way as way
use Rattle.vw_effect.specs.declared.ways.Way.TheVariants as ways

abbrev pub registers_of : List ℕ → Registers
registers_of words = slice_index words

abbrev pub status_of : status.Flags → Flags
status_of f = record { carry = f.carry; parity = f.parity; is_zero = f.is_zero; sign = f.sign; overflow = f.overflow }

abbrev pub access_of : access.Access → meaning.Access
access_of a = record { at = a.at; size = a.size }

abbrev pub accesses_of : Option access.Access → List meaning.Access
accesses_of None = []
accesses_of (Some a) = access_of a ∷ []

abbrev pub reads_of : reading.Reads → List meaning.Access
reads_of reads.Nothing = []
reads_of (reads.One a) = access_of a ∷ []
reads_of (reads.Two a b) = access_of a ∷ access_of b ∷ []

abbrev pub write_of : write.Write → meaning.Write
write_of v = record { at = v.at; size = v.size; value = v.value }

abbrev pub writes_of : Option write.Write → List meaning.Write
writes_of None = []
writes_of (Some v) = write_of v ∷ []

abbrev pub transfer_of : transfer.Transfer → meaning.Transfer
transfer_of to.Next = meaning.Next
transfer_of (to.To a) = meaning.To a
transfer_of (to.Enter a) = meaning.Enter a
transfer_of (to.Back a) = meaning.Back a
transfer_of to.Stop = meaning.Stop

abbrev pub after_of : after.After → meaning.After
after_of a = record { registers = registers_of a.registers; flags = status_of a.flags; writes = writes_of a.write; transfer = transfer_of a.transfer }

abbrev pub way_of : way.Way → meaning.Way
way_of ways.Ordinary = meaning.Ordinary
way_of ways.Return = meaning.Return
way_of ways.Direct = meaning.Direct
way_of ways.Indirect = meaning.Indirect

-- the choice has the numbers and the flags that are given
pub record IsChosen (given : open_part.Open) (choice : meaning.Open) : Type 0 where
  pub first : choice.numbers 0 ≡ slice_index given.numbers 0
  pub second : choice.numbers 1 ≡ slice_index given.numbers 1
  pub flags : choice.flags ≡ status_of given.flags

-- What was read is this word; an instruction on XMM registers heeds no number that was read.
abbrev pub IsLoaded : Insn → ℕ → ℕ → Type 0
IsLoaded (insn.Xmm row wide reg rm imm) word number = Unit {0}
IsLoaded i word number = number ≡ word

-- none of the reads is of more than eight bytes, but for an instruction on XMM registers
abbrev pub AreShort : Insn → List meaning.Access → Type 0
AreShort (insn.Xmm row wide reg rm imm) accesses = Unit {0}
AreShort i accesses = AllByRecursion (λ a. a.size ≤ 8) accesses

-- what the instruction before `next` does from these registers and flags, whichever choice has what is given
abbrev pub IsEffect : Insn → ℕ → List ℕ → status.Flags → ℕ → open_part.Open → after.After → Type 0
IsEffect i next registers flags word given result =
    (number : ℕ) (choice : meaning.Open)
    → IsLoaded i word number → IsChosen given choice
    → after_of result ≡ meaning.effect i next (registers_of registers) (status_of flags) number choice

abbrev pub IsAfter : Insn → before.Before → after.After → Type 0
IsAfter i b result = IsEffect i b.next b.registers.now b.flags b.loaded b.open.now result
