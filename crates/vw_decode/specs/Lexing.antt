-- Reading an instruction from the front of a list of bytes, part by part: each function answers the part
-- and the bytes behind it, or nothing where the bytes do not begin with that part.
use Rattle.std.specs.Prelude.{ℕ, ◌-◌, ◌/◌, ◌%◌, ◌==◌, Bool, true, false, if◌then◌else◌, nat_le, Option, None, Some, List, [], ◌∷◌, length, take, drop, find}
use Rattle.vw_insn.specs.declared.registers.Width.{Width}
use Rattle.vw_insn.specs.declared.instruction.Insn.{Insn}
use Rattle.vw_rows.specs.declared.patterns.Prefix.{Prefix}
use Rattle.vw_rows.specs.declared.patterns.Prefix.TheVariants.{Plain, P66, PF2, PF3}
use Rattle.vw_rows.specs.declared.patterns.Map.{Map}
use Rattle.vw_rows.specs.declared.patterns.Map.TheVariants.{One, Two, Three}
use Rattle.vw_rows.specs.declared.forms.Row.{Row}
use Rattle.vw_rows.specs.Rows.{rows}
use Rattle.vw_rows.specs.Lookup.{key, matches}
use Rattle.vw_rows.specs.Parts.{Modrm, Parts, mode, reg, rex_w}
use Rattle.vw_rows.specs.Layout.{has_modrm, width_at, takes_sib, displacement_length, immediate_length, has_fixed}
use Rattle.vw_rows.specs.Meaning.{insn_of}

infixl 10 ◌>>=◌
abbrev pub ◌>>=◌ : {A B : Type 0} → Option A → (A → Option B) → Option B
None >>= f = None
(Some x) >>= f = f x

-- that many bytes
abbrev pub split : ℕ → List ℕ → Option (List ℕ × List ℕ)
split n bytes = if nat_le n (length bytes) then Some (take n bytes, drop n bytes) else None

abbrev pub prefix_at : List ℕ → Prefix × List ℕ
prefix_at [] = (Plain, [])
prefix_at (b ∷ bs) = if b == 0x66 then (P66, bs) else if b == 0xF2 then (PF2, bs) else if b == 0xF3 then (PF3, bs) else (Plain, b ∷ bs)

abbrev pub rex_at : List ℕ → Option ℕ × List ℕ
rex_at [] = (None, [])
rex_at (b ∷ bs) = if b / 16 == 4 then (Some (b % 16), bs) else (None, b ∷ bs)

-- behind 0F 3A
abbrev pub third_byte : List ℕ → Option (Map × ℕ × List ℕ)
third_byte [] = None
third_byte (b ∷ bs) = Some (Three, b, bs)

-- behind 0F
abbrev pub second_byte : List ℕ → Option (Map × ℕ × List ℕ)
second_byte [] = None
second_byte (b ∷ bs) = if b == 0x3A then third_byte bs else Some (Two, b, bs)

abbrev pub opcode_at : List ℕ → Option (Map × ℕ × List ℕ)
opcode_at [] = None
opcode_at (b ∷ bs) = if b == 0x0F then second_byte bs else Some (One, b, bs)

-- the first byte, and those behind it
abbrev pub first_of : List ℕ → Option (ℕ × List ℕ)
first_of [] = None
first_of (b ∷ bs) = Some (b, bs)

-- the byte that is ModRM where the row has one
abbrev pub next_of : List ℕ → ℕ
next_of [] = 0
next_of (b ∷ bs) = b

abbrev pub row_at : Prefix → Map → ℕ → List ℕ → Option Row
row_at prefix map opcode bytes = find (λ r. matches r (key prefix map opcode (reg (next_of bytes)) (mode (next_of bytes) == 3))) rows

abbrev pub sib_at : Bool → List ℕ → Option (Option ℕ × List ℕ)
sib_at false bytes = Some (None, bytes)
sib_at true [] = None
sib_at true (b ∷ bs) = Some (Some b, bs)

-- the SIB and the displacement behind a ModRM byte
abbrev pub address_at : ℕ → List ℕ → Option (Modrm × List ℕ)
address_at byte bytes =
    sib_at (takes_sib byte) bytes >>= λ sib. split (displacement_length byte sib.0) sib.1 >>= λ disp. Some (record { byte = byte; sib = sib.0; disp = disp.0 }, disp.1)

abbrev pub modrm_at : Bool → List ℕ → Option (Option Modrm × List ℕ)
modrm_at false bytes = Some (None, bytes)
modrm_at true [] = None
modrm_at true (b ∷ bs) = address_at b bs >>= λ m. Some (Some m.0, m.1)

-- what stands in front of the opcode, and the opcode
pub record Head : Type 0 where
  pub prefix : Prefix
  pub rex : Option ℕ
  pub map : Map
  pub opcode : ℕ
  pub rest : List ℕ

abbrev pub head_at : List ℕ → Option Head
head_at bytes =
    let p = prefix_at bytes in
    let r = rex_at p.1 in
    opcode_at r.1 >>= λ o. Some (record { prefix = p.0; rex = r.0; map = o.0; opcode = o.1; rest = o.2 })

-- an instruction of a row, at a width
pub record Found : Type 0 where
  pub row : Row
  pub width : Width
  pub parts : Parts
  pub rest : List ℕ

-- the instruction that was found
abbrev pub insn_found : Found → Insn
insn_found f = insn_of f.row f.width f.parts

-- how many of the bytes it has
abbrev pub length_found : List ℕ → Found → ℕ
length_found bytes f = length bytes - length f.rest

-- what stands behind the opcode of an instruction of the row
unfoldable pub tail_at : Head → Row → Option Found
tail_at h row =
    width_at row.width h.prefix (rex_w h.rex) >>= λ w. modrm_at (has_modrm row.operands) h.rest >>= λ m. split (immediate_length row.immediate w) m.1 >>= λ i.
    (let parts : Parts = record { prefix = h.prefix; rex = h.rex; map = h.map; opcode = h.opcode; modrm = m.0; imm = i.0 } in
    if has_fixed row.operands parts then Some (record { row = row; width = w; parts = parts; rest = i.1 }) else None)

unfoldable pub read : List ℕ → Option Found
read bytes = head_at bytes >>= λ h. row_at h.prefix h.map h.opcode h.rest >>= λ row. tail_at h row
