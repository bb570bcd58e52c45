-- Lists of bytes, and the bytes of an instruction's parts.
use Rattle.std.proofs.Common.{ℕ, zero, suc, ◌+◌, ◌*◌, ◌^◌, ◌<◌, List, [], ◌∷◌, ◌++◌, take}
use Rattle.std.proofs.Common.{Option, None, Some, IfSome}
use Rattle.std.proofs.Common.{arith, inl, inr}
use Rattle.std.proofs.lemmas.Bool.{cases_lt}
use Rattle.std.proofs.lemmas.List.{length-take, get_or-take, get_or_past}
use Rattle.vw_rows.specs.Numbers.{IsBytes, unsigned_of}
use Rattle.vw_rows.specs.Parts.{Modrm, Parts, bytes_of}
use Rattle.vw_rows.specs.Parts.{prefix_bytes, rex_bytes, opcode_bytes, sib_bytes, modrm_bytes}

pub no_bytes : IsBytes []
no_bytes i = omega arith

pub one_more_byte : (b : ℕ) (bytes : List ℕ) → b < 256 → IsBytes bytes → IsBytes (b ∷ bytes)
one_more_byte b bytes lt h zero = lt
one_more_byte b bytes lt h (suc i) = h i

pub both_bytes : (front rest : List ℕ) → IsBytes front → IsBytes rest → IsBytes (front ++ rest)
both_bytes [] rest h g = g
both_bytes (b ∷ bs) rest h g =
    one_more_byte b (bs ++ rest) (h 0) (both_bytes bs rest (λ j. h (suc j)) g)

pub right_bytes : (front rest : List ℕ) → IsBytes (front ++ rest) → IsBytes rest
right_bytes [] rest h = h
right_bytes (b ∷ bs) rest h = right_bytes bs rest (λ i. h (suc i))

pub left_bytes : (front rest : List ℕ) → IsBytes (front ++ rest) → IsBytes front
left_bytes [] rest h i = omega arith
left_bytes (b ∷ bs) rest h zero = h 0
left_bytes (b ∷ bs) rest h (suc i) = left_bytes bs rest (λ j. h (suc j)) i

pub IsBytes-take : (n : ℕ) (bytes : List ℕ) → IsBytes bytes → IsBytes (take n bytes)
IsBytes-take n bytes h i =
    elim (cases_lt i n) [
      | inl lt ↦ rw (get_or-take n bytes i 0 lt) (h i)
      | inr le ↦ (
          let past = get_or_past (take n bytes) i 0 (omega (arith, length-take n bytes)) in
          rw past (omega arith))
    ]

-- ---- the number that they are

eight_below :
    (a b c d e f g h : ℕ) → a < 256 → b < 256 → c < 256 → d < 256 → e < 256 → f < 256 → g < 256
    → h < 256
    → a + 2 ^ 8 * b + 2 ^ 16 * c + 2 ^ 24 * d + 2 ^ 32 * e + 2 ^ 40 * f + 2 ^ 48 * g + 2 ^ 56 * h
    < 2 ^ 64
eight_below a b c d e f g h la lb lc ld le lf lg lh = omega arith

-- it has 64 bits
pub unsigned_below : (bytes : List ℕ) → IsBytes bytes → unsigned_of bytes < 2 ^ 64
unsigned_below (a ∷ b ∷ c ∷ d ∷ e ∷ f ∷ g ∷ h ∷ []) are =
    eight_below a b c d e f g h (are 0) (are 1) (are 2) (are 3) (are 4) (are 5) (are 6) (are 7)
unsigned_below _ are = omega arith

-- ---- the parts

pub record ModrmBytes (m : Modrm) : Type 0 where
  pub byte : m.byte < 256
  pub sib : IfSome m.sib (λ b. b < 256)
  pub disp : IsBytes m.disp

abbrev pub OptionalBytes : Option Modrm → Type 0
OptionalBytes None = Unit {0}
OptionalBytes (Some m) = ModrmBytes m

pub record PartBytes (p : Parts) : Type 0 where
  pub prefix : IsBytes (prefix_bytes p.prefix)
  pub rex : IsBytes (rex_bytes p.rex)
  pub opcode : IsBytes (opcode_bytes p.map p.opcode)
  pub modrm : IsBytes (modrm_bytes p.modrm)
  pub fields : OptionalBytes p.modrm
  pub imm : IsBytes p.imm

sib_byte : (s : Option ℕ) (rest : List ℕ) → IsBytes (sib_bytes s ++ rest) → IfSome s (λ b. b < 256)
sib_byte None rest h = tt
sib_byte (Some b) rest h = h 0

modrm_fields : (o : Option Modrm) → IsBytes (modrm_bytes o) → OptionalBytes o
modrm_fields None h = tt
modrm_fields (Some m) h =
    let rest : IsBytes (sib_bytes m.sib ++ m.disp) = λ i. h (suc i) in
    let disp = right_bytes (sib_bytes m.sib) m.disp rest in
    record { byte = h 0; sib = sib_byte m.sib m.disp rest; disp = disp }

-- what bytes have is had by each part
pub part_bytes : (p : Parts) → IsBytes (bytes_of p) → PartBytes p
part_bytes p h =
    let operands = modrm_bytes p.modrm ++ p.imm in
    let named = opcode_bytes p.map p.opcode ++ operands in
    let a = right_bytes (prefix_bytes p.prefix) (rex_bytes p.rex ++ named) h in
    let b = right_bytes (rex_bytes p.rex) named a in
    let c = right_bytes (opcode_bytes p.map p.opcode) operands b in
    let modrm = left_bytes (modrm_bytes p.modrm) p.imm c in
    record {
      prefix = left_bytes (prefix_bytes p.prefix) (rex_bytes p.rex ++ named) h;
      rex = left_bytes (rex_bytes p.rex) named a;
      opcode = left_bytes (opcode_bytes p.map p.opcode) operands b;
      modrm = modrm;
      fields = modrm_fields p.modrm modrm;
      imm = right_bytes (modrm_bytes p.modrm) p.imm c;
    }

-- and what each part has, is had by the bytes
pub bytes_of_parts :
    (p : Parts) → IsBytes (prefix_bytes p.prefix) → IsBytes (rex_bytes p.rex)
    → IsBytes (opcode_bytes p.map p.opcode) → IsBytes (modrm_bytes p.modrm) → IsBytes p.imm
    → IsBytes (bytes_of p)
bytes_of_parts p prefix rex opcode modrm imm =
    let operands = modrm_bytes p.modrm ++ p.imm in
    let named = opcode_bytes p.map p.opcode ++ operands in
    let a = both_bytes (modrm_bytes p.modrm) p.imm modrm imm in
    let b = both_bytes (opcode_bytes p.map p.opcode) operands opcode a in
    let c = both_bytes (rex_bytes p.rex) named rex b in
    both_bytes (prefix_bytes p.prefix) (rex_bytes p.rex ++ named) prefix c
