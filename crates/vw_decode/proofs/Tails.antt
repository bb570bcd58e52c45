-- What is read behind the opcode, and that it is read again.
use Rattle.std.proofs.Common.{◌≡◌, ℕ, ◌==◌, Bool, true, false, cond, List, [], ◌∷◌, ◌++◌, length, Option, Some, None, refl, sym, ◌∙◌, ap, subst, append_assoc}
use Rattle.std.proofs.lemmas.Bool.{false≢true}
use Rattle.vw_insn.specs.declared.registers.Width.{Width}
use Rattle.vw_rows.specs.declared.forms.Row.{Row}
use Rattle.vw_rows.specs.Parts.{Modrm, Parts, sib_bytes, modrm_bytes, mode, reg, rex_w}
use Rattle.vw_rows.specs.Layout.{digit_of, is_register_form, has_modrm, width_at, takes_sib, displacement_length, has_sib, IsAddress, IsModrm, immediate_length, has_fixed}
use Rattle.vw_decode.specs.Lexing.{◌>>=◌, split, next_of, sib_at, address_at, modrm_at, Head, Found, tail_at}
use Rattle.vw_decode.proofs.Binds.{bind_some, guard_some, some_is, split_takes, split_again}

-- ---- what is read is there

sib_takes : (is : Bool) (bytes : List ℕ) (s : Option ℕ × List ℕ) → sib_at is bytes ≡ Some s → (bytes ≡ sib_bytes s.0 ++ s.1) × (has_sib s.0 ≡ is)
sib_takes false bytes s e = rw (← some_is (None, bytes) s e) (refl, refl)
sib_takes true [] s e = absurd cc
sib_takes true (b ∷ bs) s e = rw (← some_is (Some b, bs) s e) (refl, refl)

record Addressed (byte : ℕ) (bytes : List ℕ) (m : Modrm) (rest : List ℕ) : Type 0 where
  there : byte ∷ bytes ≡ modrm_bytes (Some m) ++ rest
  laid : IsAddress m
  first : m.byte ≡ byte

address_takes : (byte : ℕ) (bytes : List ℕ) (m : Modrm × List ℕ) → address_at byte bytes ≡ Some m → Addressed byte bytes m.0 m.1
address_takes byte bytes m e =
    let b = bind_some (sib_at (takes_sib byte) bytes) (λ sib. split (displacement_length byte sib.0) sib.1 >>= λ disp. Some (record { byte = byte; sib = sib.0; disp = disp.0 }, disp.1)) m e in
    let s = b.0 in
    let d = bind_some (split (displacement_length byte s.0) s.1) (λ disp. Some (record { byte = byte; sib = s.0; disp = disp.0 }, disp.1)) m b.2 in
    let made : Modrm × List ℕ = (record { byte = byte; sib = s.0; disp = d.0.0 }, d.0.1) in
    let is : made ≡ m = some_is made m d.2 in
    let one = sib_takes (takes_sib byte) bytes s b.1 in
    let two = split_takes (displacement_length byte s.0) s.1 d.0 d.1 in
    let there : bytes ≡ (sib_bytes s.0 ++ d.0.0) ++ d.0.1 = one.0 ∙ (ap (λ (t : List ℕ). sib_bytes s.0 ++ t) two.0 ∙ sym (append_assoc (sib_bytes s.0) d.0.0 d.0.1)) in
    let here : Addressed byte bytes made.0 made.1 = record { there = ap (λ (t : List ℕ). byte ∷ t) there; laid = record { sib = one.1; disp = two.1 }; first = refl } in
    subst (λ (x : Modrm × List ℕ). Addressed byte bytes x.0 x.1) {x = made} is here

-- ModRM is read by its first byte
pub record Modded (is : Bool) (bytes : List ℕ) (m : Option Modrm) (rest : List ℕ) : Type 0 where
  pub there : bytes ≡ modrm_bytes m ++ rest
  pub laid : IsModrm is m
  pub digit : is ≡ true → digit_of m ≡ reg (next_of bytes)
  pub form : is ≡ true → is_register_form m ≡ (mode (next_of bytes) == 3)

modrm_takes : (is : Bool) (bytes : List ℕ) (m : Option Modrm × List ℕ) → modrm_at is bytes ≡ Some m → Modded is bytes m.0 m.1
modrm_takes false bytes m e =
    subst (λ (x : Option Modrm × List ℕ). Modded false bytes x.0 x.1) (some_is (None, bytes) m e) (record { there = refl; laid = tt; digit = λ h. absurd (false≢true h); form = λ h. absurd (false≢true h) })
modrm_takes true [] m e = absurd cc
modrm_takes true (b ∷ bs) m e =
    let d = bind_some (address_at b bs) (λ x. Some (Some x.0, x.1)) m e in
    let a = address_takes b bs d.0 d.1 in
    let made : Option Modrm × List ℕ = (Some d.0.0, d.0.1) in
    subst (λ (x : Option Modrm × List ℕ). Modded true (b ∷ bs) x.0 x.1) (some_is made m d.2)
    (record { there = a.there; laid = a.laid; digit = λ h. ap reg a.first; form = λ h. ap (λ (n : ℕ). mode n == 3) a.first })

-- the parts that the head and the tail have
abbrev pub parts_of : Head → Option Modrm → List ℕ → Parts
parts_of h m i = record { prefix = h.prefix; rex = h.rex; map = h.map; opcode = h.opcode; modrm = m; imm = i }

pub record Tailed (h : Head) (row : Row) (f : Found) : Type 0 where
  pub modrm : Option Modrm
  pub imm : List ℕ
  pub behind : List ℕ
  pub parts : f.parts ≡ parts_of h modrm imm
  pub row_is : f.row ≡ row
  pub width : width_at row.width h.prefix (rex_w h.rex) ≡ Some f.width
  pub modded : Modded (has_modrm row.operands) h.rest modrm behind
  pub there : behind ≡ imm ++ f.rest
  pub len : length imm ≡ immediate_length row.immediate f.width
  pub fixed : has_fixed row.operands (parts_of h modrm imm) ≡ true

pub tail_takes : (h : Head) (row : Row) (f : Found) → tail_at h row ≡ Some f → Tailed h row f
unfolding tail_at
tail_takes h row f e =
    let last : Width → Option Modrm → List ℕ → List ℕ → Option Found = λ w m i rest. cond (has_fixed row.operands (parts_of h m i)) (Some (record { row = row; width = w; parts = parts_of h m i; rest = rest })) None in
    let a = bind_some (width_at row.width h.prefix (rex_w h.rex)) (λ w. modrm_at (has_modrm row.operands) h.rest >>= λ m. split (immediate_length row.immediate w) m.1 >>= λ i. last w m.0 i.0 i.1) f e in
    let w = a.0 in
    let b = bind_some (modrm_at (has_modrm row.operands) h.rest) (λ m. split (immediate_length row.immediate w) m.1 >>= λ i. last w m.0 i.0 i.1) f a.2 in
    let m = b.0 in
    let c = bind_some (split (immediate_length row.immediate w) m.1) (λ i. last w m.0 i.0 i.1) f b.2 in
    let i = c.0 in
    let made : Found = record { row = row; width = w; parts = parts_of h m.0 i.0; rest = i.1 } in
    let g = guard_some (has_fixed row.operands (parts_of h m.0 i.0)) made f c.2 in
    let s = split_takes (immediate_length row.immediate w) m.1 i c.1 in
    let here : Tailed h row made = record {
      modrm = m.0;
      imm = i.0;
      behind = m.1;
      parts = refl;
      row_is = refl;
      width = a.1;
      modded = modrm_takes (has_modrm row.operands) h.rest m b.1;
      there = s.0;
      len = s.1;
      fixed = g.0;
    } in
    subst (λ (x : Found). Tailed h row x) {x = made} g.1 here

-- ---- what is there is read

sib_again : (is : Bool) (s : Option ℕ) (rest : List ℕ) → has_sib s ≡ is → sib_at is (sib_bytes s ++ rest) ≡ Some (s, rest)
sib_again true (Some b) rest h = refl
sib_again false None rest h = refl
sib_again true None rest h = absurd (false≢true h)
sib_again false (Some b) rest h = absurd (false≢true (sym h))

address_again : (m : Modrm) (rest : List ℕ) → IsAddress m → address_at m.byte ((sib_bytes m.sib ++ m.disp) ++ rest) ≡ Some (m, rest)
address_again m rest laid =
    rw (append_assoc (sib_bytes m.sib) m.disp rest, sib_again (takes_sib m.byte) m.sib (m.disp ++ rest) laid.sib, split_again (displacement_length m.byte m.sib) m.disp rest laid.disp) refl

modrm_again : (is : Bool) (m : Option Modrm) (rest : List ℕ) → IsModrm is m → modrm_at is (modrm_bytes m ++ rest) ≡ Some (m, rest)
modrm_again false None rest laid = refl
modrm_again false (Some m) rest laid = absurd laid
modrm_again true None rest laid = absurd laid
modrm_again true (Some m) rest laid = rw (address_again m rest laid) refl

pub tail_again : (h : Head) (row : Row) (w : Width) (m : Option Modrm) (i rest : List ℕ) → width_at row.width h.prefix (rex_w h.rex) ≡ Some w → IsModrm (has_modrm row.operands) m → length i ≡ immediate_length row.immediate w → has_fixed row.operands (parts_of h m i) ≡ true → h.rest ≡ modrm_bytes m ++ (i ++ rest)
    → tail_at h row ≡ Some (record { row = row; width = w; parts = parts_of h m i; rest = rest })
unfolding tail_at
tail_again h row w m i rest width laid len fixed there =
    rw (width, there, modrm_again (has_modrm row.operands) m (i ++ rest) laid, split_again (immediate_length row.immediate w) i rest len, fixed) refl
