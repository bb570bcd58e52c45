-- What is left when the search has passed a choice.
use Rattle.std.proofs.Common.{◌≡◌, ◌⊎◌, ℕ, ◌+◌, ◌<◌, ◌≤◌, ◌==◌, Bool, true, false, not, ◌&&◌, Option, None, Some, IfSome, refl, sym, ◌∙◌, subst, arith, inl, inr}
use Rattle.std.proofs.lemmas.Bool.{cases_lt, false≢true}
use Rattle.vw_insn.specs.declared.registers.Width.{Width}
use Rattle.vw_insn.specs.declared.instruction.Insn.{Insn}
use Rattle.vw_rows.specs.declared.patterns.Prefix.{Prefix}
use Rattle.vw_rows.specs.declared.forms.Row.{Row}
use Rattle.vw_rows.specs.Parts.{Modrm, Parts, mode, rm, rex_w}
use Rattle.vw_rows.specs.Layout.{width_at, has_modrm, takes_sib, has_sib, IsModrm, IsLaid}
use Rattle.vw_rows.specs.Meaning.{built, insn_of}
use Rattle.vw_encode.specs.declared.candidate.Choice.{Choice}
use Rattle.vw_encode.specs.search.Asked.{operands_asked}
use Rattle.vw_encode.specs.Order.{mode_of, scale_in, scale_of}
use Rattle.vw_encode.specs.search.Normal.{Normal, IsChosen, Without, is_lean, shape_asked}
use Rattle.vw_rows.proofs.Bytes.{OptionalBytes, part_bytes}
use Rattle.vw_encode.proofs.Facts.{mode_below, scale_below}
use Rattle.vw_encode.specs.search.Candidate.{candidate}
use Rattle.vw_encode.proofs.Told.{may_be}
use Rattle.vw_encode.proofs.Candidates.{candidate_again}

abbrev some : {A : Type 0} → A → Option A
some = Some

some_is : {A : Type 0} (x y : A) → some x ≡ some y → x ≡ y
some_is x y e = cc

pub same_width : (p : Parts) (row : Row) (insn : Insn) (prefix : Prefix) (rex : Option ℕ) (w : Width) (n : Normal p row insn) → p.prefix ≡ prefix → p.rex ≡ rex → width_at row.width prefix (rex_w rex) ≡ Some w → n.width ≡ w
same_width p row insn prefix rex w n e d h =
    let here : width_at row.width prefix (rex_w rex) ≡ Some n.width = subst (λ (x : Prefix). width_at row.width x (rex_w rex) ≡ Some n.width) e (subst (λ (x : Option ℕ). width_at row.width p.prefix (rex_w x) ≡ Some n.width) d n.laid.width) in
    some_is n.width w (sym here ∙ h)

pub not_built : (row : Row) (insn : Insn) (prefix : Prefix) (rex : Option ℕ) (w : Width) → width_at row.width prefix (rex_w rex) ≡ Some w → (built row.kind row.immediate (shape_asked w (operands_asked insn)) ≡ insn → ⊥) → Without row insn (λ p. (p.prefix ≡ prefix) × (p.rex ≡ rex))
not_built row insn prefix rex w h miss p n at =
    let e = same_width p row insn prefix rex w n at.0 at.1 h in
    miss (subst (λ (v : Width). built row.kind row.immediate (shape_asked v (operands_asked insn)) ≡ insn) e (may_be row n.width p insn n.meant))

no_less : (o : Option ℕ) → IfSome o (λ s. s < 0) → o ≡ None
no_less None h = refl
no_less (Some s) h = absurd (omega arith)

-- no register, no memory without SIB
pub no_sib : (row : Row) (insn : Insn) (c : Choice) → c.mode ≡ 3 → c.scale ≡ None → Without row insn (λ p. IsChosen p c) → Without row insn (λ p. (p.prefix ≡ c.prefix) × (p.rex ≡ c.rex) × (scale_of p.modrm ≡ c.scale) × (mode_of p.modrm < 3))
    → Without row insn (λ p. (p.prefix ≡ c.prefix) × (p.rex ≡ c.rex) × IfSome (scale_of p.modrm) (λ s. s < 0))
no_sib row insn c three none register memory p n at =
    let without : scale_of p.modrm ≡ c.scale = no_less (scale_of p.modrm) at.2 ∙ sym none in
    elim (cases_lt (mode_of p.modrm) 3) [
      | inl lt ↦ memory p n (at.0, at.1, without, lt)
      | inr le ↦ (let four = mode_below p row insn n in
          let is : mode_of p.modrm ≡ 3 = omega arith in
          register p n (record { prefix = at.0; rex = at.1; mode = is ∙ sym three; scale = without }))
    ]

less_or_is : (o : Option ℕ) (n : ℕ) → IfSome o (λ s. s < n + 1) → IfSome o (λ s. s < n) ⊎ (o ≡ Some n)
less_or_is None n h = inl tt
less_or_is (Some s) n h = elim (cases_lt s n) [
  | inl lt ↦ inl lt
  | inr le ↦ inr (let e : s ≡ n = omega arith in rw e refl)
]

-- a SIB stands behind memory alone
sib_in_memory : (byte : ℕ) → byte < 256 → takes_sib byte ≡ true → mode byte < 3
sib_in_memory byte lt h = elim (cases_lt (mode byte) 3) [
  | inl less ↦ less
  | inr le ↦ absurd (let is : mode byte ≡ 3 = omega arith in false≢true (subst (λ (n : ℕ). (not (n == 3) && (rm byte == 4)) ≡ true) is h))
]

with_sib_at : (is : Bool) (o : Option Modrm) (n : ℕ) → IsModrm is o → OptionalBytes o → scale_of o ≡ Some n → mode_of o < 3
with_sib_at is None n laid h e = absurd cc
with_sib_at false (Some m) n laid h e = absurd laid
with_sib_at true (Some m) n laid h e = sib_in_memory m.byte h.byte (sym laid.sib ∙ has_some m.sib e)
  where
    has_some : (s : Option ℕ) → scale_in s ≡ Some n → has_sib s ≡ true
    has_some None e = absurd cc
    has_some (Some b) e = refl

pub with_sib : (p : Parts) (row : Row) (insn : Insn) (scale : ℕ) → Normal p row insn → scale_of p.modrm ≡ Some scale → mode_of p.modrm < 3
with_sib p row insn scale n e = with_sib_at (has_modrm row.operands) p.modrm scale n.laid.modrm (part_bytes p n.are_bytes).fields e

-- one scale more
pub one_scale : (row : Row) (insn : Insn) (prefix : Prefix) (rex : Option ℕ) (scale : ℕ) → Without row insn (λ p. (p.prefix ≡ prefix) × (p.rex ≡ rex) × (scale_of p.modrm ≡ Some scale) × (mode_of p.modrm < 3))
    → Without row insn (λ p. (p.prefix ≡ prefix) × (p.rex ≡ rex) × IfSome (scale_of p.modrm) (λ s. s < scale)) → Without row insn (λ p. (p.prefix ≡ prefix) × (p.rex ≡ rex) × IfSome (scale_of p.modrm) (λ s. s < scale + 1))
one_scale row insn prefix rex scale here before p n at = elim (less_or_is (scale_of p.modrm) scale at.2) [
  | inl lt ↦ before p n (at.0, at.1, lt)
  | inr is ↦ here p n (at.0, at.1, is, with_sib p row insn scale n is)
]

-- a REX that the row does not read is in no normal spelling
pub not_lean : (row : Row) (insn : Insn) (prefix : Prefix) (bits : ℕ) → is_lean row (Some bits) ≡ false → Without row insn (λ p. (p.prefix ≡ prefix) × (p.rex ≡ Some bits))
not_lean row insn prefix bits miss p n at = (let lean : is_lean row (Some bits) ≡ true = subst (λ (o : Option ℕ). is_lean row o ≡ true) at.1 n.lean in false≢true (sym miss ∙ lean))

-- all scales
pub all_scales : (row : Row) (insn : Insn) (prefix : Prefix) (rex : Option ℕ) (scale : ℕ) → 4 ≤ scale → Without row insn (λ p. (p.prefix ≡ prefix) × (p.rex ≡ rex) × IfSome (scale_of p.modrm) (λ s. s < scale)) → Without row insn (λ p. (p.prefix ≡ prefix) × (p.rex ≡ rex))
all_scales row insn prefix rex scale le before p n at = before p n (at.0, at.1, within (scale_of p.modrm) scale le (scale_below p row insn n))
  where
    within : (o : Option ℕ) (n : ℕ) → 4 ≤ n → IfSome o (λ s. s < 4) → IfSome o (λ s. s < n)
    within None n le h = tt
    within (Some s) n le h = omega arith

no_bits : (o : Option ℕ) → IfSome o (λ s. s < 0) → o ≡ None
no_bits = no_less

-- no REX
pub no_rex : (row : Row) (insn : Insn) (prefix : Prefix) → Without row insn (λ p. (p.prefix ≡ prefix) × (p.rex ≡ None)) → Without row insn (λ p. (p.prefix ≡ prefix) × IfSome p.rex (λ b. b < 0))
no_rex row insn prefix none p n at = none p n (at.0, no_less p.rex at.1)

pub one_rex : (row : Row) (insn : Insn) (prefix : Prefix) (bits : ℕ) → Without row insn (λ p. (p.prefix ≡ prefix) × (p.rex ≡ Some bits)) → Without row insn (λ p. (p.prefix ≡ prefix) × IfSome p.rex (λ b. b < bits)) → Without row insn (λ p. (p.prefix ≡ prefix) × IfSome p.rex (λ b. b < bits + 1))
one_rex row insn prefix bits here before p n at = elim (less_or_is p.rex bits at.1) [
  | inl lt ↦ before p n (at.0, lt)
  | inr is ↦ here p n (at.0, is)
]

pub all_rex : (row : Row) (insn : Insn) (prefix : Prefix) (bits : ℕ) → 16 ≤ bits → Without row insn (λ p. (p.prefix ≡ prefix) × IfSome p.rex (λ b. b < bits)) → Without row insn (λ p. p.prefix ≡ prefix)
all_rex row insn prefix bits le before p n at = before p n (at, within p.rex bits le n.laid.rex)
  where
    within : (o : Option ℕ) (n : ℕ) → 16 ≤ n → IfSome o (λ s. s < 16) → IfSome o (λ s. s < n)
    within None n le h = tt
    within (Some s) n le h = omega arith

-- a candidate that is not spelled
pub attempt_fails : (made : Parts) (row : Row) (w : Width) (insn : Insn) (c : Choice) → width_at row.width c.prefix (rex_w c.rex) ≡ Some w → made ≡ candidate row w c (operands_asked insn) → (IsLaid made row w → insn_of row w made ≡ insn → ⊥) → Without row insn (λ p. IsChosen p c)
attempt_fails made row w insn c width is miss p n at =
    let e : n.width ≡ w = same_width p row insn c.prefix c.rex w n at.prefix at.rex width in
    let same : p ≡ made = sym (subst (λ (v : Width). candidate row v c (operands_asked insn) ≡ p) e (candidate_again p row insn n c at)) ∙ sym is in
    miss (subst (λ (q : Parts). IsLaid q row w) same (subst (λ (v : Width). IsLaid p row v) e n.laid)) (subst (λ (q : Parts). insn_of row w q ≡ insn) same (subst (λ (v : Width). insn_of row v p ≡ insn) e n.meant))
