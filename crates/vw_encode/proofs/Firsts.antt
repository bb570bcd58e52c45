-- The first of the spellings by a row.
use Rattle.std.proofs.Common.{◌≡◌, ◌⊎◌, ℕ, zero, suc, ◌+◌, ◌<◌, ◌≤◌, ◌==◌, Bool, true, false, Option, None, Some, IfSome, refl, sym, ◌∙◌, ap, subst, arith, inl, inr}
use Rattle.std.proofs.lemmas.Bool.{cases_Bool, cases_lt}
use Rattle.vw_insn.specs.declared.registers.Width.{Width}
use Rattle.vw_insn.specs.declared.operands.Mem.{Mem}
use Rattle.vw_insn.specs.declared.operands.Base.{Base}
use Rattle.vw_insn.specs.declared.operands.Base.TheVariants as base
use Rattle.vw_insn.specs.declared.registers.Reg.{Reg}
use Rattle.vw_insn.specs.declared.instruction.Insn.{Insn}
use Rattle.vw_rows.specs.declared.patterns.Prefix.{Prefix}
use Rattle.vw_rows.specs.declared.patterns.Prefix.TheVariants.{Plain, P66}
use Rattle.vw_rows.specs.declared.patterns.Prefixes.{Prefixes}
use Rattle.vw_rows.specs.declared.patterns.Prefixes.TheVariants as pre
use Rattle.vw_rows.specs.Lookup.{takes_prefix}
use Rattle.vw_encode.proofs.Rows.{only_prefix, none_or_66}
use Rattle.vw_rows.specs.declared.forms.Operands.{Operands}
use Rattle.vw_rows.specs.declared.forms.Operands.TheVariants as ops
use Rattle.vw_rows.specs.declared.forms.Row.{Row}
use Rattle.vw_rows.specs.Parts.{Parts, mode, scale, rex_w}
use Rattle.vw_rows.specs.Layout.{has_modrm, width_at}
use Rattle.vw_encode.specs.declared.asked.Asked.{Asked}
use Rattle.vw_encode.specs.declared.buffer.Spelled.{Spelled}
use Rattle.vw_encode.specs.declared.candidate.Choice.{Choice}
use Rattle.vw_encode.specs.search.Asked.{operands_asked}
use Rattle.vw_encode.specs.search.Candidate.{operand_number, operand_memory, digit_or_zero, reg_field, base_field, index_field, rm_in_memory, rm_field, modrm_byte, sib_field, modrm_candidate, optional_modrm, candidate}
use Rattle.vw_encode.specs.search.Normal.{Normal, IsChosen, Without}
use Rattle.vw_encode.specs.Order.{mode_of, scale_in, scale_of, prefix_rank, rank_of, mode_rank, PartsBefore}
use Rattle.vw_encode.specs.search.Found.{Made, AtMost, FirstOf}
use Rattle.vw_encode.proofs.Excluded.{same_width, with_sib}
use Rattle.vw_encode.proofs.Facts.{mode_below}
use Rattle.vw_encode.proofs.Candidates.{candidate_again}

-- ---- a candidate is as chosen

digit_octal : (d : Option ℕ) → digit_or_zero d < 8
digit_octal None = omega arith
digit_octal (Some n) = omega arith

reg_octal : (o : Operands) (d : Option ℕ) (a : Asked) → reg_field o d a < 8
reg_octal ops.None d a = digit_octal d
reg_octal ops.EG d a = omega arith
reg_octal ops.GE d a = omega arith
reg_octal ops.Accumulator d a = digit_octal d
reg_octal ops.E d a = digit_octal d
reg_octal ops.OpcodeReg d a = digit_octal d
reg_octal ops.WithoutRexB d a = digit_octal d
reg_octal ops.EndsInFa d a = digit_octal d
reg_octal ops.Xmm d a = omega arith

base_octal : (b : Base) → base_field b < 8
base_octal (base.Reg r) = omega arith
base_octal base.None = omega arith
base_octal base.Rip = omega arith

memory_octal : (s : Option ℕ) (mem : Mem) → rm_in_memory s mem < 8
memory_octal None mem = base_octal mem.base
memory_octal (Some n) mem = omega arith

rm_octal : (m : ℕ) (s : Option ℕ) (n : ℕ) (mem : Mem) → rm_field m s n mem < 8
rm_octal m s n mem = elim (cases_Bool (m == 3)) [
  | inl hit ↦ rw hit (omega arith)
  | inr miss ↦ rw miss (memory_octal s mem)
]

mode_made : (row : Row) (c : Choice) (a : Asked) → mode (modrm_byte row c a) ≡ c.mode
mode_made row c a =
    let one = reg_octal row.operands row.pattern.digit a in
    let two = rm_octal c.mode c.scale (operand_number row.operands a) (operand_memory row.operands a) in
    omega arith

index_octal : (mem : Mem) → index_field mem.index < 8
index_octal mem = index_in mem.index
  where
    index_in : (i : Option (Reg × ℕ)) → index_field i < 8
    index_in None = omega arith
    index_in (Some i) = omega arith

scale_made : (s : Option ℕ) (mem : Mem) → rank_of (scale_in (sib_field s mem)) ≡ rank_of s
scale_made None mem = refl
scale_made (Some s) mem =
    let one = index_octal mem in
    let two = base_octal mem.base in
    omega arith

scale_most : (is : Bool) (row : Row) (c : Choice) (a : Asked) → rank_of (scale_of (optional_modrm is (modrm_candidate (modrm_byte row c a) (sib_field c.scale (operand_memory row.operands a)) (operand_memory row.operands a)))) ≤ rank_of c.scale
scale_most false row c a = omega arith
scale_most true row c a = omega (arith, scale_made c.scale (operand_memory row.operands a))

mode_most : (is : Bool) (row : Row) (c : Choice) (a : Asked) → mode_rank (mode_of (optional_modrm is (modrm_candidate (modrm_byte row c a) (sib_field c.scale (operand_memory row.operands a)) (operand_memory row.operands a)))) ≤ mode_rank c.mode
mode_most false row c a = omega arith
mode_most true row c a = rw (mode_made row c a) (omega arith)

at_most : (made : Parts) (row : Row) (w : Width) (c : Choice) (a : Asked) → made ≡ candidate row w c a → AtMost made c
at_most made row w c a e = subst (λ (q : Parts). AtMost q c) (sym e) (record { prefix = refl; rex = refl; scale = scale_most (has_modrm row.operands) row c a; mode = mode_most (has_modrm row.operands) row c a })

pub first_at : (made : Parts) (row : Row) (w : Width) (insn : Insn) (c : Choice) → width_at row.width c.prefix (rex_w c.rex) ≡ Some w → made ≡ candidate row w c (operands_asked insn) → (s : Spelled) → Made s made row w insn → FirstOf s row insn (λ q. AtMost q c) (λ p. IsChosen p c)
first_at made row w insn c width is s m = record {
  parts = made;
  width = w;
  made = m;
  at = at_most made row w c (operands_asked insn) is;
  first = λ p n at. inl (
      let e : n.width ≡ w = same_width p row insn c.prefix c.rex w n at.prefix at.rex width in
      sym (subst (λ (v : Width). candidate row v c (operands_asked insn) ≡ p) e (candidate_again p row insn n c at)) ∙ sym is);
}

-- ---- of two choices the earlier one

before_by_prefix : (p q : Parts) → prefix_rank p.prefix < prefix_rank q.prefix → PartsBefore p q
before_by_prefix p q lt = inl lt

before_by_rex : (p q : Parts) → p.prefix ≡ q.prefix → rank_of p.rex < rank_of q.rex → PartsBefore p q
before_by_rex p q e lt = inr (ap prefix_rank e, inl lt)

before_by_scale : (p q : Parts) → p.prefix ≡ q.prefix → p.rex ≡ q.rex → rank_of (scale_of p.modrm) < rank_of (scale_of q.modrm) → PartsBefore p q
before_by_scale p q e d lt = inr (ap prefix_rank e, inr (ap rank_of d, inl lt))

before_by_mode : (p q : Parts) → p.prefix ≡ q.prefix → p.rex ≡ q.rex → rank_of (scale_of p.modrm) ≤ rank_of (scale_of q.modrm) → mode_rank (mode_of p.modrm) < mode_rank (mode_of q.modrm) → PartsBefore p q
before_by_mode p q e d le lt = elim (cases_lt (rank_of (scale_of p.modrm)) (rank_of (scale_of q.modrm))) [
  | inl less ↦ before_by_scale p q e d less
  | inr same ↦ inr (ap prefix_rank e, inr (ap rank_of d, inr (omega arith, inl lt)))
]

low_mode : (m : ℕ) → m < 3 → mode_rank m ≡ m + 1
low_mode zero lt = refl
low_mode (suc zero) lt = refl
low_mode (suc (suc zero)) lt = refl
low_mode (suc (suc (suc n))) lt = absurd (omega arith)

abbrev with_mode : Choice → ℕ → Choice
with_mode c mode = record { prefix = c.prefix; rex = c.rex; mode = mode; scale = c.scale }

pub first_mode : (s : Spelled) (row : Row) (insn : Insn) (c : Choice) (mode : ℕ) → mode < 3 → FirstOf s row insn (λ q. AtMost q (with_mode c mode)) (λ p. IsChosen p (with_mode c mode)) → Without row insn (λ p. (p.prefix ≡ c.prefix) × (p.rex ≡ c.rex) × (scale_of p.modrm ≡ c.scale) × (mode_of p.modrm < mode))
    → FirstOf s row insn (λ q. (q.prefix ≡ c.prefix) × (q.rex ≡ c.rex) × (rank_of (scale_of q.modrm) ≤ rank_of c.scale)) (λ p. (p.prefix ≡ c.prefix) × (p.rex ≡ c.rex) × (scale_of p.modrm ≡ c.scale) × (mode_of p.modrm < 3))
first_mode s row insn c mode lt f before = record {
  parts = f.parts;
  width = f.width;
  made = f.made;
  at = (f.at.prefix, f.at.rex, f.at.scale);
  first = λ p n at. elim (cases_lt (mode_of p.modrm) mode) [
    | inl less ↦ absurd (before p n (at.0, at.1, at.2, less))
    | inr le ↦ elim (cases_lt mode (mode_of p.modrm)) [
      | inl more ↦ inr (
          let one = low_mode (mode_of p.modrm) at.3 in
          let two = low_mode mode lt in
          let scales : rank_of (scale_of f.parts.modrm) ≤ rank_of (scale_of p.modrm) = rw at.2 f.at.scale in
          before_by_mode f.parts p (f.at.prefix ∙ sym at.0) (f.at.rex ∙ sym at.1) scales (omega (arith, f.at.mode)))
      | inr ge ↦ f.first p n (record { prefix = at.0; rex = at.1; mode = omega arith; scale = at.2 })
    ]
  ];
}

scale_cases : (o : Option ℕ) → (o ≡ None) ⊎ (0 < rank_of o)
scale_cases None = inl refl
scale_cases (Some n) = inr (omega arith)

-- a register comes first
pub first_register : (s : Spelled) (row : Row) (insn : Insn) (c : Choice) → c.mode ≡ 3 → c.scale ≡ None → FirstOf s row insn (λ q. AtMost q c) (λ p. IsChosen p c) → FirstOf s row insn (λ q. (q.prefix ≡ c.prefix) × (q.rex ≡ c.rex)) (λ p. (p.prefix ≡ c.prefix) × (p.rex ≡ c.rex))
first_register s row insn c three none f = record {
  parts = f.parts;
  width = f.width;
  made = f.made;
  at = (f.at.prefix, f.at.rex);
  first = λ p n at.
      let low : rank_of (scale_of f.parts.modrm) ≤ 0 = subst (λ (m : Option ℕ). rank_of (scale_of f.parts.modrm) ≤ rank_of m) none f.at.scale in
      let least : mode_rank (mode_of f.parts.modrm) ≤ 0 = subst (λ (m : ℕ). mode_rank (mode_of f.parts.modrm) ≤ mode_rank m) three f.at.mode in
      elim (cases_lt (mode_of p.modrm) 3) [
        | inl less ↦ inr (
            let one = low_mode (mode_of p.modrm) less in
            before_by_mode f.parts p (f.at.prefix ∙ sym at.0) (f.at.rex ∙ sym at.1) (omega arith) (omega arith))
        | inr le ↦ register_at p n at low le
      ];
}
  where
    register_at : (p : Parts) (n : Normal p row insn) (at : (p.prefix ≡ c.prefix) × (p.rex ≡ c.rex)) → rank_of (scale_of f.parts.modrm) ≤ 0 → 3 ≤ mode_of p.modrm → (p ≡ f.parts) ⊎ PartsBefore f.parts p
    register_at p n at low le = elim (scale_cases (scale_of p.modrm)) [
      | inl is ↦ (let four = mode_below p row insn n in
          let same : mode_of p.modrm ≡ 3 = omega arith in f.first p n (record { prefix = at.0; rex = at.1; mode = same ∙ sym three; scale = is ∙ sym none }))
      | inr k ↦ inr (before_by_scale f.parts p (f.at.prefix ∙ sym at.0) (f.at.rex ∙ sym at.1) (omega arith))
    ]

abbrev AtScale : Prefix → Option ℕ → Option ℕ → Parts → Type 0
AtScale prefix rex scale p = (p.prefix ≡ prefix) × (p.rex ≡ rex) × (scale_of p.modrm ≡ scale) × (mode_of p.modrm < 3)

abbrev ToScale : Prefix → Option ℕ → Option ℕ → Parts → Type 0
ToScale prefix rex scale q = (q.prefix ≡ prefix) × (q.rex ≡ rex) × (rank_of (scale_of q.modrm) ≤ rank_of scale)

abbrev AtRex : Prefix → Option ℕ → Parts → Type 0
AtRex prefix rex p = (p.prefix ≡ prefix) × (p.rex ≡ rex)

-- then memory without SIB
pub first_plain : (s : Spelled) (row : Row) (insn : Insn) (c : Choice) → c.mode ≡ 3 → c.scale ≡ None → Without row insn (λ p. IsChosen p c) → FirstOf s row insn (ToScale c.prefix c.rex c.scale) (AtScale c.prefix c.rex c.scale) → FirstOf s row insn (AtRex c.prefix c.rex) (AtRex c.prefix c.rex)
first_plain s row insn c three none register f = record {
  parts = f.parts;
  width = f.width;
  made = f.made;
  at = (f.at.0, f.at.1);
  first = λ p n at.
      let low : rank_of (scale_of f.parts.modrm) ≤ 0 = subst (λ (m : Option ℕ). rank_of (scale_of f.parts.modrm) ≤ rank_of m) none f.at.2 in
      elim (scale_cases (scale_of p.modrm)) [
        | inl is ↦ plain_at p n at is
        | inr k ↦ inr (before_by_scale f.parts p (f.at.0 ∙ sym at.0) (f.at.1 ∙ sym at.1) (omega arith))
      ];
}
  where
    plain_at : (p : Parts) (n : Normal p row insn) (at : AtRex c.prefix c.rex p) → scale_of p.modrm ≡ None → (p ≡ f.parts) ⊎ PartsBefore f.parts p
    plain_at p n at is = elim (cases_lt (mode_of p.modrm) 3) [
      | inl less ↦ f.first p n (at.0, at.1, is ∙ sym none, less)
      | inr le ↦ (let four = mode_below p row insn n in
          let same : mode_of p.modrm ≡ 3 = omega arith in absurd (register p n (record { prefix = at.0; rex = at.1; mode = same ∙ sym three; scale = is ∙ sym none })))
    ]

order_of : (o : Option ℕ) (k : ℕ) → IfSome o (λ n. n < k) ⊎ (o ≡ Some k) ⊎ (k + 1 < rank_of o)
order_of None k = inl tt
order_of (Some n) k = elim (cases_lt n k) [
  | inl less ↦ inl less
  | inr le ↦ elim (cases_lt k n) [
    | inl more ↦ inr (inr (omega arith))
    | inr ge ↦ inr (inl (let e : n ≡ k = omega arith in rw e refl))
  ]
]

-- then the least scale
pub first_scale : (s : Spelled) (row : Row) (insn : Insn) (prefix : Prefix) (rex : Option ℕ) (k : ℕ) → Without row insn (λ p. (p.prefix ≡ prefix) × (p.rex ≡ rex) × IfSome (scale_of p.modrm) (λ n. n < k)) → FirstOf s row insn (ToScale prefix rex (Some k)) (AtScale prefix rex (Some k)) → FirstOf s row insn (AtRex prefix rex) (AtRex prefix rex)
first_scale s row insn prefix rex k before f = record {
  parts = f.parts;
  width = f.width;
  made = f.made;
  at = (f.at.0, f.at.1);
  first = λ p n at. elim (order_of (scale_of p.modrm) k) [
    | inl less ↦ absurd (before p n (at.0, at.1, less))
    | inr other ↦ elim other [
      | inl is ↦ f.first p n (at.0, at.1, is, with_sib p row insn k n is)
      | inr more ↦ inr (let most = f.at.2 in before_by_scale f.parts p (f.at.0 ∙ sym at.0) (f.at.1 ∙ sym at.1) (omega arith))
    ]
  ];
}

-- without REX, and with the least bits of REX
pub first_rex : (s : Spelled) (row : Row) (insn : Insn) (prefix : Prefix) (k : ℕ) → Without row insn (λ p. (p.prefix ≡ prefix) × IfSome p.rex (λ n. n < k)) → FirstOf s row insn (AtRex prefix (Some k)) (AtRex prefix (Some k)) → FirstOf s row insn (λ q. q.prefix ≡ prefix) (λ p. p.prefix ≡ prefix)
first_rex s row insn prefix k before f = record {
  parts = f.parts;
  width = f.width;
  made = f.made;
  at = f.at.0;
  first = λ p n at. elim (order_of p.rex k) [
    | inl less ↦ absurd (before p n (at, less))
    | inr other ↦ elim other [
      | inl is ↦ f.first p n (at, is)
      | inr more ↦ inr (let own : rank_of f.parts.rex ≡ k + 1 = ap rank_of f.at.1 in before_by_rex f.parts p (f.at.0 ∙ sym at) (omega arith))
    ]
  ];
}

pub first_no_rex : (s : Spelled) (row : Row) (insn : Insn) (prefix : Prefix) → FirstOf s row insn (AtRex prefix None) (AtRex prefix None) → FirstOf s row insn (λ q. q.prefix ≡ prefix) (λ p. p.prefix ≡ prefix)
first_no_rex s row insn prefix f = record {
  parts = f.parts;
  width = f.width;
  made = f.made;
  at = f.at.0;
  first = λ p n at. elim (scale_cases p.rex) [
    | inl is ↦ f.first p n (at, is)
    | inr more ↦ inr (let own : rank_of f.parts.rex ≡ 0 = ap rank_of f.at.1 in before_by_rex f.parts p (f.at.0 ∙ sym at) (omega arith))
  ];
}

abbrev Always : Parts → Type 0
Always p = Unit {0}

-- of a row with one prefix, and of one with 66 or none
pub first_prefix : (row : Row) (insn : Insn) (ps : Prefixes) (prefix : Prefix) → row.pattern.prefixes ≡ ps → ((q : Prefix) → takes_prefix ps q ≡ true → q ≡ prefix) → (s : Spelled) → FirstOf s row insn (λ q. q.prefix ≡ prefix) (λ p. p.prefix ≡ prefix) → FirstOf s row insn Always Always
first_prefix row insn ps prefix e only s f = record {
  parts = f.parts;
  width = f.width;
  made = f.made;
  at = tt;
  first = λ p n at. f.first p n (only_prefix row insn ps prefix e only p n);
}

pub first_without_66 : (row : Row) (insn : Insn) → row.pattern.prefixes ≡ pre.PlainOr66 → (s : Spelled) → FirstOf s row insn (λ q. q.prefix ≡ Plain) (λ p. p.prefix ≡ Plain) → FirstOf s row insn Always Always
first_without_66 row insn e s f = record {
  parts = f.parts;
  width = f.width;
  made = f.made;
  at = tt;
  first = λ p n at. elim (none_or_66 row insn e p n) [
    | inl is ↦ f.first p n is
    | inr is ↦ inr (let own : prefix_rank f.parts.prefix ≡ 0 = ap prefix_rank f.at in
        let other : prefix_rank p.prefix ≡ 1 = ap prefix_rank is in before_by_prefix f.parts p (omega arith))
  ];
}

pub first_with_66 : (row : Row) (insn : Insn) → row.pattern.prefixes ≡ pre.PlainOr66 → Without row insn (λ p. p.prefix ≡ Plain) → (s : Spelled) → FirstOf s row insn (λ q. q.prefix ≡ P66) (λ p. p.prefix ≡ P66) → FirstOf s row insn Always Always
first_with_66 row insn e plain s f = record {
  parts = f.parts;
  width = f.width;
  made = f.made;
  at = tt;
  first = λ p n at. elim (none_or_66 row insn e p n) [
    | inl is ↦ absurd (plain p n is)
    | inr is ↦ f.first p n is
  ];
}
