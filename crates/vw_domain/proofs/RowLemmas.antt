-- Rows of registers: what lies behind their ends, and a row while its front is joined.
use Rattle.std.proofs.Common.{◌≡◌, ◌≢◌, ℕ, ◌+◌, ◌<◌, ◌≤◌, Bool, true, false, List, length, refl, sym, arith, get_or-set_other, get_or-set_same, below_more, inl, inr, ap, ◌∙◌, get_or}
use Rattle.std.proofs.Math.ListN.{set, get_or-eq_default}
use Rattle.std.proofs.lemmas.Bool.{cases_lt}
use Rattle.std.proofs.lemmas.List.{ext_get_or, get_or_default, set-set, set-get_or}
use Rattle.std.specs.Prelude.{◌||◌}
use Rattle.vw_lattice.specs.Order.{TellsChange}
use Rattle.vw_domain.specs.declared.registers.Register.{Register}
use Rattle.vw_domain.specs.declared.gone.Gone.{Gone}
use Rattle.vw_domain.specs.Writes.{forgotten_register, ForgetsRow}
use Rattle.vw_values.specs.Values.{IsAmong}
use Rattle.vw_domain.specs.Registers.{register_below, row_below, register_at, unknown_register, IsRowAmong, JoinsRegister, IsJoinedRow, JoinsRows}
use Rattle.vw_domain.proofs.RegisterJoins.{stays_same}

-- what holds of the first n and of those behind them holds of all
each : (P : ℕ → Type 0) (n : ℕ) → ((r : ℕ) → r < n → P r) → ((r : ℕ) → n ≤ r → P r) → (r : ℕ) → P r
each P n front behind r = elim (cases_lt r n) [ inl less ↦ front r less | inr more ↦ behind r more ]

-- nothing is known behind the last register
pub unknown_at : (row : List Register) (r : ℕ) → length row ≤ r → register_at row r ≡ unknown_register
unknown_at row r behind = get_or-eq_default row unknown_register behind

-- what an index reads of a row, through a reference and as a copy
pub read_at : (row : List Register) (i : ℕ) (v : Register) → i < length row → get_or row i v ≡ register_at row i
read_at row i v within = get_or_default row i v unknown_register within

pub element_at : (row : List Register) (i : ℕ) (v : Register) → i < length row → v ≡ get_or row i v → v ≡ register_at row i
element_at row i v within is = is ∙ read_at row i v within

pub all_below : (low high : List Register) → length low ≡ 17 → length high ≡ 17 → ((r : ℕ) → r < 17 → register_below (register_at low r) (register_at high r)) → row_below low high
all_below low high a b front =
    each (λ (r : ℕ). register_below (register_at low r) (register_at high r)) 17 front
    (λ r behind. rw (unknown_at low r (omega arith), unknown_at high r (omega arith)) (record { offset = tt; value = tt }))

pub all_among : (bounds : List ℕ) (row : List Register) → length row ≡ 17 → ((r : ℕ) → r < 17 → IsAmong bounds (register_at row r).value) → IsRowAmong bounds row
all_among bounds row a front =
    each (λ (r : ℕ). IsAmong bounds (register_at row r).value) 17 front (λ r behind. rw (unknown_at row r (omega arith)) tt)

pub all_same : (row other : List Register) → length row ≡ 17 → length other ≡ 17 → ((r : ℕ) → r < 17 → register_at row r ≡ register_at other r) → row ≡ other
all_same row other a b front = ext_get_or unknown_register row other (a ∙ sym b) (λ r within. front r (omega arith))

unknown_joins : (bounds : List ℕ) → JoinsRegister bounds unknown_register unknown_register unknown_register
unknown_joins bounds = stays_same bounds unknown_register unknown_register (record { value = tt; offset = tt }) refl

pub all_joined : (bounds : List ℕ) (left right join : List Register) → length left ≡ 17 → length right ≡ 17 → length join ≡ 17 → IsJoinedRow bounds 17 left right join → JoinsRows bounds left right join
all_joined bounds left right join a b c front = record {
  seventeen = c;
  joined = each (λ (r : ℕ). JoinsRegister bounds (register_at left r) (register_at right r) (register_at join r)) 17 front
      (λ r behind. rw (unknown_at left r (omega arith), unknown_at right r (omega arith), unknown_at join r (omega arith)) (unknown_joins bounds));
}

pub rest_step : (i : ℕ) (left row : List Register) (v : Register) → i < length row → ((r : ℕ) → i ≤ r → register_at row r ≡ register_at left r) → (r : ℕ) → i + 1 ≤ r → register_at (set row i v) r ≡ register_at left r
rest_step i left row v within rest r h =
    let other : r ≢ i = omega arith in
    rw get_or-set_other (rest r (omega arith))

module _ (bounds : List ℕ) (i : ℕ) (left right row : List Register) (v : Register) (within : i < length row) where
  pub joined_step : IsJoinedRow bounds i left right row → ((r : ℕ) → i ≤ r → register_at row r ≡ register_at left r) → JoinsRegister bounds (register_at row i) (register_at right i) v → IsJoinedRow bounds (i + 1) left right (set row i v)
  joined_step joined rest join =
      below_more _ _
      (λ r h. let other : r ≢ i = omega arith in rw get_or-set_other (joined r h))
      (rw (get_or-set_same, ← rest i (omega arith)) join)

-- ---- whether a row has changed, while its front is joined

-- a register that was as in the row before has become another, or has not
pub told_set : (i : ℕ) (left row : List Register) (v : Register) (changed raised : Bool) → i < length row → register_at row i ≡ register_at left i → TellsChange changed left row → TellsChange raised (register_at row i) v → TellsChange (changed || raised) left (set row i v)
told_set i left row v true raised within same told told_here = λ equal.
    told (sym (set-get_or row i unknown_register) ∙ sym (set-set row i v (register_at row i)) ∙ ap (λ (xs : List Register). set xs i (register_at row i)) equal ∙ ap (λ (x : Register). set left i x) same ∙ set-get_or left i unknown_register)
told_set i left row v false true within same told told_here = λ equal.
    told_here (sym (get_or-set_same row i v unknown_register within) ∙ ap (λ (xs : List Register). register_at xs i) equal ∙ sym same)
told_set i left row v false false within same told told_here =
    ap (λ (x : Register). set row i x) told_here ∙ set-get_or row i unknown_register ∙ told

pub raised_now : (changed raised now : Bool) → raised ≡ true → now ≡ true → now ≡ (changed || raised)
raised_now true raised now is now_is = now_is
raised_now false raised now is now_is = now_is ∙ sym is

pub kept_now : (changed raised now : Bool) → raised ≡ false → now ≡ changed → now ≡ (changed || raised)
kept_now true raised now is now_is = now_is
kept_now false raised now is now_is = now_is ∙ sym is

-- ---- a row in which values are forgotten, one by one

module _ (gone : Gone) (i : ℕ) (old row : List Register) (v : Register) (within : i < length row) where
  abbrev Front : ℕ → List Register → Type 0
  Front n xs = (r : ℕ) → r < n → register_at xs r ≡ forgotten_register gone (register_at old r)

  pub forgets_step : Front i row → ((r : ℕ) → i ≤ r → register_at row r ≡ register_at old r) → v ≡ forgotten_register gone (register_at row i) → Front (i + 1) (set row i v)
  forgets_step front rest is =
      below_more _ _
      (λ r h. let other : r ≢ i = omega arith in rw get_or-set_other (front r h))
      (get_or-set_same row i v unknown_register within ∙ is ∙ ap (forgotten_register gone) (rest i (omega arith)))

pub forgets_all : (gone : Gone) (old new : List Register) → length old ≡ 17 → length new ≡ 17 → ((r : ℕ) → r < 17 → register_at new r ≡ forgotten_register gone (register_at old r)) → ForgetsRow gone old new
forgets_all gone old new a b front = record {
  seventeen = b;
  registers = each (λ (r : ℕ). register_at new r ≡ forgotten_register gone (register_at old r)) 17 front
      (λ r behind. rw (unknown_at old r (omega arith), unknown_at new r (omega arith)) refl);
}
