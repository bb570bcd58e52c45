-- The laws of the order of states, from those of their parts.
use Rattle.std.specs.Prelude.{◌≡◌, ℕ, ◌≤◌, ℤ, List, length, refl}
use Rattle.std.proofs.Common.{ap, ◌∙◌, arith}
use Rattle.vw_lattice.specs.Entries.{map_rank, IsValidMap}
use Rattle.vw_lattice.specs.EntryOrder.{ValueLaws, value_laws, map_reflexive, map_transitive, map_antisymmetric, map_ranks}
use Rattle.vw_locals.specs.Ranges.{bytes}
use Rattle.vw_locals.specs.RangeOrder.{written_transitive, written_antisymmetric, ranked}
use Rattle.vw_names.specs.DivisionOrder.{division_transitive, division_antisymmetric, division_rank, division_strict}
use Rattle.vw_values.specs.declared.value.Value.{Value}
use Rattle.vw_values.specs.Values.{IsValid, value_below}
use Rattle.vw_values.specs.Rank.{value_rank}
use Rattle.vw_values.specs.OrderLaws as laws
use Rattle.vw_domain.specs.declared.registers.Register.{Register}
use Rattle.vw_domain.specs.declared.parts.Fact.{Fact}
use Rattle.vw_domain.specs.declared.parts.Fact.TheVariants.{Unknown, Compare}
use Rattle.vw_domain.specs.declared.parts.Parts.{Parts}
use Rattle.vw_domain.specs.Registers.{IsValidRow, row_rank}
use Rattle.vw_domain.specs.RegisterOrder.{register_reflexive, register_transitive, row_ranked, row_antisymmetric}
use Rattle.vw_domain.specs.State.{fact_below, fact_rank, IsValidState, state_below, state_rank}

-- ---- facts

pub fact_reflexive : (x : Fact) → fact_below x x
fact_reflexive Unknown = tt
fact_reflexive (Compare w k) = (refl, refl)

pub fact_transitive : (x y z : Fact) → fact_below x y → fact_below y z → fact_below x z
fact_transitive x y Unknown f g = tt
fact_transitive x Unknown (Compare w k) f g = absurd g
fact_transitive Unknown (Compare v j) (Compare w k) f g = absurd f
fact_transitive (Compare u i) (Compare v j) (Compare w k) f g = (f.0 ∙ g.0, f.1 ∙ g.1)

fact_same : (v w j k : ℕ) → v ≡ w → j ≡ k → Compare v j ≡ Compare w k
fact_same v w j k widths numbers = cc

pub fact_antisymmetric : (x y : Fact) → fact_below x y → fact_below y x → x ≡ y
fact_antisymmetric Unknown Unknown f g = refl
fact_antisymmetric (Compare w k) Unknown f g = absurd g
fact_antisymmetric Unknown (Compare w k) f g = absurd f
fact_antisymmetric (Compare v j) (Compare w k) f g = fact_same v w j k f.0 f.1

pub fact_falls : (x y : Fact) → fact_below x y → fact_rank y ≤ fact_rank x
fact_falls x Unknown f = omega arith
fact_falls Unknown (Compare w k) f = absurd f
fact_falls (Compare v j) (Compare w k) f = omega arith

pub fact_strict : (x y : Fact) → fact_below x y → fact_rank x ≡ fact_rank y → x ≡ y
fact_strict Unknown Unknown f same = refl
fact_strict (Compare w k) Unknown f same = absurd (omega arith)
fact_strict Unknown (Compare w k) f same = absurd f
fact_strict (Compare v j) (Compare w k) f same = fact_same v w j k f.0 f.1

-- ---- states

-- the slots of a valid state are a valid map
pub valid_slots : (bounds : List ℕ) (s : Parts) → IsValidState bounds s → IsValidMap (IsValid bounds) s.slots
valid_slots bounds s v = record {
  ascending = v.state.slots.ascending;
  values = λ key value found. (v.state.slots.values key value found, v.fits.slots key value found);
}

pub valid_row : (bounds : List ℕ) (s : Parts) → IsValidState bounds s → IsValidRow bounds s.registers
valid_row bounds s v r = record { register = v.state.registers.registers r; among = v.fits.registers r }

pub state_same : (x y : Parts) → x.registers ≡ y.registers → x.probed ≡ y.probed → x.written ≡ y.written → x.slots ≡ y.slots → x.classes ≡ y.classes → x.fact ≡ y.fact → x ≡ y
state_same x y a b c d e f =
    let with_registers : List Register → Parts = λ p. record x { registers = p } in
    let with_probed : ℕ → Parts = λ p. record x { registers = y.registers; probed = p } in
    let with_written : List (ℤ × ℤ) → Parts = λ p. record x { registers = y.registers; probed = y.probed; written = p } in
    let with_slots : List (ℤ × Value) → Parts = λ p. record y { slots = p; classes = x.classes; fact = x.fact } in
    let with_classes : List (ℕ × ℕ) → Parts = λ p. record y { classes = p; fact = x.fact } in
    let with_fact : Fact → Parts = λ p. record y { fact = p } in
    ap with_registers a ∙ ap with_probed b ∙ ap with_written c ∙ ap with_slots d ∙ ap with_classes e ∙ ap with_fact f

module _ (bounds : List ℕ) where
  slot_laws : ValueLaws (IsValid bounds) value_below (value_rank bounds)
  slot_laws = value_laws (IsValid bounds) value_below (value_rank bounds) (laws.reflexive bounds) (laws.transitive bounds) (laws.rank_falls bounds) (laws.rank_strict bounds)

  pub state_reflexive : (x : Parts) → IsValidState bounds x → state_below x x
  state_reflexive x v = record {
    registers = λ r. register_reflexive bounds _ (valid_row bounds x v r);
    probed = omega arith;
    written = λ o is. is;
    slots = map_reflexive (IsValid bounds) value_below (value_rank bounds) slot_laws x.slots (valid_slots bounds x v);
    classes = λ a b same. same;
    fact = fact_reflexive x.fact;
  }

  pub state_transitive : (x y z : Parts) → IsValidState bounds x → IsValidState bounds y → IsValidState bounds z → state_below x y → state_below y z → state_below x z
  state_transitive x y z u v w f g = record {
    registers = λ r. register_transitive bounds _ _ _ (valid_row bounds x u r) (valid_row bounds y v r) (valid_row bounds z w r) (f.registers r) (g.registers r);
    probed = let low = f.probed in let high = g.probed in omega arith;
    written = written_transitive x.written y.written z.written f.written g.written;
    slots = map_transitive (IsValid bounds) value_below (value_rank bounds) slot_laws x.slots y.slots z.slots (valid_slots bounds x u) (valid_slots bounds y v) (valid_slots bounds z w) f.slots g.slots;
    classes = division_transitive x.classes y.classes z.classes f.classes g.classes;
    fact = fact_transitive x.fact y.fact z.fact f.fact g.fact;
  }

  pub state_antisymmetric : (x y : Parts) → IsValidState bounds x → IsValidState bounds y → state_below x y → state_below y x → x ≡ y
  state_antisymmetric x y v w f g =
      let down = f.probed in
      let up = g.probed in
      state_same x y
      (row_antisymmetric bounds x.registers y.registers v.state.registers.seventeen w.state.registers.seventeen (valid_row bounds x v) (valid_row bounds y w) f.registers g.registers)
      (omega arith)
      (written_antisymmetric x.written y.written v.state.ranges w.state.ranges f.written g.written)
      (map_antisymmetric (IsValid bounds) value_below (value_rank bounds) slot_laws x.slots y.slots (valid_slots bounds x v) (valid_slots bounds y w) f.slots g.slots)
      (division_antisymmetric x.classes y.classes v.state.classes w.state.classes f.classes g.classes)
      (fact_antisymmetric x.fact y.fact f.fact g.fact)

  -- a part's rank falls, and where it stays the part does
  pub record Rank {X : Type 0} (x y : X) (low high : ℕ) : Type 0 where
    pub falls : high ≤ low
    pub strict : low ≡ high → x ≡ y

  rank_of : {X : Type 0} (x y : X) (low high : ℕ) → high ≤ low → (low ≡ high → x ≡ y) → Rank x y low high
  rank_of x y low high falls strict = record { falls = falls; strict = strict }

  pub record Ranks (x y : Parts) : Type 0 where
    pub registers : Rank x.registers y.registers (row_rank bounds x.registers) (row_rank bounds y.registers)
    pub probed : Rank x.probed y.probed x.probed y.probed
    pub written : Rank x.written y.written (bytes x.written) (bytes y.written)
    pub slots : Rank x.slots y.slots (map_rank (value_rank bounds) x.slots) (map_rank (value_rank bounds) y.slots)
    pub classes : Rank x.classes y.classes (length x.classes) (length y.classes)
    pub fact : Rank x.fact y.fact (fact_rank x.fact) (fact_rank y.fact)

  ranks : (x y : Parts) → IsValidState bounds x → IsValidState bounds y → state_below x y → Ranks x y
  ranks x y v w f =
      let row = row_ranked bounds x.registers y.registers v.state.registers.seventeen w.state.registers.seventeen (valid_row bounds x v) (valid_row bounds y w) f.registers in
      let written = ranked y.written x.written v.state.ranges w.state.ranges f.written in
      let slots = map_ranks (IsValid bounds) value_below (value_rank bounds) slot_laws x.slots y.slots (valid_slots bounds x v) (valid_slots bounds y w) f.slots in
      record {
        registers = record { falls = row.0; strict = row.1 };
        probed = record { falls = f.probed; strict = λ same. same };
        written = record { falls = written.0; strict = written.1 };
        slots = record { falls = slots.0; strict = slots.1 };
        classes = record { falls = division_rank x.classes y.classes v.state.classes w.state.classes f.classes; strict = division_strict x.classes y.classes v.state.classes w.state.classes f.classes };
        fact = record { falls = fact_falls x.fact y.fact f.fact; strict = fact_strict x.fact y.fact f.fact };
      }

  pub state_falls : (x y : Parts) → IsValidState bounds x → IsValidState bounds y → state_below x y → state_rank bounds y ≤ state_rank bounds x
  state_falls x y v w f =
      let r = ranks x y v w f in
      let a = r.registers.falls in
      let b = r.probed.falls in
      let c = r.written.falls in
      let d = r.slots.falls in
      let e = r.classes.falls in
      let h = r.fact.falls in
      omega arith

  pub state_strict : (x y : Parts) → IsValidState bounds x → IsValidState bounds y → state_below x y → state_rank bounds x ≡ state_rank bounds y → x ≡ y
  state_strict x y v w f same =
      let r = ranks x y v w f in
      let a = r.registers.falls in
      let b = r.probed.falls in
      let c = r.written.falls in
      let d = r.slots.falls in
      let e = r.classes.falls in
      let h = r.fact.falls in
      state_same x y (r.registers.strict (omega arith)) (r.probed.strict (omega arith)) (r.written.strict (omega arith)) (r.slots.strict (omega arith)) (r.classes.strict (omega arith)) (r.fact.strict (omega arith))
