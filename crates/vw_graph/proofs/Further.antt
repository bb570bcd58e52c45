-- The points whose table leads further, as they are put together.
use Rattle.std.proofs.Common.{ℕ, ◌+◌, List, [], ◌∷◌, Option, sym, subst, arith, inl, inr, Ordering, Less, Equal, Greater}
use Rattle.std.specs.BTreeSet.{insert_key}
use Rattle.std.specs.List.{Contains}
use Rattle.std.specs.Ordering.{nat_cmp, match_ordering}
use Rattle.std.proofs.lemmas.Bool.{cases_eq}
use Rattle.vw_solver.specs.Seed.{AreDistinct}
use Rattle.vw_solver.proofs.Waiting.{Waits, waits_insert, waits_still, waits_from}
use Rattle.vw_state.specs.declared.jumps.JumpTable.{JumpTable}
use Rattle.vw_state.specs.Context.{Context}
use Rattle.vw_graph.specs.search.Jumps.{slot_at, LeadsFurther, LeadsNoFurther, AreNew}
use Rattle.vw_graph.proofs.Members.{contains_head, contains_tail, contains_none, contains_cases}

waits_of : (xs : List ℕ) (p : ℕ) → Contains xs p → Waits xs p
waits_of [] p c = absurd (contains_none p c)
waits_of (x ∷ xs) p c = elim (contains_cases x p xs c) [ inl same ↦ inl same | inr later ↦ inr (waits_of xs p later) ]

contains_of : (xs : List ℕ) (p : ℕ) → Waits xs p → Contains xs p
contains_of [] p w = absurd w
contains_of (x ∷ xs) p (inl same) = let C : ℕ → Type 0 = λ n. Contains (x ∷ xs) n in subst C same (contains_head x xs)
contains_of (x ∷ xs) p (inr later) = contains_tail x p xs (contains_of xs p later)

insert_apart : (x k : ℕ) (xs : List ℕ) (r : Ordering) → (Contains (x ∷ xs) k → ⊥) → AreDistinct (x ∷ xs) → AreDistinct (insert_key nat_cmp xs k) → AreDistinct (match_ordering r (k ∷ x ∷ xs) (x ∷ xs) (x ∷ insert_key nat_cmp xs k))
insert_apart x k xs Less new apart rest = (new, apart)
insert_apart x k xs Equal new apart rest = apart
insert_apart x k xs Greater new apart rest = (
  λ c. elim (waits_from xs k x (waits_of (insert_key nat_cmp xs k) x c)) [
    | inl same ↦ let C : ℕ → Type 0 = λ n. Contains (x ∷ xs) n in new (subst C (sym same) (contains_head x xs))
    | inr later ↦ apart.0 (contains_of xs x later)
  ],
  rest,
)

insert_distinct : (xs : List ℕ) (k : ℕ) → (Contains xs k → ⊥) → AreDistinct xs → AreDistinct (insert_key nat_cmp xs k)
insert_distinct [] k new apart = (λ c. contains_none k c, tt)
insert_distinct (x ∷ xs) k new apart = insert_apart x k xs (nat_cmp k x) new apart (insert_distinct xs k (λ c. new (contains_tail x k xs c)) apart.1)

module _ (f : Context) (before now : List (Option JumpTable)) where
  pub none_new : AreNew f before now 0 []
  none_new = record { distinct = tt; new = λ at c. absurd (contains_none at c); others = λ at less. absurd (omega (arith, less)) }

  module _ (point : ℕ) (points : List ℕ) (are : AreNew f before now point points) where
    pub no_further_point : LeadsNoFurther f (slot_at before point) (slot_at now point) → AreNew f before now (point + 1) points
    no_further_point none = record {
      distinct = are.distinct;
      new = λ at c. let old = are.new at c in (omega (arith, old.0), old.1);
      others = λ at less. elim (cases_eq at point) [
        | inl same ↦ let N : ℕ → Type 0 = λ n. LeadsNoFurther f (slot_at before n) (slot_at now n) in inr (subst N (sym same) none)
        | inr other ↦ are.others at (omega (arith, less, other))
      ];
    }

    pub further_point : LeadsFurther f (slot_at before point) (slot_at now point) → AreNew f before now (point + 1) (insert_key nat_cmp points point)
    further_point further = record {
      distinct = insert_distinct points point (λ c. let inside = (are.new point c).0 in absurd (omega (arith, inside))) are.distinct;
      new = λ at c. elim (waits_from points point at (waits_of (insert_key nat_cmp points point) at c)) [
        | inl same ↦ let L : ℕ → Type 0 = λ n. LeadsFurther f (slot_at before n) (slot_at now n) in (omega (arith, same), subst L same further)
        | inr old ↦ let is = are.new at (contains_of points at old) in (omega (arith, is.0), is.1)
      ];
      others = λ at less. elim (cases_eq at point) [
        | inl same ↦ let C : ℕ → Type 0 = λ n. Contains (insert_key nat_cmp points point) n in inl (subst C (sym same) (contains_of (insert_key nat_cmp points point) point (waits_insert points point)))
        | inr other ↦ elim (are.others at (omega (arith, less, other))) [
          | inl old ↦ inl (contains_of (insert_key nat_cmp points point) at (waits_still points point at (waits_of points at old)))
          | inr none ↦ inr none
        ]
      ];
    }
