-- Values that name bounds among more than those of the function: what the operations leave of them, and that each state
-- names bounds among some.
use Rattle.std.proofs.Common.{◌≡◌, ℕ, zero, suc, ◌+◌, ◌%◌, ◌^◌, ◌<◌, ◌≤◌, ◌⊎◌, inl, inr, ⊎_elim, ◌==◌, refl, sym, subst, arith, List, [], ◌∷◌}
use Rattle.std.specs.Prelude.{Option, Some, None, Bool, true, false, if◌then◌else◌, ◌&&◌, nat_le, nat_lt, min}
use Rattle.std.proofs.lemmas.Bool.Decides.{nat_tests}
use Rattle.std.proofs.lemmas.Nat.{and_le_l}
use Rattle.std.proofs.Math.Nat.{one-le-pow, pow-le-pow_right}
use Rattle.vw_insn.specs.Listed.{IsWide}
use Rattle.vw_insn.specs.Words.{low}
use Rattle.vw_insn.specs.declared.registers.Width.{Width}
use Rattle.vw_insn.specs.declared.registers.Width.TheVariants.{W8, W16, W32, W64}
use Rattle.vw_values.specs.declared.value.Value.{Value}
use Rattle.vw_values.specs.declared.value.Value.TheVariants.{Any, Num, Const, Below, Low, Both, Index16, JumpOff, JumpDest}
use Rattle.vw_values.specs.declared.extent.Extent.{Extent}
use Rattle.vw_values.specs.declared.extent.Extent.TheVariants.{Exactly, Under, Unbounded, Other}
use Rattle.vw_values.specs.Bounds.{IsMember, IsAscending, IsBounds, first_from}
use Rattle.vw_values.specs.Values.{IsValue, IsAmong, IsValid}
use Rattle.vw_values.specs.Joins.{join}
use Rattle.vw_values.specs.Sums.{extent_of, below_or_num}
use Rattle.vw_values.specs.Narrowing.{narrow32}
use Rattle.vw_values.specs.Masks.{and, and_extents, bound_of, lesser}
use Rattle.vw_values.specs.Scales.{shl4, shl4_extent, index_or_num}
use Rattle.vw_values.specs.Refinements.{below, equal, equal_whole, cut, cut_whole, cut_half, cut_below, const_where}
use Rattle.vw_values.specs.Laws.{IsValidWhere, JoinsAreLeast, LowsAreValid}
use Rattle.vw_domain.specs.FormLaws.{HoldsBounds, StatesNameBounds}
use Rattle.vw_domain.proofs.Ups.{first_member, first_least}

-- ---- values whose bounds are among these

-- a list of bounds holds itself
pub own_bounds : (b : List ℕ) → IsBounds b → HoldsBounds b b
own_bounds b is = record { are = is; holds = λ k m. m }

by_test : (P : Value → Type 0) (t : Bool) (u v : Value) → (t ≡ true → P u) → (t ≡ false → P v) → P (if t then u else v)
by_test P true u v f g = f refl
by_test P false u v f g = g refl

where_test : (P : Option Value → Type 0) (t : Bool) (u v : Option Value) → P u → P v → P (if t then u else v)
where_test P true u v f g = f
where_test P false u v f g = g

module _ (bounds : List ℕ) (members : List ℕ) (is : IsBounds bounds) (holds : HoldsBounds members bounds) where
  abbrev G : Value → Type 0
  G v = IsValid members v

  abbrev IsIn : Option ℕ → Type 0
  IsIn None = Unit {0}
  IsIn (Some k) = IsMember members k

  abbrev ExtentIn : Extent → Type 0
  ExtentIn (Exactly c) = c < 2 ^ 64
  ExtentIn (Under k) = IsMember members k
  ExtentIn Unbounded = Unit {0}
  ExtentIn (Other v) = Unit {0}

  below_in : (k : ℕ) → IsMember members k → G (Below k)
  below_in k m = ((holds.are.positive k m, holds.are.range k m), m)

  bound_in : (o : Option ℕ) → IsIn o → G (below_or_num o)
  bound_in None m = (tt, tt)
  bound_in (Some k) m = below_in k m

  extent_in : (v : Value) → G v → ExtentIn (extent_of v)
  extent_in (Const c) g = g.0
  extent_in (Below k) g = g.1
  extent_in (Both k) g = holds.are.powers 33 (omega arith)
  extent_in v g = tt

  first_in : (k : ℕ) (o : Option ℕ) → first_from k bounds ≡ o → IsIn o
  first_in k None e = tt
  first_in k (Some u) e = holds.holds u (first_member bounds k u e)

  bound_of_in : (p : Extent) → ExtentIn p → IsIn (bound_of bounds p)
  bound_of_in (Exactly c) h = first_in (c + 1) (first_from (c + 1) bounds) refl
  bound_of_in (Under k) h = h
  bound_of_in Unbounded h = tt
  bound_of_in (Other v) h = tt

  min_in : (j k : ℕ) → IsMember members j → IsMember members k → IsMember members (min j k)
  min_in j k m n = ⊎_elim (λ (e : min j k ≡ j). subst (IsMember members) (sym e) m) (λ (e : min j k ≡ k). subst (IsMember members) (sym e) n) (sides j k)
    where
      sides : (j k : ℕ) → (min j k ≡ j) ⊎ (min j k ≡ k)
      sides j k = grind arith

  lesser_in : (o u : Option ℕ) → IsIn o → IsIn u → IsIn (lesser o u)
  lesser_in None u f g = g
  lesser_in (Some j) None f g = f
  lesser_in (Some j) (Some k) f g = min_in j k f g

  any_in : (p q : Extent) → ExtentIn p → ExtentIn q → G (below_or_num (lesser (bound_of bounds p) (bound_of bounds q)))
  any_in p q h g = bound_in (lesser (bound_of bounds p) (bound_of bounds q)) (lesser_in (bound_of bounds p) (bound_of bounds q) (bound_of_in p h) (bound_of_in q g))

  and_in_extents : (p q : Extent) → ExtentIn p → ExtentIn q → G (and_extents bounds p q)
  and_in_extents (Exactly c) (Exactly d) h g = let most = and_le_l c d in (omega arith, tt)
  and_in_extents (Exactly c) q h g = any_in (Exactly c) q h g
  and_in_extents p q h g = any_in p q h g

  pub and_in : LowsAreValid → (w : Width) (x y : Value) → G x → G y → G (and x y w bounds)
  and_in lows W8 x y g h = (tt, tt)
  and_in lows W16 x y g h = (tt, tt)
  and_in lows W32 x y g h = and_in_extents (extent_of (narrow32 x)) (extent_of (narrow32 y)) (extent_in (narrow32 x) (lows members x holds.are g)) (extent_in (narrow32 y) (lows members y holds.are h))
  and_in lows W64 x y g h = and_in_extents (extent_of x) (extent_of y) (extent_in x g) (extent_in y h)

  index_in : (k : ℕ) → k ≤ 65536 → IsMember members k → G (Index16 k None)
  index_in k few m = (((holds.are.positive k m, few), tt), m)

  shl4_in_extent : (p : Extent) → ExtentIn p → G (shl4_extent bounds p)
  shl4_in_extent (Exactly c) h = by_test G (nat_lt c 65536) (index_or_num (first_from (c + 1) bounds)) Any (λ less. of_first (first_from (c + 1) bounds) refl (grind (arith, nat_tests))) (λ more. (tt, tt))
    where
      of_first : (o : Option ℕ) → first_from (c + 1) bounds ≡ o → c < 65536 → G (index_or_num o)
      of_first None e less = (tt, tt)
      of_first (Some k) e less =
          let most = first_least bounds is.ascending (c + 1) k 65536 e (is.powers 16 (omega arith)) (omega arith) in
          index_in k most (holds.holds k (first_member bounds (c + 1) k e))
  shl4_in_extent (Under k) h = by_test G (nat_le k 65536) (Index16 k None) Any (λ few. index_in k (grind (arith, nat_tests)) h) (λ more. (tt, tt))
  shl4_in_extent Unbounded h = (tt, tt)
  shl4_in_extent (Other v) h = (tt, tt)

  pub shl4_in : (v : Value) → G v → G (shl4 v bounds)
  shl4_in v g = shl4_in_extent (extent_of v) (extent_in v g)

  among_in : (v : Value) → IsAmong bounds v → IsAmong members v
  among_in (Below k) m = holds.holds k m
  among_in (Low k) m = holds.holds k m
  among_in (Both k) m = holds.holds k m
  among_in (Index16 k mark) m = holds.holds k m
  among_in (JumpOff a k) m = holds.holds k m
  among_in (JumpDest a k) m = holds.holds k m
  among_in v m = tt

  pub join_in : JoinsAreLeast → (x y : Value) → G x → G y → G (join bounds x y)
  join_in joins x y g h = let valid = (joins bounds x y is g.0 h.0).valid in (valid.0, among_in (join bounds x y) valid.1)

  -- ---- refinements

  low_in : (u : ℕ) → u < 2 ^ 32 → IsMember members u → IsValue (Low u)
  low_in u less m = (holds.are.positive u m, less)

  cut_whole_in : (u : ℕ) → IsMember members u → (v : Value) → G v → G (cut_whole u v)
  cut_whole_in u m Num g = below_in u m
  cut_whole_in u m (Below j) g = below_in (min j u) (min_in j u g.1 m)
  cut_whole_in u m (Low j) g = by_test G (nat_le u (2 ^ 32)) (Below (min j u)) (Both j) (λ e. below_in (min j u) (min_in j u g.1 m)) (λ e. g)
  cut_whole_in u m (Both j) g = by_test G (nat_le u (2 ^ 32)) (Below (min j u)) (Both j) (λ e. below_in (min j u) (min_in j u g.1 m)) (λ e. g)
  cut_whole_in u m v g = g

  cut_half_in : (u : ℕ) → u < 2 ^ 32 → IsMember members u → (v : Value) → G v → G (cut_half u v)
  cut_half_in u less m Num g = (low_in u less m, m)
  cut_half_in u less m (Below j) g = by_test G (nat_le j (2 ^ 32)) (Below (min j u)) (Both u) (λ e. below_in (min j u) (min_in j u g.1 m)) (λ e. (low_in u less m, m))
  cut_half_in u less m (Low j) g = let both = min_in j u g.1 m in (low_in (min j u) (omega arith) both, both)
  cut_half_in u less m (Both j) g = let both = min_in j u g.1 m in (low_in (min j u) (omega arith) both, both)
  cut_half_in u less m v g = g

  cut_in : (w : Width) (o : Option ℕ) → IsIn o → (v : Value) → G v → G (cut w o v)
  cut_in w None m v g = g
  cut_in W8 (Some u) m v g = g
  cut_in W16 (Some u) m v g = g
  cut_in W32 (Some u) m v g = by_test G (nat_lt u (2 ^ 32)) (cut_half u v) v (λ e. cut_half_in u (grind (arith, nat_tests)) m v g) (λ e. g)
  cut_in W64 (Some u) m v g = cut_whole_in u m v g

  cut_below_in : (v : Value) (w : Width) (k : ℕ) → G v → IsValidWhere members (cut_below v w k bounds)
  cut_below_in v w k g = where_test (IsValidWhere members) (k == 0) None (Some (cut w (first_from k bounds) v)) tt (cut_in w (first_from k bounds) (first_in k (first_from k bounds) refl) v g)

  pub refined_below_in : (v : Value) (w : Width) (k : ℕ) → G v → IsValidWhere members (below v w k bounds)
  refined_below_in Num w k g = cut_below_in Num w k g
  refined_below_in (Const c) w k g = where_test (IsValidWhere members) (nat_lt (low w c) k) (Some (Const c)) None g tt
  refined_below_in (Below j) w k g = cut_below_in (Below j) w k g
  refined_below_in (Low j) w k g = cut_below_in (Low j) w k g
  refined_below_in (Both j) w k g = cut_below_in (Both j) w k g
  refined_below_in v w k g = g

  where_in : (t : Bool) (k : ℕ) → k < 2 ^ 64 → IsValidWhere members (const_where t k)
  where_in true k word = (word, tt)
  where_in false k word = tt

  equal_whole_in : (v : Value) (k : ℕ) → k < 2 ^ 64 → G v → IsValidWhere members (equal_whole v k)
  equal_whole_in Num k word g = (word, tt)
  equal_whole_in (Const c) k word g = where_in (c == k) k word
  equal_whole_in (Below j) k word g = where_in (nat_lt k j) k word
  equal_whole_in (Low j) k word g = where_in (nat_lt (k % 2 ^ 32) j) k word
  equal_whole_in (Both j) k word g = where_in (nat_lt k (2 ^ 33) && nat_lt (k % 2 ^ 32) j) k word
  equal_whole_in v k word g = g

  pub refined_equal_in : (v : Value) (w : Width) (k : ℕ) → IsWide w → k < 2 ^ 64 → G v → IsValidWhere members (equal v w k bounds)
  refined_equal_in v W8 k wide word g = absurd wide
  refined_equal_in v W16 k wide word g = absurd wide
  refined_equal_in v W32 k wide word g = refined_below_in v W32 (k + 1) g
  refined_equal_in v W64 k wide word g = equal_whole_in v k word g

-- ---- all bounds that there can be

-- so many numbers from the first one on, and a last one
unfoldable numbers : ℕ → ℕ → ℕ → List ℕ
numbers zero first last = last ∷ []
numbers (suc n) first last = first ∷ numbers n (suc first) last

has_number : (n first last k : ℕ) → first ≤ k → k < first + n → IsMember (numbers n first last) k
unfolding numbers
has_number zero first last k most less = absurd (omega arith)
has_number (suc n) first last k most less = ⊎_elim (λ (e : first ≡ k). inl e) (λ (e : suc first ≤ k). inr (has_number n (suc first) last k e (omega arith))) (first_or first k most)
  where
    first_or : (a b : ℕ) → a ≤ b → (a ≡ b) ⊎ (suc a ≤ b)
    first_or a b h = grind arith

has_last : (n first last : ℕ) → IsMember (numbers n first last) last
unfolding numbers
has_last zero first last = inl refl
has_last (suc n) first last = inr (has_last n (suc first) last)

is_number : (n first last k : ℕ) → IsMember (numbers n first last) k → ((first ≤ k) × (k < first + n)) ⊎ (k ≡ last)
unfolding numbers
is_number zero first last k m = ⊎_elim (λ (e : last ≡ k). inr (sym e)) (λ (e : ⊥). absurd e) m
is_number (suc n) first last k m = ⊎_elim (λ (e : first ≡ k). inl (omega arith, omega arith)) (λ (e : IsMember (numbers n (suc first) last) k). further (is_number n (suc first) last k e)) m
  where
    further : ((suc first ≤ k) × (k < suc first + n)) ⊎ (k ≡ last) → ((first ≤ k) × (k < first + suc n)) ⊎ (k ≡ last)
    further (inl h) = let a = h.0 in let b = h.1 in inl (omega arith, omega arith)
    further (inr h) = inr h

numbers_rise : (n first last : ℕ) → first + n ≤ last → IsAscending (numbers n first last)
unfolding numbers
numbers_rise zero first last h = (λ k e. absurd e, tt)
numbers_rise (suc n) first last h = (λ k m. above k (is_number n (suc first) last k m), numbers_rise n (suc first) last (omega arith))
  where
    above : (k : ℕ) → ((suc first ≤ k) × (k < suc first + n)) ⊎ (k ≡ last) → first < k
    above k (inl h) = let a = h.0 in omega arith
    above k (inr e) = omega arith

-- 1 to 2 ^ 32, and 2 ^ 33
abbrev all_bounds : List ℕ
all_bounds = numbers (2 ^ 32) 1 (2 ^ 33)

is_bound : (k : ℕ) → 1 ≤ k → (k ≤ 2 ^ 32) ⊎ (k ≡ 2 ^ 33) → IsMember all_bounds k
is_bound k positive (inl most) = has_number (2 ^ 32) 1 (2 ^ 33) k positive (omega arith)
is_bound k positive (inr e) = subst (IsMember all_bounds) (sym e) (has_last (2 ^ 32) 1 (2 ^ 33))

of_bound : (k : ℕ) → IsMember all_bounds k → (1 ≤ k) × ((k ≤ 2 ^ 32) ⊎ (k ≡ 2 ^ 33))
of_bound k m = cases (is_number (2 ^ 32) 1 (2 ^ 33) k m)
  where
    cases : ((1 ≤ k) × (k < 1 + 2 ^ 32)) ⊎ (k ≡ 2 ^ 33) → (1 ≤ k) × ((k ≤ 2 ^ 32) ⊎ (k ≡ 2 ^ 33))
    cases (inl h) = let less = h.1 in (h.0, inl (omega arith))
    cases (inr e) = (omega arith, inr e)

power_is : (i : ℕ) → i ≤ 33 → (2 ^ i ≤ 2 ^ 32) ⊎ (2 ^ i ≡ 2 ^ 33)
power_is i h = by_last (last_or i h)
  where
    last_or : (i : ℕ) → i ≤ 33 → (i ≤ 32) ⊎ (i ≡ 33)
    last_or i h = grind arith

    by_last : (i ≤ 32) ⊎ (i ≡ 33) → (2 ^ i ≤ 2 ^ 32) ⊎ (2 ^ i ≡ 2 ^ 33)
    by_last (inl less) = inl (pow-le-pow_right (omega arith) less)
    by_last (inr e) = inr (subst (λ (j : ℕ). 2 ^ j ≡ 2 ^ 33) (sym e) refl)

are_bounds : IsBounds all_bounds
are_bounds = record {
  ascending = numbers_rise (2 ^ 32) 1 (2 ^ 33) (omega arith);
  powers = λ i h. is_bound (2 ^ i) (one-le-pow i 2 (omega arith)) (power_is i h);
  positive = λ m h. (of_bound m h).0;
  range = λ m h. (of_bound m h).1;
}

holds_all : (bounds : List ℕ) → IsBounds bounds → HoldsBounds all_bounds bounds
holds_all bounds is = record { are = are_bounds; holds = λ k m. is_bound k (is.positive k m) (is.range k m) }

value_among : (v : Value) → IsValue v → IsAmong all_bounds v
value_among (Below k) i = is_bound k i.0 i.1
value_among (Low k) i = let less = i.1 in is_bound k i.0 (inl (omega arith))
value_among (Both k) i = let less = i.1 in is_bound k i.0 (inl (omega arith))
value_among (Index16 k mark) i = let few = i.0.1 in is_bound k i.0.0 (inl (omega arith))
value_among (JumpOff a k) i = let few = i.1.1 in is_bound k i.1.0 (inl (omega arith))
value_among (JumpDest a k) i = let few = i.1.1 in is_bound k i.1.0 (inl (omega arith))
value_among v i = tt

pub states_name_bounds : StatesNameBounds
states_name_bounds s is = (
  all_bounds,
  holds_all,
  record {
    registers = λ r. value_among _ (is.registers.registers r).value;
    slots = λ key v found. value_among v (is.slots.values key v found);
  },
)
