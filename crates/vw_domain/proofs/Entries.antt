-- An entry that a sum tells is one of the table at the sum's first address.
use Rattle.std.proofs.Common.{◌≡◌, ℕ, suc, ◌+◌, ◌⊎◌, inl, inr, ◌==◌, refl, sym, ap, subst, arith, List, [], ◌∷◌, length, map}
use Rattle.std.specs.Prelude.{Option, Some, None, Bool, true, false, if◌then◌else◌, nat_le, slice_get}
use Rattle.std.proofs.lemmas.Bool.{eqb-true}
use Rattle.vw_values.specs.declared.value.Value.{Value}
use Rattle.vw_values.specs.declared.value.Value.TheVariants.{Any, Image, Index16, EntryPtr, EntryTyped}
use Rattle.vw_values.specs.Sums.{add, table_from, entry_value, entry_sum_in}
use Rattle.vw_values.specs.Stands.{FunctionTable}
use Rattle.vw_domain.specs.Sites.{Site}
use Rattle.vw_domain.specs.Stands.{Machine}
use Rattle.vw_domain.specs.Soundness.{IsPlaced}

some_pair : {a b : ℕ × ℕ} → Some a ≡ Some b → a ≡ b
some_pair e = cc

none_pair : {a : ℕ × ℕ} → ◌≡◌ {A = Option (ℕ × ℕ)} None (Some a) → ⊥
none_pair e = cc

abbrev pairs : List FunctionTable → List (ℕ × ℕ)
pairs ts = map (λ table. (table.address, length table.entries)) ts

-- table t, counted from n, lies at a
abbrev IsAt : List FunctionTable → ℕ → ℕ → ℕ → Type 0
IsAt ts n a t = (k : ℕ) × (t ≡ n + k) × (table : FunctionTable) × (slice_get ts k ≡ Some table) × (table.address ≡ a)

found : (ts : List FunctionTable) (n a : ℕ) (r : ℕ × ℕ) → table_from n a (pairs ts) ≡ Some r → IsAt ts n a r.0
found [] n a r e = absurd (none_pair e)
found (t ∷ ts) n a r e = by_test (t.address == a) refl (λ e. found ts (n + 1) a r e) e
  where
    next : IsAt ts (n + 1) a r.0 → IsAt (t ∷ ts) n a r.0
    next h = (suc h.0, omega (arith, h.1), h.2, h.3, h.4)

    by_test : (b : Bool) → (t.address == a) ≡ b → (table_from (n + 1) a (pairs ts) ≡ Some r → IsAt ts (n + 1) a r.0) → (if b then Some (n, length t.entries) else table_from (n + 1) a (pairs ts)) ≡ Some r → IsAt (t ∷ ts) n a r.0
    by_test true f h e =
        let same : (n, length t.entries) ≡ r = some_pair e in
        let first : n ≡ r.0 = ap (λ p. p.0) same in
        (0, omega (arith, first), t, refl, eqb-true t.address a f)
    by_test false f h e = next (h e)

abbrev Tells : Value → ℕ → Type 0
Tells v t = (v ≡ EntryPtr t) ⊎ ((g : ℕ) × (v ≡ EntryTyped t g))

any_tells : {A : Type 0} (t : ℕ) → Tells Any t → A
any_tells t (inl e) = absurd (no_pointer e)
  where
    no_pointer : {t : ℕ} → Any ≡ EntryPtr t → ⊥
    no_pointer e = cc
any_tells t (inr o) = absurd (no_typed o.1)
  where
    no_typed : {t g : ℕ} → Any ≡ EntryTyped t g → ⊥
    no_typed e = cc

pointer_is : {t u : ℕ} → EntryPtr t ≡ EntryPtr u → t ≡ u
pointer_is e = cc

typed_is : {t u g h : ℕ} → EntryTyped t g ≡ EntryTyped u h → t ≡ u
typed_is e = cc

pointer_typed : {t u h : ℕ} → EntryPtr t ≡ EntryTyped u h → ⊥
pointer_typed e = cc

typed_pointer : {t u g : ℕ} → EntryTyped t g ≡ EntryPtr u → ⊥
typed_pointer e = cc

entry_tells : (u : ℕ) (m : Option (ℕ × ℕ)) (t : ℕ) → Tells (entry_value u m) t → u ≡ t
entry_tells u None t (inl e) = pointer_is e
entry_tells u None t (inr o) = absurd (pointer_typed o.1)
entry_tells u (Some g) t o = by_test (g.0 == u) o
  where
    by_test : (b : Bool) → Tells (if b then EntryTyped u g.1 else EntryPtr u) t → u ≡ t
    by_test true (inl e) = absurd (typed_pointer e)
    by_test true (inr o) = typed_is o.1
    by_test false (inl e) = pointer_is e
    by_test false (inr o) = absurd (pointer_typed o.1)

sum_tells : (ts : List FunctionTable) (a k : ℕ) (m : Option (ℕ × ℕ)) (t : ℕ) (o : Option (ℕ × ℕ)) → table_from 0 a (pairs ts) ≡ o → Tells (entry_sum_in o k m) t
    → (table : FunctionTable) × (slice_get ts t ≡ Some table) × (table.address ≡ a)
sum_tells ts a k m t None e o = any_tells t o
sum_tells ts a k m t (Some r) e o = by_test (nat_le k r.1) o
  where
    by_test : (b : Bool) → Tells (if b then entry_value r.0 m else Any) t → (table : FunctionTable) × (slice_get ts t ≡ Some table) × (table.address ≡ a)
    by_test true o =
        let here = found ts 0 a r e in
        let is_t : here.0 ≡ t = let u = entry_tells r.0 m t o in omega (arith, here.1) in
        (here.2, subst (λ n. slice_get ts n ≡ Some here.2) is_t here.3, here.4)
    by_test false o = any_tells t o

pub sum_entry : (top : Machine) (site : Site) (next : ℕ) → IsPlaced top site next → (a k : ℕ) (m : Option (ℕ × ℕ)) (t : ℕ) → Tells (add (Image a) (Index16 k m) site.tables) t
    → (table : FunctionTable) × (slice_get top.instance.tables t ≡ Some table) × (table.address ≡ a)
sum_entry top site next laid a k m t o =
    let P : List (ℕ × ℕ) → Type 0 = λ ts. Tells (add (Image a) (Index16 k m) ts) t in
    let told : Tells (entry_sum_in (table_from 0 a (pairs top.instance.tables)) k m) t = subst P (sym laid.tables) o in
    sum_tells top.instance.tables a k m t (table_from 0 a (pairs top.instance.tables)) refl told
