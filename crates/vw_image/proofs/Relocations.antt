-- Relocations by their places, and what the rules on them give.
use Rattle.std.proofs.Common.{◌≡◌, ◌≢◌, ℕ, ◌<◌, ◌==◌, ◌++◌, ◌||◌, append_assoc, inl, inr, Bool, true, false, cond, List, [], ◌∷◌, length, take, drop, get_or, Option, Some, None, option_map, refl, sym, ap, ◌∙◌, subst, suc, arith}
use Rattle.std.specs.List.{find, list_any, AllByRecursion}
use Rattle.std.specs.Option.{IsSome, option_or}
use Rattle.std.specs.BTreeMap.{BTreeMap, get}
use Rattle.std.specs.Ordering.{nat_cmp}
use Rattle.std.proofs.lemmas.Bool.{false≢true}
use Rattle.std.proofs.lemmas.Bool.Decides.{eqb_tells, nat_tests}
use Rattle.std.proofs.lemmas.List.Folds.{find-append}
use Rattle.vw_dynamic.specs.declared.dynamic.Relocation.{Relocation}
use Rattle.vw_dynamic.specs.declared.dynamic.RelKind.{RelKind}
use Rattle.vw_dynamic.specs.declared.dynamic.RelKind.TheVariants.{Based}
use Rattle.vw_image.specs.Image.{shares, touches}
use Rattle.vw_image.specs.Index.{kind_at, IsIndex}
use Rattle.vw_image.specs.Bounds.{AreSeparate, AllSeparate}
use Rattle.vw_bits.proofs.ListLemmas.{not_true, find-ruled_out, split_at, or_true}
use Rattle.vw_image.proofs.Lists.{Pairwise-before}

abbrev pub blank : Relocation
blank = record { place = 0; kind = Based 0; at = 0 }

same_number : (k : ℕ) → (k == k) ≡ true
same_number k = grind (arith, nat_tests)

other_number : (k q : ℕ) → k ≢ q → (k == q) ≡ false
other_number k q apart = grind (arith, nat_tests)

-- eight bytes have those that begin where they do
separate_place : (r s : Relocation) → AreSeparate r s → (r.place == s.place) ≡ false
separate_place r s apart = grind (arith, nat_tests, apart)

-- no relocation before another stands at its place
pub kind_at-before : (front : List Relocation) (r : Relocation) → AllByRecursion (λ s. AreSeparate s r) front → kind_at front r.place ≡ None
unfolding kind_at
kind_at-before front r all =
    let none : find (λ s. s.place == r.place) front ≡ None = find-ruled_out (λ s. AreSeparate s r) (λ s. s.place == r.place) front all (λ s apart. separate_place s r apart) in
    rw none refl

behind : (found : Option Relocation) (r : Relocation) (here : Bool) → option_map (λ s. s.kind) (option_or found (cond here (Some r) None)) ≡ option_or (option_map (λ s. s.kind) found) (cond here (Some r.kind) None)
behind None r true = refl
behind None r false = refl
behind (Some s) r here = refl

pub kind_at-more : (xs : List Relocation) (r : Relocation) (q : ℕ) → kind_at (xs ++ r ∷ []) q ≡ option_or (kind_at xs q) (cond (r.place == q) (Some r.kind) None)
unfolding kind_at
kind_at-more xs r q = rw find-append (behind (find (λ s. s.place == q) xs) r (r.place == q))

or_none : (found : Option RelKind) → option_or found None ≡ found
or_none None = refl
or_none (Some kind) = refl

-- one more relocation, at a place where none stands
pub IsIndex-more : (m n : BTreeMap ℕ RelKind) (xs : List Relocation) (r : Relocation) → IsIndex m xs → kind_at xs r.place ≡ None → get nat_cmp n r.place ≡ Some r.kind → ((q : ℕ) → r.place ≢ q → get nat_cmp n q ≡ get nat_cmp m q) → IsIndex n (xs ++ r ∷ [])
IsIndex-more m n xs r index none here others q =
    elim (eqb_tells r.place q) [
      | inl e ↦
          let at : get nat_cmp n q ≡ Some r.kind = subst (λ (p : ℕ). get nat_cmp n p ≡ Some r.kind) e.1 here in
          let free : kind_at xs q ≡ None = subst (λ (p : ℕ). kind_at xs p ≡ None) e.1 none in
          at ∙ sym (kind_at-more xs r q ∙ ap (λ (found : Option RelKind). option_or found (cond (r.place == q) (Some r.kind) None)) free ∙ ap (λ (b : Bool). cond b (Some r.kind) None) e.0)
      | inr e ↦
          others q e.1 ∙ index q ∙ sym (kind_at-more xs r q ∙ ap (λ (b : Bool). option_or (kind_at xs q) (cond b (Some r.kind) None)) e.0 ∙ or_none (kind_at xs q))
    ]

-- a loop over relocations of which no two share a byte, at the i-th
pub front_separate : (xs : List Relocation) (i : ℕ) → i < length xs → AllSeparate xs → AllByRecursion (λ s. AreSeparate s (get_or xs i blank)) (take i xs)
front_separate xs i inside pairs =
    Pairwise-before AreSeparate (take i xs) (get_or xs i blank) (drop (suc i) xs) (subst AllSeparate (split_at xs i blank inside) pairs)

-- the relocation that an index has at a place is one of the list's, and each of these is there
some_step : (r : Relocation) (found : Option Relocation) (rest : Bool) (q : ℕ) (here : Bool) (f : ℕ → Bool) → (r.place == q) ≡ here → f q ≡ true → (IsSome (option_map (λ s. s.kind) found) → rest ≡ true) → IsSome (option_map (λ s. s.kind) (cond here (Some r) found)) → (f r.place || rest) ≡ true
some_step r found rest q true f is passes behind there =
    let e : r.place ≡ q = grind (arith, nat_tests, is) in
    let first : f r.place ≡ true = ap f e ∙ passes in
    rw first refl
some_step r found rest q false f is passes behind there = rw (behind there) (or_true (f r.place))

some_kind : (xs : List Relocation) (q : ℕ) (f : ℕ → Bool) → f q ≡ true → IsSome (kind_at xs q) → list_any (λ r. f r.place) xs ≡ true
unfolding kind_at
some_kind [] q f passes some = absurd (false≢true some)
some_kind (r ∷ xs) q f passes some =
    some_step r (find (λ s. s.place == q) xs) (list_any (λ s. f s.place) xs) q (r.place == q) f refl passes (λ there. some_kind xs q f passes there) some

there_step : (s : Relocation) (found : Option Relocation) (here : Bool) → IsSome (option_map (λ t. t.kind) found) → IsSome (option_map (λ t. t.kind) (cond here (Some s) found))
there_step s found true some = refl
there_step s found false some = some

kind_there : (xs ys : List Relocation) (r : Relocation) → IsSome (kind_at (xs ++ r ∷ ys) r.place)
unfolding kind_at
kind_there [] ys r = rw (same_number r.place) refl
kind_there (s ∷ xs) ys r = there_step s (find (λ t. t.place == r.place) (xs ++ r ∷ ys)) (s.place == r.place) (kind_there xs ys r)

none_kind : (front xs : List Relocation) (f : ℕ → Bool) → ((q : ℕ) → f q ≡ true → IsSome (kind_at (front ++ xs) q) → ⊥) → list_any (λ r. f r.place) xs ≡ false
none_kind front [] f none = refl
none_kind front (r ∷ xs) f none =
    let here : f r.place ≡ false = not_true (f r.place) (λ is. none r.place is (kind_there front xs r)) in
    let step : (front ++ r ∷ []) ++ xs ≡ front ++ r ∷ xs = append_assoc front (r ∷ []) xs in
    let rest : list_any (λ s. f s.place) xs ≡ false = none_kind (front ++ r ∷ []) xs f (λ q is some. none q is (subst (λ (ys : List Relocation). IsSome (kind_at ys q)) step some)) in
    rw (here, rest) refl

-- whether one of the relocations of an index shares a byte with a range
pub touches-any : (index : BTreeMap ℕ RelKind) (xs : List Relocation) (a n : ℕ) (r : Bool) → IsIndex index xs
    → (r ≡ true → (q : ℕ) × (shares a n q ≡ true) × IsSome (get nat_cmp index q))
    → (r ≡ false → (q : ℕ) → shares a n q ≡ true → IsSome (get nat_cmp index q) → ⊥)
    → r ≡ list_any (touches a n) xs
touches-any index xs a n true at found none =
    let w = found refl in
    sym (some_kind xs w.0 (shares a n) w.1 (subst (λ (o : Option RelKind). IsSome o) (at w.0) w.2))
touches-any index xs a n false at found none =
    sym (none_kind [] xs (shares a n) (λ q is some. none refl q is (subst (λ (o : Option RelKind). IsSome o) (sym (at q)) some)))
