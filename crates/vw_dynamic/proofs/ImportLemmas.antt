-- Names keep their numbers where more are added, and so do the relocations that bind them.
use Rattle.std.proofs.Common.{◌≡◌, ℕ, ◌<◌, ◌++◌, ◌==◌, ◌⊎◌, inl, inr, Bool, true, false, not, cond, List, [], ◌∷◌, length, length-append, map, Option, Some, None, unwrap_or, refl, sym, ap, arith}
use Rattle.std.specs.List.{filter, list_any, position, position_or_len}
use Rattle.std.specs.Str.{bytes_eq}
use Rattle.std.specs.Option.{option_map_or}
use Rattle.std.proofs.lemmas.List.Folds.{list_any-append, position_or_len_push}
use Rattle.std.proofs.lemmas.Slice.Eq.{bytes_eq-Decides}
use Rattle.vw_bits.specs.declared.records.Segment.{Segment}
use Rattle.vw_dynamic.specs.Names.{with_name}
use Rattle.vw_dynamic.specs.Relas.{is_none_kind}
use Rattle.vw_dynamic.specs.Targets.{import_of, kind_of, relocation_of}
use Rattle.vw_dynamic.specs.declared.relas.RelaEntry.{RelaEntry}
use Rattle.vw_dynamic.specs.declared.dynamic.Relocation.{Relocation}
use Rattle.vw_dynamic.specs.declared.dynamic.RelKind.{RelKind}
use Rattle.vw_dynamic.specs.declared.dynamic.RelKind.TheVariants.{Based, Bound}

-- ---- places in lists that grow

abbrev Stays : {X : Type 0} → (X → Bool) → List X → List X → Type 0
Stays p xs ys = (position_or_len p (xs ++ ys) ≡ position_or_len p xs) × (position_or_len p xs < length xs)

first_here : {X : Type 0} (p : X → Bool) (x : X) (xs ys : List X) (passes : Bool) → p x ≡ passes → (passes ≡ false → Stays p xs ys) → Stays p (x ∷ xs) ys
first_here p x xs ys true is behind = (grind arith, grind arith)
first_here p x xs ys false is behind =
    let rest = behind refl in
    (grind (arith, rest), grind (arith, rest))

first_stays : {X : Type 0} (p : X → Bool) (xs ys : List X) → list_any p xs ≡ true → Stays p xs ys
first_stays p [] ys some = cc
first_stays p (x ∷ xs) ys some = first_here p x xs ys (p x) refl (λ none. first_stays p xs ys (rw none at some))

pub position_stays : {X : Type 0} (p : X → Bool) (xs ys : List X) → list_any p xs ≡ true → position p (xs ++ ys) ≡ position p xs
position_stays p xs ys some =
    let at = first_stays p xs ys some in
    let count = length-append xs ys in
    grind (arith, at, count)

abbrev Within : {X : Type 0} → (X → Bool) → List X → Type 0
Within p xs = ((list_any p xs ≡ true) × (position_or_len p xs < length xs)) ⊎ ((list_any p xs ≡ false) × (position_or_len p xs ≡ length xs))

within_step : {X : Type 0} (p : X → Bool) (x : X) (xs : List X) (passes : Bool) → p x ≡ passes → Within p xs → Within p (x ∷ xs)
within_step p x xs true is rest = inl (grind arith, grind arith)
within_step p x xs false is (inl w) = inl (grind (arith, w), grind (arith, w))
within_step p x xs false is (inr w) = inr (grind (arith, w), grind (arith, w))

within : {X : Type 0} (p : X → Bool) (xs : List X) → Within p xs
within p [] = inr (refl, refl)
within p (x ∷ xs) = within_step p x xs (p x) refl (within p xs)

pub any_from_position : {X : Type 0} (p : X → Bool) (xs : List X) (i : ℕ) → position p xs ≡ Some i → list_any p xs ≡ true
any_from_position p xs i at = elim (within p xs) [
  | inl w ↦ w.0
  | inr w ↦ grind (arith, w)
]

pub none_from_position : {X : Type 0} (p : X → Bool) (xs : List X) → position p xs ≡ None → list_any p xs ≡ false
none_from_position p xs at = elim (within p xs) [
  | inl w ↦ grind (arith, w)
  | inr w ↦ w.0
]

-- what is put behind items that fail is the first that passes
pub position_last : {X : Type 0} (p : X → Bool) (xs : List X) (y : X) → list_any p xs ≡ false → p y ≡ true → position p (xs ++ y ∷ []) ≡ Some (length xs)
position_last p xs y none here =
    let count = length-append xs (y ∷ []) in
    elim (within p xs) [
      | inl w ↦ grind (arith, w)
      | inr w ↦ grind (arith, w, position_or_len_push, count)
    ]

-- ---- names of which one more is added

named_stays : (n name : List ℕ) (names : List (List ℕ)) (found : Bool) → list_any (bytes_eq n) names ≡ true → position (bytes_eq n) (cond found names (names ++ name ∷ [])) ≡ position (bytes_eq n) names
named_stays n name names true some = refl
named_stays n name names false some = position_stays (bytes_eq n) names (name ∷ []) some

any_stays : (n name : List ℕ) (names : List (List ℕ)) (found : Bool) → list_any (bytes_eq n) names ≡ true → list_any (bytes_eq n) (cond found names (names ++ name ∷ [])) ≡ true
any_stays n name names true some = some
any_stays n name names false some = rw (list_any-append, some) refl

abbrev pub with_import : List (List ℕ) → Option (List ℕ) → List (List ℕ)
with_import names name = option_map_or (with_name names) name names

-- the name of a relocation on an import is among these
abbrev pub IsThere : (RelaEntry → Option (List ℕ)) → List (List ℕ) → RelaEntry → Type 0
IsThere f names r = (name : List ℕ) → f r ≡ Some name → list_any (bytes_eq name) names ≡ true

abbrev pub AreThere : (RelaEntry → Option (List ℕ)) → List (List ℕ) → List RelaEntry → Type 0
AreThere f names [] = Unit {0}
AreThere f names (r ∷ rs) = IsThere f names r × AreThere f names rs

still : (n : List ℕ) (names : List (List ℕ)) (name : Option (List ℕ)) → list_any (bytes_eq n) names ≡ true → (list_any (bytes_eq n) (with_import names name) ≡ true) × (position (bytes_eq n) (with_import names name) ≡ position (bytes_eq n) names)
still n names None some = (some, refl)
still n names (Some name) some = (any_stays n name names (list_any (bytes_eq name) names) some, named_stays n name names (list_any (bytes_eq name) names) some)

pub same_bytes : (n : List ℕ) → bytes_eq n n ≡ true
same_bytes n = grind (arith, bytes_eq-Decides)

added_here : (name : List ℕ) (names : List (List ℕ)) (found : Bool) → list_any (bytes_eq name) names ≡ found → list_any (bytes_eq name) (cond found names (names ++ name ∷ [])) ≡ true
added_here name names true is = is
added_here name names false is = rw (list_any-append, is, same_bytes name) refl

here_there : (f : RelaEntry → Option (List ℕ)) (names : List (List ℕ)) (r : RelaEntry) → IsThere f (with_import names (f r)) r
here_there f names r name is = rw is (added_here name names (list_any (bytes_eq name) names) refl)

pub there-more : (f : RelaEntry → Option (List ℕ)) (names : List (List ℕ)) (before : List RelaEntry) (r : RelaEntry) → AreThere f names before → AreThere f (with_import names (f r)) (before ++ r ∷ [])
there-more f names [] r there = (here_there f names r, tt)
there-more f names (b ∷ bs) r there = (λ name is. (still name names (f r) (there.0 name is)).0, there-more f names bs r there.1)

-- ---- relocations on names of which one more is added

bound_stays : (name other : Option (List ℕ)) (else_ : RelKind) (names : List (List ℕ)) → ((n : List ℕ) → name ≡ Some n → list_any (bytes_eq n) names ≡ true) → option_map_or (λ n. Bound (unwrap_or (position (bytes_eq n) names) 0)) name else_ ≡ option_map_or (λ n. Bound (unwrap_or (position (bytes_eq n) (with_import names other)) 0)) name else_
bound_stays None other else_ names there = refl
bound_stays (Some n) other else_ names there = ap (λ (o : Option ℕ). Bound (unwrap_or o 0)) (sym (still n names other (there n refl)).1)

module _ (bytes : List ℕ) (segments : List Segment) (strings : List ℕ) (symtab : Option ℕ) where
  abbrev pub f : RelaEntry → Option (List ℕ)
  f r = import_of bytes segments strings symtab r

  kind_stays : (names : List (List ℕ)) (other : Option (List ℕ)) (r : RelaEntry) → IsThere f names r → kind_of bytes segments strings symtab names r ≡ kind_of bytes segments strings symtab (with_import names other) r
  unfolding kind_of
  kind_stays names other r there = ap (λ (k : RelKind). cond (r.kind == 8) (Based r.addend) k) (bound_stays (f r) other _ names there)

  -- what relocations give, but those of type NONE
  abbrev pub kept : List (List ℕ) → List RelaEntry → List Relocation
  kept names relas = map (relocation_of bytes segments strings symtab names) (filter (λ r. not (is_none_kind r)) relas)

  kept_step : (g h : RelaEntry → Relocation) (r : RelaEntry) (rs : List RelaEntry) (none : Bool) → g r ≡ h r → map g (filter (λ r. not (is_none_kind r)) rs) ≡ map h (filter (λ r. not (is_none_kind r)) rs) → map g (cond (not none) (r ∷ filter (λ r. not (is_none_kind r)) rs) (filter (λ r. not (is_none_kind r)) rs)) ≡ map h (cond (not none) (r ∷ filter (λ r. not (is_none_kind r)) rs) (filter (λ r. not (is_none_kind r)) rs))
  kept_step g h r rs true here rest = rest
  kept_step g h r rs false here rest = rw (here, rest) refl

  pub kept_stay : (names : List (List ℕ)) (other : Option (List ℕ)) (before : List RelaEntry) → AreThere f names before → kept names before ≡ kept (with_import names other) before
  kept_stay names other [] there = refl
  kept_stay names other (r ∷ rs) there =
      let item : RelKind → Relocation = λ k. record { place = r.place; kind = k; at = r.at } in
      kept_step _ _ r rs (is_none_kind r) (ap item (kind_stays names other r there.0)) (kept_stay names other rs there.1)
