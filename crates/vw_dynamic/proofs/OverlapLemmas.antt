-- Places that share no byte, each kept under the number of its word of eight bytes.
use Rattle.std.proofs.Common.{◌≡◌, ◌≢◌, ℕ, ◌+◌, ◌-◌, ◌/◌, ◌<◌, ◌==◌, ◌&&◌, ◌||◌, ◌++◌, ◌⊎◌, inl, inr, Bool, true, false, not, cond, List, [], ◌∷◌, map, Option, Some, None, refl, sym, ap, ◌∙◌, arith}
use Rattle.std.specs.List.{filter, list_any}
use Rattle.std.proofs.lemmas.List.Folds.{list_any-append}
use Rattle.std.proofs.lemmas.Bool.{false≢true}
use Rattle.std.proofs.lemmas.Bool.Decides.{eqb_tells, nat_tests}
use Rattle.vw_bits.proofs.ListLemmas.{or_true, or_cases}
use Rattle.vw_dynamic.specs.Relas.{is_none_kind, share_byte, shares}
use Rattle.vw_dynamic.specs.declared.relas.RelaEntry.{RelaEntry}

-- the places that relocations change
abbrev pub places_of : List RelaEntry → List ℕ
places_of relas = map (λ r. r.place) (filter (λ r. not (is_none_kind r)) relas)

any_step : (f : ℕ → Bool) (r : RelaEntry) (rest : List RelaEntry) (none tail : Bool) → tail ≡ list_any f (map (λ r. r.place) rest) → ((not none && f r.place) || tail) ≡ list_any f (map (λ r. r.place) (cond (not none) (r ∷ rest) rest))
any_step f r rest true tail is = is
any_step f r rest false tail is = ap (λ (t : Bool). f r.place || t) is

pub any_places : (f : ℕ → Bool) (relas : List RelaEntry) → list_any (λ e. not (is_none_kind e) && f e.place) relas ≡ list_any f (places_of relas)
any_places f [] = refl
any_places f (r ∷ rs) = any_step f r (filter (λ r. not (is_none_kind r)) rs) (is_none_kind r) _ (any_places f rs)

abbrev is_in : ℕ → List ℕ → Bool
is_in p ps = list_any (λ q. q == p) ps

any_weaken : (v : ℕ) (f : ℕ → Bool) (ps : List ℕ) → is_in v ps ≡ true → f v ≡ true → list_any f ps ≡ true
any_weaken v f [] there passes = cc
any_weaken v f (p ∷ ps) there passes =
    elim (or_cases (p == v) (is_in v ps) there) [
      | inl h ↦
          let same : v ≡ p = grind (arith, nat_tests, h) in
          let here : f p ≡ true = rw (← same) passes in
          rw here refl
      | inr h ↦ rw (any_weaken v f ps h passes) (or_true (f p))
    ]

itself : (p : ℕ) → (p == p) ≡ true
itself p = grind (arith, nat_tests)

any_witness : (f : ℕ → Bool) (ps : List ℕ) → list_any f ps ≡ true → (p : ℕ) × (is_in p ps ≡ true) × (f p ≡ true)
any_witness f [] some = absurd (false≢true some)
any_witness f (p ∷ ps) some =
    elim (or_cases (f p) (list_any f ps) some) [
      | inl h ↦ (p, rw (itself p) refl, h)
      | inr h ↦ let w = any_witness f ps h in (w.0, rw w.1 (or_true (p == w.0)), w.2)
    ]

-- each place is found under its word's number, and nothing else is
pub record IsIndex (g : ℕ → Option ℕ) (ps : List ℕ) : Type 0 where
  pub kept : (p : ℕ) → is_in p ps ≡ true → g (p / 8) ≡ Some p
  pub only : (w v : ℕ) → g w ≡ Some v → is_in v ps ≡ true

bool_same : (a b : Bool) → (a ≡ true → b ≡ true) → (b ≡ true → a ≡ true) → a ≡ b
bool_same true b f g = sym (f refl)
bool_same false true f g = g refl
bool_same false false f g = refl

shares_some : (o : Option ℕ) (r : ℕ) → shares o r ≡ true → (v : ℕ) × (o ≡ Some v) × (share_byte v r ≡ true)
shares_some None r h = absurd (false≢true h)
shares_some (Some v) r h = (v, refl, h)

near : (p r : ℕ) → share_byte p r ≡ true → (p / 8 ≡ r / 8 - 1) ⊎ ((p / 8 ≡ r / 8) ⊎ (p / 8 ≡ r / 8 + 1))
near p r share =
    let bounds : (p < r + 8) × (r < p + 8) = grind (arith, nat_tests, share) in
    elim (eqb_tells (p / 8) (r / 8)) [
      | inl h ↦ inr (inl h.1)
      | inr h ↦
          elim (eqb_tells (p / 8) (r / 8 + 1)) [
            | inl k ↦ inr (inr k.1)
            | inr k ↦ inl (omega (arith, h.1, k.1, bounds.0, bounds.1))
          ]
    ]

pub overlaps_same : (g : ℕ → Option ℕ) (ps : List ℕ) (r : ℕ) → IsIndex g ps → (shares (g (r / 8 - 1)) r || shares (g (r / 8)) r || shares (g (r / 8 + 1)) r) ≡ list_any (λ p. share_byte p r) ps
overlaps_same g ps r index = bool_same _ _ found looked
  where
    among : (w : ℕ) → shares (g w) r ≡ true → list_any (λ p. share_byte p r) ps ≡ true
    among w h = let s = shares_some (g w) r h in any_weaken s.0 (λ p. share_byte p r) ps (index.only w s.0 s.1) s.2

    found : (shares (g (r / 8 - 1)) r || shares (g (r / 8)) r || shares (g (r / 8 + 1)) r) ≡ true → list_any (λ p. share_byte p r) ps ≡ true
    found h =
        elim (or_cases (shares (g (r / 8 - 1)) r || shares (g (r / 8)) r) (shares (g (r / 8 + 1)) r) h) [
          | inl k ↦ elim (or_cases (shares (g (r / 8 - 1)) r) (shares (g (r / 8)) r) k) [ inl l ↦ among _ l | inr l ↦ among _ l ]
          | inr k ↦ among _ k
        ]

    at : (p w : ℕ) → is_in p ps ≡ true → share_byte p r ≡ true → p / 8 ≡ w → shares (g w) r ≡ true
    at p w there share word = rw (← word, index.kept p there) share

    looked : list_any (λ p. share_byte p r) ps ≡ true → (shares (g (r / 8 - 1)) r || shares (g (r / 8)) r || shares (g (r / 8 + 1)) r) ≡ true
    looked h =
        let w = any_witness (λ p. share_byte p r) ps h in
        elim (near w.0 r w.2) [
          | inl k ↦ rw (at w.0 (r / 8 - 1) w.1 w.2 k) refl
          | inr k ↦
              elim k [
                | inl l ↦ rw (at w.0 (r / 8) w.1 w.2 l, or_true (shares (g (r / 8 - 1)) r)) refl
                | inr l ↦ rw (at w.0 (r / 8 + 1) w.1 w.2 l) (or_true _)
              ]
        ]

same_word : (p r : ℕ) → p / 8 ≡ r / 8 → share_byte p r ≡ true
same_word p r h = grind (arith, nat_tests)

in_more : (v r : ℕ) (ps : List ℕ) → is_in v ps ≡ true → is_in v (ps ++ r ∷ []) ≡ true
in_more v r ps there = rw (list_any-append, there) refl

in_last : (r : ℕ) (ps : List ℕ) → is_in r (ps ++ r ∷ []) ≡ true
in_last r ps = rw (list_any-append, itself r) (or_true (is_in r ps))

-- one more place, which shares no byte with those that are there
pub IsIndex-more : (g h : ℕ → Option ℕ) (ps : List ℕ) (r : ℕ) → IsIndex g ps → list_any (λ p. share_byte p r) ps ≡ false → h (r / 8) ≡ Some r → ((q : ℕ) → r / 8 ≢ q → h q ≡ g q) → IsIndex h (ps ++ r ∷ [])
IsIndex-more g h ps r index apart at others = record {
  kept = λ p there. keep p (or_cases (is_in p ps) ((r == p) || false) (rw list_any-append at there));
  only = λ w v found. elim (eqb_tells (r / 8) w) [
    | inl e ↦
        let same : Some r ≡ Some v = sym at ∙ ap h e.1 ∙ found in
        let last : r ≡ v = cc in
        rw (← last) (in_last r ps)
    | inr e ↦ in_more v r ps (index.only w v (sym (others w e.1) ∙ found))
  ];
}
  where
    keep : (p : ℕ) → (is_in p ps ≡ true) ⊎ (((r == p) || false) ≡ true) → h (p / 8) ≡ Some p
    keep p (inl there) =
        let other : r / 8 ≢ p / 8 = λ (e : r / 8 ≡ p / 8). false≢true (sym apart ∙ any_weaken p (λ q. share_byte q r) ps there (same_word p r (sym e))) in
        others (p / 8) other ∙ index.kept p there
    keep p (inr here) =
        let same : r ≡ p = grind (arith, nat_tests, here) in
        rw (← same) at

pub IsIndex-none : (g : ℕ → Option ℕ) → ((q : ℕ) → g q ≡ None) → IsIndex g []
IsIndex-none g empty = record {
  kept = λ p there. absurd (false≢true there);
  only = λ w v found. let none : None ≡ Some v = sym (empty w) ∙ found in cc;
}
