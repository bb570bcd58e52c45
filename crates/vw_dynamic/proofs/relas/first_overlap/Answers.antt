use Rattle.std.proofs.Common.{◌≡◌, ◌≢◌, ℕ, ◌+◌, ◌-◌, ◌/◌, ◌++◌, [], ◌∷◌, ◌&&◌, ◌||◌, Bool, true, false, not, List, take, get_or, None, Option, refl, sym, ap, ◌∙◌, arith}
use Rattle.std.specs.List.{find, list_any}
use Rattle.std.specs.BTreeMap.{get, is_at}
use Rattle.std.specs.Ordering.{nat_cmp}
use Rattle.std.proofs.lemmas.List.{map-append, append-nil, take_more, take_all}
use Rattle.std.proofs.lemmas.List.Elements.{filter-append}
use Rattle.std.proofs.lemmas.Bool.Decides.{nat_tests}
use Rattle.vw_bits.specs.Rules.{with_earlier}
use Rattle.vw_bits.proofs.Tables.{find_earlier_more, find_earlier_here}
use Rattle.vw_dynamic.proofs.OverlapLemmas.{IsIndex, places_of, any_places, overlaps_same, IsIndex-more, IsIndex-none}
use Rattle.vw_dynamic.specs.Relas.{is_none_kind, share_byte, shares, first_overlap}
use Rattle.vw_dynamic.specs.declared.relas.RelaEntry.{RelaEntry}
use Rattle.vw_dynamic.proofs.relas.first_overlap.Goals as goal
use Rattle.vw_dynamic.proofs.relas.first_overlap.Goals.{then-rela-ne-R_NONE+else-overlaps+in_ok-insert, else-rela-ne-R_NONE}

abbrev blank : RelaEntry
blank = record { at = 0; place = 0; symbol = 0; kind = 0; addend = 0 }

abbrev overlapping : List RelaEntry × RelaEntry → Bool
overlapping p = not (is_none_kind p.1) && list_any (λ e. not (is_none_kind e) && share_byte e.place p.1.place) p.0

some_kind : (r : RelaEntry) → (r.kind ≡ 0 → ⊥) → is_none_kind r ≡ false
some_kind r h = grind (arith, nat_tests)

none_kind : (r : RelaEntry) → r.kind ≡ 0 → is_none_kind r ≡ true
none_kind r h = grind (arith, nat_tests)

found_by : (g : ℕ → Option ℕ) (before : List RelaEntry) (r : RelaEntry) → (r.kind ≡ 0 → ⊥) → IsIndex g (places_of before) → (shares (g (r.place / 8 - 1)) r.place || shares (g (r.place / 8)) r.place || shares (g (r.place / 8 + 1)) r.place) ≡ overlapping (before, r)
found_by g before r some index =
    rw (some_kind r some, any_places (λ p. share_byte p r.place) before) (overlaps_same g (places_of before) r.place index)

passed_by : (before : List RelaEntry) (r : RelaEntry) → r.kind ≡ 0 → overlapping (before, r) ≡ false
passed_by before r none = rw (none_kind r none) refl

places-more : (before : List RelaEntry) (r : RelaEntry) → (r.kind ≡ 0 → ⊥) → places_of (before ++ r ∷ []) ≡ places_of before ++ r.place ∷ []
places-more before r some = rw (filter-append, some_kind r some, map-append) refl

places-none : (before : List RelaEntry) (r : RelaEntry) → r.kind ≡ 0 → places_of (before ++ r ∷ []) ≡ places_of before
places-none before r none = rw (filter-append, none_kind r none, append-nil) refl

apart_at : (k q : ℕ) → k ≢ q → is_at (nat_cmp k) q ≡ false
apart_at k q apart = grind (arith, nat_tests)

pub loop-rela-init : goal.loop-rela-init
loop-rela-init c = record { index = IsIndex-none _ (λ q. rw c.new-places.ensures.empty refl); none = refl }

pub returns-then-overlaps : goal.returns-then-overlaps
unfolding first_overlap
returns-then-overlaps c =
    let xs = c.args.relas.now in
    let i = c.loop-rela.rela-index in
    let here : overlapping (take i xs, get_or xs i blank) ≡ true = sym (found_by (get nat_cmp c.loop-rela.places) (take i xs) (get_or xs i blank) c.if-rela-ne-R_NONE.true c.loop-rela.invariant.index) ∙ (sym c.overlaps.ensures ∙ c.if-overlaps.true) in
    let found = find_earlier_here overlapping xs i blank c.loop-rela-test.true c.loop-rela.invariant.none here in
    rw found refl

pub loop-rela-preserved : goal.loop-rela-preserved
loop-rela-preserved c =
    let xs = c.args.relas.now in
    let i = c.loop-rela.rela-index in
    let r = get_or xs i blank in
    let step : take (i + 1) xs ≡ take i xs ++ r ∷ [] = take_more xs i blank c.loop-rela-test.true in
    elim c.if-rela-ne-R_NONE.branch [
      | then-rela-ne-R_NONE+else-overlaps+in_ok-insert w ↦
          let same = found_by (get nat_cmp c.loop-rela.places) (take i xs) r w.if-rela-ne-R_NONE.true c.loop-rela.invariant.index in
          let here : overlapping (take i xs, r) ≡ false = sym same ∙ (sym w.overlaps.ensures ∙ w.if-overlaps.false) in
          let apart : list_any (λ p. share_byte p r.place) (places_of (take i xs)) ≡ false = sym (overlaps_same (get nat_cmp c.loop-rela.places) (places_of (take i xs)) r.place c.loop-rela.invariant.index) ∙ (sym w.overlaps.ensures ∙ w.if-overlaps.false) in
          let updates = w.in_ok-insert.ensures.updates in
          let grown : IsIndex (get nat_cmp w.insert.new.self) (places_of (take i xs) ++ r.place ∷ []) = IsIndex-more (get nat_cmp c.loop-rela.places) (get nat_cmp w.insert.new.self) (places_of (take i xs)) r.place c.loop-rela.invariant.index apart updates.1 (λ q ne. updates.2 q (apart_at (r.place / 8) q ne)) in
          record {
            index = rw (w.places-is, step, places-more (take i xs) r w.if-rela-ne-R_NONE.true) grown;
            none = find_earlier_more overlapping xs i blank c.loop-rela-test.true c.loop-rela.invariant.none here;
          }
      | else-rela-ne-R_NONE w ↦
          record {
            index = rw (w.places-is, step, places-none (take i xs) r w.if-rela-ne-R_NONE.false) c.loop-rela.invariant.index;
            none = find_earlier_more overlapping xs i blank c.loop-rela-test.true c.loop-rela.invariant.none (passed_by (take i xs) r w.if-rela-ne-R_NONE.false);
          }
    ]

pub returns : goal.returns
unfolding first_overlap
returns c =
    let xs = c.args.relas.now in
    let none : find overlapping (with_earlier xs) ≡ None = ap (λ (ys : List RelaEntry). find overlapping (with_earlier ys)) (sym (take_all c.loop-rela.rela-index xs c.loop-rela-test.false)) ∙ c.loop-rela.invariant.none in
    rw none refl
