use Rattle.std.proofs.Common.{◌≡◌, ℕ, ◌+◌, ◌<◌, ◌++◌, [], ◌∷◌, ◌||◌, ◌&&◌, Bool, true, false, List, length, take, get_or, set, min, None, refl, sym, ap, ◌∙◌, arith, get_or-set_same, get_or-set_other, length-set, ◌≢◌, inl, inr, replicate, zero, suc}
use Rattle.std.specs.List.{find}
use Rattle.std.proofs.lemmas.List.{take_more, take_all}
use Rattle.std.proofs.lemmas.List.Folds.{list_any-append}
use Rattle.std.proofs.lemmas.Bool.Decides.{eqb_tells, nat_tests}
use Rattle.vw_bits.specs.Rules.{with_earlier}
use Rattle.vw_bits.proofs.ListLemmas.{or_true}
use Rattle.vw_bits.proofs.Tables.{find_earlier_more, find_earlier_here}
use Rattle.vw_dynamic.specs.Entries.{is_single, stands_in, first_repeated}
use Rattle.vw_dynamic.specs.declared.entries.Entry.{Entry}
use Rattle.vw_dynamic.proofs.entries.first_repeated.Goals as goal

abbrev blank : Entry
blank = record { at = 0; tag = 0; value = 0 }

abbrev repeats : List Entry × Entry → Bool
repeats p = is_single p.1.tag && stands_in p.1.tag p.0

or_false : (b : Bool) → (b || false) ≡ b
or_false true = refl
or_false false = refl

unseen : (n t : ℕ) → get_or (replicate n false) t false ≡ false
unseen zero t = refl
unseen (suc n) zero = refl
unseen (suc n) (suc t) = unseen n t

marked : (seen : List Bool) (before : List Entry) (e : Entry) (slot t : ℕ) → length seen ≡ 25 → slot ≡ min e.tag 24 → t < 24 → get_or seen t false ≡ stands_in t before → get_or (set seen slot true) t false ≡ stands_in t (before ++ e ∷ [])
marked seen before e slot t size is below known =
    let inside : slot < length seen = omega arith in
    elim (eqb_tells e.tag t) [
      | inl h ↦
          let same : slot ≡ t = omega arith in
          let at : get_or (set seen slot true) t false ≡ true = rw (← same) (get_or-set_same seen slot true false inside) in
          rw (at, list_any-append, h.0) (sym (or_true (stands_in t before)))
      | inr h ↦
          let other : t ≢ slot = λ (same : t ≡ slot). h.1 (omega arith) in
          let at : get_or (set seen slot true) t false ≡ get_or seen t false = rw get_or-set_other refl in
          rw (at, list_any-append, h.0, known) (sym (or_false (stands_in t before)))
    ]

both : (s a b : Bool) → (s ≡ true → a ≡ b) → (s && a) ≡ (s && b)
both true a b same = same refl
both false a b same = refl

single_below : (tag : ℕ) → is_single tag ≡ true → tag < 24
single_below tag single = grind (arith, nat_tests)

-- the tag that the code looks up is one of those that are marked
looked_up : (seen : List Bool) (before : List Entry) (tag : ℕ) → ((t : ℕ) → t < 24 → get_or seen t false ≡ stands_in t before) → (is_single tag && get_or seen tag false) ≡ (is_single tag && stands_in tag before)
looked_up seen before tag known = both (is_single tag) _ _ (λ single. known tag (single_below tag single))

pub loop-entry-init : goal.loop-entry-init
loop-entry-init c = record { size = refl; tags = λ t below. unseen 25 t; none = refl }

pub returns-then-is_repeated : goal.returns-then-is_repeated
unfolding first_repeated
returns-then-is_repeated c =
    let xs = c.args.entries.now in
    let here = sym (looked_up c.loop-entry.seen (take c.loop-entry.entry-index xs) (get_or xs c.loop-entry.entry-index blank).tag c.loop-entry.invariant.tags) ∙ (sym c.is_repeated.ensures ∙ c.if-is_repeated.true) in
    let found = find_earlier_here repeats xs c.loop-entry.entry-index blank c.loop-entry-test.true c.loop-entry.invariant.none here in
    rw found refl

pub loop-entry-preserved : goal.loop-entry-preserved
loop-entry-preserved c =
    let xs = c.args.entries.now in
    let i = c.loop-entry.entry-index in
    let here = sym (looked_up c.loop-entry.seen (take i xs) (get_or xs i blank).tag c.loop-entry.invariant.tags) ∙ (sym c.is_repeated.ensures ∙ c.if-is_repeated.false) in
    let step : take (i + 1) xs ≡ take i xs ++ get_or xs i blank ∷ [] = take_more xs i blank c.loop-entry-test.true in
    record {
      size = rw length-set c.loop-entry.invariant.size;
      tags = λ t below. rw step (marked _ _ _ _ t c.loop-entry.invariant.size c.min.ensures below (c.loop-entry.invariant.tags t below));
      none = find_earlier_more repeats xs i blank c.loop-entry-test.true c.loop-entry.invariant.none here;
    }

pub returns : goal.returns
unfolding first_repeated
returns c =
    let xs = c.args.entries.now in
    let none : find repeats (with_earlier xs) ≡ None = ap (λ (ys : List Entry). find repeats (with_earlier ys)) (sym (take_all c.loop-entry.entry-index xs c.loop-entry-test.false)) ∙ c.loop-entry.invariant.none in
    rw none refl
