use Rattle.std.proofs.Common.{◌≡◌, ◌≢◌, ℕ, ◌+◌, ◌++◌, [], ◌∷◌, List, true, false, take, get_or, refl, ap, arith}
use Rattle.std.specs.BTreeMap.{is_at}
use Rattle.std.specs.Ordering.{nat_cmp}
use Rattle.std.proofs.lemmas.List.{take_more, append-nil}
use Rattle.std.proofs.lemmas.List.Elements.{filter-append}
use Rattle.std.proofs.lemmas.Bool.Decides.{nat_tests}
use Rattle.vw_dynamic.specs.declared.dynamic.Relocation.{Relocation}
use Rattle.vw_image.specs.Bounds.{AreSeparate}
use Rattle.vw_image.specs.Index.{kind_at, is_bound_kind, bound_ones}
use Rattle.vw_image.proofs.Lists.{All-filter}
use Rattle.vw_image.proofs.Relocations.{blank, kind_at-before, IsIndex-more, front_separate}
use Rattle.vw_image.proofs.index.bound_by_place.Goals as goal
use Rattle.vw_image.proofs.index.bound_by_place.Goals.{in-Bound+in_ok-insert, in_default}

apart_at : (k q : ℕ) → k ≢ q → is_at (nat_cmp k) q ≡ false
apart_at k q apart = grind (arith, nat_tests)

bound-more : (xs : List Relocation) (r : Relocation) → is_bound_kind r.kind ≡ true → bound_ones (xs ++ r ∷ []) ≡ bound_ones xs ++ r ∷ []
bound-more xs r is = rw (filter-append, is) refl

bound-same : (xs : List Relocation) (r : Relocation) → is_bound_kind r.kind ≡ false → bound_ones (xs ++ r ∷ []) ≡ bound_ones xs
bound-same xs r is = rw (filter-append, is, append-nil) refl

pub loop-relocation-init : goal.loop-relocation-init
unfolding kind_at
loop-relocation-init c = λ q. rw c.new-index.ensures.empty refl

pub loop-relocation-preserved : goal.loop-relocation-preserved
loop-relocation-preserved c =
    let xs = c.args.relocations.now in
    let i = c.loop-relocation.relocation-index in
    let r = get_or xs i blank in
    let step : take (i + 1) xs ≡ take i xs ++ r ∷ [] = take_more xs i blank c.loop-relocation-test.true in
    elim c.match-relocation.branch [
      | in-Bound+in_ok-insert w ↦
          let bound : is_bound_kind r.kind ≡ true = ap is_bound_kind w.in-Bound.is in
          let updates = w.in_ok-insert.ensures.updates in
          rw (w.index-is, step, bound-more (take i xs) r bound) (IsIndex-more c.loop-relocation.index w.insert.new.self (bound_ones (take i xs)) r c.loop-relocation.invariant
          (kind_at-before (bound_ones (take i xs)) r (All-filter (λ s. AreSeparate s r) (λ s. is_bound_kind s.kind) (take i xs) (front_separate xs i c.loop-relocation-test.true c.requires)))
          updates.1 (λ q ne. updates.2 q (apart_at r.place q ne)))
      | in_default w ↦
          let based : is_bound_kind r.kind ≡ false = ap is_bound_kind w.in_default.is in
          rw (w.index-is, step, bound-same (take i xs) r based) c.loop-relocation.invariant
    ]
