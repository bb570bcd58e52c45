use Rattle.std.proofs.Common.{◌≡◌, ◌≢◌, ℕ, ◌+◌, ◌++◌, [], ◌∷◌, false, take, get_or, refl, arith}
use Rattle.std.specs.BTreeMap.{is_at}
use Rattle.std.specs.Ordering.{nat_cmp}
use Rattle.std.proofs.lemmas.List.{take_more}
use Rattle.std.proofs.lemmas.Bool.Decides.{nat_tests}
use Rattle.vw_image.specs.Index.{kind_at}
use Rattle.vw_image.proofs.Relocations.{blank, kind_at-before, IsIndex-more, front_separate}
use Rattle.vw_image.proofs.index.by_place.Goals as goal

apart_at : (k q : ℕ) → k ≢ q → is_at (nat_cmp k) q ≡ false
apart_at k q apart = grind (arith, nat_tests)

pub loop-relocation-init : goal.loop-relocation-init
unfolding kind_at
loop-relocation-init c = λ q. rw c.new-index.ensures.empty refl

pub loop-relocation-preserved : goal.loop-relocation-preserved
loop-relocation-preserved c =
    let xs = c.args.relocations.now in
    let i = c.loop-relocation.relocation-index in
    let r = get_or xs i blank in
    let step : take (i + 1) xs ≡ take i xs ++ r ∷ [] = take_more xs i blank c.loop-relocation-test.true in
    let updates = c.in_ok-insert.ensures.updates in
    rw step (IsIndex-more c.loop-relocation.index c.insert.new.self (take i xs) r c.loop-relocation.invariant
    (kind_at-before (take i xs) r (front_separate xs i c.loop-relocation-test.true c.requires))
    updates.1 (λ q ne. updates.2 q (apart_at r.place q ne)))
