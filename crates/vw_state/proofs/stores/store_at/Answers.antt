use mir.Val.{SFits}
use Rattle.std.proofs.Common.{◌≡◌, subst, w64, to_z, of_z}
use Rattle.std.proofs.Common.{rules}
use Rattle.std.proofs.lemmas.Int.{to_z-of_z}
use Rattle.std.specs.Prelude.{ℤ}
use Rattle.vw_domain.specs.Abstract.{abstract_of}
use Rattle.vw_domain.specs.Changes.{store_frame}
use Rattle.vw_domain.specs.Stores.{content_size, content_source, content_value}
use Rattle.vw_state.proofs.stores.store_at.Goals as goal

pub returns-in_ok-store-in-Frame-clause-form : goal.returns-in_ok-store-in-Frame-clause-form
returns-in_ok-store-in-Frame-clause-form c =
    let o : ℤ = c.in-Frame.offset in
    let fits : SFits w64 o = search rules in
    let read : to_z w64 (of_z w64 o) ≡ o = to_z-of_z w64 o fits in
    rw c.in-Frame.is
    (λ v. subst (λ (z : ℤ). abstract_of c.store.new.self ≡ store_frame (abstract_of c.args.state.now) z c.args.count (content_size c.args.content) (content_source c.args.content) (content_value v c.args.content)) read (c.in_ok-store-in-Frame.ensures.ok v))

pub returns-in_ok-store-in-Frame-clause-fits : goal.returns-in_ok-store-in-Frame-clause-fits
returns-in_ok-store-in-Frame-clause-fits c = c.in_ok-store-in-Frame.ensures.fits _

pub returns-in-Unknown-clause-form : goal.returns-in-Unknown-clause-form
returns-in-Unknown-clause-form c = rw c.in-Unknown.is (λ v. search rules)

pub returns-in-Unknown-clause-fits : goal.returns-in-Unknown-clause-fits
returns-in-Unknown-clause-fits c = λ fits among. c.lose_slots.ensures.fits _ fits
