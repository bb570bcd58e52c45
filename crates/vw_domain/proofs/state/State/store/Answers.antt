use Rattle.std.proofs.Common.{◌≡◌, sym, subst, ap, ◌∙◌, arith, w64, to_z, of_z}
use Rattle.std.proofs.lemmas.Int.{ints}
use Rattle.std.specs.Prelude.{ℤ}
use Rattle.vw_domain.specs.declared.parts.Parts.{Parts}
use Rattle.vw_domain.specs.State.{IsState, Fits}
use Rattle.vw_domain.specs.Abstract.{abstract_of}
use Rattle.vw_domain.specs.Changes.{store_frame}
use Rattle.vw_domain.specs.Stores.{content_size, content_source, content_value, StoresBytes}
use Rattle.vw_domain.proofs.StoreDone.{IsStored, store_done}
use Rattle.vw_domain.proofs.state.State.store.Goals as goal

done : (c : goal.In-Ok) → IsStored c.deref_mut.result.now c.store.new.parts c.args.offset c.args.count c.args.content
done c =
    let same : to_z w64 (of_z w64 c.args.offset) ≡ c.args.offset = omega (arith, ints) in
    let stores : StoresBytes c.args.offset c.args.count c.args.content c.deref_mut.result.now c.store.new.parts =
    subst (λ (o : ℤ). StoresBytes o c.args.count c.args.content c.deref_mut.result.now c.store.new.parts) same c.in-Ok.ensures in
    store_done c.deref_mut.result.now c.store.new.parts c.args.offset c.args.count c.args.content c.requires.offset c.requires.some (subst IsState (sym c.deref_mut.ensures.value) c.self.invariant) c.requires.content stores

pub invariant_of-self : goal.invariant_of-self
invariant_of-self c = (done c).state

pub returns-in-Ok-clause-ok : goal.returns-in-Ok-clause-ok
returns-in-Ok-clause-ok c = λ v.
    (done c).form v
    ∙ ap (λ (s : Parts). store_frame (abstract_of s) c.args.offset c.args.count (content_size c.args.content) (content_source c.args.content) (content_value v c.args.content)) (c.deref_mut.ensures.value ∙ c.self.view_is)

pub returns-in-Ok-clause-fits : goal.returns-in-Ok-clause-fits
returns-in-Ok-clause-fits c = λ b fits among. (done c).fits b (subst (λ (s : Parts). Fits b s) (sym (c.deref_mut.ensures.value ∙ c.self.view_is)) fits) among
