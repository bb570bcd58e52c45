use Rattle.std.proofs.Common.{◌++◌, [], ◌∷◌, List, arith, sym, ap, ◌∙◌}
use Rattle.std.specs.Prelude.{ℤ, pos}
use Rattle.vw_domain.proofs.PartLemmas.{item_at, take_step, few_ranges}
use Rattle.vw_domain.proofs.state_parts.ranges_of.Goals as goal

pub loop-i-preserved : goal.loop-i-preserved
loop-i-preserved c =
    let written : List (ℤ × ℤ) = c.args.written.now in
    let range : ℤ × ℤ = c.in-Some.range in
    let item = item_at written c.loop-i.i range c.in-Some.ensures.range in
    let within = item.within in
    let push : List (ℤ × ℤ) → List (ℤ × ℤ) = λ xs. xs ++ range ∷ [] in
    record {
      within = omega arith;
      ranges = c.in_ok-push-in-Some.ensures.ok ∙ ap push c.loop-i.invariant.ranges ∙ sym (take_step written c.loop-i.i range within item.is);
    }

pub returns : goal.returns
returns c =
    let few = few_ranges c.args.written.now (pos 0, pos 0) c.requires.ranges c.requires.frame in
    absurd (omega arith)
