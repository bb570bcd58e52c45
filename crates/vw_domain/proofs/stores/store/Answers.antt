use Rattle.std.proofs.Common.{arith, subst, w64, to_z, of_z, ◌≡◌}
use Rattle.std.proofs.lemmas.Int.{ints}
use Rattle.std.specs.Prelude.{ℤ, pos, ◌+ℤ◌}
use Rattle.vw_domain.specs.declared.parts.Parts.{Parts}
use Rattle.vw_domain.specs.Stores.{LosesSlots, PutsContent, AddsBelow, is_overlapped}
use Rattle.vw_domain.proofs.stores.store.Goals as goal

pub returns : goal.returns
returns c =
    let o : ℤ = c.args.offset in
    let z : ℤ = to_z w64 (of_z w64 o) in
    let end : ℤ = to_z w64 (of_z w64 (z +ℤ to_z w64 c.args.count)) in
    let same : z ≡ o = omega (arith, ints) in
    let is_end : end ≡ (o +ℤ pos c.args.count) = omega (arith, ints) in
    let old : Parts = c.args.parts.now in
    let left : Parts = c.lose_overlapped.new.parts in
    let filled : Parts = c.put_content.new.parts in
    let new : Parts = c.add_below.new.parts in
    record {
      left = left;
      filled = filled;
      loses = subst (λ (x : ℤ). LosesSlots (is_overlapped x c.args.count) old left) same c.lose_overlapped.ensures;
      puts = subst (λ (x : ℤ). PutsContent x c.args.content left filled) same c.in_ok-put_content.ensures.ok;
      adds = subst (λ (x : ℤ). AddsBelow o x filled new) is_end (subst (λ (x : ℤ). AddsBelow x end filled new) same c.in_ok-add_below.ensures.ok);
    }
