use Rattle.std.proofs.Common.{◌≡◌, ap, int_eq}
use Rattle.std.specs.Prelude.{ℤ, ◌&&◌}
use Rattle.std.specs.Bool.{Decides}
use Rattle.std.proofs.lemmas.Bool.Decides.{Decides-int_eq, Decides-and}
use Rattle.std.proofs.lemmas.Slice.Eq.{slice_eq-Decides}
use Rattle.vw_locals.proofs.search.are_same.Goals as goal

pair_same : (x y : ℤ × ℤ) → x.0 ≡ y.0 → x.1 ≡ y.1 → x ≡ y
pair_same (a, b) (c, d) first second = cc

same_pairs : (x y : ℤ × ℤ) → Decides (int_eq x.0 y.0 && int_eq x.1 y.1) (x ≡ y)
same_pairs x y =
    let both = Decides-and (int_eq x.0 y.0) (int_eq x.1 y.1) (Decides-int_eq x.0 y.0) (Decides-int_eq x.1 y.1) in
    (λ t. let parts = both.0 t in pair_same x y parts.0 parts.1, λ e. both.1 (ap (λ (p : ℤ × ℤ). p.0) e, ap (λ (p : ℤ × ℤ). p.1) e))

pub returns : goal.returns
returns c = slice_eq-Decides same_pairs c.args.ranges.now c.args.other.now c.eq.result c.eq.ensures
