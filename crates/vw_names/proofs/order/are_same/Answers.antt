use Rattle.std.proofs.Common.{◌≡◌, ℕ, ap}
use Rattle.std.specs.Prelude.{◌==◌, ◌&&◌}
use Rattle.std.specs.Bool.{Decides}
use Rattle.std.proofs.lemmas.Bool.Decides.{Decides-eqb, Decides-and}
use Rattle.std.proofs.lemmas.Slice.Eq.{slice_eq-Decides}
use Rattle.vw_names.proofs.order.are_same.Goals as goal

pair_same : (x y : ℕ × ℕ) → x.0 ≡ y.0 → x.1 ≡ y.1 → x ≡ y
pair_same (a, b) (c, d) first second = cc

same_pairs : (x y : ℕ × ℕ) → Decides ((x.0 == y.0) && (x.1 == y.1)) (x ≡ y)
same_pairs x y =
    let both = Decides-and (x.0 == y.0) (x.1 == y.1) (Decides-eqb x.0 y.0) (Decides-eqb x.1 y.1) in
    (λ t. let parts = both.0 t in pair_same x y parts.0 parts.1, λ e. both.1 (ap (λ (p : ℕ × ℕ). p.0) e, ap (λ (p : ℕ × ℕ). p.1) e))

pub returns : goal.returns
returns c = slice_eq-Decides same_pairs c.args.low.now c.args.high.now c.eq.result c.eq.ensures
