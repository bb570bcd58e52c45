use Rattle.std.proofs.Common.{◌≡◌, ◌∙◌, ℕ, ◌+◌, ◌-◌, ◌/◌, ◌≤◌, [], refl, sym, subst, arith}
use Rattle.vw_state.specs.Sites.{site_of}
use Rattle.vw_checks.proofs.Readings.{AllRead, one_read, read_one, upper_read, both_read, whole_read, halves}
use Rattle.vw_checks.proofs.readable.+is_range_readable.Goals as goal

pub returns-then-is_readable : goal.returns-then-is_readable
returns-then-is_readable t c =
    let image = c.args.site.now.image.now in
    let tables = c.args.site.now.tables.now in
    let all : c.args.count - 1 + 1 ≡ c.args.count = omega (arith, c.if-count-eq0.false) in
    let read = whole_read image tables c.args.size c.args.scale c.args.at (c.args.count - 1) (sym c.is_readable.ensures ∙ c.if-is_readable.true) in
    (λ _. subst (λ (k : ℕ). AllRead (site_of image tables [] 0) c.args.size c.args.scale c.args.at k) all read, λ _. refl)

pub returns-then-count-eq1 : goal.returns-then-count-eq1
returns-then-count-eq1 t c =
    let site = site_of c.args.site.now.image.now c.args.site.now.tables.now [] 0 in
    let one : c.args.count ≡ 1 = omega (arith, c.if-count-eq1.true) in (
      λ e. subst (λ (k : ℕ). AllRead site c.args.size c.args.scale c.args.at k) (sym one) (one_read site c.args.size c.args.scale c.args.at (c.are_readable.ensures.0 e)),
      λ all. c.are_readable.ensures.1 (read_one site c.args.size c.args.scale c.args.at (subst (λ (k : ℕ). AllRead site c.args.size c.args.scale c.args.at k) one all)),
    )

pub is_range_readable-requires-then-is_range_readable :
    goal.is_range_readable-requires-then-is_range_readable
is_range_readable-requires-then-is_range_readable t c =
    let half : ℕ = c.args.count / 2 in
    let same = halves c.args.at c.args.scale half c.args.count (omega arith) in
    (omega (arith, c.decreases, c.if-count-eq0.false, c.if-count-eq1.false), omega (arith, same, c.requires))

pub returns-then-is_range_readable : goal.returns-then-is_range_readable
returns-then-is_range_readable t c =
    let site = site_of c.args.site.now.image.now c.args.site.now.tables.now [] 0 in
    let half : ℕ = c.args.count / 2 in
    let few : half ≤ c.args.count = omega arith in (
      λ e. both_read site c.args.size c.args.scale c.args.at half c.args.count (c.is_range_readable.ensures.0 c.if-is_range_readable.true) (c.is_range_readable-then-is_range_readable.ensures.0 e),
      λ all. c.is_range_readable-then-is_range_readable.ensures.1 (upper_read site c.args.size c.args.scale c.args.at half c.args.count few all),
    )
