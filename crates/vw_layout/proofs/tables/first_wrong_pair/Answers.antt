use Rattle.std.proofs.Common.{◌≡◌, ℕ, Bool, not, refl, sym, arith}
use Rattle.vw_bits.proofs.Tables.{table-none, find_table_more, find_table_here}
use Rattle.vw_layout.specs.Tables.{is_pair}
use Rattle.vw_layout.proofs.TableLemmas.{found_all}
use Rattle.vw_layout.proofs.tables.first_wrong_pair.Goals as goal

pub loop-index-init : goal.loop-index-init
loop-index-init c = rw table-none refl

pub returns-then-not-is_pair : goal.returns-then-not-is_pair
returns-then-not-is_pair c =
    let p : ℕ → Bool = λ pair. not (is_pair c.args.image.now pair) in
    sym (find_table_here p c.args.pairs.start 16 c.loop-index.index c.args.pairs.count _ c.loop-index-test.true refl c.loop-index.invariant (rw (← c.is_pair.ensures, c.if-not-is_pair.true) refl))

pub loop-index-preserved : goal.loop-index-preserved
loop-index-preserved c =
    let p : ℕ → Bool = λ pair. not (is_pair c.args.image.now pair) in
    find_table_more p c.args.pairs.start 16 c.loop-index.index _ refl c.loop-index.invariant (rw (← c.is_pair.ensures, c.if-not-is_pair.false) refl)

pub returns : goal.returns
returns c =
    let all : c.loop-index.index ≡ c.args.pairs.count = omega arith in
    let p : ℕ → Bool = λ pair. not (is_pair c.args.image.now pair) in
    found_all p c.args.pairs.start _ _ all c.loop-index.invariant
