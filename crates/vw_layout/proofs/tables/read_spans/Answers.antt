use Rattle.std.proofs.Common.{◌≡◌, ℕ, Bool, true, false, not, refl, arith}
use Rattle.vw_bits.proofs.Tables.{table-none}
use Rattle.vw_bits.proofs.RuleLemmas.{find_none_at}
use Rattle.vw_layout.specs.Tables.{is_pair}
use Rattle.vw_layout.specs.Spans.{span_at}
use Rattle.vw_layout.proofs.TableLemmas.{read_one, read_all}
use Rattle.vw_layout.proofs.tables.read_spans.Goals as goal

passed : (b : Bool) → not b ≡ false → b ≡ true
passed true h = refl
passed false h = cc

pub loop-index-init : goal.loop-index-init
loop-index-init c = rw table-none c.new-spans.ensures.items

pub span_at-requires-clause-pair : goal.span_at-requires-clause-pair
span_at-requires-clause-pair c =
    let p : ℕ → Bool = λ pair. not (is_pair c.args.image.now pair) in
    passed _ (find_none_at p c.args.pairs.start 16 c.args.pairs.count c.loop-index.index c.requires.pairs c.loop-index-test.true)

pub loop-index-preserved : goal.loop-index-preserved
loop-index-preserved c = read_one (span_at c.args.image.now) c.args.pairs.start c.loop-index.index _ _ _ c.span_at.ensures c.loop-index.invariant c.in_ok-push.ensures.items

pub returns : goal.returns
returns c =
    let all : c.loop-index.index ≡ c.args.pairs.count = omega arith in
    read_all (span_at c.args.image.now) c.args.pairs.start _ _ _ all c.loop-index.invariant
