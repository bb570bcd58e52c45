use Rattle.std.proofs.Common.{ℕ, Bool, not, refl, sym}
use Rattle.vw_bits.proofs.Tables.{table-none, find_table_more, find_table_here}
use Rattle.vw_layout.specs.Tables.{is_table_entry, table_entry_at}
use Rattle.vw_layout.proofs.TableLemmas.{read_one}
use Rattle.vw_layout.proofs.tables.scan_table.Goals as goal

pub loop-index-init : goal.loop-index-init
loop-index-init c = record { none = rw table-none refl; entries = rw table-none c.new-entries.ensures }

pub returns-in-None-clause-wrong : goal.returns-in-None-clause-wrong
returns-in-None-clause-wrong c =
    let p : ℕ → Bool = λ entry. not (is_table_entry c.args.image.now c.args.functions.now entry) in
    sym (find_table_here p c.args.span.now.start 16 c.loop-index.index c.args.span.now.count _ c.loop-index-test.true refl c.loop-index.invariant.none (rw (← c.in-None.ensures.test) refl))

pub loop-index-preserved : goal.loop-index-preserved
loop-index-preserved c =
    let p : ℕ → Bool = λ entry. not (is_table_entry c.args.image.now c.args.functions.now entry) in
    record {
      none = find_table_more p c.args.span.now.start 16 c.loop-index.index _ refl c.loop-index.invariant.none (rw (← c.in-Some.ensures.test) refl);
      entries = read_one (table_entry_at c.args.image.now) c.args.span.now.start c.loop-index.index _ _ _ c.in-Some.ensures.value c.loop-index.invariant.entries c.in_ok-push-in-Some.ensures.ok;
    }
