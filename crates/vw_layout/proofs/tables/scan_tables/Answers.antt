use Rattle.std.proofs.Common.{ℕ, Bool, not, List, [], ◌∷◌, ◌++◌, get_or, take, map, sym, ap, ◌∙◌}
use Rattle.std.proofs.lemmas.List.{map_more}
use Rattle.vw_layout.specs.Tables.{is_table_entry}
use Rattle.vw_layout.specs.Spans.{entries_in, table_in}
use Rattle.vw_layout.specs.declared.tables.Span.{Span}
use Rattle.vw_layout.specs.declared.tables.TableInfo.{TableInfo}
use Rattle.vw_layout.specs.declared.tables.TableEntry.{TableEntry}
use Rattle.vw_layout.proofs.TableLemmas.{find_flat_more, find_flat_here}
use Rattle.vw_layout.proofs.tables.scan_tables.Goals as goal

abbrev blank : Span
blank = record { pair = 0; start = 0; count = 0 }

pub returns-in-Some-clause-wrong : goal.returns-in-Some-clause-wrong
returns-in-Some-clause-wrong c =
    let p : ℕ → Bool = λ entry. not (is_table_entry c.args.image.now c.args.functions.now entry) in
    sym (find_flat_here p entries_in c.args.spans.now c.loop-span.span-index blank _ c.loop-span-test.true c.loop-span.invariant.none (sym c.in_ok-scan.ensures.wrong ∙ c.in-Some.is))

pub loop-span-preserved : goal.loop-span-preserved
loop-span-preserved c =
    let xs = c.args.spans.now in
    let i = c.loop-span.span-index in
    let x = get_or xs i blank in
    let image = c.args.image.now in
    let p : ℕ → Bool = λ entry. not (is_table_entry image c.args.functions.now entry) in
    let from : List TableEntry → TableInfo = λ entries. record { address = x.start; entries = entries } in
    record {
      none = find_flat_more p entries_in xs i blank c.loop-span-test.true c.loop-span.invariant.none (sym c.in_ok-scan.ensures.wrong ∙ c.in-None.is);
      tables =
          c.in_ok-push-in-None.ensures.ok
          ∙ (ap (λ (tables : List TableInfo). tables ++ from c.in_ok-scan.scan.entries ∷ []) c.loop-span.invariant.tables
          ∙ (ap (λ (entries : List TableEntry). map (table_in image) (take i xs) ++ from entries ∷ []) (c.in_ok-scan.ensures.entries c.in-None.is)
          ∙ sym (map_more (table_in image) xs i blank c.loop-span-test.true)));
    }
