use Rattle.std.proofs.Common.{◌≡◌, ℕ, [], ◌∷◌, List, map, Option, None, rules, refl, sym, ap, subst, ◌∙◌, not}
use Rattle.std.specs.List.{find, flat_map}
use Rattle.std.specs.Option.{option_or}
use Rattle.std.proofs.lemmas.Result.{err_from_is_err_and}
use Rattle.vw_bits.specs.Headers.{table}
use Rattle.vw_bits.specs.Rules.{lowest_broken, AllHold}
use Rattle.vw_bits.specs.declared.records.Segment.{Segment}
use Rattle.vw_image.specs.Image.{Contents}
use Rattle.vw_layout.specs.Faults.{fault_in, Names, Tells}
use Rattle.vw_layout.specs.Functions.{symbol_offset}
use Rattle.vw_layout.specs.Tables.{first_of, first_disagreeing, range_rule, pair_rule, table_rule, entry_rule, pairs_of, place_of, table_at, table_rules, tables_of, is_table_entry}
use Rattle.vw_layout.specs.Spans.{span_at, table_in, AreLow, entries_in}
use Rattle.vw_layout.specs.declared.symbols.SymbolEntry.{SymbolEntry}
use Rattle.vw_layout.specs.declared.functions.Function.{Function}
use Rattle.vw_layout.specs.declared.tables.Span.{Span}
use Rattle.vw_layout.specs.declared.faults.ModuleError.{ModuleError}
use Rattle.vw_bits.proofs.FaultLemmas.{names_here, names_next, holds_next}
use Rattle.vw_layout.proofs.ModuleLemmas.{tells_first}
use Rattle.vw_layout.proofs.TableLemmas.{tables_found, entries_found, tables_same, nowhere, AreLow-from_rule}
use Rattle.vw_layout.proofs.tables.read_tables.Goals as goal

module _ (image : Contents) (functions : List Function) (symbols : List SymbolEntry) (ps : List ℕ) (are : pairs_of symbols ≡ ps) where
  abbrev range : Option ℕ
  range = range_rule image.segments (first_of symbols)

  rules_are : table_rules image functions symbols ≡ symbol_offset (first_disagreeing symbols) ∷ option_or range (pair_rule image ps) ∷ table_rule image ps ∷ entry_rule image functions ps ∷ []
  unfolding table_rules
  rules_are = rw are refl

  in_first : (found : Option ℕ) (e : ModuleError) → found ≡ symbol_offset (first_disagreeing symbols) → Tells 32 found e → Names (lowest_broken 32 (table_rules image functions symbols)) e
  in_first found e is tells = rw rules_are (names_here 32 found _ _ (fault_in e) is tells)

  module _ (first : Option ℕ) (agree : first ≡ symbol_offset (first_disagreeing symbols)) (none : first ≡ None) where
    in_range : (e : ModuleError) → Tells 33 range e → Names (lowest_broken 32 (table_rules image functions symbols)) e
    in_range e tells = rw rules_are (names_next 32 first _ _ (fault_in e) agree none (names_here 33 (option_or range (pair_rule image ps)) _ _ (fault_in e) refl (tells_first 33 range (pair_rule image ps) e tells)))

    module _ (placed : range ≡ None) where
      second_is : (second : Option ℕ) → second ≡ pair_rule image ps → second ≡ option_or range (pair_rule image ps)
      second_is second is = rw placed is

      in_pairs : (second : Option ℕ) (e : ModuleError) → second ≡ pair_rule image ps → Tells 33 second e → Names (lowest_broken 32 (table_rules image functions symbols)) e
      in_pairs second e is tells = rw rules_are (names_next 32 first _ _ (fault_in e) agree none (names_here 33 second _ _ (fault_in e) (second_is second is) tells))

      module _ (second : Option ℕ) (pairs : second ≡ pair_rule image ps) (paired : second ≡ None) where
        in_tables : (third : Option ℕ) (e : ModuleError) → third ≡ table_rule image ps → Tells 34 third e → Names (lowest_broken 32 (table_rules image functions symbols)) e
        in_tables third e is tells = rw rules_are (names_next 32 first _ _ (fault_in e) agree none (names_next 33 second _ _ (fault_in e) (second_is second pairs) paired (names_here 34 third _ _ (fault_in e) is tells)))

        in_entries : (third fourth : Option ℕ) (e : ModuleError) → third ≡ table_rule image ps → third ≡ None → fourth ≡ entry_rule image functions ps → Tells 35 fourth e → Names (lowest_broken 32 (table_rules image functions symbols)) e
        in_entries third fourth e tables tabled is tells = rw rules_are (names_next 32 first _ _ (fault_in e) agree none (names_next 33 second _ _ (fault_in e) (second_is second pairs) paired (names_next 34 third _ _ (fault_in e) tables tabled (names_here 35 fourth _ _ (fault_in e) is tells))))

        none_broken : (third fourth : Option ℕ) → third ≡ table_rule image ps → third ≡ None → fourth ≡ entry_rule image functions ps → fourth ≡ None → AllHold (table_rules image functions symbols)
        none_broken third fourth tables tabled is entered = rw rules_are (holds_next 1 first _ _ agree none (holds_next 2 second _ _ (second_is second pairs) paired (holds_next 3 third _ _ tables tabled (holds_next 4 fourth _ _ is entered refl))))

pub returns-in_err-refuse-clause-fault : goal.returns-in_err-refuse-clause-fault
returns-in_err-refuse-clause-fault c =
    let p = err_from_is_err_and c.from_residual.result c.from_residual.ensures.1 in
    rw (p.1, p.2) (in_first c.args.image.now c.args.functions.now c.args.symbols.now _ refl c.first_disagreeing.result _ c.first_disagreeing.ensures c.in_err-refuse.ensures.broken)

pub returns-in_err-pairs-clause-fault : goal.returns-in_err-pairs-clause-fault
returns-in_err-pairs-clause-fault c =
    let p = err_from_is_err_and c.from_residual-in_err-pairs.result c.from_residual-in_err-pairs.ensures.1 in
    let P : List Segment → Type 0 = λ segments. Tells 33 (range_rule segments (first_of c.args.symbols.now)) c.in_err-pairs.field-0.0 in
    rw (p.1, p.2) (in_range c.args.image.now c.args.functions.now c.args.symbols.now _ refl c.first_disagreeing.result c.first_disagreeing.ensures c.in_ok-refuse.ensures.holds _ (subst P c.segments.ensures.lent c.in_err-pairs.ensures.broken))

placed_by : (segments others : List Segment) (symbols : List SymbolEntry) → segments ≡ others → range_rule segments (first_of symbols) ≡ None → range_rule others (first_of symbols) ≡ None
placed_by segments others symbols same none = rw (← same) none

pub returns-in_err-refuse-2-clause-fault : goal.returns-in_err-refuse-2-clause-fault
returns-in_err-refuse-2-clause-fault c =
    let image = c.args.image.now in
    let ps = table c.in_ok-pairs.pairs.start 16 c.in_ok-pairs.pairs.count in
    let placed = placed_by c.segments.result.now image.segments c.args.symbols.now c.segments.ensures.lent c.in_ok-pairs.ensures.holds in
    let second : c.place_of.result ≡ pair_rule image ps = c.place_of.ensures ∙ ap (place_of image.segments) c.first_wrong_pair.ensures in
    let p = err_from_is_err_and c.from_residual-in_err-refuse-2.result c.from_residual-in_err-refuse-2.ensures.1 in
    rw (p.1, p.2) (in_pairs image c.args.functions.now c.args.symbols.now ps c.in_ok-pairs.ensures.pairs c.first_disagreeing.result c.first_disagreeing.ensures c.in_ok-refuse.ensures.holds placed c.place_of.result _ second c.in_err-refuse-2.ensures.broken)

pub read_spans-requires-clause-pairs : goal.read_spans-requires-clause-pairs
read_spans-requires-clause-pairs c = sym c.first_wrong_pair.ensures ∙ nowhere c.args.image.now.segments _ (sym c.place_of.ensures ∙ c.in_ok-refuse-2.ensures.holds)

pub returns-in_err-refuse-3-clause-fault : goal.returns-in_err-refuse-3-clause-fault
returns-in_err-refuse-3-clause-fault c =
    let image = c.args.image.now in
    let ps = table c.in_ok-pairs.pairs.start 16 c.in_ok-pairs.pairs.count in
    let placed = placed_by c.segments.result.now image.segments c.args.symbols.now c.segments.ensures.lent c.in_ok-pairs.ensures.holds in
    let second : c.place_of.result ≡ pair_rule image ps = c.place_of.ensures ∙ ap (place_of image.segments) c.first_wrong_pair.ensures in
    let spans : c.in_ok-spans.spans.items ≡ map (span_at image) ps = search rules in
    let third : c.place_of-2.result ≡ table_rule image ps = c.place_of-2.ensures ∙ ap (place_of image.segments) (c.first_wrong_table.ensures ∙ tables_found image ps c.as_slice.result.now (c.as_slice.ensures.value ∙ spans)) in
    let p = err_from_is_err_and c.from_residual-in_err-refuse-3.result c.from_residual-in_err-refuse-3.ensures.1 in
    rw (p.1, p.2) (in_tables image c.args.functions.now c.args.symbols.now ps c.in_ok-pairs.ensures.pairs c.first_disagreeing.result c.first_disagreeing.ensures c.in_ok-refuse.ensures.holds placed c.place_of.result second c.in_ok-refuse-2.ensures.holds c.place_of-2.result _ third c.in_err-refuse-3.ensures.broken)

pub scan_tables-requires-clause-low : goal.scan_tables-requires-clause-low
scan_tables-requires-clause-low c =
    let segments = c.args.image.now.segments in
    let low : AreLow c.as_slice.result.now = AreLow-from_rule segments c.as_slice.result.now c.requires.bounded (sym c.first_wrong_table.ensures ∙ nowhere segments _ (sym c.place_of-2.ensures ∙ c.in_ok-refuse-3.ensures.holds)) in
    let P : List Span → Type 0 = λ spans. AreLow spans in
    subst P (c.as_slice.ensures.value ∙ sym c.as_slice-2.ensures.value) low

pub returns-in_err-refuse-4-clause-fault : goal.returns-in_err-refuse-4-clause-fault
returns-in_err-refuse-4-clause-fault c =
    let image = c.args.image.now in
    let ps = table c.in_ok-pairs.pairs.start 16 c.in_ok-pairs.pairs.count in
    let placed = placed_by c.segments.result.now image.segments c.args.symbols.now c.segments.ensures.lent c.in_ok-pairs.ensures.holds in
    let second : c.place_of.result ≡ pair_rule image ps = c.place_of.ensures ∙ ap (place_of image.segments) c.first_wrong_pair.ensures in
    let spans : c.in_ok-spans.spans.items ≡ map (span_at image) ps = search rules in
    let third : c.place_of-2.result ≡ table_rule image ps = c.place_of-2.ensures ∙ ap (place_of image.segments) (c.first_wrong_table.ensures ∙ tables_found image ps c.as_slice.result.now (c.as_slice.ensures.value ∙ spans)) in
    let wrong : c.in_ok-scan.scan.wrong ≡ find (λ entry. not (is_table_entry image c.args.functions.now entry)) (flat_map entries_in c.as_slice-2.result.now) = search rules in
    let fourth : c.place_of-3.result ≡ entry_rule image c.args.functions.now ps = c.place_of-3.ensures ∙ ap (place_of image.segments) (wrong ∙ entries_found image c.args.functions.now ps c.as_slice-2.result.now (c.as_slice-2.ensures.value ∙ spans)) in
    let p = err_from_is_err_and c.from_residual-in_err-refuse-4.result c.from_residual-in_err-refuse-4.ensures.1 in
    rw (p.1, p.2) (in_entries image c.args.functions.now c.args.symbols.now ps c.in_ok-pairs.ensures.pairs c.first_disagreeing.result c.first_disagreeing.ensures c.in_ok-refuse.ensures.holds placed c.place_of.result second c.in_ok-refuse-2.ensures.holds c.place_of-2.result c.place_of-3.result _ third c.in_ok-refuse-3.ensures.holds fourth c.in_err-refuse-4.ensures.broken)

pub returns-clause-rules : goal.returns-clause-rules
returns-clause-rules c =
    let image = c.args.image.now in
    let ps = table c.in_ok-pairs.pairs.start 16 c.in_ok-pairs.pairs.count in
    let placed = placed_by c.segments.result.now image.segments c.args.symbols.now c.segments.ensures.lent c.in_ok-pairs.ensures.holds in
    let second : c.place_of.result ≡ pair_rule image ps = c.place_of.ensures ∙ ap (place_of image.segments) c.first_wrong_pair.ensures in
    let spans : c.in_ok-spans.spans.items ≡ map (span_at image) ps = search rules in
    let third : c.place_of-2.result ≡ table_rule image ps = c.place_of-2.ensures ∙ ap (place_of image.segments) (c.first_wrong_table.ensures ∙ tables_found image ps c.as_slice.result.now (c.as_slice.ensures.value ∙ spans)) in
    let wrong : c.in_ok-scan.scan.wrong ≡ find (λ entry. not (is_table_entry image c.args.functions.now entry)) (flat_map entries_in c.as_slice-2.result.now) = search rules in
    let fourth : c.place_of-3.result ≡ entry_rule image c.args.functions.now ps = c.place_of-3.ensures ∙ ap (place_of image.segments) (wrong ∙ entries_found image c.args.functions.now ps c.as_slice-2.result.now (c.as_slice-2.ensures.value ∙ spans)) in
    none_broken image c.args.functions.now c.args.symbols.now ps c.in_ok-pairs.ensures.pairs c.first_disagreeing.result c.first_disagreeing.ensures c.in_ok-refuse.ensures.holds placed c.place_of.result second c.in_ok-refuse-2.ensures.holds c.place_of-2.result c.place_of-3.result third c.in_ok-refuse-3.ensures.holds fourth c.in_ok-refuse-4.ensures.holds

pub returns-clause-ok : goal.returns-clause-ok
unfolding tables_of
returns-clause-ok c =
    let image = c.args.image.now in
    let ps = table c.in_ok-pairs.pairs.start 16 c.in_ok-pairs.pairs.count in
    let spans : c.in_ok-spans.spans.items ≡ map (span_at image) ps = search rules in
    let read : c.in_ok-scan.scan.wrong ≡ None → c.in_ok-scan.scan.tables ≡ map (table_in image) c.as_slice-2.result.now = search rules in
    let none : c.in_ok-scan.scan.wrong ≡ None = nowhere image.segments _ (sym c.place_of-3.ensures ∙ c.in_ok-refuse-4.ensures.holds) in
    read none ∙ tables_same image ps c.as_slice-2.result.now (c.as_slice-2.ensures.value ∙ spans) ∙ ap (map (table_at image)) (sym c.in_ok-pairs.ensures.pairs)
