use Rattle.std.proofs.Common.{◌≡◌, ℕ, List, map, Option, not, false, ◌==◌, rules, refl, sym, ap, subst, ◌∙◌}
use Rattle.std.specs.BTreeMap.{get, keys}
use Rattle.std.specs.Ordering.{nat_cmp}
use Rattle.std.specs.List.{find, filter_map}
use Rattle.std.specs.Option.{option_map_or}
use Rattle.vw_layout.specs.Bounds.{Rises, IsShort, AreShort}
use Rattle.vw_layout.specs.Functions.{function_rules, first_at, addresses_of, by_address, symbol_offset, is_resized, first_overlap}
use Rattle.vw_layout.specs.declared.symbols.SymbolEntry.{SymbolEntry}
use Rattle.vw_layout.proofs.AddressLemmas.{resized_same, order_same, Rises-by_address, All-by_address}
use Rattle.vw_layout.proofs.ShortLemmas.{AreShort-from_rule}
use Rattle.vw_bits.proofs.FaultLemmas.{names_here, names_next, holds_next}
use Rattle.vw_layout.proofs.functions.check_symbols.Goals as goal

-- the first symbol of each address, in the order of the addresses
module _ (symbols : List SymbolEntry) (g : ℕ → Option SymbolEntry) (firsts : (a : ℕ) → g a ≡ first_at symbols a) where
  in_order : (addresses : List ℕ) (functions lent : List SymbolEntry) → addresses ≡ addresses_of symbols → functions ≡ filter_map g addresses → lent ≡ functions → lent ≡ by_address symbols
  in_order addresses functions lent all ordered same = same ∙ ordered ∙ order_same g symbols addresses firsts all

  resized : (found : Option ℕ) → found ≡ symbol_offset (find (λ s. option_map_or (λ first. not (first.symbol.size == s.symbol.size)) (g s.symbol.value) false) symbols) → found ≡ symbol_offset (find (is_resized symbols) symbols)
  resized found is = is ∙ ap symbol_offset (resized_same g symbols symbols firsts)

overlap : (symbols lent : List SymbolEntry) (found : Option ℕ) → lent ≡ by_address symbols → found ≡ symbol_offset (first_overlap lent) → found ≡ symbol_offset (first_overlap (by_address symbols))
overlap symbols lent found is at = at ∙ ap (λ (ys : List SymbolEntry). symbol_offset (first_overlap ys)) is

pub returns-in_err-refuse-clause-fault : goal.returns-in_err-refuse-clause-fault
unfolding function_rules
returns-in_err-refuse-clause-fault c = search (rules, names_here, names_next) depth 20

pub returns-in_err-refuse-2-clause-fault : goal.returns-in_err-refuse-2-clause-fault
unfolding function_rules
returns-in_err-refuse-2-clause-fault c = search (rules, names_here, names_next) depth 20

pub returns-in_err-refuse-3-clause-fault : goal.returns-in_err-refuse-3-clause-fault
unfolding function_rules
returns-in_err-refuse-3-clause-fault c =
    let symbols = c.args.symbols.now in
    let firsts : (a : ℕ) → get nat_cmp c.in_ok-firsts.firsts a ≡ first_at symbols a = search rules in
    let third = resized symbols (get nat_cmp c.in_ok-firsts.firsts) firsts c.first_resized.result c.first_resized.ensures in
    search (rules, names_here, names_next, third) depth 20

pub first_overlap-requires-clause-rises : goal.first_overlap-requires-clause-rises
first_overlap-requires-clause-rises c =
    let symbols = c.args.symbols.now in
    let firsts : (a : ℕ) → get nat_cmp c.in_ok-firsts.firsts a ≡ first_at symbols a = search rules in
    let ordered : c.in_ok-functions.functions.items ≡ filter_map (get nat_cmp c.in_ok-firsts.firsts) (keys c.in_ok-firsts.firsts) = search rules in
    let lent = in_order symbols (get nat_cmp c.in_ok-firsts.firsts) firsts (keys c.in_ok-firsts.firsts) c.in_ok-functions.functions.items c.as_slice.result.now (search rules) ordered c.as_slice.ensures.value in
    let P : List SymbolEntry → Type 0 = λ ys. Rises 0 (map (λ s. s.symbol.value) ys) in
    subst P (sym lent) (Rises-by_address symbols)

pub first_overlap-requires-clause-short : goal.first_overlap-requires-clause-short
first_overlap-requires-clause-short c =
    let symbols = c.args.symbols.now in
    let firsts : (a : ℕ) → get nat_cmp c.in_ok-firsts.firsts a ≡ first_at symbols a = search rules in
    let ordered : c.in_ok-functions.functions.items ≡ filter_map (get nat_cmp c.in_ok-firsts.firsts) (keys c.in_ok-firsts.firsts) = search rules in
    let lent = in_order symbols (get nat_cmp c.in_ok-firsts.firsts) firsts (keys c.in_ok-firsts.firsts) c.in_ok-functions.functions.items c.as_slice.result.now (search rules) ordered c.as_slice.ensures.value in
    let short : AreShort symbols = AreShort-from_rule c.args.segments.now symbols c.requires (sym c.first_misplaced.ensures ∙ c.in_ok-refuse-2.ensures.holds) in
    let P : List SymbolEntry → Type 0 = λ ys. AreShort ys in
    subst P (sym lent) (All-by_address IsShort symbols short)

pub returns-in_err-refuse-4-clause-fault : goal.returns-in_err-refuse-4-clause-fault
unfolding function_rules
returns-in_err-refuse-4-clause-fault c =
    let symbols = c.args.symbols.now in
    let firsts : (a : ℕ) → get nat_cmp c.in_ok-firsts.firsts a ≡ first_at symbols a = search rules in
    let ordered : c.in_ok-functions.functions.items ≡ filter_map (get nat_cmp c.in_ok-firsts.firsts) (keys c.in_ok-firsts.firsts) = search rules in
    let lent = in_order symbols (get nat_cmp c.in_ok-firsts.firsts) firsts (keys c.in_ok-firsts.firsts) c.in_ok-functions.functions.items c.as_slice.result.now (search rules) ordered c.as_slice.ensures.value in
    let third = resized symbols (get nat_cmp c.in_ok-firsts.firsts) firsts c.first_resized.result c.first_resized.ensures in
    let fourth = overlap symbols c.as_slice.result.now c.first_overlap.result lent c.first_overlap.ensures in
    search (rules, names_here, names_next, third, fourth) depth 20

pub returns-in_err-refuse-5-clause-fault : goal.returns-in_err-refuse-5-clause-fault
unfolding function_rules
returns-in_err-refuse-5-clause-fault c =
    let symbols = c.args.symbols.now in
    let firsts : (a : ℕ) → get nat_cmp c.in_ok-firsts.firsts a ≡ first_at symbols a = search rules in
    let ordered : c.in_ok-functions.functions.items ≡ filter_map (get nat_cmp c.in_ok-firsts.firsts) (keys c.in_ok-firsts.firsts) = search rules in
    let lent = in_order symbols (get nat_cmp c.in_ok-firsts.firsts) firsts (keys c.in_ok-firsts.firsts) c.in_ok-functions.functions.items c.as_slice.result.now (search rules) ordered c.as_slice.ensures.value in
    let third = resized symbols (get nat_cmp c.in_ok-firsts.firsts) firsts c.first_resized.result c.first_resized.ensures in
    let fourth = overlap symbols c.as_slice.result.now c.first_overlap.result lent c.first_overlap.ensures in
    search (rules, names_here, names_next, third, fourth) depth 20

pub returns-clause-rules : goal.returns-clause-rules
unfolding function_rules
returns-clause-rules c =
    let symbols = c.args.symbols.now in
    let firsts : (a : ℕ) → get nat_cmp c.in_ok-firsts.firsts a ≡ first_at symbols a = search rules in
    let ordered : c.in_ok-functions.functions.items ≡ filter_map (get nat_cmp c.in_ok-firsts.firsts) (keys c.in_ok-firsts.firsts) = search rules in
    let lent = in_order symbols (get nat_cmp c.in_ok-firsts.firsts) firsts (keys c.in_ok-firsts.firsts) c.in_ok-functions.functions.items c.as_slice.result.now (search rules) ordered c.as_slice.ensures.value in
    let third = resized symbols (get nat_cmp c.in_ok-firsts.firsts) firsts c.first_resized.result c.first_resized.ensures in
    let fourth = overlap symbols c.as_slice.result.now c.first_overlap.result lent c.first_overlap.ensures in
    search (rules, holds_next, third, fourth) depth 20

pub returns-clause-ok : goal.returns-clause-ok
returns-clause-ok c =
    let symbols = c.args.symbols.now in
    let firsts : (a : ℕ) → get nat_cmp c.in_ok-firsts.firsts a ≡ first_at symbols a = search rules in
    let ordered : c.in_ok-functions.functions.items ≡ filter_map (get nat_cmp c.in_ok-firsts.firsts) (keys c.in_ok-firsts.firsts) = search rules in
    in_order symbols (get nat_cmp c.in_ok-firsts.firsts) firsts (keys c.in_ok-firsts.firsts) c.in_ok-functions.functions.items c.in_ok-functions.functions.items (search rules) ordered refl
