use Rattle.std.proofs.Common.{◌≡◌, ℕ, ◌+◌, ◌++◌, [], ◌∷◌, List, get_or, take, Option, unwrap_or, refl, sym, ap, ◌∙◌}
use Rattle.std.specs.BTreeMap.{get}
use Rattle.std.specs.Map.{keys_of}
use Rattle.std.specs.Ordering.{nat_cmp}
use Rattle.std.proofs.lemmas.List.{take_more}
use Rattle.vw_layout.specs.Functions.{placed, addresses_of}
use Rattle.vw_layout.specs.declared.symbols.SymbolEntry.{SymbolEntry}
use Rattle.vw_layout.proofs.AddressLemmas.{addresses-none, addresses-more, entry_placed, first_insert}
use Rattle.vw_layout.proofs.functions.first_symbols.Goals as goal

abbrev blank : SymbolEntry
blank = record { symbol = record { name = 0; info = 0; shndx = 0; value = 0; size = 0; at = 0 }; strings_at = 0; strings_size = 0 }

pub loop-symbol-init : goal.loop-symbol-init
loop-symbol-init c = record { firsts = λ a. rw c.new-firsts.ensures.empty refl; keys = rw (addresses-none, c.new-firsts.ensures.empty) refl }

pub loop-symbol-preserved : goal.loop-symbol-preserved
loop-symbol-preserved c =
    let xs = c.args.symbols.now in
    let i = c.loop-symbol.symbol-index in
    let x = get_or xs i blank in
    let step : take (i + 1) xs ≡ take i xs ++ x ∷ [] = take_more xs i blank c.loop-symbol-test.true in
    let first : c.unwrap_or-first.result ≡ unwrap_or (get nat_cmp c.loop-symbol.firsts x.symbol.value) x = c.unwrap_or-first.ensures ∙ ap (λ (o : Option SymbolEntry). unwrap_or o x) (c.copied.ensures ∙ c.get.ensures.value) in
    record {
      firsts = λ a. rw step (first_insert (get nat_cmp c.loop-symbol.firsts) (get nat_cmp c.insert.new.self) (take i xs) x c.unwrap_or-first.result c.loop-symbol.invariant.firsts first c.in_ok-insert.ensures.updates.1 c.in_ok-insert.ensures.updates.2 a);
      keys = ap keys_of c.in_ok-insert.ensures.entries ∙ entry_placed c.loop-symbol.firsts.entries x.symbol.value c.unwrap_or-first.result ∙ ap (λ (ks : List ℕ). placed ks x.symbol.value) c.loop-symbol.invariant.keys ∙ sym (ap addresses_of step ∙ addresses-more (take i xs) x);
    }
