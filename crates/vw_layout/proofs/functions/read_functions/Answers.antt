use Rattle.std.proofs.Common.{◌≡◌, List, map, rules, sym, ap, subst, ◌∙◌}
use Rattle.vw_layout.specs.Bounds.{IsShort, AreShort}
use Rattle.vw_layout.specs.Symbols.{symbols_for}
use Rattle.vw_layout.specs.Functions.{functions_of, function_of, by_address}
use Rattle.vw_layout.specs.declared.symbols.Role.TheVariants as role
use Rattle.vw_layout.proofs.AddressLemmas.{All-by_address}
use Rattle.vw_layout.proofs.ShortLemmas.{AreShort-from_rules}
use Rattle.vw_layout.specs.declared.symbols.SymbolEntry.{SymbolEntry}
use Rattle.vw_layout.proofs.functions.read_functions.Goals as goal

pub declare-requires : goal.declare-requires
declare-requires c =
    let symbols = c.as_slice.result.now in
    let short : AreShort symbols = AreShort-from_rules c.args.bytes.now c.args.segments.now symbols c.requires.small c.in_ok-firsts.ensures.rules in
    let firsts : c.as_slice-2.result.now ≡ by_address symbols = search rules in
    let P : List SymbolEntry → Type 0 = λ ys. AreShort ys in
    subst P (sym firsts) (All-by_address IsShort symbols short)

pub returns-clause-ok : goal.returns-clause-ok
unfolding functions_of
returns-clause-ok c =
    let bytes = c.args.bytes.now in
    let symbols = c.as_slice.result.now in
    let read : symbols ≡ symbols_for bytes c.args.sections.now role.Function = search rules in
    let firsts : c.as_slice-2.result.now ≡ by_address symbols = search rules in
    let declared : c.in_ok-functions.functions ≡ map (function_of bytes) c.as_slice-2.result.now = search rules in
    declared ∙ ap (λ (ys : List SymbolEntry). map (function_of bytes) ys) firsts ∙ ap (λ (ys : List SymbolEntry). map (function_of bytes) (by_address ys)) read
