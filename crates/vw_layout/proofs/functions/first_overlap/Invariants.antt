use Rattle.std.proofs.Common.{◌≡◌, ◌+◌, ◌-◌, ◌<◌, ◌≤◌, take, get_or, None, All}
use Rattle.std.specs.List.{find, list_any}
use Rattle.vw_bits.specs.Rules.{with_earlier}
use Rattle.vw_layout.specs.Functions.{share_byte}
use Rattle.vw_layout.specs.declared.symbols.SymbolEntry.{SymbolEntry}
use Rattle.vw_layout.proofs.functions.first_overlap.Given as goal

abbrev pub invariant-loop-function : goal.invariant-loop-function
invariant-loop-function l = record {
  ends : All (λ e. e.symbol.value + e.symbol.size ≤ l.end) (take l.function-index l.functions);
  last : (d : SymbolEntry) → 0 < l.end → (0 < l.function-index) × (l.end ≡ (get_or l.functions (l.function-index - 1) d).symbol.value + (get_or l.functions (l.function-index - 1) d).symbol.size);
  none : find (λ p. list_any (λ lower. share_byte lower p.1) p.0) (with_earlier (take l.function-index l.functions)) ≡ None;
}
