use Rattle.std.proofs.Common.{◌≡◌, ℕ, take}
use Rattle.std.specs.BTreeMap.{get, keys}
use Rattle.std.specs.Ordering.{nat_cmp}
use Rattle.vw_layout.specs.Functions.{first_at, addresses_of}
use Rattle.vw_layout.proofs.functions.first_symbols.Given as goal

abbrev pub invariant-loop-symbol : goal.invariant-loop-symbol
invariant-loop-symbol l = record {
  firsts : (address : ℕ) → get nat_cmp l.firsts address ≡ first_at (take l.symbol-index l.symbols) address;
  keys : keys l.firsts ≡ addresses_of (take l.symbol-index l.symbols);
}
