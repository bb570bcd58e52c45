use Rattle.std.proofs.Common.{◌≡◌, take, None}
use Rattle.std.specs.List.{find}
use Rattle.vw_bits.specs.Rules.{with_earlier}
use Rattle.vw_layout.specs.Functions.{addresses_of, is_excess}
use Rattle.vw_layout.proofs.functions.first_excess.Given as goal

abbrev pub invariant-loop-symbol : goal.invariant-loop-symbol
invariant-loop-symbol l = record {
  keys : l.addresses.keys ≡ addresses_of (take l.symbol-index l.symbols);
  none : find (λ p. is_excess p.0 p.1) (with_earlier (take l.symbol-index l.symbols)) ≡ None;
}
