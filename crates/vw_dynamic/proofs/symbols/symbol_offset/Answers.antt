use Rattle.std.proofs.Common.{◌+◌, ◌*◌, ◌≤◌, ◌^◌, sym, arith}
use Rattle.vw_bits.proofs.BoundLemmas.{file_offset-far}
use Rattle.vw_dynamic.proofs.symbols.symbol_offset.Goals as goal

pub returns-in-None-checked_add : goal.returns-in-None-checked_add
returns-in-None-checked_add c =
    let far : 2 ^ 32 ≤ c.in-Some.first + 24 * c.args.index = omega (arith, c.in-None-checked_add.ensures) in
    rw c.in-Some.is (sym (file_offset-far _ _ _ 24 c.requires far))
