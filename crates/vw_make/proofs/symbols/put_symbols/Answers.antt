use Rattle.std.proofs.Common.{◌≡◌, true, false, arith}
use Rattle.std.proofs.lemmas.Bool.Decides.{nat_tests}
use Rattle.vw_make.specs.Layout.{has_table}
use Rattle.vw_make.proofs.Steps.{symbols_with, symbols_without}
use Rattle.vw_make.proofs.symbols.put_symbols.Goals as goal

pub returns-then-is_empty : goal.returns-then-is_empty
returns-then-is_empty c =
    let none : has_table c.args.plan.now.parts.now ≡ false = grind (arith, nat_tests, c.if-is_empty.ensures) in
    rw (c.in_ok-name.ensures.bytes, c.in_ok-put_null_symbol.ensures) (symbols_without c.args.plan.now.parts.now c.args.plan.now.layout c.args.out.now.items none)

pub returns : goal.returns
returns c =
    let some : has_table c.args.plan.now.parts.now ≡ true = grind (arith, nat_tests, c.if-is_empty.ensures) in
    rw (c.in_ok-put_tables_symbol.ensures, c.in_ok-name.ensures.bytes, c.in_ok-put_null_symbol.ensures) (symbols_with c.args.plan.now.parts.now c.args.plan.now.layout c.args.out.now.items some)
