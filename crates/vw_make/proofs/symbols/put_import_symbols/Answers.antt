use Rattle.std.proofs.Common.{ℕ, List, ◌+◌, length, ap, arith}
use Rattle.std.proofs.lemmas.List.Sums.{sum_by_more}
use Rattle.vw_make.specs.Symbols.{import_symbol}
use Rattle.vw_make.proofs.Steps.{counted_step, import_piece}
use Rattle.vw_make.proofs.symbols.put_import_symbols.Goals as goal

pub loop-import-preserved : goal.loop-import-preserved
loop-import-preserved c =
    let more = sum_by_more (λ (name : List ℕ). length name + 1) c.args.imports.now c.loop-import.import-index c.import-item.result c.loop-import-test.true in
    record {
      name = omega (arith, more, c.loop-import.invariant.name, ap (λ (name : List ℕ). length name) c.as_slice.ensures, ap (λ (name : List ℕ). length name) c.import-item.is);
      bytes =
          counted_step (import_symbol c.args.imports.now) c.loop-import.import-index c.args.out.now.items c.loop-import.out.items c.put_symbol.new.out.items _
          c.loop-import.invariant.bytes c.in_ok-put_symbol.ensures
          (import_piece c.args.imports.now c.loop-import.import-index c.loop-import.name c.loop-import.invariant.name);
    }
