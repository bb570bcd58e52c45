use Rattle.std.proofs.Common.{◌≡◌, ◌≤◌, length, take, None}
use Rattle.std.specs.List.{filter_map, find}
use Rattle.vw_dynamic.specs.Names.{distinct}
use Rattle.vw_dynamic.specs.Targets.{import_of, is_unresolved}
use Rattle.vw_dynamic.proofs.ImportLemmas.{AreThere, kept}
use Rattle.vw_dynamic.proofs.dynamic.resolve.Given as goal

abbrev pub invariant-loop-rela : goal.invariant-loop-rela
invariant-loop-rela l = record {
  resolved : find (is_unresolved l.bytes l.segments l.strings l.symtab) (take l.rela-index l.relas) ≡ None;
  names : l.imports ≡ distinct (filter_map (import_of l.bytes l.segments l.strings l.symtab) (take l.rela-index l.relas));
  few : length l.imports ≤ l.rela-index;
  there : AreThere (import_of l.bytes l.segments l.strings l.symtab) l.imports (take l.rela-index l.relas);
  kinds : l.relocations ≡ kept l.bytes l.segments l.strings l.symtab l.imports (take l.rela-index l.relas);
}
