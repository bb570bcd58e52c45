use Rattle.std.proofs.Common.{rules, tests}
use Rattle.std.specs.Str.{bytes_eq}
use Rattle.std.proofs.lemmas.Iterator.{YieldsList-from_slice}
use Rattle.std.proofs.lemmas.Iterator.Search.{position_from_yields_List}
use Rattle.vw_outside.specs.declared.memory_shelf.ShelfFile.{ShelfFile}
use Rattle.vw_outside.proofs.Files.{index_of_first}
use Rattle.vw_outside.proofs.memory_shelf.index_of.Goals as goal

pub returns : goal.returns
returns c =
    index_of_first c.args.files.now c.args.name.now c.position.result
    (position_from_yields_List (λ (file : ShelfFile). bytes_eq file.name c.args.name.now) _ _ c.position.result c.position.ensures.ran (YieldsList-from_slice c.args.files.now cc) (λ x b q k. search (rules, tests)))
