use Rattle.std.proofs.Common.{ap}
use Rattle.vw_image.specs.Image.{Contents, image_of}
use Rattle.vw_app.specs.Lines.{info_text}
use Rattle.vw_app.proofs.Pieces.{three_parts}
use Rattle.vw_app.proofs.info.info_text.Goals as goal

pub returns : goal.returns
unfolding info_text image_of
returns c =
    rw c.new-text.ensures at (three_parts c.new-text.result c.push_functions.new.text c.push_tables.new.text c.push_imports.new.text _ _ _
    (rw (c.as_slice.ensures, c.requires.functions) at c.in_ok-push_functions.ensures) (rw (c.as_slice-2.ensures, c.requires.tables) at c.in_ok-push_tables.ensures)
    (rw (c.imports.ensures.lent, ap (λ (i : Contents). i.imports) c.requires.image) at c.in_ok-push_imports.ensures))
