use Rattle.vw_app.proofs.Names.{place_named, place_line}
use Rattle.vw_app.proofs.verdict.place_text.Goals as goal

pub returns-clause-place : goal.returns-clause-place
returns-clause-place c = place_named c.args.loaded.now c.args.place c.name_at.result.now c.unsafe_text.result c.name_at.ensures.numbered c.unsafe_text.ensures

pub returns-clause-line : goal.returns-clause-line
returns-clause-line c = place_line c.args.loaded.now c.args.place c.name_at.result.now c.unsafe_text.result c.name_at.ensures.name c.unsafe_text.ensures
