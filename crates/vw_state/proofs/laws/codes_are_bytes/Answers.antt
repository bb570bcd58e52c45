use Rattle.std.proofs.Common.{◌∙◌, subst}
use Rattle.vw_rows.specs.Numbers.{IsBytes}
use Rattle.vw_state.proofs.CodeBytes.{code_are_bytes}
use Rattle.vw_state.proofs.laws.codes_are_bytes.Goals as goal

pub returns : goal.returns
returns c f = code_are_bytes c.args.loaded.now.image f.entry f.size (subst IsBytes (c.as_bytes.ensures.same ∙ c.bytes.ensures.lent) c.as_bytes.ensures.bytes)
