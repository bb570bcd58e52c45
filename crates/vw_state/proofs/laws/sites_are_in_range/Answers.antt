use Rattle.std.proofs.Common.{◌∙◌, subst}
use Rattle.vw_rows.specs.Numbers.{IsBytes}
use Rattle.vw_state.proofs.laws.sites_are_in_range.Goals as goal

pub returns : goal.returns
returns c f listed =
    c.functions_have_sites.ensures c.args.loaded.now f c.requires (subst IsBytes (c.as_bytes.ensures.same ∙ c.bytes.ensures.lent) c.as_bytes.ensures.bytes) listed
