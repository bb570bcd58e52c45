use Rattle.vw_state.proofs.SiteRanges.{has_sites}
use Rattle.vw_state.proofs.laws.functions_have_sites.Goals as goal

pub returns : goal.returns
returns c = λ m f whole bytes listed. has_sites c.tables_are_few.ensures.tables c.tables_are_few.ensures.entries m f whole bytes
