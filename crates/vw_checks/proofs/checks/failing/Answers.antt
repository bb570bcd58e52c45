use Rattle.std.proofs.Common.{◌≡◌, ◌∙◌, ℕ, List, subst}
use Rattle.vw_state.specs.Code.{NothingAt}
use Rattle.vw_state.specs.Context.{code_of}
use Rattle.vw_state.proofs.Sites.{site_code}
use Rattle.vw_checks.proofs.Points.{none_stands}
use Rattle.vw_checks.proofs.checks.failing.Goals as goal

pub returns-in_default : goal.returns-in_default
returns-in_default c = λ f of is.
    let code : c.args.code.now ≡ code_of f = c.requires.code ∙ site_code f c.args.site.now is in
    let nothing : NothingAt c.args.code.now c.args.at = rw c.in_default.is at c.instruction_at.ensures.none in
    none_stands f c.args.at c.args.state.now (subst (λ (xs : List ℕ). NothingAt xs c.args.at) code nothing)
