use Rattle.std.proofs.Common.{◌∙◌, ap, ℕ, List, [], Bor, Option, unwrap_or, length, ◌≤◌, subst, sym}
use Rattle.vw_state.specs.Code.{code_at}
use Rattle.vw_state.proofs.Sites.{copied_or, code_size}
use Rattle.vw_state.proofs.site.code_of.Goals as goal

pub returns-clause-code : goal.returns-clause-code
unfolding code_at
returns-clause-code c =
    c.as_bytes.ensures.same
    ∙ (ap (λ (b : Bor (List ℕ)). b.now) c.unwrap_or.ensures
    ∙ (copied_or c.bytes_at.result _
    ∙ ap (λ (o : Option (List ℕ)). unwrap_or o []) c.bytes_at.ensures))

pub returns-clause-size : goal.returns-clause-size
returns-clause-size c = subst (λ (code : List ℕ). length code ≤ c.args.size) (sym (returns-clause-code c)) (code_size c.args.image.now c.args.entry c.args.size)
