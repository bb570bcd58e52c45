use Rattle.std.proofs.Common.{◌∙◌, ℕ, ◌%◌, List, [], ◌∷◌, ◌++◌, Option, Some, sym, ap, arith}
use Rattle.std.proofs.lemmas.List.FromFn.{map-range_with_len_more}
use Rattle.vw_make.proofs.generator.table_from.Goals as goal

pub loop-index-preserved : goal.loop-index-preserved
loop-index-preserved c =
    let i = c.loop-index.index in
    c.in_ok-push.ensures.ok ∙ (ap (λ (entries : List (ℕ × Option ℕ)). entries ++ ((i % 8, Some i) ∷ [])) c.loop-index.invariant ∙ sym (map-range_with_len_more (λ (j : ℕ). (j % 8, Some j)) 0 i i (omega arith)))
