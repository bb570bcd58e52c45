use Rattle.std.proofs.Common.{◌≡◌, ◌∙◌, ℕ, [], ◌∷◌, ap, rules, sym}
use Rattle.vw_domain.specs.declared.parts.Parts.{Parts}
use Rattle.vw_recheck.proofs.Points.{only_edge}
use Rattle.vw_recheck.proofs.table.state_in.Goals as goal

pub returns-in-Some-clause-copy : goal.returns-in-Some-clause-copy
returns-in-Some-clause-copy c =
    let one : c.args.used.now.edges ≡ (c.args.point.now.at, c.args.point.now.state) ∷ [] = c.requires (search rules) in
    ap (λ (e : ℕ × Parts). e.1) (only_edge _ _ _ (sym one ∙ c.in-Some.ensures)).1

pub returns-in-Some-clause-empty : goal.returns-in-Some-clause-empty
returns-in-Some-clause-empty c =
    let one : c.args.used.now.edges ≡ (c.args.point.now.at, c.args.point.now.state) ∷ [] = c.requires (search rules) in
    (only_edge _ _ _ (sym one ∙ c.in-Some.ensures)).0
