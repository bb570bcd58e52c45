use mir.Val.{SFits}
use Rattle.std.proofs.Common.{◌≡◌, ℕ, List, true, false, rules, w32, sym, subst, ap, ◌∙◌, ◌++◌, length, take, map}
use Rattle.std.proofs.lemmas.Int.{to_z-of_z}
use Rattle.std.proofs.Math.Seq.{take-append_seam}
use Rattle.vw_domain.specs.declared.parts.Parts.{Parts}
use Rattle.vw_domain.specs.Abstract.{abstract_of}
use Rattle.vw_domain.specs.Branches.{rule_at}
use Rattle.vw_state.specs.Post.{inside, relative_point, branch_edge, with_state}
use Rattle.vw_state.proofs.EdgeStates.{branch_edges}
use Rattle.vw_state.proofs.Sites.{function_of, is_site_of}
use Rattle.vw_state.proofs.flow_edges.append_branch.Goals as goal

pub returns-in-Err-clause-err : goal.returns-in-Err-clause-err
returns-in-Err-clause-err c =
    let f = function_of c.args.site.now in
    let next = c.args.next in
    let told = rule_at c.args.cond true c.fact-fact.result in
    let mid = c.in_ok-append_edge.ensures.ok f next told (is_site_of c.args.site.now) c.told_at.ensures.told in
    let edges : List (ℕ × Parts) = map with_state (branch_edge f next (abstract_of c.in_ok-first.first) told c.direct_target-to.result) in
    let out : List (ℕ × Parts) = c.args.out.now in
    let after : List (ℕ × Parts) = c.append_edge-second.new.out in
    let back : after ≡ out ++ edges = c.in-Err.ensures.err ∙ mid in
    c.truncate.ensures
    ∙ (ap (λ (list : List (ℕ × Parts)). take (length list) after) c.as_slice-before.ensures
    ∙ (ap (λ (list : List (ℕ × Parts)). take (length out) list) back ∙ take-append_seam out edges))

pub returns-in-Ok-clause-ok : goal.returns-in-Ok-clause-ok
returns-in-Ok-clause-ok c = λ f targets is.
    let next = c.args.next in
    let cond = c.args.cond in
    let fact = c.fact-fact.result in
    let to = c.direct_target-to.result in
    let fits : SFits w32 c.args.rel = search rules in
    let read = c.direct_target-to.ensures in
    let told = rw (to_z-of_z w32 c.args.rel fits) at read in
    let target : to ≡ inside f.size (relative_point next c.args.rel) = told ∙ ap (λ (n : ℕ). inside n (relative_point next c.args.rel)) (sym is.size) in
    let mid = c.in_ok-append_edge.ensures.ok f next (rule_at cond true fact) is c.told_at.ensures.told in
    let at : Parts → Type 0 = λ s. c.append_edge.new.out ≡ c.args.out.now ++ map with_state (branch_edge f next (abstract_of s) (rule_at cond true fact) to) in
    let first = subst at c.in_ok-first.ensures mid in
    let second = c.in-Ok.ensures.ok f next (rule_at cond false fact) is c.told_at-told.ensures.told in
    branch_edges f targets next cond c.args.rel (abstract_of c.args.state) (abstract_of c.finish.new.self) fact to c.args.out.now c.append_edge.new.out c.append_edge-second.new.out c.finish.ensures.form c.fact-fact.ensures target first second
