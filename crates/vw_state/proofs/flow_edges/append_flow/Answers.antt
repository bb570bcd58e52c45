use mir.Val.{SFits}
use Rattle.std.proofs.Common.{◌≡◌, ℕ, List, rules, w32, sym, subst, ap, ◌∙◌, ◌++◌, map, Option, OnOk}
use Rattle.std.specs.Prelude.{ℤ}
use Rattle.std.proofs.lemmas.Int.{to_z-of_z}
use Rattle.std.proofs.lemmas.Result.{on_ok_weaker}
use Rattle.vw_stmt.specs.declared.statement.Flow.{Flow}
use Rattle.vw_stmt.specs.declared.statement.Flow.TheVariants as flow
use Rattle.vw_domain.specs.Abstract.{abstract_of}
use Rattle.vw_domain.specs.Statements.{finish}
use Rattle.vw_state.specs.Post.{relative_point, inside, edge_to, carry, flow_forms, with_state}
use Rattle.vw_state.proofs.flow_edges.append_flow.Goals as goal

pub returns-in-Next-clause-ok : goal.returns-in-Next-clause-ok
returns-in-Next-clause-ok c = λ f targets is given.
    let at : Flow → Type 0 = λ fl. OnOk c.append_behind.result (c.append_behind.new.out ≡ c.args.out.now ++ map with_state (flow_forms f targets c.args.next (abstract_of c.args.state) fl)) in
    subst at (sym c.in-Next.is) c.append_behind.ensures.ok

pub returns-in-CallReg-clause-ok : goal.returns-in-CallReg-clause-ok
returns-in-CallReg-clause-ok c = λ f targets is given.
    let at : Flow → Type 0 = λ fl. OnOk c.append_after_call.result (c.append_after_call.new.out ≡ c.args.out.now ++ map with_state (flow_forms f targets c.args.next (abstract_of c.args.state) fl)) in
    subst at (sym c.in-CallReg.is) c.append_after_call.ensures.ok

pub returns-in-Jump-clause-ok : goal.returns-in-Jump-clause-ok
returns-in-Jump-clause-ok c = λ f targets is given.
    let next = c.args.next in
    let rel = c.in-Jump.rel in
    let fits : SFits w32 rel = search rules in
    let read = c.direct_target.ensures in
    let told = rw (to_z-of_z w32 rel fits) at read in
    let target : c.direct_target.result ≡ inside f.size (relative_point next rel) = told ∙ ap (λ (n : ℕ). inside n (relative_point next rel)) (sym is.size) in
    let at : Flow → Type 0 = λ fl. OnOk c.append_behind-in-Jump.result (c.append_behind-in-Jump.new.out ≡ c.args.out.now ++ map with_state (flow_forms f targets next (abstract_of c.args.state) fl)) in
    subst at (sym c.in-Jump.is)
    (on_ok_weaker c.append_behind-in-Jump.result (λ e. e ∙ ap (λ (to : Option ℕ). c.args.out.now ++ map with_state (edge_to to (finish (abstract_of c.args.state)))) target)
    c.append_behind-in-Jump.ensures.ok)

pub returns-in-Branch-clause-ok : goal.returns-in-Branch-clause-ok
returns-in-Branch-clause-ok c = λ f targets is given.
    let rel = c.in-Branch.rel in
    let fits : SFits w32 rel = search rules in
    let at : Flow → Type 0 = λ fl. OnOk c.append_branch.result (c.append_branch.new.out ≡ c.args.out.now ++ map with_state (flow_forms f targets c.args.next (abstract_of c.args.state) fl)) in
    let by : ℤ → Type 0 = λ z. at (flow.Branch c.in-Branch.cond z) in
    subst at (sym c.in-Branch.is) (subst by (to_z-of_z w32 rel fits) (c.append_branch.ensures.ok f targets is))

pub returns-in-Call-clause-ok : goal.returns-in-Call-clause-ok
returns-in-Call-clause-ok c = λ f targets is given.
    let rel = c.in-Call.rel in
    let fits : SFits w32 rel = search rules in
    let at : Flow → Type 0 = λ fl. OnOk c.append_after_direct.result (c.append_after_direct.new.out ≡ c.args.out.now ++ map with_state (flow_forms f targets c.args.next (abstract_of c.args.state) fl)) in
    let by : ℤ → Type 0 = λ z. at (flow.Call z) in
    subst at (sym c.in-Call.is) (subst by (to_z-of_z w32 rel fits) (c.append_after_direct.ensures.ok f is))

pub returns-in-JumpReg-clause-ok : goal.returns-in-JumpReg-clause-ok
returns-in-JumpReg-clause-ok c = λ f targets is given.
    let st = abstract_of c.args.state in
    let at : Flow → Type 0 = λ fl. OnOk c.append_jumps.result (c.append_jumps.new.out ≡ c.args.out.now ++ map with_state (flow_forms f targets c.args.next st fl)) in
    subst at (sym c.in-JumpReg.is)
    (on_ok_weaker c.append_jumps.result (λ e. e ∙ ap (λ (points : List ℕ). c.args.out.now ++ map with_state (carry points (finish st))) (sym (given c.in-JumpReg.src c.in-JumpReg.is)))
    (c.append_jumps.ensures.ok f is))
