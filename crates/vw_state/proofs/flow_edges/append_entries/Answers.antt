use Rattle.std.proofs.Common.{◌≡◌, ℕ, List, ◌++◌, map, take, length, ◌∙◌, ap}
use Rattle.std.proofs.Math.Seq.{take-append_seam}
use Rattle.vw_domain.specs.declared.parts.Parts.{Parts}
use Rattle.vw_domain.specs.Abstract.{abstract_of}
use Rattle.vw_state.specs.Post.{targets_from, carry, with_state}
use Rattle.vw_state.proofs.Sites.{function_of, is_site_of, on_err}
use Rattle.vw_state.proofs.TableTargets.{one_more}
use Rattle.vw_state.proofs.flow_edges.append_entries.Goals as goal

pub returns-in_err-append_entry-clause-err : goal.returns-in_err-append_entry-clause-err
returns-in_err-append_entry-clause-err c =
    let f = function_of c.args.site.now in
    let out : List (ℕ × Parts) = c.args.out.now in
    let edges : List (ℕ × Parts) = map with_state (carry (targets_from f c.args.table 0 c.loop-i.i) (abstract_of c.args.state.now)) in
    let after : c.append_entry.new.out ≡ out ++ edges = c.in_err-append_entry.ensures.err ∙ c.loop-i.invariant f (is_site_of c.args.site.now) in
    on_err c.from_residual.result (ap (λ (list : List (ℕ × Parts)). take (length out) list) after ∙ take-append_seam out edges)

pub loop-i-preserved : goal.loop-i-preserved
loop-i-preserved c = λ f is.
    one_more f c.args.table c.loop-i.i (abstract_of c.args.state.now) c.args.out.now c.loop-i.out c.append_entry.new.out (c.loop-i.invariant f is) (c.in_ok-append_entry.ensures.ok f is)
