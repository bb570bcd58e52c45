-- Where edges go, and what fails at a point.
use Rattle.std.proofs.Common.{◌≡◌, ℕ, ◌+◌, ◌<◌, ◌≤◌, Bool, true, false, ℤ, pos, negsuc, List, [], ◌∷◌, length, Option, Some, None, if◌then◌else◌, nat_lt, refl, sym, ◌∙◌, ap, subst, arith, All}
use Rattle.std.specs.List.{Contains}
use Rattle.std.proofs.lemmas.List.Elements.{All-nil, All-cons, All-append, All-map}
use Rattle.std.proofs.lemmas.Bool.Decides.{nat_tests}
use Rattle.vw_insn.specs.declared.instruction.Insn.{Insn}
use Rattle.vw_insn.specs.declared.registers.Width.{Width}
use Rattle.vw_stmt.specs.declared.operands.Var.{Var}
use Rattle.vw_stmt.specs.declared.statement.Flow.{Flow}
use Rattle.vw_stmt.specs.declared.statement.Flow.TheVariants as flow
use Rattle.vw_lift.specs.Lifted.{flow_of}
use Rattle.vw_domain.specs.declared.parts.Parts.{Parts}
use Rattle.vw_domain.specs.Abstract.{Abstract}
use Rattle.vw_domain.specs.Branches.{Rule, rule_at, frame_places, may_go, edge_state}
use Rattle.vw_domain.specs.Calls.{after_call}
use Rattle.vw_domain.specs.Statements.{finish}
use Rattle.vw_image.specs.Image.{Contents}
use Rattle.vw_rows.specs.Numbers.{IsBytes}
use Rattle.vw_graph.specs.search.Graphs.{IsGraph}
use Rattle.vw_state.specs.declared.site.Site.{Site}
use Rattle.vw_state.specs.Code.{code_at, StandsAlone}
use Rattle.vw_state.specs.Context.{Context, code_of, site_at, IsSite}
use Rattle.vw_state.specs.Post.{relative_point, inside, edge_to, carry, branch_edge, after_direct, form_behind, flow_forms, insn_forms, with_state, PostBy, nothing, begins}
use Rattle.vw_graph.proofs.Members.{contains_head, contains_tail}
use Rattle.vw_state.specs.Checks.{Leaves, LeavesFunction, FailsGraph, lacks_code, leaves}

module _ (f : Context) (targets : Var → Abstract → List ℕ) (inside_targets : (src : Var) (st : Abstract) (to : ℕ) → Contains (targets src st) to → to < f.size + 1) where
  abbrev IsFormPoint : ℕ × Abstract → Type 0
  IsFormPoint edge = edge.0 < f.size + 1

  abbrev pub IsPoint : ℕ × Parts → Type 0
  IsPoint edge = edge.0 < f.size + 1

  one_point : (to : ℕ) (st : Abstract) → to ≤ f.size → All IsFormPoint ((to, st) ∷ [])
  one_point to st le = All-cons IsFormPoint (to, st) [] (omega (arith, le)) (All-nil IsFormPoint)

  tested_point : (to : ℕ) (st : Abstract) (is : Bool) → nat_lt to f.size ≡ is → All IsFormPoint (edge_to (if is then Some to else None) st)
  tested_point to st true e = let less : to < f.size = grind (arith, nat_tests, e) in one_point to st (omega (arith, less))
  tested_point to st false e = All-nil IsFormPoint

  inside_point : (to : ℤ) (st : Abstract) → All IsFormPoint (edge_to (inside f.size to) st)
  inside_point (pos to) st = tested_point to st (nat_lt to f.size) refl
  inside_point (negsuc n) st = All-nil IsFormPoint

  gone_point : (edges : List (ℕ × Abstract)) (may : Bool) → All IsFormPoint edges → All IsFormPoint (if may then edges else [])
  gone_point edges true all = all
  gone_point edges false all = All-nil IsFormPoint

  branch_point : (next : ℕ) (st : Abstract) (rule : Option (Width × Rule)) (to : Option ℕ) → ((x : Abstract) → All IsFormPoint (edge_to to x)) → All IsFormPoint (branch_edge f next st rule to)
  branch_point next st rule to all =
      let after : Abstract = edge_state (site_at f next) frame_places st rule in gone_point (edge_to to after) (may_go (site_at f next) frame_places st rule) (all after)

  carry_points : (points : List ℕ) (st : Abstract) → ((to : ℕ) → Contains points to → to < f.size + 1) → All IsFormPoint (carry points st)
  carry_points [] st each = All-nil IsFormPoint
  carry_points (p ∷ points) st each = All-cons IsFormPoint (p, st) (carry points st) (each p (contains_head p points)) (carry_points points st (λ to c. each to (contains_tail p to points c)))

  flow_points : (next : ℕ) (st : Abstract) (fl : Flow) → next ≤ f.size → All IsFormPoint (flow_forms f targets next st fl)
  flow_points next st flow.Next le = one_point next (finish st) le
  flow_points next st (flow.Jump rel) le = inside_point (relative_point next rel) (finish st)
  flow_points next st (flow.Branch cond rel) le =
      let to = inside f.size (relative_point next rel) in
      let taken = rule_at cond true (finish st).fact in
      let passed = rule_at cond false (finish st).fact in
      All-append IsFormPoint (branch_edge f next (finish st) taken to) (branch_edge f next (finish st) passed (Some next)) (branch_point next (finish st) taken to (inside_point (relative_point next rel)))
      (branch_point next (finish st) passed (Some next) (λ x. one_point next x le))
  flow_points next st (flow.JumpReg src) le = carry_points (targets src st) (finish st) (inside_targets src st)
  flow_points next st (flow.Call rel) le = one_point next (after_direct f next rel st) le
  flow_points next st (flow.CallReg src) le = one_point next (after_call st) le
  flow_points next st flow.Ret le = All-nil IsFormPoint
  flow_points next st flow.Stop le = All-nil IsFormPoint

  pub post_points : length (code_of f) ≤ f.size → (at : ℕ) (state : Parts) (edges : List (ℕ × Parts)) → PostBy f targets at state edges → All IsPoint edges
  post_points short at state edges (nothing lacks) = All-nil IsPoint
  post_points short at state edges (begins i len b) =
      All-map IsPoint with_state (insn_forms f targets (at + len) state i) (flow_points (at + len) (form_behind f (at + len) i state) (flow_of i) (omega (arith, b.inside, short)))

module _ (f : Context) {at len : ℕ} {i : Insn} (state : Parts) (stands : StandsAlone (code_of f) at i len) where
  abbrev GoesOut : Insn → ℕ → Type 0
  GoesOut j n = Leaves f (at + n) (form_behind f (at + n) j state) (flow_of j)

  pub goes : GoesOut i len → FailsGraph f at state 2
  goes out = leaves (λ lacks. lacks i len stands.begins) (record { instruction = i; len = len; stands = stands.begins; leaves = out })

  stays : (GoesOut i len → ⊥) → LeavesFunction f at state → ⊥
  stays stay l =
      let one = stands.alone l.instruction l.len l.stands in
      stay (subst (λ (n : ℕ). GoesOut i n) one.1 (subst (λ (j : Insn). GoesOut j l.len) one.0 l.leaves))

  pub passes : (GoesOut i len → ⊥) → (check : ℕ) → FailsGraph f at state check → ⊥
  passes stay check (lacks_code lacks) = lacks i len stands.begins
  passes stay check (leaves code_there l) = stays stay l

-- the code of a site of a function
pub site_code : (f : Context) (site : Site) → IsSite f site → code_at site.image.now site.entry site.size ≡ code_of f
site_code f site is =
    ap (λ (image : Contents). code_at image site.entry site.size) (sym is.image)
    ∙ (ap (λ (entry : ℕ). code_at f.image entry site.size) (sym is.entry) ∙ ap (λ (size : ℕ). code_at f.image f.entry size) (sym is.size))

-- and they are bytes
pub site_bytes : (f : Context) (site : Site) (code : List ℕ) (points : ℕ) → IsGraph f site code points → IsBytes (code_of f)
site_bytes f site code points graph = subst IsBytes (graph.code_is ∙ site_code f site graph.is_site) graph.bytes
