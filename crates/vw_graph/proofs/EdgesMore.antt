-- Where jumps through registers go to more points, there are more edges.
use Rattle.std.proofs.Common.{◌≡◌, ℕ, ◌+◌, List, [], ◌∷◌, drop, Option, Some, None, ap, subst, inl, inr}
use Rattle.std.specs.List.{Contains}
use Rattle.vw_insn.specs.declared.instruction.Insn.{Insn}
use Rattle.vw_stmt.specs.declared.operands.Var.{Var}
use Rattle.vw_stmt.specs.declared.statement.Flow.{Flow}
use Rattle.vw_stmt.specs.declared.statement.Flow.TheVariants as flow
use Rattle.vw_lift.specs.Lifted.{flow_of}
use Rattle.vw_decode.specs.Lexing.{Found, insn_found, length_found, read}
use Rattle.vw_domain.specs.declared.parts.Parts.{Parts}
use Rattle.vw_domain.specs.Abstract.{Abstract}
use Rattle.vw_domain.specs.Statements.{finish}
use Rattle.vw_state.specs.Context.{Context, code_of}
use Rattle.vw_state.specs.Post.{carry, flow_forms, form_behind, insn_forms, with_state, seconds, edges_read, edges_by, edges_with}
use Rattle.vw_graph.proofs.Members.{contains_head, contains_tail, contains_none, contains_cases, seconds_has, seconds_from, map_more}

-- ---- carried states

carry_has : (points : List ℕ) (st : Abstract) (to : ℕ) → Contains points to → Contains (carry points st) (to, st)
carry_has [] st to c = absurd (contains_none to c)
carry_has (p ∷ points) st to c = elim (contains_cases p to points c) [
  | inl same ↦ let C : ℕ → Type 0 = λ n. Contains ((p, st) ∷ carry points st) (n, st) in subst C same (contains_head (p, st) (carry points st))
  | inr later ↦ contains_tail (p, st) (to, st) (carry points st) (carry_has points st to later)
]

carry_from : (points : List ℕ) (st : Abstract) (e : ℕ × Abstract) → Contains (carry points st) e → Contains points e.0 × (st ≡ e.1)
carry_from [] st e c = absurd (contains_none e c)
carry_from (p ∷ points) st e c = elim (contains_cases (p, st) e (carry points st) c) [
  | inl same ↦
      let C : ℕ → Type 0 = λ n. Contains (p ∷ points) n in
      (subst C (ap (λ (x : ℕ × Abstract). x.0) same) (contains_head p points), ap (λ (x : ℕ × Abstract). x.1) same)
  | inr later ↦ let r = carry_from points st e later in (contains_tail p e.0 points r.0, r.1)
]

carry_more : (less more : List ℕ) (st : Abstract) → ((to : ℕ) → Contains less to → Contains more to) → (e : ℕ × Abstract) → Contains (carry less st) e → Contains (carry more st) e
carry_more less more st each e c =
    let r = carry_from less st e c in
    let C : Abstract → Type 0 = λ x. Contains (carry more st) (e.0, x) in
    subst C r.1 (carry_has more st e.0 (each e.0 r.0))

-- ---- edges

module _ (f : Context) (less more : Var → Abstract → List ℕ) (each : (src : Var) (st : Abstract) (to : ℕ) → Contains (less src st) to → Contains (more src st) to) where
  flow_more : (next : ℕ) (st : Abstract) (fl : Flow) (e : ℕ × Abstract) → Contains (flow_forms f less next st fl) e → Contains (flow_forms f more next st fl) e
  flow_more next st flow.Next e c = c
  flow_more next st (flow.Jump rel) e c = c
  flow_more next st (flow.Branch cond rel) e c = c
  flow_more next st (flow.JumpReg src) e c = carry_more (less src st) (more src st) (finish st) (each src st) e c
  flow_more next st (flow.Call rel) e c = c
  flow_more next st (flow.CallReg src) e c = c
  flow_more next st flow.Ret e c = c
  flow_more next st flow.Stop e c = c

  read_more : (at : ℕ) (state : Parts) (found : Option Found) (e : ℕ × Parts) → Contains (edges_read f less at state found) e → Contains (edges_read f more at state found) e
  read_more at state None e c = c
  read_more at state (Some found) e c =
      let next : ℕ = at + length_found (drop at (code_of f)) found in
      let i : Insn = insn_found found in
      map_more with_state (insn_forms f less next state i) (insn_forms f more next state i) (flow_more next (form_behind f next i state) (flow_of i)) e c

  edges_more : (at : ℕ) (state : Parts) (e : ℕ × Parts) → Contains (edges_by f less at state) e → Contains (edges_by f more at state) e
  unfolding edges_by
  edges_more at state e c = read_more at state (read (drop at (code_of f))) e c

-- with more pairs of its point, a state has more edges
pub with_more : (f : Context) (less more : List (ℕ × ℕ)) (at : ℕ) → ((to : ℕ) → Contains less (at, to) → Contains more (at, to)) → (state : Parts) (e : ℕ × Parts) → Contains (edges_with f less at state) e → Contains (edges_with f more at state) e
with_more f less more at each state e c =
    edges_more f (λ src st. seconds at less) (λ src st. seconds at more) (λ src st to has. seconds_has at to more (each to (seconds_from at to less has))) at state e c
