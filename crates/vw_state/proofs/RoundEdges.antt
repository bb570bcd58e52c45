-- The edges that leave a point with jumps through registers to fewer or more points.
use Rattle.std.proofs.Common.{◌≡◌, inl, inr, ℕ, ◌+◌, List, [], ◌∷◌, map, Option, Some, None, refl, subst}
use Rattle.std.specs.Prelude.{Contains, drop}
use Rattle.std.specs.List.{All}
use Rattle.std.proofs.lemmas.List.Elements.{All-nil, All-cons, All-head, All-tail, All-contains, All-contains_itself}
use Rattle.vw_stmt.specs.declared.operands.Var.{Var}
use Rattle.vw_stmt.specs.declared.statement.Flow.{Flow}
use Rattle.vw_stmt.specs.declared.statement.Flow.TheVariants as flow
use Rattle.vw_lift.specs.Lifted.{flow_of}
use Rattle.vw_decode.specs.Lexing.{Found, insn_found, length_found, read}
use Rattle.vw_domain.specs.declared.parts.Parts.{Parts}
use Rattle.vw_domain.specs.Abstract.{Abstract}
use Rattle.vw_domain.specs.Statements.{finish}
use Rattle.vw_state.specs.Context.{Context, code_of}
use Rattle.vw_state.specs.Post.{carry, flow_forms, form_behind, with_state, insn_edges, seconds, edges_read, edges_by, edges_with}
use Rattle.vw_state.proofs.RoundLists.{contains_none, contains_cases, contains_head, contains_tail, seconds_has, seconds_from}

module _ (P : ℕ × Parts → Type 0) where
  carries_each : (points : List ℕ) (st : Abstract) → All P (map with_state (carry points st)) → (to : ℕ) → Contains points to → P (with_state (to, st))
  carries_each [] st all to c = absurd (contains_none to c)
  carries_each (point ∷ points) st all to c = elim (contains_cases point to points c) [
    | inl same ↦ let Q : ℕ → Type 0 = λ n. P (with_state (n, st)) in subst Q same (All-head P (with_state (point, st)) (map with_state (carry points st)) all)
    | inr later ↦ carries_each points st (All-tail P (with_state (point, st)) (map with_state (carry points st)) all) to later
  ]

  carries_all : (points : List ℕ) (st : Abstract) → ((to : ℕ) → Contains points to → P (with_state (to, st))) → All P (map with_state (carry points st))
  carries_all [] st each = All-nil P
  carries_all (point ∷ points) st each =
      All-cons P (with_state (point, st)) (map with_state (carry points st)) (each point (contains_head point points))
      (carries_all points st (λ to c. each to (contains_tail point to points c)))

  pub fewer_edges : (f : Context) (more less : Var → Abstract → List ℕ) (next : ℕ) (st : Abstract) (fl : Flow) → ((src : Var) → fl ≡ flow.JumpReg src → (to : ℕ) → Contains (less src st) to → Contains (more src st) to)
      → All P (map with_state (flow_forms f more next st fl)) → All P (map with_state (flow_forms f less next st fl))
  fewer_edges f more less next st (flow.JumpReg src) within all =
      carries_all (less src st) (finish st) (λ to c. carries_each (more src st) (finish st) all to (within src refl to c))
  fewer_edges f more less next st fl within all = all

-- ---- by pairs

module _ (f : Context) (pairs more : List (ℕ × ℕ)) (at : ℕ) (state : Parts) (within : (to : ℕ) → Contains pairs (at, to) → Contains more (at, to)) where
  abbrev Targets : List (ℕ × ℕ) → Var → Abstract → List ℕ
  Targets list src st = seconds at list

  read_among : (found : Option Found) (edge : ℕ × Parts) → Contains (edges_read f (Targets pairs) at state found) edge → Contains (edges_read f (Targets more) at state found) edge
  read_among None edge c = c
  read_among (Some found) edge c =
      let i = insn_found found in
      let next : ℕ = at + length_found (drop at (code_of f)) found in
      let all : List (ℕ × Parts) = insn_edges f (Targets more) next state i in
      let Q : ℕ × Parts → Type 0 = λ e. Contains all e in
      All-contains Q (insn_edges f (Targets pairs) next state i) edge
      (fewer_edges Q f (Targets more) (Targets pairs) next (form_behind f next i state) (flow_of i) (λ src jumps to has. seconds_has at to more (within to (seconds_from at to pairs has))) (All-contains_itself all))
      c

  -- where the pairs of the point are among others, its edges are among those with these
  pub edges_among : (edge : ℕ × Parts) → Contains (edges_with f pairs at state) edge → Contains (edges_with f more at state) edge
  unfolding edges_by
  edges_among = read_among (read (drop at (code_of f)))
