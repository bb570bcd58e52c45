-- The states that edges carry are those of their forms.
use Rattle.std.proofs.Common.{◌≡◌, ℕ, ◌^◌, ◌<◌, Bool, true, false, List, [], ◌∷◌, ◌++◌, map, append_assoc, Option, Some, None, refl, sym, ◌∙◌, ap, subst, arith}
use Rattle.std.specs.Prelude.{nat_lt, if◌then◌else◌, ℤ}
use Rattle.std.proofs.lemmas.Bool.{false≢true}
use Rattle.std.proofs.lemmas.Bool.Decides.{nat_tests}
use Rattle.std.proofs.lemmas.List.{map-append}
use Rattle.std.proofs.Math.Path.{fun_ext}
use Rattle.vw_insn.specs.declared.operations.Cond.{Cond}
use Rattle.vw_insn.specs.declared.instruction.Insn.{Insn}
use Rattle.vw_stmt.specs.declared.operands.Var.{Var}
use Rattle.vw_stmt.specs.declared.statement.Flow.{Flow}
use Rattle.vw_stmt.specs.declared.statement.Flow.TheVariants as flow
use Rattle.vw_insn.specs.declared.registers.Width.{Width}
use Rattle.vw_insn.specs.declared.registers.Width.TheVariants.{W64}
use Rattle.vw_names.specs.declared.spot.Spot.{Spot}
use Rattle.vw_names.specs.declared.spot.Spot.TheVariants.{Flags}
use Rattle.vw_values.specs.declared.value.Value.{Value}
use Rattle.vw_values.specs.declared.value.Value.TheVariants.{Num, Const, Below, Low, Both, Index16, EntryPtr}
use Rattle.vw_values.specs.Bounds.{IsBounds}
use Rattle.vw_values.specs.Refinements.{below}
use Rattle.vw_values.specs.Values.{IsValue}
use Rattle.vw_values.proofs.Search.{none-above}
use Rattle.vw_lift.specs.Lifted.{flow_of}
use Rattle.vw_domain.specs.declared.parts.Fact.{Fact}
use Rattle.vw_domain.specs.declared.parts.Parts.{Parts}
use Rattle.vw_domain.specs.declared.refines.Comparison.{Comparison}
use Rattle.vw_domain.specs.State.{IsState, IsValidState}
use Rattle.vw_domain.specs.StateOf.{state_of}
use Rattle.vw_domain.specs.Abstract.{Abstract, abstract_of}
use Rattle.vw_domain.specs.Branches.{Rule, IsLess, refiner, rule_at, frame_places, may_go, MayGo, edge_state, tags_by}
use Rattle.vw_domain.specs.Statements.{finish}
use Rattle.vw_domain.specs.Changes.{mark, is_other, refined_by}
use Rattle.vw_domain.specs.Forms.{FormsTellStates}
use Rattle.vw_domain.specs.FormLaws.{StatesHaveForms, StatesNameBounds, StateOfForms, MayGoIsDecided}
use Rattle.vw_domain.specs.FormRanges.{IsStateForm}
use Rattle.vw_domain.specs.Refines.{rule_told}
use Rattle.vw_domain.specs.Sites.{Site}
use Rattle.vw_state.specs.Context.{Context, site_at}
use Rattle.vw_state.specs.Edges.{Tells}
use Rattle.vw_state.specs.Post.{relative_point, inside, branch_edge, flow_forms, form_behind, has_no_edge, with_state, insn_edges}

-- a state is the one of its form
pub again : StatesHaveForms → StatesNameBounds → StateOfForms → FormsTellStates → (s : Parts) → IsState s → state_of (abstract_of s) ≡ s
again have name built tell s is =
    let names = name s is in
    let valid : IsValidState names.0 s = record { state = is; fits = names.2 } in
    let made = built names.0 (abstract_of s) (have names.0 s valid) in
    tell (state_of (abstract_of s)) s made.0.state is made.1

-- ---- an edge that says of a word that it is below 2^64

abbrev whole : Width × Rule
whole = (W64, IsLess (2 ^ 64))

is_less : (a b : ℕ) → a < b → nat_lt a b ≡ true
is_less a b h = grind (arith, nat_tests)

below_whole : (bounds : List ℕ) (v : Value) → IsBounds bounds → IsValue v → below v W64 (2 ^ 64) bounds ≡ Some v
below_whole bounds Num is fits = rw (none-above (2 ^ 64) bounds is (omega arith)) refl
below_whole bounds (Const c) is fits = rw (is_less c (2 ^ 64) fits) refl
below_whole bounds (Below k) is fits = rw (none-above (2 ^ 64) bounds is (omega arith)) refl
below_whole bounds (Low k) is fits = rw (none-above (2 ^ 64) bounds is (omega arith)) refl
below_whole bounds (Both k) is fits = rw (none-above (2 ^ 64) bounds is (omega arith)) refl
below_whole bounds v is fits = refl

same_mark : (k : ℕ) (v : Value) → mark k (λ t. false) v ≡ v
same_mark k (EntryPtr t) = refl
same_mark k v = refl

other_mark : (k : ℕ) (m : Option (ℕ × ℕ)) → is_other k (λ t. false) (Index16 0 m) ≡ false
other_mark k None = refl
other_mark k (Some m) = refl

no_other : (k : ℕ) (v : Value) → is_other k (λ t. false) v ≡ false
no_other k (Index16 j m) = other_mark k m
no_other k v = refl

same_refined : (b : Bool) (f : Value → Option Value) (v : Value) → f v ≡ Some v → refined_by b f v ≡ v
same_refined true f v e = rw e refl
same_refined false f v e = refl

module _ (site : Site) (bounds : IsBounds site.bounds) (st : Abstract) (members : List ℕ) (form : IsStateForm members st) where
  stays : (p : Spot) → below (st.values p) W64 (2 ^ 64) site.bounds ≡ Some (st.values p)
  stays p = below_whole site.bounds (st.values p) bounds (form.form.values p)

  -- control may go along it
  whole_goes : MayGo site frame_places st (Some whole)
  whole_goes = (λ p same. (st.values p, stays p), λ p. no_other (2 ^ 64) (st.values p))

  same_value : (p : Spot) → mark (2 ^ 64) (tags_by st (IsLess (2 ^ 64)) frame_places p) (refined_by (st.same Flags p) (refiner site W64 (IsLess (2 ^ 64))) (st.values p)) ≡ st.values p
  same_value p =
      same_mark (2 ^ 64) (refined_by (st.same Flags p) (refiner site W64 (IsLess (2 ^ 64))) (st.values p))
      ∙ same_refined (st.same Flags p) (refiner site W64 (IsLess (2 ^ 64))) (st.values p) (stays p)

  -- and it carries the state as it is
  whole_state : edge_state site frame_places st (Some whole) ≡ st
  whole_state = ap (λ (values : Spot → Value). record st { values = values }) (fun_ext same_value)

-- ---- edges of branches

none_either : (b : Bool) → ◌≡◌ {A = List (ℕ × Abstract)} (if b then [] else []) []
none_either true = refl
none_either false = refl

-- there is none without a target
pub no_target : (f : Context) (next : ℕ) (st : Abstract) (rule : Option (Width × Rule)) → branch_edge f next st rule None ≡ []
no_target f next st rule = none_either (may_go (site_at f next) frame_places st rule)

module _ (decided : MayGoIsDecided) (f : Context) (next : ℕ) (bounds : IsBounds f.bounds) (st : Abstract) (members : List ℕ) (form : IsStateForm members st) (point : ℕ) where
  goes : (rule : Option (Width × Rule)) → MayGo (site_at f next) frame_places st rule → branch_edge f next st rule (Some point) ≡ (point, edge_state (site_at f next) frame_places st rule) ∷ []
  goes rule may = rw ((decided (site_at f next) members st rule form).1 may) refl

  -- where nothing is told, the edge carries the state as it is
  pub untold : (rule : Option (Width × Rule)) → Tells None rule → branch_edge f next st rule (Some point) ≡ (point, st) ∷ []
  untold None h = refl
  untold (Some r) h =
      let at : Width × Rule → Type 0 = λ x. branch_edge f next st (Some x) (Some point) ≡ (point, st) ∷ [] in
      subst at (sym h)
      (goes (Some whole) (whole_goes (site_at f next) bounds st members form)
      ∙ ap (λ (s : Abstract). (point, s) ∷ []) (whole_state (site_at f next) bounds st members form))

  -- where control may go along it, the edge carries what it tells
  pub taken : (rule : Option (Width × Rule)) (c : Comparison) → Tells (Some c) rule → MayGo (site_at f next) frame_places st (Some (rule_told c))
      → branch_edge f next st rule (Some point) ≡ (point, edge_state (site_at f next) frame_places st (Some (rule_told c))) ∷ []
  taken rule c h may =
      let at : Option (Width × Rule) → Type 0 = λ x. branch_edge f next st x (Some point) ≡ (point, edge_state (site_at f next) frame_places st (Some (rule_told c))) ∷ [] in
      subst at (sym h) (goes (Some (rule_told c)) may)

  unless : (b : Bool) (rule : Option (Width × Rule)) → may_go (site_at f next) frame_places st rule ≡ b → (MayGo (site_at f next) frame_places st rule → ⊥) → branch_edge f next st rule (Some point) ≡ []
  unless true rule e never = absurd (never ((decided (site_at f next) members st rule form).0 e))
  unless false rule e never = rw e refl

  -- and where it may not, there is none
  pub untaken : (rule : Option (Width × Rule)) (c : Comparison) → Tells (Some c) rule → (MayGo (site_at f next) frame_places st (Some (rule_told c)) → ⊥)
      → branch_edge f next st rule (Some point) ≡ []
  untaken rule c h never =
      let at : Option (Width × Rule) → Type 0 = λ x. branch_edge f next st x (Some point) ≡ [] in
      subst at (sym h) (unless (may_go (site_at f next) frame_places st (Some (rule_told c))) (Some (rule_told c)) refl never)

-- ---- the two edges of a branch

joined : (before mid after : List (ℕ × Parts)) (xs ys : List (ℕ × Abstract)) → mid ≡ before ++ map with_state xs → after ≡ mid ++ map with_state ys → after ≡ before ++ map with_state (xs ++ ys)
joined before mid after xs ys first second =
    second
    ∙ (ap (λ (list : List (ℕ × Parts)). list ++ map with_state ys) first
    ∙ (append_assoc before (map with_state xs) (map with_state ys)
    ∙ ap (λ (list : List (ℕ × Parts)). before ++ list) (sym (map-append with_state xs ys))))

abbrev both_edges : Context → ℕ → Cond → Abstract → Fact → Option ℕ → List (ℕ × Abstract)
both_edges f next cond st fact to = branch_edge f next st (rule_at cond true fact) to ++ branch_edge f next st (rule_at cond false fact) (Some next)

-- once the one edge and then the other were appended, those of the branch were
pub branch_edges : (f : Context) (targets : Var → Abstract → List ℕ) (next : ℕ) (cond : Cond) (rel : ℤ) (st fin : Abstract) (fact : Fact) (to : Option ℕ) (before mid after : List (ℕ × Parts))
    → fin ≡ finish st → fact ≡ fin.fact → to ≡ inside f.size (relative_point next rel)
    → mid ≡ before ++ map with_state (branch_edge f next fin (rule_at cond true fact) to)
    → after ≡ mid ++ map with_state (branch_edge f next fin (rule_at cond false fact) (Some next))
    → after ≡ before ++ map with_state (flow_forms f targets next st (flow.Branch cond rel))
branch_edges f targets next cond rel st fin fact to before mid after same told target first second =
    let are : both_edges f next cond fin fact to ≡ both_edges f next cond (finish st) (finish st).fact (inside f.size (relative_point next rel)) =
    ap (λ (k : Fact). both_edges f next cond fin k to) told
    ∙ (ap (λ (s : Abstract). both_edges f next cond s s.fact to) same
    ∙ ap (λ (t : Option ℕ). both_edges f next cond (finish st) (finish st).fact t) target) in
    joined before mid after (branch_edge f next fin (rule_at cond true fact) to) (branch_edge f next fin (rule_at cond false fact) (Some next)) first second
    ∙ ap (λ (xs : List (ℕ × Abstract)). before ++ map with_state xs) are

-- what was appended for the state behind an instruction's statements and its flow are the edges that are read from its bytes
pub read_edges : (f : Context) (targets : Var → Abstract → List ℕ) (next : ℕ) (i : Insn) (state : Parts) (behind : Abstract) (fl : Flow) (before after edges : List (ℕ × Parts))
    → behind ≡ form_behind f next i state → fl ≡ flow_of i → insn_edges f targets next state i ≡ edges
    → after ≡ before ++ map with_state (flow_forms f targets next behind fl) → after ≡ before ++ edges
read_edges f targets next i state behind fl before after edges same flow are e =
    e
    ∙ (ap (λ (st : Abstract). before ++ map with_state (flow_forms f targets next st fl)) same
    ∙ (ap (λ (x : Flow). before ++ map with_state (flow_forms f targets next (form_behind f next i state) x)) flow
    ∙ ap (λ (es : List (ℕ × Parts)). before ++ es) are))

-- what has no edge has none with any state
pub no_edges : (f : Context) (targets : Var → Abstract → List ℕ) (next : ℕ) (st : Abstract) (fl : Flow) → has_no_edge fl ≡ true → map with_state (flow_forms f targets next st fl) ≡ []
no_edges f targets next st flow.Next is = absurd (false≢true is)
no_edges f targets next st (flow.Jump rel) is = absurd (false≢true is)
no_edges f targets next st (flow.Branch cond rel) is = absurd (false≢true is)
no_edges f targets next st (flow.JumpReg src) is = absurd (false≢true is)
no_edges f targets next st (flow.Call rel) is = absurd (false≢true is)
no_edges f targets next st (flow.CallReg src) is = absurd (false≢true is)
no_edges f targets next st flow.Ret is = refl
no_edges f targets next st flow.Stop is = refl
