-- The least table of a function gives its points states between two instructions: of register 16 nothing is known. The edges
-- carry such states, and a state above such a state is one. A table without the points that have others is a solution too.
use Rattle.std.proofs.Common.{◌≡◌, ◌≢◌, ◌⊎◌, inl, inr, ℕ, zero, suc, ◌+◌, ◌^◌, ◌≤◌, ◌<◌, Bool, true, false, cond, List, [], ◌∷◌, ◌++◌, map, get_or, Option, Some, None, refl, sym, ◌∙◌, ap, subst, arith, eq-eqb}
use Rattle.std.specs.Prelude.{◌==◌, nat_eq, nat_lt, if◌then◌else◌, ℤ}
use Rattle.std.specs.List.{AllByRecursion, find}
use Rattle.std.specs.Option.{option_map}
use Rattle.std.proofs.lemmas.Bool.{eqb-true}
use Rattle.std.proofs.lemmas.Bool.Decides.{eqb_tells}
use Rattle.std.proofs.lemmas.List.Elements.{All-from_recursion}
use Rattle.vw_insn.specs.declared.registers.Width.{Width}
use Rattle.vw_stmt.specs.declared.operands.Var.{Var}
use Rattle.vw_stmt.specs.declared.statement.Flow.{Flow}
use Rattle.vw_stmt.specs.declared.statement.Flow.TheVariants as flow
use Rattle.vw_lift.specs.Lifted.{flow_of}
use Rattle.vw_names.specs.declared.spot.Spot.{Spot}
use Rattle.vw_names.specs.declared.spot.Spot.TheVariants.{Reg, Flags, Slot}
use Rattle.vw_names.specs.Division.{root, IsAlone}
use Rattle.vw_stack.specs.Stack.{offset_below}
use Rattle.vw_stack.specs.declared.offset.Offset.{Offset}
use Rattle.vw_stack.specs.declared.offset.Offset.TheVariants as offset
use Rattle.vw_values.specs.declared.value.Value.{Value}
use Rattle.vw_values.specs.declared.value.Value.TheVariants.{Any, Num, Const, Below, Low, Both, HeapBase, HeapAddr, Globals, Entry, Image, Index16, EntryPtr, EntryTyped, TagOf, TableFn, JumpOff, JumpDest}
use Rattle.vw_values.specs.Values.{value_below}
use Rattle.vw_domain.specs.declared.parts.Parts.{Parts}
use Rattle.vw_domain.specs.declared.registers.Register.{Register}
use Rattle.vw_domain.specs.Registers.{register_at, unknown_register}
use Rattle.vw_domain.specs.State.{IsState, IsValidState, key_of, state_below, entry_state}
use Rattle.vw_domain.specs.Abstract.{Abstract}
use Rattle.vw_domain.specs.Branches.{Rule, rule_at, rule_number, refiner, tags_by, frame_places, may_go, edge_state}
use Rattle.vw_domain.specs.Calls.{after_call, after_probe}
use Rattle.vw_domain.specs.Changes.{same_from, write_from, call_from, is_kept, is_register, mark, refined_by}
use Rattle.vw_domain.specs.Sites.{Site}
use Rattle.vw_domain.specs.StateOf.{row_of, division_of, least, slot_under, place_at, are_same, together, register_of, classes_of, state_of}
use Rattle.vw_domain.specs.StateParts.{IsPointState}
use Rattle.vw_domain.specs.Statements.{finish}
use Rattle.vw_domain.proofs.Lowers.{true_not_false, or_cases, place_same}
use Rattle.vw_state.specs.declared.tables.PointState.{PointState}
use Rattle.vw_state.specs.Context.{Context, site_at}
use Rattle.vw_state.specs.Post.{relative_point, inside, calls_probe, edge_to, carry, branch_edge, flow_forms, form_behind, insn_forms, with_state, PostBy, nothing, begins, seconds}
use Rattle.vw_state.specs.Rounds.{IsRound, first_round, next_round}
use Rattle.vw_state.specs.Solution.{IsLeastWith, Lands, SolvesWith}
use Rattle.vw_state.specs.Tables.{state_of as point_state, RisesWithin}
use Rattle.vw_report.specs.Least.{LeastTablesAreOfPoints}
use Rattle.vw_report.specs.Reports.{ArePoints}

-- ---- forms

-- nothing is known of register 16, and it is in a class of its own
record IsLone (st : Abstract) : Type 0 where
  offset : st.offsets 16 ≡ offset.Unknown
  value : st.values (Reg 16) ≡ Any
  left : (p : Spot) → st.same (Reg 16) p ≡ true → p ≡ Reg 16
  right : (p : Spot) → st.same p (Reg 16) ≡ true → p ≡ Reg 16

-- a new number is in one place alone
new_left : (same : Spot → Spot → Bool) (p : Spot) (from : Option Spot) → same_from same (Reg 16) p None from ≡ true → p ≡ Reg 16
new_left same p None h = sym (place_same (Reg 16) p h)
new_left same p (Some a) h = absurd (true_not_false (sym h))

new_right : (same : Spot → Spot → Bool) (p : Spot) (from : Option Spot) → same_from same p (Reg 16) from None ≡ true → p ≡ Reg 16
new_right same p None h = place_same p (Reg 16) h
new_right same p (Some a) h = absurd (true_not_false (sym h))

lone_finish : (st : Abstract) → IsLone (finish st)
lone_finish st = record {
  offset = refl;
  value = refl;
  left = λ p h. new_left st.same p (write_from 16 None p) h;
  right = λ p h. new_right st.same p (write_from 16 None p) h;
}

lone_call : (st : Abstract) → IsLone (after_call st)
lone_call st = record {
  offset = refl;
  value = refl;
  left = λ p h. new_left st.same p (call_from st is_kept (st.offsets 4) p) h;
  right = λ p h. new_right st.same p (call_from st is_kept (st.offsets 4) p) h;
}

lone_probe : (st : Abstract) → IsLone (after_probe st)
lone_probe st = record {
  offset = refl;
  value = refl;
  left = λ p h. new_left st.same p (call_from st is_register (st.offsets 4) p) h;
  right = λ p h. new_right st.same p (call_from st is_register (st.offsets 4) p) h;
}

flags_apart : Flags ≡ Reg 16 → ⊥
flags_apart e = absurd cc

lone_edge : (site : Site) (places : List Spot) (st : Abstract) (rule : Option (Width × Rule)) → IsLone st → IsLone (edge_state site places st rule)
lone_edge site places st None lone = lone
lone_edge site places st (Some r) lone = record {
  offset = lone.offset;
  value = refined (st.same Flags (Reg 16)) refl;
  left = lone.left;
  right = lone.right;
}
  where
    refined : (b : Bool) → st.same Flags (Reg 16) ≡ b → mark (rule_number r.1) (tags_by st r.1 places (Reg 16)) (refined_by b (refiner site r.0 r.1) (st.values (Reg 16))) ≡ Any
    refined true h = absurd (flags_apart (lone.right Flags h))
    refined false h = rw lone.value refl

-- ---- edges

abbrev Edge : Type 0
Edge = ℕ × Abstract

abbrev CarriesLone : Edge → Type 0
CarriesLone edge = IsLone edge.1

both_lone : (xs ys : List Edge) → AllByRecursion CarriesLone xs → AllByRecursion CarriesLone ys → AllByRecursion CarriesLone (xs ++ ys)
both_lone [] ys first second = second
both_lone (x ∷ xs) ys first second = (first.0, both_lone xs ys first.1 second)

lone_to : (to : Option ℕ) (st : Abstract) → IsLone st → AllByRecursion CarriesLone (edge_to to st)
lone_to None st lone = tt
lone_to (Some point) st lone = (lone, tt)

lone_carry : (points : List ℕ) (st : Abstract) → IsLone st → AllByRecursion CarriesLone (carry points st)
lone_carry [] st lone = tt
lone_carry (point ∷ points) st lone = (lone, lone_carry points st lone)

lone_if : (b : Bool) (edges : List Edge) → AllByRecursion CarriesLone edges → AllByRecursion CarriesLone (if b then edges else [])
lone_if true edges are = are
lone_if false edges are = tt

lone_branch : (f : Context) (next : ℕ) (st : Abstract) (rule : Option (Width × Rule)) (to : Option ℕ) → IsLone st → AllByRecursion CarriesLone (branch_edge f next st rule to)
lone_branch f next st rule to lone =
    lone_if (may_go (site_at f next) frame_places st rule) (edge_to to (edge_state (site_at f next) frame_places st rule))
    (lone_to to (edge_state (site_at f next) frame_places st rule) (lone_edge (site_at f next) frame_places st rule lone))

lone_either : (b : Bool) (st : Abstract) → IsLone (if b then after_probe st else after_call st)
lone_either true st = lone_probe st
lone_either false st = lone_call st

lone_flow : (f : Context) (targets : Var → Abstract → List ℕ) (next : ℕ) (st : Abstract) (fl : Flow) → AllByRecursion CarriesLone (flow_forms f targets next st fl)
lone_flow f targets next st flow.Next = (lone_finish st, tt)
lone_flow f targets next st (flow.Jump rel) = lone_to (inside f.size (relative_point next rel)) (finish st) (lone_finish st)
lone_flow f targets next st (flow.Branch c rel) =
    both_lone _ _
    (lone_branch f next (finish st) (rule_at c true (finish st).fact) (inside f.size (relative_point next rel)) (lone_finish st))
    (lone_branch f next (finish st) (rule_at c false (finish st).fact) (Some next) (lone_finish st))
lone_flow f targets next st (flow.JumpReg src) = lone_carry (targets src st) (finish st) (lone_finish st)
lone_flow f targets next st (flow.Call rel) = (lone_either (calls_probe f next rel) st, tt)
lone_flow f targets next st (flow.CallReg src) = (lone_call st, tt)
lone_flow f targets next st flow.Ret = tt
lone_flow f targets next st flow.Stop = tt

-- ---- states

-- the same of a state
record IsLoneState (s : Parts) : Type 0 where
  unknown : register_at s.registers 16 ≡ unknown_register
  alone : IsAlone s.classes 16

same_register : (r : Register) → r.offset ≡ offset.Unknown → r.value ≡ Any → r ≡ unknown_register
same_register r o v = let h : record { offset = r.offset; value = r.value } ≡ record { offset = offset.Unknown; value = Any } = cc in h

register_is : (form : Abstract) → register_at (state_of form).registers 16 ≡ register_of form 16
unfolding state_of row_of
register_is form = refl

-- a least number passes, or none does
least_or : (test : ℕ → Bool) (n : ℕ) → (test (least test n) ≡ true) ⊎ (least test n ≡ n)
unfolding least
least_or test zero = inr refl
least_or test (suc n) = go (test (least test n)) refl
  where
    go : (b : Bool) → test (least test n) ≡ b → (test (if b then least test n else suc n) ≡ true) ⊎ ((if b then least test n else suc n) ≡ suc n)
    go true h = inl h
    go false h = inr refl

-- a number's root in a division that is made of roots is the number itself, or the one that is given
abbrev IsRootOf : (ℕ → ℕ) → ℕ → ℕ → Type 0
IsRootOf root_of b x = (x ≡ b) ⊎ (x ≡ root_of b)

entry_root : (root_of : ℕ → ℕ) (first b : ℕ) (rest : List (ℕ × ℕ)) → IsRootOf root_of b (root rest b) → (same : Bool) → nat_eq first b ≡ same → IsRootOf root_of b (if same then root_of first else root rest b)
entry_root root_of first b rest later true is = inr (ap root_of (eqb-true first b is))
entry_root root_of first b rest later false is = later

front_root : (root_of : ℕ → ℕ) (first b : ℕ) (rest : List (ℕ × ℕ)) → IsRootOf root_of b (root rest b) → (less : Bool) → IsRootOf root_of b (root (if less then (first, root_of first) ∷ rest else rest) b)
front_root root_of first b rest later true = entry_root root_of first b rest later (nat_eq first b) refl
front_root root_of first b rest later false = later

root_in : (root_of : ℕ → ℕ) (n first b : ℕ) → IsRootOf root_of b (root (division_of root_of n first) b)
unfolding division_of
root_in root_of zero first b = inl refl
root_in root_of (suc n) first b = front_root root_of first b (division_of root_of n (suc first)) (root_in root_of n (suc first) b) (nat_lt (root_of first) first)

place_by : (a : ℕ) (low flags : Bool) (slot : Option ℤ) → (if low then Some (Reg a) else (if flags then Some Flags else option_map Slot slot)) ≡ Some (Reg 16) → a ≡ 16
place_by a true flags slot e = cc
place_by a false true slot e = absurd cc
place_by a false false None e = absurd cc
place_by a false false (Some o) e = absurd cc

module _ (form : Abstract) (lone : IsLone form) where
  at_register : (a : ℕ) → place_at form a ≡ Some (Reg 16) → a ≡ 16
  unfolding place_at
  at_register a e = place_by a (nat_lt a 17) (a == 256) (slot_under form (key_of a)) e

  place_here : place_at form 16 ≡ Some (Reg 16)
  unfolding place_at
  place_here = refl

  by_left : (a : ℕ) (x : Option Spot) → place_at form a ≡ x → are_same form (Some (Reg 16)) x ≡ true → a ≡ 16
  by_left a None is h = absurd (true_not_false (sym h))
  by_left a (Some p) is h = at_register a (is ∙ ap Some (lone.left p h))

  by_right : (a : ℕ) (x : Option Spot) → place_at form a ≡ x → are_same form x (Some (Reg 16)) ≡ true → a ≡ 16
  by_right a None is h = absurd (true_not_false (sym h))
  by_right a (Some p) is h = at_register a (is ∙ ap Some (lone.right p h))

  together_left : (a : ℕ) → together form 16 a ≡ true → a ≡ 16
  together_left a h = elim (or_cases (16 == a) (are_same form (place_at form 16) (place_at form a)) h) [
    | inl one ↦ sym (eqb-true 16 a one)
    | inr two ↦ by_left a (place_at form a) refl (subst (λ (x : Option Spot). are_same form x (place_at form a) ≡ true) place_here two)
  ]

  together_right : (a : ℕ) → together form a 16 ≡ true → a ≡ 16
  together_right a h = elim (or_cases (a == 16) (are_same form (place_at form a) (place_at form 16)) h) [
    | inl one ↦ eqb-true a 16 one
    | inr two ↦ by_right a (place_at form a) refl (subst (λ (x : Option Spot). are_same form (place_at form a) x ≡ true) place_here two)
  ]

  abbrev root_at : ℕ → ℕ
  root_at a = least (together form a) a

  own_root : root_at 16 ≡ 16
  own_root = elim (least_or (together form 16) 16) [
    | inl h ↦ together_left (root_at 16) h
    | inr e ↦ e
  ]

  other_root : (b : ℕ) → root_at b ≡ 16 → b ≡ 16
  other_root b e = elim (least_or (together form b) b) [
    | inl h ↦ together_right b (subst (λ (x : ℕ). together form b x ≡ true) e h)
    | inr same ↦ sym same ∙ e
  ]

  own_class : root (classes_of form) 16 ≡ 16
  own_class = elim (root_in root_at (2 ^ 64 + 2 ^ 34) 0 16) [
    | inl e ↦ e
    | inr e ↦ e ∙ own_root
  ]

  in_class : IsAlone (classes_of form) 16
  in_class b same = elim (root_in root_at (2 ^ 64 + 2 ^ 34) 0 b) [
    | inl e ↦ sym e ∙ (sym same ∙ own_class)
    | inr e ↦ other_root b (sym e ∙ (sym same ∙ own_class))
  ]

  lone_state : IsLoneState (state_of form)
  unfolding state_of
  lone_state = record { unknown = register_is form ∙ same_register (register_of form 16) lone.offset lone.value; alone = in_class }

abbrev CarriesLoneState : ℕ × Parts → Type 0
CarriesLoneState edge = IsLoneState edge.1

lone_states : (edges : List Edge) → AllByRecursion CarriesLone edges → AllByRecursion CarriesLoneState (map with_state edges)
lone_states [] are = tt
lone_states (e ∷ edges) are = (lone_state e.1 are.0, lone_states edges are.1)

lone_post : (f : Context) (targets : Var → Abstract → List ℕ) (at : ℕ) (state : Parts) (edges : List (ℕ × Parts)) → PostBy f targets at state edges → AllByRecursion CarriesLoneState edges
lone_post f targets at state edges (nothing none) = tt
lone_post f targets at state edges (begins i len stands) =
    lone_states (insn_forms f targets (at + len) state i) (lone_flow f targets (at + len) (form_behind f (at + len) i state) (flow_of i))

lone_entry : IsLoneState entry_state
lone_entry = record { unknown = refl; alone = λ b same. sym same }

-- ---- greater states

above_unknown : (o : Offset) → offset_below offset.Unknown o → o ≡ offset.Unknown
above_unknown offset.Unknown h = refl
above_unknown (offset.Known c) h = absurd h

above_any : (v : Value) → value_below Any v → v ≡ Any
above_any Any h = refl
above_any Num h = absurd h
above_any (Const c) h = absurd cc
above_any (Below k) h = absurd h
above_any (Low k) h = absurd h
above_any (Both k) h = absurd h
above_any HeapBase h = absurd cc
above_any HeapAddr h = absurd h
above_any Globals h = absurd cc
above_any (Entry r) h = absurd cc
above_any (Image a) h = absurd cc
above_any (Index16 k m) h = absurd h
above_any (EntryPtr t) h = absurd h
above_any (EntryTyped t g) h = absurd cc
above_any (TagOf t via) h = absurd cc
above_any (TableFn t g) h = absurd cc
above_any (JumpOff a k) h = absurd h
above_any (JumpDest a k) h = absurd h

lone_above : (low high : Parts) → IsLoneState low → state_below low high → IsLoneState high
lone_above low high lone below =
    let r = register_at high.registers 16 in
    let here = below.registers 16 in
    let o : offset_below offset.Unknown r.offset = subst (λ (x : Register). offset_below x.offset r.offset) lone.unknown here.offset in
    let v : value_below Any r.value = subst (λ (x : Register). value_below x.value r.value) lone.unknown here.value in
    record {
      unknown = same_register r (above_unknown r.offset o) (above_any r.value v);
      alone = λ b same. lone.alone b (below.classes 16 b same);
    }

-- what is not otherwise is so
no_other_offset : (o : Offset) → ((o ≡ offset.Unknown → ⊥) → ⊥) → o ≡ offset.Unknown
no_other_offset offset.Unknown h = refl
no_other_offset (offset.Known c) h = absurd (h (λ e. absurd cc))

no_other_value : (v : Value) → ((v ≡ Any → ⊥) → ⊥) → v ≡ Any
no_other_value Any h = refl
no_other_value v h = absurd (h (λ e. absurd cc))

no_other_number : (a b : ℕ) → ((a ≡ b → ⊥) → ⊥) → a ≡ b
no_other_number a b h = elim (eqb_tells a b) [
  | inl is ↦ is.1
  | inr apart ↦ absurd (h apart.1)
]

pointed : (s : Parts) → IsState s → ((IsLoneState s → ⊥) → ⊥) → IsPointState s
pointed s is h =
    let r = register_at s.registers 16 in
    record {
      state = is;
      unknown = same_register r
          (no_other_offset r.offset (λ no. h (λ lone. no (ap (λ (x : Register). x.offset) lone.unknown))))
          (no_other_value r.value (λ no. h (λ lone. no (ap (λ (x : Register). x.value) lone.unknown))));
      alone = λ b same. no_other_number b 16 (λ no. h (λ lone. no (lone.alone b same)));
    }

-- ---- a table without a point

without : ℕ → List PointState → List PointState
without at [] = []
without at (p ∷ rest) = if p.at == at then without at rest else p ∷ without at rest

abbrev given : Option PointState → Option Parts
given found = option_map (λ (p : PointState). p.state) found

abbrev found_in : List PointState → ℕ → Option PointState
found_in table at = find (λ (p : PointState). p.at == at) table

passed : (same : Bool) (p : PointState) (rest : List PointState) (at : ℕ) → same ≡ false → given (cond same (Some p) (found_in rest at)) ≡ point_state rest at
passed true p rest at is = absurd (true_not_false is)
passed false p rest at is = refl

stopped : (same : Bool) (p : PointState) (rest : List PointState) (at : ℕ) → same ≡ true → given (cond same (Some p) (found_in rest at)) ≡ Some p.state
stopped true p rest at is = refl
stopped false p rest at is = absurd (true_not_false (sym is))

differ : (a b : ℕ) → a ≢ b → (a == b) ≡ false
differ a b apart = elim (eqb_tells a b) [
  | inl is ↦ absurd (apart is.1)
  | inr other ↦ other.0
]

kept_first : (same : Bool) (p : PointState) (low high : List PointState) (b : ℕ) → point_state low b ≡ point_state high b → given (cond same (Some p) (found_in low b)) ≡ given (cond same (Some p) (found_in high b))
kept_first true p low high b later = refl
kept_first false p low high b later = later

kept_step : (same : Bool) (p : PointState) (low rest : List PointState) (at b : ℕ) → (p.at == at) ≡ same → b ≢ at → point_state low b ≡ point_state rest b → point_state (if same then low else p ∷ low) b ≡ point_state (p ∷ rest) b
kept_step true p low rest at b is other later =
    later ∙ sym (passed (p.at == b) p rest b (differ p.at b (λ e. other (sym e ∙ eqb-true p.at at is))))
kept_step false p low rest at b is other later = kept_first (p.at == b) p low rest b later

kept : (at : ℕ) (table : List PointState) (b : ℕ) → b ≢ at → point_state (without at table) b ≡ point_state table b
unfolding without
kept at [] b other = refl
kept at (p ∷ rest) b other = kept_step (p.at == at) p (without at rest) rest at b refl other (kept at rest b other)

gone_step : (same : Bool) (p : PointState) (low : List PointState) (at : ℕ) → (p.at == at) ≡ same → point_state low at ≡ None → point_state (if same then low else p ∷ low) at ≡ None
gone_step true p low at is later = later
gone_step false p low at is later = passed (p.at == at) p low at is ∙ later

gone : (at : ℕ) (table : List PointState) → point_state (without at table) at ≡ None
unfolding without
gone at [] = refl
gone at (p ∷ rest) = gone_step (p.at == at) p (without at rest) at refl (gone at rest)

rises_lower : (from more last : ℕ) (table : List PointState) → from ≤ more → RisesWithin more last table → RisesWithin from last table
rises_lower from more last [] less rises = tt
rises_lower from more last (p ∷ rest) less rises = (omega (arith, less, rises.0), rises.1, rises.2)

rises_step : (same : Bool) (from last : ℕ) (p : PointState) (low : List PointState) → from ≤ p.at → p.at ≤ last → RisesWithin (suc p.at) last low → RisesWithin from last (if same then low else p ∷ low)
rises_step true from last p low first within rises = rises_lower from (suc p.at) last low (omega (arith, first)) rises
rises_step false from last p low first within rises = (first, within, rises)

still_rises : (at from last : ℕ) (table : List PointState) → RisesWithin from last table → RisesWithin from last (without at table)
unfolding without
still_rises at from last [] rises = tt
still_rises at from last (p ∷ rest) rises = rises_step (p.at == at) from last p (without at rest) rises.0 rises.1 (still_rises at (suc p.at) last rest rises.2)

-- ---- the least table

some_is : {A : Type 0} {x y : A} → Some x ≡ Some y → x ≡ y
some_is e = cc

none_some : {A : Type 0} {B : Type 0} {x : A} → None ≡ Some x → B
none_some e = absurd cc

module _ (f : Context) (pairs : List (ℕ × ℕ)) (table : List PointState) (is : IsLeastWith f pairs table) where
  valid_at : (at : ℕ) (s : Parts) → point_state table at ≡ Some s → IsValidState f.bounds s
  valid_at at s there =
      let lands = is.least table is.solution at s there in
      subst (λ (x : Parts). IsValidState f.bounds x) (some_is (sym lands.there ∙ there)) lands.fits

  module _ (at : ℕ) (s : Parts) (there : point_state table at ≡ Some s) (no : IsLoneState s → ⊥) where
    stays : (edge : ℕ × Parts) → IsLoneState edge.1 → Lands f table edge → Lands f (without at table) edge
    stays edge lone lands =
        let covered : IsLoneState lands.cover = lone_above edge.1 lands.cover lone lands.is_below in
        let other : edge.0 ≢ at = λ e.
        let same : lands.cover ≡ s = some_is (sym lands.there ∙ (ap (λ (x : ℕ). point_state table x) e ∙ there)) in
        no (subst (λ (x : Parts). IsLoneState x) same covered) in
        record {
          cover = lands.cover;
          there = kept at table edge.0 other ∙ lands.there;
          fits = lands.fits;
          is_below = lands.is_below;
        }

    back_by : (b : ℕ) (t : Parts) → point_state (without at table) b ≡ Some t → b ≢ at
    back_by b t found e = none_some (sym (gone at table) ∙ (ap (λ (x : ℕ). point_state (without at table) x) (sym e) ∙ found))

    back : (b : ℕ) (t : Parts) → point_state (without at table) b ≡ Some t → point_state table b ≡ Some t
    back b t found = sym (kept at table b (back_by b t found)) ∙ found

    solves : SolvesWith f pairs (without at table)
    solves = record {
      rises = still_rises at 0 f.size table is.solution.rises;
      begins = stays (0, entry_state) lone_entry is.solution.begins;
      closed = λ b t found edges post.
          let lone = All-from_recursion CarriesLoneState edges (lone_post f (λ src st. seconds b pairs) b t edges post) in
          let lands = is.solution.closed b t (back b t found) edges post in
          λ k d within. stays (get_or edges k d) (lone k d within) (lands k d within);
    }

    never : ⊥
    never = none_some (sym (gone at table) ∙ (is.least (without at table) solves at s there).there)

  point_states : (at : ℕ) (s : Parts) → point_state table at ≡ Some s → IsPointState s
  point_states at s there = pointed s (valid_at at s there).state (λ no. never at s there no)

least_with : {f : Context} {number : ℕ} {pairs : List (ℕ × ℕ)} {table : List PointState} → IsRound f number pairs table → IsLeastWith f pairs table
least_with (first_round table least) = least
least_with (next_round number pairs more before table at to round passes jumps distinct new fresh least) = least

-- ---- points

above_step : (from : ℕ) (p : PointState) (rest : List PointState) (at : ℕ) (s : Parts) → from ≤ p.at → (point_state rest at ≡ Some s → suc p.at ≤ at) → (same : Bool) → (p.at == at) ≡ same → given (cond same (Some p) (found_in rest at)) ≡ Some s → from ≤ at
above_step from p rest at s first later true is found = omega (arith, first, eqb-true p.at at is)
above_step from p rest at s first later false is found = omega (arith, first, later found)

above : (from last : ℕ) (table : List PointState) → RisesWithin from last table → (at : ℕ) (s : Parts) → point_state table at ≡ Some s → from ≤ at
above from last [] rises at s found = none_some found
above from last (p ∷ rest) rises at s found = above_step from p rest at s rises.0 (above (suc p.at) last rest rises.2 at s) (p.at == at) refl found

are_points : (from last : ℕ) (table : List PointState) → last < 2 ^ 32 → RisesWithin from last table → ((at : ℕ) (s : Parts) → point_state table at ≡ Some s → IsPointState s) → ArePoints from table
are_points from last [] small rises states = tt
are_points from last (p ∷ rest) small rises states = (
  rises.0,
  omega (arith, rises.1, small),
  states p.at p.state (stopped (p.at == p.at) p rest p.at (eq-eqb p.at p.at refl)),
  are_points (suc p.at) last rest small rises.2
      (λ at s found.
      let over = above (suc p.at) last rest rises.2 at s found in
      states at s (passed (p.at == at) p rest at (differ p.at at (λ e. omega (arith, over, e))) ∙ found)),
)

pub least_points : LeastTablesAreOfPoints
least_points f table small is =
    let round = least_with is.last.round in
    are_points 0 f.size table small round.solution.rises (point_states f is.pairs table round)
