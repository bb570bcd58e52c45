-- What is found at a point, from what is found at its instruction; and the slots that are filled.
use Rattle.std.proofs.Common.{◌≡◌, ℕ, ◌+◌, List, Option, Some, None, Result, Ok, Err, IfOk, sym, ap, subst, ◌∙◌, arith, inl, inr}
use Rattle.std.proofs.lemmas.Bool.{cases_eq}
use Rattle.vw_insn.specs.declared.instruction.Insn.{Insn}
use Rattle.vw_stmt.specs.declared.operands.Var.{Var}
use Rattle.vw_stmt.specs.declared.statement.Flow.{Flow}
use Rattle.vw_stmt.specs.declared.statement.Flow.TheVariants as flow
use Rattle.vw_lift.specs.Lifted.{flow_of}
use Rattle.vw_solver.specs.Solution.{state_at}
use Rattle.vw_domain.specs.declared.parts.Parts.{Parts}
use Rattle.vw_domain.specs.Addresses.{value_of}
use Rattle.vw_domain.specs.Operands.{index_of}
use Rattle.vw_state.specs.declared.jumps.JumpTable.{JumpTable}
use Rattle.vw_state.specs.Checks.{StaysInside, Leaves, FailsGraph}
use Rattle.vw_state.specs.Code.{StandsAlone}
use Rattle.vw_state.specs.Context.{Context, code_of}
use Rattle.vw_state.specs.Post.{jump_table, form_behind}
use Rattle.vw_graph.specs.declared.walk.Look.{Look}
use Rattle.vw_graph.specs.declared.walk.Look.TheVariants.{Passes, Jumps, Stops}
use Rattle.vw_graph.specs.search.Jumps.{slot_at, PutsSlot, Tells, JumpsBy, AreSlots}
use Rattle.vw_graph.specs.search.Walks.{PassesAt, LeavesBehind, FindsThrough, FindsBehind, FindsAt, PassesHere}
use Rattle.vw_graph.proofs.Targets.{goes, passes}

-- ---- at an instruction

module _ (f : Context) (next : ℕ) (i : Insn) (state : Parts) where
  abbrev Out : Flow → Type 0
  Out fl = Leaves f next (form_behind f next i state) fl

  pub through_behind : (src : Var) (slot : Option JumpTable) (look : Look) → flow_of i ≡ flow.JumpReg src → slot ≡ jump_table (value_of (form_behind f next i state) (index_of src)) → FindsThrough f slot look → FindsBehind f next i state look
  through_behind src slot Passes is told finds = absurd finds
  through_behind src slot (Jumps table) is told finds =
      let stays : StaysInside f (jump_table (value_of (form_behind f next i state) (index_of src))) = subst (λ (o : Option JumpTable). StaysInside f o) told finds.1 in
      ((λ out. (subst Out is out) stays), record { src = src; jumps = is; tells = sym told ∙ finds.0 })
  through_behind src slot (Stops check) is told finds =
      (finds.0, subst Out (sym is) (λ stays. finds.1 (subst (λ (o : Option JumpTable). StaysInside f o) (sym told) stays)))

  pub passes_behind : ((src : Var) → flow_of i ≡ flow.JumpReg src → ⊥) → (LeavesBehind f next i state → ⊥) → FindsBehind f next i state Passes
  passes_behind direct stay = (stay, λ table told. direct told.src told.jumps)

-- ---- at a point

same_src : (a b : Var) → flow.JumpReg a ≡ flow.JumpReg b → a ≡ b
same_src a b e = cc

same_table : (a b : JumpTable) → Some a ≡ Some b → a ≡ b
same_table a b e = cc

module _ (f : Context) {at len : ℕ} {i : Insn} (state : Parts) (stands : StandsAlone (code_of f) at i len) where
  told_here : (table : JumpTable) → JumpsBy f at state table → Tells f (at + len) i state table
  told_here table by =
      let one = stands.alone by.instruction by.len by.stands in
      subst (λ (n : ℕ). Tells f (at + n) i state table) one.1 (subst (λ (j : Insn). Tells f (at + by.len) j state table) one.0 by.by)

  one_table : (table other : JumpTable) → Tells f (at + len) i state table → Tells f (at + len) i state other → other ≡ table
  one_table table other told also =
      let src : also.src ≡ told.src = same_src also.src told.src (sym also.jumps ∙ told.jumps) in
      same_table other table (sym also.tells ∙ (ap (λ (v : Var). jump_table (value_of (form_behind f (at + len) i state) (index_of v))) src ∙ told.tells))

  pub behind_at : (look : Look) → FindsBehind f (at + len) i state look → FindsAt f at state look
  behind_at Passes finds = (passes f state stands finds.0, λ table by. finds.1 table (told_here table by))
  behind_at (Jumps table) finds = (
    passes f state stands finds.0,
    record { instruction = i; len = len; stands = stands.begins; by = finds.1 },
    λ other by. one_table table other finds.1 (told_here other by),
  )
  behind_at (Stops check) finds = subst (λ (n : ℕ). FailsGraph f at state n) (sym finds.0) (goes f state stands finds.1)

-- ---- slots

one_state : (table : List (Option Parts)) (at : ℕ) (a b : Parts) → state_at table at ≡ Some a → state_at table at ≡ Some b → a ≡ b
one_state table at a b is_a is_b = cc

module _ (f : Context) (table : List (Option Parts)) (slots : List (Option JumpTable)) (at : ℕ) (are : AreSlots f table slots at) where
  -- no jump through a register stands at the next point
  pub slots_stay : ((state : Parts) (jumps : JumpTable) → state_at table at ≡ Some state → JumpsBy f at state jumps → ⊥) → AreSlots f table slots (at + 1)
  slots_stay none = record {
    only = λ p jumps is. let old = are.only p jumps is in (omega (arith, old.0), old.1);
    all = λ p state jumps less there by. elim (cases_eq p at) [
      | inl same ↦
          let there_at : state_at table at ≡ Some state = subst (λ (n : ℕ). state_at table n ≡ Some state) same there in
          absurd (none state jumps there_at (subst (λ (n : ℕ). JumpsBy f n state jumps) same by))
      | inr other ↦ are.all p state jumps (omega (arith, less, other)) there by
    ];
  }

  -- one does, with this table
  pub slots_more : (points : ℕ) (new : List (Option JumpTable)) (state : Parts) (jumps : JumpTable) → state_at table at ≡ Some state → JumpsBy f at state jumps → ((other : JumpTable) → JumpsBy f at state other → other ≡ jumps) → PutsSlot points slots at jumps new → AreSlots f table new (at + 1)
  slots_more points new state jumps there by alone puts = record {
    only = λ p other is. elim (cases_eq p at) [
      | inl same ↦
          let here : Some jumps ≡ Some other = sym puts.here ∙ (ap (λ (n : ℕ). slot_at new n) (sym same) ∙ is) in
          let one : jumps ≡ other = same_table jumps other here in
          (omega (arith, same), (state, ap (λ (n : ℕ). state_at table n) same ∙ there, subst (λ (n : ℕ). JumpsBy f n state other) (sym same) (subst (λ (t : JumpTable). JumpsBy f at state t) one by)))
      | inr apart ↦ let old = are.only p other (sym (puts.others p apart) ∙ is) in (omega (arith, old.0), old.1)
    ];
    all = λ p s other less at_p by_other. elim (cases_eq p at) [
      | inl same ↦
          let there_at : state_at table at ≡ Some s = subst (λ (n : ℕ). state_at table n ≡ Some s) same at_p in
          let by_at : JumpsBy f at s other = subst (λ (n : ℕ). JumpsBy f n s other) same by_other in
          let by_state : JumpsBy f at state other = subst (λ (x : Parts). JumpsBy f at x other) (one_state table at s state there_at there) by_at in
          ap (λ (n : ℕ). slot_at new n) same ∙ (puts.here ∙ ap (λ (t : JumpTable). Some t) (sym (alone other by_state)))
      | inr apart ↦ puts.others p apart ∙ are.all p s other (omega (arith, less, apart)) at_p by_other
    ];
  }

-- ---- answers

pub if_ok_map : {T E : Type 0} (P Q : T → Type 0) (r : Result T E) → ((t : T) → P t → Q t) → IfOk r P → IfOk r Q
if_ok_map P Q (Ok t) each holds = each t holds
if_ok_map P Q (Err e) each holds = tt

pub if_ok_three : {T E : Type 0} (P Q R S : T → Type 0) (r : Result T E) → ((t : T) → P t → Q t → R t → S t) → IfOk r P → IfOk r Q → IfOk r R → IfOk r S
if_ok_three P Q R S (Ok t) each p q r = each t p q r
if_ok_three P Q R S (Err e) each p q r = tt

-- ---- at a point of a table

module _ (f : Context) (table : List (Option Parts)) (at : ℕ) (slots : List (Option JumpTable)) where
  pub nothing_here : None ≡ state_at table at → PassesHere f table at slots slots
  nothing_here none = record {
    passes = λ state there. absurd (cc (none, there));
    slots = λ are. slots_stay f table slots at are (λ state jumps there by. absurd (cc (none, there)));
  }

  module _ (state : Parts) (there : Some state ≡ state_at table at) where
    one_here : (other : Parts) → state_at table at ≡ Some other → state ≡ other
    one_here other is = cc

    pub passes_here : (look : Look) → look ≡ Passes → FindsAt f at state look → PassesHere f table at slots slots
    passes_here look same finds =
        let found : FindsAt f at state Passes = subst (λ (l : Look). FindsAt f at state l) same finds in
        record {
          passes = λ other is. subst (λ (s : Parts). PassesAt f at s) (one_here other is) found.0;
          slots = λ are. slots_stay f table slots at are (λ other jumps is by. found.1 jumps (subst (λ (s : Parts). JumpsBy f at s jumps) (sym (one_here other is)) by));
        }

    pub jumps_here : (look : Look) (jumps : JumpTable) → look ≡ Jumps jumps → FindsAt f at state look → (points : ℕ) (new : List (Option JumpTable)) → PutsSlot points slots at jumps new → PassesHere f table at slots new
    jumps_here look jumps same finds points new puts =
        let found : FindsAt f at state (Jumps jumps) = subst (λ (l : Look). FindsAt f at state l) same finds in
        record {
          passes = λ other is. subst (λ (s : Parts). PassesAt f at s) (one_here other is) found.0;
          slots = λ are. slots_more f table slots at are points new state jumps (sym there) found.1 found.2 puts;
        }
