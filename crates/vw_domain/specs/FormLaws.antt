-- The laws of the forms of states: each state has one, and what the equations make of one is one.
use Rattle.std.specs.Prelude.{◌≡◌, ◌↔◌, ℕ, ◌^◌, ℤ, pos, ◌-ℤ◌, ◌≤ℤ◌, ◌<ℤ◌, Bool, true, List, Option}
use Rattle.std.specs.List.{AllByRecursion}
use Rattle.vw_insn.specs.declared.operations.Cond.{Cond}
use Rattle.vw_insn.specs.declared.registers.Width.{Width}
use Rattle.vw_names.specs.declared.spot.Spot.{Spot}
use Rattle.vw_stmt.specs.declared.statement.Stmt.{Stmt}
use Rattle.vw_stmt.specs.declared.statement.Stmt.TheVariants as stmt
use Rattle.vw_stmt.specs.Lifted.{IsLifted}
use Rattle.vw_values.specs.Bounds.{IsMember, IsBounds}
use Rattle.vw_domain.specs.declared.parts.Parts.{Parts}
use Rattle.vw_domain.specs.State.{IsState, Fits, IsValidState, entry_state}
use Rattle.vw_domain.specs.Abstract.{Abstract, abstract_of}
use Rattle.vw_domain.specs.Changes.{call}
use Rattle.vw_domain.specs.Sites.{Site, IsSite}
use Rattle.vw_domain.specs.Statements.{apply, applies, finish}
use Rattle.vw_domain.specs.Branches.{Rule, rule_at, MayGo, frame_places, may_go, edge_state}
use Rattle.vw_domain.specs.Calls.{after_probe}
use Rattle.vw_domain.specs.FormRanges.{IsStateForm}
use Rattle.vw_domain.specs.StateOf.{state_of}

abbrev pub StatesHaveForms : Type 0
StatesHaveForms = (bounds : List ℕ) (s : Parts) → IsValidState bounds s → IsStateForm bounds (abstract_of s)

-- these are bounds, and those are among them
pub record HoldsBounds (members bounds : List ℕ) : Type 0 where
  pub are : IsBounds members
  pub holds : (k : ℕ) → IsMember bounds k → IsMember members k

-- there are bounds that hold each list of bounds, and those that a state names
abbrev pub StatesNameBounds : Type 0
StatesNameBounds =
    (s : Parts) → IsState s
    → (members : List ℕ) × ((bounds : List ℕ) → IsBounds bounds → HoldsBounds members bounds) × Fits members s

-- the parts that are made of each form are a state, and the form is that of the state
abbrev pub StateOfForms : Type 0
StateOfForms =
    (bounds : List ℕ) (form : Abstract)
    → IsStateForm bounds form → IsValidState bounds (state_of form) × (abstract_of (state_of form) ≡ form)

-- each form is that of a state
abbrev pub FormsAreOfStates : Type 0
FormsAreOfStates =
    (bounds : List ℕ) (form : Abstract) → IsStateForm bounds form → (s : Parts) × IsValidState bounds s × (abstract_of s ≡ form)

-- what is known at a function's entry is a state, whatever the bounds
abbrev pub EntryIsState : Type 0
EntryIsState = (bounds : List ℕ) → IsValidState bounds entry_state

-- a signed number of 32 bits (SDM volume 1, 3.7.5)
abbrev pub IsDisplacement : ℤ → Type 0
IsDisplacement d = ((pos 0 -ℤ pos (2 ^ 31)) ≤ℤ d) × (d <ℤ pos (2 ^ 31))

-- so is the displacement of the statement's memory operand
abbrev pub HasDisplacement : Stmt → Type 0
HasDisplacement (stmt.Lea dst mem) = IsDisplacement mem.disp
HasDisplacement (stmt.Load dst size to signed mem) = IsDisplacement mem.disp
HasDisplacement (stmt.Store mem size src) = IsDisplacement mem.disp
HasDisplacement (stmt.Touch mem size write) = IsDisplacement mem.disp
HasDisplacement (stmt.Set dst c) = Unit {0}
HasDisplacement (stmt.Copy dst src) = Unit {0}
HasDisplacement (stmt.Narrow dst src from to signed) = Unit {0}
HasDisplacement (stmt.Sum dst a b minus) = Unit {0}
HasDisplacement (stmt.And dst w a b) = Unit {0}
HasDisplacement (stmt.Shl dst) = Unit {0}
HasDisplacement (stmt.Open dst w) = Unit {0}
HasDisplacement (stmt.Choose dst w a b) = Unit {0}
HasDisplacement (stmt.Flags fact) = Unit {0}
HasDisplacement (stmt.Flow f) = Unit {0}

-- the bounds that the state names may be others than those of the site, but with those
abbrev pub StatementsKeepStateForms : Type 0
StatementsKeepStateForms =
    (site : Site) (members : List ℕ) (st : Abstract) (x : Stmt)
    → IsSite site → HoldsBounds members site.bounds → IsStateForm members st → IsLifted x → HasDisplacement x
    → IsStateForm members (apply site x st)

abbrev pub ListsKeepStateForms : Type 0
ListsKeepStateForms =
    (site : Site) (st : Abstract) (stmts : List Stmt)
    → IsSite site → IsStateForm site.bounds st → AllByRecursion IsLifted stmts → AllByRecursion HasDisplacement stmts
    → IsStateForm site.bounds (applies site stmts st)

abbrev pub EndsKeepStateForms : Type 0
EndsKeepStateForms = (site : Site) (st : Abstract) → IsSite site → IsStateForm site.bounds st → IsStateForm site.bounds (finish st)

abbrev pub CallsKeepStateForms : Type 0
CallsKeepStateForms =
    (bounds : List ℕ) (st : Abstract) (kept : ℕ → Bool) → IsStateForm bounds st → IsStateForm bounds (call st kept (st.offsets 4))

abbrev pub ProbesKeepStateForms : Type 0
ProbesKeepStateForms = (bounds : List ℕ) (st : Abstract) → IsStateForm bounds st → IsStateForm bounds (after_probe st)

-- whether or not control may go along the edge
abbrev pub EdgesKeepStateForms : Type 0
EdgesKeepStateForms =
    (site : Site) (st : Abstract) (places : List Spot) (cond : Cond) (taken : Bool)
    → IsSite site → IsStateForm site.bounds st → IsStateForm site.bounds (edge_state site places st (rule_at cond taken st.fact))

-- whether control may go along an edge of the form of a state is decided at the places that a state can name
abbrev pub MayGoIsDecided : Type 0
MayGoIsDecided =
    (site : Site) (bounds : List ℕ) (st : Abstract) (rule : Option (Width × Rule))
    → IsStateForm bounds st → (may_go site frame_places st rule ≡ true) ↔ MayGo site frame_places st rule
