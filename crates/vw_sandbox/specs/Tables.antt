-- Tables of abstract states of the points of functions, and when they are safe: no check fails at a point that has a
-- state, and what control carries along each edge lands in the table.
use Rattle.std.specs.Prelude.{◌≡◌, ℕ, ◌+◌, ◌*◌, ◌%◌, ◌^◌, ◌<◌, ◌≤◌, ◌⊎◌, pos, ◌+ℤ◌, true, false, is_some, List, map, Option, Some, Contains}
use Rattle.vw_bits.specs.Words.{sign_extended}
use Rattle.vw_insn.specs.declared.registers.Width.{Width}
use Rattle.vw_insn.specs.declared.instruction.Insn.{Insn}
use Rattle.vw_insn.specs.Listed.{IsListed}
use Rattle.vw_stmt.specs.declared.operands.Var.{Var}
use Rattle.vw_stmt.specs.declared.statement.Flow.{Flow}
use Rattle.vw_stmt.specs.declared.statement.Flow.TheVariants as flow
use Rattle.vw_lift.specs.Lifted.{steps, flow_of}
use Rattle.vw_lift.specs.Simulation.{HasWord}
use Rattle.vw_rows.specs.Spelling.{Spells}
use Rattle.vw_names.specs.declared.spot.Spot.{Spot}
use Rattle.vw_values.specs.declared.value.Value.TheVariants.{TableFn, JumpDest}
use Rattle.vw_values.specs.Bounds.{IsBounds}
use Rattle.vw_domain.specs.Abstract.{Abstract, IsBelow, abstract_of}
use Rattle.vw_domain.specs.Addresses.{value_of}
use Rattle.vw_domain.specs.Branches.{Rule, rule_at, MayGo, edge_state}
use Rattle.vw_domain.specs.Calls.{after_call, after_probe}
use Rattle.vw_domain.specs.Checks.{PassesAll, MayReturn, MayPush, HasHeapBase}
use Rattle.vw_domain.specs.FormRanges.{IsStateForm}
use Rattle.vw_domain.specs.Operands.{index_of}
use Rattle.vw_domain.specs.Sites.{Site, Plain}
use Rattle.vw_domain.specs.State.{entry_state}
use Rattle.vw_domain.specs.Statements.{applies, finish}
use Rattle.vw_image.specs.declared.stub.Stub.{Stub}
use Rattle.vw_image.specs.declared.stub.StubTo.TheVariants.{Import}
use Rattle.vw_layout.specs.declared.functions.Function.{Function}
use Rattle.vw_layout.specs.declared.layout.Module.{Module as Declared}
use Rattle.vw_state.specs.Context.{extent_of}
use Rattle.vw_state.specs.Sites.{site_word, site_of}
use Rattle.vw_machine.specs.declared.world.World.{World}
use Rattle.vw_machine.specs.Module.{ModuleView, bytes_from, view_of}
use Rattle.vw_sandbox.specs.Maps.{Map}

-- the state of each point of each function, by the function's entry and the point's offset from there
abbrev pub Tables : Type 0
Tables = ℕ → ℕ → Option Abstract

-- the bounds that values of each function may have
abbrev pub Bounds : Type 0
Bounds = Function → List ℕ

module _ (declared : Declared) (bounds : Bounds) (tables : Tables) where
  abbrev pub view : ModuleView
  view = view_of declared

  -- where the next instruction of the function is at a point
  abbrev pub site_at : Function → ℕ → Site
  site_at f next = site_of declared.image (map extent_of declared.tables) (bounds f) (f.entry + next)

  -- A state that comes to a point of the function lands there: the table has a form above it, which is that of a state
  -- with its bounds among the function's.
  pub record Lands (f : Function) (st : Abstract) (to : ℕ) : Type 0 where
    pub high : Abstract
    pub there : tables f.entry to ≡ Some high
    pub above : IsBelow st high
    pub form : IsStateForm (bounds f) high

  -- the stub of the import that probes the stack stands at a place
  pub record IsProbeAt (place : ℕ) : Type 0 where
    pub stub : Stub
    pub there : view.stub place ≡ Some stub
    pub number : ℕ
    pub to_import : stub.to ≡ Import number
    pub is_probe : view.is_probe number ≡ true

  -- a declared function begins at a place, or a stub stands there
  abbrev pub IsCalleeAt : ℕ → Type 0
  IsCalleeAt place = ((g : Function) × Contains declared.functions g × (g.entry ≡ place)) ⊎ ((stub : Stub) × (view.stub place ≡ Some stub))

  -- an instruction of this length is spelled at a point, wholly in the function
  pub record IsSpelled (f : Function) (at : ℕ) (i : Insn) (len : ℕ) : Type 0 where
    pub begins : at < f.size
    pub inside : at + len ≤ f.size
    pub spelled : (w : World) → Spells (bytes_from (view.byte w) (f.entry + at) len) i

  -- the state behind the statements of an instruction of this length at a point, but for its transfer of control
  abbrev pub state_behind : Function → ℕ → Insn → ℕ → Abstract → Abstract
  state_behind f at i len st = applies (site_at f (at + len)) (steps i) st

  module _ (f : Function) (next : ℕ) (st : Abstract) where
    -- one edge of a branch, where control may go along it
    abbrev pub EdgeLands : List Spot → Option (Width × Rule) → ℕ → Type 0
    EdgeLands places rule to =
        MayGo (site_at f next) places (finish st) rule → Lands f (edge_state (site_at f next) places (finish st) rule) to

    -- a call of a place: rsp is known and may be pushed to, and but for the probe rdi holds the heap's base
    abbrev pub Calls : ℕ → Type 0
    Calls place =
        (IsCalleeAt place × (¬ IsProbeAt place) × HasHeapBase st × MayPush st × Lands f (after_call st) next)
        ⊎ (IsProbeAt place × MayPush st × Lands f (after_probe st) next)

    -- The checks of how control goes on, and each edge lands. `st` is the state behind the other statements, and `next`
    -- the point of the next instruction. A jump through a table reads each of its words, which are plain.
    abbrev pub Follows : Flow → Type 0
    Follows flow.Next = Lands f (finish st) next
    Follows (flow.Jump rel) = (to : ℕ) × (pos to ≡ pos next +ℤ rel) × Lands f (finish st) to
    Follows (flow.Branch cond rel) =
        (to : ℕ) × (pos to ≡ pos next +ℤ rel) × (to < f.size)
        × (places : List Spot)
        × EdgeLands places (rule_at cond true (finish st).fact) to
        × EdgeLands places (rule_at cond false (finish st).fact) next
    Follows (flow.JumpReg src) =
        (a : ℕ) × (k : ℕ) × (value_of st (index_of src) ≡ JumpDest a k)
        × ((i : ℕ) → i < k → (x : ℕ) × (site_word declared.image (a + 4 * i) 4 ≡ Plain x)
        × (to : ℕ) × ((a + sign_extended x 4) % 2 ^ 64 ≡ f.entry + to) × Lands f (finish st) to)
    Follows (flow.Call rel) = (place : ℕ) × (pos place ≡ pos (f.entry + next) +ℤ rel) × Calls place
    Follows (flow.CallReg src) =
        (t : ℕ) × (g : ℕ) × (value_of st (index_of src) ≡ TableFn t g) × HasHeapBase st × MayPush st × Lands f (after_call st) next
    Follows flow.Ret = MayReturn st
    Follows flow.Stop = Unit {0}

  -- An instruction stands at a point with this form; and where this is that of a state, no check fails there, and each
  -- edge lands.
  pub record IsSafeAt (f : Function) (at : ℕ) (st : Abstract) : Type 0 where
    pub i : Insn
    pub len : ℕ
    pub stands : IsSpelled f at i len
    pub listed : IsListed i
    pub word : HasWord i
    pub passes : IsStateForm (bounds f) st → PassesAll (site_at f (at + len)) st (steps i)
    pub follows : IsStateForm (bounds f) st → Follows f (at + len) (state_behind f at i len st) (flow_of i)

  -- Tables are safe: each point that has a state is, so that no point but one in the function has one; and the state at
  -- a function's entry lands at its first point.
  pub record AreSafe : Type 0 where
    pub bounded : (f : Function) → Contains declared.functions f → IsBounds (bounds f)
    pub entered : (f : Function) → Contains declared.functions f → Lands f (abstract_of entry_state) 0
    pub each : (f : Function) (at : ℕ) (st : Abstract) → Contains declared.functions f → tables f.entry at ≡ Some st → IsSafeAt f at st

  -- A map tells of the tables: which points have a state; and for a call there through a register or memory, the number
  -- of the table and the tag that the state behind its other statements gives its operand.
  pub record IsMapOf (m : Map) : Type 0 where
    pub points : (f : Function) (at : ℕ) → Contains declared.functions f → m.is_point f.entry at ≡ is_some (tables f.entry at)
    pub callees :
        (f : Function) (at : ℕ) (st : Abstract) (i : Insn) (len : ℕ) (src : Var) (t g : ℕ)
        → Contains declared.functions f → tables f.entry at ≡ Some st → IsSpelled f at i len → flow_of i ≡ flow.CallReg src
        → value_of (state_behind f at i len st) (index_of src) ≡ TableFn t g → m.callee f.entry at ≡ Some (t, g)
