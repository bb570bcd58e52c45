-- What a step does.
use Rattle.std.proofs.Common.{◌≡◌, ℕ, ◌+◌, ◌≤◌, ◌^◌, Bool, true, false, List, [], ◌∷◌, ◌++◌, refl, sym, ◌∙◌, ap, arith}
use Rattle.std.specs.Prelude.{◌&&◌, ◌||◌, if◌then◌else◌}
use Rattle.std.specs.List.{list_any, AllByRecursion}
use Rattle.vw_insn.specs.declared.instruction.Insn.{Insn}
use Rattle.vw_insn.specs.declared.instruction.Insn.TheVariants as insn
use Rattle.vw_insn.specs.Effect.{Access, After, may_trap, reads}
use Rattle.vw_stmt.specs.Accesses.{places_of}
use Rattle.vw_effect.specs.Meaning.{after_of, IsLoaded, AreShort}
use Rattle.vw_layout.specs.declared.layout.Module.{Module as Declared}
use Rattle.vw_layout.specs.Layout.{IsWhole}
use Rattle.vw_image.specs.Image.{IsImage}
use Rattle.vw_machine.specs.declared.world.World.{World}
use Rattle.vw_machine.specs.declared.choice.Choice.{Choice}
use Rattle.vw_machine.specs.declared.doing.Work.{Work}
use Rattle.vw_machine.specs.declared.event.Event.TheVariants.{Read, Goto}
use Rattle.vw_machine.specs.declared.standing.Outer.{Outer}
use Rattle.vw_machine.specs.declared.standing.Outer.TheVariants as outer
use Rattle.vw_machine.specs.World.{touches, guard_range, heap_range, IsLaidOut}
use Rattle.vw_machine.specs.Module.{ModuleView, view_of}
use Rattle.vw_machine.specs.State.{Activation, MachineState}
use Rattle.vw_machine.specs.Standing.{Code, StandsAt}
use Rattle.vw_machine.specs.Step.{after_insn, accesses, does_trap, slot_address}
use Rattle.vw_machine.specs.Events.{read_events, write_events, transfer_events, insn_events, events_of}
use Rattle.vw_machine.specs.Found.{here_of_outer, IsKnownOuter, IsWork, is_trap, outer_events, work_events}
use Rattle.vw_machine.proofs.CodeLemmas.{Laws, function_ends}

-- an instruction on general registers is given the word that it reads
pub loaded_by : (i : Insn) (all : List Access) (word number : ℕ) → AreShort i all → (AllByRecursion (λ a. a.size ≤ 8) all → number ≡ word) → IsLoaded i word number
loaded_by (insn.Xmm row wide reg rm imm) all word number short same = tt
loaded_by _ all word number short same = same short

any_append : {X : Type 0} (p : X → Bool) (xs ys : List X) → list_any p (xs ++ ys) ≡ (list_any p xs || list_any p ys)
any_append p [] ys = refl
any_append p (x ∷ xs) ys = let rest = any_append p xs ys in rw rest (grouped (p x) (list_any p xs) (list_any p ys))
  where
    grouped : (a b c : Bool) → (a || (b || c)) ≡ ((a || b) || c)
    grouped true b c = refl
    grouped false b c = refl

one_more : (a t b g h : Bool) → ((a || (t && b)) || (g || (t && h))) ≡ ((a || g) || (t && (b || h)))
one_more true t b g h = refl
one_more false false b g h = refl
one_more false true true true h = refl
one_more false true true false h = refl
one_more false true false g h = refl

-- some access touches the guard, or under the choice the heap
any_trap : (w : World) (choice : Choice) (all : List Access)
    → list_any (is_trap w choice) all ≡ (list_any (λ a. touches a.at a.size (guard_range w)) all || (choice.trap && list_any (λ a. touches a.at a.size (heap_range w)) all))
any_trap w choice [] = none choice.trap
  where
    none : (t : Bool) → false ≡ (t && false)
    none true = refl
    none false = refl
any_trap w choice (a ∷ more) =
    let rest = any_trap w choice more in
    rw rest (one_more (touches a.at a.size (guard_range w)) choice.trap (touches a.at a.size (heap_range w))
    (list_any (λ a. touches a.at a.size (guard_range w)) more)
    (list_any (λ a. touches a.at a.size (heap_range w)) more))

all_traps : (t may gx hx gy hy : Bool) → (((t && may) || (gx || (t && hx))) || (gy || (t && hy))) ≡ ((gx || gy) || (t && (may || (hx || hy))))
all_traps false may true hx gy hy = refl
all_traps false may false hx true hy = refl
all_traps false may false hx false hy = refl
all_traps true true true hx gy hy = refl
all_traps true true false hx true hy = refl
all_traps true true false hx false hy = refl
all_traps true false true hx gy hy = refl
all_traps true false false true true hy = refl
all_traps true false false true false hy = refl
all_traps true false false false gy hy = refl

-- an instruction traps by its reads or by its writes
pub trap_of : (w : World) (choice : Choice) (i : Insn) (xs ys : List Access)
    → (((choice.trap && may_trap i) || list_any (is_trap w choice) xs) || list_any (is_trap w choice) ys) ≡ does_trap w i (xs ++ ys) choice
trap_of w choice i xs ys =
    let g = λ (a : Access). touches a.at a.size (guard_range w) in
    let h = λ (a : Access). touches a.at a.size (heap_range w) in
    ap (λ (b : Bool). (((choice.trap && may_trap i) || b) || list_any (is_trap w choice) ys)) (any_trap w choice xs)
    ∙ ap (λ (b : Bool). (((choice.trap && may_trap i) || (list_any g xs || (choice.trap && list_any h xs))) || b)) (any_trap w choice ys)
    ∙ all_traps choice.trap (may_trap i) (list_any g xs) (list_any h xs) (list_any g ys) (list_any h ys)
    ∙ ap (λ (b : Bool). b || (choice.trap && (may_trap i || (list_any h xs || list_any h ys)))) (sym (any_append g xs ys))
    ∙ ap (λ (b : Bool). list_any g (xs ++ ys) || (choice.trap && (may_trap i || b))) (sym (any_append h xs ys))

-- the events of an instruction are those of what it does
pub events_of_work : (m : ModuleView) (w : World) (s : MachineState) (i : Insn) (len : ℕ) (choice : Choice) (work : Work) → IsWork m w s i len choice work → work_events work ≡ insn_events m w s i len choice
events_of_work m w s i len choice work is =
    let f = λ (rs : List Access) (after : After) (traps : Bool) (next : ℕ).
    read_events rs ++ write_events (places_of after.writes) ++ (if traps then [] else transfer_events next after.transfer) in
    let after = after_insn m w s i len choice in
    let rs = reads i (s.rip + len) s.registers in
    ap (λ (r : List Access). f r (after_of work.after) work.traps work.next) is.what_is_read
    ∙ ap (λ (a : After). f rs a work.traps work.next) is.what_is_left
    ∙ ap (λ (b : Bool). f rs after b work.next) is.whether_it_traps
    ∙ ap (λ (n : ℕ). f rs after (does_trap w i (accesses rs after.writes) choice) n) is.what_is_next

module _ (m : ModuleView) (w : World) (s : MachineState) (choice : Choice) where
  pub code_events : (active : List Activation) (i : Insn) (len : ℕ) → StandsAt m w s.rip active (Code i len) → insn_events m w s i len choice ≡ events_of m w s active (Code i len) choice
  code_events [] i len stands = absurd stands
  code_events (top ∷ rest) i len stands = refl

  -- the events of what is none of the module's code
  pub events_of_outer :
      (active : List Activation) (o : Outer) → StandsAt m w s.rip active (here_of_outer o)
      → IsKnownOuter m w o
      → outer_events w (record s { active = active }) o
      ≡ events_of m w s active (here_of_outer o) choice
  events_of_outer [] (outer.Stub slot to) stands known = absurd stands
  events_of_outer [] outer.Host stands known = absurd stands
  events_of_outer [] outer.Probe stands known = absurd stands
  events_of_outer (top ∷ rest) (outer.Stub slot to) stands known =
      ap (λ (n : ℕ). Read (slot_address w slot) 8 ∷ Goto n ∷ []) known
  events_of_outer (top ∷ rest) outer.Host stands known = refl
  events_of_outer (top ∷ rest) outer.Probe stands known = refl

-- an instruction ends below the top of the address space
pub code_ends : (laws : Laws) (m : Declared) → IsWhole m → IsImage m.image → (w : World) → IsLaidOut (view_of m).image (view_of m).imports w
    → (rip : ℕ) (active : List Activation) (i : Insn) (len : ℕ) → StandsAt (view_of m) w rip active (Code i len) → rip + len ≤ 2 ^ 47
code_ends laws m whole image w laid rip [] i len stands = absurd stands
code_ends laws m whole image w laid rip (top ∷ rest) i len stands =
    let f = stands.function in
    let ends = function_ends laws m whole image f stands.of_top.0 w laid in
    let inside = stands.ends.1 in
    omega arith
