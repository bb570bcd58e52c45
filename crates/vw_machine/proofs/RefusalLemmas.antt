-- The events of slots, and the first of them that is not permitted.
use Rattle.std.proofs.Common.{◌≡◌, ℕ, zero, suc, ◌+◌, List, [], ◌∷◌, ◌++◌, get_or, take}
use Rattle.std.proofs.Common.{Option, None, Some, refl, sym, ap, subst, add-one}
use Rattle.std.specs.List.{AllByRecursion}
use Rattle.vw_machine.specs.declared.world.World.{World}
use Rattle.vw_machine.specs.declared.choice.Choice.{Choice}
use Rattle.vw_machine.specs.declared.event.Event.{Event}
use Rattle.vw_machine.specs.declared.event.Event.TheVariants.{Goto}
use Rattle.vw_machine.specs.Module.{ModuleView}
use Rattle.vw_machine.specs.State.{Activation, MachineState}
use Rattle.vw_machine.specs.Standing.{Here, Nowhere}
use Rattle.vw_machine.specs.Events.{events, events_of}
use Rattle.vw_machine.specs.Permitted.{Permitted, PermittedOf}
use Rattle.vw_machine.specs.Answers.{IsFirstRefused}
use Rattle.vw_machine.specs.Found.{events_in}

module _ (m : ModuleView) (w : World) (s : MachineState) (here : Here) where
  -- each event of the slots is permitted
  abbrev pub AllIn : List (Option Event) → Type 0
  AllIn slots = AllByRecursion (Permitted m w s here) (events_in slots)

  -- one slot more
  all_suc :
      (slots : List (Option Event)) (i : ℕ) → AllIn (get_or slots i None ∷ [])
      → AllIn (take i slots) → AllIn (take (suc i) slots)
  all_suc [] i free all = tt
  all_suc (x ∷ slots) zero free all = free
  all_suc (None ∷ slots) (suc i) free all = all_suc slots i free all
  all_suc (Some x ∷ slots) (suc i) free all = (all.0, all_suc slots i free all.1)

  pub all_more :
      (slots : List (Option Event)) (i : ℕ) (slot : Option Event) → get_or slots i None ≡ slot
      → AllIn (slot ∷ []) → AllIn (take i slots) → AllIn (take (i + 1) slots)
  all_more slots i slot is free all =
      let there = subst (λ (o : Option Event). AllIn (o ∷ [])) (sym is) free in
      rw add-one (all_suc slots i there all)

  -- the first event that is not permitted
  pub first_at :
      (slots : List (Option Event)) (i : ℕ) (event : Event) → get_or slots i None ≡ Some event
      → AllIn (take i slots) → ¬ Permitted m w s here event
      → IsFirstRefused m w s here (events_in slots) event
  first_at [] i event is all denied = absurd cc
  first_at (x ∷ slots) zero event is all denied = record {
    before = [];
    behind = events_in slots;
    in_order = ap (λ (o : Option Event). events_in (o ∷ slots)) is;
    permitted = tt;
    refused = denied;
  }
  first_at (None ∷ slots) (suc i) event is all denied = first_at slots i event is all denied
  first_at (Some x ∷ slots) (suc i) event is all denied =
      let first = first_at slots i event is all.1 denied in
      record {
        before = x ∷ first.before;
        behind = first.behind;
        in_order = ap (λ (events : List Event). x ∷ events) first.in_order;
        permitted = (all.0, first.permitted);
        refused = first.refused;
      }

-- the events of one slot more
listed_suc :
    (slots : List (Option Event)) (i : ℕ)
    → events_in (take (suc i) slots)
    ≡ events_in (take i slots) ++ events_in (get_or slots i None ∷ [])
listed_suc [] zero = refl
listed_suc [] (suc i) = refl
listed_suc (x ∷ slots) zero = refl
listed_suc (None ∷ slots) (suc i) = listed_suc slots i
listed_suc (Some x ∷ slots) (suc i) = ap (λ (events : List Event). x ∷ events) (listed_suc slots i)

pub listed_more :
    (slots : List (Option Event)) (i : ℕ) (slot : Option Event) → get_or slots i None ≡ slot
    → events_in (take (i + 1) slots) ≡ events_in (take i slots) ++ events_in (slot ∷ [])
listed_more slots i slot is =
    rw add-one
    (subst
    (λ (o : Option Event).
    events_in (take (suc i) slots) ≡ events_in (take i slots) ++ events_in (o ∷ [])) is
    (listed_suc slots i))

-- where nothing stands, the transfer to rip is refused
pub refused_nowhere : (m : ModuleView) (w : World) (s : MachineState) (choice : Choice) → IsFirstRefused m w s Nowhere (events m w s Nowhere choice) (Goto s.rip)
refused_nowhere m w s choice = record { before = []; behind = []; in_order = one s.active; permitted = tt; refused = none s.active }
  where
    one : (active : List Activation) → events_of m w s active Nowhere choice ≡ Goto s.rip ∷ []
    one [] = refl
    one (top ∷ rest) = refl

    none : (active : List Activation) → ¬ PermittedOf m w active Nowhere (Goto s.rip)
    none [] = λ may. may
    none (top ∷ rest) = λ may. may
