-- Places of a range leave their classes, one by one.
use Rattle.std.proofs.Common.{◌≡◌, ◌≢◌, ◌↔◌, ◌⊎◌, ℕ, ◌<◌, ◌≤◌, List, length, get_or, refl, sym, ap, subst, ◌∙◌, arith, inl, inr}
use Rattle.std.specs.List.{All}
use Rattle.std.proofs.lemmas.List.{get_or_default}
use Rattle.vw_names.specs.Division.{root, IsDivision, Same, IsAlone, IsSameBut, LeavesBetween, IsSharedBetween}
use Rattle.vw_names.specs.DivisionOrder.{root_absent}
use Rattle.vw_names.specs.Spot.{NamesPlaces}
use Rattle.vw_names.proofs.Lookups.{root_at}
use Rattle.vw_names.proofs.MoveLemmas.{left_none}
use Rattle.vw_names.proofs.NameLemmas.{names_left}

abbrev pub IsOutside : ℕ → ℕ → ℕ → Type 0
IsOutside low high a = (a < low) ⊎ (high ≤ a)

-- no entry has a place of the range
pub record NoneBetween (entries : List (ℕ × ℕ)) (low high count : ℕ) : Type 0 where
  pub places : (k : ℕ) → k < count → IsOutside low high (get_or entries k (0, 0)).0
  pub roots : (k : ℕ) → k < count → IsOutside low high (get_or entries k (0, 0)).1

outside_apart : (low high a x : ℕ) → low ≤ a → a < high → IsOutside low high x → x ≢ a
outside_apart low high a x at_least less (inl below) = λ same. omega arith
outside_apart low high a x at_least less (inr above) = λ same. omega arith

pub none_between : (xs : List (ℕ × ℕ)) (low high count : ℕ) → IsDivision xs → length xs ≤ count → NoneBetween xs low high count → LeavesBetween low high xs xs
none_between xs low high count division all none = record {
  alone = λ a at_least less. left_none xs a division
      (root_absent xs a (λ k d within. subst (λ (e : ℕ × ℕ). e.0 ≢ a) (get_or_default xs k (0, 0) d within) (outside_apart low high a (get_or xs k (0, 0)).0 at_least less (none.places k (omega arith)))))
      (λ k d within. subst (λ (e : ℕ × ℕ). e.1 ≢ a) (get_or_default xs k (0, 0) d within) (outside_apart low high a (get_or xs k (0, 0)).1 at_least less (none.roots k (omega arith))));
  others = λ a b a_out b_out. (λ same. same, λ same. same);
}

pub entry_together : (xs : List (ℕ × ℕ)) (i : ℕ) (d : ℕ × ℕ) → IsDivision xs → i < length xs → Same xs (get_or xs i d).0 (get_or xs i d).1
entry_together xs i d division within = sym (division.settled (get_or xs i d).0) ∙ ap (root xs) (root_at xs i d division.ascending within)

pub shared_place : (xs : List (ℕ × ℕ)) (i low high : ℕ) → IsDivision xs → i < length xs → low ≤ (get_or xs i (0, 0)).0 → (get_or xs i (0, 0)).0 < high → IsSharedBetween xs low high (get_or xs i (0, 0)).0
shared_place xs i low high division within at_least less =
    let falls = division.falls i (0, 0) within in
    record {
      at_least = at_least;
      less = less;
      other = (get_or xs i (0, 0)).1;
      together = entry_together xs i (0, 0) division within;
      apart = λ same. omega arith;
    }

pub shared_root : (xs : List (ℕ × ℕ)) (i low high : ℕ) → IsDivision xs → i < length xs → low ≤ (get_or xs i (0, 0)).1 → (get_or xs i (0, 0)).1 < high → IsSharedBetween xs low high (get_or xs i (0, 0)).1
shared_root xs i low high division within at_least less =
    let falls = division.falls i (0, 0) within in
    record {
      at_least = at_least;
      less = less;
      other = (get_or xs i (0, 0)).0;
      together = sym (entry_together xs i (0, 0) division within);
      apart = λ same. omega arith;
    }

-- what holds while places leave
pub record Leaving (low high : ℕ) (start now : List (ℕ × ℕ)) : Type 0 where
  pub division : IsDivision now
  pub others : (a b : ℕ) → IsOutside low high a → IsOutside low high b → Same now a b ↔ Same start a b
  pub names : NamesPlaces start → NamesPlaces now

pub leaving_start : (low high : ℕ) (xs : List (ℕ × ℕ)) → IsDivision xs → Leaving low high xs xs
leaving_start low high xs division = record {
  division = division;
  others = λ a b a_out b_out. (λ same. same, λ same. same);
  names = λ names. names;
}

pub leaving_more : (low high place : ℕ) (start now lent next : List (ℕ × ℕ)) → lent ≡ now → Leaving low high start now → IsSharedBetween lent low high place → IsDivision next → IsAlone next place → IsSameBut place now next → Leaving low high start next
leaving_more low high place start now lent next lent_is before shared division alone others = record {
  division = division;
  others = λ a b a_out b_out.
      let a_apart = outside_apart low high place a shared.at_least shared.less a_out in
      let b_apart = outside_apart low high place b shared.at_least shared.less b_out in
      let step = others a b a_apart b_apart in
      let from_start = before.others a b a_out b_out in
      (λ same. from_start.0 (step.0 same), λ same. step.1 (from_start.1 same));
  names = λ names. names_left now next place alone others (before.names names);
}

pub leaving_end : (low high : ℕ) (start now lent : List (ℕ × ℕ)) → lent ≡ now → Leaving low high start now → LeavesBetween low high lent lent → LeavesBetween low high start now
leaving_end low high start now lent lent_is leaving none =
    let A : List (ℕ × ℕ) → Type 0 = λ es. (a : ℕ) → low ≤ a → a < high → IsAlone es a in
    record {
      alone = subst A lent_is none.alone;
      others = leaving.others;
    }

-- a place that shares its class is not alone
pub shared_shrinks : (low high place n m : ℕ) (now lent : List (ℕ × ℕ)) → lent ≡ now → IsSharedBetween lent low high place → IsAlone now place ⊎ (n < m) → n < m
shared_shrinks low high place n m now lent lent_is shared (inl alone) =
    let A : List (ℕ × ℕ) → Type 0 = λ es. IsAlone es place in
    absurd (shared.apart (subst A (sym lent_is) alone shared.other shared.together))
shared_shrinks low high place n m now lent lent_is shared (inr less) = less
