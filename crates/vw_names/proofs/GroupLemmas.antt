-- The classes of two places or more, while the entries of a division are read one by one.
use Rattle.std.proofs.Common.{◌≡◌, ◌≢◌, ◌↔◌, ◌⊎◌, ℕ, zero, suc, ◌+◌, ◌-◌, ◌<◌, ◌≤◌, List, [], ◌∷◌, ◌++◌, length, get_or, take, set, refl, sym, ap, subst, ◌∙◌, arith, inl, inr}
use Rattle.std.specs.List.{All, Any, AllPairs, AllWithin, insert}
use Rattle.std.proofs.lemmas.Bool.{cases_lt, cases_eq}
use Rattle.std.proofs.lemmas.Grind.{get_or-set_at}
use Rattle.std.proofs.lemmas.List.{get_or_default, get_or_append_left, get_or_at, length_push, length-set, length-take, get_or-take, get_or-set_other, take_more}
use Rattle.std.proofs.lemmas.List.Edits.{get_or-insert_below, get_or-insert_at, get_or-insert_above, length-insert}
use Rattle.std.proofs.lemmas.List.Quantifiers.{all_pairs_push, Any-push, any-set}
use Rattle.vw_names.specs.Division.{root, IsDivision, Same}
use Rattle.vw_names.specs.DivisionOrder.{root_at_most}
use Rattle.vw_names.specs.Groups.{Has, first_place, IsGroup, AreGroups, PutsPlace}
use Rattle.vw_names.specs.Groups.PutsPlace.{grown, begun}
use Rattle.vw_names.specs.Spot.{number, IsPlaceNumber, NamesPlaces}
use Rattle.vw_names.specs.declared.spot.Spot.{Spot}
use Rattle.vw_names.specs.declared.spot.Spot.TheVariants.{Flags}
use Rattle.vw_names.proofs.BetweenLemmas.{entry_together}
use Rattle.vw_names.proofs.Lookups.{root_at}
use Rattle.vw_names.proofs.MoveLemmas.{ascending_insert, get_or-insert_behind}
use Rattle.vw_names.proofs.Refines.{root_push_other, root_push_here, alone_from, only_own, falls_take, below_take, root_take}

-- ---- places of a list

pub has_at : (group : List Spot) (k : ℕ) (d : Spot) → k < length group → Has group (number (get_or group k d))
has_at group k d within = (k, get_or group k d, within, get_or_default group k (get_or group k d) d within, refl)

pub first_is : (group : List Spot) (d : Spot) → 0 < length group → first_place group ≡ number (get_or group 0 d)
first_is [] d some = absurd (omega arith)
first_is (spot ∷ rest) d some = refl

-- a place of an ascending list is its first or above it
pub first_least : (group : List Spot) (a : ℕ) → AllPairs (λ earlier later. number earlier < number later) group → Has group a → first_place group ≤ a
first_least group a ascends has =
    let within = has.2 in
    let is = ap number has.3 in
    let place = has.4 in
    let first = first_is group has.1 (omega arith) in
    elim (cases_eq has.0 0) [
      | inl at_first ↦
          let same : number (get_or group has.0 has.1) ≡ number (get_or group 0 has.1) = ap (λ (n : ℕ). number (get_or group n has.1)) at_first in
          omega arith
      | inr later ↦ let less = ascends 0 has.0 has.1 (omega arith) within in omega arith
    ]

pub has_push_old : (group : List Spot) (spot : Spot) (a : ℕ) → Has group a → Has (group ++ spot ∷ []) a
has_push_old group spot a has =
    let size = length_push group spot in
    let within = has.2 in
    (has.0, has.1, omega arith, get_or_append_left group (spot ∷ []) has.1 has.0 has.2 ∙ has.3, has.4)

pub has_push_cases : (group : List Spot) (spot : Spot) (a : ℕ) → Has (group ++ spot ∷ []) a → Has group a ⊎ (number spot ≡ a)
has_push_cases group spot a has =
    let size = length_push group spot in
    let within = has.2 in
    elim (cases_lt has.0 (length group)) [
      | inl front ↦ inl (has.0, has.1, front, sym (get_or_append_left group (spot ∷ []) has.1 has.0 front) ∙ has.3, has.4)
      | inr back ↦ inr (ap number (sym (get_or_at group spot [] has.1 has.0 (omega arith)) ∙ has.3) ∙ has.4)
    ]

pub first_push : (group : List Spot) (spot : Spot) → 0 < length group → first_place (group ++ spot ∷ []) ≡ first_place group
first_push [] spot some = absurd (omega arith)
first_push (first ∷ rest) spot some = refl

has_pair : (first second : Spot) (a : ℕ) → Has (first ∷ second ∷ []) a → (number first ≡ a) ⊎ (number second ≡ a)
has_pair first second a has =
    let within = has.2 in
    let list : List Spot = first ∷ second ∷ [] in
    let at : ℕ → Spot = λ n. get_or list n has.1 in
    elim (cases_eq has.0 0) [
      | inl zero_is ↦ inl (ap number (ap at (sym zero_is) ∙ has.3) ∙ has.4)
      | inr later ↦ let one_is : has.0 ≡ 1 = omega arith in inr (ap number (ap at (sym one_is) ∙ has.3) ∙ has.4)
    ]

pair_ascends : (first second : Spot) → number first < number second → AllPairs (λ earlier later. number earlier < number later) (first ∷ second ∷ [])
pair_ascends first second less = λ i j d before within.
    let list : List Spot = first ∷ second ∷ [] in
    let i_is : i ≡ 0 = omega arith in
    let j_is : j ≡ 1 = omega arith in
    let P : ℕ → Type 0 = λ n. number (get_or list n d) < number (get_or list j d) in
    let Q : ℕ → Type 0 = λ n. number first < number (get_or list n d) in
    subst P (sym i_is) (subst Q (sym j_is) less)

-- ---- an entry more

module _ (front : List (ℕ × ℕ)) (p r : ℕ) where
  abbrev pub More : List (ℕ × ℕ)
  More = front ++ (p, r) ∷ []

  -- the front is a division of places below p, in which r is the least of its class
  pub record Ready : Type 0 where
    pub division : IsDivision front
    pub below : All (λ e. e.0 < p) front
    pub less : r < p
    pub own : root front r ≡ r

  own_p : Ready → root front p ≡ p
  own_p t = alone_from front p p t.below (omega arith)

  only_p : Ready → (b : ℕ) → Same front p b → b ≡ p
  only_p t b same = only_own front p b t.division.falls t.below (sym same ∙ own_p t)

  at_p : Ready → root More p ≡ r
  at_p t = root_push_here front p r t.below

  at_other : (x : ℕ) → x ≢ p → root More x ≡ root front x
  at_other x apart = root_push_other front p r x apart

  at_r : Ready → root More r ≡ r
  at_r t = let l = t.less in at_other r (λ same. omega arith) ∙ t.own

  first_root : Ready → (group : List Spot) → IsGroup front group → root front (first_place group) ≡ first_place group
  first_root t group is =
      let f : ℕ = first_place group in
      let low = first_least group (root front f) is.ascending ((is.whole (root front f)).1 (t.division.settled f)) in
      let high = root_at_most front f t.division.falls in
      omega arith

  -- the second place of a list
  second_above : (group : List Spot) → IsGroup front group → first_place group < number (get_or group 1 Flags)
  second_above group is =
      let several = is.several in
      let first = first_is group Flags (omega arith) in
      let less = is.ascending 0 1 Flags (omega arith) (omega arith) in
      omega arith

  member_below : Ready → (group : List Spot) → IsGroup front group → (a : ℕ) → Has group a → a < p
  member_below t group is a has = elim (cases_lt a p) [
    | inl less ↦ less
    | inr high ↦
        let several = is.several in
        let x : ℕ = number (get_or group 1 Flags) in
        let second = second_above group is in
        let first = first_root t group is in
        let own = alone_from front p a t.below high in
        let together = (is.whole a).0 has in
        let own_x : root front x ≡ x = alone_from front p x t.below (omega arith) in
        let together_x = (is.whole x).0 (has_at group 1 Flags (omega arith)) in
        absurd (omega arith)
  ]

  first_below : Ready → (group : List Spot) → IsGroup front group → first_place group < p
  first_below t group is =
      let several = is.several in
      let first = first_is group Flags (omega arith) in
      let less = member_below t group is (number (get_or group 0 Flags)) (has_at group 0 Flags (omega arith)) in
      omega arith

  group_stays : Ready → (group : List Spot) → IsGroup front group → first_place group ≢ r → IsGroup More group
  group_stays t group is apart =
      let f : ℕ = first_place group in
      let low = first_below t group is in
      let at_f : root More f ≡ f = at_other f (λ same. omega arith) ∙ first_root t group is in
      record {
        ascending = is.ascending;
        several = is.several;
        whole = λ a. elim (cases_eq a p) [
          | inl a_is ↦ (
            λ has. let less = member_below t group is a has in absurd (omega arith),
            λ same. absurd (apart (sym at_f ∙ sym same ∙ ap (root More) a_is ∙ at_p t)),
          )
          | inr a_apart ↦ (
            λ has. at_other a a_apart ∙ (is.whole a).0 has ∙ first_root t group is ∙ sym at_f,
            λ same. (is.whole a).1 (sym (at_other a a_apart) ∙ same ∙ at_f ∙ sym (first_root t group is)),
          )
        ];
      }

  group_grows : Ready → (group : List Spot) → IsGroup front group → first_place group ≡ r → (spot : Spot) → number spot ≡ p → IsGroup More (group ++ spot ∷ [])
  group_grows t group is first_r spot spot_is =
      let several = is.several in
      let size = length_push group spot in
      let first : first_place (group ++ spot ∷ []) ≡ r = first_push group spot (omega arith) ∙ first_r in
      let at_first : root More (first_place (group ++ spot ∷ [])) ≡ r = ap (root More) first ∙ at_r t in
      let old_first : root front (first_place group) ≡ r = ap (root front) first_r ∙ t.own in
      record {
        ascending = all_pairs_push (λ earlier later. number earlier < number later) group spot is.ascending (λ k d within. let less = member_below t group is (number (get_or group k d)) (has_at group k d within) in omega arith);
        several = omega arith;
        whole = λ a. elim (cases_eq a p) [
          | inl a_is ↦ (
            λ has. ap (root More) a_is ∙ at_p t ∙ sym at_first,
            λ same. Any-push (λ s. number s ≡ a) group spot (spot_is ∙ sym a_is),
          )
          | inr a_apart ↦ (
            λ has. elim (has_push_cases group spot a has) [
              | inl old ↦ at_other a a_apart ∙ (is.whole a).0 old ∙ old_first ∙ sym at_first
              | inr here ↦ absurd (a_apart (sym here ∙ spot_is))
            ],
            λ same. has_push_old group spot a ((is.whole a).1 (sym (at_other a a_apart) ∙ same ∙ at_first ∙ sym old_first)),
          )
        ];
      }

  -- where no list begins with r, r is alone in the front
  alone_r : Ready → (groups : List (List Spot)) → AreGroups front groups → All (λ group. first_place group ≢ r) groups → (a : ℕ) → root front a ≡ r → a ≡ r
  alone_r t groups are none a same = elim (cases_eq a r) [
    | inl is ↦ is
    | inr apart ↦
        let found = are.complete a r apart (same ∙ sym t.own) in
        let group = found.1 in
        let each : IsGroup front group = subst (IsGroup front) found.3 (are.each found.0 group found.2) in
        let together = (each.whole a).0 found.4 in
        let first = first_root t group each in
        absurd (none found.0 group found.2 (ap first_place found.3 ∙ sym first ∙ sym together ∙ same))
  ]

  group_begins : Ready → (groups : List (List Spot)) → AreGroups front groups → All (λ group. first_place group ≢ r) groups → (first second : Spot) → number first ≡ r → number second ≡ p → IsGroup More (first ∷ second ∷ [])
  group_begins t groups are none first second first_r second_p =
      let at_first : root More (number first) ≡ r = ap (root More) first_r ∙ at_r t in
      record {
        ascending = pair_ascends first second (let l = t.less in omega arith);
        several = omega arith;
        whole = λ a. elim (cases_eq a p) [
          | inl a_is ↦ (
            λ has. ap (root More) a_is ∙ at_p t ∙ sym at_first,
            λ same. (1, second, omega arith, refl, second_p ∙ sym a_is),
          )
          | inr a_apart ↦ (
            λ has. elim (has_pair first second a has) [
              | inl here ↦ ap (root More) (sym here)
              | inr there ↦ absurd (a_apart (sym there ∙ second_p))
            ],
            λ same. (0, first, omega arith, refl, first_r ∙ sym (alone_r t groups are none a (sym (at_other a a_apart) ∙ same ∙ at_first))),
          )
        ];
      }

  -- ---- the lists with a place more

  abbrev pub IsComplete : List (List Spot) → Type 0
  IsComplete groups = (a b : ℕ) → a ≢ b → Same More a b → Any (λ group. Has group a) groups

  -- a class of the front is one of the longer list, and p and r are in a list of it
  complete_more : Ready → (groups groups' : List (List Spot)) → AreGroups front groups → ((a : ℕ) → Any (λ group. Has group a) groups → Any (λ group. Has group a) groups') → Any (λ group. Has group p) groups' → Any (λ group. Has group r) groups' → IsComplete groups'
  complete_more t groups groups' are keeps has_p has_r = λ a b apart same. elim (cases_eq a p) [
    | inl a_is ↦ subst (λ (n : ℕ). Any (λ group. Has group n) groups') (sym a_is) has_p
    | inr a_apart ↦ elim (cases_eq b p) [
      | inl b_is ↦
          let under : root front a ≡ r = sym (at_other a a_apart) ∙ same ∙ ap (root More) b_is ∙ at_p t in
          elim (cases_eq a r) [
            | inl at ↦ subst (λ (n : ℕ). Any (λ group. Has group n) groups') (sym at) has_r
            | inr other ↦ keeps a (are.complete a r other (under ∙ sym t.own))
          ]
      | inr b_apart ↦ keeps a (are.complete a b apart (sym (at_other a a_apart) ∙ same ∙ at_other b b_apart))
    ]
  ]

  groups_grown : Ready → (groups : List (List Spot)) → AreGroups front groups → (at : ℕ) (group : List Spot) (spot : Spot) → at < length groups → get_or groups at group ≡ group → first_place group ≡ r → number spot ≡ p → AreGroups More (set groups at (group ++ spot ∷ []))
  groups_grown t groups are at group spot within is first_r spot_is =
      let longer : List Spot = group ++ spot ∷ [] in
      let size = length-set groups at longer in
      let each : IsGroup front group = subst (IsGroup front) is (are.each at group within) in
      let several = each.several in
      let first : first_place longer ≡ r = first_push group spot (omega arith) ∙ first_r in
      let grown_is = group_grows t group each first_r spot spot_is in
      let has_r : Has longer r = (grown_is.whole r).1 (sym (ap (root More) first)) in
      let firsts : (k : ℕ) (d : List Spot) → k < length groups → first_place (get_or (set groups at longer) k d) ≡ first_place (get_or groups k d) = λ k d inside. elim (cases_eq k at) [
        | inl here ↦
            let same_k : get_or groups k d ≡ group = ap (λ (n : ℕ). get_or groups n d) here ∙ get_or_default groups at d group within ∙ is in
            ap first_place (get_or-set_at groups at k longer d here within) ∙ first ∙ sym first_r ∙ sym (ap first_place same_k)
        | inr other ↦ ap first_place (get_or-set_other groups at k longer d other)
      ] in
      record {
        each = λ k d inside. elim (cases_eq k at) [
          | inl here ↦ subst (IsGroup More) (sym (get_or-set_at groups at k longer d here within)) grown_is
          | inr other ↦
              let old_first = ap first_place (get_or_default groups at d group within ∙ is) in
              let apart : first_place (get_or groups k d) ≢ r = elim (cases_lt k at) [
                | inl before ↦ let less = are.ordered k at d before within in λ same. omega arith
                | inr behind ↦ let less = are.ordered at k d (omega arith) (omega arith) in λ same. omega arith
              ] in
              subst (IsGroup More) (sym (get_or-set_other groups at k longer d other)) (group_stays t (get_or groups k d) (are.each k d (omega arith)) apart)
        ];
        ordered = λ i j d before inside.
            let less = are.ordered i j d before (omega arith) in
            let i_is = firsts i d (omega arith) in
            let j_is = firsts j d (omega arith) in
            omega arith;
        complete = complete_more t groups (set groups at longer) are
            (λ a found. elim (cases_eq found.0 at) [
              | inl here ↦
                  let same : found.1 ≡ group = sym found.3 ∙ ap (λ (n : ℕ). get_or groups n found.1) here ∙ get_or_default groups at found.1 group within ∙ is in
                  any-set (λ g. Has g a) groups at longer within (has_push_old group spot a (subst (λ (g : List Spot). Has g a) same found.4))
              | inr other ↦ let w = found.2 in (found.0, found.1, omega arith, get_or-set_other groups at found.0 longer found.1 other ∙ found.3, found.4)
            ])
            (any-set (λ g. Has g p) groups at longer within (Any-push (λ s. number s ≡ p) group spot spot_is))
            (any-set (λ g. Has g r) groups at longer within has_r);
      }

  any_insert_at : (P : List Spot → Type 0) (groups : List (List Spot)) (at : ℕ) (group : List Spot) → at ≤ length groups → P group → Any P (insert groups at group)
  any_insert_at P groups at group within holds =
      let size = length-insert groups at group within in
      (at, group, omega arith, get_or-insert_at groups at group group within, holds)

  any_insert : (P : List Spot → Type 0) (groups : List (List Spot)) (at : ℕ) (group : List Spot) → at ≤ length groups → Any P groups → Any P (insert groups at group)
  any_insert P groups at group within found =
      let size = length-insert groups at group within in
      let w = found.2 in
      elim (cases_lt found.0 at) [
        | inl before ↦ (found.0, found.1, omega arith, get_or-insert_below groups at group found.1 found.0 before within ∙ found.3, found.4)
        | inr behind ↦ (found.0 + 1, found.1, omega arith, get_or-insert_above groups at group found.1 found.0 behind within ∙ found.3, found.4)
      ]

  groups_begun : Ready → (groups : List (List Spot)) → AreGroups front groups → (at : ℕ) (first second : Spot) → at ≤ length groups → AllWithin (λ group. first_place group < r) groups 0 at → AllWithin (λ group. r < first_place group) groups at (length groups) → number first ≡ r → number second ≡ p → AreGroups More (insert groups at (first ∷ second ∷ []))
  groups_begun t groups are at first second within below above first_r second_p =
      let pair : List Spot = first ∷ second ∷ [] in
      let size = length-insert groups at pair within in
      let none : All (λ group. first_place group ≢ r) groups = λ k d inside. elim (cases_lt k at) [
        | inl before ↦ let less = below k d (omega arith) before in λ same. omega arith
        | inr behind ↦ let more = above k d behind inside in λ same. omega arith
      ] in
      let begun_is = group_begins t groups are none first second first_r second_p in
      record {
        each = λ k d inside. elim (cases_lt k at) [
          | inl before ↦ subst (IsGroup More) (sym (get_or-insert_below groups at pair d k before within)) (group_stays t (get_or groups k d) (are.each k d (omega arith)) (none k d (omega arith)))
          | inr back ↦ elim (cases_eq k at) [
            | inl here ↦
                let stands : get_or (insert groups at pair) k d ≡ pair = ap (λ (n : ℕ). get_or (insert groups at pair) n d) here ∙ get_or-insert_at groups at pair d within in
                subst (IsGroup More) (sym stands) begun_is
            | inr other ↦ subst (IsGroup More) (sym (get_or-insert_behind groups at pair d k (omega arith) within)) (group_stays t (get_or groups (k - 1) d) (are.each (k - 1) d (omega arith)) (none (k - 1) d (omega arith)))
          ]
        ];
        ordered = ascending_insert first_place groups at pair within are.ordered
            (λ k d low high. let less = below k d low high in omega arith)
            (λ k d low high. let more = above k d low high in omega arith);
        complete = complete_more t groups (insert groups at pair) are
            (λ a found. any_insert (λ g. Has g a) groups at pair within found)
            (any_insert_at (λ g. Has g p) groups at pair within (1, second, omega arith, refl, second_p))
            (any_insert_at (λ g. Has g r) groups at pair within (0, first, omega arith, refl, first_r));
      }

  pub groups_more : Ready → (groups groups' : List (List Spot)) → AreGroups front groups → PutsPlace p r groups groups' → AreGroups More groups'
  groups_more t groups _ are (grown at group spot within is first_r spot_is) = groups_grown t groups are at group spot within is first_r spot_is
  groups_more t groups _ are (begun at first second within below above first_r second_p) = groups_begun t groups are at first second within below above first_r second_p

-- ---- the entry number i

pub groups_none : AreGroups [] []
groups_none = record {
  each = λ k d within. absurd (omega arith);
  ordered = λ i j d before within. absurd (omega arith);
  complete = λ a b apart same. absurd (apart same);
}

division_take : (entries : List (ℕ × ℕ)) (i : ℕ) (d : ℕ × ℕ) → IsDivision entries → i < length entries → IsDivision (take i entries)
division_take entries i d division within = record {
  ascending = λ j k e before inside.
      let size = length-take i entries in
      rw (get_or-take i entries j e (omega arith), get_or-take i entries k e (omega arith)) (division.ascending j k e before (omega arith));
  falls = falls_take i entries division.falls;
  settled = λ x. elim (cases_lt x (get_or entries i d).0) [
    | inl less ↦
        let front : root (take i entries) x ≡ root entries x = sym (root_take entries i d x division.ascending within less) in
        let low = root_at_most entries x division.falls in
        let again : root (take i entries) (root entries x) ≡ root entries (root entries x) = sym (root_take entries i d (root entries x) division.ascending within (omega arith)) in
        ap (root (take i entries)) front ∙ again ∙ division.settled x ∙ sym front
    | inr high ↦ ap (root (take i entries)) (alone_from (take i entries) (get_or entries i d).0 x (below_take i entries d division.ascending within) high)
  ];
}

pub groups_next : (entries : List (ℕ × ℕ)) (i : ℕ) (groups groups' : List (List Spot)) → IsDivision entries → i < length entries → AreGroups (take i entries) groups → PutsPlace (get_or entries i (0, 0)).0 (get_or entries i (0, 0)).1 groups groups' → AreGroups (take (i + 1) entries) groups'
groups_next entries i groups groups' division within are puts =
    let e : ℕ × ℕ = get_or entries i (0, 0) in
    let less = division.falls i (0, 0) within in
    let own : root entries e.1 ≡ e.1 = sym (entry_together entries i (0, 0) division within) ∙ root_at entries i (0, 0) division.ascending within in
    let ready : Ready (take i entries) e.0 e.1 = record {
      division = division_take entries i (0, 0) division within;
      below = below_take i entries (0, 0) division.ascending within;
      less = less;
      own = sym (root_take entries i (0, 0) e.1 division.ascending within less) ∙ own;
    } in
    let P : List (ℕ × ℕ) → Type 0 = λ es. AreGroups es groups' in
    subst P (sym (take_more entries i (0, 0) within)) (groups_more (take i entries) e.0 e.1 ready groups groups' are puts)

-- ---- numbers of places

pub entry_places : (entries : List (ℕ × ℕ)) (i : ℕ) → IsDivision entries → NamesPlaces entries → i < length entries → IsPlaceNumber (get_or entries i (0, 0)).0 × IsPlaceNumber (get_or entries i (0, 0)).1
entry_places entries i division names within =
    let e : ℕ × ℕ = get_or entries i (0, 0) in
    let less = division.falls i (0, 0) within in
    let together = entry_together entries i (0, 0) division within in
    (names e.0 e.1 (λ same. omega arith) together, names e.1 e.0 (λ same. omega arith) (sym together))

-- lists behind the first that does not begin below `least`, where that one does not begin with it
pub above_strictly : (groups : List (List Spot)) (at least : ℕ) (d : List Spot) → AllPairs (λ earlier later. first_place earlier < first_place later) groups → AllWithin (λ group. least ≤ first_place group) groups at (length groups) → (at < length groups → first_place (get_or groups at d) ≢ least) → AllWithin (λ group. least < first_place group) groups at (length groups)
above_strictly groups at least d ordered above apart = λ k e low high.
    let at_least = above at e (omega arith) (omega arith) in
    let same = ap first_place (get_or_default groups at d e (omega arith)) in
    let other = apart (omega arith) in
    let more : least < first_place (get_or groups at e) = omega arith in
    elim (cases_eq k at) [
      | inl here ↦ subst (λ (n : ℕ). least < first_place (get_or groups n e)) (sym here) more
      | inr later ↦ let less = ordered at k e (omega arith) high in omega arith
    ]

-- ---- a place is put

pub puts_grown : (place least at : ℕ) (old new : List (List Spot)) (group : List Spot) (spot : Spot) → at < length old → group ≡ get_or old at group → first_place group ≡ least → number spot ≡ place → new ≡ set old at (get_or old at [] ++ spot ∷ []) → PutsPlace place least old new
puts_grown place least at old new group spot within is first spot_is new_is =
    let S : List Spot → List (List Spot) = λ g. set old at (g ++ spot ∷ []) in
    subst (PutsPlace place least old) (sym (new_is ∙ ap S (get_or_default old at [] group within ∙ sym is))) (grown at group spot within (sym is) first spot_is)

pub puts_begun : (place least at : ℕ) (old lent new : List (List Spot)) (pair : List Spot) (first spot : Spot) → lent ≡ old → AllPairs (λ earlier later. first_place earlier < first_place later) old → at ≤ length lent → AllWithin (λ group. first_place group < least) lent 0 at → AllWithin (λ group. least ≤ first_place group) lent at (length lent) → (at < length old → first_place (get_or old at []) ≢ least) → number first ≡ least → number spot ≡ place → pair ≡ first ∷ spot ∷ [] → new ≡ insert old at pair → PutsPlace place least old new
puts_begun place least at old lent new pair first spot lent_is ordered within below above apart first_is spot_is pair_is new_is =
    let W : List (List Spot) → Type 0 = λ es. at ≤ length es in
    let B : List (List Spot) → Type 0 = λ es. AllWithin (λ group. first_place group < least) es 0 at in
    let A : List (List Spot) → Type 0 = λ es. AllWithin (λ group. least ≤ first_place group) es at (length es) in
    let I : List Spot → List (List Spot) = λ g. insert old at g in
    subst (PutsPlace place least old) (sym (new_is ∙ ap I pair_is)) (begun at first spot (subst W lent_is within) (subst B lent_is below) (above_strictly old at least [] ordered (subst A lent_is above) apart) first_is spot_is)
