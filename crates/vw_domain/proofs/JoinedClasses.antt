-- Classes that are joined place by place, and the state that is made of parts.
use Rattle.std.proofs.Common.{◌≡◌, ◌≢◌, ◌⊎◌, ℕ, zero, suc, ◌+◌, ◌^◌, ◌<◌, ◌≤◌, List, [], ◌∷◌, ◌++◌, length, get_or, take, map, true, false, Bool, Some, is_some, refl, sym, ap, subst, ◌∙◌, arith, inl, inr}
use Rattle.std.proofs.lemmas.Bool.{cases_lt, cases_eq}
use Rattle.std.proofs.lemmas.Int.{ints}
use Rattle.std.proofs.lemmas.List.{get_or_default, take_all, map-append, length-map}
use Rattle.std.specs.Prelude.{Option, None, MatchOption, IsTrue, if◌then◌else◌, ℤ, pos, ◌-ℤ◌, ◌≤ℤ◌}
use Rattle.std.specs.List.{All, Any}
use Rattle.vw_lattice.specs.Entries.{HasKey, value_at}
use Rattle.vw_locals.specs.Ranges.{IsRanges}
use Rattle.vw_names.specs.declared.spot.Spot.{Spot}
use Rattle.vw_names.specs.declared.spot.Spot.TheVariants.{Reg, Flags, Slot}
use Rattle.vw_names.specs.Division.{root, Same, IsDivision, IsAlone, Follows}
use Rattle.vw_names.specs.DivisionOrder.{root_at_most, division_antisymmetric}
use Rattle.vw_names.specs.Groups.{Has, first_place, IsGroup, AreGroups}
use Rattle.vw_names.specs.Spot.{number}
use Rattle.vw_values.specs.declared.value.Value.{Value}
use Rattle.vw_domain.specs.declared.parts.Fact.{Fact}
use Rattle.vw_domain.specs.declared.parts.Parts.{Parts}
use Rattle.vw_domain.specs.declared.state_parts.StateParts.{StateParts}
use Rattle.vw_domain.specs.Abstract.{slot_key}
use Rattle.vw_domain.specs.State.{AreSlots, IsFact, IsInFrame, IsThere, wide_key, narrow_key}
use Rattle.vw_domain.specs.StateParts.{HasParts, IsPlace, IsPointState, named}
use Rattle.vw_domain.specs.PartRanges.{AreNames, AreNamesOf, HasNoRow, HasNoState, IsBare, IsInRange, IsNameOf, IsPointPlace, IsStateOf, Joins}
use Rattle.vw_domain.proofs.PartLemmas.{has_at, map_at, first_is, key_back, far_number, all_push, take_step}
use Rattle.vw_domain.proofs.OneGroups.{first_least, one_groups}

-- ---- one place is joined

-- place q is put into the class of f: what two places of a division with q and f in one class were together before are so still
sound_step : (q f : ℕ) (old new d : List (ℕ × ℕ)) → Follows q f old new → q ≢ f → Same d q f → ((a b : ℕ) → Same old a b → Same d a b) → (a b : ℕ) → Same new a b → Same d a b
sound_step q f old new d follows apart together sound a b same =
    let at_q : (x : ℕ) → Same new q x → Same d q x = λ x is. elim (cases_eq x q) [
      | inl here ↦ ap (root d) (sym here)
      | inr off ↦ together ∙ sound f x ((follows.others f x (λ e. apart (sym e)) off).0 (sym (follows.joined apart) ∙ is))
    ] in
    elim (cases_eq a q) [
      | inl a_is ↦ ap (root d) a_is ∙ at_q b (sym (ap (root new) a_is) ∙ same)
      | inr a_off ↦ elim (cases_eq b q) [
        | inl b_is ↦ sym (at_q a (sym (ap (root new) b_is) ∙ sym same)) ∙ ap (root d) (sym b_is)
        | inr b_off ↦ sound a b ((follows.others a b a_off b_off).0 same)
      ]
    ]

-- who was with the least of its class is so still
kept_step : (q f : ℕ) (old new d : List (ℕ × ℕ)) → IsDivision d → Follows q f old new → q ≢ f → root d q ≡ f → (a : ℕ) → Same old a (root d a) → Same new a (root d a)
kept_step q f old new d division follows apart least a same = elim (cases_eq a q) [
  | inl a_is ↦
      let to_f : root d a ≡ f = ap (root d) a_is ∙ least in
      ap (root new) a_is ∙ follows.joined apart ∙ ap (root new) (sym to_f)
  | inr a_off ↦
      let r_off : root d a ≢ q = λ r_is. apart (sym r_is ∙ sym (division.settled a) ∙ ap (root d) r_is ∙ least) in
      (follows.others a (root d a) a_off r_off).1 same
]

-- who is with another place is one of those
listed_step : (P : ℕ → Type 0) (q f : ℕ) (old new : List (ℕ × ℕ)) → Follows q f old new → P q → P f → ((a b : ℕ) → a ≢ b → Same old a b → P a) → (a b : ℕ) → a ≢ b → Same new a b → P a
listed_step P q f old new follows is_q is_f before a b apart same = elim (cases_eq a q) [
  | inl a_is ↦ subst P (sym a_is) is_q
  | inr a_off ↦ elim (cases_eq b q) [
    | inr b_off ↦ before a b apart ((follows.others a b a_off b_off).0 same)
    | inl b_is ↦
        let with_q : Same new a q = same ∙ ap (root new) b_is in
        elim (cases_eq q f) [
          | inl one ↦ absurd (a_off (follows.alone one a (sym with_q)))
          | inr other ↦ elim (cases_eq a f) [
            | inl a_f ↦ subst P (sym a_f) is_f
            | inr off_f ↦ before a f off_f ((follows.others a f a_off (λ e. other (sym e))).0 (with_q ∙ follows.joined other))
          ]
        ]
  ]
]

-- ---- classes

-- in a division with these classes the first place of one is the least of its class
least_is : (d : List (ℕ × ℕ)) (group : List Spot) (p : Spot) (k : ℕ) → IsDivision d → IsGroup d group → k < length group → root d (number (get_or group k p)) ≡ first_place group
least_is d group p k division is within =
    let a : ℕ = number (get_or group k p) in
    let f : ℕ = first_place group in
    let several = is.several in
    let together : Same d a f = (is.whole a).0 (has_at group k p within) in
    let back : Same d (root d f) f = division.settled f in
    let has : Has group (root d f) = (is.whole (root d f)).1 back in
    let up = first_least d group (root d f) is has in
    let down = root_at_most d f division.falls in
    together ∙ (omega arith)

module _ (names : List (List Spot)) (at k : ℕ) (old new : List (ℕ × ℕ)) (p : Spot) (g : List Spot) where
  abbrev group : List Spot
  group = get_or names at g

  abbrev q : ℕ
  q = number (get_or group k p)

  abbrev f : ℕ
  f = number (get_or group 0 p)

  listed_place : at < length names → (j : ℕ) → j < length group → Any (λ h. Has h (number (get_or group j p))) names
  listed_place within j inside = (at, group, within, get_or_default names at group g within, has_at group j p inside)

  pub joins_step : at < length names → 0 < k → k < length group → Follows q f old new → Joins names at k old → Joins names at (k + 1) new
  joins_step within later inside follows before = record {
    listed = listed_step (λ (a : ℕ). Any (λ h. Has h a) names) q f old new follows (listed_place within k inside) (listed_place within 0 (omega arith)) before.listed;
    sound = λ d division are.
        let is = are.each at g within in
        let less : f < q = is.ascending 0 k p later inside in
        let first = first_is group p (omega arith) in
        let least = least_is d group p k division is inside in
        let least_f = least_is d group p 0 division is (omega arith) in
        sound_step q f old new d follows (λ e. omega arith) (least ∙ sym least_f) (before.sound d division are);
    joined = λ d division are i j h s i_within so_far j_inside.
        let is = are.each at g within in
        let less : f < q = is.ascending 0 k p later inside in
        let first = first_is group p (omega arith) in
        let least : root d q ≡ f = least_is d group p k division is inside ∙ first in
        let keep = kept_step q f old new d division follows (λ e. omega arith) least in
        let apart : q ≢ f = λ e. omega arith in
        elim so_far [
          | inl earlier ↦ keep (number (get_or (get_or names i h) j s)) (before.joined d division are i j h s i_within (inl earlier) j_inside)
          | inr here ↦ elim (cases_lt j k) [
            | inl less_j ↦ keep (number (get_or (get_or names i h) j s)) (before.joined d division are i j h s i_within (inr (here.0, less_j)) j_inside)
            | inr not_less ↦
                let up = here.1 in
                let j_is : j ≡ k = omega arith in
                let now : Same new q (root d q) = follows.joined apart ∙ ap (root new) (sym least) in
                let R : ℕ → Type 0 = λ x. Same new x (root d x) in
                let same_group : get_or names i h ≡ group = get_or_default names i h g i_within ∙ ap (λ (n : ℕ). get_or names n g) here.0 in
                let G : List Spot → Type 0 = λ y. j < length y → R (number (get_or y j s)) in
                subst G (sym same_group) (λ w. subst (λ (n : ℕ). R (number (get_or group n s))) (sym j_is) (subst (λ (z : Spot). R (number z)) (get_or_default group k p s inside) now)) j_inside
          ]
        ];
  }

-- before a class nothing of it is joined, and its first place is the least
pub joins_first : (names : List (List Spot)) (at : ℕ) (classes : List (ℕ × ℕ)) → at < length names → Joins names at 0 classes → Joins names at 1 classes
joins_first names at classes within before = record {
  listed = before.listed;
  sound = before.sound;
  joined = λ d division are i j h s i_within so_far j_inside. elim so_far [
    | inl earlier ↦ before.joined d division are i j h s i_within (inl earlier) j_inside
    | inr here ↦
        let up = here.1 in
        let j_is : j ≡ 0 = omega arith in
        let is = are.each i h i_within in
        let least = least_is d (get_or names i h) s j division is j_inside in
        let first = first_is (get_or names i h) s (omega arith) in
        let number_at : ℕ → ℕ = λ n. number (get_or (get_or names i h) n s) in
        let same : root d (number_at j) ≡ number_at j = least ∙ first ∙ ap number_at (sym j_is) in
        ap (root classes) (sym same)
  ];
}

-- behind a class
pub joins_next : (names : List (List Spot)) (at k : ℕ) (g : List Spot) (classes : List (ℕ × ℕ)) → length (get_or names at g) ≤ k → Joins names at k classes → Joins names (at + 1) 0 classes
joins_next names at k g classes all before = record {
  listed = before.listed;
  sound = before.sound;
  joined = λ d division are i j h s i_within so_far j_inside. elim so_far [
    | inl earlier ↦ elim (cases_lt i at) [
      | inl less ↦ before.joined d division are i j h s i_within (inl less) j_inside
      | inr not_less ↦
          let i_is : i ≡ at = omega arith in
          let same : get_or names i h ≡ get_or names at g = get_or_default names i h g i_within ∙ ap (λ (n : ℕ). get_or names n g) i_is in
          let size : length (get_or names i h) ≡ length (get_or names at g) = ap length same in
          before.joined d division are i j h s i_within (inr (i_is, omega arith)) j_inside
    ]
    | inr here ↦ let none = here.1 in absurd (omega arith)
  ];
}

pub joins_none : (names : List (List Spot)) → Joins names 0 0 []
joins_none names = record {
  listed = λ a b apart same. absurd (apart same);
  sound = λ d division are a b same. ap (root d) same;
  joined = λ d division are i j h s i_within so_far j_inside. elim so_far [
    | inl earlier ↦ absurd (omega arith)
    | inr here ↦ let none = here.1 in absurd (omega arith)
  ];
}

-- all are joined: the division is each that has these classes
pub joined_is : (names : List (List Spot)) (c d : List (ℕ × ℕ)) → IsDivision c → IsDivision d → AreGroups d names → Joins names (length names) 0 c → c ≡ d
joined_is names c d is_c is_d are all =
    let to_root : (a : ℕ) → Same c a (root d a) = λ a. elim (cases_eq a (root d a)) [
      | inl one ↦ ap (root c) one
      | inr apart ↦
          let h = are.complete a (root d a) apart (sym (is_d.settled a)) in
          let has = h.4 in
          let R : ℕ → Type 0 = λ x. Same c x (root d x) in
          let group_is : get_or names h.0 h.1 ≡ h.1 = h.3 in
          let inside : has.0 < length (get_or names h.0 h.1) = subst (λ (y : List Spot). has.0 < length y) (sym group_is) has.2 in
          let place : number (get_or (get_or names h.0 h.1) has.0 has.1) ≡ a = ap (λ (y : List Spot). number (get_or y has.0 has.1)) group_is ∙ ap number has.3 ∙ has.4 in
          subst R place (all.joined d is_d are h.0 has.0 h.1 has.1 h.2 (inl h.2) inside)
    ] in
    division_antisymmetric c d is_c is_d
    (λ a b same. to_root a ∙ ap (root c) same ∙ sym (to_root b))
    (λ a b same. all.sound d is_d are a b same)

-- ---- names

pub names_push : (slots : List (ℤ × Value)) (places names new : List Spot) (i : ℕ) (place name : Spot) → i < length places → ((d : Spot) → get_or places i d ≡ place) → new ≡ names ++ name ∷ [] → IsNameOf slots place name → AreNamesOf slots (take i places) names → AreNamesOf slots (take (i + 1) places) new
names_push slots places names new i place name within is pushed here before =
    let P : List Spot → Type 0 = λ xs. AreNamesOf slots xs new in
    let front : List Spot → List Spot = λ xs. xs ++ name ∷ [] in
    let last : Spot → List Spot = λ n. map (named slots) (take i places) ++ n ∷ [] in
    subst P (sym (take_step places i place within is)) (record {
      point = all_push (IsPointPlace slots) (take i places) place before.point here.point;
      are = pushed ∙ ap front before.are ∙ ap last here.is ∙ sym (map-append (named slots) (take i places) (place ∷ []));
    })

pub classes_push : (slots : List (ℤ × Value)) (classes names new : List (List Spot)) (i : ℕ) (class group : List Spot) → i < length classes → ((d : List Spot) → get_or classes i d ≡ class) → new ≡ names ++ group ∷ [] → AreNamesOf slots class group → AreNames slots (take i classes) names → AreNames slots (take (i + 1) classes) new
classes_push slots classes names new i class group within is pushed here before =
    let P : List (List Spot) → Type 0 = λ xs. AreNames slots xs new in
    let front : List (List Spot) → List (List Spot) = λ xs. xs ++ group ∷ [] in
    let last : List Spot → List (List Spot) = λ n. map (map (named slots)) (take i classes) ++ n ∷ [] in
    subst P (sym (take_step classes i class within is)) (record {
      point = all_push (λ (c : List Spot). All (IsPointPlace slots) c) (take i classes) class before.point here.point;
      are = pushed ∙ ap front before.are ∙ ap last here.are ∙ sym (map-append (map (named slots)) (take i classes) (class ∷ []));
    })

-- what a function takes to an item of its list of images
mapped_all : {X Y : Type 0} (f : Y → X) (P : Y → Type 0) (ys : List Y) (k : ℕ) (x : X) → All P ys → k < length (map f ys) → get_or (map f ys) k x ≡ x → (y : Y) × P y × (f y ≡ x)
mapped_all f P [] k x all within is = absurd (omega arith)
mapped_all f P (y ∷ ys) zero x all within is = (y, all 0 y (omega arith), is)
mapped_all f P (y ∷ ys) (suc k) x all within is = mapped_all f P ys k x (λ j d inside. all (suc j) d (omega arith)) (omega arith) is

-- a name's number
pub name_there : (slots : List (ℤ × Value)) (place : Spot) → AreSlots slots → IsPointPlace slots place → IsThere slots (number (named slots place)) × (number (named slots place) ≢ 16)
name_there slots (Reg r) are is = (inl (inl is.place), λ e. is.other (ap Reg e))
name_there slots Flags are is = (inl (inr refl), λ e. omega arith)
name_there slots (Slot o) are is =
    let key : ℤ = slot_key slots o in
    let bounds = are.within key is.place in
    let low_slot = bounds.0 in
    let low : (pos 0 -ℤ pos (2 ^ 63)) ≤ℤ key = omega (arith, ints) in
    let far = far_number key low in
    (inr (subst (λ (k : ℤ). HasKey slots k) (sym (key_back key low)) is.place), λ e. omega arith)

listed_there : (slots : List (ℤ × Value)) (classes names : List (List Spot)) (a : ℕ) → AreSlots slots → AreNames slots classes names → Any (λ g. Has g a) names → IsThere slots a × (a ≢ 16)
listed_there slots classes names a are_slots are any =
    let c = mapped_all (map (named slots)) (λ (class : List Spot). All (IsPointPlace slots) class) classes any.0 any.1 are.point
    (subst (λ (ns : List (List Spot)). any.0 < length ns) are.are any.2)
    (subst (λ (ns : List (List Spot)). get_or ns any.0 any.1 ≡ any.1) are.are any.3) in
    let has = any.4 in
    let q = mapped_all (named slots) (IsPointPlace slots) c.0 has.0 has.1 c.1
    (subst (λ (y : List Spot). has.0 < length y) (sym c.2) has.2)
    (subst (λ (y : List Spot). get_or y has.0 has.1 ≡ has.1) (sym c.2) has.3) in
    let P : ℕ → Type 0 = λ n. IsThere slots n × (n ≢ 16) in
    subst P (ap number q.2 ∙ has.4) (name_there slots q.0 are_slots q.1)

-- ---- the state

pub made_state : (p : StateParts) (bare : Parts) (names : List (List Spot)) (c : List (ℕ × ℕ)) → IsBare p bare → AreNames bare.slots p.classes names → IsDivision c → Joins names (length names) 0 c → AreGroups c names → IsStateOf p (record bare { classes = c })
made_state p bare names c is are division joins groups =
    let slots_are : AreSlots bare.slots = subst (λ (m : List (ℤ × Value)). AreSlots m) (sym is.slots) is.range.slots.slots in
    let depth = is.probed in
    let deep = is.range.probed in
    record {
      point = record {
        state = record {
          registers = is.row.row;
          probed = omega arith;
          ranges = subst (λ (m : List (ℤ × ℤ)). IsRanges m) (sym is.written) is.range.written.ranges;
          frame = subst (λ (m : List (ℤ × ℤ)). IsInFrame m) (sym is.written) is.range.written.frame;
          slots = slots_are;
          classes = division;
          named = λ a b same apart. (listed_there bare.slots p.classes names a slots_are are (joins.listed a b apart same)).0;
          fact = subst (λ (f : Fact). IsFact f) (sym is.fact) is.range.fact;
        };
        unknown = is.row.unknown;
        alone = λ b same. elim (cases_eq b 16) [
          | inl e ↦ e
          | inr apart ↦ absurd ((listed_there bare.slots p.classes names 16 slots_are are (joins.listed 16 b (λ e. apart (sym e)) same)).1 refl)
        ];
      };
      parts = record {
        offsets = is.row.offsets;
        values = is.row.values;
        probed = sym is.probed;
        written = sym is.written;
        sizes = is.range.slots.sizes;
        slots = sym is.slots;
        there = λ i d within j e inside. (are.point i d within j e inside).place;
        classes = subst (λ (ns : List (List Spot)). AreGroups c ns) are.are groups;
        fact = sym is.fact;
      };
    }

-- ---- no state

pub range_of : (s : Parts) (p : StateParts) → IsPointState s → HasParts s p → IsInRange p
range_of s p point has =
    let depth = has.probed in
    let deep = point.state.probed in
    record {
      probed = omega arith;
      fact = subst (λ (f : Fact). IsFact f) (sym has.fact) point.state.fact;
      written = record {
        ranges = subst (λ (m : List (ℤ × ℤ)). IsRanges m) (sym has.written) point.state.ranges;
        frame = subst (λ (m : List (ℤ × ℤ)). IsInFrame m) (sym has.written) point.state.frame;
      };
      slots = record {
        sizes = has.sizes;
        slots = subst (λ (m : List (ℤ × Value)). AreSlots m) (sym has.slots) point.state.slots;
      };
    }

pub no_range : (p : StateParts) → (IsInRange p → ⊥) → HasNoState p
no_range p none = λ s point has. none (range_of s p point has)

pub no_row : (p : StateParts) → HasNoRow p.offsets p.values → HasNoState p
no_row p none = λ s point has. none s.registers point.state.registers has.offsets has.values

-- a place that is alone is in no class
no_alone : (division : List (ℕ × ℕ)) (group : List Spot) (d : Spot) → IsAlone division 16 → IsGroup division group → Has group 16 → ⊥
no_alone division group d alone is has =
    let several = is.several in
    let second : ℕ = number (get_or group 1 d) in
    let here : Same division 16 (first_place group) = (is.whole 16).0 has in
    let there : Same division second (first_place group) = (is.whole second).0 (has_at group 1 d (omega arith)) in
    let first_16 = alone (first_place group) here in
    let second_16 = alone second (here ∙ sym there) in
    let first = first_is group d (omega arith) in
    let less = is.ascending 0 1 d (omega arith) (omega arith) in
    omega arith

has_name : (slots : List (ℤ × Value)) (class : List Spot) (j : ℕ) (d : Spot) → j < length class → Has (map (named slots) class) (number (named slots (get_or class j d)))
has_name slots class j d inside =
    let size = length-map class (named slots) in
    (j, named slots (get_or class j d), omega arith, map_at (named slots) class j d (named slots (get_or class j d)) inside, refl)

pub point_places : (s : Parts) (p : StateParts) → IsPointState s → HasParts s p → All (λ class. All (IsPointPlace s.slots) class) p.classes
point_places s p point has = λ i c within j d inside.
    let class : List Spot = get_or p.classes i c in
    let size = length-map p.classes (map (named s.slots)) in
    let group : IsGroup s.classes (map (named s.slots) class) = subst (λ (g : List Spot). IsGroup s.classes g) (map_at (map (named s.slots)) p.classes i c [] within) (has.classes.each i [] (omega arith)) in
    record {
      place = has.there i c within j d inside;
      other = λ is. no_alone s.classes (map (named s.slots) class) d point.alone group
          (subst (λ (n : ℕ). Has (map (named s.slots) class) n) (ap (λ (q : Spot). number (named s.slots q)) is) (has_name s.slots class j d inside));
    }

slots_same : (s bare : Parts) (p : StateParts) → HasParts s p → IsBare p bare → s.slots ≡ bare.slots
slots_same s bare p has is = sym has.slots ∙ sym is.slots

pub no_places : (p : StateParts) (bare : Parts) → IsBare p bare → (All (λ class. All (IsPointPlace bare.slots) class) p.classes → ⊥) → HasNoState p
no_places p bare is none = λ s point has.
    none (subst (λ (m : List (ℤ × Value)). All (λ class. All (IsPointPlace m) class) p.classes) (slots_same s bare p has is) (point_places s p point has))

pub no_classes : (p : StateParts) (bare : Parts) (names groups : List (List Spot)) (c : List (ℕ × ℕ)) → IsBare p bare → AreNames bare.slots p.classes names → IsDivision c → Joins names (length names) 0 c → AreGroups c groups → (map (map number) groups ≡ map (map number) names → ⊥) → HasNoState p
no_classes p bare names groups c is are division joins groups_are apart = λ s point has.
    let with_slots : List (ℤ × Value) → List (List Spot) = λ m. map (map (named m)) p.classes in
    let names_are : names ≡ with_slots s.slots = are.are ∙ ap with_slots (sym (slots_same s bare p has is)) in
    let of_s : AreGroups s.classes names = subst (λ (ns : List (List Spot)). AreGroups s.classes ns) (sym names_are) has.classes in
    let c_is : c ≡ s.classes = joined_is names c s.classes division point.state.classes of_s joins in
    let of_c : AreGroups c names = subst (λ (d : List (ℕ × ℕ)). AreGroups d names) (sym c_is) of_s in
    apart (one_groups c groups names groups_are of_c)

pub division_none : IsDivision []
division_none = record {
  ascending = λ i j d before within. absurd (omega arith);
  falls = λ k d within. absurd (omega arith);
  settled = λ p. refl;
}

-- ---- equal lists

pub image_at : {X Y : Type 0} (f : X → Y) (a b : List X) (i : ℕ) (d : X) → map f a ≡ map f b → i < length a → i < length b → f (get_or a i d) ≡ f (get_or b i d)
image_at {X} {Y} f a b i d same in_a in_b =
    let at : List Y → Y = λ l. get_or l i (f d) in
    sym (map_at f a i d (f d) in_a) ∙ ap at same ∙ map_at f b i d (f d) in_b

pub image_length : {X Y : Type 0} (f : X → Y) (a b : List X) → map f a ≡ map f b → length a ≡ length b
image_length f a b same = sym (length-map a f) ∙ ap length same ∙ length-map b f

pub same_end : {X : Type 0} (a b : List X) (i : ℕ) → length a ≤ i → length b ≤ i → take i a ≡ take i b → a ≡ b
same_end a b i all_a all_b same = sym (take_all i a all_a) ∙ same ∙ take_all i b all_b

-- ---- a slot's name

key_cases : (slots : List (ℤ × Value)) (o : ℤ) → (slot_key slots o ≡ narrow_key o) ⊎ (slot_key slots o ≡ wide_key o)
key_cases slots o =
    let chosen : Bool → ℤ = λ b. if b then narrow_key o else wide_key o in
    elim (true_or_false (is_some (value_at slots (narrow_key o)))) [
      | inl is ↦ inl (ap chosen is)
      | inr not ↦ inr (ap chosen not)
    ]
  where
    true_or_false : (b : Bool) → (b ≡ true) ⊎ (b ≡ false)
    true_or_false true = inl refl
    true_or_false false = inr refl

-- a slot that is there is at an offset of at most 2^32 in size
pub near_place : (slots : List (ℤ × Value)) (o : ℤ) → AreSlots slots → IsPlace slots (Slot o) → ((pos 0 -ℤ pos (2 ^ 32)) ≤ℤ o) × (o ≤ℤ pos (2 ^ 32))
near_place slots o are has =
    let within = are.within (slot_key slots o) has in
    let low = within.0 in
    let high = within.1 in
    elim (key_cases slots o) [
      | inl a ↦ (omega (arith, ints), omega (arith, ints))
      | inr b ↦ (omega (arith, ints), omega (arith, ints))
    ]

slot_other : (o : ℤ) → Slot o ≢ Reg 16
slot_other o same = absurd (cc)

pub slot_name : (slots : List (ℤ × Value)) (o k : ℤ) (v : Value) → k ≡ slot_key slots o → Some v ≡ value_at slots k → IsNameOf slots (Slot o) (Slot k)
slot_name slots o k v key at = record {
  point = record { place = (v, ap (value_at slots) (sym key) ∙ sym at); other = slot_other o };
  is = ap Slot key;
}

-- ---- what the calls told

pub told_bare : (p : StateParts) (o : Option Parts) (bare : Parts) → o ≡ Some bare → MatchOption o (HasNoState p) (IsBare p) → IsBare p bare
told_bare p o bare is told = subst (λ (x : Option Parts). MatchOption x (HasNoState p) (IsBare p)) is told

pub told_names : (slots : List (ℤ × Value)) (read classes names : List (List Spot)) (o : Option (List (List Spot))) → o ≡ Some names → read ≡ classes
    → MatchOption o (All (λ class. All (IsPointPlace slots) class) read → ⊥) (AreNames slots read) → AreNames slots classes names
told_names slots read classes names o is same told =
    let P : List (List Spot) → Type 0 = λ xs. AreNames slots xs names in
    subst P same (subst (λ (x : Option (List (List Spot))). MatchOption x (All (λ class. All (IsPointPlace slots) class) read → ⊥) (AreNames slots read)) is told)

pub told_none : (slots : List (ℤ × Value)) (read classes : List (List Spot)) (o : Option (List (List Spot))) → o ≡ None → read ≡ classes
    → MatchOption o (All (λ class. All (IsPointPlace slots) class) read → ⊥) (AreNames slots read) → All (λ class. All (IsPointPlace slots) class) classes → ⊥
told_none slots read classes o is same told all =
    let P : List (List Spot) → Type 0 = λ xs. All (λ class. All (IsPointPlace slots) class) xs in
    (subst (λ (x : Option (List (List Spot))). MatchOption x (All (λ class. All (IsPointPlace slots) class) read → ⊥) (AreNames slots read)) is told) (subst P (sym same) all)

told_joins : (read names : List (List Spot)) (c : List (ℕ × ℕ)) → read ≡ names → Joins read (length read) 0 c → Joins names (length names) 0 c
told_joins read names c same joins = subst (λ (xs : List (List Spot)). Joins xs (length xs) 0 c) same joins

pub made_of : (p : StateParts) (bare : Parts) (names groups read left right : List (List Spot)) (c : List (ℕ × ℕ)) → IsBare p bare → AreNames bare.slots p.classes names → IsDivision c → read ≡ names → Joins read (length read) 0 c → AreGroups c groups → left ≡ groups → right ≡ names → left ≡ right → IsStateOf p (record bare { classes = c })
made_of p bare names groups read left right c is are division same joins groups_are left_is right_is equal =
    made_state p bare names c is are division (told_joins read names c same joins) (subst (λ (xs : List (List Spot)). AreGroups c xs) (sym left_is ∙ equal ∙ right_is) groups_are)

pub refused_of : (p : StateParts) (bare : Parts) (names groups read left right : List (List Spot)) (c : List (ℕ × ℕ)) → IsBare p bare → AreNames bare.slots p.classes names → IsDivision c → read ≡ names → Joins read (length read) 0 c → AreGroups c groups → left ≡ groups → right ≡ names → (map (map number) left ≡ map (map number) right → IsTrue false) → HasNoState p
refused_of p bare names groups read left right c is are division same joins groups_are left_is right_is apart =
    let numbers : List (List Spot) → List (List ℕ) = map (map number) in
    no_classes p bare names groups c is are division (told_joins read names c same joins) groups_are (λ equal. let no = apart (ap numbers left_is ∙ equal ∙ ap numbers (sym right_is)) in absurd (cc))
