-- Classes after a change, from where the number of each place comes.
use Rattle.std.proofs.Common.{◌≡◌, ◌≢◌, ℕ, ◌⊎◌, List, refl, sym, ap, subst, ◌∙◌, Some, None, inl, inr, Bool, true, false, eq-eqb}
use Rattle.std.proofs.lemmas.Bool.{eqb-true}
use Rattle.std.proofs.lemmas.Bool.Decides.{Decides-int_eq}
use Rattle.std.specs.Prelude.{Option, ◌↔◌, if◌then◌else◌}
use Rattle.vw_names.specs.declared.spot.Spot.{Spot}
use Rattle.vw_names.specs.declared.spot.Spot.TheVariants.{Reg, Flags, Slot}
use Rattle.vw_names.specs.Division.{root, Same, Leaves}
use Rattle.vw_domain.specs.declared.parts.Parts.{Parts}
use Rattle.vw_domain.specs.Abstract.{is_place, is_there, class_number, is_same}
use Rattle.vw_domain.specs.Changes.{same_from}
use Rattle.vw_domain.specs.Writes.{FollowsPlace}
use Rattle.vw_domain.proofs.Lowers.{true_not_false, and_both, both_and, or_cases, or_first, or_second, place_same}

pub place_refl : (p : Spot) → is_place p p ≡ true
place_refl (Reg r) = eq-eqb r r refl
place_refl Flags = refl
place_refl (Slot o) = (Decides-int_eq o o).1 refl

pub place_is : (p q : Spot) → p ≡ q → is_place p q ≡ true
place_is p q same =
    let P : Spot → Type 0 = λ r. is_place p r ≡ true in
    subst P same (place_refl p)

-- two tests with one meaning are one
pub one_test : (a b : Bool) → (a ≡ true → b ≡ true) → (b ≡ true → a ≡ true) → a ≡ b
one_test true b f g = sym (f refl)
one_test false true f g = g refl
one_test false false f g = refl

pub not_true : (a : Bool) → (a ≡ true → ⊥) → a ≡ false
not_true true h = absurd (h refl)
not_true false h = refl

pub some_or_none : (x : Option Spot) → ((p : Spot) × (x ≡ Some p)) ⊎ (x ≡ None)
some_or_none None = inr refl
some_or_none (Some p) = inl (p, refl)

-- two places that are there and in one class
pub record IsTogether (s : Parts) (p q : Spot) : Type 0 where
  pub first : is_there s p ≡ true
  pub second : is_there s q ≡ true
  pub roots : Same s.classes (class_number s p) (class_number s q)

pub same_cases : (s : Parts) (p q : Spot) → is_same s p q ≡ true → (p ≡ q) ⊎ IsTogether s p q
same_cases s p q h = elim (or_cases (is_place p q) _ h) [
  | inl place ↦ inl (place_same p q place)
  | inr both ↦
      let first = and_both (is_there s p) _ both in
      let second = and_both (is_there s q) _ first.1 in
      inr (record { first = first.0; second = second.0; roots = eqb-true _ _ second.1 })
]

pub same_here : (s : Parts) (p q : Spot) → p ≡ q → is_same s p q ≡ true
same_here s p q same = or_first (is_place p q) _ (place_is p q same)

pub same_together : (s : Parts) (p q : Spot) → IsTogether s p q → is_same s p q ≡ true
same_together s p q t =
    or_second (is_place p q) _ (both_and (is_there s p) _ t.first (both_and (is_there s q) _ t.second (eq-eqb _ _ t.roots)))

-- What the classes of `new` owe to those of `old`, where `from` tells for each place the old one from which its number
-- comes.
pub record Moves (old new : Parts) (from : Spot → Option Spot) : Type 0 where
  pub there : (p a : Spot) → from p ≡ Some a → is_there new p ≡ true → is_there old a ≡ true
  pub here : (p a : Spot) → from p ≡ Some a → is_there old a ≡ true → is_there new p ≡ true
  pub stays : (p a : Spot) → from p ≡ Some a → (is_there old a ≡ true) ⊎ (p ≡ a)
  pub alone : (p q : Spot) → from p ≡ None → IsTogether new p q → p ≡ q
  pub roots : (p q a b : Spot) → from p ≡ Some a → from q ≡ Some b → is_there old a ≡ true → is_there old b ≡ true → Same new.classes (class_number new p) (class_number new q) ↔ Same old.classes (class_number old a) (class_number old b)

together_sym : (s : Parts) (p q : Spot) → IsTogether s p q → IsTogether s q p
together_sym s p q t = record { first = t.second; second = t.first; roots = sym t.roots }

module _ (old new : Parts) (from : Spot → Option Spot) (m : Moves old new from) where
  from_same : (p q a b : Spot) → from p ≡ Some a → from q ≡ Some b → p ≡ q → a ≡ b
  from_same p q a b fp fq same =
      let found : Some a ≡ Some b = sym fp ∙ ap from same ∙ fq in
      cc

  both_some : (p q a b : Spot) → from p ≡ Some a → from q ≡ Some b → is_same new p q ≡ is_same old a b
  both_some p q a b fp fq = one_test (is_same new p q) (is_same old a b)
      (λ h. elim (same_cases new p q h) [
        | inl same ↦ same_here old a b (from_same p q a b fp fq same)
        | inr t ↦
            let first = m.there p a fp t.first in
            let second = m.there q b fq t.second in
            same_together old a b (record { first = first; second = second; roots = (m.roots p q a b fp fq first second).0 t.roots })
      ])
      (λ h. elim (same_cases old a b h) [
        | inl same ↦ elim (m.stays p a fp) [
          | inl there ↦
              let P : Spot → Type 0 = λ r. is_there old r ≡ true in
              let second : is_there old b ≡ true = subst P same there in
              same_together new p q (record {
                first = m.here p a fp there;
                second = m.here q b fq second;
                roots = (m.roots p q a b fp fq there second).1 (ap (λ (r : Spot). root old.classes (class_number old r)) same);
              })
          | inr stays ↦ elim (m.stays q b fq) [
            | inl there ↦
                let P : Spot → Type 0 = λ r. is_there old r ≡ true in
                let first : is_there old a ≡ true = subst P (sym same) there in
                same_together new p q (record {
                  first = m.here p a fp first;
                  second = m.here q b fq there;
                  roots = (m.roots p q a b fp fq first there).1 (ap (λ (r : Spot). root old.classes (class_number old r)) same);
                })
            | inr other ↦ same_here new p q (stays ∙ same ∙ sym other)
          ]
        ]
        | inr t ↦ same_together new p q (record {
          first = m.here p a fp t.first;
          second = m.here q b fq t.second;
          roots = (m.roots p q a b fp fq t.first t.second).1 t.roots;
        })
      ])

  none_some : (p q b : Spot) → from p ≡ None → from q ≡ Some b → p ≡ q → ⊥
  none_some p q b fp fq same =
      let found : None ≡ Some b = sym fp ∙ ap from same ∙ fq in
      cc

  same_is : (p q : Spot) → is_same new p q ≡ same_from (is_same old) p q (from p) (from q)
  same_is p q = elim (some_or_none (from p)) [
    | inl a ↦ elim (some_or_none (from q)) [
      | inl b ↦ rw (a.1, b.1) (both_some p q a.0 b.0 a.1 b.1)
      | inr none ↦ rw (a.1, none) (not_true (is_same new p q) (λ h. elim (same_cases new p q h) [
        | inl same ↦ none_some q p a.0 none a.1 (sym same)
        | inr t ↦ none_some q p a.0 none a.1 (m.alone q p none (together_sym new p q t))
      ]))
    ]
    | inr none ↦ elim (some_or_none (from q)) [
      | inl b ↦ rw (none, b.1) (not_true (is_same new p q) (λ h. elim (same_cases new p q h) [
        | inl same ↦ none_some p q b.0 none b.1 same
        | inr t ↦ none_some p q b.0 none b.1 (m.alone p q none t)
      ]))
      | inr other ↦ rw (none, other) (one_test (is_same new p q) (is_place p q)
          (λ h. elim (same_cases new p q h) [
            | inl same ↦ place_is p q same
            | inr t ↦ place_is p q (m.alone p q none t)
          ])
          (λ h. same_here new p q (place_same p q h)))
    ]
  ]

pub moved_same : (old new : Parts) (from : Spot → Option Spot) → Moves old new from → (p q : Spot) → is_same new p q ≡ same_from (is_same old) p q (from p) (from q)
moved_same old new from m p q = same_is old new from m p q

-- ---- one place gets a number, and the others keep theirs

pub place_tells : (p q : Spot) → ((is_place p q ≡ true) × (p ≡ q)) ⊎ ((is_place p q ≡ false) × (p ≢ q))
place_tells p q = go (is_place p q) refl
  where
    go : (b : Bool) → is_place p q ≡ b → ((is_place p q ≡ true) × (p ≡ q)) ⊎ ((is_place p q ≡ false) × (p ≢ q))
    go true h = inl (h, place_same p q h)
    go false h = inr (h, λ same. true_not_false (sym (place_is p q same) ∙ h))

abbrev pub single_from : Spot → Option Spot → Spot → Option Spot
single_from e source p = if is_place p e then source else Some p

pub record Single (s t : Parts) (e : Spot) (source : Option Spot) : Type 0 where
  pub there : (p : Spot) → is_there t p ≡ is_there s p
  pub numbers : (p : Spot) → class_number t p ≡ class_number s p
  pub here : is_there s e ≡ true
  pub others : (p : Spot) → p ≢ e → is_there s p ≡ true → class_number s p ≢ class_number s e
  pub leaves : source ≡ None → Leaves (class_number s e) s.classes t.classes
  pub follows : (a : Spot) → source ≡ Some a → FollowsPlace s e a t.classes

both_ways : {A B C : Type 0} → A ↔ B → B ↔ C → A ↔ C
both_ways f g = (λ a. g.0 (f.0 a), λ c. f.1 (g.1 c))

module _ (s t : Parts) (e : Spot) (source : Option Spot) (one : Single s t e source) where
  some_from : (p a : Spot) → single_from e source p ≡ Some a → ((p ≡ e) × (source ≡ Some a)) ⊎ ((p ≡ a) × (p ≢ e))
  some_from p a from = elim (place_tells p e) [
    | inl is ↦ inl (is.1, sym (ap (λ (b : Bool). if b then source else Some p) is.0) ∙ from)
    | inr other ↦
        let found : Some p ≡ Some a = sym (ap (λ (b : Bool). if b then source else Some p) other.0) ∙ from in
        inr (cc, other.1)
  ]

  none_from : (p : Spot) → single_from e source p ≡ None → (p ≡ e) × (source ≡ None)
  none_from p from = elim (place_tells p e) [
    | inl is ↦ (is.1, sym (ap (λ (b : Bool). if b then source else Some p) is.0) ∙ from)
    | inr other ↦
        let found : Some p ≡ None = sym (ap (λ (b : Bool). if b then source else Some p) other.0) ∙ from in
        absurd (cc)
  ]

  -- in the old numbers of places
  abbrev Now : Spot → Spot → Type 0
  Now p q = Same t.classes (class_number s p) (class_number s q)

  abbrev Before : Spot → Spot → Type 0
  Before p q = Same s.classes (class_number s p) (class_number s q)

  now_is : (p q : Spot) → Same t.classes (class_number t p) (class_number t q) ↔ Now p q
  now_is p q =
      let P : ℕ → Type 0 = λ x. Same t.classes (class_number t p) (class_number t q) ↔ Same t.classes x (class_number t q) in
      let Q : ℕ → Type 0 = λ x. Same t.classes (class_number t p) (class_number t q) ↔ Same t.classes (class_number s p) x in
      subst Q (one.numbers q) (subst P (one.numbers p) (λ h. h, λ h. h))

  -- of the written place
  first_roots : (a q : Spot) → source ≡ Some a → q ≢ e → is_there s q ≡ true → Now e q ↔ Before a q
  first_roots a q from other there =
      let f = one.follows a from in
      elim (place_tells a e) [
        | inl is ↦
            let P : List (ℕ × ℕ) → Type 0 = λ x. Same x (class_number s e) (class_number s q) ↔ Before a q in
            let Q : Spot → Type 0 = λ x. Before x q ↔ Before a q in
            subst P (sym (f.self is.1)) (subst Q is.1 (λ h. h, λ h. h))
        | inr apart ↦
            let g = f.other apart.1 in
            let a_other = one.others a apart.1 f.there in
            let q_other = one.others q other there in
            let joined : Same t.classes (class_number s e) (class_number s a) = g.joined (λ same. a_other (sym same)) in
            let kept = g.others (class_number s a) (class_number s q) a_other q_other in
            (λ h. kept.0 (sym joined ∙ h), λ h. joined ∙ kept.1 h)
      ]

  other_roots : (p q : Spot) → p ≢ e → q ≢ e → is_there s p ≡ true → is_there s q ≡ true → Now p q ↔ Before p q
  other_roots p q other_p other_q there_p there_q = go source refl
    where
      go : (x : Option Spot) → source ≡ x → Now p q ↔ Before p q
      go None is = (one.leaves is).others (class_number s p) (class_number s q) (one.others p other_p there_p) (one.others q other_q there_q)
      go (Some a) is =
          let f = one.follows a is in
          elim (place_tells a e) [
            | inl same ↦
                let P : List (ℕ × ℕ) → Type 0 = λ x. Same x (class_number s p) (class_number s q) ↔ Before p q in
                subst P (sym (f.self same.1)) (λ h. h, λ h. h)
            | inr apart ↦ (f.other apart.1).others (class_number s p) (class_number s q) (one.others p other_p there_p) (one.others q other_q there_q)
          ]

  swapped : (p q a b : Spot) → Now p q ↔ Before a b → Now q p ↔ Before b a
  swapped p q a b f = (λ h. sym (f.0 (sym h)), λ h. sym (f.1 (sym h)))

  old_roots : (p q a b : Spot) → single_from e source p ≡ Some a → single_from e source q ≡ Some b → is_there s a ≡ true → is_there s b ≡ true → Now p q ↔ Before a b
  old_roots p q a b from_p from_q there_a there_b =
      let P : Spot → Type 0 = λ x. Now x q ↔ Before a b in
      let Q : Spot → Type 0 = λ x. Now p x ↔ Before a b in
      let A : Spot → Type 0 = λ x. Now p q ↔ Before x b in
      let B : Spot → Type 0 = λ x. Now p q ↔ Before a x in
      elim (some_from p a from_p) [
        | inl is_p ↦ elim (some_from q b from_q) [
          | inl is_q ↦
              let one_source : Some a ≡ Some b = sym is_p.1 ∙ is_q.1 in
              let same : a ≡ b = cc in
              (λ h. ap (λ (x : Spot). root s.classes (class_number s x)) same, λ h. ap (λ (x : Spot). root t.classes (class_number s x)) (is_p.0 ∙ sym is_q.0))
          | inr is_q ↦
              let there : is_there s q ≡ true = subst (λ (x : Spot). is_there s x ≡ true) (sym is_q.0) there_b in
              subst P (sym is_p.0) (subst (λ (x : Spot). Now e q ↔ Before a x) is_q.0 (first_roots a q is_p.1 is_q.1 there))
        ]
        | inr is_p ↦
            let there_p : is_there s p ≡ true = subst (λ (x : Spot). is_there s x ≡ true) (sym is_p.0) there_a in
            elim (some_from q b from_q) [
              | inl is_q ↦ subst Q (sym is_q.0) (subst (λ (x : Spot). Now p e ↔ Before x b) is_p.0 (swapped e p b p (first_roots b p is_q.1 is_p.1 there_p)))
              | inr is_q ↦
                  let there_q : is_there s q ≡ true = subst (λ (x : Spot). is_there s x ≡ true) (sym is_q.0) there_b in
                  subst A is_p.0 (subst (λ (x : Spot). Now p q ↔ Before p x) is_q.0 (other_roots p q is_p.1 is_q.1 there_p there_q))
            ]
      ]

  pub single_moves : Moves s t (single_from e source)
  single_moves = record {
    there = λ p a from there. elim (some_from p a from) [
      | inl is ↦ (one.follows a is.1).there
      | inr is ↦ subst (λ (x : Spot). is_there s x ≡ true) is.0 (sym (one.there p) ∙ there)
    ];
    here = λ p a from there. elim (some_from p a from) [
      | inl is ↦ one.there p ∙ subst (λ (x : Spot). is_there s x ≡ true) (sym is.0) one.here
      | inr is ↦ one.there p ∙ subst (λ (x : Spot). is_there s x ≡ true) (sym is.0) there
    ];
    stays = λ p a from. elim (some_from p a from) [
      | inl is ↦ inl (one.follows a is.1).there
      | inr is ↦ inr is.0
    ];
    alone = λ p q from together.
        let is = none_from p from in
        let gone = one.leaves is.1 in
        let now : Now e q = subst (λ (x : Spot). Now x q) is.0 ((now_is p q).0 together.roots) in
        let same : class_number s q ≡ class_number s e = gone.alone (class_number s q) now in
        elim (place_tells q e) [
          | inl is_q ↦ is.0 ∙ sym is_q.1
          | inr other ↦ absurd (one.others q other.1 (sym (one.there q) ∙ together.second) same)
        ];
    roots = λ p q a b from_p from_q there_a there_b. both_ways (now_is p q) (old_roots p q a b from_p from_q there_a there_b);
  }

  pub single_same : (p q : Spot) → is_same t p q ≡ same_from (is_same s) p q (single_from e source p) (single_from e source q)
  single_same = moved_same s t (single_from e source) single_moves
