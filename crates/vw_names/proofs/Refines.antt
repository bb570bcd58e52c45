-- The common refinement of a division's first entries with another division, an entry at a time.
use Rattle.std.proofs.Common.{◌≡◌, ◌≢◌, ◌↔◌, ◌⊎◌, ℕ, zero, suc, ◌+◌, ◌<◌, ◌≤◌, List, [], ◌∷◌, ◌++◌, length, get_or, take, refl, sym, ap, subst, ◌∙◌, arith, inl, inr, Option, Some, None, max}
use Rattle.std.specs.List.{All, AllWithin}
use Rattle.std.proofs.lemmas.Bool.{cases_lt, cases_eq}
use Rattle.std.proofs.lemmas.List.{take_more, take_all, get_or-take, length-take, get_or_default, get_or_at, get_or_append_left, length_push}
use Rattle.std.proofs.lemmas.List.Quantifiers.{all_pairs_push}
use Rattle.vw_names.specs.Division.{root, IsAscending, IsDivision, Same, IsRefinement}
use Rattle.vw_names.specs.DivisionOrder.{root_here, root_there, root_absent, root_at_most, ascending_tail, head_below, all_tail, Falls}
use Rattle.vw_names.proofs.Lookups.{root_at}

-- ---- an entry behind the others

pub root_push_other : (front : List (ℕ × ℕ)) (p r x : ℕ) → x ≢ p → root (front ++ (p, r) ∷ []) x ≡ root front x
root_push_other [] p r x apart = root_there (p, r) [] x (λ same. apart (sym same))
root_push_other (entry ∷ rest) p r x apart = elim (cases_eq entry.0 x) [
  | inl same ↦ root_here entry (rest ++ (p, r) ∷ []) x same ∙ sym (root_here entry rest x same)
  | inr other ↦ root_there entry (rest ++ (p, r) ∷ []) x other ∙ root_push_other rest p r x apart ∙ sym (root_there entry rest x other)
]

pub root_push_here : (front : List (ℕ × ℕ)) (p r : ℕ) → All (λ e. e.0 < p) front → root (front ++ (p, r) ∷ []) p ≡ r
root_push_here [] p r below = root_here (p, r) [] p refl
root_push_here (entry ∷ rest) p r below =
    let less = below 0 entry (omega arith) in
    root_there entry (rest ++ (p, r) ∷ []) p (λ same. omega arith) ∙ root_push_here rest p r (all_tail (λ e. e.0 < p) entry rest below)

-- from p on every place is its own root
pub alone_from : (front : List (ℕ × ℕ)) (p q : ℕ) → All (λ e. e.0 < p) front → p ≤ q → root front q ≡ q
alone_from front p q below above = root_absent front q (λ k d within. let less = below k d within in λ same. omega arith)

-- p's class is p alone
pub only_own : (front : List (ℕ × ℕ)) (p q : ℕ) → Falls front → All (λ e. e.0 < p) front → root front q ≡ p → q ≡ p
only_own front p q falls below same =
    let at_most = root_at_most front q falls in
    let is = alone_from front p q below (omega arith) in
    omega arith

-- ---- what holds after some entries

pub record IsFirst (left right common : List (ℕ × ℕ)) (k : ℕ × ℕ) (f : ℕ) : Type 0 where
  pub in_left : root left f ≡ k.0
  pub in_right : root right f ≡ k.1
  pub own : root common f ≡ f
  pub key : root left f < f

pub record Progress (left right common : List (ℕ × ℕ)) (look : ℕ × ℕ → Option ℕ) : Type 0 where
  pub division : IsDivision common
  pub refines : IsRefinement left right common
  pub first : (k : ℕ × ℕ) (f : ℕ) → look k ≡ Some f → IsFirst left right common k f
  pub none : (k : ℕ × ℕ) → look k ≡ None → (q : ℕ) → root left q ≡ k.0 → root right q ≡ k.1 → (root left (max k.0 k.1) ≡ k.0) × (root right (max k.0 k.1) ≡ k.1)

pub progress_start : (right : List (ℕ × ℕ)) (look : ℕ × ℕ → Option ℕ) → Falls right → ((k : ℕ × ℕ) → look k ≡ None) → Progress [] right [] look
progress_start right look falls empty = record {
  division = record {
    ascending = λ i j d before within. absurd (omega arith);
    falls = λ k d within. absurd (omega arith);
    settled = λ place. refl;
  };
  refines = λ a b. (λ same. (same, ap (root right) same), λ both. both.0);
  first = λ k f found. absurd (let none = empty k in cc);
  none = λ k missing q is_left is_right.
      let low = root_at_most right q falls in
      let is : max k.0 k.1 ≡ q = omega arith in
      (is ∙ is_left, ap (root right) is ∙ is_right);
}

-- the entry (p, r) comes behind those of `left`
pub record Next (left right common : List (ℕ × ℕ)) (look : ℕ × ℕ → Option ℕ) (p r : ℕ) : Type 0 where
  pub falls : Falls left
  pub falls_right : Falls right
  pub below : All (λ e. e.0 < p) left
  pub less : r < p
  pub progress : Progress left right common look

module _ (left right common : List (ℕ × ℕ)) (look : ℕ × ℕ → Option ℕ) (p r : ℕ) where
  abbrev pub Longer : List (ℕ × ℕ)
  Longer = left ++ (p, r) ∷ []

  pub own_left : Next left right common look p r → root left p ≡ p
  own_left n = alone_from left p p n.below (omega arith)

  -- a key of the refinement is one of `left`
  pub common_key : Next left right common look p r → (q : ℕ) → root common q < q → root left q < q
  common_key n q key =
      let same = ((n.progress.refines (root common q) q).0 (n.progress.division.settled q)).0 in
      let at_most = root_at_most left (root common q) n.falls in
      omega arith

  pub common_below : Next left right common look p r → All (λ e. e.0 < p) common
  common_below n = λ k d within.
      let at = root_at common k d n.progress.division.ascending within in
      let lower = n.progress.division.falls k d within in
      let q : ℕ = (get_or common k d).0 in
      let key : root left q < q = common_key n q (omega arith) in
      elim (cases_lt q p) [
        | inl is ↦ is
        | inr not ↦ let own = alone_from left p q n.below not in absurd (omega arith)
      ]

  pub own_common : Next left right common look p r → root common p ≡ p
  own_common n = alone_from common p p (common_below n) (omega arith)

  -- nothing else is in p's class yet
  pub not_yet : Next left right common look p r → (b : ℕ) → Same common p b → b ≡ p
  not_yet n b same =
      let both = (n.progress.refines p b).0 same in
      let own = own_left n in
      only_own left p b n.falls n.below (sym both.0 ∙ own)

  pub first_apart : Next left right common look p r → (k : ℕ × ℕ) (f : ℕ) → IsFirst left right common k f → f ≢ p
  first_apart n k f is_first = λ same.
      let own = alone_from left p f n.below (omega arith) in
      let key = is_first.key in
      absurd (omega arith)

  pub first_longer : Next left right common look p r → (k : ℕ × ℕ) (f : ℕ) → IsFirst left right common k f → IsFirst Longer right common k f
  first_longer n k f is_first =
      let is = root_push_other left p r f (first_apart n k f is_first) in
      record {
        in_left = is ∙ is_first.in_left;
        in_right = is_first.in_right;
        own = is_first.own;
        key = let key = is_first.key in omega arith;
      }

  -- what is missing stays missing, of other places than p
  pub none_longer : Next left right common look p r → (k : ℕ × ℕ) → look k ≡ None → (q : ℕ) → q ≢ p → root left q ≡ k.0 → root right q ≡ k.1 → (root Longer (max k.0 k.1) ≡ k.0) × (root right (max k.0 k.1) ≡ k.1)
  none_longer n k missing q apart is_left is_right =
      let old = n.progress.none k missing q is_left is_right in
      let other : max k.0 k.1 ≢ p = λ same.
      let own = own_left n in
      let at : root left p ≡ k.0 = ap (root left) (sym same) ∙ old.0 in
      apart (only_own left p q n.falls n.below (is_left ∙ sym at ∙ own)) in
      (root_push_other left p r (max k.0 k.1) other ∙ old.0, old.1)

  -- p stays alone
  pub refines_alone : Next left right common look p r → ((b : ℕ) → b ≢ p → root left b ≡ r → root right b ≡ root right p → ⊥) → IsRefinement Longer right common
  refines_alone n never = λ a b. elim (cases_eq a p) [
    | inl a_is ↦ elim (cases_eq b p) [
      | inl b_is ↦
          let same : a ≡ b = a_is ∙ sym b_is in
          (λ _. (ap (root Longer) same, ap (root right) same), λ _. ap (root common) same)
      | inr b_apart ↦ (
        λ same. absurd (b_apart (not_yet n b (ap (root common) (sym a_is) ∙ same))),
        λ both. absurd (meets b b_apart (ap (root Longer) (sym a_is) ∙ both.0) (ap (root right) (sym a_is) ∙ both.1)),
      )
    ]
    | inr a_apart ↦ elim (cases_eq b p) [
      | inl b_is ↦ (
        λ same. absurd (a_apart (not_yet n a (ap (root common) (sym b_is) ∙ sym same))),
        λ both. absurd (meets a a_apart (ap (root Longer) (sym b_is) ∙ sym both.0) (ap (root right) (sym b_is) ∙ sym both.1)),
      )
      | inr b_apart ↦
          let is_a = root_push_other left p r a a_apart in
          let is_b = root_push_other left p r b b_apart in
          let old = n.progress.refines a b in (
            λ same. (is_a ∙ (old.0 same).0 ∙ sym is_b, (old.0 same).1),
            λ both. old.1 (sym is_a ∙ both.0 ∙ is_b, both.1),
          )
    ]
  ]
    where
      meets : (b : ℕ) → b ≢ p → Same Longer p b → Same right p b → ⊥
      meets b apart in_left in_right = never b apart (sym (root_push_other left p r b apart) ∙ sym in_left ∙ root_push_here left p r n.below) (sym in_right)

  -- the other division has p as the least of its class
  pub progress_apart : Next left right common look p r → root right p ≡ p → Progress Longer right common look
  progress_apart n own = record {
    division = n.progress.division;
    refines = refines_alone n (λ b apart in_left in_right.
        let low = root_at_most right b n.falls_right in
        let is = alone_from left p b n.below (omega arith) in
        let l = n.less in
        absurd (omega arith));
    first = λ k f found. first_longer n k f (n.progress.first k f found);
    none = λ k missing q is_left is_right. elim (cases_eq q p) [
      | inl same ↦
          let here = root_push_here left p r n.below in
          let at_left : root Longer p ≡ k.0 = ap (root Longer) (sym same) ∙ is_left in
          let at_right : root right p ≡ k.1 = ap (root right) (sym same) ∙ is_right in
          let l = n.less in
          let is : max k.0 k.1 ≡ p = omega arith in
          (ap (root Longer) is ∙ at_left, ap (root right) is ∙ at_right)
      | inr apart ↦ none_longer n k missing q apart (sym (root_push_other left p r q apart) ∙ is_left) is_right
    ];
  }

  -- p is the first of its class
  pub progress_first : Next left right common look p r → (look' : ℕ × ℕ → Option ℕ) → look (r, root right p) ≡ None → ((root left (max r (root right p)) ≡ r) × (root right (max r (root right p)) ≡ root right p) → ⊥) → look' (r, root right p) ≡ Some p → ((k : ℕ × ℕ) → k ≢ (r, root right p) → look' k ≡ look k) → Progress Longer right common look'
  progress_first n look' missing no_member here others = record {
    division = n.progress.division;
    refines = refines_alone n (λ b apart in_left in_right. no_member (n.progress.none (r, root right p) missing b in_left in_right));
    first = λ k f found. elim (decide k) [
      | inl same ↦
          let is : p ≡ f = cc in
          let at = root_push_here left p r n.below in
          let P : ℕ → Type 0 = λ x. IsFirst Longer right common k x in
          subst P is (record {
            in_left = at ∙ ap (λ (e : ℕ × ℕ). e.0) (sym same);
            in_right = ap (λ (e : ℕ × ℕ). e.1) (sym same);
            own = own_common n;
            key = let l = n.less in omega arith;
          })
      | inr apart ↦ first_longer n k f (n.progress.first k f (sym (others k apart) ∙ found))
    ];
    none = λ k gone q is_left is_right. elim (cases_eq q p) [
      | inl same ↦
          let at_left : r ≡ k.0 = sym (root_push_here left p r n.below) ∙ ap (root Longer) (sym same) ∙ is_left in
          let at_right : root right p ≡ k.1 = ap (root right) (sym same) ∙ is_right in
          let is : k ≡ (r, root right p) = pair_is k r (root right p) (sym at_left) (sym at_right) in
          let found : look' k ≡ Some p = ap look' is ∙ here in
          absurd (cc)
      | inr apart ↦
          let k_apart : k ≢ (r, root right p) = λ same. let found : look' k ≡ Some p = ap look' same ∙ here in absurd (cc) in
          none_longer n k (sym (others k k_apart) ∙ gone) q apart (sym (root_push_other left p r q apart) ∙ is_left) is_right
    ];
  }
    where
      pair_is : (k : ℕ × ℕ) (a b : ℕ) → k.0 ≡ a → k.1 ≡ b → k ≡ (a, b)
      pair_is k a b first second =
          let with_first : ℕ → ℕ × ℕ = λ x. (x, k.1) in
          let with_second : ℕ → ℕ × ℕ = λ x. (a, x) in
          ap with_first first ∙ ap with_second second

      decide : (k : ℕ × ℕ) → (k ≡ (r, root right p)) ⊎ (k ≢ (r, root right p))
      decide k = elim (cases_eq k.0 r) [
        | inl first ↦ elim (cases_eq k.1 (root right p)) [
          | inl second ↦ inl (pair_is k r (root right p) first second)
          | inr apart ↦ inr (λ same. apart (ap (λ (e : ℕ × ℕ). e.1) same))
        ]
        | inr apart ↦ inr (λ same. apart (ap (λ (e : ℕ × ℕ). e.0) same))
      ]

  -- p joins the class of m, the least of it
  pub record Meets (m : ℕ) : Type 0 where
    pub less : m < p
    pub in_left : root left m ≡ r
    pub in_right : root right m ≡ root right p
    pub own : root common m ≡ m

  abbrev pub Grown : ℕ → List (ℕ × ℕ)
  Grown m = common ++ (p, m) ∷ []

  -- a place that stands for another
  pub record StandIn (m a : ℕ) : Type 0 where
    pub place : ℕ
    pub apart : place ≢ p
    pub in_common : root (Grown m) a ≡ root common place
    pub in_left : root Longer a ≡ root left place
    pub in_right : root right a ≡ root right place

  pub stand_in : Next left right common look p r → (m : ℕ) → Meets m → (a : ℕ) → StandIn m a
  stand_in n m meets a = elim (cases_eq a p) [
    | inl same ↦ record {
      place = m;
      apart = let l = meets.less in λ is. omega arith;
      in_common = ap (root (Grown m)) same ∙ root_push_here common p m (common_below n) ∙ sym meets.own;
      in_left = ap (root Longer) same ∙ root_push_here left p r n.below ∙ sym meets.in_left;
      in_right = ap (root right) same ∙ sym meets.in_right;
    }
    | inr apart ↦ record {
      place = a;
      apart = apart;
      in_common = root_push_other common p m a apart;
      in_left = root_push_other left p r a apart;
      in_right = refl;
    }
  ]

  pub progress_meets : Next left right common look p r → (m : ℕ) → Meets m → Progress Longer right (Grown m) look
  progress_meets n m meets = record {
    division = record {
      ascending = all_pairs_push (λ earlier later. earlier.0 < later.0) common (p, m) n.progress.division.ascending (λ k d within. common_below n k d within);
      falls = λ k d within. elim (cases_lt k (length common)) [
        | inl inside ↦ rw (get_or_append_left common ((p, m) ∷ []) d k inside) (n.progress.division.falls k d inside)
        | inr outside ↦
            let size = length_push common (p, m) in
            rw (get_or_at common (p, m) [] d k (omega arith)) meets.less
      ];
      settled = λ place. elim (cases_eq place p) [
        | inl same ↦
            let at : root (Grown m) place ≡ m = ap (root (Grown m)) same ∙ root_push_here common p m (common_below n) in
            let l = meets.less in
            ap (root (Grown m)) at ∙ root_push_other common p m m (λ is. omega arith) ∙ meets.own ∙ sym at
        | inr apart ↦
            let at = root_push_other common p m place apart in
            let not_p : root common place ≢ p = λ is. apart (not_yet n place (own_common n ∙ sym is)) in
            ap (root (Grown m)) at ∙ root_push_other common p m (root common place) not_p ∙ n.progress.division.settled place ∙ sym at
      ];
    };
    refines = λ a b.
        let s = stand_in n m meets a in
        let t = stand_in n m meets b in
        let old = n.progress.refines s.place t.place in (
          λ same.
              let both = old.0 (sym s.in_common ∙ same ∙ t.in_common) in
              (s.in_left ∙ both.0 ∙ sym t.in_left, s.in_right ∙ both.1 ∙ sym t.in_right),
          λ both. s.in_common ∙ old.1 (sym s.in_left ∙ both.0 ∙ t.in_left, sym s.in_right ∙ both.1 ∙ t.in_right) ∙ sym t.in_common,
        );
    first = λ k f found.
        let is_first = n.progress.first k f found in
        let longer = first_longer n k f is_first in
        record {
          in_left = longer.in_left;
          in_right = longer.in_right;
          own = root_push_other common p m f (first_apart n k f is_first) ∙ is_first.own;
          key = longer.key;
        };
    none = λ k missing q is_left is_right.
        let s = stand_in n m meets q in
        none_longer n k missing s.place s.apart (sym s.in_left ∙ is_left) (sym s.in_right ∙ is_right);
  }

  pub meets_first : Next left right common look p r → (f : ℕ) → look (r, root right p) ≡ Some f → Meets f
  meets_first n f found =
      let is_first = n.progress.first (r, root right p) f found in
      record {
        less = elim (cases_lt f p) [
          | inl less ↦ less
          | inr not ↦
              let own = alone_from left p f n.below not in
              let key = is_first.key in
              absurd (omega arith)
        ];
        in_left = is_first.in_left;
        in_right = is_first.in_right;
        own = is_first.own;
      }

  pub meets_max : Next left right common look p r → root right p < p → root left (max r (root right p)) ≡ r → root right (max r (root right p)) ≡ root right p → Meets (max r (root right p))
  meets_max n key in_left in_right =
      let m : ℕ = max r (root right p) in
      let same = (n.progress.refines (root common m) m).0 (n.progress.division.settled m) in
      let low = root_at_most common m n.progress.division.falls in
      let low_left = root_at_most left (root common m) n.falls in
      let low_right = root_at_most right (root common m) n.falls_right in
      let l = n.less in
      record {
        less = omega arith;
        in_left = in_left;
        in_right = in_right;
        own = omega arith;
      }

-- ---- the entry number i of a list

pub falls_take : (i : ℕ) (left : List (ℕ × ℕ)) → Falls left → Falls (take i left)
falls_take i left falls = λ k d within.
    let size = length-take i left in
    rw (get_or-take i left k d (omega arith)) (falls k d (omega arith))

pub below_take : (i : ℕ) (left : List (ℕ × ℕ)) (d : ℕ × ℕ) → IsAscending left → i < length left → All (λ e. e.0 < (get_or left i d).0) (take i left)
below_take i left d ascends within = λ k e inside.
    let size = length-take i left in
    let default = get_or_default left k e d (omega arith) in
    rw (get_or-take i left k e (omega arith), default) (ascends k i d (omega arith) within)

-- the entries from one on do not count for a place below it
pub root_take : (left : List (ℕ × ℕ)) (i : ℕ) (d : ℕ × ℕ) (m : ℕ) → IsAscending left → i < length left → m < (get_or left i d).0 → root left m ≡ root (take i left) m
root_take [] i d m ascends within less = absurd (omega arith)
root_take (entry ∷ rest) zero d m ascends within less = root_absent (entry ∷ rest) m (λ k e inside. elim (cases_eq k 0) [
  | inl first ↦ subst (λ (j : ℕ). (get_or (entry ∷ rest) j e).0 ≢ m) (sym first) (λ same. omega arith)
  | inr later ↦ let above = ascends 0 k e (omega arith) inside in λ same. omega arith
])
root_take (entry ∷ rest) (suc i) d m ascends within less = elim (cases_eq entry.0 m) [
  | inl same ↦ root_here entry rest m same ∙ sym (root_here entry (take i rest) m same)
  | inr apart ↦ root_there entry rest m apart ∙ root_take rest i d m (ascending_tail entry rest ascends) (omega arith) less ∙ sym (root_there entry (take i rest) m apart)
]

pub next_entry : (left right common : List (ℕ × ℕ)) (look : ℕ × ℕ → Option ℕ) (i : ℕ) (d : ℕ × ℕ) → IsDivision left → IsDivision right → i < length left → Progress (take i left) right common look → Next (take i left) right common look (get_or left i d).0 (get_or left i d).1
next_entry left right common look i d division other within progress = record {
  falls = falls_take i left division.falls;
  falls_right = other.falls;
  below = below_take i left d division.ascending within;
  less = division.falls i d within;
  progress = progress;
}

pub one_more : (left right common : List (ℕ × ℕ)) (look : ℕ × ℕ → Option ℕ) (i : ℕ) (d : ℕ × ℕ) → i < length left → Progress (take i left ++ ((get_or left i d).0, (get_or left i d).1) ∷ []) right common look → Progress (take (i + 1) left) right common look
one_more left right common look i d within progress =
    let P : List (ℕ × ℕ) → Type 0 = λ x. Progress x right common look in
    subst P (sym (take_more left i d within)) progress

-- ---- the four ways on, at the entry number i

pub go_apart : (left right common : List (ℕ × ℕ)) (look : ℕ × ℕ → Option ℕ) (i : ℕ) (d : ℕ × ℕ) → IsDivision left → IsDivision right → i < length left → Progress (take i left) right common look → (get_or left i d).0 ≤ root right (get_or left i d).0 → Progress (take (i + 1) left) right common look
go_apart left right common look i d division other within progress own =
    let e : ℕ × ℕ = get_or left i d in
    let n = next_entry left right common look i d division other within progress in
    let low = root_at_most right e.0 other.falls in
    one_more left right common look i d within (progress_apart (take i left) right common look e.0 e.1 n (omega arith))

pub go_max : (left right common : List (ℕ × ℕ)) (look : ℕ × ℕ → Option ℕ) (i : ℕ) (d : ℕ × ℕ) → IsDivision left → IsDivision right → i < length left → Progress (take i left) right common look → root right (get_or left i d).0 < (get_or left i d).0
    → root left (max (get_or left i d).1 (root right (get_or left i d).0)) ≡ (get_or left i d).1 → root right (max (get_or left i d).1 (root right (get_or left i d).0)) ≡ root right (get_or left i d).0
    → Progress (take (i + 1) left) right (common ++ ((get_or left i d).0, max (get_or left i d).1 (root right (get_or left i d).0)) ∷ []) look
go_max left right common look i d division other within progress key in_left in_right =
    let e : ℕ × ℕ = get_or left i d in
    let m : ℕ = max e.1 (root right e.0) in
    let n = next_entry left right common look i d division other within progress in
    let l = n.less in
    let there = root_take left i d m division.ascending within (omega arith) in
    let meets = meets_max (take i left) right common look e.0 e.1 n key (sym there ∙ in_left) in_right in
    one_more left right (common ++ (e.0, m) ∷ []) look i d within (progress_meets (take i left) right common look e.0 e.1 n m meets)

pub go_found : (left right common : List (ℕ × ℕ)) (look : ℕ × ℕ → Option ℕ) (i : ℕ) (d : ℕ × ℕ) (f : ℕ) → IsDivision left → IsDivision right → i < length left → Progress (take i left) right common look → look ((get_or left i d).1, root right (get_or left i d).0) ≡ Some f
    → Progress (take (i + 1) left) right (common ++ ((get_or left i d).0, f) ∷ []) look
go_found left right common look i d f division other within progress found =
    let e : ℕ × ℕ = get_or left i d in
    let n = next_entry left right common look i d division other within progress in
    one_more left right (common ++ (e.0, f) ∷ []) look i d within (progress_meets (take i left) right common look e.0 e.1 n f (meets_first (take i left) right common look e.0 e.1 n f found))

pub go_first : (left right common : List (ℕ × ℕ)) (look look' : ℕ × ℕ → Option ℕ) (i : ℕ) (d : ℕ × ℕ) → IsDivision left → IsDivision right → i < length left → Progress (take i left) right common look → root right (get_or left i d).0 < (get_or left i d).0
    → look ((get_or left i d).1, root right (get_or left i d).0) ≡ None
    → ((root left (max (get_or left i d).1 (root right (get_or left i d).0)) ≡ (get_or left i d).1) → (root right (max (get_or left i d).1 (root right (get_or left i d).0)) ≡ root right (get_or left i d).0) → ⊥)
    → look' ((get_or left i d).1, root right (get_or left i d).0) ≡ Some (get_or left i d).0
    → ((k : ℕ × ℕ) → k ≢ ((get_or left i d).1, root right (get_or left i d).0) → look' k ≡ look k)
    → Progress (take (i + 1) left) right common look'
go_first left right common look look' i d division other within progress key missing no_member here others =
    let e : ℕ × ℕ = get_or left i d in
    let m : ℕ = max e.1 (root right e.0) in
    let n = next_entry left right common look i d division other within progress in
    let l = n.less in
    let there = root_take left i d m division.ascending within (omega arith) in
    one_more left right common look' i d within (progress_first (take i left) right common look e.0 e.1 n look' missing (λ both. no_member (there ∙ both.0) both.1) here others)
