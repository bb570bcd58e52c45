-- The common part of two sets, a range at a time.
use Rattle.std.proofs.Common.{◌≡◌, ◌≢◌, ◌↔◌, ◌⊎◌, IsTrue, ℕ, ◌+◌, ◌<◌, Bool, true, false, List, [], ◌∷◌, ◌++◌, length, get_or, drop, sym, ap, subst, ◌∙◌, arith, inl, inr}
use Rattle.std.specs.Prelude.{ℤ, pos, ◌<ℤ◌, ◌≤ℤ◌, ◌+ℤ◌}
use Rattle.std.proofs.lemmas.Bool.{cases_lt}
use Rattle.std.proofs.lemmas.Int.{ints, clamps, by_lt_z}
use Rattle.std.proofs.lemmas.List.{drop_more, get_or_at, get_or_append_left, length_push}
use Rattle.std.proofs.lemmas.List.Quantifiers.{all_pairs_push}
use Rattle.vw_locals.specs.Ranges.{is_written, written_below, IsRanges, IsCommon, IsPart, PutsPart}
use Rattle.vw_locals.specs.RangeOrder.{IsInRange, written_cases, written_here, written_there, ranges_tail, tail_above}

-- ---- a range behind the others

pub push_cases : (ranges : List (ℤ × ℤ)) (range : ℤ × ℤ) (x : ℤ) → is_written (ranges ++ range ∷ []) x ≡ true → (is_written ranges x ≡ true) ⊎ IsInRange range x
push_cases [] range x is = elim (written_cases range [] x is) [ inl here ↦ inr here | inr there ↦ absurd (cc) ]
push_cases (first ∷ rest) range x is = elim (written_cases first (rest ++ range ∷ []) x is) [
  | inl here ↦ inl (written_here first rest x here)
  | inr there ↦ elim (push_cases rest range x there) [
    | inl in_rest ↦ inl (written_there first rest x in_rest)
    | inr last ↦ inr last
  ]
]

pub push_old : (ranges : List (ℤ × ℤ)) (range : ℤ × ℤ) (x : ℤ) → is_written ranges x ≡ true → is_written (ranges ++ range ∷ []) x ≡ true
push_old [] range x is = absurd (cc)
push_old (first ∷ rest) range x is = elim (written_cases first rest x is) [
  | inl here ↦ written_here first (rest ++ range ∷ []) x here
  | inr there ↦ written_there first (rest ++ range ∷ []) x (push_old rest range x there)
]

pub push_new : (ranges : List (ℤ × ℤ)) (range : ℤ × ℤ) (x : ℤ) → IsInRange range x → is_written (ranges ++ range ∷ []) x ≡ true
push_new [] range x is = written_here range [] x is
push_new (first ∷ rest) range x is = written_there first (rest ++ range ∷ []) x (push_new rest range x is)

-- ---- what holds after some ranges, of which `left` and `right` are left

pub record Meeting (whole_left whole_right left right common : List (ℤ × ℤ)) : Type 0 where
  pub ranges : IsRanges common
  pub ranges_left : IsRanges left
  pub ranges_right : IsRanges right
  pub gap : (k : ℕ) (d : ℤ × ℤ) (x : ℤ) → k < length common → is_written left x ≡ true → is_written right x ≡ true → ((get_or common k d).1 +ℤ pos 1) <ℤ x
  pub sound : (x : ℤ) → is_written common x ≡ true → (is_written whole_left x ≡ true) × (is_written whole_right x ≡ true)
  pub more_left : (x : ℤ) → is_written left x ≡ true → is_written whole_left x ≡ true
  pub more_right : (x : ℤ) → is_written right x ≡ true → is_written whole_right x ≡ true
  pub complete : (x : ℤ) → is_written whole_left x ≡ true → is_written whole_right x ≡ true → (is_written common x ≡ true) ⊎ ((is_written left x ≡ true) × (is_written right x ≡ true))

pub meeting_start : (left right : List (ℤ × ℤ)) → IsRanges left → IsRanges right → Meeting left right left right []
meeting_start left right l r = record {
  ranges = record { filled = λ k d within. absurd (omega arith); apart = λ i j d before within. absurd (omega arith) };
  ranges_left = l;
  ranges_right = r;
  gap = λ k d x within in_left in_right. absurd (omega arith);
  sound = λ x is. absurd (cc);
  more_left = λ x is. is;
  more_right = λ x is. is;
  complete = λ x in_left in_right. inr (in_left, in_right);
}

-- one side is used up
pub meeting_end : (whole_left whole_right left right common : List (ℤ × ℤ)) → Meeting whole_left whole_right left right common → (left ≡ []) ⊎ (right ≡ []) → IsCommon whole_left whole_right common
meeting_end whole_left whole_right left right common m empty = λ x. (
  λ is. m.sound x is,
  λ both. elim (m.complete x both.0 both.1) [
    | inl done ↦ done
    | inr still ↦ elim empty [
      | inl none ↦ let is : false ≡ true = ap (λ (es : List (ℤ × ℤ)). is_written es x) (sym none) ∙ still.0 in absurd (cc)
      | inr none ↦ let is : false ≡ true = ap (λ (es : List (ℤ × ℤ)). is_written es x) (sym none) ∙ still.1 in absurd (cc)
    ]
  ],
)

-- ---- a step: the part of the two first ranges comes to the others, where there is one

-- the offsets of both ranges
pub record IsCovered (l r part : ℤ × ℤ) : Type 0 where
  pub low_l : l.0 ≤ℤ part.0
  pub low_r : r.0 ≤ℤ part.0
  pub high_l : part.1 ≤ℤ l.1
  pub high_r : part.1 ≤ℤ r.1
  pub of_both : (x : ℤ) → IsInRange l x → IsInRange r x → IsInRange part x

pub part_of : (l r part : ℤ × ℤ) → IsPart l r part → IsCovered l r part
part_of l r part is = record {
  low_l = let f = is.first in omega (arith, ints, clamps);
  low_r = let f = is.first in omega (arith, ints, clamps);
  high_l = let f = is.last in omega (arith, ints, clamps);
  high_r = let f = is.last in omega (arith, ints, clamps);
  of_both = λ x in_l in_r.
      let e = is.first in
      let f = is.last in
      let a = in_l.low in
      let b = in_l.high in
      let c = in_r.low in
      let d = in_r.high in
      record { low = omega (arith, ints, clamps); high = omega (arith, ints, clamps) };
}

pub record Pushed (left right common new : List (ℤ × ℤ)) (part : ℤ × ℤ) : Type 0 where
  pub ranges : IsRanges new
  pub sound : (x : ℤ) → is_written new x ≡ true → (is_written common x ≡ true) ⊎ IsInRange part x
  pub old : (x : ℤ) → is_written common x ≡ true → is_written new x ≡ true
  pub fresh : (x : ℤ) → IsInRange part x → is_written new x ≡ true
  pub gap : (k : ℕ) (d : ℤ × ℤ) (x : ℤ) → k < length new → (part.1 +ℤ pos 1) <ℤ x → is_written left x ≡ true → is_written right x ≡ true → ((get_or new k d).1 +ℤ pos 1) <ℤ x

module _ (whole_left whole_right left right common : List (ℤ × ℤ)) (l r part : ℤ × ℤ) where
  pub pushed_nothing : Meeting whole_left whole_right (l ∷ left) (r ∷ right) common → part.1 <ℤ part.0 → Pushed (l ∷ left) (r ∷ right) common common part
  pushed_nothing m empty = record {
    ranges = m.ranges;
    sound = λ x is. inl is;
    old = λ x is. is;
    fresh = λ x is. let a = is.low in let b = is.high in absurd (omega (arith, ints));
    gap = λ k d x within behind in_left in_right. m.gap k d x within in_left in_right;
  }

  pub pushed_part : Meeting whole_left whole_right (l ∷ left) (r ∷ right) common → IsCovered l r part → part.0 ≤ℤ part.1 → Pushed (l ∷ left) (r ∷ right) common (common ++ part ∷ []) part
  pushed_part m is filled =
      let in_l : is_written (l ∷ left) part.0 ≡ true = written_here l left part.0 (record { low = is.low_l; high = let h = is.high_l in omega (arith, ints) }) in
      let in_r : is_written (r ∷ right) part.0 ≡ true = written_here r right part.0 (record { low = is.low_r; high = let h = is.high_r in omega (arith, ints) }) in
      let size = length_push common part in
      record {
        ranges = record {
          filled = λ k d within. elim (cases_lt k (length common)) [
            | inl inside ↦ rw (get_or_append_left common (part ∷ []) d k inside) (m.ranges.filled k d inside)
            | inr outside ↦ rw (get_or_at common part [] d k (omega arith)) filled
          ];
          apart = all_pairs_push (λ earlier later. (earlier.1 +ℤ pos 1) <ℤ later.0) common part m.ranges.apart (λ k d within. m.gap k d part.0 within in_l in_r);
        };
        sound = λ x written. push_cases common part x written;
        old = λ x written. push_old common part x written;
        fresh = λ x here. push_new common part x here;
        gap = λ k d x within behind in_left in_right. elim (cases_lt k (length common)) [
          | inl inside ↦ rw (get_or_append_left common (part ∷ []) d k inside) (m.gap k d x inside in_left in_right)
          | inr outside ↦ rw (get_or_at common part [] d k (omega arith)) behind
        ];
      }

  -- what is written in what was pushed is written in both
  pushed_sound : (new : List (ℤ × ℤ)) → Meeting whole_left whole_right (l ∷ left) (r ∷ right) common → IsCovered l r part → Pushed (l ∷ left) (r ∷ right) common new part → (x : ℤ) → is_written new x ≡ true → (is_written whole_left x ≡ true) × (is_written whole_right x ≡ true)
  pushed_sound new m is p x written = elim (p.sound x written) [
    | inl old ↦ m.sound x old
    | inr here ↦
        let a = here.low in
        let b = here.high in
        let ll = is.low_l in
        let lr = is.low_r in
        let hl = is.high_l in
        let hr = is.high_r in (
          m.more_left x (written_here l left x (record { low = omega (arith, ints); high = omega (arith, ints) })),
          m.more_right x (written_here r right x (record { low = omega (arith, ints); high = omega (arith, ints) })),
        )
  ]

  pub meeting_left : (new : List (ℤ × ℤ)) → Meeting whole_left whole_right (l ∷ left) (r ∷ right) common → IsCovered l r part → Pushed (l ∷ left) (r ∷ right) common new part → l.1 <ℤ r.1 → Meeting whole_left whole_right left (r ∷ right) new
  meeting_left new m is p less = record {
    ranges = p.ranges;
    ranges_left = ranges_tail l left m.ranges_left;
    ranges_right = m.ranges_right;
    gap = λ k d x within in_left in_right.
        let behind = tail_above l left x m.ranges_left in_left in
        let h = is.high_l in
        p.gap k d x within (omega (arith, ints)) (written_there l left x in_left) in_right;
    sound = pushed_sound new m is p;
    more_left = λ x written. m.more_left x (written_there l left x written);
    more_right = m.more_right;
    complete = λ x in_left in_right. elim (m.complete x in_left in_right) [
      | inl done ↦ inl (p.old x done)
      | inr both ↦ elim (written_cases l left x both.0) [
        | inl in_l ↦ elim (written_cases r right x both.1) [
          | inl in_r ↦ inl (p.fresh x (is.of_both x in_l in_r))
          | inr in_rest ↦
              let behind = tail_above r right x m.ranges_right in_rest in
              let h = in_l.high in
              absurd (omega (arith, ints))
        ]
        | inr in_rest ↦ inr (in_rest, both.1)
      ]
    ];
  }

  pub meeting_right : (new : List (ℤ × ℤ)) → Meeting whole_left whole_right (l ∷ left) (r ∷ right) common → IsCovered l r part → Pushed (l ∷ left) (r ∷ right) common new part → r.1 ≤ℤ l.1 → Meeting whole_left whole_right (l ∷ left) right new
  meeting_right new m is p less = record {
    ranges = p.ranges;
    ranges_left = m.ranges_left;
    ranges_right = ranges_tail r right m.ranges_right;
    gap = λ k d x within in_left in_right.
        let behind = tail_above r right x m.ranges_right in_right in
        let h = is.high_r in
        p.gap k d x within (omega (arith, ints)) in_left (written_there r right x in_right);
    sound = pushed_sound new m is p;
    more_left = m.more_left;
    more_right = λ x written. m.more_right x (written_there r right x written);
    complete = λ x in_left in_right. elim (m.complete x in_left in_right) [
      | inl done ↦ inl (p.old x done)
      | inr both ↦ elim (written_cases r right x both.1) [
        | inl in_r ↦ elim (written_cases l left x both.0) [
          | inl in_l ↦ inl (p.fresh x (is.of_both x in_l in_r))
          | inr in_rest ↦
              let behind = tail_above l left x m.ranges_left in_rest in
              let h = in_r.high in
              absurd (omega (arith, ints))
        ]
        | inr in_rest ↦ inr (both.0, in_rest)
      ]
    ];
  }

pub pushed : (whole_left whole_right left right common new : List (ℤ × ℤ)) (l r : ℤ × ℤ) → Meeting whole_left whole_right (l ∷ left) (r ∷ right) common → (puts : PutsPart l r common new) → Pushed (l ∷ left) (r ∷ right) common new puts.part
pushed whole_left whole_right left right common new l r m puts =
    let P : List (ℤ × ℤ) → Type 0 = λ es. Pushed (l ∷ left) (r ∷ right) common es puts.part in
    by_lt_z puts.part.1 puts.part.0
    (λ empty. subst P (sym (puts.left_out empty)) (pushed_nothing whole_left whole_right left right common l r puts.part m empty))
    (λ filled. subst P (sym (puts.put filled)) (pushed_part whole_left whole_right left right common l r puts.part m (part_of l r puts.part puts.is) filled))

-- the same at the places i and j
pub go_left : (left right common new : List (ℤ × ℤ)) (i j : ℕ) (d : ℤ × ℤ) → i < length left → j < length right → Meeting left right (drop i left) (drop j right) common → PutsPart (get_or left i d) (get_or right j d) common new → (get_or left i d).1 <ℤ (get_or right j d).1 → Meeting left right (drop (i + 1) left) (drop j right) new
go_left left right common new i j d in_left in_right m puts less =
    let l : ℤ × ℤ = get_or left i d in
    let r : ℤ × ℤ = get_or right j d in
    let at_left = drop_more left i d in_left in
    let at_right = drop_more right j d in_right in
    let P : List (ℤ × ℤ) → Type 0 = λ es. Meeting left right es (drop j right) common in
    let Q : List (ℤ × ℤ) → Type 0 = λ es. Meeting left right (l ∷ drop (i + 1) left) es common in
    let R : List (ℤ × ℤ) → Type 0 = λ es. Meeting left right (drop (i + 1) left) es new in
    let here = subst Q at_right (subst P at_left m) in
    let done = pushed left right (drop (i + 1) left) (drop (j + 1) right) common new l r here puts in
    subst R (sym at_right) (meeting_left left right (drop (i + 1) left) (drop (j + 1) right) common l r puts.part new here (part_of l r puts.part puts.is) done less)

pub go_right : (left right common new : List (ℤ × ℤ)) (i j : ℕ) (d : ℤ × ℤ) → i < length left → j < length right → Meeting left right (drop i left) (drop j right) common → PutsPart (get_or left i d) (get_or right j d) common new → (get_or right j d).1 ≤ℤ (get_or left i d).1 → Meeting left right (drop i left) (drop (j + 1) right) new
go_right left right common new i j d in_left in_right m puts less =
    let l : ℤ × ℤ = get_or left i d in
    let r : ℤ × ℤ = get_or right j d in
    let at_left = drop_more left i d in_left in
    let at_right = drop_more right j d in_right in
    let P : List (ℤ × ℤ) → Type 0 = λ es. Meeting left right es (drop j right) common in
    let Q : List (ℤ × ℤ) → Type 0 = λ es. Meeting left right (l ∷ drop (i + 1) left) es common in
    let R : List (ℤ × ℤ) → Type 0 = λ es. Meeting left right es (drop (j + 1) right) new in
    let here = subst Q at_right (subst P at_left m) in
    let done = pushed left right (drop (i + 1) left) (drop (j + 1) right) common new l r here puts in
    subst R (sym at_left) (meeting_right left right (drop (i + 1) left) (drop (j + 1) right) common l r puts.part new here (part_of l r puts.part puts.is) done less)

-- the common part of a set with one that lacks some of it differs from the set
pub common_differs : (answer : Bool) (old other new low high left right : List (ℤ × ℤ)) → low ≡ other → high ≡ old → left ≡ old → right ≡ other → (IsTrue answer ↔ written_below low high) → answer ≡ false → IsCommon left right new → new ≢ old
common_differs answer old other new low high left right low_is high_is left_is right_is means untrue common same =
    let S : ℤ → List (ℤ × ℤ) → Type 0 = λ x es. is_written es x ≡ true in
    let L : List (ℤ × ℤ) → Type 0 = λ es. written_below es high in
    let H : List (ℤ × ℤ) → Type 0 = λ es. written_below other es in
    let below : written_below other old = λ x written. subst (S x) right_is ((common x).0 (subst (S x) (sym same) written)).1 in
    let yes : answer ≡ true = means.1 (subst L (sym low_is) (subst H (sym high_is) below)) in
    absurd (cc)
