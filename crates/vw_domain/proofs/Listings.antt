-- What holds of the lists that are made of what is told of each number from a first one on: the registers, the entries of
-- a map, the ranges of a set, the entries of a division.
use Rattle.std.proofs.Common.{◌≡◌, ◌≢◌, ℕ, zero, suc, ◌+◌, ◌<◌, ◌≤◌, ◌⊎◌, inl, inr, List, [], ◌∷◌, length, get_or, refl, sym, ap, ◌∙◌, subst, arith}
use Rattle.std.specs.Prelude.{Option, Some, None, Bool, true, false, if◌then◌else◌, nat_lt, ℤ, pos, ◌+ℤ◌, ◌<ℤ◌, ◌≤ℤ◌}
use Rattle.std.specs.List.{All, Contains, cons_option}
use Rattle.std.specs.Option.{option_map}
use Rattle.std.specs.Ordering.{int_eq}
use Rattle.std.proofs.lemmas.Int.{ints, by_lt_z}
use Rattle.std.proofs.lemmas.Bool.{cases_lt, cases_eq, lt-ltb, ltb-true}
use Rattle.std.proofs.lemmas.Bool.Decides.{Decides-int_eq}
use Rattle.std.proofs.lemmas.List.Elements.{All-cons}
use Rattle.std.proofs.lemmas.List.Kept.{AllPairs-cons}
use Rattle.vw_lattice.specs.Entries.{IsAscending, value_at}
use Rattle.vw_lattice.specs.EntryOrder.{value_at_here, value_at_there}
use Rattle.vw_locals.specs.Ranges.{is_written, IsRanges}
use Rattle.vw_locals.specs.RangeOrder.{written_cases, written_here, written_there, ranges_tail, filled_head, head_apart, ranges_cons}
use Rattle.vw_names.specs.Division.{root, IsDivision, Same}
use Rattle.vw_names.specs.Division.{IsAscending as IsAscendingDivision}
use Rattle.vw_names.specs.DivisionOrder.{root_here, root_there, Falls}
use Rattle.vw_domain.specs.StateOf.{row_of, map_of, with_front, ranges_of, division_of, least}

-- ---- items by their places

pub record IsRowOf {A : Type 0} (g : ℕ → A) (d : A) (n first : ℕ) (list : List A) : Type 0 where
  pub size : length list ≡ n
  pub at : (i : ℕ) → i < n → get_or list i d ≡ g (first + i)

row_on : {A : Type 0} (g : ℕ → A) (d : A) (n first : ℕ) (list : List A) → IsRowOf g d n (suc first) list → IsRowOf g d (suc n) first (g first ∷ list)
row_on g d n first list rest = record { size = omega (arith, rest.size); at = at }
  where
    at : (i : ℕ) → i < suc n → get_or (g first ∷ list) i d ≡ g (first + i)
    at zero low = let same : first ≡ first + 0 = omega arith in ap g same
    at (suc i) low = let same : suc first + i ≡ first + suc i = omega arith in rest.at i (omega arith) ∙ ap g same

pub row_is : {A : Type 0} (g : ℕ → A) (d : A) (n first : ℕ) → IsRowOf g d n first (row_of g n first)
unfolding row_of
row_is g d zero first = record { size = refl; at = λ i low. absurd (omega arith) }
row_is g d (suc n) first = row_on g d n first (row_of g n (suc first)) (row_is g d n (suc first))

-- each of the items is there
pub row_contains : {A : Type 0} (g : ℕ → A) (n i : ℕ) → i < n → Contains (row_of g n 0) (g i)
row_contains g n i low = let is = row_is g (g i) n 0 in let same : 0 + i ≡ i = omega arith in (i, omega (arith, is.size), is.at i low ∙ ap g same)

-- ---- a map

pub record IsMapOf {V : Type 0} (f : ℤ → Option V) (n : ℕ) (first : ℤ) (list : List (ℤ × V)) : Type 0 where
  pub ascending : IsAscending list
  pub later : All (λ entry. first ≤ℤ entry.0) list
  pub inside : (key : ℤ) → first ≤ℤ key → key <ℤ (first +ℤ pos n) → value_at list key ≡ f key
  pub below : (key : ℤ) → key <ℤ first → value_at list key ≡ None
  pub above : (key : ℤ) → (first +ℤ pos n) ≤ℤ key → value_at list key ≡ None

-- one that is at least another is it, or greater
same_or_above : (a b : ℤ) → a ≤ℤ b → (a ≡ b) ⊎ ((a +ℤ pos 1) ≤ℤ b)
same_or_above a b low = by_lt_z a b (λ less. inr (omega (arith, ints))) (λ high. inl (omega (arith, ints)))

module _ {V : Type 0} (f : ℤ → Option V) (n : ℕ) (first : ℤ) (list : List (ℤ × V)) (rest : IsMapOf f n (first +ℤ pos 1) list) where
  map_on : (x : Option V) → f first ≡ x → IsMapOf f (suc n) first (cons_option (option_map (λ v. (first, v)) x) list)
  map_on None is = record {
    ascending = rest.ascending;
    later = λ k d within. let low = rest.later k d within in omega (arith, ints);
    inside = λ key low high. elim (same_or_above first key low) [
      | inl same ↦ rest.below key (omega (arith, ints)) ∙ sym is ∙ ap f same
      | inr more ↦ rest.inside key more (omega (arith, ints))
    ];
    below = λ key low. rest.below key (omega (arith, ints));
    above = λ key high. rest.above key (omega (arith, ints));
  }
  map_on (Some v) is = record {
    ascending = AllPairs-cons (λ earlier later. earlier.0 <ℤ later.0) (first, v) list (λ k d within. let low = rest.later k d within in omega (arith, ints)) rest.ascending;
    later = All-cons (λ entry. first ≤ℤ entry.0) (first, v) list (omega (arith, ints)) (λ k d within. let low = rest.later k d within in omega (arith, ints));
    inside = λ key low high. elim (same_or_above first key low) [
      | inl same ↦ value_at_here (first, v) list key same ∙ sym is ∙ ap f same
      | inr more ↦ value_at_there (first, v) list key (λ e. below_itself first key more e) ∙ rest.inside key more (omega (arith, ints))
    ];
    below = λ key low. value_at_there (first, v) list key (λ e. below_itself key first (omega (arith, ints)) (sym e)) ∙ rest.below key (omega (arith, ints));
    above = λ key high. value_at_there (first, v) list key (λ e. below_itself first key (omega (arith, ints)) e) ∙ rest.above key (omega (arith, ints));
  }
    where
      below_itself : (a b : ℤ) → (a +ℤ pos 1) ≤ℤ b → a ≡ b → ⊥
      below_itself a b more e = omega (arith, ints)

pub map_is : {V : Type 0} (f : ℤ → Option V) (n : ℕ) (first : ℤ) → IsMapOf f n first (map_of f n first)
unfolding map_of
map_is f zero first = record {
  ascending = λ i j d before within. absurd (omega arith);
  later = λ k d within. absurd (omega arith);
  inside = λ key low high. absurd (omega (arith, ints));
  below = λ key low. refl;
  above = λ key high. refl;
}
map_is f (suc n) first = map_on f n first (map_of f n (first +ℤ pos 1)) (map_is f n (first +ℤ pos 1)) (f first) refl

-- ---- a set

-- one offset in front of others
record IsFronted (first : ℤ) (old list : List (ℤ × ℤ)) : Type 0 where
  are : IsRanges list
  told : (x : ℤ) → is_written list x ≡ true → (x ≡ first) ⊎ (is_written old x ≡ true)
  here : is_written list first ≡ true
  keeps : (x : ℤ) → is_written old x ≡ true → is_written list x ≡ true

fronted : (first : ℤ) (old : List (ℤ × ℤ)) → IsRanges old → ((x : ℤ) → is_written old x ≡ true → first <ℤ x) → IsFronted first old (with_front first old)
fronted first [] are above = record {
  are = ranges_cons (first, first) [] (omega (arith, ints)) (λ k d within. absurd (omega arith)) are;
  told = λ x h. elim (written_cases (first, first) [] x h) [
    | inl here ↦ inl (let a = here.low in let b = here.high in omega (arith, ints))
    | inr there ↦ inr there
  ];
  here = written_here (first, first) [] first (record { low = omega (arith, ints); high = omega (arith, ints) });
  keeps = λ x h. written_there (first, first) [] x h;
}
fronted first (r ∷ rs) are above = by_test (int_eq (first +ℤ pos 1) r.0) refl
  where
    filled : r.0 ≤ℤ r.1
    filled = filled_head r rs are

    start : first <ℤ r.0
    start = above r.0 (written_here r rs r.0 (record { low = omega (arith, ints); high = filled }))

    by_test : (b : Bool) → int_eq (first +ℤ pos 1) r.0 ≡ b → IsFronted first (r ∷ rs) (if b then (first, r.1) ∷ rs else (first, first) ∷ r ∷ rs)
    by_test true is =
        let touches : (first +ℤ pos 1) ≡ r.0 = (Decides-int_eq (first +ℤ pos 1) r.0).0 is in
        record {
          are = ranges_cons (first, r.1) rs (omega (arith, ints, filled, start)) (head_apart r rs are) (ranges_tail r rs are);
          told = λ x h. elim (written_cases (first, r.1) rs x h) [
            | inl here ↦ elim (same_or_above first x here.low) [
              | inl same ↦ inl (sym same)
              | inr more ↦ inr (written_here r rs x (record { low = omega (arith, ints); high = here.high }))
            ]
            | inr there ↦ inr (written_there r rs x there)
          ];
          here = written_here (first, r.1) rs first (record { low = omega (arith, ints); high = omega (arith, ints, filled, start) });
          keeps = λ x h. elim (written_cases r rs x h) [
            | inl here ↦ written_here (first, r.1) rs x (record { low = let a = here.low in omega (arith, ints, start); high = here.high })
            | inr there ↦ written_there (first, r.1) rs x there
          ];
        }
    by_test false is =
        let apart : (first +ℤ pos 1) <ℤ r.0 = elim (same_or_above (first +ℤ pos 1) r.0 (omega (arith, ints, start))) [
          | inl same ↦ let never : true ≡ false = sym ((Decides-int_eq (first +ℤ pos 1) r.0).1 same) ∙ is in absurd (cc)
          | inr more ↦ omega (arith, ints)
        ] in
        record {
          are = ranges_cons (first, first) (r ∷ rs) (omega (arith, ints))
              (All-cons (λ later. (first +ℤ pos 1) <ℤ later.0) r rs apart (λ k d within. let more = head_apart r rs are k d within in omega (arith, ints, filled, start))) are;
          told = λ x h. elim (written_cases (first, first) (r ∷ rs) x h) [
            | inl here ↦ inl (let a = here.low in let b = here.high in omega (arith, ints))
            | inr there ↦ inr there
          ];
          here = written_here (first, first) (r ∷ rs) first (record { low = omega (arith, ints); high = omega (arith, ints) });
          keeps = λ x h. written_there (first, first) (r ∷ rs) x h;
        }

pub record AreRangesOf (w : ℤ → Bool) (n : ℕ) (first : ℤ) (list : List (ℤ × ℤ)) : Type 0 where
  pub are : IsRanges list
  pub low : (x : ℤ) → is_written list x ≡ true → first ≤ℤ x
  pub high : (x : ℤ) → is_written list x ≡ true → x <ℤ (first +ℤ pos n)
  pub told : (x : ℤ) → is_written list x ≡ true → w x ≡ true
  pub found : (x : ℤ) → first ≤ℤ x → x <ℤ (first +ℤ pos n) → w x ≡ true → is_written list x ≡ true

module _ (w : ℤ → Bool) (n : ℕ) (first : ℤ) (list : List (ℤ × ℤ)) (rest : AreRangesOf w n (first +ℤ pos 1) list) where
  ranges_on : (b : Bool) → w first ≡ b → AreRangesOf w (suc n) first (if b then with_front first list else list)
  ranges_on false is = record {
    are = rest.are;
    low = λ x h. let a = rest.low x h in omega (arith, ints);
    high = λ x h. let a = rest.high x h in omega (arith, ints);
    told = rest.told;
    found = λ x low high h. elim (same_or_above first x low) [
      | inl same ↦ let never : true ≡ false = sym h ∙ ap w (sym same) ∙ is in absurd (cc)
      | inr more ↦ rest.found x more (omega (arith, ints)) h
    ];
  }
  ranges_on true is = record {
    are = front.are;
    low = λ x h. elim (front.told x h) [ inl same ↦ omega (arith, ints) | inr there ↦ let a = rest.low x there in omega (arith, ints) ];
    high = λ x h. elim (front.told x h) [ inl same ↦ omega (arith, ints) | inr there ↦ let a = rest.high x there in omega (arith, ints) ];
    told = λ x h. elim (front.told x h) [ inl same ↦ ap w same ∙ is | inr there ↦ rest.told x there ];
    found = λ x low high h. elim (same_or_above first x low) [
      | inl same ↦ let P : ℤ → Type 0 = λ z. is_written (with_front first list) z ≡ true in subst P same front.here
      | inr more ↦ front.keeps x (rest.found x more (omega (arith, ints)) h)
    ];
  }
    where
      front : IsFronted first list (with_front first list)
      front = fronted first list rest.are (λ x h. let a = rest.low x h in omega (arith, ints))

pub ranges_are : (w : ℤ → Bool) (n : ℕ) (first : ℤ) → AreRangesOf w n first (ranges_of w n first)
unfolding ranges_of
ranges_are w zero first = record {
  are = record { filled = λ k d within. absurd (omega arith); apart = λ i j d before within. absurd (omega arith) };
  low = λ x h. absurd (cc);
  high = λ x h. absurd (cc);
  told = λ x h. absurd (cc);
  found = λ x low high h. absurd (omega (arith, ints));
}
ranges_are w (suc n) first = ranges_on w n first (ranges_of w n (first +ℤ pos 1)) (ranges_are w n (first +ℤ pos 1)) (w first) refl

-- ---- a division

-- the least number that passes
pub record IsLeast (t : ℕ → Bool) (b : ℕ) : Type 0 where
  pub holds : t b ≡ true
  pub least : (c : ℕ) → t c ≡ true → b ≤ c

-- the least number up to n that passes, or n where none does
record IsFirst (t : ℕ → Bool) (n b : ℕ) : Type 0 where
  most : b ≤ n
  holds : (c : ℕ) → c ≤ n → t c ≡ true → t b ≡ true
  first : (c : ℕ) → c ≤ n → t c ≡ true → b ≤ c

module _ (t : ℕ → Bool) (n b : ℕ) (rest : IsFirst t n b) where
  first_on : (passes : Bool) → t b ≡ passes → IsFirst t (suc n) (if passes then b else suc n)
  first_on true is = record {
    most = let low = rest.most in omega arith;
    holds = λ c low h. is;
    first = λ c low h. elim (cases_lt n c) [
      | inl more ↦ let most = rest.most in omega arith
      | inr less ↦ rest.first c less h
    ];
  }
  first_on false is = record {
    most = omega arith;
    holds = λ c low h. let P : ℕ → Type 0 = λ x. t x ≡ true in subst P (alone c low h) h;
    first = λ c low h. let same = alone c low h in omega arith;
  }
    where
      alone : (c : ℕ) → c ≤ suc n → t c ≡ true → c ≡ suc n
      alone c low h = elim (cases_lt n c) [
        | inl more ↦ omega arith
        | inr less ↦ let never : true ≡ false = sym (rest.holds c less h) ∙ is in absurd (cc)
      ]

first_is : (t : ℕ → Bool) (n : ℕ) → IsFirst t n (least t n)
unfolding least
first_is t zero = record {
  most = omega arith;
  holds = λ c low h. let P : ℕ → Type 0 = λ x. t x ≡ true in let same : c ≡ 0 = omega arith in subst P same h;
  first = λ c low h. omega arith;
}
first_is t (suc n) = first_on t n (least t n) (first_is t n) (t (least t n)) refl

least_most : (t : ℕ → Bool) (n : ℕ) → least t n ≤ n
least_most t n = (first_is t n).most

least_is : (t : ℕ → Bool) (n : ℕ) → t n ≡ true → IsLeast t (least t n)
least_is t n here = record {
  holds = (first_is t n).holds n (omega arith) here;
  least = λ c h. elim (cases_lt n c) [
    | inl more ↦ let most = (first_is t n).most in omega arith
    | inr less ↦ (first_is t n).first c less h
  ];
}

-- the places from a first one on, each with its root where that is another
record IsDivisionOf (root_of : ℕ → ℕ) (n first : ℕ) (list : List (ℕ × ℕ)) : Type 0 where
  ascending : IsAscendingDivision list
  falls : Falls list
  later : All (λ entry. first ≤ entry.0) list
  inside : (x : ℕ) → first ≤ x → x < first + n → root list x ≡ root_of x
  below : (x : ℕ) → x < first → root list x ≡ x
  above : (x : ℕ) → first + n ≤ x → root list x ≡ x

module _ (root_of : ℕ → ℕ) (n first : ℕ) (list : List (ℕ × ℕ)) (rest : IsDivisionOf root_of n (suc first) list) where
  division_on : root_of first ≤ first → (b : Bool) → nat_lt (root_of first) first ≡ b → IsDivisionOf root_of (suc n) first (if b then (first, root_of first) ∷ list else list)
  division_on most false is = record {
    ascending = rest.ascending;
    falls = rest.falls;
    later = λ k d within. let low = rest.later k d within in omega arith;
    inside = λ x low high. elim (cases_eq first x) [
      | inl same ↦ rest.below x (omega arith) ∙ sym same ∙ sym itself ∙ ap root_of same
      | inr other ↦ rest.inside x (omega arith) (omega arith)
    ];
    below = λ x low. rest.below x (omega arith);
    above = λ x high. rest.above x (omega arith);
  }
    where
      itself : root_of first ≡ first
      itself = elim (cases_lt (root_of first) first) [
        | inl less ↦ let never : true ≡ false = sym (lt-ltb (root_of first) first less) ∙ is in absurd (cc)
        | inr more ↦ omega (arith, most)
      ]
  division_on most true is = record {
    ascending = AllPairs-cons (λ earlier later. earlier.0 < later.0) (first, root_of first) list (λ k d within. let low = rest.later k d within in omega arith) rest.ascending;
    falls = All-cons (λ entry. entry.1 < entry.0) (first, root_of first) list (ltb-true (root_of first) first is) rest.falls;
    later = All-cons (λ entry. first ≤ entry.0) (first, root_of first) list (omega arith) (λ k d within. let low = rest.later k d within in omega arith);
    inside = λ x low high. elim (cases_eq first x) [
      | inl same ↦ root_here (first, root_of first) list x same ∙ ap root_of same
      | inr other ↦ root_there (first, root_of first) list x other ∙ rest.inside x (omega arith) (omega arith)
    ];
    below = λ x low. root_there (first, root_of first) list x (λ e. omega arith) ∙ rest.below x (omega arith);
    above = λ x high. root_there (first, root_of first) list x (λ e. omega arith) ∙ rest.above x (omega arith);
  }

division_is : (root_of : ℕ → ℕ) → ((x : ℕ) → root_of x ≤ x) → (n first : ℕ) → IsDivisionOf root_of n first (division_of root_of n first)
unfolding division_of
division_is root_of most zero first = record {
  ascending = λ i j d before within. absurd (omega arith);
  falls = λ k d within. absurd (omega arith);
  later = λ k d within. absurd (omega arith);
  inside = λ x low high. absurd (omega arith);
  below = λ x low. refl;
  above = λ x high. refl;
}
division_is root_of most (suc n) first =
    division_on root_of n first (division_of root_of n (suc first)) (division_is root_of most n (suc first)) (most first) (nat_lt (root_of first) first) refl

-- an equivalence of places, of which no two from `end` on are together with another
pub record IsEquivalence (together : ℕ → ℕ → Bool) (end : ℕ) : Type 0 where
  pub itself : (a : ℕ) → together a a ≡ true
  pub symmetric : (a b : ℕ) → together a b ≡ true → together b a ≡ true
  pub transitive : (a b c : ℕ) → together a b ≡ true → together b c ≡ true → together a c ≡ true
  pub few : (a b : ℕ) → together a b ≡ true → a ≢ b → a < end

-- its division
pub record IsParted (together : ℕ → ℕ → Bool) (list : List (ℕ × ℕ)) : Type 0 where
  pub is : IsDivision list
  pub told : (a b : ℕ) → Same list a b → together a b ≡ true
  pub found : (a b : ℕ) → together a b ≡ true → Same list a b

module _ (together : ℕ → ℕ → Bool) (end : ℕ) (is : IsEquivalence together end) where
  abbrev root_of : ℕ → ℕ
  root_of a = least (together a) a

  least_root : (a : ℕ) → IsLeast (together a) (root_of a)
  least_root a = least_is (together a) a (is.itself a)

  found_root : (a : ℕ) → together a (root_of a) ≡ true
  found_root a = (least_root a).holds

  no_more : (a b : ℕ) → together a b ≡ true → root_of a ≤ root_of b
  no_more a b h = (least_root a).least (root_of b) (is.transitive a b (root_of b) h (found_root b))

  one_root : (a b : ℕ) → together a b ≡ true → root_of a ≡ root_of b
  one_root a b h = let low = no_more a b h in let high = no_more b a (is.symmetric a b h) in omega arith

  by_root : (a b : ℕ) → root_of a ≡ root_of b → together a b ≡ true
  by_root a b same =
      let P : ℕ → Type 0 = λ c. together a c ≡ true in
      is.transitive a (root_of b) b (subst P same (found_root a)) (is.symmetric b (root_of b) (found_root b))

  abbrev whole : List (ℕ × ℕ)
  whole = division_of root_of end 0

  division : IsDivisionOf root_of end 0 whole
  division = division_is root_of (λ x. least_most (together x) x) end 0

  beyond : (x : ℕ) → end ≤ x → root_of x ≡ x
  beyond x far = elim (cases_eq x (root_of x)) [
    | inl same ↦ sym same
    | inr other ↦ let less = is.few x (root_of x) (found_root x) other in absurd (omega arith)
  ]

  roots : (x : ℕ) → root whole x ≡ root_of x
  roots x = elim (cases_lt x end) [
    | inl less ↦ division.inside x (omega arith) (omega arith)
    | inr far ↦ division.above x (omega arith) ∙ sym (beyond x far)
  ]

  pub parted : IsParted together (division_of (λ a. least (together a) a) end 0)
  parted = record {
    is = record {
      ascending = division.ascending;
      falls = division.falls;
      settled = λ x. ap (root whole) (roots x) ∙ roots (root_of x) ∙ sym (one_root x (root_of x) (found_root x)) ∙ sym (roots x);
    };
    told = λ a b same. by_root a b (sym (roots a) ∙ same ∙ roots b);
    found = λ a b h. roots a ∙ one_root a b h ∙ sym (roots b);
  }
