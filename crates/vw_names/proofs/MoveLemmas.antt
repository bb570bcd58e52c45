-- A place leaves its class, and one that is alone enters a class.
use Rattle.std.proofs.Common.{◌≡◌, ◌≢◌, ◌↔◌, ◌⊎◌, ℕ, zero, suc, ◌+◌, ◌-◌, ◌<◌, ◌≤◌, Bool, true, false, nat_eq, if◌then◌else◌, List, [], ◌∷◌, ◌++◌, length, get_or, take, drop, map, refl, sym, ap, subst, ◌∙◌, arith, inl, inr, add-one, eq-eqb}
use Rattle.std.specs.List.{All, AllPairs, AllWithin, insert, remove}
use Rattle.std.proofs.lemmas.Bool.{cases_lt, cases_eq, ne_eqb}
use Rattle.std.proofs.lemmas.List.{take-append-drop, drop_more, get_or_default, get_or-map, length-map}
use Rattle.std.proofs.lemmas.List.Edits.{get_or-insert_below, get_or-insert_at, get_or-insert_above, length-insert, get_or-remove_below, get_or-remove_above, length-remove}
use Rattle.std.proofs.lemmas.List.Quantifiers.{all_pairs_remove}
use Rattle.vw_names.specs.Division.{root, IsAscending, IsDivision, Same, IsAlone, IsSameBut, relabeled, IsFirstUnder, HasEntryAt}
use Rattle.vw_names.specs.DivisionOrder.{root_here, root_there, root_absent, root_at_most, ascending_tail, head_below, all_tail, Falls}
use Rattle.vw_names.proofs.Lookups.{root_at, root_at_place}

-- ---- an entry less, and an entry more

pub root_without : (front : List (ℕ × ℕ)) (entry : ℕ × ℕ) (rest : List (ℕ × ℕ)) (x : ℕ) → x ≢ entry.0 → root (front ++ entry ∷ rest) x ≡ root (front ++ rest) x
root_without [] entry rest x other = root_there entry rest x (λ same. other (sym same))
root_without (first ∷ front) entry rest x other = elim (cases_eq first.0 x) [
  | inl same ↦ root_here first (front ++ entry ∷ rest) x same ∙ sym (root_here first (front ++ rest) x same)
  | inr apart ↦ root_there first (front ++ entry ∷ rest) x apart ∙ root_without front entry rest x other ∙ sym (root_there first (front ++ rest) x apart)
]

pub removed_other : (xs : List (ℕ × ℕ)) (i x : ℕ) (d : ℕ × ℕ) → i < length xs → x ≢ (get_or xs i d).0 → root (remove xs i) x ≡ root xs x
removed_other xs i x d within other =
    let look : List (ℕ × ℕ) → ℕ = λ es. root es x in
    let whole : take i xs ++ get_or xs i d ∷ drop (suc i) xs ≡ xs = ap (λ (back : List (ℕ × ℕ)). take i xs ++ back) (sym (rw add-one at (drop_more xs i d within))) ∙ take-append-drop i xs in
    sym (root_without (take i xs) (get_or xs i d) (drop (suc i) xs) x other) ∙ ap look whole

pub removed_here : (xs : List (ℕ × ℕ)) (i : ℕ) (d : ℕ × ℕ) → IsAscending xs → i < length xs → root (remove xs i) (get_or xs i d).0 ≡ (get_or xs i d).0
removed_here xs i d ascends within = root_absent (remove xs i) (get_or xs i d).0 (λ k e inside.
    let size = length-remove xs i within in
    let default = get_or_default xs i d e within in
    elim (cases_lt k i) [
      | inl before ↦
          let less = ascends k i e before within in
          rw (get_or-remove_below xs i e k before within, default) (λ same. omega arith)
      | inr behind ↦
          let less = ascends i (k + 1) e (omega arith) (omega arith) in
          rw (get_or-remove_above xs i e k behind within, default) (λ same. omega arith)
    ])

pub falls_remove : (xs : List (ℕ × ℕ)) (i : ℕ) → i < length xs → Falls xs → Falls (remove xs i)
falls_remove xs i within falls = λ k e inside.
    let size = length-remove xs i within in
    elim (cases_lt k i) [
      | inl before ↦ rw (get_or-remove_below xs i e k before within) (falls k e (omega arith))
      | inr behind ↦ rw (get_or-remove_above xs i e k behind within) (falls (k + 1) e (omega arith))
    ]

pub inserted_other : (xs : List (ℕ × ℕ)) (at k v x : ℕ) → x ≢ k → root (insert xs at (k, v)) x ≡ root xs x
inserted_other xs at k v x other =
    root_without (take at xs) (k, v) (drop at xs) x other ∙ ap (λ (es : List (ℕ × ℕ)). root es x) (take-append-drop at xs)

pub get_or-insert_behind : {X : Type 0} (xs : List X) (at : ℕ) (x d : X) (j : ℕ) → at < j → at ≤ length xs → get_or (insert xs at x) j d ≡ get_or xs (j - 1) d
get_or-insert_behind xs at x d j behind within =
    let one_more : (j - 1) + 1 ≡ j = omega arith in
    let P : ℕ → Type 0 = λ n. get_or (insert xs at x) n d ≡ get_or xs (j - 1) d in
    subst P one_more (get_or-insert_above xs at x d (j - 1) (omega arith) within)

-- keys stay ascending where an item is put behind those with lesser keys and before those with greater
pub ascending_insert : {X : Type 0} (key_of : X → ℕ) (xs : List X) (at : ℕ) (x : X) → at ≤ length xs → AllPairs (λ earlier later. key_of earlier < key_of later) xs → AllWithin (λ e. key_of e < key_of x) xs 0 at → AllWithin (λ e. key_of x < key_of e) xs at (length xs) → AllPairs (λ earlier later. key_of earlier < key_of later) (insert xs at x)
ascending_insert {X} key_of xs at x within ascends below above = λ i j d before inside.
    let size : length (insert xs at x) ≡ length xs + 1 = length-insert xs at x within in
    elim (cases_lt j at) [
      | inl j_front ↦
          let i_front : i < at = omega arith in
          rw (get_or-insert_below xs at x d i i_front within, get_or-insert_below xs at x d j j_front within) (ascends i j d before (omega arith))
      | inr j_back ↦ elim (cases_eq j at) [
        | inl j_at ↦
            let i_front : i < at = omega arith in
            let Q : ℕ → Type 0 = λ n. key_of (get_or (insert xs at x) i d) < key_of (get_or (insert xs at x) n d) in
            subst Q (sym j_at) (rw (get_or-insert_below xs at x d i i_front within, get_or-insert_at xs at x d within) (below i d (omega arith) i_front))
        | inr j_other ↦
            let j_behind : at < j = omega arith in
            elim (cases_lt i at) [
              | inl i_front ↦ rw (get_or-insert_below xs at x d i i_front within, get_or-insert_behind xs at x d j j_behind within) (ascends i (j - 1) d (omega arith) (omega arith))
              | inr i_back ↦ elim (cases_eq i at) [
                | inl i_at ↦
                    let Q : ℕ → Type 0 = λ n. key_of (get_or (insert xs at x) n d) < key_of (get_or (insert xs at x) j d) in
                    subst Q (sym i_at) (rw (get_or-insert_at xs at x d within, get_or-insert_behind xs at x d j j_behind within) (above (j - 1) d (omega arith) (omega arith)))
                | inr i_other ↦
                    let i_behind : at < i = omega arith in
                    rw (get_or-insert_behind xs at x d i i_behind within, get_or-insert_behind xs at x d j j_behind within) (ascends (i - 1) (j - 1) d (omega arith) (omega arith))
              ]
            ]
      ]
    ]

pub falls_insert : (xs : List (ℕ × ℕ)) (at k v : ℕ) → at ≤ length xs → v < k → Falls xs → Falls (insert xs at (k, v))
falls_insert xs at k v within less falls = λ j d inside.
    let size = length-insert xs at (k, v) within in
    elim (cases_lt j at) [
      | inl front ↦ rw (get_or-insert_below xs at (k, v) d j front within) (falls j d (omega arith))
      | inr back ↦ elim (cases_eq j at) [
        | inl here ↦
            let Q : ℕ → Type 0 = λ n. (get_or (insert xs at (k, v)) n d).1 < (get_or (insert xs at (k, v)) n d).0 in
            subst Q (sym here) (rw (get_or-insert_at xs at (k, v) d within) less)
        | inr behind ↦ rw (get_or-insert_behind xs at (k, v) d j (omega arith) within) (falls (j - 1) d (omega arith))
      ]
    ]

pub inserted_here : (xs : List (ℕ × ℕ)) (at k v : ℕ) → at ≤ length xs → IsAscending (insert xs at (k, v)) → root (insert xs at (k, v)) k ≡ v
inserted_here xs at k v within ascends =
    let size = length-insert xs at (k, v) within in
    let is = get_or-insert_at xs at (k, v) (k, v) within in
    root_at_place (insert xs at (k, v)) at (k, v) k ascends (omega arith) (ap (λ (e : ℕ × ℕ). e.0) is) ∙ ap (λ (e : ℕ × ℕ). e.1) is

-- above the places that are not below one that no entry has, all are above
pub above_strictly : (xs : List (ℕ × ℕ)) (at k : ℕ) → IsAscending xs → Falls xs → root xs k ≡ k → AllWithin (λ e. k ≤ e.0) xs at (length xs) → AllWithin (λ e. k < e.0) xs at (length xs)
above_strictly xs at k ascends falls own above = λ j d low high.
    let at_least = above j d low high in
    let less = falls j d high in
    elim (cases_eq (get_or xs j d).0 k) [
      | inl same ↦ let is = root_at_place xs j d k ascends high same in absurd (omega arith)
      | inr apart ↦ omega arith
    ]

-- ---- another root

pub new_root_same : (from to v : ℕ) → v ≡ from → (if nat_eq v from then to else v) ≡ to
new_root_same from to v same = let is : nat_eq v from ≡ true = eq-eqb v from same in rw is

pub new_root_other : (from to v : ℕ) → v ≢ from → (if nat_eq v from then to else v) ≡ v
new_root_other from to v apart = let is : nat_eq v from ≡ false = ne_eqb v from apart in rw is

-- a place whose root is another one keeps it
pub relabeled_other : (from to : ℕ) (xs : List (ℕ × ℕ)) (x : ℕ) → root xs x ≢ from → root (relabeled from to xs) x ≡ root xs x
relabeled_other from to [] x apart = refl
relabeled_other from to (entry ∷ rest) x apart =
    let next : ℕ × ℕ = (entry.0, if nat_eq entry.1 from then to else entry.1) in
    elim (cases_eq entry.0 x) [
      | inl same ↦
          let old = root_here entry rest x same in
          root_here next (relabeled from to rest) x same ∙ new_root_other from to entry.1 (λ is. apart (old ∙ is)) ∙ sym old
      | inr other ↦
          let old = root_there entry rest x other in
          root_there next (relabeled from to rest) x other ∙ relabeled_other from to rest x (λ is. apart (old ∙ is)) ∙ sym old
    ]

-- a place that had the root gets the new one
pub relabeled_under : (from to : ℕ) (xs : List (ℕ × ℕ)) (x : ℕ) → root xs x ≡ from → x ≢ from → root (relabeled from to xs) x ≡ to
relabeled_under from to [] x is apart = absurd (apart is)
relabeled_under from to (entry ∷ rest) x is apart =
    let next : ℕ × ℕ = (entry.0, if nat_eq entry.1 from then to else entry.1) in
    elim (cases_eq entry.0 x) [
      | inl same ↦
          let old = root_here entry rest x same in
          root_here next (relabeled from to rest) x same ∙ new_root_same from to entry.1 (sym old ∙ is)
      | inr other ↦
          let old = root_there entry rest x other in
          root_there next (relabeled from to rest) x other ∙ relabeled_under from to rest x (sym old ∙ is) apart
    ]

-- a place that no entry has stays without one
pub relabeled_absent : (from to : ℕ) (xs : List (ℕ × ℕ)) (x : ℕ) → Falls xs → root xs x ≡ x → root (relabeled from to xs) x ≡ x
relabeled_absent from to [] x falls own = refl
relabeled_absent from to (entry ∷ rest) x falls own =
    let next : ℕ × ℕ = (entry.0, if nat_eq entry.1 from then to else entry.1) in
    elim (cases_eq entry.0 x) [
      | inl same ↦
          let old = root_here entry rest x same in
          let less = falls 0 entry (omega arith) in
          absurd (omega arith)
      | inr other ↦
          let old = root_there entry rest x other in
          root_there next (relabeled from to rest) x other ∙ relabeled_absent from to rest x (all_tail (λ e. e.1 < e.0) entry rest falls) (sym old ∙ own)
    ]

pub ascending_relabeled : (from to : ℕ) (xs : List (ℕ × ℕ)) → IsAscending xs → IsAscending (relabeled from to xs)
ascending_relabeled from to xs ascends = λ i j d before within.
    let f : ℕ × ℕ → ℕ × ℕ = λ entry. (entry.0, if nat_eq entry.1 from then to else entry.1) in
    let size = length-map xs f in
    rw (get_or-map f xs i d d (omega arith), get_or-map f xs j d d (omega arith)) (ascends i j d before (omega arith))

pub falls_relabeled : (from to : ℕ) (xs : List (ℕ × ℕ)) → Falls xs → ((k : ℕ) (d : ℕ × ℕ) → k < length xs → (get_or xs k d).1 ≡ from → to < (get_or xs k d).0) → Falls (relabeled from to xs)
falls_relabeled from to xs falls less = λ k d within.
    let f : ℕ × ℕ → ℕ × ℕ = λ entry. (entry.0, if nat_eq entry.1 from then to else entry.1) in
    let size = length-map xs f in
    let inside : k < length xs = omega arith in
    let e : ℕ × ℕ = get_or xs k d in
    rw (get_or-map f xs k d d inside) (elim (cases_eq e.1 from) [
      | inl same ↦ rw (new_root_same from to e.1 same) (less k d inside same)
      | inr apart ↦ rw (new_root_other from to e.1 apart) (falls k d inside)
    ])

-- ---- a place leaves

pub record IsLeft (place : ℕ) (old new : List (ℕ × ℕ)) : Type 0 where
  pub division : IsDivision new
  pub alone : IsAlone new place
  pub others : IsSameBut place old new

-- the root of a place's root stays, under roots that are given anew by a function
pub same_by : (g : ℕ → ℕ) (place : ℕ) (old new : List (ℕ × ℕ)) → ((x : ℕ) → x ≢ place → root new x ≡ g (root old x)) → ((a b : ℕ) → a ≢ place → b ≢ place → g (root old a) ≡ g (root old b) → root old a ≡ root old b) → IsSameBut place old new
same_by g place old new is injective = λ a b a_apart b_apart. (
  λ same. injective a b a_apart b_apart (sym (is a a_apart) ∙ same ∙ is b b_apart),
  λ same. is a a_apart ∙ ap g same ∙ sym (is b b_apart),
)

-- no place that has an entry is a root
pub never_root : (xs : List (ℕ × ℕ)) (k x : ℕ) → IsDivision xs → root xs k < k → root xs x ≢ k
never_root xs k x division key = λ same.
    let settled = division.settled x in
    let is : root xs k ≡ k = ap (root xs) (sym same) ∙ settled ∙ same in
    absurd (omega arith)

pub left_key : (xs : List (ℕ × ℕ)) (i p : ℕ) → IsDivision xs → i < length xs → (get_or xs i (0, 0)).0 ≡ p → IsLeft p xs (remove xs i)
left_key xs i p division within key =
    let d : ℕ × ℕ = (0, 0) in
    let at = root_at_place xs i d p division.ascending within key in
    let less = division.falls i d within in
    let is_key : root xs p < p = omega arith in
    let new : List (ℕ × ℕ) = remove xs i in
    let own : root new p ≡ p = ap (root new) (sym key) ∙ removed_here xs i d division.ascending within ∙ key in
    let other : (x : ℕ) → x ≢ p → root new x ≡ root xs x = λ x apart. removed_other xs i x d within (λ same. apart (same ∙ key)) in
    record {
      division = record {
        ascending = all_pairs_remove (λ earlier later. earlier.0 < later.0) xs i within division.ascending;
        falls = falls_remove xs i within division.falls;
        settled = λ x. elim (cases_eq x p) [
          | inl same ↦
              let here : root new x ≡ p = ap (root new) same ∙ own in
              ap (root new) here ∙ own ∙ sym here
          | inr apart ↦
              let here = other x apart in
              ap (root new) here ∙ other (root xs x) (never_root xs p x division is_key) ∙ division.settled x ∙ sym here
        ];
      };
      alone = λ b same. elim (cases_eq b p) [
        | inl is ↦ is
        | inr apart ↦ absurd (never_root xs p b division is_key (sym (other b apart) ∙ sym same ∙ own))
      ];
      others = same_by (λ v. v) p xs new other (λ a b _ _ same. same);
    }

pub left_none : (xs : List (ℕ × ℕ)) (p : ℕ) → IsDivision xs → root xs p ≡ p → All (λ e. e.1 ≢ p) xs → IsAlone xs p
left_none xs p division own none = λ b same. go xs b none (sym same ∙ own)
  where
    go : (es : List (ℕ × ℕ)) (b : ℕ) → All (λ e. e.1 ≢ p) es → root es b ≡ p → b ≡ p
    go [] b each is = is
    go (e ∷ es) b each is = elim (cases_eq e.0 b) [
      | inl same ↦ absurd (each 0 e (omega arith) (sym (root_here e es b same) ∙ is))
      | inr apart ↦ go es b (all_tail (λ x. x.1 ≢ p) e es each) (sym (root_there e es b apart) ∙ is)
    ]

pub left_root : (xs : List (ℕ × ℕ)) (p at : ℕ) → IsDivision xs → IsFirstUnder xs p at → IsLeft p xs (relabeled p (get_or xs at (0, 0)).0 (remove xs at))
left_root xs p at division first =
    let d : ℕ × ℕ = (0, 0) in
    let n : ℕ = (get_or xs at d).0 in
    let within = first.within in
    let less_xs = removed_falls xs at division within in
    let mid : List (ℕ × ℕ) = remove xs at in
    let new : List (ℕ × ℕ) = relabeled p n mid in
    let root_n : root xs n ≡ p = root_at xs at d division.ascending within ∙ first.under in
    let less : p < n = let l = division.falls at d within in let u = first.under in omega arith in
    let own_p : root xs p ≡ p = ap (root xs) (sym root_n) ∙ division.settled n ∙ root_n in
    let mid_n : root mid n ≡ n = removed_here xs at d division.ascending within in
    let mid_other : (x : ℕ) → x ≢ n → root mid x ≡ root xs x = λ x apart. removed_other xs at x d within apart in
    let mid_p : root mid p ≡ p = mid_other p (λ same. omega arith) ∙ own_p in
    let new_p : root new p ≡ p = relabeled_absent p n mid p less_xs mid_p in
    let new_n : root new n ≡ n = relabeled_other p n mid n (λ same. let b = mid_n in omega arith) ∙ mid_n in
    let g : ℕ → ℕ = λ v. if nat_eq v p then n else v in
    let other : (x : ℕ) → x ≢ p → root new x ≡ g (root xs x) = λ x apart. elim (cases_eq x n) [
      | inl same ↦ ap (root new) same ∙ new_n ∙ sym (new_root_same p n (root xs x) (ap (root xs) same ∙ root_n))
      | inr not_n ↦
          let there = mid_other x not_n in
          elim (cases_eq (root xs x) p) [
            | inl under ↦ relabeled_under p n mid x (there ∙ under) apart ∙ sym (new_root_same p n (root xs x) under)
            | inr not_under ↦ relabeled_other p n mid x (λ same. not_under (sym there ∙ same)) ∙ there ∙ sym (new_root_other p n (root xs x) not_under)
          ]
    ] in
    let never_n : (x : ℕ) → root xs x ≢ n = λ x. never_root xs n x division (omega arith) in
    let injective : (v w : ℕ) → v ≢ n → w ≢ n → g v ≡ g w → v ≡ w = λ v w v_n w_n same. elim (cases_eq v p) [
      | inl v_p ↦ elim (cases_eq w p) [
        | inl w_p ↦ v_p ∙ sym w_p
        | inr w_other ↦ absurd (w_n (sym (new_root_other p n w w_other) ∙ sym same ∙ new_root_same p n v v_p))
      ]
      | inr v_other ↦ elim (cases_eq w p) [
        | inl w_p ↦ absurd (v_n (sym (new_root_other p n v v_other) ∙ same ∙ new_root_same p n w w_p))
        | inr w_other ↦ sym (new_root_other p n v v_other) ∙ same ∙ new_root_other p n w w_other
      ]
    ] in
    record {
      division = record {
        ascending = ascending_relabeled p n mid (all_pairs_remove (λ earlier later. earlier.0 < later.0) xs at within division.ascending);
        falls = falls_relabeled p n mid less_xs (λ k e inside under. later xs p at k e division first inside under);
        settled = λ x. elim (cases_eq x p) [
          | inl same ↦
              let here : root new x ≡ p = ap (root new) same ∙ new_p in
              ap (root new) here ∙ new_p ∙ sym here
          | inr apart ↦
              let here = other x apart in
              elim (cases_eq (root xs x) p) [
                | inl under ↦
                    let is : root new x ≡ n = here ∙ new_root_same p n (root xs x) under in
                    ap (root new) is ∙ new_n ∙ sym is
                | inr not_under ↦
                    let is : root new x ≡ root xs x = here ∙ new_root_other p n (root xs x) not_under in
                    ap (root new) is ∙ other (root xs x) not_under ∙ ap g (division.settled x) ∙ sym here
              ]
        ];
      };
      alone = λ b same. elim (cases_eq b p) [
        | inl is ↦ is
        | inr apart ↦
            let at_p : g (root xs b) ≡ p = sym (other b apart) ∙ sym same ∙ new_p in
            elim (cases_eq (root xs b) p) [
              | inl under ↦ let is : n ≡ p = sym (new_root_same p n (root xs b) under) ∙ at_p in absurd (omega arith)
              | inr not_under ↦ absurd (not_under (sym (new_root_other p n (root xs b) not_under) ∙ at_p))
            ]
      ];
      others = same_by g p xs new other (λ a b _ _ same. injective (root xs a) (root xs b) (never_n a) (never_n b) same);
    }
  where
    removed_falls : (xs : List (ℕ × ℕ)) (at : ℕ) → IsDivision xs → at < length xs → Falls (remove xs at)
    removed_falls xs at division within = falls_remove xs at within division.falls

    -- the others under the root stand behind the first
    later : (xs : List (ℕ × ℕ)) (p at k : ℕ) (e : ℕ × ℕ) → IsDivision xs → IsFirstUnder xs p at → k < length (remove xs at) → (get_or (remove xs at) k e).1 ≡ p → (get_or xs at (0, 0)).0 < (get_or (remove xs at) k e).0
    later xs p at k e division first inside =
        let size = length-remove xs at first.within in
        let default = get_or_default xs at (0, 0) e first.within in
        elim (cases_lt k at) [
          | inl before ↦
              let same = get_or_default xs k e (0, 0) (let w = first.within in omega arith) in
              rw (get_or-remove_below xs at e k before first.within) (λ under. absurd (first.before k before (ap (λ (x : ℕ × ℕ). x.1) (sym same) ∙ under)))
          | inr behind ↦
              rw (get_or-remove_above xs at e k behind first.within, default) (λ under. division.ascending at (k + 1) e (omega arith) (omega arith))
        ]

-- ---- a place enters

pub record IsEntered (place least : ℕ) (old new : List (ℕ × ℕ)) : Type 0 where
  pub division : IsDivision new
  pub others : IsSameBut place old new
  pub joined : Same new place least

pub entered_low : (xs : List (ℕ × ℕ)) (p r at : ℕ) → IsDivision xs → IsAlone xs p → root xs r ≡ r → r < p → at ≤ length xs → AllWithin (λ e. e.0 < p) xs 0 at → AllWithin (λ e. p ≤ e.0) xs at (length xs) → IsEntered p r xs (insert xs at (p, r))
entered_low xs p r at division alone own less within below above =
    let own_p : root xs p ≡ p = alone (root xs p) (sym (division.settled p)) in
    let strictly = above_strictly xs at p division.ascending division.falls own_p above in
    let new : List (ℕ × ℕ) = insert xs at (p, r) in
    let ascends = ascending_insert (λ (e : ℕ × ℕ). e.0) xs at (p, r) within division.ascending below strictly in
    let here : root new p ≡ r = inserted_here xs at p r within ascends in
    let other : (x : ℕ) → x ≢ p → root new x ≡ root xs x = λ x apart. inserted_other xs at p r x apart in
    let not_p : (x : ℕ) → x ≢ p → root xs x ≢ p = λ x apart same. apart (alone x (own_p ∙ sym same)) in
    let new_r : root new r ≡ r = other r (λ same. omega arith) ∙ own in
    record {
      division = record {
        ascending = ascends;
        falls = falls_insert xs at p r within less division.falls;
        settled = λ x. elim (cases_eq x p) [
          | inl same ↦
              let is : root new x ≡ r = ap (root new) same ∙ here in
              ap (root new) is ∙ new_r ∙ sym is
          | inr apart ↦
              let is = other x apart in
              ap (root new) is ∙ other (root xs x) (not_p x apart) ∙ division.settled x ∙ sym is
        ];
      };
      others = same_by (λ v. v) p xs new other (λ a b _ _ same. same);
      joined = here ∙ sym new_r;
    }

pub entered_high : (xs : List (ℕ × ℕ)) (p r at : ℕ) → IsDivision xs → IsAlone xs p → root xs r ≡ r → p < r → at ≤ length (relabeled r p xs) → AllWithin (λ e. e.0 < r) (relabeled r p xs) 0 at → AllWithin (λ e. r ≤ e.0) (relabeled r p xs) at (length (relabeled r p xs)) → IsEntered p r xs (insert (relabeled r p xs) at (r, p))
entered_high xs p r at division alone own less within below above =
    let own_p : root xs p ≡ p = alone (root xs p) (sym (division.settled p)) in
    let mid : List (ℕ × ℕ) = relabeled r p xs in
    let mid_ascends = ascending_relabeled r p xs division.ascending in
    let mid_falls : Falls mid = falls_relabeled r p xs division.falls (λ k e inside under. let l = division.falls k e inside in omega arith) in
    let mid_r : root mid r ≡ r = relabeled_absent r p xs r division.falls own in
    let strictly = above_strictly mid at r mid_ascends mid_falls mid_r above in
    let new : List (ℕ × ℕ) = insert mid at (r, p) in
    let ascends = ascending_insert (λ (e : ℕ × ℕ). e.0) mid at (r, p) within mid_ascends below strictly in
    let here : root new r ≡ p = inserted_here mid at r p within ascends in
    let h : ℕ → ℕ = λ v. if nat_eq v r then p else v in
    let other : (x : ℕ) → root new x ≡ h (root xs x) = λ x. elim (cases_eq x r) [
      | inl same ↦ ap (root new) same ∙ here ∙ sym (new_root_same r p (root xs x) (ap (root xs) same ∙ own))
      | inr apart ↦
          let there = inserted_other mid at r p x apart in
          elim (cases_eq (root xs x) r) [
            | inl under ↦ there ∙ relabeled_under r p xs x under apart ∙ sym (new_root_same r p (root xs x) under)
            | inr not_under ↦ there ∙ relabeled_other r p xs x not_under ∙ sym (new_root_other r p (root xs x) not_under)
          ]
    ] in
    let new_p : root new p ≡ p = other p ∙ ap h own_p ∙ new_root_other r p p (λ same. omega arith) in
    let not_p : (x : ℕ) → x ≢ p → root xs x ≢ p = λ x apart same. apart (alone x (own_p ∙ sym same)) in
    let injective : (v w : ℕ) → v ≢ p → w ≢ p → h v ≡ h w → v ≡ w = λ v w v_p w_p same. elim (cases_eq v r) [
      | inl v_r ↦ elim (cases_eq w r) [
        | inl w_r ↦ v_r ∙ sym w_r
        | inr w_other ↦ absurd (w_p (sym (new_root_other r p w w_other) ∙ sym same ∙ new_root_same r p v v_r))
      ]
      | inr v_other ↦ elim (cases_eq w r) [
        | inl w_r ↦ absurd (v_p (sym (new_root_other r p v v_other) ∙ same ∙ new_root_same r p w w_r))
        | inr w_other ↦ sym (new_root_other r p v v_other) ∙ same ∙ new_root_other r p w w_other
      ]
    ] in
    record {
      division = record {
        ascending = ascends;
        falls = falls_insert mid at r p within less mid_falls;
        settled = λ x. elim (cases_eq (root xs x) r) [
          | inl under ↦
              let is : root new x ≡ p = other x ∙ new_root_same r p (root xs x) under in
              ap (root new) is ∙ new_p ∙ sym is
          | inr not_under ↦
              let is : root new x ≡ root xs x = other x ∙ new_root_other r p (root xs x) not_under in
              ap (root new) is ∙ other (root xs x) ∙ ap h (division.settled x) ∙ sym (other x)
        ];
      };
      others = same_by h p xs new (λ x _. other x) (λ a b a_p b_p same. injective (root xs a) (root xs b) (not_p a a_p) (not_p b b_p) same);
      joined = new_p ∙ sym here;
    }

-- ---- the same, of lists under other names

pub left_key_as : (xs lent new : List (ℕ × ℕ)) (i p : ℕ) → lent ≡ xs → IsDivision xs → HasEntryAt lent p i → new ≡ remove xs i → IsLeft p xs new
left_key_as xs lent new i p lists division has is =
    let P : List (ℕ × ℕ) → Type 0 = λ es. IsLeft p xs es in
    let H : List (ℕ × ℕ) → Type 0 = λ es. HasEntryAt es p i in
    let here = subst H lists has in
    subst P (sym is) (left_key xs i p division here.within here.is_key)

pub left_root_as : (xs lent mid new : List (ℕ × ℕ)) (taken : ℕ × ℕ) (at p : ℕ) → lent ≡ xs → IsDivision xs → IsFirstUnder lent p at → taken ≡ get_or xs at taken → mid ≡ remove xs at → new ≡ relabeled p taken.0 mid → IsLeft p xs new
left_root_as xs lent mid new taken at p lists division first taken_is mid_is new_is =
    let F : List (ℕ × ℕ) → Type 0 = λ es. IsFirstUnder es p at in
    let here = subst F lists first in
    let n : ℕ = (get_or xs at (0, 0)).0 in
    let key : taken.0 ≡ n = ap (λ (e : ℕ × ℕ). e.0) (taken_is ∙ get_or_default xs at taken (0, 0) here.within) in
    let P : List (ℕ × ℕ) → Type 0 = λ es. IsLeft p xs es in
    let Q : List (ℕ × ℕ) → Type 0 = λ es. IsLeft p xs (relabeled p taken.0 es) in
    let R : ℕ → Type 0 = λ v. IsLeft p xs (relabeled p v (remove xs at)) in
    subst P (sym new_is) (subst Q (sym mid_is) (subst R (sym key) (left_root xs p at division here)))

pub left_none_as : (xs lent other : List (ℕ × ℕ)) (p : ℕ) → lent ≡ xs → other ≡ xs → IsDivision xs → root lent p ≡ p → All (λ e. e.1 ≢ p) other → IsAlone xs p
left_none_as xs lent other p lists others division own none =
    let R : List (ℕ × ℕ) → Type 0 = λ es. root es p ≡ p in
    let N : List (ℕ × ℕ) → Type 0 = λ es. All (λ e. e.1 ≢ p) es in
    left_none xs p division (subst R lists own) (subst N others none)

pub record IsPlace (xs : List (ℕ × ℕ)) (k at : ℕ) : Type 0 where
  pub within : at ≤ length xs
  pub below : AllWithin (λ e. e.0 < k) xs 0 at
  pub above : AllWithin (λ e. k ≤ e.0) xs at (length xs)

pub entered_low_as : (xs lent new : List (ℕ × ℕ)) (p r at : ℕ) → lent ≡ xs → IsDivision xs → IsAlone xs p → root xs r ≡ r → r < p → IsPlace lent p at → new ≡ insert xs at (p, r) → IsEntered p r xs new
entered_low_as xs lent new p r at lists division alone own less place is =
    let P : List (ℕ × ℕ) → Type 0 = λ es. IsEntered p r xs es in
    let L : List (ℕ × ℕ) → Type 0 = λ es. IsPlace es p at in
    let here = subst L lists place in
    subst P (sym is) (entered_low xs p r at division alone own less here.within here.below here.above)

pub entered_high_as : (xs mid lent new : List (ℕ × ℕ)) (p r at : ℕ) → mid ≡ relabeled r p xs → lent ≡ mid → IsDivision xs → IsAlone xs p → root xs r ≡ r → p < r → IsPlace lent r at → new ≡ insert mid at (r, p) → IsEntered p r xs new
entered_high_as xs mid lent new p r at mid_is lists division alone own less place is =
    let P : List (ℕ × ℕ) → Type 0 = λ es. IsEntered p r xs es in
    let Q : List (ℕ × ℕ) → Type 0 = λ es. IsEntered p r xs (insert es at (r, p)) in
    let L : List (ℕ × ℕ) → Type 0 = λ es. IsPlace es r at in
    let here = subst L (lists ∙ mid_is) place in
    subst P (sym is) (subst Q (sym mid_is) (entered_high xs p r at division alone own less here.within here.below here.above))
