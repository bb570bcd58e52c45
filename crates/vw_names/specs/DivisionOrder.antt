-- The laws of the order of divisions.
use Rattle.std.specs.Prelude.{◌≡◌, ◌≢◌, ◌↔◌, ◌<◌, ◌≤◌, ℕ, zero, suc, ◌+◌, Bool, true, false, List, [], ◌∷◌, ◌++◌, length, nat_eq, get_or, refl, ◌⊎◌}
use Rattle.std.specs.List.{All, AllPairs}
use Rattle.std.proofs.Common.{sym, ◌∙◌, ap, subst, arith, inl, inr, eq-eqb}
use Rattle.std.proofs.lemmas.Bool.{cases_lt, cases_eq, ne_eqb}
use Rattle.vw_lattice.specs.Order.{IsJoin}
use Rattle.vw_names.specs.Division.{root, IsAscending, IsDivision, Same, division_below, IsRefinement}

-- ---- a look-up, entry by entry

pub root_here : (entry : ℕ × ℕ) (rest : List (ℕ × ℕ)) (x : ℕ) → entry.0 ≡ x → root (entry ∷ rest) x ≡ entry.1
root_here entry rest x same = let is : nat_eq entry.0 x ≡ true = eq-eqb entry.0 x same in rw is

pub root_there : (entry : ℕ × ℕ) (rest : List (ℕ × ℕ)) (x : ℕ) → entry.0 ≢ x → root (entry ∷ rest) x ≡ root rest x
root_there entry rest x apart = let is : nat_eq entry.0 x ≡ false = ne_eqb entry.0 x apart in rw is

pub ascending_tail : (entry : ℕ × ℕ) (rest : List (ℕ × ℕ)) → IsAscending (entry ∷ rest) → IsAscending rest
ascending_tail entry rest ascends = λ i j d before within. ascends (suc i) (suc j) d (omega arith) (omega arith)

pub head_below : (entry : ℕ × ℕ) (rest : List (ℕ × ℕ)) → IsAscending (entry ∷ rest) → All (λ later. entry.0 < later.0) rest
head_below entry rest ascends = λ k d within. ascends 0 (suc k) d (omega arith) (omega arith)

pub all_tail : (P : ℕ × ℕ → Type 0) (entry : ℕ × ℕ) (rest : List (ℕ × ℕ)) → All P (entry ∷ rest) → All P rest
all_tail P entry rest each = λ k d within. each (suc k) d (omega arith)

-- each entry's place is above its root
abbrev pub Falls : List (ℕ × ℕ) → Type 0
Falls entries = All (λ entry. entry.1 < entry.0) entries

falls_tail : (entry : ℕ × ℕ) (rest : List (ℕ × ℕ)) → Falls (entry ∷ rest) → Falls rest
falls_tail entry rest falls = all_tail (λ e. e.1 < e.0) entry rest falls

falls_head : (entry : ℕ × ℕ) (rest : List (ℕ × ℕ)) → Falls (entry ∷ rest) → entry.1 < entry.0
falls_head entry rest falls = falls 0 entry (omega arith)

-- a place that no entry has is its own root
pub root_absent : (entries : List (ℕ × ℕ)) (x : ℕ) → All (λ e. e.0 ≢ x) entries → root entries x ≡ x
root_absent [] x apart = refl
root_absent (entry ∷ rest) x apart = root_there entry rest x (apart 0 entry (omega arith)) ∙ root_absent rest x (all_tail (λ e. e.0 ≢ x) entry rest apart)

pub root_at_most : (entries : List (ℕ × ℕ)) (x : ℕ) → Falls entries → root entries x ≤ x
root_at_most [] x falls = omega arith
root_at_most (entry ∷ rest) x falls = elim (cases_eq entry.0 x) [
  | inl same ↦
      let is = root_here entry rest x same in
      let less = falls_head entry rest falls in
      omega arith
  | inr apart ↦
      let is = root_there entry rest x apart in
      let less = root_at_most rest x (falls_tail entry rest falls) in
      omega arith
]

-- up to the first place nothing behind it has a root
pub tail_absent : (entry : ℕ × ℕ) (rest : List (ℕ × ℕ)) (x : ℕ) → IsAscending (entry ∷ rest) → x ≤ entry.0 → root rest x ≡ x
tail_absent entry rest x ascends low = root_absent rest x (λ k d within. let above = head_below entry rest ascends k d within in λ same. omega arith)

-- a place behind the first that has a root is above the first
pub key_above : (entry : ℕ × ℕ) (rest : List (ℕ × ℕ)) (x : ℕ) → IsAscending (entry ∷ rest) → root rest x < x → entry.0 < x
key_above entry rest x ascends falls = elim (cases_lt entry.0 x) [
  | inl above ↦ above
  | inr low ↦ let is = tail_absent entry rest x ascends low in absurd (omega arith)
]

root_first : (entry : ℕ × ℕ) (rest : List (ℕ × ℕ)) → Falls (entry ∷ rest) → root (entry ∷ rest) entry.0 < entry.0
root_first entry rest falls =
    let is = root_here entry rest entry.0 refl in
    let less = falls_head entry rest falls in
    omega arith

-- ---- the number of entries

-- the places with a root in `high` have one in `low`
abbrev pub Covers : List (ℕ × ℕ) → List (ℕ × ℕ) → Type 0
Covers low high = (x : ℕ) → root high x < x → root low x < x

covers_never : (l : ℕ × ℕ) (ls : List (ℕ × ℕ)) (h : ℕ × ℕ) (hs : List (ℕ × ℕ)) → IsAscending (l ∷ ls) → Falls (h ∷ hs) → h.0 < l.0 → Covers (l ∷ ls) (h ∷ hs) → ⊥
covers_never l ls h hs ascends falls less covers =
    let under = covers h.0 (root_first h hs falls) in
    let there = root_there l ls h.0 (λ same. omega arith) in
    let none = tail_absent l ls h.0 ascends (omega arith) in
    omega arith

covers_later : (l : ℕ × ℕ) (ls : List (ℕ × ℕ)) (h : ℕ × ℕ) (hs : List (ℕ × ℕ)) → IsAscending (h ∷ hs) → l.0 < h.0 → Covers (l ∷ ls) (h ∷ hs) → Covers ls (h ∷ hs)
covers_later l ls h hs ascends less covers = λ x key.
    let above : l.0 < x = elim (cases_eq h.0 x) [
      | inl same ↦ omega arith
      | inr apart ↦
          let there = root_there h hs x apart in
          let behind = key_above h hs x ascends (omega arith) in
          omega arith
    ] in
    let under = covers x key in
    let there = root_there l ls x (λ same. omega arith) in
    omega arith

covers_rest : (l : ℕ × ℕ) (ls : List (ℕ × ℕ)) (h : ℕ × ℕ) (hs : List (ℕ × ℕ)) → IsAscending (h ∷ hs) → l.0 ≡ h.0 → Covers (l ∷ ls) (h ∷ hs) → Covers ls hs
covers_rest l ls h hs ascends same covers = λ x key.
    let above = key_above h hs x ascends key in
    let there_h = root_there h hs x (λ is. omega arith) in
    let there_l = root_there l ls x (λ is. omega arith) in
    let under = covers x (omega arith) in
    omega arith

pub covers_length : (low high : List (ℕ × ℕ)) → IsAscending low → IsAscending high → Falls low → Falls high → Covers low high → (length high ≤ length low) × (length low ≡ length high → Covers high low)
covers_length [] [] al ah fl fh covers = (omega arith, λ same x key. key)
covers_length [] (h ∷ hs) al ah fl fh covers = absurd (let under = covers h.0 (root_first h hs fh) in omega arith)
covers_length (l ∷ ls) [] al ah fl fh covers = (omega arith, λ same. absurd (omega arith))
covers_length (l ∷ ls) (h ∷ hs) al ah fl fh covers = elim (cases_lt l.0 h.0) [
  | inl less ↦
      let rest = covers_length ls (h ∷ hs) (ascending_tail l ls al) ah (falls_tail l ls fl) fh (covers_later l ls h hs ah less covers) in
      (omega (arith, rest.0), λ same. absurd (omega (arith, rest.0)))
  | inr not_less ↦ elim (cases_lt h.0 l.0) [
    | inl less ↦ absurd (covers_never l ls h hs al fh less covers)
    | inr not_more ↦
        let same : l.0 ≡ h.0 = omega arith in
        let rest = covers_length ls hs (ascending_tail l ls al) (ascending_tail h hs ah) (falls_tail l ls fl) (falls_tail h hs fh) (covers_rest l ls h hs ah same covers) in (
          omega (arith, rest.0),
          λ lengths x key. elim (cases_eq h.0 x) [
            | inl is ↦
                let here = root_here h hs x is in
                let less = falls_head h hs fh in
                omega arith
            | inr apart ↦
                let there_h = root_there h hs x apart in
                let there_l = root_there l ls x (λ is. apart (sym same ∙ is)) in
                let tails : length ls ≡ length hs = omega arith in
                let down = rest.1 tails x (omega arith) in
                omega arith
          ],
        )
  ]
]

-- ---- a list is determined by its roots

roots_apart : (l : ℕ × ℕ) (ls : List (ℕ × ℕ)) (h : ℕ × ℕ) (hs : List (ℕ × ℕ)) → IsAscending (h ∷ hs) → Falls (l ∷ ls) → l.0 < h.0 → ((x : ℕ) → root (l ∷ ls) x ≡ root (h ∷ hs) x) → ⊥
roots_apart l ls h hs ascends falls less same =
    let key = root_first l ls falls in
    let there = root_there h hs l.0 (λ is. omega arith) in
    let none = tail_absent h hs l.0 ascends (omega arith) in
    let is = same l.0 in
    omega arith

pub entry_same : (l h : ℕ × ℕ) → l.0 ≡ h.0 → l.1 ≡ h.1 → l ≡ h
entry_same l h key value =
    let with_key : ℕ → ℕ × ℕ = λ k. (k, l.1) in
    let with_value : ℕ → ℕ × ℕ = λ v. (h.0, v) in
    ap with_key key ∙ ap with_value value

pub same_roots : (low high : List (ℕ × ℕ)) → IsAscending low → IsAscending high → Falls low → Falls high → ((x : ℕ) → root low x ≡ root high x) → low ≡ high
same_roots [] [] al ah fl fh same = refl
same_roots [] (h ∷ hs) al ah fl fh same = absurd (let key = root_first h hs fh in let is = same h.0 in omega arith)
same_roots (l ∷ ls) [] al ah fl fh same = absurd (let key = root_first l ls fl in let is = same l.0 in omega arith)
same_roots (l ∷ ls) (h ∷ hs) al ah fl fh same = elim (cases_lt l.0 h.0) [
  | inl less ↦ absurd (roots_apart l ls h hs ah fl less same)
  | inr not_less ↦ elim (cases_lt h.0 l.0) [
    | inl less ↦ absurd (roots_apart h hs l ls al fh less (λ x. sym (same x)))
    | inr not_more ↦
        let keys : l.0 ≡ h.0 = omega arith in
        let values : l.1 ≡ h.1 = sym (root_here l ls h.0 keys) ∙ same h.0 ∙ root_here h hs h.0 refl in
        let heads : l ≡ h = entry_same l h keys values in
        let tails : ls ≡ hs = same_roots ls hs (ascending_tail l ls al) (ascending_tail h hs ah) (falls_tail l ls fl) (falls_tail h hs fh) (λ x. elim (cases_eq h.0 x) [
          | inl is ↦ tail_absent l ls x al (omega arith) ∙ sym (tail_absent h hs x ah (omega arith))
          | inr apart ↦ sym (root_there l ls x (λ is. apart (sym keys ∙ is))) ∙ same x ∙ root_there h hs x apart
        ]) in
        cc
  ]
]

-- ---- the laws

-- of divisions in order, the lower one's root of the higher one's root is its root
pub root_of_root : (low high : List (ℕ × ℕ)) → IsDivision high → division_below low high → (x : ℕ) → root low (root high x) ≡ root low x
root_of_root low high division below x = below (root high x) x (division.settled x)

pub below_from_roots : (low high : List (ℕ × ℕ)) → ((x : ℕ) → root low (root high x) ≡ root low x) → division_below low high
below_from_roots low high roots a b same = sym (roots a) ∙ ap (root low) same ∙ roots b

below_covers : (low high : List (ℕ × ℕ)) → IsDivision low → IsDivision high → division_below low high → Covers low high
below_covers low high dl dh below = λ x key.
    let is = root_of_root low high dh below x in
    let less = root_at_most low (root high x) dl.falls in
    omega arith

pub division_transitive : (x y z : List (ℕ × ℕ)) → division_below x y → division_below y z → division_below x z
division_transitive x y z first second = λ a b same. first a b (second a b same)

pub division_antisymmetric : (x y : List (ℕ × ℕ)) → IsDivision x → IsDivision y → division_below x y → division_below y x → x ≡ y
division_antisymmetric x y dx dy up down = same_roots x y dx.ascending dy.ascending dx.falls dy.falls (λ p.
    let first = root_of_root x y dy up p in
    let second = root_of_root y x dx down p in
    let below_y = root_at_most x (root y p) dx.falls in
    let below_x = root_at_most y (root x p) dy.falls in
    omega arith)

pub division_rank : (low high : List (ℕ × ℕ)) → IsDivision low → IsDivision high → division_below low high → length high ≤ length low
division_rank low high dl dh below = (covers_length low high dl.ascending dh.ascending dl.falls dh.falls (below_covers low high dl dh below)).0

pub division_strict : (low high : List (ℕ × ℕ)) → IsDivision low → IsDivision high → division_below low high → length low ≡ length high → low ≡ high
division_strict low high dl dh below lengths =
    let back : Covers high low = (covers_length low high dl.ascending dh.ascending dl.falls dh.falls (below_covers low high dl dh below)).1 lengths in
    same_roots low high dl.ascending dh.ascending dl.falls dh.falls (λ x.
    let is = root_of_root low high dh below x in
    let fixed = dh.settled x in
    let stays : root low (root high x) ≡ root high x = elim (cases_lt (root low (root high x)) (root high x)) [
      | inl key ↦ let up = back (root high x) key in absurd (omega arith)
      | inr no_key ↦ let less = root_at_most low (root high x) dl.falls in omega arith
    ] in
    sym is ∙ stays)

-- the common refinement is the least upper bound
pub refinement_is_join : (left right common : List (ℕ × ℕ)) → IsDivision common → IsRefinement left right common → IsJoin division_below IsDivision left right common
refinement_is_join left right common division refines = record {
  valid = division;
  above_left = λ a b same. ((refines a b).0 same).0;
  above_right = λ a b same. ((refines a b).0 same).1;
  least = λ bound valid over_left over_right. λ a b same. (refines a b).1 (over_left a b same, over_right a b same);
}
