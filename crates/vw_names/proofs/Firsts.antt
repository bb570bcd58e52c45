-- The map from a pair of roots to the first place that has them.
use Rattle.std.proofs.Common.{◌≡◌, ◌≢◌, ℕ, ◌+◌, ◌<◌, ◌≤◌, List, [], ◌∷◌, ◌++◌, length, get_or, take, sym, ap, subst, ◌∙◌, arith, Option, Some, None, max, false, Ordering}
use Rattle.std.specs.Ordering.{nat_cmp, ordering_then}
use Rattle.std.specs.BTreeMap.{BTreeMap, is_at}
use Rattle.std.specs.BTreeMap as tree
use Rattle.std.specs.Map.{lookup}
use Rattle.std.proofs.lemmas.Bool.{false_from_ne_true}
use Rattle.std.proofs.lemmas.Map.Lookups.{exact_unsigned, exact_pairs}
use Rattle.std.proofs.lemmas.Map.Views.{tells_apart}
use Rattle.vw_names.specs.Division.{root, IsDivision, IsRefinement}
use Rattle.vw_names.proofs.Refines.{Progress, go_apart, go_max, go_found, go_first}

abbrev pub order : ℕ × ℕ → ℕ × ℕ → Ordering
order a b = ordering_then (nat_cmp a.0 b.0) (nat_cmp a.1 b.1)

abbrev pub first_of_pair : BTreeMap (ℕ × ℕ) ℕ → ℕ × ℕ → Option ℕ
first_of_pair firsts k = tree.get order firsts k

pub other_pair : (k q : ℕ × ℕ) → q ≢ k → is_at (order k) q ≡ false
other_pair k q apart = false_from_ne_true (is_at (order k) q) (λ t. apart (sym (tells_apart {R = order} (exact_pairs nat_cmp nat_cmp exact_unsigned exact_unsigned) k q t)))

pub empty_none : (firsts : BTreeMap (ℕ × ℕ) ℕ) → firsts.entries ≡ [] → (k : ℕ × ℕ) → first_of_pair firsts k ≡ None
empty_none firsts empty k = ap (lookup (is_at (order k))) empty

-- ---- the four ways on, in the words of the code

module _ (left right common : List (ℕ × ℕ)) (firsts : BTreeMap (ℕ × ℕ) ℕ) (i in_right : ℕ) where
  abbrev pub Here : ℕ × ℕ
  Here = get_or left i (0, 0)

  pub record At : Type 0 where
    pub left_is : IsDivision left
    pub right_is : IsDivision right
    pub within : i < length left
    pub progress : Progress (take i left) right common (first_of_pair firsts)
    pub read : in_right ≡ root right Here.0

  pub do_apart : At → (common' : List (ℕ × ℕ)) (firsts' : BTreeMap (ℕ × ℕ) ℕ) → Here.0 ≤ in_right → common' ≡ common → firsts' ≡ firsts → Progress (take (i + 1) left) right common' (first_of_pair firsts')
  do_apart t common' firsts' not_less common_is firsts_is =
      let read = t.read in
      let done = go_apart left right common (first_of_pair firsts) i (0, 0) t.left_is t.right_is t.within t.progress (omega arith) in
      let P : List (ℕ × ℕ) → Type 0 = λ x. Progress (take (i + 1) left) right x (first_of_pair firsts) in
      let Q : BTreeMap (ℕ × ℕ) ℕ → Type 0 = λ x. Progress (take (i + 1) left) right common' (first_of_pair x) in
      subst Q (sym firsts_is) (subst P (sym common_is) done)

  pub do_max : At → (common' : List (ℕ × ℕ)) (firsts' : BTreeMap (ℕ × ℕ) ℕ) (m : ℕ) → in_right < Here.0 → m ≡ max Here.1 in_right → root left m ≡ Here.1 → root right m ≡ in_right → common' ≡ common ++ (Here.0, m) ∷ [] → firsts' ≡ firsts → Progress (take (i + 1) left) right common' (first_of_pair firsts')
  do_max t common' firsts' m less m_is at_left at_right common_is firsts_is =
      let read = t.read in
      let M : ℕ = max Here.1 (root right Here.0) in
      let is : m ≡ M = m_is ∙ ap (max Here.1) read in
      let done = go_max left right common (first_of_pair firsts) i (0, 0) t.left_is t.right_is t.within t.progress (omega arith)
      (ap (root left) (sym is) ∙ at_left) (ap (root right) (sym is) ∙ at_right ∙ read) in
      let O : ℕ → Type 0 = λ x. Progress (take (i + 1) left) right (common ++ (Here.0, x) ∷ []) (first_of_pair firsts) in
      let P : List (ℕ × ℕ) → Type 0 = λ x. Progress (take (i + 1) left) right x (first_of_pair firsts) in
      let Q : BTreeMap (ℕ × ℕ) ℕ → Type 0 = λ x. Progress (take (i + 1) left) right common' (first_of_pair x) in
      subst Q (sym firsts_is) (subst P (sym common_is) (subst O (sym is) done))

  pub do_found : At → (common' : List (ℕ × ℕ)) (firsts' : BTreeMap (ℕ × ℕ) ℕ) (f : ℕ) → first_of_pair firsts (Here.1, in_right) ≡ Some f → common' ≡ common ++ (Here.0, f) ∷ [] → firsts' ≡ firsts → Progress (take (i + 1) left) right common' (first_of_pair firsts')
  do_found t common' firsts' f found common_is firsts_is =
      let F : ℕ → Option ℕ = λ x. first_of_pair firsts (Here.1, x) in
      let done = go_found left right common (first_of_pair firsts) i (0, 0) f t.left_is t.right_is t.within t.progress (ap F (sym t.read) ∙ found) in
      let P : List (ℕ × ℕ) → Type 0 = λ x. Progress (take (i + 1) left) right x (first_of_pair firsts) in
      let Q : BTreeMap (ℕ × ℕ) ℕ → Type 0 = λ x. Progress (take (i + 1) left) right common' (first_of_pair x) in
      subst Q (sym firsts_is) (subst P (sym common_is) done)

  pub do_first : At → (common' : List (ℕ × ℕ)) (firsts' inserted : BTreeMap (ℕ × ℕ) ℕ) (m : ℕ) → in_right < Here.0 → first_of_pair firsts (Here.1, in_right) ≡ None → m ≡ max Here.1 in_right → (root left m ≡ Here.1 → root right m ≡ in_right → ⊥)
      → first_of_pair inserted (Here.1, in_right) ≡ Some Here.0 → ((q : ℕ × ℕ) → is_at (order (Here.1, in_right)) q ≡ false → first_of_pair inserted q ≡ first_of_pair firsts q)
      → common' ≡ common → firsts' ≡ inserted → Progress (take (i + 1) left) right common' (first_of_pair firsts')
  do_first t common' firsts' inserted m less missing m_is no_member here others common_is firsts_is =
      let read = t.read in
      let M : ℕ = max Here.1 (root right Here.0) in
      let is : m ≡ M = m_is ∙ ap (max Here.1) read in
      let F : ℕ → Option ℕ = λ x. first_of_pair firsts (Here.1, x) in
      let G : ℕ → Option ℕ = λ x. first_of_pair inserted (Here.1, x) in
      let K : ℕ → ℕ × ℕ = λ x. (Here.1, x) in
      let done = go_first left right common (first_of_pair firsts) (first_of_pair inserted) i (0, 0) t.left_is t.right_is t.within t.progress (omega arith)
      (ap F (sym read) ∙ missing)
      (λ at_left at_right. no_member (ap (root left) is ∙ at_left) (ap (root right) is ∙ at_right ∙ sym read))
      (ap G (sym read) ∙ here)
      (λ k apart. others k (other_pair (Here.1, in_right) k (λ same. apart (same ∙ ap K read)))) in
      let P : List (ℕ × ℕ) → Type 0 = λ x. Progress (take (i + 1) left) right x (first_of_pair inserted) in
      let Q : BTreeMap (ℕ × ℕ) ℕ → Type 0 = λ x. Progress (take (i + 1) left) right common' (first_of_pair x) in
      subst Q (sym firsts_is) (subst P (sym common_is) done)
