-- A loop over the registers reads what the item of fields reads.
use Rattle.std.proofs.Common.{◌≡◌, ℕ, suc, ◌+◌, ◌<◌, List, [], ◌∷◌, ◌++◌, length, set, take, drop, map, Option, Some, None, refl, sym, ap, ◌∙◌, arith}
use Rattle.std.proofs.lemmas.List.{append-nil, take_all, take_more_set}
use Rattle.vw_report.specs.StateText.{register_mark, registers}
use Rattle.vw_values.specs.declared.value.Value.{Value}
use Rattle.vw_report.specs.Items.{Item, read_fields, read_maybe, with_first, ◌>>=◌}
use Rattle.vw_report.specs.Grammar.{or_any, value_or_any}
use Rattle.vw_report.proofs.Marks.{mark_at}
use Rattle.vw_report.proofs.ItemLoops.{with_front, regroup}

-- an item seen as another, as Any stands for none
abbrev pub seen_fields : {A B : Type 0} → (Option A → B) → Option (List (Option A) × List ℕ) → Option (List B × List ℕ)
seen_fields to None = None
seen_fields to (Some y) = Some (map to y.0, y.1)

seen_first : {A B : Type 0} (to : Option A → B) (x : Option A) (o : Option (List (Option A) × List ℕ)) → seen_fields to (with_first x o) ≡ with_first (to x) (seen_fields to o)
seen_first to x None = refl
seen_first to x (Some y) = refl

fields_front : {A B : Type 0} (to : Option A → B) (letter : ℕ) (i : Item A) (r : ℕ) (xs : List B) (b : List ℕ) (x : Option A) (t : List ℕ) → r < 16 → read_maybe (register_mark letter r) i b ≡ Some (x, t)
    → with_front (xs ++ to x ∷ []) (seen_fields to (read_fields (drop (r + 1) (map (register_mark letter) registers)) i t)) ≡ with_front xs (seen_fields to (read_fields (drop r (map (register_mark letter) registers)) i b))
fields_front to letter i r xs b x t lt e =
    let s : r + 1 ≡ suc r = omega arith in
    let later = read_fields (drop (suc r) (map (register_mark letter) registers)) i in
    ap (λ n. with_front (xs ++ to x ∷ []) (seen_fields to (read_fields (drop n (map (register_mark letter) registers)) i t))) s
    ∙ sym (ap (λ ms. with_front xs (seen_fields to (read_fields ms i b))) (mark_at letter r lt)
    ∙ ap (λ o. with_front xs (seen_fields to (o >>= λ y. with_first y.0 (read_fields (drop (suc r) (map (register_mark letter) registers)) i y.1)))) e
    ∙ ap (with_front xs) (seen_first to x (read_fields (drop (suc r) (map (register_mark letter) registers)) i t))
    ∙ regroup xs (to x) (seen_fields to (read_fields (drop (suc r) (map (register_mark letter) registers)) i t)))

pub fields_bad : {A B : Type 0} (to : Option A → B) (letter : ℕ) (i : Item A) (r : ℕ) (xs : List B) (b : List ℕ) → r < 16 → read_maybe (register_mark letter r) i b ≡ None
    → with_front xs (seen_fields to (read_fields (drop r (map (register_mark letter) registers)) i b)) ≡ None
fields_bad to letter i r xs b lt e =
    ap (λ ms. with_front xs (seen_fields to (read_fields ms i b))) (mark_at letter r lt)
    ∙ ap (λ o. with_front xs (seen_fields to (o >>= λ y. with_first y.0 (read_fields (drop (suc r) (map (register_mark letter) registers)) i y.1)))) e

pub value_some : (o : Option (Option Value × List ℕ)) (v : Value) (t : List ℕ) → value_or_any o ≡ Some (v, t) → (x : Option Value) × (o ≡ Some (x, t)) × (or_any x ≡ v)
value_some None v t e = absurd cc
value_some (Some x) v t e =
    let p : (or_any x.0, x.1) ≡ (v, t) = cc in
    (x.0, ap (λ (u : List ℕ). Some (x.0, u)) (ap (λ (y : Value × List ℕ). y.1) p), ap (λ (y : Value × List ℕ). y.0) p)

pub value_none : (o : Option (Option Value × List ℕ)) → value_or_any o ≡ None → o ≡ None
value_none None e = refl
value_none (Some x) e = absurd cc

pub fields_set : {A B : Type 0} (to : Option A → B) (letter : ℕ) (i : Item A) (r : ℕ) (xs : List B) (b : List ℕ) (x : Option A) (y : B) (t : List ℕ) → r < 16 → length xs ≡ 16 → read_maybe (register_mark letter r) i b ≡ Some (x, t) → to x ≡ y
    → with_front (take (r + 1) (set xs r y)) (seen_fields to (read_fields (drop (r + 1) (map (register_mark letter) registers)) i t)) ≡ with_front (take r xs) (seen_fields to (read_fields (drop r (map (register_mark letter) registers)) i b))
fields_set to letter i r xs b x y t lt len e is =
    ap (λ ys. with_front ys (seen_fields to (read_fields (drop (r + 1) (map (register_mark letter) registers)) i t)))
    (take_more_set xs r y (omega arith) ∙ ap (λ z. take r xs ++ z ∷ []) (sym is))
    ∙ fields_front to letter i r (take r xs) b x t lt e

pub fields_end : {A B : Type 0} (to : Option A → B) (letter : ℕ) (i : Item A) (r : ℕ) (xs : List B) (b : List ℕ) → r ≡ 16 → length xs ≡ 16
    → with_front (take r xs) (seen_fields to (read_fields (drop r (map (register_mark letter) registers)) i b)) ≡ Some (xs, b)
fields_end to letter i r xs b at len =
    ap (λ ys. with_front ys (seen_fields to (read_fields (drop r (map (register_mark letter) registers)) i b))) (take_all r xs (omega arith))
    ∙ ap (λ n. with_front xs (seen_fields to (read_fields (drop n (map (register_mark letter) registers)) i b))) at
    ∙ ap (λ y. Some (y, b)) (append-nil xs)

pub front_none : {A : Type 0} (o : Option (List A × List ℕ)) → with_front [] o ≡ o
front_none None = refl
front_none (Some y) = refl

map_same : {A : Type 0} (xs : List A) → map (λ x. x) xs ≡ xs
map_same [] = refl
map_same (x ∷ xs) = ap (λ ys. x ∷ ys) (map_same xs)

pub seen_same : {A : Type 0} (o : Option (List (Option A) × List ℕ)) → o ≡ seen_fields (λ x. x) o
seen_same None = refl
seen_same (Some y) = ap (λ ys. Some (ys, y.1)) (sym (map_same y.0))

pub seen_is : {A B : Type 0} (to : Option A → B) (o : Option (List (Option A) × List ℕ)) → (o >>= λ x. Some (map to x.0, x.1)) ≡ seen_fields to o
seen_is to None = refl
seen_is to (Some y) = refl
