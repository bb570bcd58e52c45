-- The rows that the search has passed.
use Rattle.std.proofs.Common.{◌≡◌, ◌⊎◌, ℕ, zero, suc, ◌+◌, ◌<◌, ◌≤◌, ◌==◌, Bool, true, false, ◌&&◌, leb, List, [], ◌∷◌, ◌++◌, length, take, get_or, filter, Option, None, Some, MatchOption, refl, sym, ap, subst, arith, inl, inr}
use Rattle.std.proofs.lemmas.Bool.{and_parts, cases_Bool, leb-true, le-leb, eqb-true, false≢true}
use Rattle.std.specs.Cmp.Derive.{both_true}
use Rattle.std.proofs.lemmas.List.{take_more, take_all}
use Rattle.vw_insn.specs.declared.instruction.Insn.{Insn}
use Rattle.vw_rows.specs.declared.patterns.Prefix.{Prefix}
use Rattle.vw_rows.specs.declared.patterns.Prefix.TheVariants.{Plain, P66, PF2, PF3}
use Rattle.vw_rows.specs.declared.patterns.Prefixes.{Prefixes}
use Rattle.vw_rows.specs.declared.patterns.Prefixes.TheVariants as pre
use Rattle.vw_rows.specs.declared.forms.Row.{Row}
use Rattle.vw_rows.specs.Rows.{row, rows}
use denote.Bor.{Bor}
use Rattle.vw_rows.specs.declared.patterns.Map.TheVariants as map
use Rattle.vw_rows.specs.declared.patterns.Form.TheVariants as form
use Rattle.vw_rows.specs.declared.forms.Kind.TheVariants as kind
use Rattle.vw_rows.specs.declared.forms.Operands.TheVariants as ops
use Rattle.vw_rows.specs.declared.forms.Sizing.TheVariants as size
use Rattle.vw_rows.specs.declared.forms.Immediate.TheVariants as imm
use Rattle.vw_rows.specs.Lookup.{IsIn, takes_prefix}
use Rattle.vw_rows.specs.Layout.{key_of}
use Rattle.vw_rows.proofs.Matching.{tests-of}
use Rattle.vw_encode.specs.declared.buffer.Spelled.{Spelled}
use Rattle.vw_encode.specs.search.Found.{FirstOf, FoundIn, is_candidate}
use Rattle.vw_encode.specs.search.Kinds.{kind_number, insn_number, rows_of_kind, are_numbers, kinds_agree}
use Rattle.vw_rows.specs.Parts.{Parts}
use Rattle.vw_encode.specs.search.Normal.{Normal, Without}

abbrev pub no_row : Option Row
no_row = None

abbrev pub some_row : Row → Option Row
some_row r = Some r

abbrev pub Passed : List Row → Insn → Type 0
Passed rs insn = (r : Row) → IsIn r rs → Without r insn (λ p. Unit {0})

in_front : (r : Row) (a b : List Row) → IsIn r (a ++ b) → IsIn r a ⊎ IsIn r b
in_front r [] b h = inr h
in_front r (x ∷ a) b (inl e) = inl (inl e)
in_front r (x ∷ a) b (inr h) = elim (in_front r a b h) [ inl l ↦ inl (inr l) | inr l ↦ inr l ]

pub one_more : (items : List Row) (i : ℕ) (d : Row) (insn : Insn) → i < length items → Passed (take i items) insn → Without (get_or items i d) insn (λ p. Unit {0}) → Passed (take (i + 1) items) insn
one_more items i d insn lt before here r h =
    let split : IsIn r (take i items ++ (get_or items i d ∷ [])) = subst (λ (l : List Row). IsIn r l) (take_more items i d lt) h in
    elim (in_front r (take i items) (get_or items i d ∷ []) split) [
      | inl old ↦ before r old
      | inr new ↦ elim new [ inl is ↦ subst (λ (x : Row). Without x insn (λ p. Unit {0})) is here | inr none ↦ absurd none ]
    ]

pub passed_all : (items : List Row) (i : ℕ) (insn : Insn) → length items ≤ i → Passed (take i items) insn → Passed items insn
passed_all items i insn le h = subst (λ (l : List Row). Passed l insn) (take_all i items le) h

stands : (items : List Row) (i : ℕ) (d : Row) → i < length items → IsIn (get_or items i d) items
stands [] i d lt = absurd (omega arith)
stands (x ∷ xs) zero d lt = inl refl
stands (x ∷ xs) (suc i) d lt = inr (stands xs i d (omega arith))

out_of_filter : (f : Row → Bool) (xs : List Row) (r : Row) → IsIn r (filter f xs) → IsIn r xs
out_of_filter f [] r h = absurd h
out_of_filter f (x ∷ xs) r h = elim (cases_Bool (f x)) [
  | inl hit ↦ elim (rw hit at h) [ inl is ↦ inl is | inr rest ↦ inr (out_of_filter f xs r rest) ]
  | inr miss ↦ inr (out_of_filter f xs r (rw miss at h))
]

into_filter : (f : Row → Bool) (xs : List Row) (r : Row) → IsIn r xs → f r ≡ true → IsIn r (filter f xs)
into_filter f [] r h e = absurd h
into_filter f (x ∷ xs) r (inl is) e = (let hit : f x ≡ true = rw is e in rw hit (inl is))
into_filter f (x ∷ xs) r (inr h) e = elim (cases_Bool (f x)) [
  | inl hit ↦ rw hit (inr (into_filter f xs r h e))
  | inr miss ↦ rw miss (into_filter f xs r h e)
]

listed_at : (f : Row → Bool) (i : ℕ) (d : Row) → i < length (filter f rows) → IsIn (get_or (filter f rows) i d) rows
listed_at f i d lt = out_of_filter f rows (get_or (filter f rows) i d) (stands (filter f rows) i d lt)

-- ---- the order of the rows

abbrev ascending : ℕ → List Row → Bool
ascending n [] = true
ascending n (x ∷ xs) = leb n x.number && ascending (x.number + 1) xs

rows_ascend : ascending 0 rows ≡ true
unfolding rows
rows_ascend = refl

from_lower : (n m : ℕ) (xs : List Row) → n ≤ m → ascending m xs ≡ true → ascending n xs ≡ true
from_lower n m [] le h = refl
from_lower n m (x ∷ xs) le h =
    let both = and_parts (leb m x.number) (ascending (x.number + 1) xs) h in
    let first = leb-true m x.number both.0 in
    both_true (le-leb n x.number (omega arith)) both.1

filter_ascends : (f : Row → Bool) (n : ℕ) (xs : List Row) → ascending n xs ≡ true → ascending n (filter f xs) ≡ true
filter_ascends f n [] h = refl
filter_ascends f n (x ∷ xs) h =
    let both = and_parts (leb n x.number) (ascending (x.number + 1) xs) h in
    let first = leb-true n x.number both.0 in
    elim (cases_Bool (f x)) [
      | inl hit ↦ rw hit (both_true both.0 (filter_ascends f (x.number + 1) xs both.1))
      | inr miss ↦ rw miss (filter_ascends f n xs (from_lower n (x.number + 1) xs (omega arith) both.1))
    ]

least : (n : ℕ) (xs : List Row) (r : Row) → ascending n xs ≡ true → IsIn r xs → n ≤ r.number
least n [] r h i = absurd i
least n (x ∷ xs) r h i =
    let both = and_parts (leb n x.number) (ascending (x.number + 1) xs) h in
    let first = leb-true n x.number both.0 in
    elim i [
      | inl is ↦ subst (λ (y : Row). n ≤ y.number) is first
      | inr rest ↦ (let more = least (x.number + 1) xs r both.1 rest in omega arith)
    ]

place_of : (items : List Row) (n i : ℕ) (d r : Row) → ascending n items ≡ true → i < length items → IsIn r items → IsIn r (take i items) ⊎ (r ≡ get_or items i d) ⊎ ((get_or items i d).number < r.number)
place_of [] n i d r h lt is = absurd is
place_of (x ∷ xs) n zero d r h lt is =
    let both = and_parts (leb n x.number) (ascending (x.number + 1) xs) h in
    elim is [
      | inl e ↦ inr (inl (sym e))
      | inr rest ↦ (let more = least (x.number + 1) xs r both.1 rest in inr (inr (omega arith)))
    ]
place_of (x ∷ xs) n (suc i) d r h lt is =
    let both = and_parts (leb n x.number) (ascending (x.number + 1) xs) h in
    elim is [
      | inl e ↦ inl (inl e)
      | inr rest ↦ elim (place_of xs (x.number + 1) i d r both.1 (omega arith) rest) [
        | inl front ↦ inl (inr front)
        | inr later ↦ inr later
      ]
    ]

abbrev Always : Parts → Type 0
Always p = Unit {0}

-- the first row of a list
found_in : (f : Row → Bool) (i : ℕ) (d : Row) (insn : Insn) (s : Spelled) → i < length (filter f rows) → Passed (take i (filter f rows)) insn → (r : Row) → IsIn r rows → f r ≡ true → (r ≡ get_or (filter f rows) i d) ⊎ ((get_or (filter f rows) i d).number < r.number) ⊎ Without r insn (λ p. Unit {0})
found_in f i d insn s lt passed r listed same =
    let there : IsIn r (filter f rows) = into_filter f rows r listed same in
    let up : ascending 0 (filter f rows) ≡ true = filter_ascends f 0 rows rows_ascend in
    elim (place_of (filter f rows) 0 i d r up lt there) [
      | inl front ↦ inr (inr (passed r front))
      | inr other ↦ elim other [ inl is ↦ inl is | inr more ↦ inr (inl more) ]
    ]

-- ---- the rows of a kind, by their numbers

abbrev any_row : Row
any_row = row 0 pre.Plain map.One 0 false None form.Any kind.Ret ops.None size.None imm.None

numbers-length : (ns : List ℕ) (rs : List Row) → are_numbers ns rs ≡ true → length ns ≡ length rs
unfolding are_numbers
numbers-length [] [] h = refl
numbers-length [] (r ∷ rs) h = absurd (false≢true h)
numbers-length (n ∷ ns) [] h = absurd (false≢true h)
numbers-length (n ∷ ns) (r ∷ rs) h = ap suc (numbers-length ns rs (and_parts (n == r.number) (are_numbers ns rs) h).1)

numbers-at : (ns : List ℕ) (rs : List Row) → are_numbers ns rs ≡ true → (i d : ℕ) (x : Row) → i < length ns → (get_or rs i x).number ≡ get_or ns i d
unfolding are_numbers
numbers-at [] rs h i d x lt = absurd (omega arith)
numbers-at (n ∷ ns) [] h i d x lt = absurd (false≢true h)
numbers-at (n ∷ ns) (r ∷ rs) h zero d x lt = sym (eqb-true n r.number (and_parts (n == r.number) (are_numbers ns rs) h).0)
numbers-at (n ∷ ns) (r ∷ rs) h (suc i) d x lt = numbers-at ns rs (and_parts (n == r.number) (are_numbers ns rs) h).1 i d x (omega arith)

abbrev of_kind : Insn → Row → Bool
of_kind insn r = kind_number r.kind == insn_number insn

kind-rows : (insn : Insn) → rows_of_kind (insn_number insn) ≡ filter (of_kind insn) rows
unfolding rows_of_kind
kind-rows insn = refl

-- what the search by the row of a number has answered
abbrev pub Answered : ℕ → Insn → Option Spelled → Type 0
Answered n insn o = (r : Row) → IsIn r rows → r.number ≡ n → MatchOption o (Without r insn (λ p. Unit {0})) (λ s. FirstOf s r insn (λ q. Unit {0}) (λ p. Unit {0}))

answer_by_place : (ns : List ℕ) (insn : Insn) (i d : ℕ) (o : Option Spelled) → are_numbers ns (rows_of_kind (insn_number insn)) ≡ true → i < length ns → Answered (get_or ns i d) insn o → MatchOption o (Without (get_or (filter (of_kind insn) rows) i any_row) insn Always) (λ s. FirstOf s (get_or (filter (of_kind insn) rows) i any_row) insn Always Always)
answer_by_place ns insn i d o e lt h =
    let agree : are_numbers ns (filter (of_kind insn) rows) ≡ true = subst (λ (l : List Row). are_numbers ns l ≡ true) (kind-rows insn) e in
    let len = numbers-length ns (filter (of_kind insn) rows) agree in
    h (get_or (filter (of_kind insn) rows) i any_row) (listed_at (of_kind insn) i any_row (omega arith)) (numbers-at ns (filter (of_kind insn) rows) agree i d any_row lt)

pub one_number_more : (ns : List ℕ) (insn : Insn) (i d : ℕ) → are_numbers ns (rows_of_kind (insn_number insn)) ≡ true → i < length ns → Passed (take i (filter (λ (r : Row). kind_number r.kind == insn_number insn) rows)) insn → Answered (get_or ns i d) insn None → Passed (take (i + 1) (filter (λ (r : Row). kind_number r.kind == insn_number insn) rows)) insn
one_number_more ns insn i d e lt before h =
    let agree : are_numbers ns (filter (of_kind insn) rows) ≡ true = subst (λ (l : List Row). are_numbers ns l ≡ true) (kind-rows insn) e in
    let len = numbers-length ns (filter (of_kind insn) rows) agree in
    one_more (filter (of_kind insn) rows) i any_row insn (omega arith) before (answer_by_place ns insn i d None e lt h)

pub kind_passed : (ns : List ℕ) (insn : Insn) (i : ℕ) → are_numbers ns (rows_of_kind (insn_number insn)) ≡ true → length ns ≤ i → Passed (take i (filter (λ (r : Row). kind_number r.kind == insn_number insn) rows)) insn → (r : Row) → IsIn r rows → is_candidate insn r ≡ true → Without r insn (λ p. Unit {0})
kind_passed ns insn i e le h r listed same =
    let agree : are_numbers ns (filter (of_kind insn) rows) ≡ true = subst (λ (l : List Row). are_numbers ns l ≡ true) (kind-rows insn) e in
    let len = numbers-length ns (filter (of_kind insn) rows) agree in
    passed_all (filter (of_kind insn) rows) i insn (omega arith) h r (into_filter (of_kind insn) rows r listed same)

pub found_of_kind : (ns : List ℕ) (insn : Insn) (i d : ℕ) (s : Spelled) → are_numbers ns (rows_of_kind (insn_number insn)) ≡ true → i < length ns → Passed (take i (filter (λ (r : Row). kind_number r.kind == insn_number insn) rows)) insn → Answered (get_or ns i d) insn (Some s) → FoundIn s insn
found_of_kind ns insn i d s e lt passed h =
    let agree : are_numbers ns (filter (of_kind insn) rows) ≡ true = subst (λ (l : List Row). are_numbers ns l ≡ true) (kind-rows insn) e in
    let len = numbers-length ns (filter (of_kind insn) rows) agree in
    record {
      row = get_or (filter (of_kind insn) rows) i any_row;
      best = answer_by_place ns insn i d (Some s) e lt h;
      later = found_in (of_kind insn) i any_row insn s (omega arith) passed;
    }

-- ---- the lists of the kinds

pub kinds-length : (n : ℕ) (ls : List (Bor (List ℕ))) → kinds_agree n ls ≡ true → n + length ls ≡ 171
unfolding kinds_agree
kinds-length n [] h = (let e : n ≡ 171 = eqb-true n 171 h in omega arith)
kinds-length n (l ∷ ls) h = (let rest = kinds-length (n + 1) ls (and_parts (are_numbers l.now (rows_of_kind n)) (kinds_agree (n + 1) ls) h).1 in omega arith)

pub kinds-at : (n : ℕ) (ls : List (Bor (List ℕ))) → kinds_agree n ls ≡ true → (k : ℕ) (d : Bor (List ℕ)) → k < length ls → are_numbers (get_or ls k d).now (rows_of_kind (n + k)) ≡ true
unfolding kinds_agree
kinds-at n [] h k d lt = absurd (omega arith)
kinds-at n (l ∷ ls) h zero d lt = (let same : n + 0 ≡ n = omega arith in subst (λ (j : ℕ). are_numbers l.now (rows_of_kind j) ≡ true) (sym same) (and_parts (are_numbers l.now (rows_of_kind n)) (kinds_agree (n + 1) ls) h).0)
kinds-at n (l ∷ ls) h (suc k) d lt =
    let same : n + 1 + k ≡ n + suc k = omega arith in
    subst (λ (j : ℕ). are_numbers (get_or ls k d).now (rows_of_kind j) ≡ true) same (kinds-at (n + 1) ls (and_parts (are_numbers l.now (rows_of_kind n)) (kinds_agree (n + 1) ls) h).1 k d (omega arith))

pub kind-at : (ls : List (Bor (List ℕ))) → kinds_agree 0 ls ≡ true → (k : ℕ) (d : Bor (List ℕ)) → k < length ls → are_numbers (get_or ls k d).now (rows_of_kind k) ≡ true
kind-at ls h k d lt = (let same : 0 + k ≡ k = omega arith in subst (λ (j : ℕ). are_numbers (get_or ls k d).now (rows_of_kind j) ≡ true) same (kinds-at 0 ls h k d lt))

pub kind-of : (ls : List (Bor (List ℕ))) (k n : ℕ) (d : Bor (List ℕ)) → kinds_agree 0 ls ≡ true → k ≡ n → k < length ls → are_numbers (get_or ls k d).now (rows_of_kind n) ≡ true
kind-of ls k n d h e lt = subst (λ (j : ℕ). are_numbers (get_or ls k d).now (rows_of_kind j) ≡ true) e (kind-at ls h k d lt)

-- the answer by a row of the number
pub answered_none : (n : ℕ) (insn : Insn) → ((r : Row) → IsIn r rows → r.number ≡ n → no_row ≡ Some r) → Answered n insn None
answered_none n insn only r listed is = (let e = only r listed is in cc)

pub answered_by : (n : ℕ) (insn : Insn) (x : Row) (o : Option Spelled) → ((r : Row) → IsIn r rows → r.number ≡ n → some_row x ≡ Some r) → MatchOption o (Without x insn (λ p. Unit {0})) (λ s. FirstOf s x insn (λ q. Unit {0}) (λ p. Unit {0})) → Answered n insn o
answered_by n insn x o only h r listed is = (let e : x ≡ r = row_is x r (only r listed is) in subst (λ (y : Row). MatchOption o (Without y insn (λ p. Unit {0})) (λ s. FirstOf s y insn (λ q. Unit {0}) (λ p. Unit {0}))) e h)
  where
    row_is : (a b : Row) → some_row a ≡ some_row b → a ≡ b
    row_is a b e = cc

-- ---- prefixes

pub plain_only : (q : Prefix) → takes_prefix pre.Plain q ≡ true → q ≡ Plain
plain_only Plain h = refl
plain_only _ h = absurd (false≢true h)

pub p66_only : (q : Prefix) → takes_prefix pre.P66 q ≡ true → q ≡ P66
p66_only P66 h = refl
p66_only _ h = absurd (false≢true h)

pub pf2_only : (q : Prefix) → takes_prefix pre.PF2 q ≡ true → q ≡ PF2
pf2_only PF2 h = refl
pf2_only _ h = absurd (false≢true h)

pub pf3_only : (q : Prefix) → takes_prefix pre.PF3 q ≡ true → q ≡ PF3
pf3_only PF3 h = refl
pf3_only _ h = absurd (false≢true h)

plain_or_66 : (q : Prefix) → takes_prefix pre.PlainOr66 q ≡ true → (q ≡ Plain) ⊎ (q ≡ P66)
plain_or_66 Plain h = inl refl
plain_or_66 P66 h = inr refl
plain_or_66 _ h = absurd (false≢true h)

-- the prefix of a spelling is one that its row takes
its_prefix : (row : Row) (insn : Insn) (ps : Prefixes) → row.pattern.prefixes ≡ ps → (p : Parts) → Normal p row insn → takes_prefix ps p.prefix ≡ true
its_prefix row insn ps e p n =
    let t = tests-of row (key_of p) n.laid.found in
    subst (λ (x : Prefixes). takes_prefix x p.prefix ≡ true) e t.prefix

pub only_prefix : (row : Row) (insn : Insn) (ps : Prefixes) (prefix : Prefix) → row.pattern.prefixes ≡ ps → ((q : Prefix) → takes_prefix ps q ≡ true → q ≡ prefix) → (p : Parts) → Normal p row insn → p.prefix ≡ prefix
only_prefix row insn ps prefix e only p n = only p.prefix (its_prefix row insn ps e p n)

pub none_or_66 : (row : Row) (insn : Insn) → row.pattern.prefixes ≡ pre.PlainOr66 → (p : Parts) → Normal p row insn → (p.prefix ≡ Plain) ⊎ (p.prefix ≡ P66)
none_or_66 row insn e p n = plain_or_66 p.prefix (its_prefix row insn pre.PlainOr66 e p n)

pub one_prefix : (row : Row) (insn : Insn) (ps : Prefixes) (prefix : Prefix) → row.pattern.prefixes ≡ ps → ((q : Prefix) → takes_prefix ps q ≡ true → q ≡ prefix) → Without row insn (λ p. p.prefix ≡ prefix) → Without row insn (λ p. Unit {0})
one_prefix row insn ps prefix e only h p n u = h p n (only_prefix row insn ps prefix e only p n)

pub two_prefixes : (row : Row) (insn : Insn) → row.pattern.prefixes ≡ pre.PlainOr66 → Without row insn (λ p. p.prefix ≡ Plain) → Without row insn (λ p. p.prefix ≡ P66) → Without row insn (λ p. Unit {0})
two_prefixes row insn e plain other p n u =
    elim (none_or_66 row insn e p n) [ inl is ↦ plain p n is | inr is ↦ other p n is ]

pub both_mapped : {A B : Type 0} (P Q : Spelled → Type 0) (r : Option Spelled) → (A → B) → ((s : Spelled) → P s → Q s) → MatchOption r A P → MatchOption r B Q
both_mapped P Q (Some s) f g h = g s h
both_mapped P Q None f g h = f h
