-- The first line up to which no report's text agrees.
use Rattle.std.proofs.Common.{◌≡◌, ℕ, zero, suc, ◌+◌, List, [], ◌∷◌, ◌++◌, Some, None, refl, sym, ap, subst, ◌∙◌, append_assoc, arith, inl, inr}
use Rattle.vw_report.specs.Lines.{ListedFunction, ListedPoint, first_line, last_line}
use Rattle.vw_report.specs.Items.{Item, after}
use Rattle.vw_report.specs.Grammar.{entry_item, point_item}
use Rattle.vw_report.specs.Listings.{AreFunctionItems, ArePointItems, GoesOn, IsListingFault, PointGoesOn, functions_text, listing_text, points_text}
use Rattle.vw_report.specs.Reports.{AreLines, IsPlain}
use Rattle.vw_report.proofs.ItemLaws.{LineLaws, after_again}
use Rattle.vw_report.proofs.FieldLaws.{point_item_laws, entry_item_laws}
use Rattle.vw_report.proofs.ListingLaws.{one_line, goes_on, only_functions}

cancel : (xs a b : List ℕ) → xs ++ a ≡ xs ++ b → a ≡ b
cancel [] a b e = e
cancel (x ∷ xs) a b e = cancel xs a b cc

pub record IsLine (l : List ℕ) : Type 0 where
  pub body : List ℕ
  pub plain : IsPlain body
  pub is : l ≡ body ++ 10 ∷ []

closed_by : (body rest : List ℕ) → (body ++ 10 ∷ []) ++ rest ≡ body ++ 10 ∷ rest
closed_by body rest = append_assoc body (10 ∷ []) rest

-- two lines at the front of one text are one
same_line : (l m a b : List ℕ) → IsLine l → IsLine m → l ++ a ≡ m ++ b → l ≡ m
same_line l m a b p q e =
    let k : p.body ++ 10 ∷ a ≡ q.body ++ 10 ∷ b = sym (closed_by p.body a) ∙ ap (λ x. x ++ a) (sym p.is) ∙ e ∙ ap (λ x. x ++ b) q.is ∙ closed_by q.body b in
    let s = one_line p.body a q.body b p.plain q.plain k in
    p.is ∙ ap (λ x. x ++ 10 ∷ []) s.heads ∙ sym q.is

pub item_line : {A : Type 0} (i : Item A) → LineLaws i → (a : A) → i.Is a → IsLine (i.text a)
item_line i l a h = let x = l.line a h in record { body = x.0; plain = x.1; is = x.2 }

pub last_is_line : IsLine last_line
last_is_line = record { body = 101 ∷ 110 ∷ 100 ∷ []; plain = (refl, (refl, (refl, tt))); is = refl }

pub first_line_is_line : IsLine first_line
first_line_is_line = record {
  body = 118 ∷ 101 ∷ 114 ∷ 105 ∷ 119 ∷ 97 ∷ 115 ∷ 109 ∷ 32 ∷ 114 ∷ 101 ∷ 112 ∷ 111 ∷ 114 ∷ 116 ∷ 32 ∷ 49 ∷ [];
  plain = (refl, (refl, (refl, (refl, (refl, (refl, (refl, (refl, (refl, (refl, (refl, (refl, (refl, (refl, (refl, (refl, (refl, tt)))))))))))))))));
  is = refl;
}

-- ---- many lines
pub lines_one : (l rest : List ℕ) (n : ℕ) → IsLine l → AreLines n rest → AreLines (suc n) (l ++ rest)
lines_one l rest n p h = (p.body, rest, p.plain, h, ap (λ x. x ++ rest) p.is ∙ closed_by p.body rest)

pub record Lined (front : List ℕ) : Type 0 where
  pub count : ℕ
  pub lines : AreLines count front

pub points_lined : (low : ℕ) (ps : List ListedPoint) (rest : List ℕ) → ArePointItems low ps → Lined rest → Lined (points_text ps ++ rest)
points_lined low [] rest a l = l
points_lined low (p ∷ ps) rest a l =
    let t = points_lined (suc p.at) ps rest a.2 l in
    record { count = suc t.count; lines = rw append_assoc (lines_one (point_item.text p) (points_text ps ++ rest) t.count (item_line point_item point_item_laws p a.1.0) t.lines) }

pub functions_lined : (low : ℕ) (fs : List ListedFunction) (rest : List ℕ) → AreFunctionItems low fs → Lined rest → Lined (functions_text fs ++ rest)
functions_lined low [] rest a l = l
functions_lined low (f ∷ fs) rest a l =
    let t = functions_lined (suc f.entry) fs rest a.3 l in
    let s = points_lined 0 f.points (functions_text fs ++ rest) a.2 t in
    record {
      count = suc s.count;
      lines = rw (append_assoc (entry_item.text f.entry) (points_text f.points ++ functions_text fs) rest, append_assoc (points_text f.points) (functions_text fs) rest)
          (lines_one (entry_item.text f.entry) (points_text f.points ++ (functions_text fs ++ rest)) s.count (item_line entry_item entry_item_laws f.entry a.1) s.lines);
    }

-- one line more
pub record OneMore (head front r s : List ℕ) : Type 0 where
  pub line : List ℕ
  pub is_line : IsLine line
  pub front_is : front ≡ head ++ line
  pub rest_is : r ≡ line ++ s

lines_split : (n : ℕ) (head front r s : List ℕ) → AreLines n head → AreLines (suc n) front → head ++ r ≡ front ++ s → OneMore head front r s
lines_split zero head front r s a b e =
    let body = b.0 in
    let others-are : b.1 ≡ [] = b.3 in
    let f : front ≡ body ++ 10 ∷ [] = b.4 ∙ ap (λ x. body ++ 10 ∷ x) others-are in
    let h : r ≡ front ++ s = ap (λ x. x ++ r) (sym a) ∙ e in
    record { line = front; is_line = record { body = body; plain = b.2; is = f }; front_is = ap (λ x. x ++ front) (sym a); rest_is = h }
lines_split (suc n) head front r s a b e =
    let k : a.0 ++ 10 ∷ (a.1 ++ r) ≡ b.0 ++ 10 ∷ (b.1 ++ s) =
    sym (append_assoc a.0 (10 ∷ a.1) r) ∙ ap (λ x. x ++ r) (sym a.4) ∙ e ∙ ap (λ x. x ++ s) b.4 ∙ append_assoc b.0 (10 ∷ b.1) s in
    let o = one_line a.0 (a.1 ++ r) b.0 (b.1 ++ s) a.2 b.2 k in
    let t = lines_split n a.1 b.1 r s a.3 b.3 o.tails in
    record {
      line = t.line;
      is_line = t.is_line;
      front_is = b.4 ∙ ap (λ x. x ++ 10 ∷ b.1) (sym o.heads) ∙ ap (λ x. a.0 ++ 10 ∷ x) t.front_is ∙ sym (append_assoc a.0 (10 ∷ a.1) t.line) ∙ ap (λ x. x ++ t.line) (sym a.4);
      rest_is = t.rest_is;
    }

-- ---- what may come depends on the next line alone
point_line_on : (fs : List ListedFunction) (l x y : List ℕ) → IsLine l → PointGoesOn fs (l ++ x) → PointGoesOn fs (l ++ y)
point_line_on [] l x y p h = h
point_line_on (f ∷ []) l x y p h =
    let e = same_line l (point_item.text h.point) x h.more p (item_line point_item point_item_laws h.point h.fits.0) h.rest_is in
    record { point = h.point; more = y; low = h.low; fits = h.fits; rest_is = ap (λ z. z ++ y) e }
point_line_on (f ∷ g ∷ fs) l x y p h = point_line_on (g ∷ fs) l x y p h

line_on : (low : ℕ) (fs : List ListedFunction) (l x y : List ℕ) → IsLine l → GoesOn low fs (l ++ x) → GoesOn low fs (l ++ y)
line_on low fs l x y p h = elim h [
  | inl a ↦ inl (y, ap (λ z. z ++ y) (same_line l last_line x a.0 p last_is_line a.1))
  | inr b ↦ elim b [
    | inl f ↦ inr (inl (record {
      entry = f.entry;
      more = y;
      low_is = f.low_is;
      fits = f.fits;
      rest_is = ap (λ z. z ++ y) (same_line l (entry_item.text f.entry) x f.more p (item_line entry_item entry_item_laws f.entry f.fits) f.rest_is);
    }))
    | inr q ↦ inr (inr (point_line_on fs l x y p q))
  ]
]

-- ---- the three faults
-- none of the lines that may come stands after these
pub fault_stuck : (bytes rest : List ℕ) (fs : List ListedFunction) (n : ℕ) → AreFunctionItems 0 fs → bytes ≡ (first_line ++ functions_text fs) ++ rest → AreLines n (first_line ++ functions_text fs)
    → (GoesOn 0 fs rest → ⊥) → IsListingFault bytes (n + 1)
fault_stuck bytes rest fs n a e lines stuck = record {
  before = n;
  line_is = refl;
  agrees = record { listing = fs; front = first_line ++ functions_text fs; rest = rest; more = last_line; are = a; lines = lines; bytes_are = e; text_is = sym (append_assoc first_line (functions_text fs) last_line) };
  no_further = λ g.
      let s : n + 1 ≡ suc n = omega arith in
      let o = lines_split n (first_line ++ functions_text fs) g.front rest g.rest lines (subst (λ k. AreLines k g.front) s g.lines) (sym e ∙ g.bytes_are) in
      let t : functions_text g.listing ++ last_line ≡ functions_text fs ++ (o.line ++ g.more) = cancel first_line _ _
      (g.text_is ∙ ap (λ x. x ++ g.more) o.front_is ∙ append_assoc (first_line ++ functions_text fs) o.line g.more ∙ append_assoc first_line (functions_text fs) (o.line ++ g.more)) in
      let h = goes_on 0 fs g.listing (o.line ++ g.more) a g.are t in
      stuck (subst (λ x. GoesOn 0 fs x) (sym o.rest_is) (line_on 0 fs o.line g.more g.rest o.is_line h));
  no_report = λ t r k.
      stuck (goes_on 0 fs t rest a r (cancel first_line _ _ (sym k ∙ e ∙ append_assoc first_line (functions_text fs) rest)));
}

-- the first line is another
pub fault_first_line : (bytes : List ℕ) → after first_line bytes ≡ None → IsListingFault bytes 1
fault_first_line bytes e = record {
  before = 0;
  line_is = refl;
  agrees = record { listing = []; front = []; rest = bytes; more = listing_text []; are = tt; lines = refl; bytes_are = refl; text_is = refl };
  no_further = λ g.
      let b = g.lines in
      let f : g.front ≡ b.0 ++ 10 ∷ [] = b.4 ∙ ap (λ x. b.0 ++ 10 ∷ x) b.3 in
      let p : IsLine g.front = record { body = b.0; plain = b.2; is = f } in
      let s = same_line first_line g.front (functions_text g.listing ++ last_line) g.more first_line_is_line p g.text_is in
      let h : after first_line bytes ≡ Some g.rest = ap (after first_line) (g.bytes_are ∙ ap (λ x. x ++ g.rest) (sym s)) ∙ after_again first_line g.rest in
      absurd (let k : None ≡ Some g.rest = sym e ∙ h in cc);
  no_report = λ t r k.
      let h : after first_line bytes ≡ Some (functions_text t ++ last_line) = ap (after first_line) k ∙ after_again first_line _ in
      absurd (let k : None ≡ Some (functions_text t ++ last_line) = sym e ∙ h in cc);
}

nothing_more : (b : ℕ) (rest : List ℕ) → [] ≡ b ∷ rest → ⊥
nothing_more b rest e = cc

line_more : (l rest : List ℕ) → IsLine l → [] ≡ l ++ rest → ⊥
line_more l rest p e = absurd (let k : [] ≡ p.body ++ 10 ∷ rest = e ∙ ap (λ x. x ++ rest) p.is ∙ closed_by p.body rest in empty p.body rest k)
  where
    empty : (body rest : List ℕ) → [] ≡ body ++ 10 ∷ rest → ⊥
    empty [] rest e = nothing_more 10 rest e
    empty (b ∷ body) rest e = nothing_more b (body ++ 10 ∷ rest) e

-- something stands behind the end
pub fault_after : (bytes rest : List ℕ) (b : ℕ) (t : List ListedFunction) (n : ℕ) → AreFunctionItems 0 t → bytes ≡ listing_text t ++ (b ∷ rest) → AreLines n (listing_text t) → IsListingFault bytes (n + 1)
fault_after bytes rest b t n a e lines = record {
  before = n;
  line_is = refl;
  agrees = record { listing = t; front = listing_text t; rest = b ∷ rest; more = []; are = a; lines = lines; bytes_are = e; text_is = sym (append_none (listing_text t)) };
  no_further = λ g.
      let s : n + 1 ≡ suc n = omega arith in
      let o = lines_split n (listing_text t) g.front (b ∷ rest) g.rest lines (subst (λ k. AreLines k g.front) s g.lines) (sym e ∙ g.bytes_are) in
      let k : functions_text g.listing ++ last_line ≡ functions_text t ++ (last_line ++ (o.line ++ g.more)) = cancel first_line _ _
      (g.text_is ∙ ap (λ x. x ++ g.more) o.front_is ∙ regroup t o.line g.more) in
      let h = only_functions 0 t g.listing (o.line ++ g.more) a g.are k in
      line_more o.line g.more o.is_line h.1;
  no_report = λ u r k.
      let m : functions_text u ++ last_line ≡ functions_text t ++ (last_line ++ (b ∷ rest)) = cancel first_line _ _
      (sym k ∙ e ∙ append_assoc first_line (functions_text t ++ last_line) (b ∷ rest) ∙ ap (λ x. first_line ++ x) (append_assoc (functions_text t) last_line (b ∷ rest))) in
      let h = only_functions 0 t u (b ∷ rest) a r m in
      nothing_more b rest h.1;
}
  where
    append_none : (xs : List ℕ) → xs ++ [] ≡ xs
    append_none [] = refl
    append_none (x ∷ xs) = ap (λ ys. x ∷ ys) (append_none xs)

    regroup : (t : List ListedFunction) (l m : List ℕ) → (listing_text t ++ l) ++ m ≡ first_line ++ (functions_text t ++ (last_line ++ (l ++ m)))
    regroup t l m = append_assoc (listing_text t) l m ∙ append_assoc first_line (functions_text t ++ last_line) (l ++ m) ∙ ap (λ x. first_line ++ x) (append_assoc (functions_text t) last_line (l ++ m))
