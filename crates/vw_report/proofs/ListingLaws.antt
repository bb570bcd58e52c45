-- A report's text, line by line.
use Rattle.std.proofs.Common.{◌≡◌, ℕ, suc, ◌≤◌, false, List, [], ◌∷◌, ◌++◌, refl, sym, ap, subst, ◌∙◌, append_assoc, arith, inl, inr, ◌⊎◌}
use Rattle.std.proofs.lemmas.Bool.Decides.{nat_tests}
use Rattle.std.specs.Prelude.{nat_eq}
use Rattle.vw_report.specs.Lines.{ListedFunction, ListedPoint, last_line}
use Rattle.vw_report.specs.Items.{Item}
use Rattle.vw_report.specs.Grammar.{entry, entry_item, point, point_item}
use Rattle.vw_report.specs.Listings.{AreFunctionItems, ArePointItems, GoesOn, IsPoint, NextFunction, functions_text, listing_text, points_low, points_text}
use Rattle.vw_report.specs.Reports.{IsPlain}
use Rattle.vw_report.proofs.ItemLaws.{LineLaws, some_is}
use Rattle.vw_report.proofs.FieldLaws.{point_item_laws, entry_item_laws}

-- ---- lines are told apart
first_of : List ℕ → ℕ
first_of [] = 0
first_of (b ∷ bs) = b

pub apart_test : (a b : ℕ) → nat_eq a b ≡ false → a ≡ b → ⊥
apart_test a b t e = grind (arith, nat_tests)

pub begins : (a b : ℕ) (x y : List ℕ) → a ∷ x ≡ b ∷ y → a ≡ b
unfolding first_of
begins a b x y e = ap first_of e

pub record Same (x a y b : List ℕ) : Type 0 where
  pub heads : x ≡ y
  pub tails : a ≡ b

pub one_line : (x a y b : List ℕ) → IsPlain x → IsPlain y → x ++ 10 ∷ a ≡ y ++ 10 ∷ b → Same x a y b
one_line [] a [] b p q e = record { heads = refl; tails = cc }
one_line [] a (c ∷ y) b p q e = let h : 10 ≡ c = cc in absurd (apart_test c 10 q.0 (sym h))
one_line (c ∷ x) a [] b p q e = let h : c ≡ 10 = cc in absurd (apart_test c 10 p.0 h)
one_line (c ∷ x) a (d ∷ y) b p q e =
    let h : c ≡ d = cc in
    let t : x ++ 10 ∷ a ≡ y ++ 10 ∷ b = cc in
    let r = one_line x a y b p.1 q.1 t in
    record { heads = let i = r.heads in cc; tails = r.tails }

-- items that are lines are read in one way
record Met {A : Type 0} (a b : A) (x y : List ℕ) : Type 0 where
  items : a ≡ b
  rests : x ≡ y

met : {A : Type 0} (i : Item A) → LineLaws i → (a b : A) (x y : List ℕ) → i.Is a → i.Is b → i.text a ++ x ≡ i.text b ++ y → Met a b x y
met {A} i l a b x y p q e =
    let r = sym (l.again a x p) ∙ ap i.read e ∙ l.again b y q in
    let both : (a, x) ≡ (b, y) = some_is _ _ r in
    record { items = ap (λ (z : A × List ℕ). z.0) both; rests = ap (λ (z : A × List ℕ). z.1) both }

-- ---- how lines begin
pub point_begins : (p : ListedPoint) → (tail : List ℕ) × (point_item.text p ≡ 97 ∷ tail)
unfolding point_item point
point_begins p = (_, refl)

pub function_begins : (e : ℕ) → (tail : List ℕ) × (entry_item.text e ≡ 102 ∷ tail)
unfolding entry_item entry
function_begins e = (_, refl)

-- no point's line comes
abbrev NoPoint : List ℕ → Type 0
NoPoint rest = (p : ListedPoint) (more : List ℕ) → rest ≡ point_item.text p ++ more → ⊥

last_no_point : (more : List ℕ) → NoPoint (last_line ++ more)
last_no_point more p rest e = let b = point_begins p in let h : 101 ∷ (110 ∷ 100 ∷ 10 ∷ more) ≡ 97 ∷ (b.0 ++ rest) = e ∙ ap (λ x. x ++ rest) b.1 in apart_test 101 97 refl (begins 101 97 _ _ h)

function_no_point : (e : ℕ) (more : List ℕ) → NoPoint (entry_item.text e ++ more)
function_no_point e more p rest h =
    let b = point_begins p in let f = function_begins e in
    let k : 102 ∷ (f.0 ++ more) ≡ 97 ∷ (b.0 ++ rest) = sym (ap (λ x. x ++ more) f.1) ∙ h ∙ ap (λ x. x ++ rest) b.1 in apart_test 102 97 refl (begins 102 97 _ _ k)

pub last_no_function : (e : ℕ) (more rest : List ℕ) → last_line ++ rest ≡ entry_item.text e ++ more → ⊥
last_no_function e more rest h = let f = function_begins e in let k : 101 ∷ (110 ∷ 100 ∷ 10 ∷ rest) ≡ 102 ∷ (f.0 ++ more) = h ∙ ap (λ x. x ++ more) f.1 in apart_test 101 102 refl (begins 101 102 _ _ k)

functions_no_point : (fs : List ListedFunction) (more : List ℕ) → NoPoint (functions_text fs ++ (last_line ++ more))
functions_no_point [] more = last_no_point more
functions_no_point (f ∷ fs) more = λ p rest e. function_no_point f.entry ((points_text f.points ++ functions_text fs) ++ (last_line ++ more)) p rest (sym (append_assoc (entry_item.text f.entry) (points_text f.points ++ functions_text fs) (last_line ++ more)) ∙ e)

-- ---- points
-- the points of a report that begins as these points do: these, and then either a further one, or what follows them
points_go : (low : ℕ) (qs ps : List ListedPoint) (tail rest : List ℕ) → ArePointItems low qs → ArePointItems low ps → NoPoint tail → points_text ps ++ tail ≡ points_text qs ++ rest
    → ((p : ListedPoint) × (more : List ℕ) × (points_low low qs ≤ p.at) × IsPoint p × (rest ≡ point_item.text p ++ more)) ⊎ ((ps ≡ qs) × (tail ≡ rest))
points_go low [] [] tail rest a b free e = inr (refl, e)
points_go low [] (p ∷ ps) tail rest a b free e = inl (p, points_text ps ++ tail, b.0, b.1, sym e ∙ append_assoc (point_item.text p) (points_text ps) tail)
points_go low (q ∷ qs) [] tail rest a b free e = absurd (free q (points_text qs ++ rest) (e ∙ append_assoc (point_item.text q) (points_text qs) rest))
points_go low (q ∷ qs) (p ∷ ps) tail rest a b free e =
    let m = met point_item point_item_laws p q (points_text ps ++ tail) (points_text qs ++ rest) b.1.0 a.1.0
    (sym (append_assoc (point_item.text p) (points_text ps) tail) ∙ e ∙ append_assoc (point_item.text q) (points_text qs) rest) in
    let same : p ≡ q = m.items in
    let at-same : ArePointItems (suc q.at) ps = subst (λ (x : ListedPoint). ArePointItems (suc x.at) ps) same b.2 in
    elim (points_go (suc q.at) qs ps tail rest a.2 at-same free m.rests) [
      | inl x ↦ inl x
      | inr x ↦ inr (let y = x.0 in cc, x.1)
    ]

-- the same where what follows these points is no point either
points_same : (low : ℕ) (qs ps : List ListedPoint) (tail rest : List ℕ) → ArePointItems low qs → ArePointItems low ps → NoPoint tail → NoPoint rest → points_text ps ++ tail ≡ points_text qs ++ rest → (ps ≡ qs) × (tail ≡ rest)
points_same low qs ps tail rest a b free none e = elim (points_go low qs ps tail rest a b free e) [ inl x ↦ absurd (none x.0 x.1 x.4) | inr x ↦ x ]

-- ---- functions
split_text : (f : ListedFunction) (fs : List ListedFunction) (tail : List ℕ) → functions_text (f ∷ fs) ++ tail ≡ entry_item.text f.entry ++ (points_text f.points ++ (functions_text fs ++ tail))
split_text f fs tail = append_assoc (entry_item.text f.entry) (points_text f.points ++ functions_text fs) tail ∙ ap (λ x. entry_item.text f.entry ++ x) (append_assoc (points_text f.points) (functions_text fs) tail)

after_function : (low : ℕ) (gs : List ListedFunction) (rest : List ℕ) → AreFunctionItems low gs → functions_text gs ++ last_line ≡ rest → ((more : List ℕ) × (rest ≡ last_line ++ more)) ⊎ NextFunction low rest
after_function low [] rest b e = inl ([], sym e)
after_function low (g ∷ gs) rest b e = inr (record { entry = g.entry; more = points_text g.points ++ (functions_text gs ++ last_line); low_is = b.0; fits = b.1; rest_is = sym e ∙ split_text g gs last_line })

-- a report that begins as these functions do goes on with one of the lines that may come
pub goes_on : (low : ℕ) (fs gs : List ListedFunction) (rest : List ℕ) → AreFunctionItems low fs → AreFunctionItems low gs → functions_text gs ++ last_line ≡ functions_text fs ++ rest → GoesOn low fs rest
goes_on low [] gs rest a b e = elim (after_function low gs rest b e) [ inl x ↦ inl x | inr x ↦ inr (inl x) ]
goes_on low (f ∷ fs) [] rest a b e = absurd (last_no_function f.entry (points_text f.points ++ (functions_text fs ++ rest)) [] (e ∙ split_text f fs rest))
goes_on low (f ∷ []) (g ∷ gs) rest a b e =
    let m = met entry_item entry_item_laws g.entry f.entry _ _ b.1 a.1 (sym (split_text g gs last_line) ∙ e ∙ split_text f [] rest) in
    let same : g.entry ≡ f.entry = m.items in
    let later : AreFunctionItems (suc f.entry) gs = subst (λ (x : ℕ). AreFunctionItems (suc x) gs) same b.3 in
    elim (points_go 0 f.points g.points (functions_text gs ++ last_line) rest a.2 b.2 (functions_no_point gs []) m.rests) [
      | inl x ↦ inr (inr (record { point = x.0; more = x.1; low = x.2; fits = x.3; rest_is = x.4 }))
      | inr x ↦ elim (after_function (suc f.entry) gs rest later x.1) [ inl y ↦ inl y | inr y ↦ inr (inl y) ]
    ]
goes_on low (f ∷ h ∷ fs) (g ∷ gs) rest a b e =
    let m = met entry_item entry_item_laws g.entry f.entry _ _ b.1 a.1 (sym (split_text g gs last_line) ∙ e ∙ split_text f (h ∷ fs) rest) in
    let same : g.entry ≡ f.entry = m.items in
    let later : AreFunctionItems (suc f.entry) gs = subst (λ (x : ℕ). AreFunctionItems (suc x) gs) same b.3 in
    let none : NoPoint (functions_text (h ∷ fs) ++ rest) = λ p more k. function_no_point h.entry _ p more (sym (split_text h fs rest) ∙ k) in
    let s = points_same 0 f.points g.points (functions_text gs ++ last_line) (functions_text (h ∷ fs) ++ rest) a.2 b.2 (functions_no_point gs []) none m.rests in
    goes_on (suc f.entry) (h ∷ fs) gs rest a.3 later s.1

-- no two lists of functions have one text, and none goes on behind its end
pub only_functions : (low : ℕ) (fs gs : List ListedFunction) (rest : List ℕ) → AreFunctionItems low fs → AreFunctionItems low gs → functions_text gs ++ last_line ≡ functions_text fs ++ (last_line ++ rest) → (gs ≡ fs) × ([] ≡ rest)
only_functions low [] [] rest a b e = (refl, cc)
only_functions low [] (g ∷ gs) rest a b e = absurd (last_no_function g.entry _ rest (sym e ∙ split_text g gs last_line))
only_functions low (f ∷ fs) [] rest a b e = absurd (last_no_function f.entry _ [] (e ∙ split_text f fs (last_line ++ rest)))
only_functions low (f ∷ fs) (g ∷ gs) rest a b e =
    let m = met entry_item entry_item_laws g.entry f.entry _ _ b.1 a.1 (sym (split_text g gs last_line) ∙ e ∙ split_text f fs (last_line ++ rest)) in
    let same : g.entry ≡ f.entry = m.items in
    let later : AreFunctionItems (suc f.entry) gs = subst (λ (x : ℕ). AreFunctionItems (suc x) gs) same b.3 in
    let s = points_same 0 f.points g.points (functions_text gs ++ last_line) (functions_text fs ++ (last_line ++ rest)) a.2 b.2 (functions_no_point gs []) (functions_no_point fs rest) m.rests in
    let t = only_functions (suc f.entry) fs gs rest a.3 later s.1 in
    let points-are : g.points ≡ f.points = s.0 in
    let tails : gs ≡ fs = t.0 in
    let whole : g ≡ f = function_is g f same points-are in
    (cc, t.1)
  where
    function_is : (g f : ListedFunction) → g.entry ≡ f.entry → g.points ≡ f.points → g ≡ f
    function_is g f p q = let h : record { entry = g.entry; points = g.points } ≡ record { entry = f.entry; points = f.points } = cc in h

pub only_listing : (t u : List ListedFunction) → AreFunctionItems 0 t → AreFunctionItems 0 u → listing_text t ≡ listing_text u → t ≡ u
only_listing t u a b e =
    let h : functions_text t ++ last_line ≡ functions_text u ++ (last_line ++ []) = cc in
    (only_functions 0 u t [] b a h).0
