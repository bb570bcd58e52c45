-- Tables have one text.
use Rattle.std.proofs.Common.{◌≡◌, inl, inr, ℕ, suc, ◌^◌, ◌<◌, Bool, true, false, List, [], ◌∷◌, get_or, map, Option, Some, None, refl, sym, ap, ◌∙◌, arith}
use Rattle.std.specs.Prelude.{ℤ, pos, negsuc, ◌-ℤ◌, ◌≤ℤ◌, if◌then◌else◌, is_some}
use Rattle.std.specs.List.{All}
use Rattle.std.proofs.lemmas.Int.{ints}
use Rattle.std.proofs.lemmas.List.{get_or_default, same_lists}
use Rattle.vw_lattice.specs.Entries.{value_at}
use Rattle.vw_names.specs.declared.spot.Spot.{Spot}
use Rattle.vw_names.specs.declared.spot.Spot.TheVariants as spots
use Rattle.vw_names.specs.Spot.{number, slot_number}
use Rattle.vw_values.specs.declared.value.Value.{Value}
use Rattle.vw_values.specs.declared.value.Value.TheVariants.{Any}
use Rattle.vw_domain.specs.declared.parts.Parts.{Parts}
use Rattle.vw_domain.specs.declared.state_parts.Slot.{Slot}
use Rattle.vw_domain.specs.declared.state_parts.StateParts.{StateParts}
use Rattle.vw_domain.specs.Abstract.{slot_key}
use Rattle.vw_domain.specs.State.{AreSlots, IsState, narrow_key, wide_key}
use Rattle.vw_domain.specs.StateParts.{HasParts, HasSize, IsPlace, entry_of, named, offset_of}
use Rattle.vw_domain.proofs.PartChecks.{key_of_4, key_of_8}
use Rattle.vw_domain.proofs.OneGroups.{one_groups}
use Rattle.vw_state.specs.declared.tables.PointState.{PointState}
use Rattle.vw_state.specs.declared.tables.FunctionTable.{FunctionTable}
use Rattle.vw_state.specs.declared.tables.Tables.{Tables}
use Rattle.vw_report.specs.Lines.{ListedFunction, ListedPoint, report_text}
use Rattle.vw_report.specs.ReportText.{AreListedFunctions, AreListedPoints, IsTextOf}
use Rattle.vw_report.specs.Reports.{AreStates}

one_offset : (a b : Option ℤ) → offset_of a ≡ offset_of b → a ≡ b
one_offset None None e = refl
one_offset None (Some z) e = absurd cc
one_offset (Some z) None e = absurd cc
one_offset (Some y) (Some z) e = let h : y ≡ z = cc in ap (λ (x : ℤ). Some x) h

tail_all : {X : Type 0} (P : X → Type 0) (x : X) (xs : List X) → All P (x ∷ xs) → All P xs
tail_all P x xs all = λ k d within. all (suc k) d (omega arith)

slot_is : (x y : Slot) → x.offset ≡ y.offset → x.size ≡ y.size → x.value ≡ y.value → x ≡ y
slot_is x y o s v = let h : record { offset = x.offset; size = x.size; value = x.value } ≡ record { offset = y.offset; size = y.size; value = y.value } = cc in h

one_slot : (x y : Slot) → HasSize x → HasSize y → entry_of x ≡ entry_of y → x ≡ y
one_slot x y (inl p) (inl q) e = let k : narrow_key x.offset ≡ narrow_key y.offset = sym (key_of_4 x p) ∙ ap (λ (z : ℤ × Value). z.0) e ∙ key_of_4 y q in slot_is x y (omega (arith, ints)) (p ∙ sym q) (ap (λ (z : ℤ × Value). z.1) e)
one_slot x y (inl p) (inr q) e = let k : narrow_key x.offset ≡ wide_key y.offset = sym (key_of_4 x p) ∙ ap (λ (z : ℤ × Value). z.0) e ∙ key_of_8 y q in absurd (omega (arith, ints))
one_slot x y (inr p) (inl q) e = let k : wide_key x.offset ≡ narrow_key y.offset = sym (key_of_8 x p) ∙ ap (λ (z : ℤ × Value). z.0) e ∙ key_of_4 y q in absurd (omega (arith, ints))
one_slot x y (inr p) (inr q) e = let k : wide_key x.offset ≡ wide_key y.offset = sym (key_of_8 x p) ∙ ap (λ (z : ℤ × Value). z.0) e ∙ key_of_8 y q in slot_is x y (omega (arith, ints)) (p ∙ sym q) (ap (λ (z : ℤ × Value). z.1) e)

one_slots : (xs ys : List Slot) → All HasSize xs → All HasSize ys → map entry_of xs ≡ map entry_of ys → xs ≡ ys
one_slots [] [] a b e = refl
one_slots [] (y ∷ ys) a b e = absurd cc
one_slots (x ∷ xs) [] a b e = absurd cc
one_slots (x ∷ xs) (y ∷ ys) a b e =
    let first : entry_of x ≡ entry_of y = cc in
    let rest : map entry_of xs ≡ map entry_of ys = cc in
    let h : x ≡ y = one_slot x y (a 0 x (omega arith)) (b 0 y (omega arith)) first in
    let t : xs ≡ ys = one_slots xs ys (tail_all HasSize x xs a) (tail_all HasSize y ys b) rest in
    cc

-- ---- places

slot_high : (k : ℤ) → (pos 0 -ℤ pos (2 ^ 33)) ≤ℤ k → 256 < slot_number k
slot_high (pos n) low = omega arith
slot_high (negsuc n) low = omega (arith, ints)

one_number : (j k : ℤ) → (pos 0 -ℤ pos (2 ^ 33)) ≤ℤ j → (pos 0 -ℤ pos (2 ^ 33)) ≤ℤ k → slot_number j ≡ slot_number k → j ≡ k
one_number (pos m) (pos n) a b e = let h : m ≡ n = omega arith in ap (λ (x : ℕ). pos x) h
one_number (pos m) (negsuc n) a b e = absurd (omega arith)
one_number (negsuc m) (pos n) a b e = absurd (omega arith)
one_number (negsuc m) (negsuc n) a b e = let h : m ≡ n = omega (arith, ints) in ap (λ (x : ℕ). negsuc x) h

one_key : (p q : Bool) (x y : ℤ) → (if p then narrow_key x else wide_key x) ≡ (if q then narrow_key y else wide_key y) → x ≡ y
one_key true true x y e = omega (arith, ints)
one_key true false x y e = absurd (omega (arith, ints))
one_key false true x y e = absurd (omega (arith, ints))
one_key false false x y e = omega (arith, ints)

one_spot : (slots : List (ℤ × Value)) (x y : Spot) → AreSlots slots → IsPlace slots x → IsPlace slots y → number (named slots x) ≡ number (named slots y) → x ≡ y
one_spot slots (spots.Reg r) (spots.Reg q) are a b e = ap spots.Reg e
one_spot slots (spots.Reg r) spots.Flags are a b e = absurd (omega arith)
one_spot slots (spots.Reg r) (spots.Slot p) are a b e = let h = slot_high (slot_key slots p) (are.within (slot_key slots p) b).0 in absurd (omega arith)
one_spot slots spots.Flags (spots.Reg q) are a b e = absurd (omega arith)
one_spot slots spots.Flags spots.Flags are a b e = refl
one_spot slots spots.Flags (spots.Slot p) are a b e = let h = slot_high (slot_key slots p) (are.within (slot_key slots p) b).0 in absurd (omega arith)
one_spot slots (spots.Slot o) (spots.Reg q) are a b e = let h = slot_high (slot_key slots o) (are.within (slot_key slots o) a).0 in absurd (omega arith)
one_spot slots (spots.Slot o) spots.Flags are a b e = let h = slot_high (slot_key slots o) (are.within (slot_key slots o) a).0 in absurd (omega arith)
one_spot slots (spots.Slot o) (spots.Slot p) are a b e =
    let k : slot_key slots o ≡ slot_key slots p = one_number (slot_key slots o) (slot_key slots p) (are.within (slot_key slots o) a).0 (are.within (slot_key slots p) b).0 e in
    ap spots.Slot (one_key (is_some (value_at slots (narrow_key o))) (is_some (value_at slots (narrow_key p))) o p k)

one_class : (slots : List (ℤ × Value)) (xs ys : List Spot) → AreSlots slots → All (IsPlace slots) xs → All (IsPlace slots) ys → map number (map (named slots) xs) ≡ map number (map (named slots) ys) → xs ≡ ys
one_class slots [] [] are a b e = refl
one_class slots [] (y ∷ ys) are a b e = absurd cc
one_class slots (x ∷ xs) [] are a b e = absurd cc
one_class slots (x ∷ xs) (y ∷ ys) are a b e =
    let first : number (named slots x) ≡ number (named slots y) = cc in
    let rest : map number (map (named slots) xs) ≡ map number (map (named slots) ys) = cc in
    let h : x ≡ y = one_spot slots x y are (a 0 x (omega arith)) (b 0 y (omega arith)) first in
    let t : xs ≡ ys = one_class slots xs ys are (tail_all (IsPlace slots) x xs a) (tail_all (IsPlace slots) y ys b) rest in
    cc

one_classes : (slots : List (ℤ × Value)) (xs ys : List (List Spot)) → AreSlots slots → All (λ c. All (IsPlace slots) c) xs → All (λ c. All (IsPlace slots) c) ys
    → map (map number) (map (map (named slots)) xs) ≡ map (map number) (map (map (named slots)) ys) → xs ≡ ys
one_classes slots [] [] are a b e = refl
one_classes slots [] (y ∷ ys) are a b e = absurd cc
one_classes slots (x ∷ xs) [] are a b e = absurd cc
one_classes slots (x ∷ xs) (y ∷ ys) are a b e =
    let first : map number (map (named slots) x) ≡ map number (map (named slots) y) = cc in
    let rest : map (map number) (map (map (named slots)) xs) ≡ map (map number) (map (map (named slots)) ys) = cc in
    let h : x ≡ y = one_class slots x y are (a 0 x (omega arith)) (b 0 y (omega arith)) first in
    let t : xs ≡ ys = one_classes slots xs ys are (tail_all (λ c. All (IsPlace slots) c) x xs a) (tail_all (λ c. All (IsPlace slots) c) y ys b) rest in
    cc

one_parts : (s : Parts) (p q : StateParts) → IsState s → HasParts s p → HasParts s q → p ≡ q
one_parts s p q is h g =
    let po = h.offsets.length in
    let qo = g.offsets.length in
    let pv = h.values.length in
    let qv = g.values.length in
    let offsets : p.offsets ≡ q.offsets = same_lists p.offsets q.offsets (po ∙ sym qo) (λ k d low.
    get_or_default p.offsets k d None low ∙ one_offset (get_or p.offsets k None) (get_or q.offsets k None) (h.offsets.each k (omega arith) ∙ sym (g.offsets.each k (omega arith))) ∙ sym (get_or_default q.offsets k d None (omega arith))) in
    let values : p.values ≡ q.values = same_lists p.values q.values (pv ∙ sym qv) (λ k d low.
    get_or_default p.values k d Any low ∙ h.values.each k (omega arith) ∙ sym (g.values.each k (omega arith)) ∙ sym (get_or_default q.values k d Any (omega arith))) in
    let slots : p.slots ≡ q.slots = one_slots p.slots q.slots h.sizes g.sizes (h.slots ∙ sym g.slots) in
    let classes : p.classes ≡ q.classes = one_classes s.slots p.classes q.classes is.slots h.there g.there (one_groups s.classes (map (map (named s.slots)) p.classes) (map (map (named s.slots)) q.classes) h.classes g.classes) in
    whole p q offsets values (h.probed ∙ sym g.probed) (h.written ∙ sym g.written) slots classes (h.fact ∙ sym g.fact)
  where
    whole : (p q : StateParts) → p.offsets ≡ q.offsets → p.values ≡ q.values → p.probed ≡ q.probed → p.written ≡ q.written → p.slots ≡ q.slots → p.classes ≡ q.classes → p.fact ≡ q.fact → p ≡ q
    whole p q o v d w s c f =
        let h : record { offsets = p.offsets; values = p.values; probed = p.probed; written = p.written; slots = p.slots; classes = p.classes; fact = p.fact }
        ≡ record { offsets = q.offsets; values = q.values; probed = q.probed; written = q.written; slots = q.slots; classes = q.classes; fact = q.fact } = cc in h

-- ---- tables

one_listed_point : (x y : ListedPoint) → x.at ≡ y.at → x.parts ≡ y.parts → x ≡ y
one_listed_point x y a p = let h : record { at = x.at; parts = x.parts } ≡ record { at = y.at; parts = y.parts } = cc in h

one_points : (ps : List PointState) (xs ys : List ListedPoint) → All (λ p. IsState p.state) ps → AreListedPoints ps xs → AreListedPoints ps ys → xs ≡ ys
one_points [] [] [] are a b = refl
one_points [] [] (y ∷ ys) are a b = absurd b
one_points [] (x ∷ xs) ys are a b = absurd a
one_points (p ∷ ps) [] ys are a b = absurd a
one_points (p ∷ ps) (x ∷ xs) [] are a b = absurd b
one_points (p ∷ ps) (x ∷ xs) (y ∷ ys) are a b =
    let h : x ≡ y = one_listed_point x y (a.0.at ∙ sym b.0.at) (one_parts p.state x.parts y.parts (are 0 p (omega arith)) a.0.parts b.0.parts) in
    let t : xs ≡ ys = one_points ps xs ys (tail_all (λ (q : PointState). IsState q.state) p ps are) a.1 b.1 in
    cc

one_listed_function : (x y : ListedFunction) → x.entry ≡ y.entry → x.points ≡ y.points → x ≡ y
one_listed_function x y e p = let h : record { entry = x.entry; points = x.points } ≡ record { entry = y.entry; points = y.points } = cc in h

one_functions : (fs : List FunctionTable) (xs ys : List ListedFunction) → All AreStates fs → AreListedFunctions fs xs → AreListedFunctions fs ys → xs ≡ ys
one_functions [] [] [] are a b = refl
one_functions [] [] (y ∷ ys) are a b = absurd b
one_functions [] (x ∷ xs) ys are a b = absurd a
one_functions (f ∷ fs) [] ys are a b = absurd a
one_functions (f ∷ fs) (x ∷ xs) [] are a b = absurd b
one_functions (f ∷ fs) (x ∷ xs) (y ∷ ys) are a b =
    let h : x ≡ y = one_listed_function x y (a.0.entry ∙ sym b.0.entry) (one_points f.states x.points y.points (are 0 f (omega arith)) a.0.points b.0.points) in
    let t : xs ≡ ys = one_functions fs xs ys (tail_all AreStates f fs are) a.1 b.1 in
    cc

pub one_text : (t : Tables) (text other : List ℕ) → All AreStates t.functions → IsTextOf t text → IsTextOf t other → text ≡ other
one_text t text other are left right =
    left.text_is ∙ ap (λ (fs : List ListedFunction). report_text fs) (one_functions t.functions left.functions right.functions are left.listed right.listed) ∙ sym right.text_is
