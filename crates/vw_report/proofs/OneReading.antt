-- No two tables have one text.
use Rattle.std.proofs.Common.{◌≡◌, inl, inr, ℕ, suc, ◌<◌, List, [], ◌∷◌, length, get_or, map, refl, sym, ap, subst, ◌∙◌, arith}
use Rattle.std.proofs.lemmas.Bool.{cases_eq}
use Rattle.std.proofs.lemmas.List.{get_or_default, same_lists}
use Rattle.vw_names.specs.declared.spot.Spot.{Spot}
use Rattle.vw_names.specs.Division.{Same, division_below}
use Rattle.vw_names.specs.DivisionOrder.{division_antisymmetric}
use Rattle.vw_names.specs.Groups.{AreGroups, Has, IsGroup}
use Rattle.vw_domain.specs.declared.parts.Parts.{Parts}
use Rattle.vw_domain.specs.declared.registers.Register.{Register}
use Rattle.vw_domain.specs.declared.state_parts.StateParts.{StateParts}
use Rattle.vw_domain.specs.Registers.{register_at, unknown_register}
use Rattle.vw_domain.specs.StateParts.{HasParts, IsPointState, named}
use Rattle.vw_state.specs.declared.tables.PointState.{PointState}
use Rattle.vw_state.specs.declared.tables.FunctionTable.{FunctionTable}
use Rattle.vw_state.specs.declared.tables.Tables.{Tables}
use Rattle.vw_report.specs.Lines.{ListedFunction, ListedPoint}
use Rattle.vw_report.specs.ReportText.{AreListedFunctions, AreListedPoints}
use Rattle.vw_report.specs.Reports.{AreFunctions, ArePoints, IsReport}
use Rattle.vw_report.specs.Listings.{listing_text}
use Rattle.vw_report.proofs.ListingLaws.{only_listing}
use Rattle.vw_report.proofs.Conversions.{functions_to, listing_text_is}

-- ---- states

-- divisions with one list of classes put the same places together
groups_below : (low high : List (ℕ × ℕ)) (groups : List (List Spot)) → AreGroups low groups → AreGroups high groups → division_below low high
groups_below low high groups l h a b same = elim (cases_eq a b) [
  | inl is ↦ subst (λ (x : ℕ). Same low a x) is refl
  | inr apart ↦ (let any = h.complete a b apart same in together any.0 any.1 any.2 any.3 any.4)
]
  where
    together : (k : ℕ) (g : List Spot) → k < length groups → get_or groups k g ≡ g → Has g a → Same low a b
    together k g within is has =
        let above : IsGroup high g = subst (λ (x : List Spot). IsGroup high x) is (h.each k g within) in
        let below : IsGroup low g = subst (λ (x : List Spot). IsGroup low x) is (l.each k g within) in
        let other : Has g b = (above.whole b).1 (sym same ∙ (above.whole a).0 has) in
        (below.whole a).0 has ∙ sym ((below.whole b).0 other)

one_register : (r q : Register) → r.offset ≡ q.offset → r.value ≡ q.value → r ≡ q
one_register r q o v = let h : record { offset = r.offset; value = r.value } ≡ record { offset = q.offset; value = q.value } = cc in h

one_row : (s t : Parts) (p : StateParts) → IsPointState s → IsPointState t → HasParts s p → HasParts t p → s.registers ≡ t.registers
one_row s t p a b h g =
    let left = a.state.registers.seventeen in
    let right = b.state.registers.seventeen in
    same_lists s.registers t.registers (left ∙ sym right) (λ k d low.
    get_or_default s.registers k d unknown_register low ∙ at k (omega arith) ∙ sym (get_or_default t.registers k d unknown_register (omega arith)))
  where
    at : (k : ℕ) → k < 17 → register_at s.registers k ≡ register_at t.registers k
    at k low = elim (cases_eq k 16) [
      | inl is ↦ subst (λ (r : ℕ). register_at s.registers r ≡ register_at t.registers r) (sym is) (a.unknown ∙ sym b.unknown)
      | inr apart ↦ (let less : k < 16 = omega arith in one_register (register_at s.registers k) (register_at t.registers k)
          (sym (h.offsets.each k less) ∙ g.offsets.each k less) (sym (h.values.each k less) ∙ g.values.each k less))
    ]

one_state : (s t : Parts) (p : StateParts) → IsPointState s → IsPointState t → HasParts s p → HasParts t p → s ≡ t
one_state s t p a b h g =
    let registers = one_row s t p a b h g in
    let probed : s.probed ≡ t.probed = sym h.probed ∙ g.probed in
    let written : s.written ≡ t.written = sym h.written ∙ g.written in
    let slots : s.slots ≡ t.slots = sym h.slots ∙ g.slots in
    let fact : s.fact ≡ t.fact = sym h.fact ∙ g.fact in
    let names : List (List Spot) = map (map (named s.slots)) p.classes in
    let groups : AreGroups t.classes names = subst (λ (m : List _). AreGroups t.classes (map (map (named m)) p.classes)) (sym slots) g.classes in
    let classes : s.classes ≡ t.classes = division_antisymmetric s.classes t.classes a.state.classes b.state.classes (groups_below s.classes t.classes names h.classes groups) (groups_below t.classes s.classes names groups h.classes) in
    whole s t registers probed written slots classes fact
  where
    whole : (s t : Parts) → s.registers ≡ t.registers → s.probed ≡ t.probed → s.written ≡ t.written → s.slots ≡ t.slots → s.classes ≡ t.classes → s.fact ≡ t.fact → s ≡ t
    whole s t r p w l c f =
        let h : record { registers = s.registers; probed = s.probed; written = s.written; slots = s.slots; classes = s.classes; fact = s.fact }
        ≡ record { registers = t.registers; probed = t.probed; written = t.written; slots = t.slots; classes = t.classes; fact = t.fact } = cc in h

-- ---- tables

one_point : (p q : PointState) → p.at ≡ q.at → p.state ≡ q.state → p ≡ q
one_point p q a s = let h : record { at = p.at; state = p.state } ≡ record { at = q.at; state = q.state } = cc in h

one_points : (low high : ℕ) (ps qs : List PointState) (ls : List ListedPoint) → AreListedPoints ps ls → AreListedPoints qs ls → ArePoints low ps → ArePoints high qs → ps ≡ qs
one_points low high [] [] ls p q a b = refl
one_points low high [] (y ∷ qs) [] p q a b = absurd q
one_points low high [] (y ∷ qs) (l ∷ ls) p q a b = absurd p
one_points low high (x ∷ ps) [] [] p q a b = absurd p
one_points low high (x ∷ ps) [] (l ∷ ls) p q a b = absurd q
one_points low high (x ∷ ps) (y ∷ qs) [] p q a b = absurd p
one_points low high (x ∷ ps) (y ∷ qs) (l ∷ ls) p q a b =
    let first : x ≡ y = one_point x y (sym p.0.at ∙ q.0.at) (one_state x.state y.state l.parts a.2 b.2 p.0.parts q.0.parts) in
    let others : ps ≡ qs = one_points (suc x.at) (suc y.at) ps qs ls p.1 q.1 a.3 b.3 in
    cc

one_function : (f g : FunctionTable) → f.entry ≡ g.entry → f.states ≡ g.states → f ≡ g
one_function f g e s = let h : record { entry = f.entry; states = f.states } ≡ record { entry = g.entry; states = g.states } = cc in h

one_functions : (low high : ℕ) (fs gs : List FunctionTable) (ls : List ListedFunction) → AreListedFunctions fs ls → AreListedFunctions gs ls → AreFunctions low fs → AreFunctions high gs → fs ≡ gs
one_functions low high [] [] ls p q a b = refl
one_functions low high [] (y ∷ gs) [] p q a b = absurd q
one_functions low high [] (y ∷ gs) (l ∷ ls) p q a b = absurd p
one_functions low high (x ∷ fs) [] [] p q a b = absurd p
one_functions low high (x ∷ fs) [] (l ∷ ls) p q a b = absurd q
one_functions low high (x ∷ fs) (y ∷ gs) [] p q a b = absurd p
one_functions low high (x ∷ fs) (y ∷ gs) (l ∷ ls) p q a b =
    let first : x ≡ y = one_function x y (sym p.0.entry ∙ q.0.entry) (one_points 0 0 x.states y.states l.points p.0.points q.0.points a.2 b.2) in
    let others : fs ≡ gs = one_functions (suc x.entry) (suc y.entry) fs gs ls p.1 q.1 a.3 b.3 in
    cc

pub one_tables : (t u : Tables) (text : List ℕ) → IsReport t text → IsReport u text → t ≡ u
one_tables t u text r q =
    let left = r.printed in
    let right = q.printed in
    let same : listing_text left.functions ≡ listing_text right.functions = sym (listing_text_is left.functions) ∙ sym left.text_is ∙ right.text_is ∙ listing_text_is right.functions in
    let lists : left.functions ≡ right.functions = only_listing left.functions right.functions
    (functions_to 0 t.functions left.functions left.listed r.functions) (functions_to 0 u.functions right.functions right.listed q.functions) same in
    let listed : AreListedFunctions u.functions left.functions = subst (λ (ls : List ListedFunction). AreListedFunctions u.functions ls) (sym lists) right.listed in
    ap (λ (fs : List FunctionTable). record { functions = fs }) (one_functions 0 0 t.functions u.functions left.functions left.listed listed r.functions q.functions)
