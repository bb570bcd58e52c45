-- Tables and the lists of their parts.
use Rattle.std.proofs.Common.{◌≡◌, ℕ, suc, ◌+◌, ◌^◌, ◌<◌, ◌≤◌, List, [], ◌∷◌, ◌++◌, refl, sym, ap, subst, ◌∙◌, append_assoc, arith}
use Rattle.std.specs.List.{flat_map}
use Rattle.vw_domain.specs.StateParts.{IsPointState}
use Rattle.vw_state.specs.declared.tables.PointState.{PointState}
use Rattle.vw_state.specs.declared.tables.FunctionTable.{FunctionTable}
use Rattle.vw_report.specs.Lines.{ListedFunction, ListedPoint, entry_line, first_line, function_lines, last_line, point_line, report_text}
use Rattle.vw_report.specs.ReportText.{AreListedFunctions, AreListedPoints, IsListedPoint}
use Rattle.vw_report.specs.NumberItems.{digits_of_hex}
use Rattle.vw_report.specs.Grammar.{entry, entry_item, hex16, hex8, parts, point, point_item}
use Rattle.vw_report.specs.Reports.{Agrees, AreFunctions, ArePoints, IsFault, IsReport}
use Rattle.vw_report.specs.Listings.{AreFunctionItems, AreFunctionStates, ArePointItems, ArePointStates, IsListingFault, IsPoint, ListingAgrees, functions_text, listing_text, points_text}
use Rattle.vw_report.proofs.FieldLaws.{entry_item_text, point_item_text}
use Rattle.vw_report.proofs.PartsInGrammar.{parts_are}

-- ---- texts

points_text_is : (ps : List ListedPoint) → flat_map point_line ps ≡ points_text ps
points_text_is [] = refl
points_text_is (p ∷ ps) = ap (λ (t : List ℕ). point_line p ++ t) (points_text_is ps) ∙ ap (λ (t : List ℕ). t ++ points_text ps) (sym (point_item_text p))

functions_text_is : (fs : List ListedFunction) → flat_map function_lines fs ≡ functions_text fs
functions_text_is [] = refl
functions_text_is (f ∷ fs) =
    append_assoc (entry_line f.entry) (flat_map point_line f.points) (flat_map function_lines fs)
    ∙ ap (λ (t : List ℕ). entry_line f.entry ++ (t ++ flat_map function_lines fs)) (points_text_is f.points)
    ∙ ap (λ (t : List ℕ). entry_line f.entry ++ (points_text f.points ++ t)) (functions_text_is fs)
    ∙ ap (λ (t : List ℕ). t ++ (points_text f.points ++ functions_text fs)) (sym (entry_item_text f.entry))

pub listing_text_is : (fs : List ListedFunction) → report_text fs ≡ listing_text fs
unfolding report_text
listing_text_is fs = ap (λ (t : List ℕ). first_line ++ (t ++ last_line)) (functions_text_is fs)

-- ---- from tables

point_item_is : (l : ListedPoint) → l.at < 2 ^ 32 → parts.Is l.parts → point_item.Is l
unfolding point_item point hex8 digits_of_hex
point_item_is l low is = let less : l.at < 16 ^ 8 = omega arith in (tt, (less, is))

point_at_low : (l : ListedPoint) → point_item.Is l → l.at < 2 ^ 32
unfolding point_item point hex8 digits_of_hex
point_at_low l is = let less : l.at < 16 ^ 8 = is.1.0 in omega arith

entry_is : (e : ℕ) → e < 2 ^ 64 → entry_item.Is e
unfolding entry_item entry hex16 digits_of_hex
entry_is e low = let less : e < 16 ^ 16 = omega arith in less

entry_low : (e : ℕ) → entry_item.Is e → e < 2 ^ 64
unfolding entry_item entry hex16 digits_of_hex
entry_low e is = let less : e < 16 ^ 16 = is in omega arith

point_is : (p : PointState) (l : ListedPoint) → IsListedPoint p l → p.at < 2 ^ 32 → IsPointState p.state → IsPoint l
point_is p l same low state =
    (point_item_is l (subst (λ (a : ℕ). a < 2 ^ 32) (sym same.at) low) (parts_are p.state l.parts state same.parts), record { state = p.state; is = record { point = state; parts = same.parts } })

points_to : (low : ℕ) (ps : List PointState) (ls : List ListedPoint) → AreListedPoints ps ls → ArePoints low ps → ArePointItems low ls
points_to low [] [] same are = tt
points_to low [] (l ∷ ls) same are = absurd same
points_to low (p ∷ ps) [] same are = absurd same
points_to low (p ∷ ps) (l ∷ ls) same are =
    let at : p.at ≡ l.at = sym same.0.at in
    (subst (λ (a : ℕ). low ≤ a) at are.0, point_is p l same.0 are.1 are.2, points_to (suc l.at) ps ls same.1 (subst (λ (a : ℕ). ArePoints (suc a) ps) at are.3))

pub functions_to : (low : ℕ) (fs : List FunctionTable) (ls : List ListedFunction) → AreListedFunctions fs ls → AreFunctions low fs → AreFunctionItems low ls
functions_to low [] [] same are = tt
functions_to low [] (l ∷ ls) same are = absurd same
functions_to low (f ∷ fs) [] same are = absurd same
functions_to low (f ∷ fs) (l ∷ ls) same are =
    let at : f.entry ≡ l.entry = sym same.0.entry in (
      subst (λ (a : ℕ). low ≤ a) at are.0,
      entry_is l.entry (subst (λ (a : ℕ). a < 2 ^ 64) at are.1),
      points_to 0 f.states l.points same.0.points are.2,
      functions_to (suc l.entry) fs ls same.1 (subst (λ (a : ℕ). AreFunctions (suc a) fs) at are.3),
    )

-- ---- to tables

points_from : (low : ℕ) (ps : List PointState) (ls : List ListedPoint) → AreListedPoints ps ls → ArePointItems low ls → ArePointStates ps → ArePoints low ps
points_from low [] [] same are states = tt
points_from low [] (l ∷ ls) same are states = absurd same
points_from low (p ∷ ps) [] same are states = absurd same
points_from low (p ∷ ps) (l ∷ ls) same are states =
    let at : l.at ≡ p.at = same.0.at in
    (subst (λ (a : ℕ). low ≤ a) at are.0, subst (λ (a : ℕ). a < 2 ^ 32) at (point_at_low l are.1.0), states.0, points_from (suc p.at) ps ls same.1 (subst (λ (a : ℕ). ArePointItems (suc a) ls) at are.2) states.1)

functions_from : (low : ℕ) (fs : List FunctionTable) (ls : List ListedFunction) → AreListedFunctions fs ls → AreFunctionItems low ls → AreFunctionStates fs → AreFunctions low fs
functions_from low [] [] same are states = tt
functions_from low [] (l ∷ ls) same are states = absurd same
functions_from low (f ∷ fs) [] same are states = absurd same
functions_from low (f ∷ fs) (l ∷ ls) same are states =
    let at : l.entry ≡ f.entry = same.0.entry in (
      subst (λ (a : ℕ). low ≤ a) at are.0,
      subst (λ (a : ℕ). a < 2 ^ 64) at (entry_low l.entry are.1),
      points_from 0 f.states l.points same.0.points are.2 states.0,
      functions_from (suc f.entry) fs ls same.1 (subst (λ (a : ℕ). AreFunctionItems (suc a) ls) at are.3) states.1,
    )

pub report_of : (fs : List FunctionTable) (ls : List ListedFunction) (text : List ℕ) → AreListedFunctions fs ls → AreFunctionItems 0 ls → AreFunctionStates fs → text ≡ listing_text ls → IsReport (record { functions = fs }) text
report_of fs ls text same are states e = record {
  functions = functions_from 0 fs ls same are states;
  printed = record { functions = ls; listed = same; text_is = e ∙ sym (listing_text_is ls) };
}

record MadePoints (ls : List ListedPoint) : Type 0 where
  points : List PointState
  same : AreListedPoints points ls
  states : ArePointStates points

made_points : (low : ℕ) (ls : List ListedPoint) → ArePointItems low ls → MadePoints ls
made_points low [] are = record { points = []; same = tt; states = tt }
made_points low (l ∷ ls) are =
    let others = made_points (suc l.at) ls are.2 in
    let has = are.1.1 in
    record {
      points = record { at = l.at; state = has.state } ∷ others.points;
      same = (record { at = refl; parts = has.is.parts }, others.same);
      states = (has.is.point, others.states);
    }

record MadeFunctions (ls : List ListedFunction) : Type 0 where
  functions : List FunctionTable
  same : AreListedFunctions functions ls
  states : AreFunctionStates functions

made_functions : (low : ℕ) (ls : List ListedFunction) → AreFunctionItems low ls → MadeFunctions ls
made_functions low [] are = record { functions = []; same = tt; states = tt }
made_functions low (l ∷ ls) are =
    let points = made_points 0 l.points are.2 in
    let others = made_functions (suc l.entry) ls are.3 in
    record {
      functions = record { entry = l.entry; states = points.points } ∷ others.functions;
      same = (record { entry = refl; points = points.same }, others.same);
      states = (points.states, others.states);
    }

-- ---- faults

listing_agrees : (bytes : List ℕ) (n : ℕ) → Agrees bytes n → ListingAgrees bytes n
listing_agrees bytes n g =
    let printed = g.report.printed in
    record {
      listing = printed.functions;
      front = g.front;
      rest = g.rest;
      more = g.more;
      are = functions_to 0 g.tables.functions printed.functions printed.listed g.report.functions;
      lines = g.lines;
      bytes_are = g.bytes_are;
      text_is = sym (listing_text_is printed.functions) ∙ sym printed.text_is ∙ g.text_is;
    }

tables_agree : (bytes : List ℕ) (n : ℕ) → ListingAgrees bytes n → Agrees bytes n
tables_agree bytes n g =
    let made = made_functions 0 g.listing g.are in
    record {
      tables = record { functions = made.functions };
      text = listing_text g.listing;
      report = report_of made.functions g.listing (listing_text g.listing) made.same g.are made.states refl;
      front = g.front;
      rest = g.rest;
      more = g.more;
      lines = g.lines;
      bytes_are = g.bytes_are;
      text_is = g.text_is;
    }

pub fault_of : (bytes : List ℕ) (line : ℕ) → IsListingFault bytes line → IsFault bytes line
fault_of bytes line f = record {
  before = f.before;
  line_is = f.line_is;
  agrees = tables_agree bytes f.before f.agrees;
  no_further = λ g. f.no_further (listing_agrees bytes (f.before + 1) g);
  no_report = λ t r. f.no_report r.printed.functions (functions_to 0 t.functions r.printed.functions r.printed.listed r.functions) (r.printed.text_is ∙ listing_text_is r.printed.functions);
}
