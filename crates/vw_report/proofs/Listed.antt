-- Points and functions whose lines are appended one after the other.
use Rattle.std.proofs.Common.{◌≡◌, ℕ, List, [], ◌∷◌, ◌++◌, refl, ap, ◌∙◌, append_assoc}
use Rattle.std.proofs.lemmas.List.{append-nil}
use Rattle.std.specs.List.{flat_map}
use Rattle.vw_state.specs.declared.tables.PointState.{PointState}
use Rattle.vw_state.specs.declared.tables.FunctionTable.{FunctionTable}
use Rattle.vw_report.specs.Lines.{ListedFunction, ListedPoint, entry_line, function_lines, point_line}
use Rattle.vw_report.specs.ReportText.{AppendsFunctions, AppendsPoint, AppendsPoints, AreListedFunctions, AreListedPoints, IsListedFunction, IsListedPoint}

pub points_more : (ps : List PointState) (ls : List ListedPoint) (p : PointState) (l : ListedPoint) → AreListedPoints ps ls → IsListedPoint p l → AreListedPoints (ps ++ p ∷ []) (ls ++ l ∷ [])
points_more [] [] p l are is = (is, tt)
points_more [] (k ∷ ls) p l are is = absurd are
points_more (q ∷ ps) [] p l are is = absurd are
points_more (q ∷ ps) (k ∷ ls) p l are is = (are.0, points_more ps ls p l are.1 is)

pub functions_more : (fs : List FunctionTable) (ls : List ListedFunction) (f : FunctionTable) (l : ListedFunction) → AreListedFunctions fs ls → IsListedFunction f l → AreListedFunctions (fs ++ f ∷ []) (ls ++ l ∷ [])
functions_more [] [] f l are is = (is, tt)
functions_more [] (k ∷ ls) f l are is = absurd are
functions_more (g ∷ fs) [] f l are is = absurd are
functions_more (g ∷ fs) (k ∷ ls) f l are is = (are.0, functions_more fs ls f l are.1 is)

flat_more : {A : Type 0} (text : A → List ℕ) (xs : List A) (x : A) → flat_map text (xs ++ x ∷ []) ≡ flat_map text xs ++ text x
flat_more text [] x = append-nil (text x)
flat_more text (y ∷ xs) x = ap (λ (t : List ℕ). text y ++ t) (flat_more text xs x) ∙ rw (append_assoc (text y) (flat_map text xs) (text x)) refl

pub points_first : (text : List ℕ) → AppendsPoints [] text text
points_first text = record { listed = []; are = tt; text_is = rw (append-nil text) refl }

pub functions_first : (text : List ℕ) → AppendsFunctions [] text text
functions_first text = record { listed = []; are = tt; text_is = rw (append-nil text) refl }

pub points_on : (ps : List PointState) (p : PointState) (old mid new : List ℕ) → AppendsPoints ps old mid → AppendsPoint p mid new → AppendsPoints (ps ++ p ∷ []) old new
points_on ps p old mid new before next = record {
  listed = before.listed ++ next.listed ∷ [];
  are = points_more ps before.listed p next.listed before.are next.is;
  text_is = next.text_is ∙ ap (λ (t : List ℕ). t ++ point_line next.listed) before.text_is ∙ append_assoc old (flat_map point_line before.listed) (point_line next.listed)
      ∙ ap (λ (t : List ℕ). old ++ t) (rw (flat_more point_line before.listed next.listed) refl);
}

pub functions_on : (fs : List FunctionTable) (f : FunctionTable) (old mid entry new : List ℕ) → AppendsFunctions fs old mid → entry ≡ mid ++ entry_line f.entry → AppendsPoints f.states entry new → AppendsFunctions (fs ++ f ∷ []) old new
functions_on fs f old mid entry new before appended next = record {
  listed = before.listed ++ record { entry = f.entry; points = next.listed } ∷ [];
  are = functions_more fs before.listed f (record { entry = f.entry; points = next.listed }) before.are (record { entry = refl; points = next.are });
  text_is = next.text_is ∙ ap (λ (t : List ℕ). t ++ flat_map point_line next.listed) (appended ∙ ap (λ (t : List ℕ). t ++ entry_line f.entry) before.text_is)
      ∙ regroup old (flat_map function_lines before.listed) (entry_line f.entry) (flat_map point_line next.listed)
      ∙ ap (λ (t : List ℕ). old ++ t) (rw (flat_more function_lines before.listed (record { entry = f.entry; points = next.listed })) refl);
}
  where
    regroup : (a b c d : List ℕ) → ((a ++ b) ++ c) ++ d ≡ a ++ (b ++ (c ++ d))
    regroup a b c d = simp append_assoc
