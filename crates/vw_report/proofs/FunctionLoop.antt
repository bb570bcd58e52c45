-- Functions one after the other.
use Rattle.std.proofs.Common.{◌≡◌, ℕ, suc, ◌+◌, ◌<◌, ◌≤◌, List, [], ◌∷◌, ◌++◌, length, length-append, Some, None, refl, sym, ap, subst, ◌∙◌, append_assoc, add-one, arith, inl, inr}
use Rattle.std.proofs.lemmas.List.{append-nil}
use Rattle.vw_state.specs.declared.tables.PointState.{PointState}
use Rattle.vw_state.specs.declared.tables.FunctionTable.{FunctionTable}
use Rattle.vw_report.specs.declared.read_tables.Stop.{Stop}
use Rattle.vw_report.specs.declared.read_tables.Stop.TheVariants as stops
use Rattle.vw_report.specs.Lines.{ListedFunction, ListedPoint, last_line}
use Rattle.vw_report.specs.Grammar.{entry_item}
use Rattle.vw_report.specs.Listings.{AreFunctionItems, AreFunctionStates, ArePointItems, ArePointStates, FunctionsAre, FunctionsDone, FunctionsStop, FunctionsStopped, GoesOn, NextFunction, NextPoint, PointGoesOn, PointsDone, PointsStop, PointsStopped, functions_low, functions_text, points_text}
use Rattle.vw_report.proofs.ItemLaws.{some_is}
use Rattle.vw_report.proofs.FieldLaws.{entry_item_laws}
use Rattle.vw_report.proofs.ListingLaws.{function_begins, last_no_function, begins, apart_test}
use Rattle.vw_report.proofs.Listed.{functions_more}

are_more : (low : ℕ) (fs : List ListedFunction) (f : ListedFunction) → AreFunctionItems low fs → functions_low low fs ≤ f.entry → entry_item.Is f.entry → ArePointItems 0 f.points → AreFunctionItems low (fs ++ f ∷ [])
are_more low [] f a h i s = (h, i, s, tt)
are_more low (g ∷ fs) f a h i s = (a.0, a.1, a.2, are_more (suc g.entry) fs f a.3 h i s)

low_more : (low : ℕ) (fs : List ListedFunction) (f : ListedFunction) → functions_low low (fs ++ f ∷ []) ≡ f.entry + 1
low_more low [] f = sym (add-one f.entry)
low_more low (g ∷ fs) f = low_more (suc g.entry) fs f

text_more : (fs : List ListedFunction) (f : ListedFunction) (rest : List ℕ) → functions_text (fs ++ f ∷ []) ++ rest ≡ functions_text fs ++ (entry_item.text f.entry ++ (points_text f.points ++ rest))
text_more [] f rest = append_assoc (entry_item.text f.entry) (points_text f.points ++ []) rest ∙ ap (λ x. entry_item.text f.entry ++ (x ++ rest)) (append-nil (points_text f.points))
text_more (g ∷ fs) f rest =
    append_assoc (entry_item.text g.entry) (points_text g.points ++ functions_text (fs ++ f ∷ [])) rest
    ∙ ap (λ x. entry_item.text g.entry ++ x) (append_assoc (points_text g.points) (functions_text (fs ++ f ∷ [])) rest ∙ ap (λ x. points_text g.points ++ x) (text_more fs f rest))
    ∙ ap (λ x. entry_item.text g.entry ++ x) (sym (append_assoc (points_text g.points) (functions_text fs) _)) ∙ sym (append_assoc (entry_item.text g.entry) (points_text g.points ++ functions_text fs) _)

point_more : (fs : List ListedFunction) (f : ListedFunction) (rest : List ℕ) → PointGoesOn (fs ++ f ∷ []) rest → NextPoint f.points rest
point_more [] f rest h = h
point_more (g ∷ []) f rest h = h
point_more (g ∷ k ∷ fs) f rest h = point_more (k ∷ fs) f rest h

states_more : (fs : List FunctionTable) (f : FunctionTable) → AreFunctionStates fs → ArePointStates f.states → AreFunctionStates (fs ++ f ∷ [])
states_more [] f a i = (i, tt)
states_more (g ∷ fs) f a i = (a.0, states_more fs f a.1 i)

-- what the loop keeps
pub record Keeps (bytes : List ℕ) (functions : List FunctionTable) (rest : List ℕ) (low i : ℕ) : Type 0 where
  pub read : FunctionsAre bytes functions rest
  pub low_is : low ≡ functions_low 0 read.listed
  pub room : i + length rest ≤ length bytes
  pub no_point : PointGoesOn read.listed rest → ⊥

pub keeps_first : (bytes : List ℕ) → Keeps bytes [] bytes 0 0
keeps_first bytes = record { read = record { listed = []; same = tt; states = tt; are = tt; bytes_are = refl }; low_is = refl; room = omega arith; no_point = λ h. h }

abbrev listed_of : ℕ → List ListedPoint → ListedFunction
listed_of e points = record { entry = e; points = points }

abbrev table_of : ℕ → List PointState → FunctionTable
table_of e states = record { entry = e; states = states }

pub keeps_more : (bytes : List ℕ) (fs : List FunctionTable) (rest : List ℕ) (low i e : ℕ) (tail : List ℕ) (ss : List PointState) (on : List ℕ) → Keeps bytes fs rest low i → entry_item.read rest ≡ Some (e, tail) → low ≤ e
    → PointsDone tail ss on → Keeps bytes (fs ++ record { entry = e; states = ss } ∷ []) on (e + 1) (i + 1)
keeps_more bytes fs rest low i e tail ss on k r h d =
    let t = entry_item_laws.takes rest e tail r in
    let b = function_begins e in
    let l : length rest ≡ suc (length b.0) + length tail = ap length t.1 ∙ length-append (entry_item.text e) tail ∙ ap (λ x. length x + length tail) b.1 in
    let points = d.read in
    let m : length tail ≡ length (points_text points.listed) + length on = ap length points.bytes_are ∙ length-append (points_text points.listed) on in
    let room = k.room in
    let old = k.read in
    record {
      read = record {
        listed = old.listed ++ listed_of e points.listed ∷ [];
        same = functions_more fs old.listed (table_of e ss) (listed_of e points.listed) old.same (record { entry = refl; points = points.same });
        states = states_more fs (table_of e ss) old.states points.states;
        are = are_more 0 old.listed (listed_of e points.listed) old.are (subst (λ x. x ≤ e) k.low_is h) t.0 points.are;
        bytes_are = old.bytes_are ∙ ap (λ x. functions_text old.listed ++ x) (t.1 ∙ ap (λ x. entry_item.text e ++ x) points.bytes_are) ∙ sym (text_more old.listed (listed_of e points.listed) on);
      };
      low_is = sym (low_more 0 old.listed (listed_of e points.listed));
      room = omega arith;
      no_point = λ p. d.stuck (point_more old.listed (listed_of e points.listed) on p);
    }

no_function : (low : ℕ) (rest : List ℕ) → entry_item.read rest ≡ None → NextFunction low rest → ⊥
no_function low rest e n =
    let h : entry_item.read rest ≡ Some (n.entry, n.more) = ap entry_item.read n.rest_is ∙ entry_item_laws.again n.entry n.more n.fits in
    absurd (let k : None ≡ Some (n.entry, n.more) = sym e ∙ h in cc)

pub done_none : (bytes : List ℕ) (fs : List FunctionTable) (rest : List ℕ) (low i : ℕ) → Keeps bytes fs rest low i → entry_item.read rest ≡ None → FunctionsDone bytes fs rest
done_none bytes fs rest low i k e = record { read = k.read; no_function = no_function _ rest e; no_point = k.no_point }

empty_no_function : (low : ℕ) (rest : List ℕ) → length rest < 1 → NextFunction low rest → ⊥
empty_no_function low rest h n =
    let b = function_begins n.entry in
    let l : length rest ≡ suc (length b.0) + length n.more = ap length n.rest_is ∙ length-append (entry_item.text n.entry) n.more ∙ ap (λ x. length x + length n.more) b.1 in
    omega arith

pub done_empty : (bytes : List ℕ) (fs : List FunctionTable) (rest : List ℕ) (low i : ℕ) → Keeps bytes fs rest low i → length bytes ≤ i → FunctionsDone bytes fs rest
done_empty bytes fs rest low i k h = let r = k.room in record { read = k.read; no_function = empty_no_function _ rest (omega arith); no_point = k.no_point }

pub stop_low : (bytes : List ℕ) (fs : List FunctionTable) (rest : List ℕ) (low i e : ℕ) (tail : List ℕ) → Keeps bytes fs rest low i → entry_item.read rest ≡ Some (e, tail) → e < low → FunctionsStop bytes rest
stop_low bytes fs rest low i e tail k r h = record { listed = k.read.listed; are = k.read.are; bytes_are = k.read.bytes_are; stuck = stuck }
  where
    next : NextFunction (functions_low 0 k.read.listed) rest → ⊥
    next n =
        let q : (e, tail) ≡ (n.entry, n.more) = some_is _ _ (sym r ∙ ap entry_item.read n.rest_is ∙ entry_item_laws.again n.entry n.more n.fits) in
        let same : e ≡ n.entry = ap (λ (x : ℕ × List ℕ). x.0) q in
        let le = n.low_is in
        let low-is = k.low_is in
        omega arith

    last : (more : List ℕ) → rest ≡ last_line ++ more → ⊥
    last more q = last_no_function e tail more (sym q ∙ (entry_item_laws.takes rest e tail r).1)

    stuck : GoesOn 0 k.read.listed rest → ⊥
    stuck g = elim g [ inl a ↦ last a.0 a.1 | inr b ↦ elim b [ inl n ↦ next n | inr p ↦ k.no_point p ] ]

stop_points : (bytes : List ℕ) (fs : List FunctionTable) (rest : List ℕ) (low i e : ℕ) (tail stop : List ℕ) → Keeps bytes fs rest low i → entry_item.read rest ≡ Some (e, tail) → low ≤ e → PointsStop tail stop → FunctionsStop bytes stop
stop_points bytes fs rest low i e tail stop k r h d =
    let t = entry_item_laws.takes rest e tail r in
    let old = k.read in
    record {
      listed = old.listed ++ listed_of e d.listed ∷ [];
      are = are_more 0 old.listed (listed_of e d.listed) old.are (subst (λ x. x ≤ e) k.low_is h) t.0 d.are;
      bytes_are = old.bytes_are ∙ ap (λ x. functions_text old.listed ++ x) (t.1 ∙ ap (λ x. entry_item.text e ++ x) d.bytes_are) ∙ sym (text_more old.listed (listed_of e d.listed) stop);
      stuck = stuck;
    }
  where
    last : (more : List ℕ) → stop ≡ last_line ++ more → ⊥
    last more q = apart_test 97 101 refl (begins 97 101 _ _ (sym d.begins.1 ∙ q))

    next : (low : ℕ) → NextFunction low stop → ⊥
    next low n = let f = function_begins n.entry in apart_test 97 102 refl (begins 97 102 _ _ (sym d.begins.1 ∙ n.rest_is ∙ ap (λ x. x ++ n.more) f.1))

    stuck : GoesOn 0 (k.read.listed ++ listed_of e d.listed ∷ []) stop → ⊥
    stuck g = elim g [ inl a ↦ last a.0 a.1 | inr b ↦ elim b [ inl n ↦ next _ n | inr p ↦ d.stuck (point_more k.read.listed (listed_of e d.listed) stop p) ] ]

pub stopped_points : (bytes : List ℕ) (fs : List FunctionTable) (rest : List ℕ) (low i e : ℕ) (tail : List ℕ) (s : Stop) → Keeps bytes fs rest low i → entry_item.read rest ≡ Some (e, tail) → low ≤ e → PointsStopped tail s → FunctionsStopped bytes s
stopped_points bytes fs rest low i e tail (stops.Memory refused) k r h d = tt
stopped_points bytes fs rest low i e tail (stops.At left) k r h d = (d.0, d.1, stop_points bytes fs rest low i e tail d.0 k r h d.2)
