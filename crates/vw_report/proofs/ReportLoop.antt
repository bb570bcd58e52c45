-- The whole text.
use Rattle.std.proofs.Common.{◌≡◌, ℕ, suc, ◌+◌, List, [], ◌∷◌, ◌++◌, length, Some, None, refl, sym, ap, subst, ◌∙◌, append_assoc, arith, inl, inr}
use Rattle.std.proofs.lemmas.List.{append-nil}
use Rattle.vw_state.specs.declared.tables.FunctionTable.{FunctionTable}
use Rattle.vw_report.specs.declared.read_tables.Stop.{Stop}
use Rattle.vw_report.specs.declared.read_tables.Stop.TheVariants as stops
use Rattle.vw_report.specs.Lines.{ListedFunction, first_line, last_line}
use Rattle.vw_report.specs.Items.{after}
use Rattle.vw_report.specs.Reports.{AreLines, IsReport}
use Rattle.vw_report.specs.Listings.{AreFunctionItems, FaultAt, FunctionsDone, FunctionsStopped, GoesOn, ReportStopped, functions_text, listing_text}
use Rattle.vw_report.proofs.ItemLaws.{after_takes, after_again}
use Rattle.vw_report.proofs.FaultLaws.{Lined, lines_one, functions_lined, first_line_is_line, last_is_line, fault_stuck, fault_first_line, fault_after}
use Rattle.vw_report.proofs.Conversions.{fault_of, report_of}

pub no_first_line : (bytes : List ℕ) → after first_line bytes ≡ None → FaultAt bytes bytes
no_first_line bytes e = record { front = []; count = 0; bytes_are = refl; lines = refl; fault = fault_of bytes 1 (fault_first_line bytes e) }

front_lined : (fs : List ListedFunction) (rest : List ℕ) → AreFunctionItems 0 fs → Lined rest → Lined (first_line ++ (functions_text fs ++ rest))
front_lined fs rest a l = let t = functions_lined 0 fs rest a l in record { count = suc t.count; lines = lines_one first_line (functions_text fs ++ rest) t.count first_line_is_line t.lines }

stuck_at : (bytes rest stop : List ℕ) (fs : List ListedFunction) → after first_line bytes ≡ Some rest → AreFunctionItems 0 fs → rest ≡ functions_text fs ++ stop → (GoesOn 0 fs stop → ⊥) → FaultAt bytes stop
stuck_at bytes rest stop fs e a r stuck =
    let l : Lined (first_line ++ (functions_text fs ++ [])) = front_lined fs [] a (record { count = 0; lines = refl }) in
    let lines : AreLines l.count (first_line ++ functions_text fs) = subst (λ x. AreLines l.count (first_line ++ x)) (append-nil (functions_text fs)) l.lines in
    let b : bytes ≡ (first_line ++ functions_text fs) ++ stop = after_takes first_line bytes rest e ∙ ap (λ x. first_line ++ x) r ∙ sym (append_assoc first_line (functions_text fs) stop) in
    record { front = first_line ++ functions_text fs; count = l.count; bytes_are = b; lines = lines; fault = fault_of bytes (l.count + 1) (fault_stuck bytes stop fs l.count a b lines stuck) }

pub functions_stopped : (bytes rest : List ℕ) (s : Stop) → after first_line bytes ≡ Some rest → FunctionsStopped rest s → ReportStopped bytes s
functions_stopped bytes rest (stops.Memory refused) e h = tt
functions_stopped bytes rest (stops.At left) e h = (h.0, h.1, stuck_at bytes rest h.0 h.2.listed e h.2.are h.2.bytes_are h.2.stuck)

pub no_end : (bytes rest on : List ℕ) (fs : List FunctionTable) → after first_line bytes ≡ Some rest → FunctionsDone rest fs on → after last_line on ≡ None → FaultAt bytes on
no_end bytes rest on fs e d n = stuck_at bytes rest on d.read.listed e d.read.are d.read.bytes_are stuck
  where
    last : (more : List ℕ) → on ≡ last_line ++ more → ⊥
    last more q = let h : after last_line on ≡ Some more = ap (after last_line) q ∙ after_again last_line more in absurd (let k : None ≡ Some more = sym n ∙ h in cc)

    stuck : GoesOn 0 d.read.listed on → ⊥
    stuck g = elim g [ inl a ↦ last a.0 a.1 | inr b ↦ elim b [ inl f ↦ d.no_function f | inr p ↦ d.no_point p ] ]

whole_text : (bytes rest on tail : List ℕ) (fs : List FunctionTable) → after first_line bytes ≡ Some rest → (d : FunctionsDone rest fs on) → after last_line on ≡ Some tail → bytes ≡ listing_text d.read.listed ++ tail
whole_text bytes rest on tail fs e d n =
    after_takes first_line bytes rest e ∙ ap (λ x. first_line ++ x) (d.read.bytes_are ∙ ap (λ x. functions_text d.read.listed ++ x) (after_takes last_line on tail n) ∙ sym (append_assoc (functions_text d.read.listed) last_line tail))
    ∙ sym (append_assoc first_line (functions_text d.read.listed ++ last_line) tail)

pub whole_report : (bytes rest on tail : List ℕ) (fs : List FunctionTable) → after first_line bytes ≡ Some rest → FunctionsDone rest fs on → after last_line on ≡ Some tail → length tail ≡ 0 → IsReport (record { functions = fs }) bytes
whole_report bytes rest on [] fs e d n z = report_of fs d.read.listed bytes d.read.same d.read.are d.read.states (whole_text bytes rest on [] fs e d n ∙ append-nil _)
whole_report bytes rest on (b ∷ tail) fs e d n z = absurd (omega arith)

pub behind_end : (bytes rest on tail : List ℕ) (fs : List FunctionTable) → after first_line bytes ≡ Some rest → FunctionsDone rest fs on → after last_line on ≡ Some tail → (length tail ≡ 0 → ⊥) → FaultAt bytes tail
behind_end bytes rest on [] fs e d n z = absurd (z refl)
behind_end bytes rest on (b ∷ tail) fs e d n z =
    let ls : List ListedFunction = d.read.listed in
    let l : Lined (first_line ++ (functions_text ls ++ (last_line ++ []))) = front_lined ls (last_line ++ []) d.read.are (record { count = 1; lines = lines_one last_line [] 0 last_is_line refl }) in
    let lines : AreLines l.count (listing_text ls) = l.lines in
    let w = whole_text bytes rest on (b ∷ tail) fs e d n in
    record { front = listing_text ls; count = l.count; bytes_are = w; lines = lines; fault = fault_of bytes (l.count + 1) (fault_after bytes tail b ls l.count d.read.are w lines) }
