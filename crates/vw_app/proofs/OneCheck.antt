-- A module and the bytes of a report have one answer of `check`.
use Rattle.std.proofs.Common.{◌≡◌, ℕ, zero, suc, ◌+◌, ◌<◌, ◌≤◌, ◌⊎◌, inl, inr, List, [], ◌∷◌, ◌++◌, length, Some, append_assoc, refl, sym, ◌∙◌, ap, subst, arith}
use Rattle.std.specs.Prelude.{Contains}
use Rattle.std.specs.List.{slice_get}
use Rattle.std.proofs.lemmas.Option.{slice_get-get_or}
use Rattle.vw_layout.specs.declared.functions.Function.{Function}
use Rattle.vw_layout.specs.declared.layout.Module.{Module}
use Rattle.vw_state.specs.declared.tables.Place.{Place}
use Rattle.vw_state.specs.declared.tables.Tables.{Tables}
use Rattle.vw_checks.specs.Modules.{AreSafe}
use Rattle.vw_report.specs.Reports.{AreLines, Agrees, IsFault, IsReport, TextsTellTables}
use Rattle.vw_app.specs.Check.{longest_report, IsNameAt, declared, undeclared, IsPlaceLine, Rechecked, accepted, refused, Checked, too_long, faulty, rechecked}
use Rattle.vw_app.specs.Lines.{safe_line, bad_report_line}
use Rattle.vw_app.proofs.Names.{Ascend, by_order}

-- ---- the first line in error

-- the first of some lines
first_lines : (m n : ℕ) (front : List ℕ) → m ≤ n → AreLines n front → (first rest : List ℕ) × AreLines m first × (front ≡ first ++ rest)
first_lines zero n front few are = ([], front, refl, refl)
first_lines (suc m) zero front few are = absurd (omega (arith, few))
first_lines (suc m) (suc n) front few are =
    let more = first_lines m n are.1 (omega (arith, few)) are.3 in
    (are.0 ++ 10 ∷ more.0, more.1, (are.0, more.0, are.2, more.2, refl), are.4 ∙ (ap (λ (l : List ℕ). are.0 ++ 10 ∷ l) more.3 ∙ sym (append_assoc are.0 (10 ∷ more.0) more.1)))

agrees_less : {bytes : List ℕ} (m n : ℕ) → m ≤ n → Agrees bytes n → Agrees bytes m
agrees_less {bytes} m n few a =
    let l = first_lines m n a.front few a.lines in
    record {
      tables = a.tables;
      text = a.text;
      report = a.report;
      front = l.0;
      rest = l.1 ++ a.rest;
      more = l.1 ++ a.more;
      lines = l.2;
      bytes_are = a.bytes_are ∙ (ap (λ (f : List ℕ). f ++ a.rest) l.3 ∙ append_assoc l.0 l.1 a.rest);
      text_is = a.text_is ∙ (ap (λ (f : List ℕ). f ++ a.more) l.3 ∙ append_assoc l.0 l.1 a.more);
    }

fault_once : {bytes : List ℕ} {number other : ℕ} → IsFault bytes number → IsFault bytes other → number ≡ other
fault_once {bytes} {number} {other} one two =
    let same : one.before ≡ two.before = by_order one.before two.before
    (λ less. one.no_further (agrees_less (one.before + 1) two.before (omega (arith, less)) two.agrees))
    (λ less. two.no_further (agrees_less (two.before + 1) one.before (omega (arith, less)) one.agrees)) in
    one.line_is ∙ (ap (λ (n : ℕ). n + 1) same ∙ sym two.line_is)

-- ---- the lowest place

same_place : (e e' a a' c c' : ℕ) → (e < e') ⊎ ((e ≡ e') × ((a < a') ⊎ ((a ≡ a') × (c ≤ c')))) → (e' < e) ⊎ ((e' ≡ e) × ((a' < a) ⊎ ((a' ≡ a) × (c' ≤ c)))) → (e ≡ e') × (a ≡ a') × (c ≡ c')
same_place e e' a a' c c' (inl less) (inl more) = absurd (omega (arith, less, more))
same_place e e' a a' c c' (inl less) (inr same) = absurd (omega (arith, less, same.0))
same_place e e' a a' c c' (inr same) (inl more) = absurd (omega (arith, same.0, more))
same_place e e' a a' c c' (inr (is, inl less)) (inr (is', inl more)) = absurd (omega (arith, less, more))
same_place e e' a a' c c' (inr (is, inl less)) (inr (is', inr same)) = absurd (omega (arith, less, same.0))
same_place e e' a a' c c' (inr (is, inr same)) (inr (is', inl more)) = absurd (omega (arith, same.0, more))
same_place e e' a a' c c' (inr (is, inr (at, below))) (inr (is', inr (at', above))) = (is, at, omega (arith, below, above))

module _ (m : Module) (ascend : Ascend m.functions) where
  function_once : (f g : Function) → Contains m.functions f → Contains m.functions g → f.entry ≡ g.entry → f ≡ g
  function_once f g one two same =
      let is_f : slice_get m.functions one.0 ≡ Some f = slice_get-get_or m.functions one.0 f one.1 ∙ ap Some one.2 in
      let is_g : slice_get m.functions two.0 ≡ Some g = slice_get-get_or m.functions two.0 g two.1 ∙ ap Some two.2 in
      let number : one.0 ≡ two.0 = by_order one.0 two.0
      (λ less. let order = ascend one.0 two.0 f g is_f is_g less in omega (arith, order, same))
      (λ less. let order = ascend two.0 one.0 g f is_g is_f less in omega (arith, order, same)) in
      let some : Some f ≡ Some g = sym is_f ∙ (ap (λ (k : ℕ). slice_get m.functions k) number ∙ is_g) in
      cc

  name_once : {entry : ℕ} {name other : List ℕ} → IsNameAt m entry name → IsNameAt m entry other → name ≡ other
  name_once (declared f listed at) (declared g listed' at') = ap (λ (h : Function). h.name) (function_once f g listed listed' (at ∙ sym at'))
  name_once (declared f listed at) (undeclared none) = absurd (none f listed at)
  name_once (undeclared none) (declared f listed at) = absurd (none f listed at)
  name_once (undeclared none) (undeclared none') = refl

  line_once : (p q : Place) (text other : List ℕ) → p.entry ≡ q.entry → p.at ≡ q.at → p.check ≡ q.check → IsPlaceLine m p text → IsPlaceLine m q other → text ≡ other
  line_once p q text other e a c one two =
      let name : one.name ≡ two.name = name_once one.named (subst (λ (n : ℕ). IsNameAt m n two.name) (sym e) two.named) in
      one.is ∙ (rw (name, a, c) (sym two.is))

  rechecked_once : (tables : Tables) {status other : ℕ} {text other_text : List ℕ} → Rechecked m tables status text → Rechecked m tables other other_text → (status ≡ other) × (text ≡ other_text)
  rechecked_once tables (accepted safe) (accepted safe') = (refl, refl)
  rechecked_once tables (accepted safe) (refused place text unsafe lowest line) = absurd (unsafe safe)
  rechecked_once tables (refused place text unsafe lowest line) (accepted safe) = absurd (unsafe safe)
  rechecked_once tables (refused p text unsafe lowest line) (refused q other unsafe' lowest' line') =
      let same = same_place p.entry q.entry p.at q.at p.check q.check (lowest.1 q.entry q.at q.check lowest'.0) (lowest'.1 p.entry p.at p.check lowest.0) in
      (refl, line_once p q text other same.0 same.1 same.2 line line')

  pub checked_once : TextsTellTables → (report : List ℕ) {status other : ℕ} {text other_text : List ℕ} → Checked m report status text → Checked m report other other_text → (status ≡ other) × (text ≡ other_text)
  checked_once tell report (too_long long) (too_long long') = (refl, refl)
  checked_once tell report (too_long long) (faulty number within fault) = absurd (omega (arith, long, within))
  checked_once tell report (too_long long) (rechecked tables status text within printed is) = absurd (omega (arith, long, within))
  checked_once tell report (faulty number within fault) (too_long long) = absurd (omega (arith, long, within))
  checked_once tell report (faulty number within fault) (faulty number' within' fault') = (refl, ap bad_report_line (fault_once fault fault'))
  checked_once tell report (faulty number within fault) (rechecked tables status text within' printed is) = absurd (fault.no_report tables printed)
  checked_once tell report (rechecked tables status text within printed is) (too_long long) = absurd (omega (arith, long, within))
  checked_once tell report (rechecked tables status text within printed is) (faulty number within' fault) = absurd (fault.no_report tables printed)
  checked_once tell report (rechecked tables status text within printed is) (rechecked tables' status' text' within' printed' is') =
      let same : tables' ≡ tables = tell tables' tables report printed' printed in
      rechecked_once tables is (subst (λ (t : Tables). Rechecked m t status' text') same is')

-- a report of safe tables is accepted
pub checked_safe : (m : Module) (tables : Tables) (report : List ℕ) {status : ℕ} {text : List ℕ} → TextsTellTables → length report ≤ longest_report → IsReport tables report → AreSafe m tables → Checked m report status text → (status ≡ 0) × (text ≡ safe_line (length m.functions))
checked_safe m tables report tell within printed safe (too_long long) = absurd (omega (arith, long, within))
checked_safe m tables report tell within printed safe (faulty number within' fault) = absurd (fault.no_report tables printed)
checked_safe m tables report {status} {text} tell within printed safe (rechecked tables' status' text' within' printed' is) =
    let same : tables' ≡ tables = tell tables' tables report printed' printed in
    by_safe (subst (λ (t : Tables). Rechecked m t status text) same is)
  where
    by_safe : {s : ℕ} {t : List ℕ} → Rechecked m tables s t → (s ≡ 0) × (t ≡ safe_line (length m.functions))
    by_safe (accepted also) = (refl, refl)
    by_safe (refused place line unsafe lowest is_line) = absurd (unsafe safe)
