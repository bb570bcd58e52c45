-- From the answers of the calls that read and look at a report to what `check` answers.
use Rattle.std.proofs.Common.{◌≡◌, ℕ, suc, ◌^◌, ◌<◌, ◌≤◌, inl, inr, Bool, Result, Ok, Err, IfOk, List, [], ◌∷◌, length, Option, Some, None, IfSome, replicate, refl, sym, ◌∙◌, ap, subst, arith, lit<}
use Rattle.std.specs.Prelude.{◌↔◌}
use Rattle.std.proofs.Math.ListN.{length-replicate}
use Rattle.vw_bits.specs.declared.memory.OutOfMemory.{OutOfMemory}
use Rattle.vw_layout.specs.declared.functions.Function.{Function}
use Rattle.vw_layout.specs.declared.layout.Module.{Module}
use Rattle.vw_layout.specs.Layout.{module_fault, IsModuleOf, IsWhole}
use Rattle.vw_rows.specs.Numbers.{IsBytes}
use Rattle.vw_state.specs.declared.tables.FunctionTable.{FunctionTable}
use Rattle.vw_state.specs.declared.tables.Place.{Place}
use Rattle.vw_state.specs.declared.tables.Tables.{Tables}
use Rattle.vw_checks.specs.Modules.{AreSafe}
use Rattle.vw_recheck.specs.Places.{Ascend, IsLowestPlace}
use Rattle.vw_report.specs.Reports.{AreFunctions, IsReport, IsFault}
use Rattle.vw_machine.specs.Module.{declared_module, module_of}
use Rattle.vw_outside.specs.Shelf.{Rose}
use Rattle.vw_sandbox.specs.MapOf.{map_of}
use Rattle.vw_sandbox.specs.Maps.{IsSandboxedBy}
use Rattle.vw_app.specs.declared.status.Status.{Status}
use Rattle.vw_app.specs.Answer.{AreTold, ReadFailed, ReportAnswered, report_unread, report_read, FileAnswered, no_module, of_module, CheckAnswered, file_unread, file_read}
use Rattle.vw_app.specs.Check.{longest_report, IsPlaceLine, Rechecked, accepted, refused, Checked, too_long, faulty, rechecked, IsSandboxedByReport}
use Rattle.vw_app.specs.Lines.{safe_line, read_fault_line, malformed_line, bad_report_line}
use Rattle.vw_app.proofs.Answers.{module_is, bytes_of, too_long_file}
use Rattle.vw_app.proofs.Least.{declared_is}
use Rattle.vw_app.proofs.Told.{SandboxLaw}

abbrev Answer : Type 0
Answer = Result (Status × List ℕ) OutOfMemory

IfOk-map : {T E : Type 0} {P Q : T → Type 0} (r : Result T E) → ((x : T) → P x → Q x) → IfOk r P → IfOk r Q
IfOk-map (Ok x) f holds = f x holds
IfOk-map (Err e) f holds = tt

IfOk-both : {T E : Type 0} {P Q R : T → Type 0} (r : Result T E) → ((x : T) → P x → Q x → R x) → IfOk r P → IfOk r Q → IfOk r R
IfOk-both (Ok x) f holds also = f x holds also
IfOk-both (Err e) f holds also = tt

-- ---- tables

-- the entries of a report ascend
pub entries_ascend : (low : ℕ) (functions : List FunctionTable) → AreFunctions low functions → Ascend (λ (t : FunctionTable). t.entry) low functions
entries_ascend low [] are = tt
entries_ascend low (f ∷ fs) are = (are.0, entries_ascend (suc f.entry) fs are.3)

module _ (m : Module) (tables : Tables) where
  pub tables_accepted : (lent : List Function) (text : List ℕ) → ((◌≡◌ {A = Option Place} None None) ↔ AreSafe m tables) → lent ≡ m.functions → text ≡ safe_line (length lent) → Rechecked m tables 0 text
  tables_accepted lent text safe same made =
      subst (λ (t : List ℕ). Rechecked m tables 0 t) (sym (made ∙ ap (λ (fs : List Function). safe_line (length fs)) same)) (accepted (safe.0 refl))

  pub tables_refused : (place : Place) (text : List ℕ) → (Some place ≡ None ↔ AreSafe m tables) → IsLowestPlace m tables (Some place) → IsPlaceLine m place text → Rechecked m tables 1 text
  tables_refused place text safe lowest line = refused place text (λ are. absurd (let none : Some place ≡ None = safe.1 are in cc)) lowest line

  pub accepted_sandboxed : SandboxLaw → IsWhole m → IsBytes m.image.bytes → ((◌≡◌ {A = Option Place} None None) ↔ AreSafe m tables) → IsSandboxedBy (module_of m.image.bytes) (map_of (declared_module m.image.bytes) tables)
  accepted_sandboxed law whole bytes safe =
      law m.image.bytes tables whole.rules bytes (subst (λ (n : Module). AreSafe n tables) (sym (declared_is m whole)) (safe.0 refl))

  -- status 0 says that tables are safe
  pub safe_by_status : {status : ℕ} {text : List ℕ} → Rechecked m tables status text → status ≡ 0 → AreSafe m tables
  safe_by_status (accepted safe) zero = safe
  safe_by_status (refused place text unsafe lowest line) zero = absurd (omega arith)

-- ---- the bytes of a report

module _ (m : Module) (report : List ℕ) where
  pub report_rechecked : (tables : Tables) (result : Answer) → length report ≤ longest_report → IsReport tables report → IfOk result (λ reply. Rechecked m tables reply.0.0 reply.1) → IfOk result (λ reply. Checked m report reply.0.0 reply.1)
  report_rechecked tables result within printed found = IfOk-map result (λ reply is. rechecked tables reply.0.0 reply.1 within printed is) found

  pub report_faulty : (number : ℕ) (text : List ℕ) → length report ≤ longest_report → IsFault report number → text ≡ bad_report_line number → Checked m report 7 text
  report_faulty number text within fault made = subst (λ (t : List ℕ). Checked m report 7 t) (sym made) (faulty number within fault)

  pub report_sandboxed : (tables : Tables) (result : Answer) → IsWhole m → IsReport tables report → IfOk result (λ reply. Rechecked m tables reply.0.0 reply.1)
      → IfOk result (λ reply. reply.0.0 ≡ 0 → IsSandboxedBy (module_of m.image.bytes) (map_of (declared_module m.image.bytes) tables))
      → IfOk result (λ reply. reply.0.0 ≡ 0 → IsSandboxedByReport m.image.bytes report)
  report_sandboxed tables result whole printed found stays =
      IfOk-both result
      (λ reply is kept zero.
      record {
        rules = whole.rules;
        tables = tables;
        printed = printed;
        are_safe = subst (λ (n : Module). AreSafe n tables) (sym (declared_is m whole)) (safe_by_status m tables is zero);
        sandboxed = kept zero;
      })
      found stays

-- ---- a report on a module

-- a report of so many zero bytes
zeros : ℕ → List ℕ
zeros n = replicate n 0

length-zeros : (n : ℕ) → length (zeros n) ≡ n
unfolding zeros
length-zeros n = length-replicate {A = ℕ} n 0

longer : (n : ℕ) → longest_report < n → longest_report < length (zeros n)
longer n long = omega (arith, length-zeros n)

-- some report that is as long as was read, where its bytes are not told
long_report : (told : Option (List ℕ)) → IfSome told (λ bytes. longest_report < length bytes) → (report : List ℕ) × AreTold told report × (longest_report < length report)
long_report None long = (zeros 536870913, tt, longer 536870913 (lit< tt))
long_report (Some bytes) long = (bytes, refl, long)

module _ (m : Module) (told : Option (List ℕ)) (fault : Type 0) where
  pub told_report : (report : List ℕ) (result : Answer) → AreTold told report → IfOk result (λ reply. Checked m report reply.0.0 reply.1) → IfOk result (λ reply. ReportAnswered m told fault reply.0.0 reply.1)
  told_report report result is_told found = IfOk-map result (λ reply is. report_read report reply.0.0 reply.1 is_told is) found

  pub report_fault : (text : List ℕ) → fault → text ≡ read_fault_line → ReportAnswered m told fault 4 text
  report_fault text failed made = subst (λ (t : List ℕ). ReportAnswered m told fault 4 t) (sym made) (report_unread failed)

  pub report_too_long : (text : List ℕ) → IfSome told (λ bytes. longest_report < length bytes) → text ≡ bad_report_line 0 → ReportAnswered m told fault 7 text
  report_too_long text long made =
      let r = long_report told long in
      subst (λ (t : List ℕ). ReportAnswered m told fault 7 t) (sym made) (report_read r.0 7 (bad_report_line 0) r.1 (too_long r.2))

-- what status 0 says of a told report
abbrev pub HasSafeReport : Option (List ℕ) → List ℕ → Type 0
HasSafeReport told file = (bytes : List ℕ) × AreTold told bytes × IsSandboxedByReport file bytes

pub told_sandboxed : (told : Option (List ℕ)) (file report : List ℕ) (result : Answer) → AreTold told report → IfOk result (λ reply. reply.0.0 ≡ 0 → IsSandboxedByReport file report) → IfOk result (λ reply. reply.0.0 ≡ 0 → HasSafeReport told file)
told_sandboxed told file report result is_told stays = IfOk-map result (λ reply kept zero. (report, is_told, kept zero)) stays

-- ---- the bytes of a file

module _ (file : List ℕ) (told : Option (List ℕ)) (fault : Type 0) where
  pub file_module : (m : Module) (result : Answer) → IsModuleOf file m → IfOk result (λ reply. ReportAnswered m told fault reply.0.0 reply.1) → IfOk result (λ reply. FileAnswered file told fault reply.0.0 reply.1)
  file_module m result of found =
      IfOk-map result (λ reply is. of_module reply.0.0 reply.1 of.rules (subst (λ (n : Module). ReportAnswered n told fault reply.0.0 reply.1) (module_is file m of) is)) found

  pub file_refused : (rule offset : ℕ) (text : List ℕ) → module_fault file ≡ Some (rule, offset) → text ≡ malformed_line rule offset → FileAnswered file told fault 2 text
  file_refused rule offset text broken made = subst (λ (t : List ℕ). FileAnswered file told fault 2 t) (sym made) (no_module rule offset broken)

pub file_sandboxed : (told : Option (List ℕ)) (file : List ℕ) (m : Module) (result : Answer) → IsModuleOf file m → IfOk result (λ reply. reply.0.0 ≡ 0 → HasSafeReport told m.image.bytes) → IfOk result (λ reply. reply.0.0 ≡ 0 → HasSafeReport told file)
file_sandboxed told file m result of stays =
    IfOk-map result (λ reply kept zero. subst (λ (f : List ℕ). HasSafeReport told f) (bytes_of file m of) (kept zero)) stays

pub never_two : (A : Status × List ℕ → Type 0) (result : Answer) → IfOk result (λ reply. reply.0.0 ≡ 2 → ⊥) → IfOk result (λ reply. reply.0.0 ≡ 2 → A reply)
never_two A result never = IfOk-map result (λ reply not two. absurd (not two)) never

-- ---- a file and a report

-- what failed in a part of the time failed in the whole
rose_before : (before between after : ℕ) → before ≤ between → Rose between after → Rose before after
rose_before before between after never_fell (inl rose) = inl (omega (arith, never_fell, rose))
rose_before before between after never_fell (inr full) = inr full

pub failed_before : (before between after : ℕ) (opened : Option (List ℕ)) (failed : Bool) (name : List ℕ) → before ≤ between → ReadFailed between after opened failed name → ReadFailed before after opened failed name
failed_before before between after opened failed name never_fell is = (rose_before before between after never_fell is.0, is.1, is.2)

report_answered_map : {m : Module} {told other : Option (List ℕ)} {fault other_fault : Type 0} {status : ℕ} {text : List ℕ} → told ≡ other → (fault → other_fault) → ReportAnswered m told fault status text → ReportAnswered m other other_fault status text
report_answered_map same also (report_unread failed) = report_unread (also failed)
report_answered_map same also (report_read report status text is_told is) = report_read report status text (subst (λ (t : Option (List ℕ)). AreTold t report) same is_told) is

file_answered_map : {file : List ℕ} {told other : Option (List ℕ)} {fault other_fault : Type 0} {status : ℕ} {text : List ℕ} → told ≡ other → (fault → other_fault) → FileAnswered file told fault status text → FileAnswered file other other_fault status text
file_answered_map same also (no_module rule offset broken) = no_module rule offset broken
file_answered_map same also (of_module status text rules is) = of_module status text rules (report_answered_map same also is)

module _ (told : List ℕ → Option (List ℕ)) (fault : List ℕ → Type 0) (name report : List ℕ) where
  pub told_file : (file : List ℕ) (between : Option (List ℕ)) (other_fault : Type 0) (result : Answer) → AreTold (told name) file → between ≡ told report → (other_fault → fault report) → IfOk result (λ reply. FileAnswered file between other_fault reply.0.0 reply.1)
      → IfOk result (λ reply. CheckAnswered told fault name report reply.0.0 reply.1)
  told_file file between other_fault result is_told same also found =
      IfOk-map result (λ reply is. file_read file reply.0.0 reply.1 is_told (file_answered_map same also is)) found

  pub file_fault : (text : List ℕ) → fault name → text ≡ read_fault_line → CheckAnswered told fault name report 4 text
  file_fault text failed made = subst (λ (t : List ℕ). CheckAnswered told fault name report 4 t) (sym made) (file_unread failed)

  pub file_too_long : (text : List ℕ) → IfSome (told name) (λ bytes. 2 ^ 26 < length bytes) → text ≡ malformed_line 1 67108864 → CheckAnswered told fault name report 2 text
  file_too_long text long made =
      let f = too_long_file (told name) long in
      subst (λ (t : List ℕ). CheckAnswered told fault name report 2 t) (sym made) (file_read f.0 2 (malformed_line 1 67108864) f.1 (no_module 1 67108864 f.2))

pub both_sandboxed : (told : List ℕ → Option (List ℕ)) (name report file : List ℕ) (between : Option (List ℕ)) (result : Answer) → AreTold (told name) file → between ≡ told report → IfOk result (λ reply. reply.0.0 ≡ 0 → HasSafeReport between file)
    → IfOk result (λ reply. reply.0.0 ≡ 0 → (file bytes : List ℕ) × AreTold (told name) file × AreTold (told report) bytes × IsSandboxedByReport file bytes)
both_sandboxed told name report file between result is_told same stays =
    IfOk-map result
    (λ reply kept zero. let k = kept zero in (file, k.0, is_told, subst (λ (t : Option (List ℕ)). AreTold t k.0) same k.1, k.2))
    stays

pub then_unread : (opened middle : Option (List ℕ)) (name : List ℕ) (result : Answer) → middle ≡ Some name → IfOk result (λ reply. reply.0.0 ≡ 2 → opened ≡ middle) → IfOk result (λ reply. reply.0.0 ≡ 2 → opened ≡ Some name)
then_unread opened middle name result named stays = IfOk-map result (λ reply same two. same two ∙ named) stays
