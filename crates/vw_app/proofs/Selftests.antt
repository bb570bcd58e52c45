-- From the verdict on a module that was made, and from its report, to what a test of the program answers.
use Rattle.std.proofs.Common.{◌≡◌, ℕ, List, length, Some, None, sym, ◌∙◌, ap, subst}
use Rattle.std.specs.Prelude.{Result, Ok, Err, IfOk}
use Rattle.vw_bits.specs.declared.memory.OutOfMemory.{OutOfMemory}
use Rattle.vw_layout.specs.declared.functions.Function.{Function}
use Rattle.vw_layout.specs.declared.layout.Module.{Module}
use Rattle.vw_layout.specs.Layout.{module_fault, IsModuleOf}
use Rattle.vw_state.specs.declared.tables.Tables.{Tables}
use Rattle.vw_state.specs.declared.tables.Verdict.TheVariants as verdict
use Rattle.vw_machine.specs.Module.{declared_module}
use Rattle.vw_sandbox.specs.Sandboxed.{IsSandboxedFile}
use Rattle.vw_verdict.specs.Verdicts.{IsVerdict}
use Rattle.vw_app.specs.declared.status.Status.{Status}
use Rattle.vw_app.specs.Judged.{Judged, safe}
use Rattle.vw_app.specs.Lines.{malformed_line, selftest_line}
use Rattle.vw_app.specs.Selftest.{made_file, number_of_states, IsTestedLine, SelfTested, malformed, judged}
use Rattle.vw_app.proofs.Answers.{module_is, bytes_of}

pub safe_tested : (m : Module) (tables : Tables) (lent : List Function) (states : ℕ) (text : List ℕ) → IsVerdict m (verdict.Safe tables) → lent ≡ m.functions
    → states ≡ number_of_states tables.functions → text ≡ selftest_line (length lent) states → Judged m (IsTestedLine m) 0 text
safe_tested m tables lent states text is same counted made =
    safe text is.0 (record {
      tables = tables;
      least = is.1;
      printed = made ∙ (ap (λ (functions : List Function). selftest_line (length functions) states) same ∙ ap (λ (n : ℕ). selftest_line (length m.functions) n) counted);
    })

tested : (functions number : ℕ) (file : List ℕ) (m : Module) (status : ℕ) (text : List ℕ) → file ≡ made_file functions number → IsModuleOf file m
    → Judged m (IsTestedLine m) status text → SelfTested functions number status text
tested functions number file m status text same of is =
    let declared : Judged (declared_module file) (IsTestedLine (declared_module file)) status text = subst (λ (n : Module). Judged n (IsTestedLine n) status text) (module_is file m of) is in
    judged status text
    (subst (λ (bytes : List ℕ). module_fault bytes ≡ None) same of.rules)
    (subst (λ (bytes : List ℕ). Judged (declared_module bytes) (IsTestedLine (declared_module bytes)) status text) same declared)

abbrev Answer : Type 0
Answer = Result (Status × List ℕ) OutOfMemory

pub all_tested : (functions number : ℕ) (file : List ℕ) (m : Module) (result : Answer) → file ≡ made_file functions number → IsModuleOf file m
    → IfOk result (λ reply. Judged m (IsTestedLine m) reply.0.0 reply.1) → IfOk result (λ reply. SelfTested functions number reply.0.0 reply.1)
all_tested functions number file m (Ok reply) same of is = tested functions number file m reply.0.0 reply.1 same of is
all_tested functions number file m (Err refused) same of is = tt

pub all_sandboxed : (functions number : ℕ) (file : List ℕ) (m : Module) (result : Answer) → file ≡ made_file functions number → IsModuleOf file m
    → IfOk result (λ reply. reply.0.0 ≡ 0 → IsSandboxedFile m.image.bytes) → IfOk result (λ reply. reply.0.0 ≡ 0 → IsSandboxedFile (made_file functions number))
all_sandboxed functions number file m (Ok reply) same of stays = λ zero. subst IsSandboxedFile (bytes_of file m of ∙ same) (stays zero)
all_sandboxed functions number file m (Err refused) same of stays = tt

pub broken : (functions number : ℕ) (file : List ℕ) (rule offset : ℕ) (text : List ℕ) → file ≡ made_file functions number → module_fault file ≡ Some (rule, offset)
    → text ≡ malformed_line rule offset → SelfTested functions number 2 text
broken functions number file rule offset text same fault made =
    subst (λ (t : List ℕ). SelfTested functions number 2 t) (sym made)
    (malformed rule offset (subst (λ (bytes : List ℕ). module_fault bytes ≡ Some (rule, offset)) same fault))
