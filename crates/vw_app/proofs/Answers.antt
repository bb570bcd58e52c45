-- From the parts of the program to the answer.
use Rattle.std.proofs.Common.{◌≡◌, ◌≢◌, ℕ, ◌^◌, ◌<◌, Bool, false, nat_le, Result, Ok, Err, IfOk, List, [], ◌∷◌, length, codes, get_or, Option, Some, None, IfSome, replicate, refl, sym, ◌∙◌, ap, subst, arith, lit<}
use Rattle.std.specs.Fmt.{decimal}
use Rattle.std.proofs.lemmas.Bool.Decides.{nat_tests}
use Rattle.std.proofs.lemmas.Fmt.{decimal_injective}
use Rattle.std.proofs.Math.ListN.{length-replicate}
use Rattle.vw_bits.specs.HeaderRules.{header_fault, header_rules}
use Rattle.vw_bits.specs.declared.memory.OutOfMemory.{OutOfMemory}
use Rattle.vw_dynamic.specs.Dynamic.{file_imports}
use Rattle.vw_image.specs.Image.{Contents, image_of}
use Rattle.vw_layout.specs.declared.functions.Function.{Function}
use Rattle.vw_layout.specs.declared.layout.Module.{Module}
use Rattle.vw_rows.specs.Numbers.{IsBytes}
use Rattle.vw_layout.specs.Layout.{module_fault, declared_functions, declared_tables, IsModuleOf, IsWhole}
use Rattle.vw_app.specs.declared.status.Status.{Status}
use Rattle.vw_app.specs.declared.request.Command.{Command}
use Rattle.vw_app.specs.declared.request.Command.TheVariants as command
use Rattle.vw_app.specs.Lines.{malformed_line, unsafe_line, info_text}
use Rattle.vw_outside.specs.Shelf.{Rose}
use Rattle.vw_checks.specs.Modules.{EachHasSafeTable}
use Rattle.vw_machine.specs.Module.{declared_module}
use Rattle.vw_sandbox.specs.Sandboxed.{IsSandboxedFile}
use Rattle.vw_report.specs.Reports.{TablesHaveOneText}
use Rattle.vw_app.specs.Answer.{Reply, WithoutFile, usage, generated, tested, without_file, read_fault, AsksNumbers, AsksModule, AsksTest, IsForm, of_file, of_numbers, of_test, answered, checked, AsksCheck, of_files, CheckAnswered, file_unread, file_read, FileAnswered, no_module, of_module, ReportAnswered, report_unread, report_read, Answered, malformed, done, Judged, IsSafeLine, IsLeastReport, safe, unsafe, Asks, AreTold, ReadFailed, Done, Judges, word, IsAccepted, IsAcceptedText}
use Rattle.vw_app.specs.Check.{Checked, IsSandboxedByReport}
use Rattle.vw_app.specs.Listing.{IsListing}
use Rattle.vw_app.specs.Selftest.{made_file, SelfTested}
use Rattle.vw_app.proofs.Least.{OneLeast, OneLeastIn, SitesLaw, one_least_in}
use Rattle.vw_app.proofs.Listings.{OneSpelling, listing_once}
use Rattle.vw_app.proofs.Places.{one_place}
use Rattle.vw_app.proofs.Reports.{reports_once}

module _ (Answers : ℕ → List ℕ → Type 0) (Wrote : List ℕ → Type 0) where
  -- the answer that was written whole
  pub replied : (result status : Status) (text : List ℕ) → Answers status.0 text → (result.0 ≢ 5 → (result ≡ status) × Wrote text) → result.0 ≢ 5 → result.0 ≢ 6 → (text : List ℕ) × Wrote text × Answers result.0 text
  replied result status text reply written not_five not_six =
      let whole = written not_five in
      (text, whole.1, subst (λ (s : Status). Answers s.0 text) (sym whole.0) reply)

  -- the answer that was not written whole
  pub cut_short : (result : ℕ) (status : Status) (text : List ℕ) (Counted : Type 0) → Answers status.0 text → (result ≡ 5 → Counted × Wrote text) → result ≡ 5 → Counted × (status : ℕ) × (text : List ℕ) × Wrote text × Answers status text
  cut_short result status text Counted reply failed is = let f = failed is in (f.0, status.0, text, f.1, reply)

-- a file that is longer than a module may be breaks the first rule
long_breaks : (file : List ℕ) → 2 ^ 26 < length file → module_fault file ≡ Some (1, 67108864)
unfolding module_fault header_fault header_rules
long_breaks file long =
    let test : nat_le (length file) 67108864 ≡ false = grind (arith, nat_tests, long) in
    rw test refl

-- a file of so many zero bytes
zeros : ℕ → List ℕ
zeros n = replicate n 0

length-zeros : (n : ℕ) → length (zeros n) ≡ n
unfolding zeros
length-zeros n = length-replicate {A = ℕ} n 0

longer : (n : ℕ) → 2 ^ 26 < n → 2 ^ 26 < length (zeros n)
longer n long = omega (arith, length-zeros n)

-- some file that is as long as was read, where its bytes are not told
pub too_long_file : (told : Option (List ℕ)) → IfSome told (λ bytes. 2 ^ 26 < length bytes) → (file : List ℕ) × AreTold told file × (module_fault file ≡ Some (1, 67108864))
too_long_file None long = (zeros 67108865, tt, long_breaks (zeros 67108865) (longer 67108865 (lit< tt)))
too_long_file (Some bytes) long = (bytes, refl, long_breaks bytes long)

-- the answer to a file that is too long
pub reply_too_long : {words : List (List ℕ)} {fault : List ℕ → Type 0} (made text : List ℕ) (told : List ℕ → Option (List ℕ)) (command : Command) (name : List ℕ) → Asks words command name → IfSome (told name) (λ bytes. 2 ^ 26 < length bytes)
    → made ≡ malformed_line 1 67108864 → text ≡ made → Reply words told fault 2 text
reply_too_long {words} {fault} made text told command name asks long is same =
    let t = too_long_file (told name) long in
    subst (λ (l : List ℕ). Reply words told fault 2 l) (sym (same ∙ is)) (answered command name t.0 2 (malformed_line 1 67108864) asks t.1 (malformed 1 67108864 t.2))

-- the answer to a file that was read, lent piece by piece
pub reply_to : {words : List (List ℕ)} {told : List ℕ → Option (List ℕ)} {fault : List ℕ → Type 0} (command : Command) (name file : List ℕ) (status : ℕ) (made text : List ℕ) → Asks words command name → AreTold (told name) file → text ≡ made → Answered command file status made → Reply words told fault status text
reply_to {words} {told} {fault} command name file status made text asks are_told same answer =
    subst (λ (t : List ℕ). Reply words told fault status t) (sym same) (answered command name file status made asks are_told answer)

same_word : (command other : Command) → word command ≡ word other → command ≡ other
same_word command.Verify command.Verify e = refl
same_word command.Verify command.Report e = absurd (let l : 118 ≡ 114 = ap (λ (w : List ℕ). get_or w 0 0) e in omega (arith, l))
same_word command.Verify command.List e = absurd (let l : 6 ≡ 4 = ap length e in omega (arith, l))
same_word command.Verify command.Info e = absurd (let l : 6 ≡ 4 = ap length e in omega (arith, l))
same_word command.Report command.Verify e = absurd (let l : 114 ≡ 118 = ap (λ (w : List ℕ). get_or w 0 0) e in omega (arith, l))
same_word command.Report command.Report e = refl
same_word command.Report command.List e = absurd (let l : 6 ≡ 4 = ap length e in omega (arith, l))
same_word command.Report command.Info e = absurd (let l : 6 ≡ 4 = ap length e in omega (arith, l))
same_word command.List command.Verify e = absurd (let l : 4 ≡ 6 = ap length e in omega (arith, l))
same_word command.List command.Report e = absurd (let l : 4 ≡ 6 = ap length e in omega (arith, l))
same_word command.List command.List e = refl
same_word command.List command.Info e = absurd (let l : 108 ≡ 105 = ap (λ (w : List ℕ). get_or w 0 0) e in omega (arith, l))
same_word command.Info command.Verify e = absurd (let l : 4 ≡ 6 = ap length e in omega (arith, l))
same_word command.Info command.Report e = absurd (let l : 4 ≡ 6 = ap length e in omega (arith, l))
same_word command.Info command.List e = absurd (let l : 105 ≡ 108 = ap (λ (w : List ℕ). get_or w 0 0) e in omega (arith, l))
same_word command.Info command.Info e = refl

-- the words ask for one thing
same_request : {words : List (List ℕ)} {command other : Command} {name other_name : List ℕ} → Asks words command name → Asks words other other_name → (command ≡ other) × (name ≡ other_name)
same_request {words} {command} {other} {name} {other_name} one two =
    let e : word command ∷ name ∷ [] ≡ word other ∷ other_name ∷ [] = sym one ∙ two in
    let firsts : word command ≡ word other = ap (λ (l : List (List ℕ)). get_or l 0 []) e in
    (same_word command other firsts, ap (λ (l : List (List ℕ)). get_or l 1 []) e)

-- words that ask for a file ask for no module
two_forms : (words : List (List ℕ)) (first : List ℕ) (asked : Command) (name : List ℕ) (functions number : ℕ) → Asks words asked name → AsksNumbers first words functions number → ⊥
two_forms words first asked name functions number asks also = let l : 2 ≡ 3 = ap length (sym asks ∙ also.0) in omega (arith, l)

-- and are answered by it
no_file : (words : List (List ℕ)) (asked : Command) (name : List ℕ) {status : ℕ} {text : List ℕ} → Asks words asked name → WithoutFile words status text → ⊥
no_file words asked name asks (usage none) = none (of_file asked name asks)
no_file words asked name asks (generated functions number also) = two_forms words (codes "make") asked name functions number asks also
no_file words asked name asks (tested functions number status text also is) = two_forms words (codes "selftest") asked name functions number asks also

-- words that ask for a report to be checked ask for no command on one file
two_lengths : (words : List (List ℕ)) (asked : Command) (name file report : List ℕ) → Asks words asked name → AsksCheck words file report → ⊥
two_lengths words asked name file report asks also = let l : 2 ≡ 3 = ap length (sym asks ∙ also) in omega (arith, l)

-- nor for a module
two_words : (words : List (List ℕ)) (file report : List ℕ) (functions number : ℕ) → AsksCheck words file report → AsksModule words functions number → ⊥
two_words words file report functions number asks also =
    let l : 5 ≡ 4 = ap (λ (l : List (List ℕ)). length (get_or l 0 [])) (sym asks ∙ also.0) in omega (arith, l)

-- nor for a test
check_or_test : (words : List (List ℕ)) (file report : List ℕ) (functions number : ℕ) → AsksCheck words file report → AsksTest words functions number → ⊥
check_or_test words file report functions number asks also =
    let l : 5 ≡ 8 = ap (λ (l : List (List ℕ)). length (get_or l 0 [])) (sym asks ∙ also.0) in omega (arith, l)

-- the words ask for a module or for a test
write_or_test : (words : List (List ℕ)) (functions number others other : ℕ) → AsksModule words functions number → AsksTest words others other → ⊥
write_or_test words functions number others other asks also =
    let l : 4 ≡ 8 = ap (λ (l : List (List ℕ)). length (get_or l 0 [])) (sym asks.0 ∙ also.0) in omega (arith, l)

-- and for one
same_numbers : {words : List (List ℕ)} (first : List ℕ) (functions number others other : ℕ) → AsksNumbers first words functions number → AsksNumbers first words others other → (functions ≡ others) × (number ≡ other)
same_numbers {words} first functions number others other asks also =
    let e : first ∷ decimal functions ∷ decimal number ∷ [] ≡ first ∷ decimal others ∷ decimal other ∷ [] = sym asks.0 ∙ also.0 in (
      decimal_injective functions others (omega (arith, asks.2)) (omega (arith, also.2)) (ap (λ (l : List (List ℕ)). get_or l 1 []) e),
      decimal_injective number other asks.3 also.3 (ap (λ (l : List (List ℕ)). get_or l 2 []) e),
    )

-- a module that was made, lent piece by piece
pub module_made : {words : List (List ℕ)} (functions number : ℕ) (file lent : List ℕ) → AsksModule words functions number → file ≡ made_file functions number → lent ≡ file → WithoutFile words 0 lent
module_made {words} functions number file lent asks is same = subst (λ (t : List ℕ). WithoutFile words 0 t) (sym (same ∙ is)) (generated functions number asks)

pub no_form : {words : List (List ℕ)} → ((asked : Command) (name : List ℕ) → Asks words asked name → ⊥) → ((name report : List ℕ) → AsksCheck words name report → ⊥) → ((functions number : ℕ) → AsksTest words functions number → ⊥) → ((functions number : ℕ) → AsksModule words functions number → ⊥) → IsForm words → ⊥
no_form none_read none_checked none_tested none_made (of_file asked name asks) = none_read asked name asks
no_form none_read none_checked none_tested none_made (of_files name report asks) = none_checked name report asks
no_form none_read none_checked none_tested none_made (of_numbers functions number asks) = none_made functions number asks
no_form none_read none_checked none_tested none_made (of_test functions number asks) = none_tested functions number asks

-- the answer of a test, lent piece by piece
pub module_tested : {words : List (List ℕ)} (functions number status : ℕ) (made lent : List ℕ) → AsksTest words functions number → lent ≡ made → SelfTested functions number status made → WithoutFile words status lent
module_tested {words} functions number status made lent asks same is = subst (λ (t : List ℕ). WithoutFile words status t) (sym same) (tested functions number status made asks is)

-- words that ask for another form ask for no test
pub no_test_of_file : {A : Type 0} {words : List (List ℕ)} (asked : Command) (name : List ℕ) (functions number : ℕ) → Asks words asked name → AsksTest words functions number → A
no_test_of_file {A} {words} asked name functions number asks also = absurd (two_forms words (codes "selftest") asked name functions number asks also)

pub no_test_of_files : {A : Type 0} {words : List (List ℕ)} (name report : List ℕ) (functions number : ℕ) → AsksCheck words name report → AsksTest words functions number → A
no_test_of_files {A} {words} name report functions number asks also = absurd (check_or_test words name report functions number asks also)

-- what status 0 of a test says, carried to the words that ask for it
pub safe_test : {words : List (List ℕ)} (result status : Status) (functions number : ℕ) {Rest : Type 0} → AsksTest words functions number
    → (result.0 ≢ 5 → (result ≡ status) × Rest) → (status.0 ≡ 0 → IsSandboxedFile (made_file functions number))
    → (others other : ℕ) → AsksTest words others other → result.0 ≡ 0 → IsSandboxedFile (made_file others other)
safe_test {words} result status functions number asks written found others other also zero =
    let whole = written (λ five. absurd (omega arith)) in
    let same = same_numbers (codes "selftest") functions number others other asks also in
    let sandboxed = found (sym (ap (λ (s : Status). s.0) whole.0) ∙ zero) in
    subst (λ (n : ℕ). IsSandboxedFile (made_file others n)) same.1 (subst (λ (f : ℕ). IsSandboxedFile (made_file f number)) same.0 sandboxed)

-- an answer of status 0, the verdict's, is that of a file that was read
pub safe_reply : {words : List (List ℕ)} (told : List ℕ → Option (List ℕ)) (result status : Status) (asked : Command) (lent file : List ℕ) {Rest : Type 0} → Asks words asked lent → AreTold (told lent) file
    → (result.0 ≢ 5 → (result ≡ status) × Rest) → (Judges asked → status.0 ≡ 0 → IsSandboxedFile file)
    → (other : Command) (name : List ℕ) → Judges other → Asks words other name → result.0 ≡ 0 → (file : List ℕ) × AreTold (told name) file × IsSandboxedFile file
safe_reply {words} told result status asked lent file asks are_told written found other name judges verifies zero =
    let whole = written (λ five. absurd (omega arith)) in
    let same = same_request asks verifies in
    (file, subst (λ (n : List ℕ). AreTold (told n) file) same.1 are_told, found (subst Judges (sym same.0) judges) (sym (ap (λ (s : Status). s.0) whole.0) ∙ zero))

-- an answer of another status is not safe
pub unsafe_reply : {A : Type 0} (result status : Status) {Rest : Type 0} → (status.0 ≡ 0 → ⊥) → (result.0 ≢ 5 → (result ≡ status) × Rest) → result.0 ≡ 0 → A
unsafe_reply result status other written zero =
    let whole = written (λ five. absurd (omega arith)) in
    absurd (other (sym (ap (λ (s : Status). s.0) whole.0) ∙ zero))

apart : {A : Type 0} {x : A} → None ≡ Some x → ⊥
apart e = absurd cc

same_some : {A : Type 0} {x y : A} → Some x ≡ Some y → x ≡ y
same_some e = cc

-- a module has one verdict, where it has one text of a safe module
judged_once : {m : Module} {IsSafeText : List ℕ → Type 0} {status other : ℕ} {text other_text : List ℕ} → OneLeastIn m → ((a b : List ℕ) → IsSafeText a → IsSafeText b → a ≡ b)
    → Judged m IsSafeText status text → Judged m IsSafeText other other_text → (status ≡ other) × (text ≡ other_text)
judged_once one_least once (safe text each is) (safe text' each' is') = (refl, once text text' is is')
judged_once one_least once (safe text each is) (unsafe place fails not_each) = absurd (not_each each)
judged_once one_least once (unsafe place fails not_each) (safe text each is) = absurd (not_each each)
judged_once one_least once (unsafe place fails not_each) (unsafe place' fails' not_each') =
    let once = one_place one_least fails fails' in
    (refl, ap (λ (f : Function). unsafe_line f.name place.at place.check) once.0 ∙ (ap (λ (a : ℕ). unsafe_line fails'.function.name a place.check) once.1 ∙ ap (λ (c : ℕ). unsafe_line fails'.function.name place'.at c) once.2))

done_once : (spelling : OneSpelling) (one_text : TablesHaveOneText) (asked : Command) (file : List ℕ) {status other : ℕ} {text other_text : List ℕ} → OneLeastIn (declared_module file) → Done asked file status text → Done asked file other other_text → (status ≡ other) × (text ≡ other_text)
done_once spelling one_text command.Verify file one_least one two = judged_once {IsSafeText = IsSafeLine (declared_module file)} one_least (λ a b p q. p ∙ sym q) one two
done_once spelling one_text command.Report file one_least one two =
    judged_once {IsSafeText = IsLeastReport (declared_module file)} one_least (λ a b p q. reports_once (declared_module file) a b one_least one_text p q) one two
done_once spelling one_text command.List file {status} {other} {text} {other_text} one_least one two =
    (one.0 ∙ sym two.0, listing_once spelling (declared_module file) text other_text one_least one.1 two.1)
done_once spelling one_text command.Info file one_least one two = (one.0 ∙ sym two.0, one.1 ∙ sym two.1)

same_fault : {r r' o o' : ℕ} → ◌≡◌ {A = Option (ℕ × ℕ)} (Some (r, o)) (Some (r', o')) → malformed_line r o ≡ malformed_line r' o'
same_fault {r} {r'} {o} {o'} e = ap (λ (p : ℕ × ℕ). malformed_line p.0 p.1) (same_some e)

-- the module that a file gives
whole_module : (file : List ℕ) → module_fault file ≡ None → IsWhole (declared_module file)
unfolding image_of
whole_module file is = record { rules = is; functions = refl; tables = refl; image = refl }

image_bytes : (file : List ℕ) → IsBytes file → IsBytes (declared_module file).image.bytes
unfolding image_of
image_bytes file are = are

pub answers_once : OneSpelling → TablesHaveOneText → OneLeast → SitesLaw → (asked : Command) (file : List ℕ) {status other : ℕ} {text other_text : List ℕ} → IsBytes file → Answered asked file status text → Answered asked file other other_text → (status ≡ other) × (text ≡ other_text)
answers_once spelling one_text one sites asked file bytes (malformed rule offset broken) (malformed rule' offset' broken') = (refl, same_fault (sym broken ∙ broken'))
answers_once spelling one_text one sites asked file bytes (malformed rule offset broken) (done status text holds found) = absurd (apart (sym holds ∙ broken))
answers_once spelling one_text one sites asked file bytes (done status text holds found) (malformed rule offset broken) = absurd (apart (sym holds ∙ broken))
answers_once spelling one_text one sites asked file bytes (done status text holds found) (done status' text' holds' found') =
    done_once spelling one_text asked file (one_least_in one sites (declared_module file) (whole_module file holds) (image_bytes file bytes)) found found'

-- what a command says of a module that it accepts
accepted_judged : {m : Module} {IsSafeText : List ℕ → Type 0} {status : ℕ} {text : List ℕ} → EachHasSafeTable m → Judged m IsSafeText status text → (status ≡ 0) × IsSafeText text
accepted_judged each (safe text also is) = (refl, is)
accepted_judged each (unsafe place fails not_each) = absurd (not_each each)

accepted_done : (asked : Command) (file : List ℕ) (status : ℕ) (text : List ℕ) → IsAccepted asked file → Done asked file status text → (status ≡ 0) × IsAcceptedText asked file text
accepted_done command.Verify file status text accepted found = accepted_judged accepted found
accepted_done command.Report file status text accepted found = accepted_judged accepted found
accepted_done command.List file status text accepted found = found
accepted_done command.Info file status text accepted found = found

done_of : {asked : Command} {file : List ℕ} {status : ℕ} {text : List ℕ} → module_fault file ≡ None → Answered asked file status text → Done asked file status text
done_of is (malformed rule offset broken) = absurd (apart (sym is ∙ broken))
done_of is (done status text holds found) = found

-- where the words ask for a command and a file that is told, and the file was read, the command answers its bytes
replied_done : (words : List (List ℕ)) (told : List ℕ → Option (List ℕ)) (fault : List ℕ → Type 0) (asked : Command) (name file : List ℕ) (status : ℕ) (text : List ℕ)
    → Asks words asked name → told name ≡ Some file → (status ≡ 4 → (lent : List ℕ) → fault lent → ⊥) → module_fault file ≡ None → Reply words told fault status text → Done asked file status text
replied_done words told fault asked name file status text asks is_told steady is (without_file status' text' alone) = absurd (no_file words asked name asks alone)
replied_done words told fault asked name file status text asks is_told steady is (read_fault other lent asks' failed) = absurd (steady refl lent failed)
replied_done words told fault asked name file status text asks is_told steady is (answered other lent read status' text' asks' are_told answer) =
    let same = same_request asks' asks in
    let lent_told : told lent ≡ Some file = ap told same.1 ∙ is_told in
    let file_is : read ≡ file = subst (λ (t : Option (List ℕ)). AreTold t read) lent_told are_told in
    let here : Answered asked read status text = subst (λ (c : Command). Answered c read status text) same.0 answer in
    done_of is (subst (λ (b : List ℕ). Answered asked b status text) file_is here)
replied_done words told fault asked name file status text asks is_told steady is (checked lent report status' text' asks' answer) = absurd (two_lengths words asked name lent report asks asks')

pub accepted_reply : (words : List (List ℕ)) (told : List ℕ → Option (List ℕ)) (before after : ℕ) (opened : Option (List ℕ)) (failed : Bool) (asked : Command) (name file : List ℕ) (status : ℕ) (text : List ℕ)
    → Asks words asked name → told name ≡ Some file → (Rose before after → ⊥) → module_fault file ≡ None → IsAccepted asked file
    → Reply words told (ReadFailed before after opened failed) status text → (status ≡ 0) × IsAcceptedText asked file text
accepted_reply words told before after opened failed asked name file status text asks is_told steady is accepted reply =
    accepted_done asked file status text accepted (replied_done words told (ReadFailed before after opened failed) asked name file status text asks is_told (λ four lent fault. steady fault.0) is reply)

-- what was answered of a module that was read is what the command gives
pub exact_reply : {words : List (List ℕ)} {told : List ℕ → Option (List ℕ)} {fault : List ℕ → Type 0} {Wrote : List ℕ → Type 0} (result : ℕ)
    → (result ≢ 5 → result ≢ 6 → (text : List ℕ) × Wrote text × Reply words told fault result text)
    → (asked : Command) (name file : List ℕ) → Asks words asked name → told name ≡ Some file → module_fault file ≡ None → result ≢ 4 → result ≢ 5 → result ≢ 6
    → (text : List ℕ) × Wrote text × Done asked file result text
exact_reply {words} {told} {fault} {Wrote} result replied asked name file asks is_told is not_four not_five not_six =
    let r = replied not_five not_six in
    (r.0, r.1, replied_done words told fault asked name file result r.0 asks is_told (λ four lent failed. not_four four) is r.2)

IfOk-map : {T E : Type 0} {P Q : T → Type 0} (r : Result T E) → ((x : T) → P x → Q x) → IfOk r P → IfOk r Q
IfOk-map (Ok x) f holds = f x holds
IfOk-map (Err e) f holds = tt

-- the bytes of a module's image are those of its file
pub bytes_of : (file : List ℕ) (m : Module) → IsModuleOf file m → m.image.bytes ≡ file
unfolding image_of
bytes_of file m of = ap (λ (i : Contents). i.bytes) of.image

-- the module that a file gives
pub module_is : (file : List ℕ) (m : Module) → IsModuleOf file m → m ≡ declared_module file
module_is file m of = rw (sym of.functions, sym of.tables, sym of.image) refl

abbrev Answer : Type 0
Answer = Result (Status × List ℕ) OutOfMemory

pub verified : (file : List ℕ) (m : Module) (asked : Command) (result : Answer) → asked ≡ command.Verify → IsModuleOf file m → IfOk result (λ reply. Judged m (IsSafeLine m) reply.0.0 reply.1) → IfOk result (λ reply. Answered asked file reply.0.0 reply.1)
verified file m asked result is of judged =
    IfOk-map result
    (λ reply verdict. subst (λ (c : Command). Answered c file reply.0.0 reply.1) (sym is)
    (done reply.0.0 reply.1 of.rules (subst (λ (n : Module). Judged n (IsSafeLine n) reply.0.0 reply.1) (module_is file m of) verdict)))
    judged

pub reported : (file : List ℕ) (m : Module) (asked : Command) (result : Answer) → asked ≡ command.Report → IsModuleOf file m → IfOk result (λ reply. Judged m (IsLeastReport m) reply.0.0 reply.1) → IfOk result (λ reply. Answered asked file reply.0.0 reply.1)
reported file m asked result is of judged =
    IfOk-map result
    (λ reply verdict. subst (λ (c : Command). Answered c file reply.0.0 reply.1) (sym is)
    (done reply.0.0 reply.1 of.rules (subst (λ (n : Module). Judged n (IsLeastReport n) reply.0.0 reply.1) (module_is file m of) verdict)))
    judged

pub verified_safe : (file : List ℕ) (m : Module) (asked : Command) (result : Answer) → IsModuleOf file m → IfOk result (λ reply. reply.0.0 ≡ 0 → IsSandboxedFile m.image.bytes) → IfOk result (λ reply. Judges asked → reply.0.0 ≡ 0 → IsSandboxedFile file)
verified_safe file m asked result of stays_safe =
    IfOk-map result (λ reply stays judges zero. subst IsSandboxedFile (bytes_of file m of) (stays zero)) stays_safe

pub informed : (file : List ℕ) (m : Module) (asked : Command) (text : List ℕ) → asked ≡ command.Info → IsModuleOf file m
    → text ≡ info_text (declared_functions m.image.bytes) (declared_tables m.image.bytes) (file_imports m.image.bytes) → Answered asked file 0 text
informed file m asked text is of made =
    subst (λ (c : Command). Answered c file 0 text) (sym is) (done 0 text of.rules (refl, rw (bytes_of file m of) at made))

pub code_listed : (file : List ℕ) (m : Module) (asked : Command) (text : List ℕ) → asked ≡ command.List → IsModuleOf file m → IsListing m text → Answered asked file 0 text
code_listed file m asked text is of lists =
    subst (λ (c : Command). Answered c file 0 text) (sym is) (done 0 text of.rules (refl, subst (λ (n : Module). IsListing n text) (module_is file m of) lists))

pub refused : (file : List ℕ) (asked : Command) (rule offset : ℕ) (text : List ℕ) → module_fault file ≡ Some (rule, offset) → text ≡ malformed_line rule offset → Answered asked file 2 text
refused file asked rule offset text broken made = subst (λ (t : List ℕ). Answered asked file 2 t) (sym made) (malformed rule offset broken)

pub not_six : {A : Type 0} (result status : Status) {Rest : Type 0} → (status.0 ≡ 6 → ⊥) → (result.0 ≢ 5 → (result ≡ status) × Rest) → result.0 ≡ 6 → A
not_six result status other written six =
    let whole = written (λ five. absurd (omega arith)) in
    absurd (other (sym (ap (λ (s : Status). s.0) whole.0) ∙ six))

-- ---- the answers to a file and a report

-- the words ask for one check
same_check : {words : List (List ℕ)} {name other report other_report : List ℕ} → AsksCheck words name report → AsksCheck words other other_report → (name ≡ other) × (report ≡ other_report)
same_check one two =
    let e = sym one ∙ two in
    (ap (λ (l : List (List ℕ)). get_or l 1 []) e, ap (λ (l : List (List ℕ)). get_or l 2 []) e)

no_check : (words : List (List ℕ)) (name report : List ℕ) {status : ℕ} {text : List ℕ} → AsksCheck words name report → WithoutFile words status text → ⊥
no_check words name report asks (usage none) = none (of_files name report asks)
no_check words name report asks (generated functions number also) = two_words words name report functions number asks also
no_check words name report asks (tested functions number status text also is) = check_or_test words name report functions number asks also

-- where the words ask for a check, it is what is answered
pub reply_checked : (words : List (List ℕ)) (told : List ℕ → Option (List ℕ)) (fault : List ℕ → Type 0) (name report : List ℕ) (status : ℕ) (text : List ℕ)
    → AsksCheck words name report → Reply words told fault status text → CheckAnswered told fault name report status text
reply_checked words told fault name report status text asks (without_file status' text' alone) = absurd (no_check words name report asks alone)
reply_checked words told fault name report status text asks (read_fault other lent asks' failed) = absurd (two_lengths words other lent name report asks' asks)
reply_checked words told fault name report status text asks (answered other lent read status' text' asks' are_told answer) = absurd (two_lengths words other lent name report asks' asks)
reply_checked words told fault name report status text asks (checked lent other status' text' asks' answer) =
    let same = same_check asks' asks in
    subst (λ (r : List ℕ). CheckAnswered told fault name r status text) same.1 (subst (λ (n : List ℕ). CheckAnswered told fault n other status text) same.0 answer)

-- the answer of a check, lent piece by piece
pub lent_check : {words : List (List ℕ)} {told : List ℕ → Option (List ℕ)} {fault : List ℕ → Type 0} (name report : List ℕ) (status : ℕ) (made text : List ℕ) → AsksCheck words name report → text ≡ made → CheckAnswered told fault name report status made → Reply words told fault status text
lent_check {words} {told} {fault} name report status made text asks same answer =
    subst (λ (t : List ℕ). Reply words told fault status t) (sym same) (checked name report status made asks answer)

-- on a told report that was read, the answer is that to its bytes
report_checked : {m : Module} {told : Option (List ℕ)} {fault : Type 0} {status : ℕ} {text : List ℕ} (report : List ℕ) → told ≡ Some report → (status ≡ 4 → fault → ⊥) → ReportAnswered m told fault status text → Checked m report status text
report_checked report is_told steady (report_unread failed) = absurd (steady refl failed)
report_checked {m} {told} {fault} {status} {text} report is_told steady (report_read read status' text' are_told is) =
    let same : read ≡ report = subst (λ (t : Option (List ℕ)). AreTold t read) is_told are_told in
    subst (λ (r : List ℕ). Checked m r status text) same is

file_checked : {file : List ℕ} {told : Option (List ℕ)} {fault : Type 0} {status : ℕ} {text : List ℕ} (report : List ℕ) → told ≡ Some report → (status ≡ 4 → fault → ⊥) → module_fault file ≡ None → FileAnswered file told fault status text → Checked (declared_module file) report status text
file_checked report is_told steady rules (no_module rule offset broken) = absurd (apart (sym rules ∙ broken))
file_checked report is_told steady rules (of_module status text rules' is) = report_checked report is_told steady is

both_checked : (told : List ℕ → Option (List ℕ)) (fault : List ℕ → Type 0) (name report file bytes : List ℕ) (status : ℕ) (text : List ℕ)
    → told name ≡ Some file → told report ≡ Some bytes → (status ≡ 4 → (lent : List ℕ) → fault lent → ⊥) → module_fault file ≡ None → CheckAnswered told fault name report status text → Checked (declared_module file) bytes status text
both_checked told fault name report file bytes status text is_told also steady rules (file_unread failed) = absurd (steady refl name failed)
both_checked told fault name report file bytes status text is_told also steady rules (file_read read status' text' are_told is) =
    let same : read ≡ file = subst (λ (t : Option (List ℕ)). AreTold t read) is_told are_told in
    file_checked bytes also (λ four failed. steady four report failed) rules (subst (λ (f : List ℕ). FileAnswered f (told report) (fault report) status text) same is)

-- what was answered of a module and a report that were read is what `check` gives
pub exact_check : {words : List (List ℕ)} {told : List ℕ → Option (List ℕ)} {fault : List ℕ → Type 0} {Wrote : List ℕ → Type 0} (result : ℕ)
    → (result ≢ 5 → result ≢ 6 → (text : List ℕ) × Wrote text × Reply words told fault result text)
    → (name report file bytes : List ℕ) → AsksCheck words name report → told name ≡ Some file → told report ≡ Some bytes → module_fault file ≡ None → result ≢ 4 → result ≢ 5 → result ≢ 6
    → (text : List ℕ) × Wrote text × Checked (declared_module file) bytes result text
exact_check {words} {told} {fault} {Wrote} result replied name report file bytes asks is_told also rules not_four not_five not_six =
    let r = replied not_five not_six in
    (r.0, r.1, both_checked told fault name report file bytes result r.0 is_told also (λ four lent failed. not_four four) rules (reply_checked words told fault name report result r.0 asks r.2))

-- what status 0 and status 2 of `check` say, carried to the words that ask for it
pub safe_check : {words : List (List ℕ)} (told : List ℕ → Option (List ℕ)) (result status : Status) (lent lent_report : List ℕ) {Rest : Type 0} → AsksCheck words lent lent_report
    → (result.0 ≢ 5 → (result ≡ status) × Rest) → (status.0 ≡ 0 → (file bytes : List ℕ) × AreTold (told lent) file × AreTold (told lent_report) bytes × IsSandboxedByReport file bytes)
    → (name report : List ℕ) → AsksCheck words name report → result.0 ≡ 0 → (file bytes : List ℕ) × AreTold (told name) file × AreTold (told report) bytes × IsSandboxedByReport file bytes
safe_check {words} told result status lent lent_report asks written found name report also zero =
    let whole = written (λ five. absurd (omega arith)) in
    let same = same_check asks also in
    let f = found (sym (ap (λ (s : Status). s.0) whole.0) ∙ zero) in
    (f.0, f.1, subst (λ (n : List ℕ). AreTold (told n) f.0) same.0 f.2, subst (λ (n : List ℕ). AreTold (told n) f.1) same.1 f.3, f.4)

pub unread_check : {words : List (List ℕ)} (opened : Option (List ℕ)) (result status : Status) (lent lent_report : List ℕ) {Rest : Type 0} → AsksCheck words lent lent_report
    → (result.0 ≢ 5 → (result ≡ status) × Rest) → (status.0 ≡ 2 → opened ≡ Some lent)
    → (name report : List ℕ) → AsksCheck words name report → result.0 ≡ 2 → opened ≡ Some name
unread_check {words} opened result status lent lent_report asks written found name report also two =
    let whole = written (λ five. absurd (omega arith)) in
    let same = same_check asks also in
    found (sym (ap (λ (s : Status). s.0) whole.0) ∙ two) ∙ ap Some same.0

-- words that ask for a command on one file ask for no check
pub no_check_asked : {A : Type 0} {words : List (List ℕ)} (asked : Command) (name file report : List ℕ) → Asks words asked name → AsksCheck words file report → A
no_check_asked {A} {words} asked name file report asks also = absurd (two_lengths words asked name file report asks also)

-- where the shelf told both and no call failed, the answer is that to the bytes
pub told_checked : (words : List (List ℕ)) (told : List ℕ → Option (List ℕ)) (before after : ℕ) (opened : Option (List ℕ)) (failed : Bool) (name report file bytes : List ℕ) (status : ℕ) (text : List ℕ)
    → AsksCheck words name report → told name ≡ Some file → told report ≡ Some bytes → (Rose before after → ⊥) → module_fault file ≡ None
    → Reply words told (ReadFailed before after opened failed) status text → Checked (declared_module file) bytes status text
told_checked words told before after opened failed name report file bytes status text asks is_told also steady rules reply =
    both_checked told (ReadFailed before after opened failed) name report file bytes status text is_told also (λ four lent fault. steady fault.0) rules
    (reply_checked words told (ReadFailed before after opened failed) name report status text asks reply)

-- ---- the answers to words that ask for a module

alone_written : (words : List (List ℕ)) (functions number status : ℕ) (text : List ℕ) → AsksModule words functions number → WithoutFile words status text → (status ≡ 0) × (text ≡ made_file functions number)
alone_written words functions number status text asks (usage none) = absurd (none (of_numbers functions number asks))
alone_written words functions number status text asks (generated others other also) =
    let same = same_numbers (codes "make") others other functions number also asks in
    (refl, ap (λ (f : ℕ). made_file f other) same.0 ∙ ap (λ (n : ℕ). made_file functions n) same.1)
alone_written words functions number status text asks (tested others other status' text' also is) = absurd (write_or_test words functions number others other asks also)

alone_tested : (words : List (List ℕ)) (functions number status : ℕ) (text : List ℕ) → AsksTest words functions number → WithoutFile words status text → SelfTested functions number status text
alone_tested words functions number status text asks (usage none) = absurd (none (of_test functions number asks))
alone_tested words functions number status text asks (generated others other also) = absurd (write_or_test words others other functions number also asks)
alone_tested words functions number status text asks (tested others other status' text' also is) =
    let same = same_numbers (codes "selftest") others other functions number also asks in
    subst (λ (n : ℕ). SelfTested functions n status text) same.1 (subst (λ (f : ℕ). SelfTested f other status text) same.0 is)

pub reply_written : (words : List (List ℕ)) (told : List ℕ → Option (List ℕ)) (fault : List ℕ → Type 0) (functions number status : ℕ) (text : List ℕ) → AsksModule words functions number → Reply words told fault status text → (status ≡ 0) × (text ≡ made_file functions number)
reply_written words told fault functions number status text asks (without_file status' text' is) = alone_written words functions number status text asks is
reply_written words told fault functions number status text asks (read_fault other lent asks' failed) = absurd (two_forms words (codes "make") other lent functions number asks' asks)
reply_written words told fault functions number status text asks (answered other lent read status' text' asks' are_told answer) = absurd (two_forms words (codes "make") other lent functions number asks' asks)
reply_written words told fault functions number status text asks (checked lent report status' text' asks' answer) = absurd (two_words words lent report functions number asks' asks)

pub reply_tested : (words : List (List ℕ)) (told : List ℕ → Option (List ℕ)) (fault : List ℕ → Type 0) (functions number status : ℕ) (text : List ℕ) → AsksTest words functions number → Reply words told fault status text → SelfTested functions number status text
reply_tested words told fault functions number status text asks (without_file status' text' is) = alone_tested words functions number status text asks is
reply_tested words told fault functions number status text asks (read_fault other lent asks' failed) = absurd (two_forms words (codes "selftest") other lent functions number asks' asks)
reply_tested words told fault functions number status text asks (answered other lent read status' text' asks' are_told answer) = absurd (two_forms words (codes "selftest") other lent functions number asks' asks)
reply_tested words told fault functions number status text asks (checked lent report status' text' asks' answer) = absurd (check_or_test words lent report functions number asks' asks)
