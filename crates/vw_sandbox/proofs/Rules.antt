-- What the rules of modules give to the proof over runs.
use Rattle.std.proofs.Common.{◌≡◌, ◌≢◌, ℕ, zero, suc, ◌+◌, ◌≤◌, ◌<◌, ◌%◌, ◌^◌, ◌⊎◌, ◌==◌, ◌&&◌, ◌||◌, Bool, true, false, inl, inr, List, [], ◌∷◌, length, Option, Some, None, slice_index, refl, sym, ap, ◌∙◌, subst, arith, lit<}
use Rattle.std.specs.Prelude.{Contains, slice_get, option_map, option_and_then, is_some, not, if◌then◌else◌, ◌↔◌}
use Rattle.std.specs.List.{find, list_any, AllByRecursion}
use Rattle.std.specs.Option.{option_map_or}
use Rattle.std.proofs.lemmas.Bool.{false≢true, eqb-true}
use Rattle.std.proofs.lemmas.Bool.Decides.{nat_tests}
use Rattle.std.proofs.lemmas.Option.{slice_get-get_or}
use Rattle.std.proofs.Math.Nat.{mod-eq_of_lt}
use Rattle.vw_bits.specs.Headers.{is_executable}
use Rattle.vw_bits.specs.Places.{is_among, in_memory}
use Rattle.vw_dynamic.specs.Dynamic.{file_imports}
use Rattle.vw_image.specs.declared.word.Word.{Word}
use Rattle.vw_image.specs.declared.word.Word.TheVariants.{Plain, Based, Bound, Mixed, Outside}
use Rattle.vw_image.specs.declared.stub.Stub.{Stub}
use Rattle.vw_image.specs.declared.stub.StubTo.{StubTo}
use Rattle.vw_image.specs.declared.stub.StubTo.TheVariants.{Import, Inside}
use Rattle.vw_image.specs.Image.{Contents, IsImage, image_of}
use Rattle.vw_image.specs.Laws.{IsSize, IsNumbered, Gives, image_word}
use Rattle.vw_image.specs.Stubs.{opcodes, in_executable, stands_at, slot_behind, slot_at, stub_to, stub_at}
use Rattle.vw_image.specs.Words.{word_at}
use Rattle.vw_layout.specs.declared.functions.Function.{Function}
use Rattle.vw_layout.specs.declared.tables.TableInfo.{TableInfo}
use Rattle.vw_layout.specs.declared.tables.TableEntry.{TableEntry}
use Rattle.vw_layout.specs.declared.calls.CallTarget.{CallTarget}
use Rattle.vw_layout.specs.declared.calls.CallTarget.TheVariants as target
use Rattle.vw_layout.specs.Calls.{is_probe, is_entry, is_destination, module_stub, is_probe_stub, is_probed, call_target, is_ordinary}
use Rattle.vw_layout.specs.Layout.{IsModule, declared_functions, declared_tables}
use Rattle.vw_layout.specs.Tables.{is_empty_tag, is_callable, is_pointer}
use Rattle.vw_machine.specs.declared.world.World.{World}
use Rattle.vw_machine.specs.World.{IsLaidOut, IsHostAddress}
use Rattle.vw_machine.specs.Module.{ModuleView, declared_module, module_of, view_of, segment_range}
use Rattle.vw_machine.specs.Standing.{IsHostAt}
use Rattle.vw_machine.specs.Step.{slot_word}
use Rattle.vw_machine.specs.Permitted.{is_pointer as is_address}
use Rattle.vw_sandbox.specs.Claims.{IsProbeStub}
use Rattle.vw_sandbox.proofs.Instances.{image_low}
use Rattle.vw_machine.proofs.Lists.{Contains-map}
use Rattle.vw_sandbox.specs.Gathered.{ModuleLaws}
use Rattle.vw_sandbox.proofs.Modules.{holds_code}
use Rattle.vw_sandbox.proofs.SetUp.{IsInImage, IsCallable, IsSetUp}

-- ---- lists and options

none_some : {A : Type 0} {x : A} → ◌≡◌ {A = Option A} None (Some x) → ⊥
none_some e = cc

find_passes : {X : Type 0} (p : X → Bool) (xs : List X) (x : X) → find p xs ≡ Some x → p x ≡ true
find_passes {X} p [] x is = absurd (none_some is)
find_passes {X} p (y ∷ ys) x is = by_first (p y) refl (find_passes p ys x) is
  where
    some_is : {a b : X} → Some a ≡ Some b → a ≡ b
    some_is e = cc

    by_first : (b : Bool) → p y ≡ b → (find p ys ≡ Some x → p x ≡ true) → (if b then Some y else find p ys) ≡ Some x → p x ≡ true
    by_first true e later f = subst (λ z. p z ≡ true) (some_is f) e
    by_first false e later f = later f

pub or_cases : (a b : Bool) → (a || b) ≡ true → (a ≡ true) ⊎ (b ≡ true)
or_cases true b e = inl refl
or_cases false b e = inr e

and_both : (a b : Bool) → (a && b) ≡ true → (a ≡ true) × (b ≡ true)
and_both true b e = (refl, e)
and_both false b e = absurd (false≢true e)

pub any_passes : {X : Type 0} (p : X → Bool) (xs : List X) → list_any p xs ≡ true → (x : X) × Contains xs x × (p x ≡ true)
any_passes p [] is = absurd (false≢true is)
any_passes {X} p (y ∷ ys) is = by_cases (or_cases (p y) (list_any p ys) is) (any_passes p ys)
  where
    by_cases : (p y ≡ true) ⊎ (list_any p ys ≡ true) → (list_any p ys ≡ true → (x : X) × Contains ys x × (p x ≡ true)) → (x : X) × Contains (y ∷ ys) x × (p x ≡ true)
    by_cases (inl here) later = (y, (0, omega arith, refl), here)
    by_cases (inr there) later = let found = later there in (found.0, (suc found.1.0, omega (arith, found.1.1), found.1.2), found.2)

pub is_some_of : {A : Type 0} (o : Option A) → is_some o ≡ true → (x : A) × (o ≡ Some x)
is_some_of None e = absurd (false≢true e)
is_some_of (Some x) e = (x, refl)

-- ---- stubs

-- the word in the slot of a stub that goes there
abbrev word_to : StubTo → Word
word_to (Import number) = Bound number
word_to (Inside place) = Based place

by_word : (slot : ℕ) (word : Word) (stub : Stub) → stub_to slot word ≡ Some stub → (stub.slot ≡ slot) × (word ≡ word_to stub.to)
by_word slot (Plain number) stub is = absurd (none_some is)
by_word slot (Based address) stub is =
    let one : record { slot = slot; to = Inside address } ≡ stub = cc in
    (sym (ap (λ (s : Stub). s.slot) one), ap (λ (s : Stub). word_to s.to) one)
by_word slot (Bound number) stub is =
    let one : record { slot = slot; to = Import number } ≡ stub = cc in
    (sym (ap (λ (s : Stub). s.slot) one), ap (λ (s : Stub). word_to s.to) one)
by_word slot Mixed stub is = absurd (none_some is)
by_word slot Outside stub is = absurd (none_some is)

module _ (image : Contents) (place : ℕ) (stub : Stub) where
  -- the bytes of the stub are in executable memory, and its slot has its word
  pub record IsThere : Type 0 where
    pub opcode : List ℕ
    pub stands : stands_at image.bytes image.segments place opcode ≡ true
    pub word : word_at image stub.slot 8 ≡ word_to stub.to

  by_found : (found : Option (List ℕ)) → find (stands_at image.bytes image.segments place) opcodes ≡ found
      → option_and_then (λ slot. stub_to slot (word_at image slot 8)) (option_map (slot_behind image.bytes image.segments place) found) ≡ Some stub → IsThere
  by_found None e is = absurd (none_some is)
  by_found (Some opcode) e is =
      let slot = slot_behind image.bytes image.segments place opcode in
      let found = by_word slot (word_at image slot 8) stub is in
      record {
        opcode = opcode;
        stands = find_passes (stands_at image.bytes image.segments place) opcodes opcode e;
        word = ap (λ (s : ℕ). word_at image s 8) found.0 ∙ found.1;
      }

  is_there : stub_at image place ≡ Some stub → IsThere
  unfolding stub_at slot_at
  is_there is = by_found (find (stands_at image.bytes image.segments place) opcodes) refl is

  executable : (opcode : List ℕ) → stands_at image.bytes image.segments place opcode ≡ true → in_executable image.segments place (length opcode + 4) ≡ true
  unfolding stands_at
  executable opcode is = (and_both (in_executable image.segments place (length opcode + 4)) _ is).0

among_low : (start size a n : ℕ) → is_among start size a n ≡ true → (start ≤ a) × (a + 1 ≤ start + size)
among_low start size a n h = (grind (arith, nat_tests, h), grind (arith, nat_tests, h))

module _ (rules : ModuleLaws) (file : List ℕ) (is : IsModule file) where
  abbrev image : Contents
  image = image_of file

  abbrev functions : List Function
  functions = declared_functions file

  abbrev m : ModuleView
  m = view_of (declared_module file)

  code_in_image : (f : Function) → Contains functions f → IsInImage m f.entry f.size
  unfolding module_of
  code_in_image f listed =
      let held = holds_code rules.laws file is f listed in
      record { part = held.part; of_image = held.of_image; low = held.part_low; high = held.part_high }

  there : (place : ℕ) (stub : Stub) → m.stub place ≡ Some stub → IsThere image place stub
  there place stub at = is_there image place stub (rules.stub image functions place stub at).0

  stub_in_image : (place : ℕ) (stub : Stub) → m.stub place ≡ Some stub → IsInImage m place 1
  stub_in_image place stub at =
      let here = there place stub at in
      let found = any_passes (λ s. is_executable s && in_memory place (length here.opcode + 4) s) image.segments (executable image place stub here.opcode here.stands) in
      let inside = and_both (is_executable found.0) _ found.2 in
      let part = among_low found.0.vaddr found.0.memsz place (length here.opcode + 4) inside.1 in
      record { part = segment_range found.0; of_image = Contains-map segment_range image.segments found.0 found.1; low = part.0; high = part.1 }

  -- a declared function that begins at a place
  function_at : (place : ℕ) → is_entry functions place ≡ true → (f : Function) × Contains functions f × (f.entry ≡ place)
  function_at place at =
      let found = any_passes (λ (f : Function). f.entry == place) functions at in
      (found.0, found.1, eqb-true found.0.entry place found.2)

  module _ (w : World) (laid : IsLaidOut m.image m.imports w) where
    hosts_fit : (hosts : List ℕ) → AllByRecursion (IsHostAddress w m.image) hosts → (number : ℕ) → slice_index hosts number < 2 ^ 64
    hosts_fit [] all number = lit< tt
    hosts_fit (host ∷ hosts) all zero = let low = all.0.0 in omega arith
    hosts_fit (host ∷ hosts) all (suc number) = hosts_fit hosts all.1 number

    -- an import's function is at its address
    host_there : (number : ℕ) → number < length image.imports → slice_get w.hosts number ≡ Some (slice_index w.hosts number)
    host_there number inside = slice_get-get_or w.hosts number 0 (omega (arith, inside, laid.one_host_each))

    small : (place n k : ℕ) → IsInImage m place n → k < n → w.load + place + k < 2 ^ 47
    small place n k part inside =
        let low = part.low in
        let high = part.high in
        image_low laid part.part part.of_image (w.load + place + k) (omega arith) (omega arith)

    function_small : (f : Function) → Contains functions f → w.load + f.entry < 2 ^ 47
    function_small f listed =
        let part = code_in_image f listed in
        let some = (holds_code rules.laws file is f listed).some in
        let sized = (holds_code rules.laws file is f listed).sized in
        let at = small f.entry f.size 0 part (omega arith) in
        omega arith

    -- the word in a stub's slot
    slot_gives : (place : ℕ) (stub : Stub) → m.stub place ≡ Some stub → Gives w.load (slice_index w.hosts) (word_to stub.to) (slot_word m w stub.slot)
    slot_gives place stub at =
        subst (λ (word : Word). Gives w.load (slice_index w.hosts) word (slot_word m w stub.slot)) (there place stub at).word
        (rules.spelled image (rules.images file is) stub.slot 8 (inr (inr (inr refl))) w.load (slice_index w.hosts) (hosts_fit w.hosts laid.hosts_outside.1))

    slot_numbered : (place : ℕ) (stub : Stub) → m.stub place ≡ Some stub → IsNumbered (length image.imports) (word_to stub.to)
    slot_numbered place stub at = subst (IsNumbered (length image.imports)) (there place stub at).word (rules.numbered image (rules.images file is) stub.slot 8)

    abbrev SlotIs : StubTo → ℕ → Type 0
    SlotIs goes word =
        ((number : ℕ) × (goes ≡ Import number) × (slice_get w.hosts number ≡ Some word))
        ⊎ ((f : Function) × Contains functions f × (word ≡ w.load + f.entry) × ((number : ℕ) → goes ≢ Import number))

    slot_is : (goes : StubTo) (word : ℕ) → Gives w.load (slice_index w.hosts) (word_to goes) word → IsNumbered (length image.imports) (word_to goes) → is_destination functions goes ≡ true → SlotIs goes word
    slot_is (Import number) word gives inside goes = inl (number, refl, host_there number inside ∙ ap Some (sym gives))
    slot_is (Inside place) word gives inside goes =
        let f = function_at place goes in
        let low = function_small f.0 f.1 in
        inr (f.0, f.1, gives ∙ (ap (λ p. (w.load + p) % 2 ^ 64) (sym f.2) ∙ mod-eq_of_lt (omega arith)), not_import place)
      where
        not_import : (place number : ℕ) → Inside place ≡ Import number → ⊥
        not_import place number e = cc

    -- ---- pointers

    not_probe_stub : (to place : ℕ) → to ≡ w.load + place → is_probe_stub image place ≡ false → IsProbeStub m w to → ⊥
    unfolding is_probe_stub
    not_probe_stub to place at none probe =
        let same_at = probe.at in
        let same : probe.place ≡ place = omega arith in
        let stub_there : m.stub place ≡ Some probe.stub = ap m.stub (sym same) ∙ probe.there in
        let stub_is = (rules.stub image functions place probe.stub stub_there).0 in
        let probed : is_probed image.imports probe.stub.to ≡ true = ap (is_probed image.imports) probe.to_import ∙ probe.is_probe in
        false≢true (sym none ∙ (ap (λ (o : Option Stub). option_map_or (λ stub. is_probed image.imports stub.to) o false) stub_is ∙ probed))

    -- what can be called at a place, by what its call enters
    callable : (to place : ℕ) → to ≡ (w.load + place) % 2 ^ 64 → is_callable image functions place ≡ true → IsCallable m w to
    callable to place at is = by_target (call_target image functions place) refl is
      where
        plain : (b : Bool) → is_probe_stub image place ≡ b → option_map_or is_ordinary (call_target image functions place) false ≡ true → b ≡ false
        plain true probe ordinary = absurd (false≢true (ap (λ (o : Option CallTarget). option_map_or is_ordinary o false) (sym ((rules.probe image functions place).1 probe)) ∙ ordinary))
        plain false probe ordinary = refl

        no_probe : is_probe_stub image place ≡ false
        no_probe = plain (is_probe_stub image place) refl is

        by_target : (o : Option CallTarget) → call_target image functions place ≡ o → option_map_or is_ordinary o false ≡ true → IsCallable m w to
        by_target None e ordinary = absurd (false≢true ordinary)
        by_target (Some what) e ordinary =
            let known : (is_entry functions place || is_some (module_stub image functions place)) ≡ true = sym (rules.some image functions place) ∙ ap is_some e in
            by_kind (or_cases (is_entry functions place) (is_some (module_stub image functions place)) known)
          where
            by_kind : (is_entry functions place ≡ true) ⊎ (is_some (module_stub image functions place) ≡ true) → IsCallable m w to
            by_kind (inl entry) =
                let f = function_at place entry in
                let low = function_small f.0 f.1 in
                let same = f.2 in
                let exact : to ≡ w.load + place = at ∙ mod-eq_of_lt (omega arith) in
                (place, exact, not_probe_stub to place exact no_probe, inl f)
            by_kind (inr some) =
                let stub = is_some_of (module_stub image functions place) some in
                let low = small place 1 0 (stub_in_image place stub.0 stub.1) (lit< tt) in
                let exact : to ≡ w.load + place = at ∙ mod-eq_of_lt (omega arith) in
                (place, exact, not_probe_stub to place exact no_probe, inr stub)

    pointer_is : (word : Word) (to : ℕ) → is_pointer image functions word ≡ true → IsNumbered (length image.imports) word → is_address w word to ≡ true → IsHostAt m w to ⊎ IsCallable m w to
    pointer_is (Plain number) to is inside at = absurd (false≢true is)
    pointer_is (Based place) to is inside at = inr (callable to place (eqb-true to ((w.load + place) % 2 ^ 64) at) is)
    pointer_is (Bound number) to is inside at =
        let address : to ≡ slice_index w.hosts number = eqb-true to (slice_index w.hosts number) at in
        inl (number, host_there number inside ∙ ap Some (sym address), not_true (is_probe image.imports number) is)
      where
        not_true : (b : Bool) → not b ≡ true → b ≡ false
        not_true true e = absurd (false≢true e)
        not_true false e = refl
    pointer_is Mixed to is inside at = absurd (false≢true is)
    pointer_is Outside to is inside at = absurd (false≢true is)

    entry_numbered : (table : TableInfo) (entry : TableEntry) → Contains (declared_tables file) table → Contains table.entries entry → IsNumbered (length image.imports) entry.pointer
    unfolding image_of
    entry_numbered table entry listed of_table = rules.entries file table entry is listed of_table

    not_empty : (tag : ℕ) → is_empty_tag tag ≡ false → tag ≢ 18446744073709551615
    not_empty tag e same = false≢true (sym e ∙ ap is_empty_tag same)

    pub view_set_up : IsSetUp m w
    view_set_up = record {
      laid = laid;
      alone = rules.alone m w laid;
      code = code_in_image;
      stub = stub_in_image;
      slot = λ place stub at. slot_is stub.to (slot_word m w stub.slot) (slot_gives place stub at) (slot_numbered place stub at) (rules.stub image functions place stub at).1;
      pointer = λ table entry to listed of_table some at. pointer_is entry.pointer to (rules.pointer file table entry is listed of_table (not_empty entry.tag some)) (entry_numbered table entry listed of_table) at;
    }

pub set_up : ModuleLaws → (file : List ℕ) → IsModule file → (w : World) → IsLaidOut (module_of file).image (module_of file).imports w → IsSetUp (module_of file) w
unfolding module_of
set_up rules file is w laid = view_set_up rules file is w laid

-- each function has a byte
pub functions_have_bytes : ModuleLaws → (file : List ℕ) → IsModule file → (f : Function) → Contains (module_of file).functions f → 1 ≤ f.size
unfolding module_of
functions_have_bytes rules file is f listed = (rules.laws.code file f is listed).some
