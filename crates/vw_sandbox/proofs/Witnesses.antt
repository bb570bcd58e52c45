-- Instances and runs that there are, and what is refused in them.
use Rattle.std.proofs.Common.{◌≡◌, ◌⊎◌, inl, inr, ℕ, zero, suc, ◌+◌, ◌-◌, ◌^◌, ◌≤◌, ◌<◌, ◌==◌, Bool, true, false, if◌then◌else◌, List, [], ◌∷◌, length, map, None, Some, refl, sym, ◌∙◌, ap, subst, arith, lit<, lit≤}
use Rattle.std.specs.Prelude.{nat_lt, Contains}
use Rattle.std.specs.List.{AllByRecursion, slice_get}
use Rattle.std.proofs.lemmas.Bool.Decides.{nat_tests}
use Rattle.vw_bits.specs.Headers.{segments_of}
use Rattle.vw_bits.specs.HeaderRules.{header_fault}
use Rattle.vw_bits.specs.declared.records.Segment.{Segment}
use Rattle.vw_dynamic.specs.Dynamic.{file_imports}
use Rattle.vw_image.specs.Image.{image_of}
use Rattle.vw_bits.specs.Bounds.{AreBounded}
use Rattle.vw_insn.specs.Words.{Registers}
use Rattle.vw_insn.specs.declared.instruction.Insn.{Insn}
use Rattle.vw_rows.specs.Spelling.{Spells}
use Rattle.vw_layout.specs.declared.functions.Function.{Function}
use Rattle.vw_layout.specs.Layout.{IsModule}
use Rattle.vw_state.specs.Code.{NothingAt}
use Rattle.vw_machine.specs.declared.world.World.{World}
use Rattle.vw_machine.specs.declared.choice.Choice.{Choice}
use Rattle.vw_machine.specs.declared.event.Event.TheVariants.{Write, Goto}
use Rattle.vw_machine.specs.World.{IsLaidOut, heap_range, globals_range, IsWithin, usual_instance}
use Rattle.vw_machine.specs.Module.{ModuleView, bytes_from, module_of, segment_range}
use Rattle.vw_machine.specs.State.{Activation, MachineState}
use Rattle.vw_machine.specs.Standing.{Here, Code, Stub, Host, Probe, Nowhere, StandsAt}
use Rattle.vw_machine.specs.Step.{Returned, is_saved, step}
use Rattle.vw_machine.specs.Events.{events, events_of}
use Rattle.vw_machine.specs.Permitted.{MayWrite, MayDo, Permitted, PermittedOf, PermittedFrom}
use Rattle.vw_machine.specs.Entered.{IsInitial}
use Rattle.vw_insn.specs.Effect.{Way, Ordinary, Return, Direct, Indirect, way}
use Rattle.vw_sandbox.specs.Runs.{Reaches, begins}
use Rattle.vw_sandbox.specs.Claims.{IsKept, ReturnsKept, KeepsRegisters, IsProbeStub, InsnPassesHeap, StepPassesHeap, PassesHeap}
use Rattle.vw_sandbox.specs.Maps.{Map, IsSandboxedBy}
use Rattle.vw_machine.proofs.WorldLemmas.{IsLimited, laid_out}
use Rattle.vw_machine.proofs.Regions.{all_of}
use Rattle.vw_sandbox.proofs.Choices.{some_choice}
use Rattle.vw_sandbox.proofs.Modules.{HoldsCode, code_bytes, headers_hold}

-- a state in which the host enters the function
entered : ℕ → MachineState
entered entry =
    record {
      registers = λ q. if q == 7 then 0x200000000000 else (if q == 4 then 0x4000000fdff8 else 0);
      rip = entry;
      flags = record { carry = false; parity = false; is_zero = false; sign = false; overflow = false };
      bytes = λ a. if a == 0x4000000fdffd then 0x50 else 0;
      active = record { entry = entry; rsp0 = 0x4000000fdff8; back = 0x500000000000; written = λ q. false } ∷ [];
    }

small_registers : (r : ℕ) (first second : Bool) → (if first then 0x200000000000 else (if second then 0x4000000fdff8 else 0)) < 2 ^ 64
small_registers r true second = lit< tt
small_registers r false true = lit< tt
small_registers r false false = lit< tt

small_byte : (first : Bool) → (if first then 0x50 else 0) < 256
small_byte true = lit< tt
small_byte false = lit< tt

is_entered : (imports : ℕ) (f : Function) → IsInitial (usual_instance imports) f (entered (0x10000000000 + f.entry))
unfolding usual_instance entered
is_entered imports f =
    record {
      rip = refl;
      rdi = refl;
      rsp_low = lit≤ tt;
      rsp_high = lit≤ tt;
      return = refl;
      active = refl;
      words = λ r. small_registers r (r == 7) (r == 4);
      bytes = λ a. small_byte (a == 0x4000000fdffd);
    }

pub begun : (m : ModuleView) → IsLimited m → (w : World) × IsLaidOut m.image m.imports w × ((f : Function) → Contains m.functions f → (s : MachineState) × IsInitial w f s)
begun m limited = (usual_instance m.imports, laid_out m limited, (λ f listed. (entered (0x10000000000 + f.entry), is_entered m.imports f)))

ends_low : (len : ℕ) (segments : List Segment) → AreBounded len segments → AllByRecursion (λ part. part.to ≤ 2 ^ 31) (map segment_range segments)
ends_low len [] bounded = tt
ends_low len (s ∷ segments) bounded = (bounded.0.below, ends_low len segments bounded.1)

pub limited : ((bytes : List ℕ) → header_fault bytes ≡ None → AreBounded (length bytes) (segments_of bytes)) → ((file : List ℕ) → IsModule file → length (file_imports file) ≤ 65536)
    → (file : List ℕ) → IsModule file → IsLimited (module_of file)
unfolding module_of image_of
limited bounded few file is = record { ends = ends_low (length file) (segments_of file) (bounded file (headers_hold file is).0); imports = few file is }

-- ---- what is refused

-- where nothing stands, no event is permitted
nowhere_refused : (m : ModuleView) (w : World) (s : MachineState) (active : List Activation) (choice : Choice) → AllByRecursion (PermittedOf m w active Nowhere) (events_of m w s active Nowhere choice) → ⊥
nowhere_refused m w s [] choice permitted = permitted.0
nowhere_refused m w s (top ∷ rest) choice permitted = permitted.0

-- nothing stands at the entry of a function where nothing decodes
nowhere_at_entry : (m : ModuleView) (w : World) (f : Function) (code : List ℕ) → HoldsCode m f code → ((g : Function) → Contains m.functions g → g.entry ≡ f.entry → g ≡ f) → NothingAt code 0
    → (top : Activation) (rest : List Activation) (rip : ℕ) → rip ≡ w.load + f.entry → top.entry ≡ rip → StandsAt m w rip (top ∷ rest) Nowhere
nowhere_at_entry m w f code held one_function nothing top rest rip at of_top =
    let sized = held.sized in
    let some = held.some in
    inl (
      record { function = f; of_top = (held.listed, of_top ∙ at); inside = (omega arith, omega arith) },
      (λ i len spelled.
          let g = spelled.function in
          let entry : g.entry ≡ f.entry = omega (arith, spelled.of_top.1) in
          let same : g ≡ f = one_function g spelled.of_top.0 entry in
          let size : g.size ≡ f.size = ap (λ (h : Function). h.size) same in
          let ends = spelled.ends.1 in
          let inside : 0 + len ≤ length code = omega arith in
          let offset : rip - w.load ≡ f.entry + 0 = omega arith in
          nothing i len (record { inside = inside; spelled = subst (λ (bytes : List ℕ). Spells bytes i) (ap (λ (a : ℕ). bytes_from (m.byte w) a len) offset ∙ code_bytes held w 0 len inside) spelled.spelled })),
    )

pub not_sandboxed : (m : ModuleView) (map : Map) (f : Function) (code : List ℕ) → IsLimited m → HoldsCode m f code → ((g : Function) → Contains m.functions g → g.entry ≡ f.entry → g ≡ f) → NothingAt code 0 → IsSandboxedBy m map → ⊥
not_sandboxed m map f code limited held one_function nothing sandboxed =
    let some = begun m limited in
    let w = some.0 in
    let first = some.2 f held.listed in
    let s = first.0 in
    let initial = first.1 in
    let top : Activation = record { entry = s.rip; rsp0 = s.registers 4; back = w.host_return; written = λ q. false } in
    let stands : StandsAt m w s.rip (top ∷ []) Nowhere = nowhere_at_entry m w f code held one_function nothing top [] s.rip initial.rip refl in
    let here : StandsAt m w s.rip s.active Nowhere = subst (λ (active : List Activation). StandsAt m w s.rip active Nowhere) (sym initial.active) stands in
    nowhere_refused m w s s.active some_choice (sandboxed.permitted w some.1 f held.listed s initial s begins Nowhere here some_choice)

-- the place of an item of a list
placed : {A : Type 0} (xs : List A) (x : A) → Contains xs x → (k : ℕ) × (slice_get xs k ≡ Some x)
placed [] x (k, inside, is) = absurd (omega arith)
placed (y ∷ xs) x (zero, inside, is) = (0, ap Some is)
placed (y ∷ xs) x (suc k, inside, is) = let later = placed xs x (k, omega arith, is) in (suc later.0, later.1)

some_is : {A : Type 0} {x y : A} → Some x ≡ Some y → x ≡ y
some_is e = cc

-- functions that ascend are told apart by their entries
abbrev pub Ascend : List Function → Type 0
Ascend functions = (j k : ℕ) (f g : Function) → slice_get functions j ≡ Some f → slice_get functions k ≡ Some g → j < k → f.entry < g.entry

pub one_by_entry : (functions : List Function) → Ascend functions → (f g : Function) → Contains functions f → Contains functions g → g.entry ≡ f.entry → g ≡ f
one_by_entry functions ascend f g in_f in_g same = by_order (nat_lt j.0 k.0) refl (nat_lt k.0 j.0) refl
  where
    j : (k : ℕ) × (slice_get functions k ≡ Some f)
    j = placed functions f in_f

    k : (k : ℕ) × (slice_get functions k ≡ Some g)
    k = placed functions g in_g

    by_order : (less : Bool) → nat_lt j.0 k.0 ≡ less → (greater : Bool) → nat_lt k.0 j.0 ≡ greater → g ≡ f
    by_order true is greater also = let below = ascend j.0 k.0 f g j.1 k.1 (grind (arith, nat_tests, is)) in absurd (omega (arith, below, same))
    by_order false is true also = let below = ascend k.0 j.0 g f k.1 j.1 (grind (arith, nat_tests, also)) in absurd (omega (arith, below, same))
    by_order false is false also =
        let at : k.0 ≡ j.0 = grind (arith, nat_tests, is, also) in
        some_is (sym k.1 ∙ (ap (λ (n : ℕ). slice_get functions n) at ∙ j.1))

-- a write that is permitted
write_permitted : (m : ModuleView) (w : World) (top : Activation) (way : Way) (a n : ℕ) → MayDo m w top way (Write a n) → MayWrite m w top a n
write_permitted m w top Ordinary a n may = may
write_permitted m w top Return a n may = may
write_permitted m w top Direct a n may = may
write_permitted m w top Indirect a n may = may

write_here : (m : ModuleView) (w : World) (top : Activation) (here : Here) (a n : ℕ) → PermittedFrom m w top here (Write a n) → MayWrite m w top a n
write_here m w top (Code i len) a n may = write_permitted m w top (way i) a n may
write_here m w top (Stub slot) a n may = may
write_here m w top Host a n may = may
write_here m w top Probe a n may = may
write_here m w top Nowhere a n may = absurd may

pub writes_in : (m : ModuleView) (map : Map) (w : World) (f : Function) (first s : MachineState) (here : Here) (choice : Choice) (top : Activation) (rest : List Activation) (a n : ℕ)
    → IsSandboxedBy m map → IsLaidOut m.image m.imports w → Contains m.functions f → IsInitial w f first → Reaches m w first s → StandsAt m w s.rip s.active here → s.active ≡ top ∷ rest
    → Contains (events m w s here choice) (Write a n)
    → IsWithin a n (heap_range w) ⊎ IsWithin a n (globals_range w) ⊎ ((w.stack_low - 8192 ≤ a) × (a + n ≤ top.rsp0))
writes_in m map w f first s here choice top rest a n sandboxed laid listed initial run stands active among =
    let all = sandboxed.permitted w laid f listed first initial s run here stands choice in
    let may : Permitted m w s here (Write a n) = all_of (Permitted m w s here) (events m w s here choice) all (Write a n) among in
    write_here m w top here a n (subst (λ (all : List Activation). PermittedOf m w all here (Write a n)) active may)

-- the registers after a return, where they are kept
pub returned_kept : (m : ModuleView) (w : World) (entered : Registers) (s after : MachineState) (here : Here) (choice : Choice) → StandsAt m w s.rip s.active here → step m w s here choice ≡ Returned after → KeepsRegisters m w entered s → IsKept entered after.registers
returned_kept m w entered s after here choice stands is keeps = subst (ReturnsKept entered) is (keeps here stands choice)

-- rbx, rbp and r12 to r15 are the callee-saved registers
pub saved_is : (r : ℕ) → Contains (3 ∷ 5 ∷ 12 ∷ 13 ∷ 14 ∷ 15 ∷ []) r → is_saved r ≡ true
saved_is r (zero, inside, is) = ap is_saved (sym is)
saved_is r (suc zero, inside, is) = ap is_saved (sym is)
saved_is r (suc (suc zero), inside, is) = ap is_saved (sym is)
saved_is r (suc (suc (suc zero)), inside, is) = ap is_saved (sym is)
saved_is r (suc (suc (suc (suc zero))), inside, is) = ap is_saved (sym is)
saved_is r (suc (suc (suc (suc (suc zero)))), inside, is) = ap is_saved (sym is)
saved_is r (suc (suc (suc (suc (suc (suc k))))), inside, is) = absurd (omega arith)

-- what a call passes in rdi, where it does as it should
pub passed_heap : (m : ModuleView) (w : World) (s : MachineState) (i : Insn) (len : ℕ) (choice : Choice) (to : ℕ) → StandsAt m w s.rip s.active (Code i len) → (way i ≡ Direct) ⊎ (way i ≡ Indirect)
    → Contains (events m w s (Code i len) choice) (Goto to) → PassesHeap m w s → (s.registers 7 ≡ w.heap) ⊎ IsProbeStub m w to
passed_heap m w s i len choice to stands calls among passes = by_way calls
  where
    passed : InsnPassesHeap m w s.registers (way i) (Goto to)
    passed = all_of (StepPassesHeap m w s.registers (Code i len)) (events m w s (Code i len) choice) (passes (Code i len) stands choice) (Goto to) among

    by_way : (way i ≡ Direct) ⊎ (way i ≡ Indirect) → (s.registers 7 ≡ w.heap) ⊎ IsProbeStub m w to
    by_way (inl direct) = subst (λ (k : Way). InsnPassesHeap m w s.registers k (Goto to)) direct passed
    by_way (inr indirect) = subst (λ (k : Way). InsnPassesHeap m w s.registers k (Goto to)) indirect passed
