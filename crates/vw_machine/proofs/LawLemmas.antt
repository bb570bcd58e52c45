-- Facts about the definitions.
use Rattle.std.proofs.Common.{◌≡◌, ◌⊎◌, inl, inr, ℕ, zero, suc, ◌+◌, ◌-◌, ◌^◌, ◌≤◌, ◌<◌, Bool, true, false, List, [], ◌∷◌, Some, length, get_or, ◌++◌, refl, sym, ◌∙◌, ap, subst, arith}
use Rattle.std.specs.Prelude.{nat_le, nat_lt, ◌&&◌, ◌||◌, Contains, slice_get}
use Rattle.std.proofs.lemmas.Bool.{false≢true, cases_lt}
use Rattle.std.proofs.lemmas.Option.{slice_get_within, get_or_from_slice_get}
use Rattle.std.proofs.lemmas.Bool.Decides.{nat_tests}
use Rattle.vw_insn.specs.declared.instruction.Insn.{Insn}
use Rattle.vw_insn.specs.Effect.{Access, Way, Ordinary, Return, Direct, Indirect}
use Rattle.vw_rows.specs.Spelling.{Spells}
use Rattle.vw_image.specs.declared.stub.Stub as image_stub
use Rattle.vw_machine.specs.declared.world.World.{World}
use Rattle.vw_machine.specs.declared.choice.Choice.{Choice}
use Rattle.vw_machine.specs.declared.event.Event.{Event}
use Rattle.vw_machine.specs.declared.event.Event.TheVariants.{Read, Write}
use Rattle.vw_machine.specs.World.{Range, IsLaidOut, IsIn, loaded_range}
use Rattle.vw_machine.specs.Module.{ModuleView, bytes_from}
use Rattle.vw_machine.specs.State.{Activation, MachineState}
use Rattle.vw_machine.specs.Standing.{Here, Code, Stub, Host, Probe, Nowhere, IsInside, IsSpelledAt, IsStubAt, IsHostAt, IsProbeAt, StandsFor, StandsAt}
use Rattle.vw_machine.specs.Step.{does_trap}
use Rattle.vw_machine.specs.Permitted.{MayDo, MayRead, MayWrite, PermittedOf, IsPermitted}
use Rattle.vw_machine.specs.Laws.{IsFramed}
use Rattle.vw_machine.proofs.Regions.{read_in_heap, read_in_globals, read_in_frame, write_in_heap, write_in_globals, write_above, write_in_image, heap_or_stack, globals_or_stack}

by_order : (a b : ℕ) (is : Bool) → nat_le a b ≡ is → (a ≤ b) ⊎ (b < a)
by_order a b true e = inl (grind (arith, nat_tests))
by_order a b false e = inr (grind (arith, nat_tests))

-- one of the bytes that two pieces of memory share
shared : (a n from to : ℕ) → a < to → from < a + n → from < to → 0 < n → (q : ℕ) × (a ≤ q) × (q < a + n) × (from ≤ q) × (q < to)
shared a n from to one two three four =
    elim (by_order a from (nat_le a from) refl) [
      | inl before ↦ (from, before, two, omega arith, three)
      | inr behind ↦ (a, omega arith, omega arith, omega arith, one)
    ]

-- what an instruction reads is read by the common rows, or it is a return's address
read_by : (m : ModuleView) (w : World) (top : Activation) (way : Way) (a n : ℕ) → MayDo m w top way (Read a n) → MayRead m w top a n ⊎ ((a ≡ top.rsp0) × (n ≡ 8))
read_by m w top Ordinary a n may = inl may
read_by m w top Return a n may = inr may
read_by m w top Direct a n may = inl may
read_by m w top Indirect a n may = inl may

write_by : (m : ModuleView) (w : World) (top : Activation) (way : Way) (a n : ℕ) → MayDo m w top way (Write a n) → MayWrite m w top a n
write_by m w top Ordinary a n may = may
write_by m w top Return a n may = may
write_by m w top Direct a n may = may
write_by m w top Indirect a n may = may

module _ (m : ModuleView) (w : World) (top : Activation) (way : Way) (laid : IsLaidOut m.image m.imports w) (framed : IsFramed w top) where
  pub heap_read : (a n q : ℕ) → a ≤ q → q < a + n → w.heap - 8 ≤ q → q < w.heap + 2 ^ 33 → MayDo m w top way (Read a n) → ((w.heap ≤ a) × (a + n ≤ w.heap + 2 ^ 33)) ⊎ ((a + 8 ≡ w.heap) × (n ≡ 8))
  heap_read a n q low high one two may =
      let frame_low = framed.low in
      let frame_high = framed.high in
      let room = laid.room_below_heap in
      elim (read_by m w top way a n may) [
        | inl rows ↦ read_in_heap m w top laid framed a n q low high one two rows
        | inr back ↦ let x = back.0 in let y = back.1 in absurd (heap_or_stack laid q one two (omega arith) (omega arith))
      ]

  pub not_past : MayDo m w top way (Read (w.heap + 2 ^ 33 - 3) 4) → ⊥
  not_past may =
      elim (heap_read (w.heap + 2 ^ 33 - 3) 4 (w.heap + 2 ^ 33 - 1) (omega arith) (omega arith) (omega arith) (omega arith) may) [
        | inl in_heap ↦ let x = in_heap.1 in omega arith
        | inr word ↦ let x : ◌≡◌ {A = ℕ} 4 8 = word.1 in omega arith
      ]

  pub whole_word : (a n : ℕ) → 0 < n → a < w.heap → w.heap - 8 < a + n → MayDo m w top way (Read a n) → (a + 8 ≡ w.heap) × (n ≡ 8)
  whole_word a n some below above may =
      let room = laid.room_below_heap in
      let q = shared a n (w.heap - 8) w.heap below above (omega arith) some in
      let q3 = q.3 in
      let q4 = q.4 in
      elim (heap_read a n q.0 q.1 q.2 (omega arith) (omega arith) may) [
        | inl in_heap ↦ let x = in_heap.0 in absurd (omega arith)
        | inr word ↦ word
      ]

  pub word_stays : (a n : ℕ) → 0 < n → a < w.heap → w.heap - 8 < a + n → MayDo m w top way (Write a n) → ⊥
  word_stays a n some below above may =
      let room = laid.room_below_heap in
      let q = shared a n (w.heap - 8) w.heap below above (omega arith) some in
      let q3 = q.3 in
      let q4 = q.4 in
      let in_heap = write_in_heap m w top laid framed a n q.0 q.1 q.2 (omega arith) (omega arith) (write_by m w top way a n may) in
      let x = in_heap.0 in
      omega arith

  pub globals_read : (a n : ℕ) → a < w.globals + 4096 → w.globals + 4096 < a + n → w.globals ≤ a → MayDo m w top way (Read a n) → ⊥
  globals_read a n below above low may =
      let frame_low = framed.low in
      let frame_high = framed.high in
      elim (read_by m w top way a n may) [
        | inl rows ↦ let within = read_in_globals m w top laid framed a n a (omega arith) (omega arith) low below rows in let x = within.1 in omega arith
        | inr back ↦ let x = back.0 in globals_or_stack laid a low below (omega arith) (omega arith)
      ]

  pub globals_written : (a n : ℕ) → a < w.globals + 4096 → w.globals + 4096 < a + n → w.globals ≤ a → MayDo m w top way (Write a n) → ⊥
  globals_written a n below above low may =
      let within = write_in_globals m w top laid framed a n a (omega arith) (omega arith) low below (write_by m w top way a n may) in
      let x = within.1 in
      omega arith

  pub address_stays : (a n : ℕ) → 0 < n → a < top.rsp0 + 8 → top.rsp0 < a + n → MayDo m w top way (Write a n) → ⊥
  address_stays a n some below above may =
      let frame_high = framed.high in
      let q = shared a n top.rsp0 (top.rsp0 + 8) below above (omega arith) some in
      let q3 = q.3 in
      let q4 = q.4 in
      write_above m w top laid framed a n q.0 q.1 q.2 q.3 (omega arith) (write_by m w top way a n may)

  pub not_in_image : (a n q : ℕ) (part : Range) → Contains m.image part → IsIn q (loaded_range w part) → a ≤ q → q < a + n → MayDo m w top way (Write a n) → ⊥
  not_in_image a n q part of_image inside low high may = write_in_image m w top laid framed a n q low high part of_image inside (write_by m w top way a n may)

  pub not_unwritten : (a n q : ℕ) → w.stack_low ≤ q → q < top.rsp0 → top.written q ≡ false → a ≤ q → q < a + n → MayDo m w top way (Read a n) → ⊥
  not_unwritten a n q one two unwritten low high may =
      elim (read_by m w top way a n may) [
        | inl rows ↦ false≢true (sym unwritten ∙ read_in_frame m w top laid framed a n q low high one two rows)
        | inr back ↦ let x = back.0 in omega arith
      ]

pub in_guard : (m : ModuleView) (w : World) (top : Activation) → IsLaidOut m.image m.imports w → IsFramed w top → MayDo m w top Ordinary (Write (w.stack_low - 8192) 8)
in_guard m w top laid framed =
    let room = laid.room_below_stack in
    let low = framed.low in
    inr (inr (omega arith, omega arith))

or_true : (a b : Bool) → a ≡ true → a || b ≡ true
or_true true b h = refl
or_true false b h = absurd (let e : false ≡ true = h in cc)

touched : (a n low : ℕ) → a < low → low - 8192 < a + n → nat_lt a low && nat_lt (low - 8192) (a + n) ≡ true
touched a n low one two = grind (arith, nat_tests)

pub trapped : (w : World) (i : Insn) (a n : ℕ) (choice : Choice) (more : List Access) → a < w.stack_low → w.stack_low - 8192 < a + n → does_trap w i (record { at = a; size = n } ∷ more) choice ≡ true
trapped w i a n choice more one two = or_true _ _ (or_true _ _ (touched a n w.stack_low one two))

-- bytes from an address on, in two pieces
bytes_in_two : (bytes : ℕ → ℕ) (a n k : ℕ) → bytes_from bytes a (n + k) ≡ bytes_from bytes a n ++ bytes_from bytes (a + n) k
bytes_in_two bytes a zero k = let e : a + 0 ≡ a = omega arith in let f : 0 + k ≡ k = omega arith in rw (e, f) refl
bytes_in_two bytes a (suc n) k =
    let e : a + suc n ≡ (a + 1) + n = omega arith in
    let f : suc n + k ≡ suc (n + k) = omega arith in
    rw (e, f, bytes_in_two bytes (a + 1) n k) refl

length-bytes_from : (bytes : ℕ → ℕ) (a n : ℕ) → length (bytes_from bytes a n) ≡ n
length-bytes_from bytes a zero = refl
length-bytes_from bytes a (suc n) = ap suc (length-bytes_from bytes (a + 1) n)

-- No spelling begins another.
abbrev pub NoneBegins : Type 0
NoneBegins = (a b x y : List ℕ) (i j : Insn) → Spells a i → Spells b j → a ++ x ≡ b ++ y → (a ≡ b) × (i ≡ j)

same_code : {i j : Insn} {len other : ℕ} → i ≡ j → len ≡ other → Code i len ≡ Code j other
same_code p q = cc

module _ (law : NoneBegins) (m : ModuleView) (w : World) (laid : IsLaidOut m.image m.imports w) (top : Activation) (rip : ℕ) where
  spelled_once : (i j : Insn) (len other : ℕ) → IsSpelledAt m w top rip i len → IsSpelledAt m w top rip j other → Code i len ≡ Code j other
  spelled_once i j len other one two =
      let bytes = m.byte w in
      let a = rip - w.load in
      let swap : len + other ≡ other + len = omega arith in
      let same : bytes_from bytes a len ++ bytes_from bytes (a + len) other ≡ bytes_from bytes a other ++ bytes_from bytes (a + other) len =
      sym (bytes_in_two bytes a len other) ∙ (ap (λ (n : ℕ). bytes_from bytes a n) swap ∙ bytes_in_two bytes a other len) in
      let once = law (bytes_from bytes a len) (bytes_from bytes a other) (bytes_from bytes (a + len) other) (bytes_from bytes (a + other) len) i j one.spelled two.spelled same in
      same_code once.1 (sym (length-bytes_from bytes a len) ∙ (ap length once.0 ∙ length-bytes_from bytes a other))

  -- what is spelled lies inside
  inside_of : {i : Insn} {len : ℕ} → IsSpelledAt m w top rip i len → IsInside m w top rip
  inside_of spelled = record { function = spelled.function; of_top = spelled.of_top; inside = spelled.begins }

  same_slot : (slot other : ℕ) → IsStubAt m w top rip slot → IsStubAt m w top rip other → Stub slot ≡ Stub other
  same_slot slot other one two =
      let at = one.at in
      let at_two = two.at in
      let places : one.place ≡ two.place = omega arith in
      let stubs : Some one.stub ≡ Some two.stub = sym one.there ∙ (ap m.stub places ∙ two.there) in
      let same : one.stub ≡ two.stub = cc in
      ap Stub (one.has_slot ∙ (ap (λ (s : image_stub.Stub). s.slot) same ∙ sym two.has_slot))

  -- two of the host's functions at one address are those of one import
  one_import : (j k : ℕ) → slice_get w.hosts j ≡ Some rip → slice_get w.hosts k ≡ Some rip → j < k → ⊥
  one_import j k there other before =
      let inside : k < length w.hosts = slice_get_within w.hosts k rip other in
      let first : get_or w.hosts j 0 ≡ rip = get_or_from_slice_get w.hosts j rip 0 there in
      let second : get_or w.hosts k 0 ≡ rip = get_or_from_slice_get w.hosts k rip 0 other in
      laid.hosts_distinct (suc j) (suc k) 0 (omega arith) (omega arith) (first ∙ sym second)

  same_import : (j k : ℕ) → slice_get w.hosts j ≡ Some rip → slice_get w.hosts k ≡ Some rip → j ≡ k
  same_import j k there other =
      elim (cases_lt j k) [
        | inl before ↦ absurd (one_import j k there other before)
        | inr behind ↦ elim (cases_lt k j) [
          | inl after ↦ absurd (one_import k j other there after)
          | inr equal ↦ omega arith
        ]
      ]

  host_or_probe : IsHostAt m w rip → IsProbeAt m w rip → ⊥
  host_or_probe host probe =
      let same = same_import host.0 probe.0 host.1 probe.1 in
      false≢true (sym host.2 ∙ (ap m.is_probe same ∙ probe.2))

  pub stands_once : (here other : Here) → StandsFor m w top rip here → StandsFor m w top rip other → here ≡ other
  stands_once (Code i len) (Code j n) one two = spelled_once i j len n one two
  stands_once (Code i len) (Stub slot) one two = absurd (two.0 (inside_of one))
  stands_once (Code i len) Host one two = absurd (two.0 (inside_of one))
  stands_once (Code i len) Probe one two = absurd (two.0 (inside_of one))
  stands_once (Code i len) Nowhere one two = elim two [ inl none ↦ absurd (none.1 i len one) | inr outside ↦ absurd (outside.0 (inside_of one)) ]
  stands_once (Stub slot) (Code i len) one two = absurd (one.0 (inside_of two))
  stands_once (Stub slot) (Stub next) one two = same_slot slot next one.1 two.1
  stands_once (Stub slot) Host one two = absurd (two.1 slot one.1)
  stands_once (Stub slot) Probe one two = absurd (two.1 slot one.1)
  stands_once (Stub slot) Nowhere one two = elim two [ inl none ↦ absurd (one.0 none.0) | inr outside ↦ absurd (outside.1 slot one.1) ]
  stands_once Host (Code i len) one two = absurd (one.0 (inside_of two))
  stands_once Host (Stub slot) one two = absurd (one.1 slot two.1)
  stands_once Host Host one two = refl
  stands_once Host Probe one two = absurd (host_or_probe one.2 two.2)
  stands_once Host Nowhere one two = elim two [ inl none ↦ absurd (one.0 none.0) | inr outside ↦ absurd (outside.2 one.2) ]
  stands_once Probe (Code i len) one two = absurd (one.0 (inside_of two))
  stands_once Probe (Stub slot) one two = absurd (one.1 slot two.1)
  stands_once Probe Host one two = absurd (host_or_probe two.2 one.2)
  stands_once Probe Probe one two = refl
  stands_once Probe Nowhere one two = elim two [ inl none ↦ absurd (one.0 none.0) | inr outside ↦ absurd (outside.3 one.2) ]
  stands_once Nowhere (Code i len) one two = elim one [ inl none ↦ absurd (none.1 i len two) | inr outside ↦ absurd (outside.0 (inside_of two)) ]
  stands_once Nowhere (Stub slot) one two = elim one [ inl none ↦ absurd (two.0 none.0) | inr outside ↦ absurd (outside.1 slot two.1) ]
  stands_once Nowhere Host one two = elim one [ inl none ↦ absurd (two.0 none.0) | inr outside ↦ absurd (outside.2 two.2) ]
  stands_once Nowhere Probe one two = elim one [ inl none ↦ absurd (two.0 none.0) | inr outside ↦ absurd (outside.3 two.2) ]
  stands_once Nowhere Nowhere one two = refl

pub thing_stands_once : NoneBegins → (m : ModuleView) (w : World) (rip : ℕ) (active : List Activation) (here other : Here) → IsLaidOut m.image m.imports w → StandsAt m w rip active here → StandsAt m w rip active other → here ≡ other
thing_stands_once law m w rip [] (Code i len) other laid one two = absurd one
thing_stands_once law m w rip [] (Stub slot) other laid one two = absurd one
thing_stands_once law m w rip [] Host other laid one two = absurd one
thing_stands_once law m w rip [] Probe other laid one two = absurd one
thing_stands_once law m w rip [] Nowhere (Code i len) laid one two = absurd two
thing_stands_once law m w rip [] Nowhere (Stub slot) laid one two = absurd two
thing_stands_once law m w rip [] Nowhere Host laid one two = absurd two
thing_stands_once law m w rip [] Nowhere Probe laid one two = absurd two
thing_stands_once law m w rip [] Nowhere Nowhere laid one two = refl
thing_stands_once law m w rip (top ∷ rest) here other laid one two = stands_once law m w laid top rip here other one two

module _ (m : ModuleView) (w : World) (s : MachineState) (top : Activation) (rest : List Activation) (event : Event) (inside : IsInside m w top s.rip) (none : (i : Insn) (len : ℕ) → IsSpelledAt m w top s.rip i len → ⊥) where
  not_inside : (here : Here) → StandsAt m w s.rip (top ∷ rest) here → here ≡ Nowhere
  not_inside (Code i len) stands = absurd (none i len stands)
  not_inside (Stub slot) stands = absurd (stands.0 inside)
  not_inside Host stands = absurd (stands.0 inside)
  not_inside Probe stands = absurd (stands.0 inside)
  not_inside Nowhere stands = refl

pub refused : (m : ModuleView) (w : World) (s : MachineState) (top : Activation) (rest : List Activation) (event : Event) → s.active ≡ top ∷ rest → IsInside m w top s.rip → ((i : Insn) (len : ℕ) → IsSpelledAt m w top s.rip i len → ⊥) → IsPermitted m w s event → ⊥
refused m w s top rest event active inside none (here, stands, may) =
    let stands_here : StandsAt m w s.rip (top ∷ rest) here = rw active at stands in
    let may_here : PermittedOf m w (top ∷ rest) here event = rw active at may in
    subst (λ (h : Here). PermittedOf m w (top ∷ rest) h event) (not_inside m w s top rest event inside none here stands_here) may_here
