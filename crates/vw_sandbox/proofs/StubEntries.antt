-- No function with safe tables begins where a stub stands: a stub jumps through a word, of which no state tells a table of
-- jumps.
use Rattle.std.proofs.Common.{◌≡◌, ℕ, ◌+◌, ◌<◌, ◌≤◌, ◌⊎◌, inl, inr, ◌==◌, ◌&&◌, Bool, true, false, if◌then◌else◌, List, [], ◌∷◌, length, slice_index, Option, Some, None, refl, ap, ◌∙◌, subst, arith}
use Rattle.std.specs.Prelude.{Contains, ℤ, option_map, option_and_then}
use Rattle.std.proofs.lemmas.Bool.{false≢true, eqb-true}
use Rattle.vw_insn.specs.declared.instruction.Insn.{Insn}
use Rattle.vw_insn.specs.declared.instruction.Insn.TheVariants as insn
use Rattle.vw_lift.specs.Lifted.{flow_of}
use Rattle.vw_values.specs.declared.value.Value.{Value}
use Rattle.vw_values.specs.declared.value.Value.TheVariants.{Any, Num, Const, Below, Low, Both, HeapBase, HeapAddr, Globals, Entry, Image, Index16, EntryPtr, EntryTyped, TagOf, TableFn, JumpOff, JumpDest}
use Rattle.vw_domain.specs.Abstract.{Abstract}
use Rattle.vw_domain.specs.Changes.{forget}
use Rattle.vw_domain.specs.FormRanges.{IsStateForm}
use Rattle.vw_domain.specs.Memory.{value_or, word_value}
use Rattle.vw_domain.specs.Sites.{Word as SiteWord, Plain, Based, Other}
use Rattle.vw_image.specs.Image.{Contents, image_byte, memory_byte}
use Rattle.vw_image.specs.declared.stub.Stub.{Stub}
use Rattle.vw_image.specs.Stubs.{spells, in_executable, stands_at, slot_behind, slot_at, stub_to, stub_at}
use Rattle.vw_image.specs.Words.{word_at}
use Rattle.vw_layout.specs.declared.functions.Function.{Function}
use Rattle.vw_layout.specs.declared.layout.Module.{Module as Declared}
use Rattle.vw_state.specs.Sites.{site_word}
use Rattle.vw_machine.specs.declared.world.World.{World}
use Rattle.vw_machine.specs.Module.{view_of}
use Rattle.vw_sandbox.specs.Tables.{Tables, Bounds, Follows, IsSafeAt, AreSafe, state_behind}
use Rattle.vw_sandbox.proofs.StubReads.{through, ReadsOnly, ReadsNone, jump_only, endbr_only, bound_none}

abbrev is_dest : Value → Bool
is_dest (JumpDest a k) = true
is_dest Any = false
is_dest Num = false
is_dest (Const c) = false
is_dest (Below k) = false
is_dest (Low k) = false
is_dest (Both k) = false
is_dest HeapBase = false
is_dest HeapAddr = false
is_dest Globals = false
is_dest (Entry r) = false
is_dest (Image a) = false
is_dest (Index16 k mark) = false
is_dest (EntryPtr t) = false
is_dest (EntryTyped t g) = false
is_dest (TagOf t via) = false
is_dest (TableFn t g) = false
is_dest (JumpOff a k) = false

none_some : {A : Type 0} {x : A} → ◌≡◌ {A = Option A} None (Some x) → ⊥
none_some e = cc

both_is : (a b : Bool) → (a && b) ≡ true → (a ≡ true) × (b ≡ true)
both_is true b e = (refl, e)
both_is false b e = absurd (false≢true e)

-- ---- which bytes stand there

abbrev jump_bytes : List ℕ
jump_bytes = 0xFF ∷ 0x25 ∷ []

abbrev marked_bytes : List ℕ
marked_bytes = 0xF3 ∷ 0x0F ∷ 0x1E ∷ 0xFA ∷ 0xFF ∷ 0x25 ∷ []

abbrev bound_bytes : List ℕ
bound_bytes = 0xF3 ∷ 0x0F ∷ 0x1E ∷ 0xFA ∷ 0xF2 ∷ 0xFF ∷ 0x25 ∷ []

module _ (image : Contents) (place : ℕ) where
  abbrev Stands : List ℕ → Type 0
  Stands opcode = stands_at image.bytes image.segments place opcode ≡ true

  which : (stub : Stub) → stub_at image place ≡ Some stub → Stands jump_bytes ⊎ (Stands marked_bytes ⊎ Stands bound_bytes)
  unfolding stub_at slot_at
  which stub is = by_tests (stands_at image.bytes image.segments place jump_bytes) (stands_at image.bytes image.segments place marked_bytes) (stands_at image.bytes image.segments place bound_bytes) refl refl refl is
    where
      by_tests : (a b c : Bool) → stands_at image.bytes image.segments place jump_bytes ≡ a → stands_at image.bytes image.segments place marked_bytes ≡ b → stands_at image.bytes image.segments place bound_bytes ≡ c
          → option_and_then (λ slot. stub_to slot (word_at image slot 8)) (option_map (slot_behind image.bytes image.segments place) (if a then Some jump_bytes else (if b then Some marked_bytes else (if c then Some bound_bytes else None)))) ≡ Some stub
          → Stands jump_bytes ⊎ (Stands marked_bytes ⊎ Stands bound_bytes)
      by_tests true b c e f g is = inl e
      by_tests false true c e f g is = inr (inl f)
      by_tests false false true e f g is = inr (inr g)
      by_tests false false false e f g is = absurd (none_some is)

  -- the bytes of an opcode that stands there, in an instance
  module _ (base : ℕ) (hosts : ℕ → ℕ)
      (settled : (a n : ℕ) → in_executable image.segments a n ≡ true → (base : ℕ) (hosts : ℕ → ℕ) (b : ℕ) → a ≤ b → b < a + n → image_byte image base hosts b ≡ memory_byte image.bytes image.segments b) where
    abbrev byte : ℕ → ℕ
    byte a = image_byte image base hosts a

    spelling : (opcode : List ℕ) → Stands opcode → spells (memory_byte image.bytes image.segments) place opcode ≡ true
    unfolding stands_at
    spelling opcode h = (both_is (in_executable image.segments place (length opcode + 4)) _ h).1

    byte_of : (opcode : List ℕ) → Stands opcode → (a x : ℕ) → place ≤ a → a < place + (length opcode + 4) → (memory_byte image.bytes image.segments a == x) ≡ true → byte a ≡ x
    unfolding stands_at
    byte_of opcode h a x low high is =
        settled place (length opcode + 4) (both_is (in_executable image.segments place (length opcode + 4)) _ h).0 base hosts a low high ∙ eqb-true (memory_byte image.bytes image.segments a) x is

    jump_there : Stands jump_bytes → (byte place ≡ 0xFF) × (byte (place + 1) ≡ 0x25)
    jump_there h =
        let s = both_is _ _ (spelling jump_bytes h) in
        let t = both_is _ _ s.1 in
        (byte_of jump_bytes h place 0xFF (omega arith) (omega arith) s.0, byte_of jump_bytes h (place + 1) 0x25 (omega arith) (omega arith) t.0)

    abbrev IsMark : Type 0
    IsMark = (byte place ≡ 0xF3) × (byte (place + 1) ≡ 0x0F) × (byte (place + 1 + 1) ≡ 0x1E) × (byte (place + 1 + 1 + 1) ≡ 0xFA)

    marked_there : Stands marked_bytes → IsMark × (byte (place + 1 + 1 + 1 + 1) ≡ 0xFF) × (byte (place + 1 + 1 + 1 + 1 + 1) ≡ 0x25)
    marked_there h =
        let s = both_is _ _ (spelling marked_bytes h) in
        let t = both_is _ _ s.1 in
        let u = both_is _ _ t.1 in
        let v = both_is _ _ u.1 in
        let x = both_is _ _ v.1 in
        let y = both_is _ _ x.1 in (
          (
            byte_of marked_bytes h place 0xF3 (omega arith) (omega arith) s.0,
            byte_of marked_bytes h (place + 1) 0x0F (omega arith) (omega arith) t.0,
            byte_of marked_bytes h (place + 1 + 1) 0x1E (omega arith) (omega arith) u.0,
            byte_of marked_bytes h (place + 1 + 1 + 1) 0xFA (omega arith) (omega arith) v.0,
          ),
          byte_of marked_bytes h (place + 1 + 1 + 1 + 1) 0xFF (omega arith) (omega arith) x.0,
          byte_of marked_bytes h (place + 1 + 1 + 1 + 1 + 1) 0x25 (omega arith) (omega arith) y.0,
        )

    bound_there : Stands bound_bytes → IsMark × (byte (place + 1 + 1 + 1 + 1) ≡ 0xF2) × (byte (place + 1 + 1 + 1 + 1 + 1) ≡ 0xFF) × (byte (place + 1 + 1 + 1 + 1 + 1 + 1) ≡ 0x25)
    bound_there h =
        let s = both_is _ _ (spelling bound_bytes h) in
        let t = both_is _ _ s.1 in
        let u = both_is _ _ t.1 in
        let v = both_is _ _ u.1 in
        let x = both_is _ _ v.1 in
        let y = both_is _ _ x.1 in
        let z = both_is _ _ y.1 in (
          (
            byte_of bound_bytes h place 0xF3 (omega arith) (omega arith) s.0,
            byte_of bound_bytes h (place + 1) 0x0F (omega arith) (omega arith) t.0,
            byte_of bound_bytes h (place + 1 + 1) 0x1E (omega arith) (omega arith) u.0,
            byte_of bound_bytes h (place + 1 + 1 + 1) 0xFA (omega arith) (omega arith) v.0,
          ),
          byte_of bound_bytes h (place + 1 + 1 + 1 + 1) 0xF2 (omega arith) (omega arith) x.0,
          byte_of bound_bytes h (place + 1 + 1 + 1 + 1 + 1) 0xFF (omega arith) (omega arith) y.0,
          byte_of bound_bytes h (place + 1 + 1 + 1 + 1 + 1 + 1) 0x25 (omega arith) (omega arith) z.0,
        )

-- ---- no function with safe tables begins so

module _ (only : ReadsOnly) (none : ReadsNone) (declared : Declared) (bounds : Bounds) (tables : Tables) (safe : AreSafe declared bounds tables) (w : World) (bytes_are : (a : ℕ) → (view_of declared).byte w a < 256)
    (settled : (a n : ℕ) → in_executable declared.image.segments a n ≡ true → (base : ℕ) (hosts : ℕ → ℕ) (b : ℕ) → a ≤ b → b < a + n → image_byte declared.image base hosts b ≡ memory_byte declared.image.bytes declared.image.segments b)
    (f : Function) (listed : Contains declared.functions f) where
  abbrev at_place : ℕ → ℕ
  at_place a = (view_of declared).byte w a

  -- the word that is loaded is no table of jumps
  no_dest : (q : SiteWord) → is_dest (forget (λ r. r == 16) (value_or (word_value q) Any)) ≡ true → ⊥
  no_dest (Plain x) e = false≢true e
  no_dest (Based a) e = false≢true e
  no_dest Other e = false≢true e

  no_jump : (at : ℕ) (st : Abstract) (h : IsSafeAt declared bounds tables f at st) → IsStateForm (bounds f) st → (d : ℤ) → h.i ≡ through d → ⊥
  no_jump at st h form d e =
      let P : Insn → Type 0 = λ i. Follows declared bounds tables f (at + h.len) (state_behind declared bounds tables f at i h.len st) (flow_of i) in
      let k = subst P e (h.follows form) in
      no_dest (site_word declared.image _ 8) (ap is_dest k.2)

  jumps_at : (at : ℕ) (st : Abstract) (h : IsSafeAt declared bounds tables f at st) → IsStateForm (bounds f) st → at_place (f.entry + at) ≡ 0xFF → at_place (f.entry + at + 1) ≡ 0x25 → ⊥
  jumps_at at st h form one two =
      let is = jump_only at_place (f.entry + at) h.len h.i (h.stands.spelled w) only one two in
      no_jump at st h form is.0 is.1

  -- a point with a state
  abbrev Known : ℕ → Type 0
  Known at = (st : Abstract) × IsSafeAt declared bounds tables f at st × IsStateForm (bounds f) st

  -- behind ENDBR64 there is one
  behind : (st : Abstract) (h : IsSafeAt declared bounds tables f 0 st) → IsStateForm (bounds f) st → h.i ≡ insn.Endbr → h.len ≡ 4 → Known 4
  behind st h form e four =
      let P : Insn → Type 0 = λ i. Follows declared bounds tables f (0 + h.len) (state_behind declared bounds tables f 0 i h.len st) (flow_of i) in
      let lands = subst P e (h.follows form) in
      let point : 0 + h.len ≡ 4 = omega (arith, four) in
      (lands.high, subst (λ at. IsSafeAt declared bounds tables f at lands.high) point (safe.each f (0 + h.len) lands.high listed lands.there), lands.form)

  first : Known 0
  first = let lands = safe.entered f listed in (lands.high, safe.each f 0 lands.high listed lands.there, lands.form)

  abbrev byte_is : ℕ → ℕ → Type 0
  byte_is a x = at_place a ≡ x

  moved : (a b x : ℕ) → a ≡ b → byte_is b x → byte_is a x
  moved a b x e h = ap at_place e ∙ h

  marked : (at_place f.entry ≡ 0xF3) × (at_place (f.entry + 1) ≡ 0x0F) × (at_place (f.entry + 1 + 1) ≡ 0x1E) × (at_place (f.entry + 1 + 1 + 1) ≡ 0xFA) → Known 4
  marked m =
      let h = first.1 in
      let is = endbr_only at_place (f.entry + 0) h.len h.i (h.stands.spelled w) only (moved (f.entry + 0) f.entry 0xF3 (omega arith) m.0) (moved (f.entry + 0 + 1) (f.entry + 1) 0x0F (omega arith) m.1)
      (moved (f.entry + 0 + 1 + 1) (f.entry + 1 + 1) 0x1E (omega arith) m.2) (moved (f.entry + 0 + 1 + 1 + 1) (f.entry + 1 + 1 + 1) 0xFA (omega arith) m.3) in
      behind first.0 h first.2 is.0 is.1

  pub no_stub_there : (stub : Stub) → stub_at declared.image f.entry ≡ Some stub → ⊥
  no_stub_there stub is = by_which (which declared.image f.entry stub is)
    where
      by_which : (stands_at declared.image.bytes declared.image.segments f.entry jump_bytes ≡ true) ⊎ ((stands_at declared.image.bytes declared.image.segments f.entry marked_bytes ≡ true) ⊎ (stands_at declared.image.bytes declared.image.segments f.entry bound_bytes ≡ true)) → ⊥
      by_which (inl h) =
          let t = jump_there declared.image f.entry w.load (slice_index w.hosts) settled h in
          jumps_at 0 first.0 first.1 first.2 (moved (f.entry + 0) f.entry 0xFF (omega arith) t.0) (moved (f.entry + 0 + 1) (f.entry + 1) 0x25 (omega arith) t.1)
      by_which (inr (inl h)) =
          let t = marked_there declared.image f.entry w.load (slice_index w.hosts) settled h in
          let b = marked t.0 in
          jumps_at 4 b.0 b.1 b.2 (moved (f.entry + 4) (f.entry + 1 + 1 + 1 + 1) 0xFF (omega arith) t.1) (moved (f.entry + 4 + 1) (f.entry + 1 + 1 + 1 + 1 + 1) 0x25 (omega arith) t.2)
      by_which (inr (inr h)) =
          let t = bound_there declared.image f.entry w.load (slice_index w.hosts) settled h in
          let b = marked t.0 in
          bound_none at_place (f.entry + 4) b.1.len b.1.i (b.1.stands.spelled w) none bytes_are
          (moved (f.entry + 4) (f.entry + 1 + 1 + 1 + 1) 0xF2 (omega arith) t.1) (moved (f.entry + 4 + 1) (f.entry + 1 + 1 + 1 + 1 + 1) 0xFF (omega arith) t.2)
          (moved (f.entry + 4 + 1 + 1) (f.entry + 1 + 1 + 1 + 1 + 1 + 1) 0x25 (omega arith) t.3)
