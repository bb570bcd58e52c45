-- The bytes of a stub, from the segment in whose memory they are.
use Rattle.std.proofs.Common.{◌≡◌, ℕ, ◌+◌, ◌<◌, ◌≤◌, ◌%◌, ◌^◌, ◌&&◌, Bool, true, false, cond, List, [], ◌∷◌, length, Option, Some, None, is_some, option_map, refl, sym, ap, ◌∙◌, suc, arith}
use Rattle.std.specs.List.{find}
use Rattle.vw_bits.specs.Fields.{load}
use Rattle.vw_bits.specs.Words.{sign_extended}
use Rattle.vw_bits.specs.Headers.{is_executable}
use Rattle.vw_bits.specs.Places.{in_memory}
use Rattle.vw_bits.specs.declared.records.Segment.{Segment}
use Rattle.vw_image.specs.Image.{Contents, segment_byte, memory_byte}
use Rattle.vw_image.specs.Bounds.{AllApart}
use Rattle.vw_image.specs.Words.{word_at}
use Rattle.vw_image.specs.Stubs.{spells, in_executable, stands_at, slot_behind, slot_at, stub_to, stub_at}
use Rattle.vw_bits.proofs.ListLemmas.{find-any, find-passes, and_right}
use Rattle.vw_bits.proofs.BoundLemmas.{among, among_is}
use Rattle.vw_image.proofs.Segments.{memory_byte-in, in_memory-one, load-in}

abbrev pub holds : ℕ → ℕ → Segment → Bool
holds a n s = is_executable s && in_memory a n s

pub held_by : (segments : List Segment) (a n : ℕ) (s : Segment) → Some s ≡ find (holds a n) segments → in_memory a n s ≡ true
held_by segments a n s found = and_right (is_executable s) (in_memory a n s) (find-passes (holds a n) segments s (sym found))

-- the bytes of the opcode, and those of the displacement
pub front_held : (a n m : ℕ) (s : Segment) → in_memory a (n + m) s ≡ true → in_memory a n s ≡ true
front_held a n m s held =
    let p : (s.vaddr ≤ a) × (a < s.vaddr + s.memsz) × (a + (n + m) ≤ s.vaddr + s.memsz) = among s.vaddr s.memsz a (n + m) held in
    among_is s.vaddr s.memsz a n p.0 p.1 (omega arith)

pub back_held : (a n m : ℕ) (s : Segment) → 0 < m → in_memory a (n + m) s ≡ true → in_memory (a + n) m s ≡ true
back_held a n m s some held =
    let p : (s.vaddr ≤ a) × (a < s.vaddr + s.memsz) × (a + (n + m) ≤ s.vaddr + s.memsz) = among s.vaddr s.memsz a (n + m) held in
    among_is s.vaddr s.memsz (a + n) m (omega arith) (omega arith) (omega arith)

spells-same : (f g : ℕ → ℕ) (a : ℕ) (xs : List ℕ) → ((k : ℕ) → k < length xs → f (a + k) ≡ g (a + k)) → spells f a xs ≡ spells g a xs
spells-same f g a [] same = refl
spells-same f g a (x ∷ xs) same =
    let start : a + 0 ≡ a = omega arith in
    let here : f a ≡ g a = ap f (sym start) ∙ same 0 (omega arith) ∙ ap g start in
    let rest : spells f (a + 1) xs ≡ spells g (a + 1) xs =
    spells-same f g (a + 1) xs (λ k inside. let at : (a + 1) + k ≡ a + suc k = omega arith in ap f at ∙ same (suc k) (omega arith) ∙ ap g (sym at)) in
    rw (here, rest) refl

module _ (bytes : List ℕ) (segments : List Segment) (a : ℕ) (opcode : List ℕ) where
  pub no_segment : None ≡ find (holds a (length opcode + 4)) segments → None ≡ cond (stands_at bytes segments a opcode) (Some (slot_behind bytes segments a opcode)) None
  unfolding stands_at
  no_segment none =
      let out : in_executable segments a (length opcode + 4) ≡ false = sym (find-any (holds a (length opcode + 4)) segments) ∙ ap is_some (sym none) in
      rw out refl

  module _ (s : Segment) (apart : AllApart segments) (found : Some s ≡ find (holds a (length opcode + 4)) segments) where
    inside : in_executable segments a (length opcode + 4) ≡ true
    inside = sym (find-any (holds a (length opcode + 4)) segments) ∙ ap is_some (sym found)

    held : in_memory a (length opcode + 4) s ≡ true
    held = held_by segments a (length opcode + 4) s found

    same : spells (segment_byte bytes s) a opcode ≡ spells (memory_byte bytes segments) a opcode
    same =
        spells-same (segment_byte bytes s) (memory_byte bytes segments) a opcode
        (λ k below. sym (memory_byte-in bytes (holds a (length opcode + 4)) segments s (a + k) apart (sym found) (in_memory-one a (length opcode) k s below (front_held a (length opcode) 4 s held))))

    pub other_bytes : false ≡ spells (segment_byte bytes s) a opcode → None ≡ cond (stands_at bytes segments a opcode) (Some (slot_behind bytes segments a opcode)) None
    unfolding stands_at
    other_bytes differ =
        let out : spells (memory_byte bytes segments) a opcode ≡ false = sym same ∙ sym differ in
        rw (inside, out) refl

    pub these_bytes : (disp slot : ℕ) → true ≡ spells (segment_byte bytes s) a opcode → disp ≡ load (segment_byte bytes s) (a + length opcode) 4
        → slot ≡ (a + length opcode + 4 + sign_extended disp 4) % 2 ^ 64 → Some slot ≡ cond (stands_at bytes segments a opcode) (Some (slot_behind bytes segments a opcode)) None
    unfolding stands_at slot_behind
    these_bytes disp slot spelled is at =
        let there : spells (memory_byte bytes segments) a opcode ≡ true = sym same ∙ sym spelled in
        let read : disp ≡ load (memory_byte bytes segments) (a + length opcode) 4 =
        is ∙ load-in bytes (holds a (length opcode + 4)) segments s (a + length opcode) 4 apart (sym found) (back_held a (length opcode) 4 s (omega arith) held) in
        rw (inside, there) (ap Some (at ∙ ap (λ (d : ℕ). (a + length opcode + 4 + sign_extended d 4) % 2 ^ 64) read))

-- the first of some opcodes
here : (f : List ℕ → ℕ) (x : List ℕ) (v : ℕ) (rest : Option (List ℕ)) (stands : Bool) → Some v ≡ cond stands (Some (f x)) None → Some v ≡ option_map f (cond stands (Some x) rest)
here f x v rest true is = is
here f x v rest false is = cc

further : (f : List ℕ → ℕ) (x : List ℕ) (rest : Option (List ℕ)) (stands : Bool) → None ≡ cond stands (Some (f x)) None → option_map f rest ≡ option_map f (cond stands (Some x) rest)
further f x rest true is = cc
further f x rest false is = refl

last : (f : List ℕ → ℕ) (x : List ℕ) (found : Option ℕ) (stands : Bool) → found ≡ cond stands (Some (f x)) None → found ≡ option_map f (cond stands (Some x) None)
last f x found true is = is
last f x found false is = is

abbrev jump : List ℕ
jump = 0xFF ∷ 0x25 ∷ []

abbrev checked_jump : List ℕ
checked_jump = 0xF3 ∷ 0x0F ∷ 0x1E ∷ 0xFA ∷ 0xFF ∷ 0x25 ∷ []

abbrev bound_jump : List ℕ
bound_jump = 0xF3 ∷ 0x0F ∷ 0x1E ∷ 0xFA ∷ 0xF2 ∷ 0xFF ∷ 0x25 ∷ []

module _ (bytes : List ℕ) (segments : List Segment) (a : ℕ) where
  abbrev at : List ℕ → Option ℕ
  at opcode = cond (stands_at bytes segments a opcode) (Some (slot_behind bytes segments a opcode)) None

  pub first_stands : (slot : ℕ) → Some slot ≡ at jump → Some slot ≡ slot_at bytes segments a
  unfolding slot_at
  first_stands slot is = here (slot_behind bytes segments a) jump slot _ (stands_at bytes segments a jump) is

  pub second_stands : (slot : ℕ) → None ≡ at jump → Some slot ≡ at checked_jump → Some slot ≡ slot_at bytes segments a
  unfolding slot_at
  second_stands slot not is =
      here (slot_behind bytes segments a) checked_jump slot _ (stands_at bytes segments a checked_jump) is
      ∙ further (slot_behind bytes segments a) jump _ (stands_at bytes segments a jump) not

  pub third_stands : (found : Option ℕ) → None ≡ at jump → None ≡ at checked_jump → found ≡ at bound_jump → found ≡ slot_at bytes segments a
  unfolding slot_at
  third_stands found not neither is =
      last (slot_behind bytes segments a) bound_jump found (stands_at bytes segments a bound_jump) is
      ∙ further (slot_behind bytes segments a) checked_jump _ (stands_at bytes segments a checked_jump) neither
      ∙ further (slot_behind bytes segments a) jump _ (stands_at bytes segments a jump) not

pub no_stub : (image : Contents) (a : ℕ) → None ≡ slot_at image.bytes image.segments a → None ≡ stub_at image a
unfolding stub_at
no_stub image a none = rw (← none) refl

pub stub_through : (image : Contents) (a slot : ℕ) → Some slot ≡ slot_at image.bytes image.segments a → stub_to slot (word_at image slot 8) ≡ stub_at image a
unfolding stub_at
stub_through image a slot some = rw (← some) refl
