-- Where the pieces of an instance lie, and what may be read and written in each.
use Rattle.std.proofs.Common.{◌≡◌, ◌⊎◌, inl, inr, ℕ, zero, suc, ◌+◌, ◌-◌, ◌^◌, ◌≤◌, ◌<◌, true, List, [], ◌∷◌, subst, arith, lit<}
use Rattle.std.specs.Prelude.{Contains}
use Rattle.std.specs.List.{AllByRecursion}
use Rattle.vw_machine.specs.declared.world.World.{World}
use Rattle.vw_machine.specs.World.{Range, IsLaidOut, IsIn, IsWithin, AreApart, IsBelowTop, instance_ranges, globals_range, heap_range, loaded_range}
use Rattle.vw_machine.specs.Module.{ModuleView}
use Rattle.vw_machine.specs.State.{Activation}
use Rattle.vw_machine.specs.Permitted.{MayRead, MayWrite}
use Rattle.vw_machine.specs.Laws.{IsFramed}

-- what holds of all items of a list holds of each
pub all_of : {A : Type 0} (P : A → Type 0) (xs : List A) → AllByRecursion P xs → (x : A) → Contains xs x → P x
all_of P [] all x (k, inside, is) = absurd (omega arith)
all_of P (y ∷ ys) all x (zero, inside, is) = subst P is all.0
all_of P (y ∷ ys) all x (suc k, inside, is) = all_of P ys all.1 x (k, omega arith, is)

module _ {image : List Range} {imports : ℕ} {w : World} (laid : IsLaidOut image imports w) where
  pub heap_ends : w.heap + 2 ^ 33 ≤ 2 ^ 47
  heap_ends =
      let top : w.heap + 2 ^ 33 - 1 < 2 ^ 47 = laid.instance_ends.0 (w.heap + 2 ^ 33 - 1) (omega arith, omega arith) in
      omega arith

  pub globals_end : w.globals + 4096 ≤ 2 ^ 47
  globals_end =
      let top : w.globals + 4095 < 2 ^ 47 = laid.instance_ends.1.0 (w.globals + 4095) (omega arith, omega arith) in
      omega arith

  pub stack_ends : w.stack_high ≤ 2 ^ 47
  stack_ends =
      let room = laid.stack_room in
      let top : w.stack_high - 1 < 2 ^ 47 = laid.instance_ends.1.1.0 (w.stack_high - 1) (omega arith, omega arith) in
      omega arith

  -- no address is in the heap, or the word before it, and in the globals
  pub heap_or_globals : (a : ℕ) → w.heap - 8 ≤ a → a < w.heap + 2 ^ 33 → w.globals ≤ a → a < w.globals + 4096 → ⊥
  heap_or_globals a one two three four =
      let heap : Range = record { from = w.heap - 8; to = w.heap + 2 ^ 33 } in
      laid.instance_apart 0 1 heap (lit< tt) (lit< tt) a (one, two) (three, four)

  -- nor in the heap and in the stack or its guard
  pub heap_or_stack : (a : ℕ) → w.heap - 8 ≤ a → a < w.heap + 2 ^ 33 → w.stack_low - 8192 ≤ a → a < w.stack_high → ⊥
  heap_or_stack a one two three four =
      let heap : Range = record { from = w.heap - 8; to = w.heap + 2 ^ 33 } in
      laid.instance_apart 0 2 heap (lit< tt) (lit< tt) a (one, two) (three, four)

  -- nor in the globals and in the stack or its guard
  pub globals_or_stack : (a : ℕ) → w.globals ≤ a → a < w.globals + 4096 → w.stack_low - 8192 ≤ a → a < w.stack_high → ⊥
  globals_or_stack a one two three four =
      let globals : Range = globals_range w in
      laid.instance_apart 1 2 globals (lit< tt) (lit< tt) a (one, two) (three, four)

  apart_from : (part : Range) → Contains image part → AllByRecursion (AreApart (loaded_range w part)) (instance_ranges w)
  apart_from part of_image = all_of (λ (p : Range). AllByRecursion (AreApart (loaded_range w p)) (instance_ranges w)) image laid.image_apart part of_image

  -- no address of the image is in the heap, or the word before it
  pub image_or_heap : (part : Range) → Contains image part → (a : ℕ) → IsIn a (loaded_range w part) → w.heap - 8 ≤ a → a < w.heap + 2 ^ 33 → ⊥
  image_or_heap part of_image a inside one two = (apart_from part of_image).0 a inside (one, two)

  pub image_or_globals : (part : Range) → Contains image part → (a : ℕ) → IsIn a (loaded_range w part) → w.globals ≤ a → a < w.globals + 4096 → ⊥
  image_or_globals part of_image a inside one two = (apart_from part of_image).1.0 a inside (one, two)

  pub image_or_stack : (part : Range) → Contains image part → (a : ℕ) → IsIn a (loaded_range w part) → w.stack_low - 8192 ≤ a → a < w.stack_high → ⊥
  image_or_stack part of_image a inside one two = (apart_from part of_image).1.1.0 a inside (one, two)

  -- an address of a part of the image is below the top
  pub image_low : (part : Range) → Contains image part → (a : ℕ) → IsIn a (loaded_range w part) → a < 2 ^ 47
  image_low part of_image a inside = all_of (λ (p : Range). IsBelowTop (loaded_range w p)) image laid.image_ends part of_image a inside

module _ (m : ModuleView) (w : World) (top : Activation) (laid : IsLaidOut m.image m.imports w) (framed : IsFramed w top) (a n q : ℕ) (low : a ≤ q) (high : q < a + n) where
  -- a byte of the heap, or of the word before it, is read in the heap or with that word
  pub read_in_heap : w.heap - 8 ≤ q → q < w.heap + 2 ^ 33 → MayRead m w top a n → IsWithin a n (heap_range w) ⊎ ((a + 8 ≡ w.heap) × (n ≡ 8))
  read_in_heap one two may =
      let room = laid.room_below_heap in
      let room_stack = laid.room_below_stack in
      let frame_low = framed.low in
      let frame_high = framed.high in
      elim may [
        | inl in_heap ↦ inl in_heap
        | inr may ↦ elim may [
          | inl word ↦ inr word
          | inr may ↦ elim may [
            | inl in_globals ↦ let x = in_globals.0 in let y = in_globals.1 in absurd (heap_or_globals laid q one two (omega arith) (omega arith))
            | inr may ↦ elim may [
              | inl readable ↦ let r = readable q low high in absurd (image_or_heap laid r.part r.of_image q r.inside one two)
              | inr may ↦ elim may [
                | inl written ↦ let b = framed.written q (written q low high) in let x = b.0 in let y = b.1 in absurd (heap_or_stack laid q one two (omega arith) (omega arith))
                | inr above ↦ let x = above.0 in let y = above.1 in absurd (heap_or_stack laid q one two (omega arith) (omega arith))
              ]
            ]
          ]
        ]
      ]

  -- a byte of the globals is read in the globals
  pub read_in_globals : w.globals ≤ q → q < w.globals + 4096 → MayRead m w top a n → IsWithin a n (globals_range w)
  read_in_globals one two may =
      let room = laid.room_below_heap in
      let room_stack = laid.room_below_stack in
      let frame_low = framed.low in
      let frame_high = framed.high in
      elim may [
        | inl in_heap ↦ let x = in_heap.0 in let y = in_heap.1 in absurd (heap_or_globals laid q (omega arith) (omega arith) one two)
        | inr may ↦ elim may [
          | inl word ↦ let x = word.0 in let y = word.1 in absurd (heap_or_globals laid q (omega arith) (omega arith) one two)
          | inr may ↦ elim may [
            | inl in_globals ↦ in_globals
            | inr may ↦ elim may [
              | inl readable ↦ let r = readable q low high in absurd (image_or_globals laid r.part r.of_image q r.inside one two)
              | inr may ↦ elim may [
                | inl written ↦ let b = framed.written q (written q low high) in let x = b.0 in let y = b.1 in absurd (globals_or_stack laid q one two (omega arith) (omega arith))
                | inr above ↦ let x = above.0 in let y = above.1 in absurd (globals_or_stack laid q one two (omega arith) (omega arith))
              ]
            ]
          ]
        ]
      ]

  -- a byte of the frame is read only where it is written
  pub read_in_frame : w.stack_low ≤ q → q < top.rsp0 → MayRead m w top a n → top.written q ≡ true
  read_in_frame one two may =
      let room = laid.room_below_heap in
      let room_stack = laid.room_below_stack in
      let frame_low = framed.low in
      let frame_high = framed.high in
      elim may [
        | inl in_heap ↦ let x = in_heap.0 in let y = in_heap.1 in absurd (heap_or_stack laid q (omega arith) (omega arith) (omega arith) (omega arith))
        | inr may ↦ elim may [
          | inl word ↦ let x = word.0 in let y = word.1 in absurd (heap_or_stack laid q (omega arith) (omega arith) (omega arith) (omega arith))
          | inr may ↦ elim may [
            | inl in_globals ↦ let x = in_globals.0 in let y = in_globals.1 in absurd (globals_or_stack laid q (omega arith) (omega arith) (omega arith) (omega arith))
            | inr may ↦ elim may [
              | inl readable ↦ let r = readable q low high in absurd (image_or_stack laid r.part r.of_image q r.inside (omega arith) (omega arith))
              | inr may ↦ elim may [
                | inl written ↦ written q low high
                | inr above ↦ let x = above.0 in let y = above.1 in absurd (omega arith)
              ]
            ]
          ]
        ]
      ]

  -- a byte of the heap is written in the heap
  pub write_in_heap : w.heap - 8 ≤ q → q < w.heap + 2 ^ 33 → MayWrite m w top a n → IsWithin a n (heap_range w)
  write_in_heap one two may =
      let frame_high = framed.high in
      elim may [
        | inl in_heap ↦ in_heap
        | inr may ↦ elim may [
          | inl in_globals ↦ let x = in_globals.0 in let y = in_globals.1 in absurd (heap_or_globals laid q one two (omega arith) (omega arith))
          | inr in_frame ↦ let x = in_frame.0 in let y = in_frame.1 in absurd (heap_or_stack laid q one two (omega arith) (omega arith))
        ]
      ]

  pub write_in_globals : w.globals ≤ q → q < w.globals + 4096 → MayWrite m w top a n → IsWithin a n (globals_range w)
  write_in_globals one two may =
      let frame_high = framed.high in
      elim may [
        | inl in_heap ↦ let x = in_heap.0 in let y = in_heap.1 in absurd (heap_or_globals laid q (omega arith) (omega arith) one two)
        | inr may ↦ elim may [
          | inl in_globals ↦ in_globals
          | inr in_frame ↦ let x = in_frame.0 in let y = in_frame.1 in absurd (globals_or_stack laid q one two (omega arith) (omega arith))
        ]
      ]

  -- no byte from the return address on is written
  pub write_above : top.rsp0 ≤ q → q < w.stack_high → MayWrite m w top a n → ⊥
  write_above one two may =
      let frame_low = framed.low in
      elim may [
        | inl in_heap ↦ let x = in_heap.0 in let y = in_heap.1 in heap_or_stack laid q (omega arith) (omega arith) (omega arith) two
        | inr may ↦ elim may [
          | inl in_globals ↦ let x = in_globals.0 in let y = in_globals.1 in globals_or_stack laid q (omega arith) (omega arith) (omega arith) two
          | inr in_frame ↦ let y = in_frame.1 in omega arith
        ]
      ]

  -- no byte of the image is written
  pub write_in_image : (part : Range) → Contains m.image part → IsIn q (loaded_range w part) → MayWrite m w top a n → ⊥
  write_in_image part of_image inside may =
      let frame_high = framed.high in
      elim may [
        | inl in_heap ↦ let x = in_heap.0 in let y = in_heap.1 in image_or_heap laid part of_image q inside (omega arith) (omega arith)
        | inr may ↦ elim may [
          | inl in_globals ↦ let x = in_globals.0 in let y = in_globals.1 in image_or_globals laid part of_image q inside (omega arith) (omega arith)
          | inr in_frame ↦ let x = in_frame.0 in let y = in_frame.1 in image_or_stack laid part of_image q inside (omega arith) (omega arith)
        ]
      ]
