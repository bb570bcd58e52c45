-- Addresses in an instance that is laid out well.
use Rattle.std.proofs.Common.{◌≡◌, ◌≢◌, ℕ, zero, suc, ◌+◌, ◌-◌, ◌^◌, ◌≤◌, ◌<◌, List, refl, arith}
use Rattle.vw_bits.specs.Fields.{load}
use Rattle.std.specs.Prelude.{Contains}
use Rattle.vw_machine.specs.declared.world.World.{World}
use Rattle.vw_machine.specs.World.{Range, IsIn, IsLaidOut, loaded_range}
use Rattle.vw_machine.specs.State.{Bytes}
use Rattle.vw_machine.proofs.Regions.{all_of}
use Rattle.vw_machine.proofs.Regions as regions

module _ {image : List Range} {imports : ℕ} {w : World} (laid : IsLaidOut image imports w) where
  -- no address is in the heap, or the word before it, and in the stack
  pub heap_or_stack :
      (a : ℕ) → w.heap - 8 ≤ a → a < w.heap + 2 ^ 33 → w.stack_low ≤ a → a < w.stack_high → ⊥
  heap_or_stack a one two three four = regions.heap_or_stack laid a one two (omega arith) four

  -- an address of a part of the image is none of the host's
  pub host_elsewhere : (part : Range) → Contains image part → (a : ℕ) → w.load + part.from ≤ a → a < w.load + part.to → a ≢ w.host_return
  host_elsewhere part of_image a low high is_host =
      let outside = laid.hosts_outside.0.1 in
      all_of (λ (p : Range). ¬ IsIn w.host_return (loaded_range w p)) image outside part of_image (omega arith, omega arith)

  -- an address of a part of the image is below the top
  pub image_low :
      (part : Range) → Contains image part → (a : ℕ) → w.load + part.from ≤ a
      → a < w.load + part.to → a < 2 ^ 47
  image_low part of_image a low high = regions.image_low laid part of_image a (low, high)

-- a number that is loaded depends on its bytes alone
pub load_same : (old new : Bytes) (a n : ℕ) → ((q : ℕ) → a ≤ q → q < a + n → new q ≡ old q) → load new a n ≡ load old a n
load_same old new a zero same = refl
load_same old new a (suc n) same =
    rw (same a (omega arith) (omega arith), load_same old new (a + 1) n (λ q low high. same q (omega arith) (omega arith))) refl
