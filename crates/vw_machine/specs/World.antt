-- Where an instance lies in memory, and what it is that it is laid out well.
use Rattle.std.specs.Prelude.{◌≡◌, ◌≢◌, ℕ, ◌+◌, ◌-◌, ◌%◌, ◌^◌, ◌<◌, ◌≤◌, ◌&&◌, Bool, nat_le, nat_lt, ◌*◌, List, [], ◌∷◌, map, length, AllPairs}
use Rattle.std.specs.List.{AllByRecursion, range_with_len}
use Rattle.vw_machine.specs.declared.world.World.{World}

-- the addresses from `from` up to, and without, `to`
pub record Range : Type 0 where
  pub from : ℕ
  pub to : ℕ

-- n bytes from address a lie wholly in the range
abbrev pub IsWithin : ℕ → ℕ → Range → Type 0
IsWithin a n range = (range.from ≤ a) × (a + n ≤ range.to)

abbrev pub is_within : ℕ → ℕ → Range → Bool
is_within a n range = nat_le range.from a && nat_le (a + n) range.to

-- one of n bytes from address a lies in the range
abbrev pub touches : ℕ → ℕ → Range → Bool
touches a n range = nat_lt a range.to && nat_lt range.from (a + n)

abbrev pub IsIn : ℕ → Range → Type 0
IsIn a range = (range.from ≤ a) × (a < range.to)

-- no address lies in both
abbrev pub AreApart : Range → Range → Type 0
AreApart r s = (a : ℕ) → IsIn a r → IsIn a s → ⊥

-- user addresses of the processor have 47 bits (SDM volume 1, 3.3.7.1)
abbrev pub IsBelowTop : Range → Type 0
IsBelowTop range = (a : ℕ) → IsIn a range → a < 2 ^ 47

-- the heap's reservation: 2 ^ 33 bytes, so that a base and two 32-bit offsets stay in it
abbrev pub heap_range : World → Range
heap_range w = record { from = w.heap; to = w.heap + 2 ^ 33 }

abbrev pub globals_range : World → Range
globals_range w = record { from = w.globals; to = w.globals + 4096 }

abbrev pub stack_range : World → Range
stack_range w = record { from = w.stack_low; to = w.stack_high }

-- the bytes below the stack, at which an access ends the run
abbrev pub guard_range : World → Range
guard_range w = record { from = w.stack_low - 8192; to = w.stack_low }

-- a range of the image, whose addresses count from the load address
abbrev pub loaded_range : World → Range → Range
loaded_range w part = record { from = w.load + part.from; to = w.load + part.to }

-- the heap with its instance word, the globals, and the stack with its guard
abbrev pub instance_ranges : World → List Range
instance_ranges w =
    record { from = w.heap - 8; to = w.heap + 2 ^ 33 }
    ∷ globals_range w
    ∷ record { from = w.stack_low - 8192; to = w.stack_high }
    ∷ []

-- a host's address lies outside everything that belongs to the instance
abbrev pub IsHostAddress : World → List Range → ℕ → Type 0
IsHostAddress w image a =
    (a < 2 ^ 47) × AllByRecursion (λ part. ¬ IsIn a (loaded_range w part)) image × AllByRecursion (λ part. ¬ IsIn a part) (instance_ranges w)

-- An image with these parts, for a module with this many imports, is laid out well in the world.
pub record IsLaidOut (image : List Range) (imports : ℕ) (w : World) : Type 0 where
  pub load_page : w.load % 4096 ≡ 0
  pub heap_page : w.heap % 4096 ≡ 0
  pub stack_end : w.stack_high % 16 ≡ 0
  pub room_below_heap : 8 ≤ w.heap
  pub room_below_stack : 8192 ≤ w.stack_low
  pub stack_room : w.stack_low + 4104 ≤ w.stack_high
  pub image_ends : AllByRecursion (λ part. IsBelowTop (loaded_range w part)) image
  pub instance_ends : AllByRecursion IsBelowTop (instance_ranges w)
  pub image_apart : AllByRecursion (λ part. AllByRecursion (AreApart (loaded_range w part)) (instance_ranges w)) image
  pub instance_apart : AllPairs AreApart (instance_ranges w)
  pub one_host_each : length w.hosts ≡ imports
  pub hosts_outside : AllByRecursion (IsHostAddress w image) (w.host_return ∷ w.hosts)
  pub hosts_distinct : AllPairs ◌≢◌ (w.host_return ∷ w.hosts)

-- addresses for so many functions of the host, sixteen bytes from one to the next
unfoldable pub usual_hosts : ℕ → List ℕ
usual_hosts count = map (λ k. 0x600000000000 + 16 * k) (range_with_len 0 count)

-- the instance of a module with so many imports in which all lies far apart, with a stack of 1 MiB
unfoldable pub usual_instance : ℕ → World
usual_instance imports =
    record {
      load = 0x10000000000;
      heap = 0x200000000000;
      globals = 0x300000000000;
      stack_low = 0x400000000000;
      stack_high = 0x400000100000;
      host_return = 0x500000000000;
      hosts = usual_hosts imports;
    }
