-- Where no check fails at a state, none fails at a lower one.
use Rattle.std.proofs.Common.{◌≡◌, ℕ, inl, inr, refl, sym, subst, arith}
use Rattle.std.specs.Prelude.{ℤ, pos, ◌-ℤ◌}
use Rattle.std.proofs.lemmas.Int.{ints}
use Rattle.vw_names.specs.declared.spot.Spot.TheVariants.{Reg as Register}
use Rattle.vw_stack.specs.Stack.{offset_below}
use Rattle.vw_stack.specs.declared.offset.Offset.{Offset}
use Rattle.vw_stack.specs.declared.offset.Offset.TheVariants as offset
use Rattle.vw_values.specs.declared.value.Value.{Value}
use Rattle.vw_values.specs.declared.value.Value.TheVariants.{HeapBase, Entry as EntryOf, TableFn}
use Rattle.vw_domain.specs.Abstract.{Abstract}
use Rattle.vw_domain.specs.Sites.{Site}
use Rattle.vw_domain.proofs.Orders.{Under, same, Lower, known_is}
use Rattle.vw_domain.specs.Addresses.{Address, Frame, Heap, Globals, Image, Range, Entry, Unknown}
use Rattle.vw_domain.specs.Checks.{BeginsInStack, ReadsInside, ReadsKnown, MayRead, MayWrite, MayPushAt, MayPush, HasHeapBase, MayReturn, IsTableFn}
use Rattle.vw_domain.proofs.AddressOrder.{Closer, alike, unknown, closer_heap, closer_globals, closer_range, tagged}

entry_is : (v : Value) (r : ℕ) → Under v (EntryOf r) → v ≡ EntryOf r
entry_is v r same = refl

base_is : (v : Value) → Under v HeapBase → v ≡ HeapBase
base_is v same = refl

module _ (site : Site) (s t : Abstract) (below : Lower s t) where
  begins : (c : ℤ) → BeginsInStack t (Frame c) → BeginsInStack s (Frame c)
  begins c m = omega (arith, ints, m, below.probed)

  pub write_passes : (a a' : Address) (n : ℕ) → Closer a a' → MayWrite t a' n → MayWrite s a n
  write_passes (Frame c) a' n alike m = (begins c m.0, m.1, m.2)
  write_passes (Heap l h) a' n alike m = m
  write_passes (Globals l h) a' n alike m = m
  write_passes (Image a) a' n alike m = m
  write_passes (Range a k j) a' n alike m = m
  write_passes (Entry t tag d via) a' n alike m = m
  write_passes Unknown a' n alike m = m
  write_passes a a' n unknown m = absurd m.1
  write_passes a a' n (closer_heap i j k) m = (tt, (omega (arith, ints, m.1.0), omega (arith, ints, m.1.1)), tt)
  write_passes a a' n (closer_globals i j k) m = (tt, (omega (arith, ints, m.1.0), omega (arith, ints, m.1.1)), tt)
  write_passes a a' n (closer_range k) m = absurd m.2
  write_passes a a' n tagged m = absurd m.2

  known : (a : Address) (n : ℕ) → ReadsKnown t a n → ReadsKnown s a n
  known (Frame c) n (inl k) = inl (λ o a b. below.written o (k o a b))
  known (Frame c) n (inr k) = inr k
  known (Heap l h) n k = tt
  known (Globals l h) n k = tt
  known (Image a) n k = tt
  known (Range a j i) n k = tt
  known (Entry t tag d via) n k = tt
  known Unknown n k = tt

  inside : (a a' : Address) (n : ℕ) → Closer a a' → ReadsInside site a' n → ReadsInside site a n
  inside a a' n alike m = m
  inside a a' n unknown m = absurd m
  inside a a' n (closer_heap i j k) (inl m) = inl (omega (arith, ints, m.0), omega (arith, ints, m.1))
  inside a a' n (closer_heap i j k) (inr m) = inr (m.0, omega (arith, ints, m.1, m.2), omega (arith, ints, m.1, m.2))
  inside a a' n (closer_globals i j k) m = (omega (arith, ints, m.0), omega (arith, ints, m.1))
  inside a a' n (closer_range k) m = λ i l. m i (omega arith)
  inside a a' n tagged m = m

  known_closer : (a a' : Address) (n : ℕ) → Closer a a' → ReadsInside site a' n → ReadsKnown t a' n → ReadsKnown s a n
  known_closer a a' n alike i m = known a n m
  known_closer a a' n unknown i m = absurd i
  known_closer a a' n (closer_heap i j k) h m = tt
  known_closer a a' n (closer_globals i j k) h m = tt
  known_closer a a' n (closer_range k) h m = tt
  known_closer a a' n tagged h m = tt

  pub read_passes : (a a' : Address) (n : ℕ) → Closer a a' → MayRead site t a' n → MayRead site s a n
  read_passes a a' n k m = (inside a a' n k m.0, known_closer a a' n k m.0 m.1)

  pub return_passes : MayReturn t → MayReturn s
  return_passes m = record {
    rsp = known_is (s.offsets 4) (pos 0) (subst (λ o. offset_below (s.offsets 4) o) m.rsp (below.offsets 4));
    saved = λ r e. entry_is (s.values (Register r)) r (subst (λ v. Under (s.values (Register r)) v) (m.saved r e) (below.values (Register r)));
  }

  pub push_passes : MayPush t → MayPush s
  push_passes m = by_offsets (s.offsets 4) (t.offsets 4) (below.offsets 4) m
    where
      by_offsets : (o p : Offset) → offset_below o p → MayPushAt t p → MayPushAt s o
      by_offsets o offset.Unknown f m = absurd m
      by_offsets offset.Unknown (offset.Known c) f m = absurd f
      by_offsets (offset.Known d) (offset.Known c) f m = subst (λ z. MayPushAt s (offset.Known z)) (sym f) (write_passes (Frame (c -ℤ pos 8)) (Frame (c -ℤ pos 8)) 8 alike m)

  pub base_passes : HasHeapBase t → HasHeapBase s
  base_passes e = base_is (s.values (Register 7)) (subst (λ v. Under (s.values (Register 7)) v) e (below.values (Register 7)))

pub function_passes : (v v' : Value) → Under v v' → IsTableFn v' → IsTableFn v
function_passes v (TableFn t g) same m = tt
function_passes v v' u m = absurd m
