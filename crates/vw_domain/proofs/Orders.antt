-- The order of values and of forms by its rows.
use Rattle.std.proofs.Common.{◌≡◌, ℕ, ◌%◌, ◌^◌, ◌<◌, ◌≤◌, ◌⊎◌, refl, subst, ap, arith}
use Rattle.std.specs.Prelude.{Option, Some, None, true, ℤ}
use Rattle.vw_names.specs.declared.spot.Spot.{Spot as Place}
use Rattle.vw_stack.specs.Stack.{offset_below}
use Rattle.vw_stack.specs.declared.offset.Offset.{Offset}
use Rattle.vw_stack.specs.declared.offset.Offset.TheVariants.{Known, Unknown}
use Rattle.vw_values.specs.declared.value.Value.{Value}
use Rattle.vw_values.specs.declared.value.Value.TheVariants.{Any, Num, Const, Below, Low, Both, HeapBase, HeapAddr, Globals, Entry, Image, Index16, EntryPtr, EntryTyped, TagOf, TableFn, JumpOff, JumpDest}
use Rattle.vw_values.specs.Values.{value_below, mark_below}
use Rattle.vw_domain.specs.declared.parts.Fact.{Fact}
use Rattle.vw_domain.specs.declared.parts.Fact.TheVariants as fact
use Rattle.vw_domain.specs.State.{fact_below}
use Rattle.vw_domain.specs.Abstract.{Abstract, IsBelow}

pub data Under : Value → Value → Type 0 where
  same : {v : Value} → Under v v
  to_any : {v : Value} → Under v Any
  const_num : {c : ℕ} → Under (Const c) Num
  const_below : {c k : ℕ} → c < k → Under (Const c) (Below k)
  const_low : {c k : ℕ} → c % 2 ^ 32 < k → Under (Const c) (Low k)
  const_both : {c k : ℕ} → c < 2 ^ 33 → c % 2 ^ 32 < k → Under (Const c) (Both k)
  below_num : {k : ℕ} → Under (Below k) Num
  below_below : {j k : ℕ} → j ≤ k → Under (Below j) (Below k)
  below_low : {j k : ℕ} → j ≤ k → Under (Below j) (Low k)
  below_both : {j k : ℕ} → j ≤ k → Under (Below j) (Both k)
  low_num : {k : ℕ} → Under (Low k) Num
  low_low : {j k : ℕ} → j ≤ k → Under (Low j) (Low k)
  both_num : {k : ℕ} → Under (Both k) Num
  both_low : {j k : ℕ} → j ≤ k → Under (Both j) (Low k)
  both_both : {j k : ℕ} → j ≤ k → Under (Both j) (Both k)
  both_below : {j k : ℕ} → k ≡ 2 ^ 33 → Under (Both j) (Below k)
  heap : Under HeapBase HeapAddr
  typed : {t g : ℕ} → Under (EntryTyped t g) (EntryPtr t)
  index16 : {j k : ℕ} {m : Option (ℕ × ℕ)} → j ≤ k → Under (Index16 j m) (Index16 k m)
  index16_unmarked : {j k : ℕ} {m : Option (ℕ × ℕ)} → j ≤ k → Under (Index16 j m) (Index16 k None)
  jump_off : {a j k : ℕ} → j ≤ k → Under (JumpOff a j) (JumpOff a k)
  jump_dest : {a j k : ℕ} → j ≤ k → Under (JumpDest a j) (JumpDest a k)

alike_under : {u v : Value} → u ≡ v → Under u v
alike_under {u = u} e = subst (λ x. Under u x) e same

index_under_marked : (j k : ℕ) (m : Option (ℕ × ℕ)) (g : ℕ × ℕ) → j ≤ k → m ≡ Some g → Under (Index16 j m) (Index16 k (Some g))
index_under_marked j k m g h e = subst (λ x. Under (Index16 j m) (Index16 k x)) e (index16 h)

off_under : (a b j k : ℕ) → b ≡ a → j ≤ k → Under (JumpOff b j) (JumpOff a k)
off_under a b j k e h = subst (λ x. Under (JumpOff b j) (JumpOff x k)) e (jump_off h)

dest_under : (a b j k : ℕ) → b ≡ a → j ≤ k → Under (JumpDest b j) (JumpDest a k)
dest_under a b j k e h = subst (λ x. Under (JumpDest b j) (JumpDest x k)) e (jump_dest h)

typed_under : (t u g : ℕ) → u ≡ t → Under (EntryTyped u g) (EntryPtr t)
typed_under t u g e = subst (λ x. Under (EntryTyped u g) (EntryPtr x)) e typed

pub under_of : (u v : Value) → value_below u v → Under u v
under_of u Any h = to_any
under_of Num Num h = same
under_of (Const c) Num h = const_num
under_of (Below k) Num h = below_num
under_of (Low k) Num h = low_num
under_of (Both k) Num h = both_num
under_of u Num h = absurd h
under_of u (Const c) h = alike_under h
under_of (Const c) (Below k) h = const_below h
under_of (Below j) (Below k) h = below_below h
under_of (Both j) (Below k) h = both_below h
under_of u (Below k) h = absurd h
under_of (Const c) (Low k) h = const_low h
under_of (Below j) (Low k) h = below_low h
under_of (Both j) (Low k) h = both_low h
under_of (Low j) (Low k) h = low_low h
under_of u (Low k) h = absurd h
under_of (Const c) (Both k) h = const_both h.0 h.1
under_of (Below j) (Both k) h = below_both h
under_of (Both j) (Both k) h = both_both h
under_of u (Both k) h = absurd h
under_of u HeapBase h = alike_under h
under_of HeapBase HeapAddr h = heap
under_of HeapAddr HeapAddr h = same
under_of u HeapAddr h = absurd h
under_of u Globals h = alike_under h
under_of u (Entry r) h = alike_under h
under_of u (Image a) h = alike_under h
under_of (Index16 j m) (Index16 k None) h = index16_unmarked h.0
under_of (Index16 j m) (Index16 k (Some g)) h = index_under_marked j k m g h.0 h.1
under_of u (Index16 k m) h = absurd h
under_of (EntryPtr u) (EntryPtr t) h = alike_under (ap EntryPtr h)
under_of (EntryTyped u g) (EntryPtr t) h = typed_under t u g h
under_of u (EntryPtr t) h = absurd h
under_of u (EntryTyped t g) h = alike_under h
under_of u (TagOf t via) h = alike_under h
under_of u (TableFn t g) h = alike_under h
under_of (JumpOff b j) (JumpOff a k) h = off_under a b j k h.0 h.1
under_of u (JumpOff a k) h = absurd h
under_of (JumpDest b j) (JumpDest a k) h = dest_under a b j k h.0 h.1
under_of u (JumpDest a k) h = absurd h

mark_itself : (m : Option (ℕ × ℕ)) → mark_below m m
mark_itself None = tt
mark_itself (Some g) = refl

pub below_itself : (v : Value) → value_below v v
below_itself Any = tt
below_itself Num = tt
below_itself (Const c) = refl
below_itself (Below k) = omega arith
below_itself (Low k) = omega arith
below_itself (Both k) = omega arith
below_itself HeapBase = refl
below_itself HeapAddr = tt
below_itself Globals = refl
below_itself (Entry r) = refl
below_itself (Image a) = refl
below_itself (Index16 k m) = (omega arith, mark_itself m)
below_itself (EntryPtr t) = refl
below_itself (EntryTyped t g) = refl
below_itself (TagOf t via) = refl
below_itself (TableFn t g) = refl
below_itself (JumpOff a k) = (refl, omega arith)
below_itself (JumpDest a k) = (refl, omega arith)

pub below_of : (u v : Value) → Under u v → value_below u v
below_of u v same = below_itself u
below_of u v to_any = tt
below_of u v const_num = tt
below_of u v (const_below h) = h
below_of u v (const_low h) = h
below_of u v (const_both h g) = (h, g)
below_of u v below_num = tt
below_of u v (below_below h) = h
below_of u v (below_low h) = h
below_of u v (below_both h) = h
below_of u v low_num = tt
below_of u v (low_low h) = h
below_of u v both_num = tt
below_of u v (both_low h) = h
below_of u v (both_both h) = h
below_of u v (both_below h) = h
below_of u v heap = tt
below_of u v typed = refl
below_of u v (index16 {m = m} h) = (h, mark_itself m)
below_of u v (index16_unmarked h) = (h, tt)
below_of u v (jump_off h) = (refl, h)
below_of u v (jump_dest h) = (refl, h)

-- ---- forms

pub record Lower (s t : Abstract) : Type 0 where
  pub offsets : (r : ℕ) → offset_below (s.offsets r) (t.offsets r)
  pub values : (p : Place) → Under (s.values p) (t.values p)
  pub sizes : (o : ℤ) → (t.sizes o ≡ 0) ⊎ (s.sizes o ≡ t.sizes o)
  pub same : (p q : Place) → t.same p q ≡ true → s.same p q ≡ true
  pub fact : fact_below s.fact t.fact
  pub probed : t.probed ≤ s.probed
  pub written : (c : ℤ) → t.written c ≡ true → s.written c ≡ true

pub lower_of : (s t : Abstract) → IsBelow s t → Lower s t
lower_of s t b = record { offsets = b.offsets; values = λ p. under_of _ _ (b.values p); sizes = b.sizes; same = b.same; fact = b.fact; probed = b.probed; written = b.written }

pub is_below_of : (s t : Abstract) → Lower s t → IsBelow s t
is_below_of s t b = record { offsets = b.offsets; values = λ p. below_of _ _ (b.values p); sizes = b.sizes; same = b.same; fact = b.fact; probed = b.probed; written = b.written }

pub offset_itself : (o : Offset) → offset_below o o
offset_itself Unknown = tt
offset_itself (Known c) = refl

-- an offset below a known one is that one
pub known_is : (o : Offset) (c : ℤ) → offset_below o (Known c) → o ≡ Known c
known_is Unknown c h = absurd h
known_is (Known d) c h = ap Known h

pub fact_is : (f : Fact) (w k : ℕ) → fact_below f (fact.Compare w k) → f ≡ fact.Compare w k
fact_is fact.Unknown w k h = absurd h
fact_is (fact.Compare v j) w k h = let a : v ≡ w = h.0 in let b : j ≡ k = h.1 in cc
