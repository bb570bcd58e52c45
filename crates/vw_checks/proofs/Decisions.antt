-- Which conditions of the checks are decided: all.
use Rattle.std.proofs.Common.{◌≡◌, ◌⊎◌, inl, inr, ℕ, zero, suc, ◌+◌, ◌*◌, ◌^◌, ◌<◌, ◌≤◌, Bool, true, false, Some, None, refl, sym, ◌∙◌, subst, arith}
use Rattle.std.specs.Prelude.{ℤ, pos, negsuc, ◌+ℤ◌, ◌-ℤ◌, ◌≤ℤ◌, ◌<ℤ◌, int_le, nat_le, ◌==◌, Option}
use Rattle.std.specs.Ordering.{int_eq}
use Rattle.std.proofs.lemmas.Bool.Decides.{nat_tests, Decides-int_eq, Decides-eqb}
use Rattle.std.proofs.lemmas.Int.{ints}
use Rattle.vw_layout.specs.declared.calls.CallTarget.{CallTarget}
use Rattle.vw_layout.specs.declared.calls.CallTarget.TheVariants as target
use Rattle.vw_stack.specs.declared.offset.Offset.{Offset}
use Rattle.vw_stack.specs.declared.offset.Offset.TheVariants as offset
use Rattle.vw_stmt.specs.declared.operands.Var.{Var}
use Rattle.vw_values.specs.declared.value.Value.{Value}
use Rattle.vw_values.specs.declared.value.Value.TheVariants as value
use Rattle.vw_domain.specs.Abstract.{Abstract}
use Rattle.vw_domain.specs.Addresses.{Address, Frame, Heap, Globals, Image, Range, Entry, Unknown, value_of}
use Rattle.vw_domain.specs.Checks.{IsInstanceWord, IsInside, BeginsInStack, ReadsInside, WritesInside, WritesOwn, ReadsKnown, IsTableFn, is_saved, MayReturn}
use Rattle.vw_domain.specs.Operands.{index_of}
use Rattle.vw_domain.specs.Sites.{Site, AreReadable}
use Rattle.vw_checks.specs.Checks.{MayEnter, MayEnterBy}

abbrev pub Decided : Type 0 → Type 0
Decided A = A ⊎ (A → ⊥)

-- what is not refuted holds
pub stable : {A : Type 0} → Decided A → ((A → ⊥) → ⊥) → A
stable (inl a) holds = a
stable (inr refuted) holds = absurd (holds refuted)

both : {A B : Type 0} → Decided A → Decided B → Decided (A × B)
both (inl a) (inl b) = inl (a, b)
both (inl a) (inr refuted) = inr (λ h. refuted h.1)
both (inr refuted) b = inr (λ h. refuted h.0)

all_three : {A B C : Type 0} → Decided A → Decided B → Decided C → Decided (A × B × C)
all_three (inl a) (inl b) (inl c) = inl (a, b, c)
all_three (inl a) (inl b) (inr refuted) = inr (λ h. refuted h.2)
all_three (inl a) (inr refuted) c = inr (λ h. refuted h.1)
all_three (inr refuted) b c = inr (λ h. refuted h.0)

either : {A B : Type 0} → Decided A → Decided B → Decided (A ⊎ B)
either (inl a) b = inl (inl a)
either (inr refuted) (inl b) = inl (inr b)
either (inr refuted) (inr none) = inr (λ h. elim h [ inl a ↦ refuted a | inr b ↦ none b ])

follows : {A B : Type 0} → Decided A → Decided B → Decided (A → B)
follows a (inl b) = inl (λ _. b)
follows (inl a) (inr refuted) = inr (λ h. refuted (h a))
follows (inr none) (inr refuted) = inl (λ a. absurd (none a))

never : Decided ⊥
never = inr (λ h. h)

always : Decided (Unit {0})
always = inl tt

is_true : (b : Bool) → Decided (b ≡ true)
is_true true = inl refl
is_true false = inr (λ e. absurd cc)

at_most : (a b : ℕ) → Decided (a ≤ b)
at_most a b = by (nat_le a b) refl
  where
    by : (t : Bool) → nat_le a b ≡ t → Decided (a ≤ b)
    by true e = inl (grind (arith, nat_tests))
    by false e = inr (λ h. grind (arith, nat_tests))

is_number : (a b : ℕ) → Decided (a ≡ b)
is_number a b = by (a == b) refl
  where
    by : (t : Bool) → (a == b) ≡ t → Decided (a ≡ b)
    by true e = inl ((Decides-eqb a b).0 e)
    by false e = inr (λ h. let both : true ≡ false = sym ((Decides-eqb a b).1 h) ∙ e in absurd cc)

is_whole : (a b : ℤ) → Decided (a ≡ b)
is_whole a b = by (int_eq a b) refl
  where
    by : (t : Bool) → int_eq a b ≡ t → Decided (a ≡ b)
    by true e = inl ((Decides-int_eq a b).0 e)
    by false e = inr (λ h. let both : true ≡ false = sym ((Decides-int_eq a b).1 h) ∙ e in absurd cc)

not_above : (a b : ℤ) → Decided (a ≤ℤ b)
not_above a b = by (int_le a b) refl
  where
    by : (t : Bool) → int_le a b ≡ t → Decided (a ≤ℤ b)
    by true e = inl (omega (arith, ints, e))
    by false e = inr (λ h. omega (arith, ints, e, h))

-- of the numbers below a number
module _ (P : ℕ → Type 0) (each : (i : ℕ) → Decided (P i)) where
  more : (n : ℕ) → Decided (P n) → Decided ((i : ℕ) → i < n → P i) → Decided ((i : ℕ) → i < suc n → P i)
  more n (inl here) (inl below) = inl (λ i less. elim (is_number i n) [ inl e ↦ subst P (sym e) here | inr other ↦ below i (omega (arith, less, other)) ])
  more n (inr refuted) below = inr (λ all. refuted (all n (omega arith)))
  more n (inl here) (inr refuted) = inr (λ all. refuted (λ i less. all i (omega (arith, less))))

  pub all_below : (n : ℕ) → Decided ((i : ℕ) → i < n → P i)
  all_below zero = inl (λ i less. absurd (omega (arith, less)))
  all_below (suc n) = more n (each n) (all_below n)

are_readable : (site : Site) (a n : ℕ) → Decided (AreReadable site a n)
are_readable site a n = all_below (λ i. site.is_readable (a + i) ≡ true) (λ i. is_true (site.is_readable (a + i))) n

-- ---- accesses

is_inside : (l h : ℤ) (n m : ℕ) → Decided (IsInside l h n m)
is_inside l h n m = both (not_above (pos 0) l) (not_above (h +ℤ pos n) (pos m))

is_instance_word : (l h : ℤ) (n : ℕ) → Decided (IsInstanceWord l h n)
is_instance_word l h n = all_three (is_number n 8) (is_whole l (negsuc 7)) (is_whole h (negsuc 7))

pub begins_in_stack : (st : Abstract) (a : Address) → Decided (BeginsInStack st a)
begins_in_stack st (Frame c) = not_above (pos 0) (c +ℤ pos (8192 + st.probed))
begins_in_stack st (Heap l h) = always
begins_in_stack st (Globals l h) = always
begins_in_stack st (Image a) = always
begins_in_stack st (Range a s k) = always
begins_in_stack st (Entry t tag d via) = always
begins_in_stack st Unknown = always

pub reads_inside : (site : Site) (a : Address) (n : ℕ) → Decided (ReadsInside site a n)
reads_inside site (Frame c) n = always
reads_inside site (Heap l h) n = either (is_inside l h n (2 ^ 33)) (is_instance_word l h n)
reads_inside site (Globals l h) n = is_inside l h n 4096
reads_inside site (Image a) n = are_readable site a n
reads_inside site (Range a s k) n = all_below (λ i. AreReadable site (a + s * i) n) (λ i. are_readable site (a + s * i) n) k
reads_inside site (Entry t tag d via) n = at_most (d + n) 16
reads_inside site Unknown n = never

pub writes_inside : (a : Address) (n : ℕ) → Decided (WritesInside a n)
writes_inside (Frame c) n = always
writes_inside (Heap l h) n = is_inside l h n (2 ^ 33)
writes_inside (Globals l h) n = is_inside l h n 4096
writes_inside (Image a) n = always
writes_inside (Range a s k) n = always
writes_inside (Entry t tag d via) n = always
writes_inside Unknown n = never

pub writes_own : (a : Address) (n : ℕ) → Decided (WritesOwn a n)
writes_own (Frame c) n = not_above (c +ℤ pos n) (pos 0)
writes_own (Heap l h) n = always
writes_own (Globals l h) n = always
writes_own (Image a) n = never
writes_own (Range a s k) n = never
writes_own (Entry t tag d via) n = never
writes_own Unknown n = always

-- bytes of the frame, by their places
module _ (st : Abstract) (c : ℤ) (n : ℕ) where
  place : (o d : ℤ) → o ≡ c +ℤ d → c ≤ℤ o → o <ℤ (c +ℤ pos n) → (i : ℕ) × (o ≡ c +ℤ pos i) × (i < n)
  place o (pos i) e low high = (i, e, omega (arith, ints, e, high))
  place o (negsuc i) e low high = absurd (omega (arith, ints, e, low))

  from_places : Decided ((i : ℕ) → i < n → st.written (c +ℤ pos i) ≡ true) → Decided ((o : ℤ) → c ≤ℤ o → o <ℤ (c +ℤ pos n) → st.written o ≡ true)
  from_places (inl all) = inl (λ o low high.
      let at = place o (o -ℤ c) (omega (arith, ints)) low high in
      subst (λ (x : ℤ). st.written x ≡ true) (sym at.1) (all at.0 at.2))
  from_places (inr refuted) = inr (λ all. refuted (λ i less. all (c +ℤ pos i) (omega (arith, ints)) (omega (arith, ints, less))))

  are_written : Decided ((o : ℤ) → c ≤ℤ o → o <ℤ (c +ℤ pos n) → st.written o ≡ true)
  are_written = from_places (all_below (λ i. st.written (c +ℤ pos i) ≡ true) (λ i. is_true (st.written (c +ℤ pos i))) n)

pub reads_known : (st : Abstract) (a : Address) (n : ℕ) → Decided (ReadsKnown st a n)
reads_known st (Frame c) n = either (are_written st c n) (both (not_above (pos 8) c) (not_above (c +ℤ pos n) (pos 4104)))
reads_known st (Heap l h) n = always
reads_known st (Globals l h) n = always
reads_known st (Image a) n = always
reads_known st (Range a s k) n = always
reads_known st (Entry t tag d via) n = always
reads_known st Unknown n = always

-- ---- transfers

is_heap_base : (v : Value) → Decided (v ≡ value.HeapBase)
is_heap_base value.HeapBase = inl refl
is_heap_base v = inr (λ e. absurd cc)

is_table_fn : (v : Value) → Decided (IsTableFn v)
is_table_fn (value.TableFn t g) = always
is_table_fn v = never

is_entry : (v : Value) (r : ℕ) → Decided (v ≡ value.Entry r)
is_entry (value.Entry q) r = held (is_number q r)
  where
    held : Decided (q ≡ r) → Decided (value.Entry q ≡ value.Entry r)
    held (inl e) = inl cc
    held (inr other) = inr (λ e. other cc)
is_entry v r = inr (λ e. absurd cc)

is_at : (o : Offset) (c : ℤ) → Decided (o ≡ offset.Known c)
is_at (offset.Known d) c = known (is_whole d c)
  where
    known : Decided (d ≡ c) → Decided (offset.Known d ≡ offset.Known c)
    known (inl e) = inl cc
    known (inr other) = inr (λ e. other cc)
is_at offset.Unknown c = inr (λ e. absurd cc)

pub may_enter : (entered : Option CallTarget) (st : Abstract) → Decided (MayEnter entered st)
may_enter None st = never
may_enter (Some target.Probe) st = always
may_enter (Some (target.Function number)) st = is_heap_base (value_of st 7)
may_enter (Some (target.Stub stub)) st = is_heap_base (value_of st 7)

pub may_enter_by : (src : Var) (st : Abstract) → Decided (MayEnterBy src st)
may_enter_by src st = both (is_table_fn (value_of st (index_of src))) (is_heap_base (value_of st 7))

-- the registers that the caller keeps are among the first sixteen
is_few : (r : ℕ) → is_saved r ≡ true → r < 16
is_few r is = grind (arith, nat_tests)

pub may_return : (st : Abstract) → Decided (MayReturn st)
may_return st = returns (is_at (st.offsets 4) (pos 0)) (all_below (λ r. is_saved r ≡ true → value_of st r ≡ value.Entry r) (λ r. follows (is_true (is_saved r)) (is_entry (value_of st r) r)) 16)
  where
    returns : Decided (st.offsets 4 ≡ offset.Known (pos 0)) → Decided ((r : ℕ) → r < 16 → is_saved r ≡ true → value_of st r ≡ value.Entry r) → Decided (MayReturn st)
    returns (inl back) (inl kept) = inl (record { rsp = back; saved = λ r is. kept r (is_few r is) is })
    returns (inr refuted) kept = inr (λ m. refuted m.rsp)
    returns (inl back) (inr refuted) = inr (λ m. refuted (λ r less is. m.saved r is))
