-- What the equations add to a form: the statements of an instruction write memory at most once, so they add at most one slot
-- and sixteen written bytes, and so does a call, before which nothing is written.
use Rattle.std.proofs.Common.{◌≡◌, ◌≢◌, ◌⊎◌, ℕ, ◌≤◌, max, Bool, true, false, not, ◌&&◌, ◌||◌, if◌then◌else◌, List, [], ◌∷◌, ◌++◌, Option, Some, None, refl, sym, ◌∙◌, ap, subst, arith, inl, inr}
use Rattle.std.specs.Prelude.{ℤ, pos, ◌+ℤ◌, ◌-ℤ◌, ◌≤ℤ◌, int_le, int_lt}
use Rattle.std.specs.Ordering.{int_eq}
use Rattle.std.specs.List.{AllByRecursion}
use Rattle.std.proofs.lemmas.Bool.{cases_Bool, and_parts, or_cases, false≢true}
use Rattle.std.proofs.lemmas.Bool.Decides.{Decides-int_eq}
use Rattle.std.proofs.lemmas.Int.{ints}
use Rattle.vw_insn.specs.declared.registers.Width.{Width}
use Rattle.vw_stmt.specs.declared.operands.Compare.{Compare}
use Rattle.vw_stmt.specs.declared.statement.Stmt.{Stmt}
use Rattle.vw_stmt.specs.declared.statement.Stmt.TheVariants as stmt
use Rattle.vw_stmt.specs.Lifted.{IsLifted, IsWordSize, IsXmmSize}
use Rattle.vw_lift.specs.Simulation.{reads_memory, writes_memory, is_silent, stores_last}
use Rattle.vw_names.specs.declared.spot.Spot.{Spot}
use Rattle.vw_stack.specs.declared.offset.Offset.{Offset}
use Rattle.vw_stack.specs.declared.offset.Offset.TheVariants as offset
use Rattle.vw_values.specs.declared.value.Value.{Value}
use Rattle.vw_values.specs.declared.value.Value.TheVariants.{Any, Const}
use Rattle.vw_domain.specs.Abstract.{Abstract}
use Rattle.vw_domain.specs.Sites.{Site}
use Rattle.vw_domain.specs.Addresses.{Address, Frame, Heap, Globals, Image, Range, Entry, Unknown, address_of}
use Rattle.vw_domain.specs.Operands.{index_of, operand_of}
use Rattle.vw_domain.specs.Memory.{store_at, slot_size, stored_value, stored_source}
use Rattle.vw_domain.specs.Changes.{covers, is_lost, stays_over, is_pushed, call, store_frame}
use Rattle.vw_domain.specs.Statements.{compared_with, flags_after, apply, applies}
use Rattle.vw_domain.specs.Branches.{Rule, edge_state}

-- no slot, no byte and no depth
pub record AddsNothing (s t : Abstract) : Type 0 where
  pub slots : (o : ℤ) → t.sizes o ≢ 0 → s.sizes o ≢ 0
  pub written : (o : ℤ) → t.written o ≡ true → s.written o ≡ true
  pub probed : t.probed ≡ s.probed

-- at most a slot at one offset and sixteen bytes from another on, and a depth up to a limit
pub record AddsLittle (limit : ℕ) (s t : Abstract) : Type 0 where
  pub slot : ℤ
  pub byte : ℤ
  pub slots : (o : ℤ) → t.sizes o ≢ 0 → (s.sizes o ≢ 0) ⊎ (o ≡ slot)
  pub written : (o : ℤ) → t.written o ≡ true → (s.written o ≡ true) ⊎ ((byte ≤ℤ o) × (o ≤ℤ (byte +ℤ pos 15)))
  pub probed : t.probed ≤ max s.probed limit

pub same_parts : (s t : Abstract) → t.sizes ≡ s.sizes → t.written ≡ s.written → t.probed ≡ s.probed → AddsNothing s t
same_parts s t sizes written probed = record {
  slots = λ o h e. h (ap (λ (f : ℤ → ℕ). f o) sizes ∙ e);
  written = λ o h. ap (λ (f : ℤ → Bool). f o) (sym written) ∙ h;
  probed = probed;
}

nothing_itself : (st : Abstract) → AddsNothing st st
nothing_itself st = same_parts st st refl refl refl

nothing_twice : (s t u : Abstract) → AddsNothing s t → AddsNothing t u → AddsNothing s u
nothing_twice s t u a b = record { slots = λ o h. a.slots o (b.slots o h); written = λ o h. a.written o (b.written o h); probed = b.probed ∙ a.probed }

-- ---- statements that do not write memory

compared_adds_nothing : (st : Abstract) (w : Width) (a : ℕ) (v : Value) → AddsNothing st (compared_with st w a v)
compared_adds_nothing st w a (Const c) = same_parts st _ refl refl refl
compared_adds_nothing st w a _ = same_parts st _ refl refl refl

flags_add_nothing : (st : Abstract) (c : Option Compare) → AddsNothing st (flags_after st c)
flags_add_nothing st None = same_parts st _ refl refl refl
flags_add_nothing st (Some c) = compared_adds_nothing st c.w (index_of c.a) (operand_of st c.b)

stmt_adds_nothing : (site : Site) (x : Stmt) (st : Abstract) → writes_memory x ≡ false → AddsNothing st (apply site x st)
stmt_adds_nothing site (stmt.Store mem size src) st h = absurd (false≢true (sym h))
stmt_adds_nothing site (stmt.Touch mem size true) st h = absurd (false≢true (sym h))
stmt_adds_nothing site (stmt.Touch mem size false) st h = nothing_itself st
stmt_adds_nothing site (stmt.Flags fact) st h = flags_add_nothing st fact
stmt_adds_nothing site (stmt.Flow f) st h = nothing_itself st
stmt_adds_nothing site _ st h = same_parts st _ refl refl refl

writes_no : (reads writes : Bool) → not (reads || writes) ≡ true → writes ≡ false
writes_no reads false h = refl
writes_no true true h = absurd (false≢true h)
writes_no false true h = absurd (false≢true h)

silent_first : (x : Stmt) (rest : List Stmt) → is_silent (x ∷ rest) ≡ true → (writes_memory x ≡ false) × (is_silent rest ≡ true)
silent_first x rest h =
    let both = and_parts (not (reads_memory x || writes_memory x)) (is_silent rest) h in
    (writes_no (reads_memory x) (writes_memory x) both.0, both.1)

silent_adds_nothing : (site : Site) (xs ys : List Stmt) (st : Abstract) → is_silent (xs ++ ys) ≡ true → AddsNothing st (applies site xs st)
silent_adds_nothing site [] ys st h = nothing_itself st
silent_adds_nothing site (x ∷ xs) ys st h =
    let both = silent_first x (xs ++ ys) h in
    nothing_twice st (apply site x st) (applies site xs (apply site x st)) (stmt_adds_nothing site x st both.0) (silent_adds_nothing site xs ys (apply site x st) both.1)

-- behind a statement that writes nothing is accessed
behind_first : (x : Stmt) (rest : List Stmt) (writes : Bool) → writes_memory x ≡ writes → stores_last (x ∷ rest) ≡ true → (if writes then is_silent rest else stores_last rest) ≡ true
behind_first x rest writes e h = subst (λ (b : Bool). (if b then is_silent rest else stores_last rest) ≡ true) e h

not_silent : (xs : List Stmt) (last : Stmt) → writes_memory last ≡ true → is_silent (xs ++ last ∷ []) ≡ true → ⊥
not_silent [] last writes h = false≢true (sym (silent_first last [] h).0 ∙ writes)
not_silent (x ∷ xs) last writes h = not_silent xs last writes (silent_first x (xs ++ last ∷ []) h).1

-- so statements before a last one that writes add nothing
pub before_last_adds_nothing : (site : Site) (xs : List Stmt) (last : Stmt) (st : Abstract) → writes_memory last ≡ true → stores_last (xs ++ last ∷ []) ≡ true → AddsNothing st (applies site xs st)
before_last_adds_nothing site [] last st writes h = nothing_itself st
before_last_adds_nothing site (x ∷ xs) last st writes h = elim (cases_Bool (writes_memory x)) [
  | inl first ↦ absurd (not_silent xs last writes (behind_first x (xs ++ last ∷ []) true first h))
  | inr quiet ↦
      nothing_twice st (apply site x st) (applies site xs (apply site x st)) (stmt_adds_nothing site x st quiet)
      (before_last_adds_nothing site xs last (apply site x st) writes (behind_first x (xs ++ last ∷ []) false quiet h))
]

pub edge_adds_nothing : (site : Site) (places : List Spot) (st : Abstract) (rule : Option (Width × Rule)) → AddsNothing st (edge_state site places st rule)
edge_adds_nothing site places st None = nothing_itself st
edge_adds_nothing site places st (Some r) = same_parts st _ refl refl refl

-- ---- what writes memory

word_few : (n : ℕ) → IsWordSize n → n ≤ 16
word_few n (inl e) = omega arith
word_few n (inr (inl e)) = omega arith
word_few n (inr (inr (inl e))) = omega arith
word_few n (inr (inr (inr e))) = omega arith

xmm_few : (n : ℕ) → IsXmmSize n → n ≤ 16
xmm_few n (inl e) = omega arith
xmm_few n (inr (inl e)) = omega arith
xmm_few n (inr (inr e)) = omega arith

stored_byte : (c o : ℤ) (n : ℕ) → n ≤ 16 → covers c n o ≡ true → (c ≤ℤ o) × (o ≤ℤ (c +ℤ pos 15))
stored_byte c o n few h =
    let both = and_parts (int_le c o) (int_lt o (c +ℤ pos n)) h in
    let first = both.0 in
    let last = both.1 in
    (grind (arith, ints), grind (arith, ints))

pushed_byte : (c o : ℤ) → is_pushed (offset.Known c) o ≡ true → ((c -ℤ pos 8) ≤ℤ o) × (o ≤ℤ ((c -ℤ pos 8) +ℤ pos 15))
pushed_byte c o h =
    let both = and_parts (int_le (c -ℤ pos 8) o) (int_lt o c && int_lt o (pos 0)) h in
    let first = both.0 in
    let last = (and_parts (int_lt o c) (int_lt o (pos 0)) both.1).0 in
    (grind (arith, ints), grind (arith, ints))

left_slot : (stays : Bool) (n : ℕ) → (if stays then n else 0) ≢ 0 → n ≢ 0
left_slot true n h = h
left_slot false n h = absurd (h refl)

module _ (limit : ℕ) where
  pub nothing_first : (s t u : Abstract) → AddsNothing s t → AddsLittle limit t u → AddsLittle limit s u
  nothing_first s t u a b = record {
    slot = b.slot;
    byte = b.byte;
    slots = λ o h. elim (b.slots o h) [ inl before ↦ inl (a.slots o before) | inr new ↦ inr new ];
    written = λ o h. elim (b.written o h) [ inl before ↦ inl (a.written o before) | inr new ↦ inr new ];
    probed = let same = a.probed in let up = b.probed in omega arith;
  }

  pub nothing_last : (s t u : Abstract) → AddsLittle limit s t → AddsNothing t u → AddsLittle limit s u
  nothing_last s t u a b = record {
    slot = a.slot;
    byte = a.byte;
    slots = λ o h. a.slots o (b.slots o h);
    written = λ o h. a.written o (b.written o h);
    probed = let same = b.probed in let up = a.probed in omega arith;
  }

  little : (s t : Abstract) → AddsNothing s t → AddsLittle limit s t
  little s t a = record { slot = pos 0; byte = pos 0; slots = λ o h. inl (a.slots o h); written = λ o h. inl (a.written o h); probed = let same = a.probed in omega arith }

  frame_adds : (st : Abstract) (c : ℤ) (n size : ℕ) (src : Option Spot) (v : Value) → n ≤ 16 → AddsLittle limit st (store_frame st c n size src v)
  frame_adds st c n size src v few = record { slot = c; byte = c; slots = slots; written = written; probed = omega arith }
    where
      slots : (o : ℤ) → (if int_eq o c then size else (if is_lost st c n o then 0 else st.sizes o)) ≢ 0 → (st.sizes o ≢ 0) ⊎ (o ≡ c)
      slots o = elim (cases_Bool (int_eq o c)) [
        | inl same ↦ λ h. inr ((Decides-int_eq o c).0 same)
        | inr other ↦ elim (cases_Bool (is_lost st c n o)) [
          | inl lost ↦ rw (other, lost) (λ h. absurd (h refl))
          | inr stays ↦ rw (other, stays) (λ h. inl h)
        ]
      ]

      written : (o : ℤ) → ((covers c n o && int_lt o (pos 0)) || st.written o) ≡ true → (st.written o ≡ true) ⊎ ((c ≤ℤ o) × (o ≤ℤ (c +ℤ pos 15)))
      written o h = elim (or_cases (covers c n o && int_lt o (pos 0)) (st.written o) h) [
        | inl new ↦ inr (stored_byte c o n few (and_parts (covers c n o) (int_lt o (pos 0)) new).0)
        | inr before ↦ inl before
      ]

  store_adds : (st : Abstract) (a : Address) (n size : ℕ) (src : Option Spot) (v : Value) → n ≤ 16 → AddsLittle limit st (store_at st a n size src v)
  store_adds st (Frame c) n size src v few = frame_adds st c n size src v few
  store_adds st Unknown n size src v few = little st _ (record { slots = λ o h. absurd (h refl); written = λ o h. h; probed = refl })
  store_adds st (Heap l h) n size src v few = little st st (nothing_itself st)
  store_adds st (Globals l h) n size src v few = little st st (nothing_itself st)
  store_adds st (Image a) n size src v few = little st st (nothing_itself st)
  store_adds st (Range a s k) n size src v few = little st st (nothing_itself st)
  store_adds st (Entry t tag d via) n size src v few = little st st (nothing_itself st)

  stmt_adds : (site : Site) (x : Stmt) (st : Abstract) → IsLifted x → AddsLittle limit st (apply site x st)
  stmt_adds site (stmt.Store mem size src) st is = store_adds st (address_of site st mem) size (slot_size size) (stored_source size src) (stored_value size (operand_of st src)) (word_few size is.0)
  stmt_adds site (stmt.Touch mem size true) st is = store_adds st (address_of site st mem) size 0 None Any (xmm_few size is.0)
  stmt_adds site (stmt.Touch mem size false) st is = little st st (nothing_itself st)
  stmt_adds site (stmt.Flags fact) st is = little st _ (flags_add_nothing st fact)
  stmt_adds site (stmt.Flow f) st is = little st st (nothing_itself st)
  stmt_adds site _ st is = little st _ (same_parts st _ refl refl refl)

  pub list_adds : (site : Site) (xs ys : List Stmt) (st : Abstract) → AllByRecursion IsLifted xs → stores_last (xs ++ ys) ≡ true → AddsLittle limit st (applies site xs st)
  list_adds site [] ys st is h = little st st (nothing_itself st)
  list_adds site (x ∷ xs) ys st is h = elim (cases_Bool (writes_memory x)) [
    | inl writes ↦
        nothing_last st (apply site x st) (applies site xs (apply site x st)) (stmt_adds site x st is.0)
        (silent_adds_nothing site xs ys (apply site x st) (behind_first x (xs ++ ys) true writes h))
    | inr quiet ↦
        nothing_first st (apply site x st) (applies site xs (apply site x st)) (stmt_adds_nothing site x st quiet)
        (list_adds site xs ys (apply site x st) is.1 (behind_first x (xs ++ ys) false quiet h))
  ]

  pub call_adds : (st : Abstract) (kept : ℕ → Bool) (c : Offset) → AddsLittle limit st (call st kept c)
  call_adds st kept offset.Unknown = little st _ (record { slots = λ o h. absurd (h refl); written = λ o h. h; probed = refl })
  call_adds st kept (offset.Known c) =
      record {
        slot = pos 0;
        byte = c -ℤ pos 8;
        slots = λ o h. inl (left_slot (stays_over (offset.Known c) o) (st.sizes o) h);
        written = λ o h. elim (or_cases (is_pushed (offset.Known c) o) (st.written o) h) [ inl new ↦ inr (pushed_byte c o new) | inr before ↦ inl before ];
        probed = omega arith;
      }
