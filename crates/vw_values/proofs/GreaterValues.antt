-- Greater values stand for more numbers, and only a tag's value depends on the registers.
use Rattle.std.proofs.Common.{◌≡◌, ℕ, ◌+◌, ◌%◌, ◌^◌, ◌<◌, ◌≤◌, Option, Some, None, sym, subst, ◌∙◌, arith}
use Rattle.vw_values.specs.declared.value.Via.{Via}
use Rattle.vw_values.specs.declared.value.Value.{Value}
use Rattle.vw_values.specs.declared.value.Value.TheVariants.{Any, Num, Const, Below, Low, Both, HeapBase, HeapAddr, Index16, EntryPtr, EntryTyped, TagOf, JumpOff, JumpDest}
use Rattle.vw_values.specs.declared.value.Via.TheVariants.{At, Idx}
use Rattle.vw_values.specs.Values.{under_below, under_low, under_both, under_heap, under_index, under_pointer, under_jump_off, under_jump_dest, mark_below}
use Rattle.vw_values.specs.ValueOrder.{value-trans}
use Rattle.std.specs.Prelude.{slice_get, length, ◌*◌}
use Rattle.std.proofs.lemmas.Option.{slice_get_within}
use Rattle.vw_values.specs.Stands.{FunctionTable, Instance, Stands, AtEntry, HasTag, HasMark, IsReadAt, register_of}
use Rattle.vw_values.specs.Laws.{GreaterStandsForMore, StandsAcrossRegisters, TagsTypeAddresses, TagsMarkIndices, JoinsAreLeast, JoinsRise, LeastBoundsRise, NumbersJoin}
use Rattle.vw_values.specs.Joins.{join}
use Rattle.vw_values.proofs.JoinLemmas.{joins}

module _ (s : Instance) (registers : ℕ → ℕ) where
  below-more : (k : ℕ) (x : Value) (m : ℕ) → under_below k x → Stands s registers x m → m < k
  below-more k (Const c) m f st = omega arith
  below-more k (Below j) m f st = omega arith
  below-more k (Both j) m f st = omega arith
  below-more k _ m f st = absurd f

  low-more : (k : ℕ) (x : Value) (m : ℕ) → under_low k x → Stands s registers x m → m % 2 ^ 32 < k
  low-more k (Const c) m f st = omega arith
  low-more k (Below j) m f st = omega arith
  low-more k (Both j) m f st = omega arith
  low-more k (Low j) m f st = omega arith
  low-more k _ m f st = absurd f

  both-more : (k : ℕ) (x : Value) (m : ℕ) → k < 2 ^ 32 → under_both k x → Stands s registers x m → (m < 2 ^ 33) × (m % 2 ^ 32 < k)
  both-more k (Const c) m less f st = (omega arith, omega arith)
  both-more k (Below j) m less f st = (omega arith, omega arith)
  both-more k (Both j) m less f st = (omega arith, omega arith)
  both-more k _ m less f st = absurd f

  heap-more : (x : Value) (m : ℕ) → under_heap x → Stands s registers x m → Stands s registers HeapAddr m
  heap-more HeapBase m f st = (0, omega arith, omega arith)
  heap-more HeapAddr m f st = st
  heap-more _ m f st = absurd f

  mark-more : (n o : Option (ℕ × ℕ)) (i : ℕ) → mark_below n o → HasMark s n i → HasMark s o i
  mark-more n None i f st = tt
  mark-more n (Some o) i f st = subst (λ u. HasMark s u i) f st

  index-more : (k : ℕ) (o : Option (ℕ × ℕ)) (x : Value) (m : ℕ) → under_index k o x → Stands s registers x m → Stands s registers (Index16 k o) m
  index-more k o (Index16 j n) m f st = (st.0, omega (arith, st.1), st.2, mark-more n o st.0 f.1 st.3)
  index-more k o _ m f st = absurd f

  pointer-more : (t : ℕ) (x : Value) (m : ℕ) → under_pointer t x → Stands s registers x m → Stands s registers (EntryPtr t) m
  pointer-more t (EntryPtr u) m f st = subst (λ v. Stands s registers (EntryPtr v) m) f st
  pointer-more t (EntryTyped u g) m f st = subst (λ v. Stands s registers (EntryPtr v) m) f (record { table = st.table; is_table = st.is_table; i = st.i; entry = st.entry; is_entry = st.is_entry; at = st.at; holds = tt })
  pointer-more t _ m f st = absurd f

  off-more : (a k : ℕ) (x : Value) (m : ℕ) → under_jump_off a k x → Stands s registers x m → Stands s registers (JumpOff a k) m
  off-more a k (JumpOff b j) m f st = subst (λ c. Stands s registers (JumpOff c k) m) f.0 (st.0, omega (arith, st.1), st.2)
  off-more a k _ m f st = absurd f

  dest-more : (a k : ℕ) (x : Value) (m : ℕ) → under_jump_dest a k x → Stands s registers x m → Stands s registers (JumpDest a k) m
  dest-more a k (JumpDest b j) m f st = subst (λ c. Stands s registers (JumpDest c k) m) f.0 (st.0, omega (arith, st.1), st.2)
  dest-more a k _ m f st = absurd f

  same-more : (x y : Value) (m : ℕ) → x ≡ y → Stands s registers x m → Stands s registers y m
  same-more x y m e st = subst (λ v. Stands s registers v m) e st

pub greater-stands : GreaterStandsForMore
greater-stands s registers x Any m hx hy f st = tt
greater-stands s registers x Num m hx hy f st = tt
greater-stands s registers x (Below k) m hx hy f st = below-more s registers k x m f st
greater-stands s registers x (Low k) m hx hy f st = low-more s registers k x m f st
greater-stands s registers x (Both k) m hx hy f st = both-more s registers k x m hy.1 f st
greater-stands s registers x HeapAddr m hx hy f st = heap-more s registers x m f st
greater-stands s registers x (Index16 k o) m hx hy f st = index-more s registers k o x m f st
greater-stands s registers x (EntryPtr t) m hx hy f st = pointer-more s registers t x m f st
greater-stands s registers x (JumpOff a k) m hx hy f st = off-more s registers a k x m f st
greater-stands s registers x (JumpDest a k) m hx hy f st = dest-more s registers a k x m f st
greater-stands s registers x y m hx hy f st = same-more s registers x y m f st

read-across : (s : Instance) (registers others : ℕ → ℕ) (t : ℕ) (via : Via) (a : ℕ) → registers (register_of via) ≡ others (register_of via) → IsReadAt s registers t via a → IsReadAt s others t via a
read-across s registers others t (At r) a same h = h ∙ same
read-across s registers others t (Idx r) a same h = (h.0, h.1, again (s.load + h.0.address) h.2)
  where
    again : (base : ℕ) → a ≡ (base + registers r) % 2 ^ 64 → a ≡ (base + others r) % 2 ^ 64
    again base is = omega arith

pub across-registers : StandsAcrossRegisters
across-registers s registers others (TagOf t via) m same h = (h.0, read-across s registers others t via h.0 same h.1, h.2)
across-registers s registers others _ m same h = h

pub least-bounds-rise : LeastBoundsRise
least-bounds-rise b x x' y y' j k hx hx' hy hy' low high f g =
    low.least k high.valid (value-trans x x' k hx hx' high.valid.0 f high.above_left) (value-trans y y' k hy hy' high.valid.0 g high.above_right)

pub joins-are-least : JoinsAreLeast
joins-are-least b x y bounds hx hy = (joins b x y bounds).least hx hy

pub joins-rise : JoinsRise
joins-rise b x x' y y' bounds hx hx' hy hy' f g =
    least-bounds-rise b x x' y y' (join b x y) (join b x' y') hx hx' hy hy' (joins-are-least b x y bounds hx hy) (joins-are-least b x' y' bounds hx' hy') f g

-- Num is valid and above both
pub numbers-join : NumbersJoin
numbers-join b x y bounds hx hy f g = (joins-are-least b x y bounds hx hy).least Num (tt, tt) f g

-- ---- tags

pub tags-type : TagsTypeAddresses
tags-type s registers t r tag m h same = subst (λ x. AtEntry s t (HasTag tag) x) (h.1 ∙ sym same) h.2

some-table : {x y : FunctionTable} → Some x ≡ Some y → x ≡ y
some-table e = cc

-- two entries of a table at one address are one
one-entry : (base i j count : ℕ) → base + 16 * count + 2 ^ 21 ≤ 2 ^ 64 → i < count → j < 65536 → (base + 16 * j) % 2 ^ 64 ≡ (base + 16 * i) % 2 ^ 64 → i ≡ j
one-entry base i j count room within few same = omega arith

pub tags-mark : TagsMarkIndices
tags-mark s registers t r tag k m mark ends few (a, (table, is_table, at), entry) same (j, less, is, marked) =
    (j, less, is, record { table = entry.table; is_table = entry.is_table; entry = entry.entry; is_entry = subst (λ n. slice_get entry.table.entries n ≡ Some entry.entry) here entry.is_entry; tagged = entry.holds })
  where
    one : table ≡ entry.table
    one = some-table (sym is_table ∙ entry.is_table)

    there : a ≡ (s.load + entry.table.address + 16 * j) % 2 ^ 64
    there = subst (λ (x : FunctionTable). a ≡ (s.load + x.address + 16 * j) % 2 ^ 64) one (symbol_sum (s.load + table.address) at)
      where
        symbol_sum : (base : ℕ) → a ≡ (base + registers r) % 2 ^ 64 → a ≡ (base + 16 * j) % 2 ^ 64
        symbol_sum base e = omega arith

    here : entry.i ≡ j
    here =
        let room = ends entry.table entry.is_table in
        let within = slice_get_within entry.table.entries entry.i entry.entry entry.is_entry in
        let at-entry = entry.at in
        one-entry (s.load + entry.table.address) entry.i j (length entry.table.entries) room within (omega arith) (sym there ∙ at-entry)
