-- How instructions change states. For each place a change says where its number comes from: from a place before, or it
-- is new. What a change keeps is then said once, for values, classes and slots alike.
use Rattle.std.specs.Prelude.{◌≡◌, ℕ, ◌==◌, ℤ, pos, ◌+ℤ◌, ◌-ℤ◌, Bool, true, false, ◌&&◌, ◌||◌, not, if◌then◌else◌, int_le, int_lt, nat_lt, List, Option, Some, None}
use Rattle.std.specs.Ordering.{int_eq}
use Rattle.std.specs.List.{list_any}
use Rattle.vw_names.specs.declared.spot.Spot.{Spot}
use Rattle.vw_names.specs.declared.spot.Spot.TheVariants.{Reg, Flags, Slot}
use Rattle.vw_stack.specs.declared.offset.Offset.{Offset}
use Rattle.vw_stack.specs.declared.offset.Offset.TheVariants as offset
use Rattle.vw_values.specs.declared.value.Value.{Value}
use Rattle.vw_values.specs.declared.value.Value.TheVariants.{Any, Num, Const, Below, Low, Both, HeapBase, HeapAddr, Globals, Entry, Image, Index16, EntryPtr, EntryTyped, TagOf, TableFn, JumpOff, JumpDest}
use Rattle.vw_values.specs.Stands.{register_of}
use Rattle.vw_domain.specs.declared.parts.Fact.{Fact}
use Rattle.vw_domain.specs.declared.parts.Fact.TheVariants as fact
use Rattle.vw_domain.specs.Abstract.{Abstract, is_place}

-- `from` tells each place's number by the place before that held it, and none where it is new; `fresh` are the values of
-- new numbers, and `gone` says which registers are written.
pub record Change : Type 0 where
  pub from : Spot → Option Spot
  pub fresh : Spot → Value
  pub gone : ℕ → Bool

-- a tag that was read by a register says nothing once the register is written; every other value stays
abbrev pub forget : (ℕ → Bool) → Value → Value
forget gone Any = Any
forget gone Num = Num
forget gone (Const c) = Const c
forget gone (Below k) = Below k
forget gone (Low k) = Low k
forget gone (Both k) = Both k
forget gone HeapBase = HeapBase
forget gone HeapAddr = HeapAddr
forget gone Globals = Globals
forget gone (Entry r) = Entry r
forget gone (Image a) = Image a
forget gone (Index16 k m) = Index16 k m
forget gone (EntryPtr t) = EntryPtr t
forget gone (EntryTyped t g) = EntryTyped t g
forget gone (TagOf t via) = if gone (register_of via) then Any else TagOf t via
forget gone (TableFn t g) = TableFn t g
forget gone (JumpOff a k) = JumpOff a k
forget gone (JumpDest a k) = JumpDest a k

-- the value of a place whose number comes from there
abbrev pub value_from : (Spot → Value) → Value → Option Spot → Value
value_from values fresh None = fresh
value_from values fresh (Some p) = values p

-- two new numbers are alike in one place alone, and other numbers where they were so before
abbrev pub same_from : (Spot → Spot → Bool) → Spot → Spot → Option Spot → Option Spot → Bool
same_from same p q None None = is_place p q
same_from same p q (Some a) (Some b) = same a b
same_from same p q None (Some b) = false
same_from same p q (Some a) None = false

-- the flags' number has no value of its own
abbrev pub changed_value : Abstract → Change → Spot → Value
changed_value st c Flags = Any
changed_value st c (Reg r) = forget c.gone (value_from st.values (c.fresh (Reg r)) (c.from (Reg r)))
changed_value st c (Slot o) = forget c.gone (value_from st.values (c.fresh (Slot o)) (c.from (Slot o)))

-- values and classes after a change
abbrev pub changed : Abstract → Change → Abstract
changed st c = record st { values = changed_value st c; same = λ p q. same_from st.same p q (c.from p) (c.from q) }

-- ---- a register is written

abbrev pub write_from : ℕ → Option Spot → Spot → Option Spot
write_from d src (Reg q) = if q == d then src else Some (Reg q)
write_from d src Flags = Some Flags
write_from d src (Slot o) = Some (Slot o)

abbrev pub writing_register : ℕ → Option Spot → Value → Change
writing_register d src v = record { from = write_from d src; fresh = λ p. v; gone = λ r. r == d }

-- Register d is written, with the number of place `src`, or with a new one that the value v stands for; o tells its
-- distance from the value of rsp at the function's entry.
abbrev pub write : Abstract → ℕ → Option Spot → Value → Offset → Abstract
write st d src v o =
    record (changed st (writing_register d src v)) { offsets = λ q. if q == d then o else st.offsets q }

-- ---- the frame is written

-- one of n bytes at c is one of m bytes at o
abbrev pub overlaps : ℤ → ℕ → ℤ → ℕ → Bool
overlaps c n o m = int_lt c (o +ℤ pos m) && int_lt o (c +ℤ pos n)

-- the byte at o is one of n bytes at c
abbrev pub covers : ℤ → ℕ → ℤ → Bool
covers c n o = int_le c o && int_lt o (c +ℤ pos n)

-- no slot stands at o, or one of its bytes is written
abbrev pub is_lost : Abstract → ℤ → ℕ → ℤ → Bool
is_lost st c n o = (st.sizes o == 0) || overlaps c n o (st.sizes o)

abbrev pub store_from : Abstract → ℤ → ℕ → Option Spot → Spot → Option Spot
store_from st c n src (Reg q) = Some (Reg q)
store_from st c n src Flags = Some Flags
store_from st c n src (Slot o) = if int_eq o c then src else (if is_lost st c n o then None else Some (Slot o))

abbrev pub fresh_slot : ℤ → Value → Spot → Value
fresh_slot c v (Reg q) = Any
fresh_slot c v Flags = Any
fresh_slot c v (Slot o) = if int_eq o c then v else Any

-- n bytes are written at offset c of the frame. Slots that overlap them go, and a slot of `size` bytes stands at c
-- afterwards, none where it is 0, with the number of place `src` or with a new one that v stands for.
abbrev pub store_frame : Abstract → ℤ → ℕ → ℕ → Option Spot → Value → Abstract
store_frame st c n size src v =
    record (changed st (record { from = store_from st c n src; fresh = fresh_slot c v; gone = λ r. false })) {
      sizes = λ o. if int_eq o c then size else (if is_lost st c n o then 0 else st.sizes o);
      written = λ o. (covers c n o && int_lt o (pos 0)) || st.written o;
    }

abbrev pub lose_from : Spot → Option Spot
lose_from (Reg q) = Some (Reg q)
lose_from Flags = Some Flags
lose_from (Slot o) = None

-- all slots go
abbrev pub lose_slots : Abstract → Abstract
lose_slots st = record (changed st (record { from = lose_from; fresh = λ p. Any; gone = λ r. false })) { sizes = λ o. 0 }

-- ---- the flags are written

abbrev pub flags_from : Option Spot → Spot → Option Spot
flags_from src (Reg q) = Some (Reg q)
flags_from src Flags = src
flags_from src (Slot o) = Some (Slot o)

-- the flags tell of a comparison of the number of place `src`, or of nothing
abbrev pub set_flags : Abstract → Option Spot → Fact → Abstract
set_flags st src f = record (changed st (record { from = flags_from src; fresh = λ p. Any; gone = λ r. false })) { fact = f }

-- ---- a call returned

-- rbx, rsp, rbp and r12 to r15 hold after a call what they held before (psABI, 3.2.1)
abbrev pub is_kept : ℕ → Bool
is_kept r = (r == 3) || ((r == 4) || ((r == 5) || ((r == 12) || ((r == 13) || ((r == 14) || (r == 15))))))

-- all sixteen registers, which a probe of the stack keeps
abbrev pub is_register : ℕ → Bool
is_register r = nat_lt r 16

-- a slot at o lies at rsp's offset or above
abbrev pub stays_over : Offset → ℤ → Bool
stays_over offset.Unknown o = false
stays_over (offset.Known c) o = int_le c o

abbrev pub call_from : Abstract → (ℕ → Bool) → Offset → Spot → Option Spot
call_from st kept c (Reg q) = if kept q then Some (Reg q) else None
call_from st kept c Flags = None
call_from st kept c (Slot o) = if not (st.sizes o == 0) && stays_over c o then Some (Slot o) else None

-- registers that are not kept hold any numbers
abbrev pub call_fresh : Spot → Value
call_fresh (Reg q) = if nat_lt q 16 then Num else Any
call_fresh Flags = Any
call_fresh (Slot o) = Any

-- the byte at o is one of the return address, which a call writes below rsp
abbrev pub is_pushed : Offset → ℤ → Bool
is_pushed offset.Unknown o = false
is_pushed (offset.Known c) o = int_le (c -ℤ pos 8) o && (int_lt o c && int_lt o (pos 0))

-- a call returned, with rsp at offset c before it, that keeps these registers
abbrev pub call : Abstract → (ℕ → Bool) → Offset → Abstract
call st kept c =
    record (changed st (record { from = call_from st kept c; fresh = call_fresh; gone = λ r. not (kept r) })) {
      offsets = λ q. if kept q then st.offsets q else offset.Unknown;
      sizes = λ o. if stays_over c o then st.sizes o else 0;
      fact = fact.Unknown;
      written = λ o. is_pushed c o || st.written o;
    }

-- ---- what a comparison tells of the class of the compared number

abbrev pub or_else : Option Value → Value → Value
or_else None v = v
or_else (Some u) v = u

abbrev pub refined_by : Bool → (Value → Option Value) → Value → Value
refined_by true f v = or_else (f v) v
refined_by false f v = v

-- the values in the class of the flags are refined by f
abbrev pub refine : Abstract → (Value → Option Value) → Abstract
refine st f = record st { values = λ p. refined_by (st.same Flags p) f (st.values p) }

-- each value of the class has a refinement; where one has none, control does not go this way
abbrev pub HasEdge : Abstract → (Value → Option Value) → Type 0
HasEdge st f = (p : Spot) → st.same Flags p ≡ true → (u : Value) × (f (st.values p) ≡ Some u)

-- ---- what it tells of tables' entries, where a tag was compared and is k
-- `tagged p t` says that a tag of table t was read by a register in the class of place p.

abbrev pub mark : ℕ → (ℕ → Bool) → Value → Value
mark k tagged Any = Any
mark k tagged Num = Num
mark k tagged (Const c) = Const c
mark k tagged (Below j) = Below j
mark k tagged (Low j) = Low j
mark k tagged (Both j) = Both j
mark k tagged HeapBase = HeapBase
mark k tagged HeapAddr = HeapAddr
mark k tagged Globals = Globals
mark k tagged (Entry r) = Entry r
mark k tagged (Image a) = Image a
mark k tagged (Index16 j m) = if tagged 0 then Index16 j (Some (0, k)) else Index16 j m
mark k tagged (EntryPtr t) = if tagged t then EntryTyped t k else EntryPtr t
mark k tagged (EntryTyped t g) = if tagged t then EntryTyped t k else EntryTyped t g
mark k tagged (TagOf t via) = TagOf t via
mark k tagged (TableFn t g) = TableFn t g
mark k tagged (JumpOff a j) = JumpOff a j
mark k tagged (JumpDest a j) = JumpDest a j

-- another mark of table 0 stands there
abbrev pub is_other_mark : ℕ → Bool → Option (ℕ × ℕ) → Bool
is_other_mark k tagged None = false
is_other_mark k tagged (Some m) = tagged && not (m.1 == k)

-- the value tells another tag
abbrev pub is_other : ℕ → (ℕ → Bool) → Value → Bool
is_other k tagged Any = false
is_other k tagged Num = false
is_other k tagged (Const c) = false
is_other k tagged (Below j) = false
is_other k tagged (Low j) = false
is_other k tagged (Both j) = false
is_other k tagged HeapBase = false
is_other k tagged HeapAddr = false
is_other k tagged Globals = false
is_other k tagged (Entry r) = false
is_other k tagged (Image a) = false
is_other k tagged (Index16 j m) = is_other_mark k (tagged 0) m
is_other k tagged (EntryPtr t) = false
is_other k tagged (EntryTyped t g) = tagged t && not (g == k)
is_other k tagged (TagOf t via) = false
is_other k tagged (TableFn t g) = false
is_other k tagged (JumpOff a j) = false
is_other k tagged (JumpDest a j) = false

-- addresses of entries and indices get the tag k
abbrev pub retag : Abstract → ℕ → (Spot → ℕ → Bool) → Abstract
retag st k tagged = record st { values = λ p. mark k (tagged p) (st.values p) }

-- no value tells another tag; where one does, control does not go this way
abbrev pub HasTagEdge : Abstract → ℕ → (Spot → ℕ → Bool) → Type 0
HasTagEdge st k tagged = (p : Spot) → is_other k (tagged p) (st.values p) ≡ false

-- the value is a tag of table t that was read by a register in the class of place p
abbrev pub names_class : Abstract → Spot → ℕ → Value → Bool
names_class st p t Any = false
names_class st p t Num = false
names_class st p t (Const c) = false
names_class st p t (Below j) = false
names_class st p t (Low j) = false
names_class st p t (Both j) = false
names_class st p t HeapBase = false
names_class st p t HeapAddr = false
names_class st p t Globals = false
names_class st p t (Entry r) = false
names_class st p t (Image a) = false
names_class st p t (Index16 j m) = false
names_class st p t (EntryPtr u) = false
names_class st p t (EntryTyped u g) = false
names_class st p t (TagOf u via) = (u == t) && st.same (Reg (register_of via)) p
names_class st p t (TableFn u g) = false
names_class st p t (JumpOff a j) = false
names_class st p t (JumpDest a j) = false

-- by the values of these places in the class of the flags
abbrev pub tagged_by : Abstract → List Spot → Spot → ℕ → Bool
tagged_by st places p t = list_any (λ q. st.same Flags q && names_class st p t (st.values q)) places
