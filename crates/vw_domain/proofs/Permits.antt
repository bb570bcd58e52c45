-- A read at which no check fails is permitted.
use Rattle.std.proofs.Common.{◌≡◌, ℕ, ◌+◌, ◌-◌, ◌*◌, ◌%◌, ◌^◌, ◌<◌, ◌≤◌, inl, inr, ap, ◌∙◌, subst, arith}
use Rattle.std.specs.Prelude.{Bool, true, false, ℤ, pos, negsuc, ◌+ℤ◌, ◌-ℤ◌, ◌≤ℤ◌, ◌<ℤ◌}
use Rattle.std.proofs.lemmas.Int.{ints}
use Rattle.vw_insn.specs.Words.{Flags as StatusFlags, word_of}
use Rattle.vw_domain.proofs.Memory.{at_is, at_word, at_address}
use Rattle.vw_names.specs.declared.spot.Spot.TheVariants.{Slot}
use Rattle.vw_values.specs.Stands.{AtEntry, HasTag}
use Rattle.vw_domain.specs.Abstract.{Abstract}
use Rattle.vw_domain.specs.Sites.{Site, IsSite, AreReadable}
use Rattle.vw_domain.specs.Stands.{Machine, at_offset}
use Rattle.vw_domain.specs.Soundness.{IsPlaced, held_of}
use Rattle.vw_domain.specs.FormRanges.{IsForm, SlotFits}
use Rattle.vw_domain.specs.Addresses.{Address, Frame, Heap, Globals, Image, Range, Entry, Unknown, address_of}
use Rattle.std.specs.List.{AllByRecursion}
use Rattle.vw_insn.specs.Listed.{IsMem}
use Rattle.vw_insn.specs.Effect.{address}
use Rattle.vw_insn.specs.declared.registers.Width.{Width}
use Rattle.vw_insn.specs.declared.operands.Mem.{Mem}
use Rattle.vw_stmt.specs.declared.statement.Stmt.{Stmt}
use Rattle.vw_stmt.specs.declared.statement.Stmt.TheVariants as stmt
use Rattle.vw_stmt.specs.Environment.{Environment, Pick}
use Rattle.vw_stmt.specs.Accesses.{stmt_reads, stmt_writes}
use Rattle.vw_stmt.specs.Lifted.{IsLifted, IsLoad, IsXmmSize}
use Rattle.vw_stmt.specs.Laws.{HasWords}
use Rattle.vw_domain.specs.Checks.{Passes, MayRead, MayWrite}
use Rattle.vw_domain.specs.EquationLaws.{NoFlow}
use Rattle.vw_domain.specs.Soundness.{AddressStands, HasImage, ReadPermitted, of_heap, of_instance, of_globals, of_image, of_written, of_arguments, WritePermitted, in_frame}
use Rattle.vw_domain.specs.Soundness
use Rattle.vw_domain.proofs.MemoryOrder.{by_load}
use Rattle.vw_domain.proofs.ValueLaws.{ValueLaws}
use Rattle.vw_domain.proofs.Standing.{Standing}
use Rattle.vw_domain.proofs.Tags.{is_item}

module _ (top : Machine) (site : Site) (next : ℕ) (laid : IsPlaced top site next) (image : HasImage top.instance site) (st : Abstract) (held : ℕ → ℕ) (flags : StatusFlags) (bytes : ℕ → ℕ) (compared : ℕ)
    (h : Standing st top held flags bytes compared) where
  -- an exact number of a word
  within : (base x n top_end : ℕ) (z : ℤ) → x ≡ (base + word_of z) % 2 ^ 64 → pos 0 ≤ℤ z → (z +ℤ pos n) ≤ℤ pos top_end → base + top_end ≤ 2 ^ 47 → (base ≤ x) × (x + n ≤ base + top_end)
  within base x n end (pos k) e l u r = let k_small : k + n ≤ end = omega (arith, ints) in let exact : x ≡ base + k = omega arith in (omega arith, omega arith)
  within base x n end (negsuc k) e l u r = absurd (omega (arith, ints))

  of_bytes : (b x n : ℕ) → x ≡ (top.instance.load + b) % 2 ^ 64 → 0 < n → AreReadable site b n → ReadPermitted top site x n
  of_bytes b x n e some r =
      let first : site.is_readable b ≡ true = subst (λ k. site.is_readable k ≡ true) (omega arith) (r 0 some) in
      let fits = image.ends b first in
      of_image b (omega arith) r

  entry_bytes : (t g y d n x : ℕ) → AtEntry top.instance t (HasTag g) y → x ≡ (y + d) % 2 ^ 64 → d + n ≤ 16 → 0 < n → ReadPermitted top site x n
  entry_bytes t g y d n x a e u some =
      let y_is : y ≡ (top.instance.load + a.table.address + 16 * a.i) % 2 ^ 64 = a.at in
      let i_is = is_item a.table.entries a.i a.entry a.is_entry in
      of_bytes (a.table.address + 16 * a.i + d) x n (omega arith) some (λ j l. subst (λ k. site.is_readable k ≡ true) (omega arith) (image.tables t a.table a.is_table a.i (d + j) i_is (omega arith)))

  written_bytes : (c : ℤ) (n x q : ℕ) → 0 < n → ((o : ℤ) → c ≤ℤ o → o <ℤ (c +ℤ pos n) → st.written o ≡ true) → pos x ≡ pos top.entry_rsp +ℤ c → x ≤ q → q < x + n → top.is_written q ≡ true
  written_bytes c n x q some f at l u =
      let o : ℤ = pos q -ℤ pos top.entry_rsp in
      let got = h.written o (f o (omega (arith, ints)) (omega (arith, ints))) in
      subst (λ k. top.is_written k ≡ true) (back q (pos q -ℤ pos top.entry_rsp) (omega (arith, ints))) got.1
    where
      back : (q : ℕ) (o : ℤ) → pos q ≡ pos top.entry_rsp +ℤ o → at_offset top.entry_rsp o ≡ q
      back q (pos k) e = omega (arith, ints)
      back q (negsuc k) e = omega (arith, ints)

  pub read_permitted : (a : Address) (x n : ℕ) → 0 < n → AddressStands top.instance top.entry_rsp held a x → MayRead site st a n → ReadPermitted top site x n
  read_permitted (Frame c) x n some at (m, inl k) =
      let first = h.written c (k c (omega (arith, ints)) (omega (arith, ints))) in
      let low = h.inside _ first.1 in
      let here = at_is top.entry_rsp c (inl (omega (arith, laid.room))) in
      let exact : x ≡ at_offset top.entry_rsp c = at ∙ at_word top.entry_rsp _ c here (omega (arith, laid.ends, h.high_end)) (omega (arith, laid.ends, h.high_end)) in
      of_written (λ q l u. written_bytes c n x q some k (ap pos exact ∙ here) l u)
  read_permitted (Frame c) x n some at (m, inr k) =
      let here = at_is top.entry_rsp c (inr (omega (arith, ints, k.0))) in
      let exact : x ≡ at_offset top.entry_rsp c = at ∙ at_word top.entry_rsp _ c here (omega (arith, ints, laid.ends, h.high_end, k.1, k.0)) (omega (arith, laid.ends, h.high_end)) in
      of_arguments (omega (arith, ints, k.0), omega (arith, ints, k.1))
  read_permitted (Heap l u) x n some at (inl m, k) =
      of_heap (within top.instance.heap x n (2 ^ 33) at.0 at.3 (omega (arith, ints, at.1, m.0)) (omega (arith, ints, at.2, m.1)) laid.heap_ends)
  read_permitted (Heap l u) x n some at (inr m, k) =
      let z : at.0 ≡ negsuc 7 = omega (arith, ints, at.1, at.2, m.1, m.2) in
      of_instance (at.3 ∙ ap (λ k. (top.instance.heap + word_of k) % 2 ^ 64) z ∙ omega (arith, laid.heap_ends, laid.heap_room)) m.0
  read_permitted (Globals l u) x n some at (m, k) = of_globals (within top.instance.globals x n 4096 at.0 at.3 (omega (arith, ints, at.1, m.0)) (omega (arith, ints, at.2, m.1)) laid.globals_end)
  read_permitted (Image a) x n some at (m, k) = of_bytes a x n at some m
  read_permitted (Range a s k) x n some at (m, l) = of_bytes (a + s * at.0) x n (at.2 ∙ ap (λ k. k % 2 ^ 64) (omega arith)) some (m at.0 at.1)
  read_permitted (Entry t tag d via) x n some at (m, k) = entry_bytes t at.0 at.1 d n x at.2 at.3 m some
  read_permitted Unknown x n some at (m, k) = absurd m

  -- an address that is at or above 0
  whole_address : (rsp : ℕ) (c : ℤ) → pos 0 ≤ℤ (pos rsp +ℤ c) → (a : ℕ) × (pos a ≡ pos rsp +ℤ c)
  whole_address rsp (pos k) h = (rsp + k, omega (arith, ints))
  whole_address rsp (negsuc k) h = (rsp - (k + 1), omega (arith, ints))

  pub write_permitted : (a : Address) (x n : ℕ) → AddressStands top.instance top.entry_rsp held a x → MayWrite st a n → WritePermitted top x n
  write_permitted (Frame c) x n at m =
      let a = whole_address top.entry_rsp c (omega (arith, ints, m.0, h.depth, laid.room)) in
      let exact : x ≡ a.0 = at ∙ at_word top.entry_rsp a.0 c a.1 (omega (arith, ints, a.1, m.2, h.high_end, laid.ends)) (omega (arith, h.high_end, laid.ends)) in
      in_frame (omega (arith, ints, a.1, m.0, h.depth), omega (arith, ints, a.1, m.2))
  write_permitted (Heap l u) x n at m = Soundness.in_heap (within top.instance.heap x n (2 ^ 33) at.0 at.3 (omega (arith, ints, at.1, m.1.0)) (omega (arith, ints, at.2, m.1.1)) laid.heap_ends)
  write_permitted (Globals l u) x n at m = Soundness.in_globals (within top.instance.globals x n 4096 at.0 at.3 (omega (arith, ints, at.1, m.1.0)) (omega (arith, ints, at.2, m.1.1)) laid.globals_end)
  write_permitted (Image a) x n at m = absurd m.2
  write_permitted (Range a s k) x n at m = absurd m.2
  write_permitted (Entry t tag d via) x n at m = absurd m.2
  write_permitted Unknown x n at m = absurd m.1

-- what is left open does not matter here
pub any_pick : Pick
any_pick = record { choice = record { numbers = λ n. 0; are_words = λ n. omega arith; flags = record { carry = false; overflow = false; is_zero = false; sign = false; parity = false } }; second = false }

some_load : (size : ℕ) (to : Width) (sg : Bool) → IsLoad size to sg → 0 < size
some_load = by_load (λ size to sg. 0 < size)
    (omega arith, omega arith, omega arith, omega arith, omega arith, omega arith, omega arith, omega arith, omega arith, omega arith, omega arith, omega arith, omega arith, omega arith, omega arith)

some_xmm : (size : ℕ) → IsXmmSize size → 0 < size
some_xmm size (inl e) = omega arith
some_xmm size (inr (inl e)) = omega arith
some_xmm size (inr (inr e)) = omega arith

module _ (top : Machine) (site : Site) (next : ℕ) (laid : IsPlaced top site next) (laws : ValueLaws) (bounds : IsSite site) (image : HasImage top.instance site)
    (loads : (ℕ → ℕ) → ℕ → ℕ → ℕ) (pick : Pick) (st : Abstract) (e : Environment) (compared : ℕ) (words : HasWords e) (valid : IsForm site.bounds st)
    (h : Standing st top (held_of e) e.flags e.bytes compared) where
  small : (o : ℤ) → st.sizes o ≤ 8
  small o = by_fit (valid.slots o)
    where
      by_fit : SlotFits (st.sizes o) (st.values (Slot o)) → st.sizes o ≤ 8
      by_fit (inl k) = let z = k.0 in omega arith
      by_fit (inr (inl k)) = omega arith
      by_fit (inr (inr k)) = let z = k.0 in omega arith

  here : (mem : Mem) → IsMem mem → AddressStands top.instance top.entry_rsp (held_of e) (address_of site st mem) (address next e.registers mem)
  here mem m = at_address top site next laid laws bounds loads pick st e compared words valid small h mem m

  read_at : (mem : Mem) (n : ℕ) → 0 < n → IsMem mem → MayRead site st (address_of site st mem) n → ReadPermitted top site (address next e.registers mem) n
  read_at mem n some i m = read_permitted top site next laid image st (held_of e) e.flags e.bytes compared h (address_of site st mem) (address next e.registers mem) n some (here mem i) m

  write_at : (mem : Mem) (n : ℕ) → IsMem mem → MayWrite st (address_of site st mem) n → WritePermitted top (address next e.registers mem) n
  write_at mem n i m = write_permitted top site next laid image st (held_of e) e.flags e.bytes compared h (address_of site st mem) (address next e.registers mem) n (here mem i) m

  abbrev Permitted : Stmt → Type 0
  Permitted s = AllByRecursion (λ r. ReadPermitted top site r.at r.size) (stmt_reads next s e.registers) × AllByRecursion (λ r. WritePermitted top r.at r.size) (stmt_writes next s e.registers)

  pub accesses_permitted : (s : Stmt) → IsLifted s → NoFlow s → Passes site st s → Permitted s
  accesses_permitted (stmt.Load dst size to sg mem) i n m = ((read_at mem size (some_load size to sg i.0) i.1 m, tt), tt)
  accesses_permitted (stmt.Store mem size src) i n m = (tt, (write_at mem size i.1 m, tt))
  accesses_permitted (stmt.Touch mem size true) i n m = (tt, (write_at mem size i.1 m, tt))
  accesses_permitted (stmt.Touch mem size false) i n m = ((read_at mem size (some_xmm size i.0) i.1 m, tt), tt)
  accesses_permitted (stmt.Flow f) i n m = absurd n
  accesses_permitted s i n m = (tt, tt)
