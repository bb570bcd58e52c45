-- The refinement by a tag.
use Rattle.std.proofs.Common.{◌≡◌, ℕ, ◌+◌, ◌-◌, ◌*◌, ◌%◌, ◌^◌, ◌<◌, ◌≤◌, ◌⊎◌, inl, inr, ⊎_elim, ◌==◌, refl, sym, ap, ◌∙◌, subst, arith}
use Rattle.std.specs.Prelude.{Option, Some, None, Bool, true, false, if◌then◌else◌, slice_get, length, ◌&&◌, ◌||◌, not, List, [], ◌∷◌}
use Rattle.std.proofs.lemmas.Bool.{eqb-true, false≢true, true≢false}
use Rattle.vw_insn.specs.Words.{Flags as StatusFlags}
use Rattle.vw_names.specs.declared.spot.Spot.{Spot as Place}
use Rattle.vw_names.specs.declared.spot.Spot.TheVariants.{Reg as Register, Flags as Compared}
use Rattle.vw_values.specs.declared.value.Value.{Value}
use Rattle.vw_values.specs.declared.value.Value.TheVariants.{Index16, EntryPtr, EntryTyped, TagOf}
use Rattle.vw_values.specs.declared.value.Via.{Via}
use Rattle.vw_values.specs.declared.value.Via.TheVariants.{At, Idx}
use Rattle.vw_values.specs.Values.{IsValue}
use Rattle.vw_values.specs.Stands.{Instance, Stands, AtEntry, HasTag, TableEntry, FunctionTable}
use Rattle.vw_domain.specs.Abstract.{Abstract}
use Rattle.vw_domain.specs.Changes.{mark, is_other, retag, HasTagEdge, names_class, tagged_by}
use Rattle.vw_domain.specs.Sites.{Site}
use Rattle.vw_domain.specs.Stands.{Machine, content, is_entry, is_index, tag_register, clashes}
use Rattle.vw_domain.specs.Soundness.{HasTables}
use Rattle.vw_values.specs.Stands.{IsMarked, EndsBelowTop}
use Rattle.vw_domain.proofs.Standing.{Standing}
use Rattle.std.proofs.lemmas.Option.{slice_get_cases}
use Rattle.vw_values.specs.Values.{IsMark}
use Rattle.vw_domain.proofs.ValueLaws.{ValueLaws}
use Rattle.vw_domain.proofs.Orders.{Under, same, to_any, Lower}
use Rattle.vw_domain.proofs.Orders.{index16, index16_unmarked, typed}

-- a member of the class of what was compared is a tag of table t by a register of p's class
pub data IsNamed (st : Abstract) (p : Place) (t : ℕ) : Type 0 where
  by_address : (q : Place) (r : ℕ) → st.same Compared q ≡ true → st.values q ≡ TagOf t (At r) → st.same (Register r) p ≡ true → IsNamed st p t
  by_distance : (q : Place) (r : ℕ) → st.same Compared q ≡ true → st.values q ≡ TagOf t (Idx r) → st.same (Register r) p ≡ true → IsNamed st p t

-- ---- (A)

one_table : {a b : FunctionTable} → Some a ≡ Some b → a ≡ b
one_table e = cc

one_item : {a b : TableEntry} → Some a ≡ Some b → a ≡ b
one_item e = cc

no_item : {A : Type 0} {x : A} → ◌≡◌ {A = Option A} None (Some x) → ⊥
no_item e = cc

-- an item is there below the length
pub is_item : {A : Type 0} (xs : List A) (i : ℕ) (x : A) → slice_get xs i ≡ Some x → i < length xs
is_item xs i x e = elim (slice_get_cases xs i).1 [ inl a ↦ a.1 | inr b ↦ absurd (no_item (sym b.1 ∙ e)) ]

one_entry : (s : Instance) (t x g h : ℕ) → EndsBelowTop s t → AtEntry s t (HasTag g) x → AtEntry s t (HasTag h) x → g ≡ h
one_entry s t x g h ends a b =
    let table : a.table ≡ b.table = one_table (sym a.is_table ∙ b.is_table) in
    let room = ends a.table a.is_table in
    let ia = is_item a.table.entries a.i a.entry a.is_entry in
    let jb : b.i < length a.table.entries = subst (λ u. b.i < length u.entries) (sym table) (is_item b.table.entries b.i b.entry b.is_entry) in
    let xa : x ≡ (s.load + a.table.address + 16 * a.i) % 2 ^ 64 = a.at in
    let xb : x ≡ (s.load + a.table.address + 16 * b.i) % 2 ^ 64 = subst (λ u. x ≡ (s.load + u.address + 16 * b.i) % 2 ^ 64) (sym table) b.at in
    let one : a.i ≡ b.i = omega arith in
    let entry : a.entry ≡ b.entry = one_item (sym a.is_entry ∙ ap (λ u. slice_get u.entries a.i) table ∙ ap (λ n. slice_get b.table.entries n) one ∙ b.is_entry) in
    sym a.holds ∙ ap (λ u. u.tag) entry ∙ b.holds

-- two tags of one entry
same_mark : (s : Instance) (m g j : ℕ) → IsMarked s (0, m) j → IsMarked s (0, g) j → m ≡ g
same_mark s m g j a b =
    let table : a.table ≡ b.table = one_table (sym a.is_table ∙ b.is_table) in
    let entry : a.entry ≡ b.entry = one_item (sym a.is_entry ∙ ap (λ u. slice_get u.entries j) table ∙ b.is_entry) in
    sym a.tagged ∙ ap (λ u. u.tag) entry ∙ b.tagged

-- a tag is k if its low 32 bits are
tag_is : (s : Instance) (t y g k : ℕ) → HasTables s → AtEntry s t (HasTag g) y → g % 2 ^ 32 ≡ k → k < 2 ^ 32 - 1 → g ≡ k
tag_is s t y g k tables a e l =
    let same_g : a.entry.tag ≡ g = a.holds in
    ⊎_elim (λ (b : a.entry.tag < 2 ^ 32 - 1). omega arith) (λ (b : a.entry.tag ≡ 2 ^ 64 - 1). omega arith) (tables.tags t a.table a.is_table a.i a.entry a.is_entry)

module _ (top : Machine) (site : Site) (st : Abstract) (held : ℕ → ℕ) (flags : StatusFlags) (bytes : ℕ → ℕ) (compared : ℕ)
    (laws : ValueLaws) (tables : HasTables top.instance)
    (ranges : (p : Place) → IsValue (st.values p))
    (h : Standing st top held flags bytes compared)
    (k : ℕ) (small : k < 2 ^ 32 - 1) (is_k : compared % 2 ^ 32 ≡ k)
    (tagged : Place → ℕ → Bool) (named : (p : Place) (t : ℕ) → tagged p t ≡ true → IsNamed st p t) where
  abbrev V : Value → ℕ → Type 0
  V v x = Stands top.instance held v x

  indices : (p : Place) (j : ℕ) (m : Option (ℕ × ℕ)) → st.values p ≡ Index16 j m → j ≤ 65536
  indices p j m e = let r : IsValue (Index16 j m) = subst IsValue e (ranges p) in r.0.1

  marks : (p : Place) (j : ℕ) (g : ℕ × ℕ) → st.values p ≡ Index16 j (Some g) → g.0 ≡ 0
  marks p j g e = let r : IsValue (Index16 j (Some g)) = subst IsValue e (ranges p) in r.1.0

  abbrev there : Place → ℕ
  there p = content top.entry_rsp st.sizes held bytes compared p

  value_at : (q : Place) (v : Value) → st.same Compared q ≡ true → st.values q ≡ v → V v compared
  value_at q v s e = let P : ℕ → Type 0 = V v in let Q : Value → Type 0 = λ u. V u (there q) in subst P (sym (h.classes Compared q s)) (subst Q e (h.values q))

  -- a tag that was compared is k
  tag_k : (t : ℕ) (via : Via) → V (TagOf t via) compared → V (TagOf t via) k
  tag_k t via a = let e : compared ≡ k = tag_is top.instance t a.0 compared k tables a.2 is_k small in subst (V (TagOf t via)) e a

  entry_tag : (p : Place) (t : ℕ) → is_entry (st.values p) ≡ true → IsNamed st p t → V (EntryTyped t k) (there p)
  entry_tag p t e (by_address q r s v c) = laws.addresses top.instance held t r k (there p) (tag_k t (At r) (value_at q (TagOf t (At r)) s v)) (sym (h.classes (Register r) p c))
  entry_tag p t e (by_distance q r s v c) = absurd (h.kinds.tags q p (record { at = false; table = t; register = r }) (ap tag_register v) c e)

  index_tag : (p : Place) (j : ℕ) (m : Option (ℕ × ℕ)) → is_index (st.values p) ≡ true → IsNamed st p 0 → j ≤ 65536 → V (Index16 j m) (there p) → V (Index16 j (Some (0, k))) (there p)
  index_tag p j m e (by_address q r s v c) b a = absurd (h.kinds.tags q p (record { at = true; table = 0; register = r }) (ap tag_register v) c e)
  index_tag p j m e (by_distance q r s v c) b a =
      laws.indices top.instance held 0 r k j (there p) m (tables.ends 0) b (tag_k 0 (Idx r) (value_at q (TagOf 0 (Idx r)) s v)) (sym (h.classes (Register r) p c)) a

  marked_value : (p : Place) (v : Value) → st.values p ≡ v → V (mark k (tagged p) v) (there p)
  marked_value p (EntryPtr t) e = by_test (tagged p t) refl
    where
      by_test : (b : Bool) → tagged p t ≡ b → V (if b then EntryTyped t k else EntryPtr t) (there p)
      by_test true n = entry_tag p t (ap is_entry e) (named p t n)
      by_test false n = subst (λ u. V u (there p)) e (h.values p)
  marked_value p (EntryTyped t g) e = by_test (tagged p t) refl
    where
      by_test : (b : Bool) → tagged p t ≡ b → V (if b then EntryTyped t k else EntryTyped t g) (there p)
      by_test true n = entry_tag p t (ap is_entry e) (named p t n)
      by_test false n = subst (λ u. V u (there p)) e (h.values p)
  marked_value p (Index16 j m) e = by_test (tagged p 0) refl
    where
      old : V (Index16 j m) (there p)
      old = subst (λ u. V u (there p)) e (h.values p)

      by_test : (b : Bool) → tagged p 0 ≡ b → V (if b then Index16 j (Some (0, k)) else Index16 j m) (there p)
      by_test true n = index_tag p j m (ap is_index e) (named p 0 n) (indices p j m e) old
      by_test false n = old
  marked_value p v e = subst (λ u. V u (there p)) e (h.values p)

  -- the number has no other tag, so there is an edge
  no_other : (p : Place) (v : Value) → st.values p ≡ v → is_other k (tagged p) v ≡ false
  no_other p (EntryTyped t g) e = by_test (tagged p t) refl
    where
      is_that : V (EntryTyped t k) (there p) → (g == k) ≡ true
      is_that a =
          let old : V (EntryTyped t g) (there p) = subst (λ u. V u (there p)) e (h.values p) in
          let one : g ≡ k = one_entry top.instance t (there p) g k (tables.ends t) old a in
          subst (λ z. (g == z) ≡ true) one (itself g)
        where
          itself : (g : ℕ) → (g == g) ≡ true
          itself g = grind arith

      by_test : (b : Bool) → tagged p t ≡ b → (b && not (g == k)) ≡ false
      by_test true n = ap not (is_that (entry_tag p t (ap is_entry e) (named p t n)))
      by_test false n = refl
  no_other p (Index16 j (Some g)) e = by_test (tagged p 0) refl
    where
      old : V (Index16 j (Some g)) (there p)
      old = subst (λ u. V u (there p)) e (h.values p)

      -- marks name table 0
      zero_table : g.0 ≡ 0
      zero_table = marks p j g e

      is_that : V (Index16 j (Some (0, k))) (there p) → (g.1 == k) ≡ true
      is_that a =
          let same_i : old.0 ≡ a.0 = omega (arith, old.2, a.2) in
          let mine : IsMarked top.instance (0, g.1) a.0 = subst (λ n. IsMarked top.instance (0, g.1) n) same_i (subst (λ n. IsMarked top.instance (n, g.1) old.0) zero_table old.3) in
          let one : g.1 ≡ k = same_mark top.instance g.1 k a.0 mine a.3 in
          subst (λ z. (g.1 == z) ≡ true) one (itself g.1)
        where
          itself : (g : ℕ) → (g == g) ≡ true
          itself g = grind arith

      by_test : (b : Bool) → tagged p 0 ≡ b → (b && not (g.1 == k)) ≡ false
      by_test true n = ap not (is_that (index_tag p j (Some g) (ap is_index e) (named p 0 n) (indices p j (Some g) e) old))
      by_test false n = refl
  no_other p v e = refl

  pub tag_edge : HasTagEdge st k tagged
  tag_edge p = no_other p (st.values p) refl

  mark_entry : (tg : ℕ → Bool) (v : Value) → is_entry (mark k tg v) ≡ is_entry v
  mark_entry tg (EntryPtr t) = by_test (tg t)
    where
      by_test : (b : Bool) → is_entry (if b then EntryTyped t k else EntryPtr t) ≡ true
      by_test true = refl
      by_test false = refl
  mark_entry tg (EntryTyped t g) = by_test (tg t)
    where
      by_test : (b : Bool) → is_entry (if b then EntryTyped t k else EntryTyped t g) ≡ true
      by_test true = refl
      by_test false = refl
  mark_entry tg (Index16 j m) = by_test (tg 0)
    where
      by_test : (b : Bool) → is_entry (if b then Index16 j (Some (0, k)) else Index16 j m) ≡ false
      by_test true = refl
      by_test false = refl
  mark_entry tg v = refl

  mark_index : (tg : ℕ → Bool) (v : Value) → is_index (mark k tg v) ≡ is_index v
  mark_index tg (EntryPtr t) = by_test (tg t)
    where
      by_test : (b : Bool) → is_index (if b then EntryTyped t k else EntryPtr t) ≡ false
      by_test true = refl
      by_test false = refl
  mark_index tg (EntryTyped t g) = by_test (tg t)
    where
      by_test : (b : Bool) → is_index (if b then EntryTyped t k else EntryTyped t g) ≡ false
      by_test true = refl
      by_test false = refl
  mark_index tg (Index16 j m) = by_test (tg 0)
    where
      by_test : (b : Bool) → is_index (if b then Index16 j (Some (0, k)) else Index16 j m) ≡ true
      by_test true = refl
      by_test false = refl
  mark_index tg v = refl

  mark_tag : (tg : ℕ → Bool) (v : Value) → tag_register (mark k tg v) ≡ tag_register v
  mark_tag tg (EntryPtr t) = by_test (tg t)
    where
      by_test : (b : Bool) → tag_register (if b then EntryTyped t k else EntryPtr t) ≡ None
      by_test true = refl
      by_test false = refl
  mark_tag tg (EntryTyped t g) = by_test (tg t)
    where
      by_test : (b : Bool) → tag_register (if b then EntryTyped t k else EntryTyped t g) ≡ None
      by_test true = refl
      by_test false = refl
  mark_tag tg (Index16 j m) = by_test (tg 0)
    where
      by_test : (b : Bool) → tag_register (if b then Index16 j (Some (0, k)) else Index16 j m) ≡ None
      by_test true = refl
      by_test false = refl
  mark_tag tg v = refl

  mark_clash : (at : Bool) (tg : ℕ → Bool) (v : Value) → clashes at (mark k tg v) ≡ clashes at v
  mark_clash true tg v = mark_index tg v
  mark_clash false tg v = mark_entry tg v

  pub retag_stands : Standing (retag st k tagged) top held flags bytes compared
  retag_stands =
      record {
        low_end = h.low_end;
        high_end = h.high_end;
        depth = h.depth;
        offsets = h.offsets;
        values = λ p. marked_value p (st.values p) refl;
        classes = h.classes;
        inside = h.inside;
        written = h.written;
        word = h.word;
        facts = h.facts;
        kinds = record {
          apart = λ at p q s e f. h.kinds.apart at p q s (sym (mark_clash (not at) (tagged p) (st.values p)) ∙ e) (sym (mark_clash at (tagged q) (st.values q)) ∙ f);
          tags = λ p q g e s c. h.kinds.tags p q g (sym (mark_tag (tagged p) (st.values p)) ∙ e) s (sym (mark_clash g.at (tagged q) (st.values q)) ∙ c);
        };
      }

-- ---- (B)

module _ (k : ℕ) (ts tu : ℕ → Bool) (more : (t : ℕ) → tu t ≡ true → ts t ≡ true) where
  is_k : (g : ℕ) → not (g == k) ≡ false → g ≡ k
  is_k g e = eqb-true g k (positive (g == k) e)
    where
      positive : (b : Bool) → not b ≡ false → b ≡ true
      positive true e = refl
      positive false e = absurd (true≢false e)

  contra : {A : Type 0} (t : ℕ) → ts t ≡ false → tu t ≡ true → A
  contra t a b = absurd (true≢false (sym (more t b) ∙ a))

  typed_lower : (t : ℕ) (x y : Bool) → ts t ≡ x → tu t ≡ y → Under (if x then EntryTyped t k else EntryPtr t) (if y then EntryTyped t k else EntryPtr t)
  typed_lower t true true a b = same
  typed_lower t true false a b = typed
  typed_lower t false true a b = contra t a b
  typed_lower t false false a b = same

  same_lower : (t g : ℕ) (x y : Bool) → ts t ≡ x → tu t ≡ y → (x && not (g == k)) ≡ false → Under (if x then EntryTyped t k else EntryTyped t g) (if y then EntryTyped t k else EntryTyped t g)
  same_lower t g true true a b n = same
  same_lower t g true false a b n = let P : ℕ → Type 0 = λ z. Under (EntryTyped t z) (EntryTyped t g) in subst P (is_k g n) same
  same_lower t g false true a b n = contra t a b
  same_lower t g false false a b n = same

  below_pointer : (t g : ℕ) (x y : Bool) → ts t ≡ x → tu t ≡ y → Under (if x then EntryTyped t k else EntryTyped t g) (if y then EntryTyped t k else EntryPtr t)
  below_pointer t g true true a b = same
  below_pointer t g true false a b = typed
  below_pointer t g false true a b = contra t a b
  below_pointer t g false false a b = typed

  pair_is : (g : ℕ × ℕ) → g.0 ≡ 0 → g.1 ≡ k → g ≡ (0, k)
  pair_is g a b = ap (λ x. (x, g.1)) a ∙ ap (λ y. (0, y)) b

  -- marks name table 0
  abbrev ZeroMark : Option (ℕ × ℕ) → Type 0
  ZeroMark m = (g : ℕ × ℕ) → m ≡ Some g → g.0 ≡ 0

  index_lower : (i j : ℕ) (m : Option (ℕ × ℕ)) (x y : Bool) → ts 0 ≡ x → tu 0 ≡ y → i ≤ j → is_other k ts (Index16 i m) ≡ false → ZeroMark m → Under (if x then Index16 i (Some (0, k)) else Index16 i m) (if y then Index16 j (Some (0, k)) else Index16 j m)
  index_lower i j m true true a b h n o = index16 h
  index_lower i j None true false a b h n o = index16_unmarked h
  index_lower i j (Some g) true false a b h n o =
      let Q : Bool → Type 0 = λ q. (q && not (g.1 == k)) ≡ false in
      let P : ℕ × ℕ → Type 0 = λ z. Under (Index16 i (Some z)) (Index16 j (Some g)) in
      subst P (pair_is g (o g refl) (is_k g.1 (subst Q a n))) (index16 h)
  index_lower i j m false true a b h n o = contra 0 a b
  index_lower i j m false false a b h n o = index16 h

  index_none : (i j : ℕ) (m : Option (ℕ × ℕ)) (x y : Bool) → ts 0 ≡ x → tu 0 ≡ y → i ≤ j → Under (if x then Index16 i (Some (0, k)) else Index16 i m) (if y then Index16 j (Some (0, k)) else Index16 j None)
  index_none i j m true true a b h = index16 h
  index_none i j m true false a b h = index16_unmarked h
  index_none i j m false true a b h = contra 0 a b
  index_none i j m false false a b h = index16_unmarked h

  zero_of : (m : Option (ℕ × ℕ)) → IsMark m → ZeroMark m
  zero_of None i g e = absurd (no_mark e)
    where
      no_mark : {g : ℕ × ℕ} → ◌≡◌ {A = Option (ℕ × ℕ)} None (Some g) → ⊥
      no_mark e = cc
  zero_of (Some x) i g e = let same : x ≡ g = one_mark e in subst (λ z. z.0 ≡ 0) same i.0
    where
      one_mark : {a b : ℕ × ℕ} → Some a ≡ Some b → a ≡ b
      one_mark e = cc

  mark_itself : (v : Value) → IsValue v → is_other k ts v ≡ false → Under (mark k ts v) (mark k tu v)
  mark_itself (EntryPtr t) i n = typed_lower t (ts t) (tu t) refl refl
  mark_itself (EntryTyped t g) i n = same_lower t g (ts t) (tu t) refl refl n
  mark_itself (Index16 j m) i n = index_lower j j m (ts 0) (tu 0) refl refl (omega arith) n (zero_of m i.1)
  mark_itself v i n = same

  -- where another tag is known there is no edge, so a mark lowers
  mark_lowers : (v v' : Value) → IsValue v → Under v v' → is_other k ts v ≡ false → Under (mark k ts v) (mark k tu v')
  mark_lowers v v' r same n = mark_itself v r n
  mark_lowers v v' r to_any n = to_any
  mark_lowers v v' r (typed {t = t} {g = g}) n = below_pointer t g (ts t) (tu t) refl refl
  mark_lowers v v' r (index16 {j = i} {k = j} {m = m} h) n = index_lower i j m (ts 0) (tu 0) refl refl h n (zero_of m r.1)
  mark_lowers v v' r (index16_unmarked {j = i} {k = j} {m = m} h) n = index_none i j m (ts 0) (tu 0) refl refl h
  mark_lowers v v' r h n = h

  -- no edge above, none below
  still_edge : (v v' : Value) → Under v v' → is_other k ts v ≡ false → is_other k tu v' ≡ false
  still_edge v v' same n = less v n
    where
      less_at : (g : ℕ) (t : ℕ) (x y : Bool) → ts t ≡ x → tu t ≡ y → (x && not (g == k)) ≡ false → (y && not (g == k)) ≡ false
      less_at g t true true a b n = n
      less_at g t x false a b n = refl
      less_at g t false true a b n = contra t a b

      less : (v : Value) → is_other k ts v ≡ false → is_other k tu v ≡ false
      less (EntryTyped t g) n = less_at g t (ts t) (tu t) refl refl n
      less (Index16 j (Some g)) n = less_at g.1 0 (ts 0) (tu 0) refl refl n
      less v n = refl
  still_edge v v' (index16 {m = m} h) n = less m n
    where
      less_at : (g : ℕ) (t : ℕ) (x y : Bool) → ts t ≡ x → tu t ≡ y → (x && not (g == k)) ≡ false → (y && not (g == k)) ≡ false
      less_at g t true true a b n = n
      less_at g t x false a b n = refl
      less_at g t false true a b n = contra t a b

      less : (m : Option (ℕ × ℕ)) → is_other k ts (Index16 0 m) ≡ false → is_other k tu (Index16 0 m) ≡ false
      less None n = refl
      less (Some g) n = less_at g.1 0 (ts 0) (tu 0) refl refl n
  still_edge v v' h n = refl

module _ (s t : Abstract) (below_ : Lower s t) (ranges : (p : Place) → IsValue (s.values p)) (k : ℕ) (in_s in_t : Place → ℕ → Bool) (more : (p : Place) (n : ℕ) → in_t p n ≡ true → in_s p n ≡ true) where
  pub retag_below : HasTagEdge s k in_s → Lower (retag s k in_s) (retag t k in_t)
  retag_below edge =
      record {
        offsets = below_.offsets;
        values = λ p. mark_lowers k (in_s p) (in_t p) (more p) (s.values p) (t.values p) (ranges p) (below_.values p) (edge p);
        sizes = below_.sizes;
        same = below_.same;
        fact = below_.fact;
        probed = below_.probed;
        written = below_.written;
      }

  pub tag_edge_below : HasTagEdge s k in_s → HasTagEdge t k in_t
  tag_edge_below edge p = still_edge k (in_s p) (in_t p) (more p) (s.values p) (t.values p) (below_.values p) (edge p)

  -- the upper one has no fact, or none of this kind
  pub retag_lower : HasTagEdge s k in_s → Lower (retag s k in_s) t
  retag_lower edge =
      record {
        offsets = below_.offsets;
        values = λ p. subst (λ v. Under (mark k (in_s p) (s.values p)) v) (unmarked (t.values p)) (mark_lowers k (in_s p) (λ n. false) (λ n e. absurd (false≢true e)) (s.values p) (t.values p) (ranges p) (below_.values p) (edge p));
        sizes = below_.sizes;
        same = below_.same;
        fact = below_.fact;
        probed = below_.probed;
        written = below_.written;
      }
    where
      unmarked : (v : Value) → mark k (λ n. false) v ≡ v
      unmarked (EntryPtr t) = refl
      unmarked (EntryTyped t g) = refl
      unmarked (Index16 j m) = refl
      unmarked v = refl

-- ---- by the places that are there

or_cases : (a b : Bool) → (a || b) ≡ true → (a ≡ true) ⊎ (b ≡ true)
or_cases true b e = inl refl
or_cases false b e = inr e

or_second : (a b : Bool) → b ≡ true → (a || b) ≡ true
or_second true b e = refl
or_second false b e = e

and_parts : (a b : Bool) → (a && b) ≡ true → (a ≡ true) × (b ≡ true)
and_parts true b e = (refl, e)
and_parts false b e = absurd (false≢true e)

named_at : (st : Abstract) (p : Place) (t : ℕ) (q : Place) (v : Value) → st.values q ≡ v → st.same Compared q ≡ true → names_class st p t v ≡ true → IsNamed st p t
named_at st p t q (TagOf t' (At r)) e s n = let both = and_parts (t' == t) (st.same (Register r) p) n in by_address q r s (e ∙ ap (λ k. TagOf k (At r)) (eqb-true t' t both.0)) both.1
named_at st p t q (TagOf t' (Idx r)) e s n = let both = and_parts (t' == t) (st.same (Register r) p) n in by_distance q r s (e ∙ ap (λ k. TagOf k (Idx r)) (eqb-true t' t both.0)) both.1
named_at st p t q v e s n = absurd (false≢true n)

pub named_by : (st : Abstract) (places : List Place) (p : Place) (t : ℕ) → tagged_by st places p t ≡ true → IsNamed st p t
named_by st [] p t e = absurd (false≢true e)
named_by st (q ∷ qs) p t e = ⊎_elim
    (λ (a : (st.same Compared q && names_class st p t (st.values q)) ≡ true). let both = and_parts (st.same Compared q) _ a in named_at st p t q (st.values q) refl both.0 both.1)
    (λ (b : tagged_by st qs p t ≡ true). named_by st qs p t b)
    (or_cases _ _ e)

names_more : (s t : Abstract) → Lower s t → (p : Place) (n : ℕ) (u v : Value) → Under u v → names_class t p n v ≡ true → names_class s p n u ≡ true
names_more s t h p n u (TagOf m (At r)) same e = let both = and_parts (m == n) (t.same (Register r) p) e in ap (λ b. b && s.same (Register r) p) both.0 ∙ h.same (Register r) p both.1
names_more s t h p n u (TagOf m (Idx r)) same e = let both = and_parts (m == n) (t.same (Register r) p) e in ap (λ b. b && s.same (Register r) p) both.0 ∙ h.same (Register r) p both.1
names_more s t h p n u v k e = absurd (false≢true e)

pub more_by : (s t : Abstract) → Lower s t → (places : List Place) (p : Place) (n : ℕ) → tagged_by t places p n ≡ true → tagged_by s places p n ≡ true
more_by s t h [] p n e = e
more_by s t h (q ∷ qs) p n e = ⊎_elim
    (λ (a : (t.same Compared q && names_class t p n (t.values q)) ≡ true).
    let both = and_parts (t.same Compared q) _ a in
    let there : (s.same Compared q && names_class s p n (s.values q)) ≡ true = ap (λ b. b && names_class s p n (s.values q)) (h.same Compared q both.0) ∙ names_more s t h p n (s.values q) (t.values q) (h.values q) both.1 in
    ap (λ b. b || tagged_by s qs p n) there)
    (λ (b : tagged_by t qs p n ≡ true). or_second _ _ (more_by s t h qs p n b))
    (or_cases _ _ e)
