-- Each statement that accesses no memory keeps what the state stands for, and is monotone.
use Rattle.std.proofs.Common.{◌≡◌, ℕ, zero, suc, ◌+◌, ◌-◌, ◌*◌, ◌%◌, ◌^◌, ◌<◌, ◌==◌, refl, sym, ◌∙◌, subst, arith}
use Rattle.std.specs.Prelude.{Option, Some, None, Bool, true, false, if◌then◌else◌, ℤ, pos, negsuc, ◌+ℤ◌, ◌-ℤ◌}
use Rattle.std.proofs.lemmas.Int.{ints}
use Rattle.std.proofs.lemmas.Bool.{eqb-true}
use Rattle.std.proofs.lemmas.Nat.{mod_below}
use Rattle.vw_insn.specs.Listed.{IsNarrow, IsWide, IsMem}
use Rattle.vw_insn.specs.declared.registers.Reg.{Reg}
use Rattle.vw_insn.specs.declared.registers.Width.{Width}
use Rattle.vw_insn.specs.declared.registers.Width.TheVariants.{W8, W16, W32, W64}
use Rattle.vw_insn.specs.declared.operands.Mem.{Mem}
use Rattle.vw_insn.specs.declared.operands.Base.{Base}
use Rattle.vw_insn.specs.declared.operands.Base.TheVariants as base
use Rattle.vw_insn.specs.Words.{number, low, with_low, word_of}
use Rattle.vw_insn.specs.Effect.{address}
use Rattle.vw_stmt.specs.declared.operands.Var.{Var}
use Rattle.vw_stmt.specs.declared.operands.Var.TheVariants as var
use Rattle.vw_stmt.specs.declared.operands.Operand.{Operand}
use Rattle.vw_stmt.specs.declared.operands.Operand.TheVariants as operand
use Rattle.vw_stmt.specs.declared.statement.Stmt.{Stmt}
use Rattle.vw_stmt.specs.declared.statement.Stmt.TheVariants as stmt
use Rattle.vw_stmt.specs.Environment.{Environment, Pick, var_value, operand_value, set_var}
use Rattle.vw_stmt.specs.Does.{does, sum_or_difference}
use Rattle.vw_stmt.specs.Laws.{HasWords}
use Rattle.vw_domain.proofs.ChangeLaws.{MayTag, no_tag}
use Rattle.vw_domain.proofs.WriteLaws.{write_stands, write_below, SourceBelow, SourceStands, below_16, none_is}
use Rattle.vw_domain.proofs.Offsets.{IsMod, word_mod, signed_mod, less_mod, offset_sum}
use Rattle.vw_domain.proofs.ValueLaws.{ValueLaws, under_stands, add_stands, subtract_stands, narrow32_stands, narrowed_stands, scaled_stands, and_stands, shifted_stands, add_no_tag, subtract_no_tag, narrow32_no_tag, narrowed_no_tag, and_no_tag, shifted_no_tag, scaled_tag, add_below, subtract_below, narrow32_below, narrowed_below, scaled_below, and_below, shifted_below, join_left, join_right, join_below, join_valid, add_good, scaled_good, narrow32_good}
use Rattle.vw_domain.specs.Statements.{apply, sum_value, moved_by, moved, small, is_small, plus_disp, lea_by, lea_offset_by, lea_offset_of, chosen_value, offset_of_both, chosen_offset, copy_source}
use Rattle.vw_values.specs.Joins.{join}
use Rattle.vw_values.specs.Values.{IsValid}
use Rattle.vw_domain.proofs.Standing.{Standing}
use Rattle.std.proofs.lemmas.Bool.Decides.{Decides-int_eq}
use Rattle.vw_names.specs.declared.spot.Spot.{Spot as Place}
use Rattle.vw_names.specs.declared.spot.Spot.TheVariants.{Reg as Register}
use Rattle.vw_stack.specs.Stack.{offset_below}
use Rattle.vw_stack.specs.declared.offset.Offset.{Offset}
use Rattle.vw_stack.specs.declared.offset.Offset.TheVariants.{Known, Unknown}
use Rattle.vw_values.specs.declared.value.Value.{Value}
use Rattle.vw_values.specs.declared.value.Value.TheVariants.{Num, Const, Below, Image}
use Rattle.vw_values.specs.Values.{IsValue}
use Rattle.vw_values.specs.Sums.{add}
use Rattle.vw_values.specs.Narrowing.{narrow32}
use Rattle.vw_values.specs.Scales.{scale}
use Rattle.vw_values.specs.Stands.{Stands}
use Rattle.std.specs.Ordering.{int_eq}
use Rattle.vw_domain.specs.Abstract.{Abstract}
use Rattle.vw_domain.specs.Changes.{write}
use Rattle.vw_domain.specs.Sites.{Site, IsSite}
use Rattle.vw_domain.specs.Operands.{index_of, operand_of, operand_offset}
use Rattle.vw_domain.specs.Stands.{Machine, OffsetStands, Tag, tag_register}
use Rattle.vw_domain.specs.Soundness.{IsPlaced, held_of}
use Rattle.vw_domain.specs.FormRanges.{IsForm}
use Rattle.vw_domain.proofs.Orders.{Under, same, Lower, offset_itself}
use Rattle.vw_domain.specs.Addresses.{value_of, signed}

pub held_var : (e : Environment) (v : Var) → held_of e (index_of v) ≡ var_value e v
held_var e (var.Reg r) = by_test (number r == 16) refl
  where
    by_test : (b : Bool) → (number r == 16) ≡ b → (if b then e.tmp else e.registers (number r)) ≡ e.registers (number r)
    by_test true f = let small = below_16 r in absurd (let s = eqb-true (number r) 16 f in omega arith)
    by_test false f = refl
held_var e var.Tmp = refl

pub word_fits : (c : ℤ) → word_of c < 2 ^ 64
word_fits (pos n) = mod_below n (2 ^ 64) (omega arith)
word_fits (negsuc n) = omega arith

pub untagged : (values : Place → Value) (alike : Place → Place → Bool) (v : Value) → tag_register v ≡ None → MayTag values alike v
untagged values alike v n q g e s c = no_tag (sym n ∙ e)

-- ---- (A)

module _ (top : Machine) (site : Site) (next : ℕ) (laid : IsPlaced top site next) (laws : ValueLaws) (bounds : IsSite site)
    (loads : (ℕ → ℕ) → ℕ → ℕ → ℕ) (stores : (ℕ → ℕ) → ℕ → ℕ → ℕ → ℕ → ℕ) (pick : Pick)
    (st : Abstract) (e : Environment) (compared : ℕ) (words : HasWords e) (valid : IsForm site.bounds st)
    (h : Standing st top (held_of e) e.flags e.bytes compared) where
  abbrev After : Stmt → Type 0
  After s = let e' = does loads stores next s pick e in Standing (apply site s st) top (held_of e') e'.flags e'.bytes compared

  abbrev V : Value → ℕ → Type 0
  V v x = Stands top.instance (held_of e) v x

  pub var_stands : (v : Var) → V (value_of st (index_of v)) (var_value e v)
  var_stands v = subst (V (value_of st (index_of v))) (held_var e v) (h.values (Register (index_of v)))

  pub var_fits : (v : Var) → var_value e v < 2 ^ 64
  var_fits (var.Reg r) = words.in_registers (number r)
  var_fits var.Tmp = words.in_tmp

  pub operand_stands : (o : Operand) → V (operand_of st o) (operand_value e o)
  operand_stands (operand.Var v) = var_stands v
  operand_stands (operand.Imm i) = refl

  operand_is : (o : Operand) → IsValue (operand_of st o)
  operand_is (operand.Var v) = valid.values (Register (index_of v))
  operand_is (operand.Imm i) = word_fits i

  pub operand_fits : (o : Operand) → operand_value e o < 2 ^ 64
  operand_fits (operand.Var v) = var_fits v
  operand_fits (operand.Imm i) = word_fits i

  pub var_offset : (v : Var) → OffsetStands top.entry_rsp (st.offsets (index_of v)) (var_value e v)
  var_offset v = subst (OffsetStands top.entry_rsp (st.offsets (index_of v))) (held_var e v) (h.offsets (index_of v))

  pub may_place : (p : Place) → MayTag st.values st.same (st.values p)
  may_place p q g e s c = h.kinds.tags p q g e s c

  abbrev may : (v : Value) → tag_register v ≡ None → MayTag st.values st.same v
  may v n = untagged st.values st.same v n

  put : (dst : Var) (v : Value) (o : Offset) (x : ℕ) → V v x → OffsetStands top.entry_rsp o x → MayTag st.values st.same v
      → let e' = set_var e dst x in Standing (write st (index_of dst) None v o) top (held_of e') e'.flags e'.bytes compared
  put dst v o x k offset m = write_stands top site st e compared dst None v o x h k offset m

  pub set : (dst : Var) (c : ℕ) → After (stmt.Set dst c)
  set dst c = put dst (Const c) Unknown c refl tt (may (Const c) refl)

  pub copy : (dst src : Var) → After (stmt.Copy dst src)
  copy dst src =
      write_stands top site st e compared dst (copy_source (index_of dst) (index_of src)) (value_of st (index_of src)) (st.offsets (index_of src)) (var_value e src) h
      (source (index_of src == index_of dst)) (var_offset src) (may_place (Register (index_of src)))
    where
      source : (b : Bool) → SourceStands top site st (held_of e) e.bytes compared (if b then None else Some (Register (index_of src))) (value_of st (index_of src)) (var_value e src)
      source true = var_stands src
      source false = sym (held_var e src)

  pub narrow : (dst src : Var) (from to : Width) (sg : Bool) → IsNarrow from → IsWide to → After (stmt.Narrow dst src from to sg)
  narrow dst src from to sg n m =
      put dst _ Unknown _ (narrowed_stands top site (held_of e) next laid laws bounds sg from to _ _ (var_value e dst) n m (var_stands src)) tt (may _ (narrowed_no_tag sg from to _ n))

  pub open_ : (dst : Var) (width : Width) → After (stmt.Open dst width)
  open_ dst W8 = put dst Num Unknown _ tt tt (may Num refl)
  open_ dst W16 = put dst Num Unknown _ tt tt (may Num refl)
  open_ dst W32 = put dst (Below (2 ^ 32)) Unknown _ (mod_below _ (2 ^ 32) (omega arith)) tt (may (Below (2 ^ 32)) refl)
  open_ dst W64 = put dst Num Unknown _ tt tt (may Num refl)

  pub and_ : (dst : Var) (width : Width) (a : Var) (b : Operand) → IsWide width → After (stmt.And dst width a b)
  and_ dst width a b n =
      put dst _ Unknown _ (and_stands top site (held_of e) next laid laws bounds width _ _ _ _ (var_value e dst) n (var_stands a) (operand_stands b)) tt (may _ (and_no_tag site.bounds width _ _))

  pub shl : (dst : Var) → After (stmt.Shl dst)
  shl dst = put dst _ Unknown _ (shifted_stands top site (held_of e) next laid laws bounds _ _ (var_stands dst)) tt (may _ (shifted_no_tag site.bounds (value_of st (index_of dst))))

  sum_stands : (minus : Bool) (x y : Value) (a b : ℕ) → IsValue y → V x a → V y b → V (sum_value site minus x y) (sum_or_difference minus a b)
  sum_stands false x y a b i sa sb = add_stands top site (held_of e) next laid laws bounds x y a b sa sb
  sum_stands true x y a b i sa sb = subtract_stands top site (held_of e) next laid laws bounds x y a b i sa sb

  sum_no_tag : (minus : Bool) (x y : Value) → tag_register (sum_value site minus x y) ≡ None
  sum_no_tag false x y = add_no_tag site.tables x y
  sum_no_tag true x y = subtract_no_tag site.tables x y

  kept_stands : (c : ℤ) (x : ℕ) → x ≡ (top.entry_rsp + word_of c) % 2 ^ 64 → OffsetStands top.entry_rsp (small c) x
  kept_stands c x k = by_test (is_small c)
    where
      by_test : (t : Bool) → OffsetStands top.entry_rsp (if t then Known c else Unknown) x
      by_test true = k
      by_test false = tt

  moved_stands : (minus : Bool) (o : Offset) (y : Value) (a b : ℕ) → b < 2 ^ 64 → OffsetStands top.entry_rsp o a → V y b → OffsetStands top.entry_rsp (moved minus o y) (sum_or_difference minus a b)
  moved_stands minus Unknown y a b fb so sy = tt
  moved_stands true (Known c) (Const d) a b fb so sy =
      let is_mod : IsMod b (signed d) = subst (λ k. IsMod k (signed d)) (sym sy) (signed_mod d) in
      kept_stands (c -ℤ signed d) _ (offset_sum a top.entry_rsp (2 ^ 64 - b) c (pos 0 -ℤ signed d) (c -ℤ signed d) (omega (arith, ints)) so (less_mod b (signed d) (omega arith) is_mod))
  moved_stands false (Known c) (Const d) a b fb so sy =
      let is_mod : IsMod b (signed d) = subst (λ k. IsMod k (signed d)) (sym sy) (signed_mod d) in
      kept_stands (c +ℤ signed d) _ (offset_sum a top.entry_rsp b c (signed d) (c +ℤ signed d) (omega (arith, ints)) so is_mod)
  moved_stands true (Known c) y a b fb so sy = tt
  moved_stands false (Known c) y a b fb so sy = tt

  pub sum : (dst a : Var) (b : Operand) (minus : Bool) → After (stmt.Sum dst a b minus)
  sum dst a b minus =
      put dst _ _ _ (sum_stands minus _ _ _ _ (operand_is b) (var_stands a) (operand_stands b))
      (moved_stands minus _ (operand_of st b) _ _ (operand_fits b) (var_offset a) (operand_stands b)) (may _ (sum_no_tag minus (value_of st (index_of a)) (operand_of st b)))

  plus_stands : (v : Value) (a : ℕ) (d : ℤ) → a < 2 ^ 64 → V v a → V (plus_disp site v d) ((a + word_of d) % 2 ^ 64)
  plus_stands v a (pos zero) f s = subst (V v) (omega arith) s
  plus_stands v a (pos (suc n)) f s = add_stands top site (held_of e) next laid laws bounds v (Const (word_of (pos (suc n)))) a (word_of (pos (suc n))) s refl
  plus_stands v a (negsuc n) f s = add_stands top site (held_of e) next laid laws bounds v (Const (word_of (negsuc n))) a (word_of (negsuc n)) s refl

  open_sum : (x y d : ℕ) → ((x + d) % 2 ^ 64 + y) % 2 ^ 64 ≡ (x + d + y) % 2 ^ 64
  open_sum x y d = omega arith

  open_pair : (x y z : ℕ) → ((x + y % 2 ^ 64) % 2 ^ 64 + z) % 2 ^ 64 ≡ (x + y + z) % 2 ^ 64
  open_pair x y z = omega arith

  pub register_stands : (r : Reg) → V (value_of st (number r)) (e.registers (number r))
  register_stands r = var_stands (var.Reg r)

  pub register_fits : (r : Reg) → e.registers (number r) < 2 ^ 64
  register_fits r = words.in_registers (number r)

  lea_stands : (b : Base) (index : Option (Reg × ℕ)) (disp : ℤ) → (b ≡ base.Rip → index ≡ None) → V (lea_by site st disp b index) (address next e.registers (record { base = b; index = index; disp = disp }))
  lea_stands base.Rip None disp rip = let n : next ≡ top.instance.load + site.next = laid.next_is in omega arith
  lea_stands base.Rip (Some (i, s)) disp rip = absurd (none_is (sym (rip refl)))
  lea_stands base.None None disp rip = let f = word_fits disp in omega arith
  lea_stands base.None (Some (i, s)) disp rip =
      subst (V (plus_disp site (scale (value_of st (number i)) s) disp)) (omega arith)
      (plus_stands _ _ disp (mod_below _ (2 ^ 64) (omega arith)) (scaled_stands top site (held_of e) next laid laws bounds s _ _ (register_fits i) (register_stands i)))
  lea_stands (base.Reg r) None disp rip = plus_stands _ _ disp (register_fits r) (register_stands r)
  lea_stands (base.Reg r) (Some (i, s)) disp rip =
      let a = e.registers (number r) in
      let b = e.registers (number i) * s in
      subst (V (plus_disp site (add (value_of st (number r)) (scale (value_of st (number i)) s) site.tables) disp)) (open_pair a b (word_of disp))
      (plus_stands _ _ disp (mod_below _ (2 ^ 64) (omega arith))
      (add_stands top site (held_of e) next laid laws bounds _ _ a (b % 2 ^ 64) (register_stands r)
      (scaled_stands top site (held_of e) next laid laws bounds s _ _ (register_fits i) (register_stands i))))

  lea_place : (b : Base) (index : Option (Reg × ℕ)) (disp : ℤ) → OffsetStands top.entry_rsp (lea_offset_by st b index disp) (address next e.registers (record { base = b; index = index; disp = disp }))
  lea_place base.Rip i disp = tt
  lea_place base.None i disp = tt
  lea_place (base.Reg r) (Some i) disp = tt
  lea_place (base.Reg r) None disp = at_register (st.offsets (number r)) (var_offset (var.Reg r))
    where
      at_register : (o : Offset) → OffsetStands top.entry_rsp o (e.registers (number r)) → OffsetStands top.entry_rsp (lea_offset_of o disp) ((e.registers (number r) + word_of disp) % 2 ^ 64)
      at_register Unknown k = tt
      at_register (Known c) k = kept_stands (c +ℤ disp) _ (offset_sum _ top.entry_rsp (word_of disp) c disp (c +ℤ disp) (omega (arith, ints)) k (word_mod disp))

  may_plus : (v : Value) (d : ℤ) → MayTag st.values st.same v → MayTag st.values st.same (plus_disp site v d)
  may_plus v (pos zero) m = m
  may_plus v (pos (suc n)) m = may _ (add_no_tag site.tables v (Const (word_of (pos (suc n)))))
  may_plus v (negsuc n) m = may _ (add_no_tag site.tables v (Const (word_of (negsuc n))))

  may_scaled : (s : ℕ) (r : Reg) → MayTag st.values st.same (scale (value_of st (number r)) s)
  may_scaled s r q g n c k = may_place (Register (number r)) q g (scaled_tag s (value_of st (number r)) g n) c k

  may_lea : (b : Base) (index : Option (Reg × ℕ)) (disp : ℤ) → MayTag st.values st.same (lea_by site st disp b index)
  may_lea base.Rip index disp = may (Image ((site.next + word_of disp) % 2 ^ 64)) refl
  may_lea base.None None disp = may (Const (word_of disp)) refl
  may_lea base.None (Some (i, s)) disp = may_plus _ disp (may_scaled s i)
  may_lea (base.Reg r) None disp = may_plus _ disp (may_place (Register (number r)))
  may_lea (base.Reg r) (Some (i, s)) disp = may_plus _ disp (may _ (add_no_tag site.tables (value_of st (number r)) (scale (value_of st (number i)) s)))

  pub lea : (dst : Var) (mem : Mem) → IsMem mem → After (stmt.Lea dst mem)
  lea dst mem m = put dst _ _ _ (lea_stands mem.base mem.index mem.disp m.rip) (lea_place mem.base mem.index mem.disp) (may_lea mem.base mem.index mem.disp)

  under_tag : (u v : Value) (g : Tag) → Under u v → tag_register v ≡ Some g → tag_register u ≡ Some g
  under_tag u v g same n = n
  under_tag u v g k n = absurd (no_tag n)

  may_join : (x y : Value) → IsValid site.bounds x → IsValid site.bounds y → MayTag st.values st.same x → MayTag st.values st.same (join site.bounds x y)
  may_join x y i j m q g n s c = m q g (under_tag x (join site.bounds x y) g (join_left site laws bounds x y i j) n) s c

  may_operand : (a : Var) → MayTag st.values st.same (value_of st (index_of a))
  may_operand a = may_place (Register (index_of a))

  good : (p : Place) → IsValid site.bounds (st.values p)
  good p = (valid.values p, valid.among p)

  operand_good : (o : Operand) → IsValid site.bounds (operand_of st o)
  operand_good (operand.Var v) = good (Register (index_of v))
  operand_good (operand.Imm i) = (word_fits i, tt)

  chosen_stands : (width : Width) (x y : Value) (a b old : ℕ) → IsValid site.bounds x → IsValid site.bounds y → V x a → V y b → V (chosen_value site width x y) (with_low width old (low width (if pick.second then b else a)))
  chosen_stands W8 x y a b old vx vy sa sb = tt
  chosen_stands W16 x y a b old vx vy sa sb = tt
  chosen_stands W32 x y a b old vx vy sa sb = by_test pick.second
    where
      i : IsValid site.bounds (narrow32 x)
      i = narrow32_good site laws bounds x vx

      j : IsValid site.bounds (narrow32 y)
      j = narrow32_good site laws bounds y vy

      by_test : (t : Bool) → V (join site.bounds (narrow32 x) (narrow32 y)) ((if t then b else a) % 2 ^ 32)
      by_test true = under_stands top site (held_of e) next laid laws bounds _ _ _ (join_valid site laws bounds _ _ i j).0 (join_right site laws bounds _ _ i j) (narrow32_stands top site (held_of e) next laid laws bounds y b sb)
      by_test false = under_stands top site (held_of e) next laid laws bounds _ _ _ (join_valid site laws bounds _ _ i j).0 (join_left site laws bounds _ _ i j) (narrow32_stands top site (held_of e) next laid laws bounds x a sa)
  chosen_stands W64 x y a b old vx vy sa sb = by_test pick.second
    where
      by_test : (t : Bool) → V (join site.bounds x y) (if t then b else a)
      by_test true = under_stands top site (held_of e) next laid laws bounds _ _ _ (join_valid site laws bounds x y vx vy).0 (join_right site laws bounds _ _ vx vy) sb
      by_test false = under_stands top site (held_of e) next laid laws bounds _ _ _ (join_valid site laws bounds x y vx vy).0 (join_left site laws bounds _ _ vx vy) sa

  chosen_place : (width : Width) (o o' : Offset) (a b old : ℕ) → OffsetStands top.entry_rsp o a → OffsetStands top.entry_rsp o' b
      → OffsetStands top.entry_rsp (chosen_offset width o o') (with_low width old (low width (if pick.second then b else a)))
  chosen_place W8 o o' a b old so so' = tt
  chosen_place W16 o o' a b old so so' = tt
  chosen_place W32 o o' a b old so so' = tt
  chosen_place W64 Unknown o' a b old so so' = tt
  chosen_place W64 (Known c) Unknown a b old so so' = tt
  chosen_place W64 (Known c) (Known d) a b old so so' = by_test (int_eq c d) refl
    where
      same_offset : (c d : ℤ) → int_eq c d ≡ true → c ≡ d
      same_offset c d t = (Decides-int_eq c d).0 t

      second : (t : Bool) → OffsetStands top.entry_rsp (Known c) b → OffsetStands top.entry_rsp (Known c) (if t then b else a)
      second true k = k
      second false k = so

      by_test : (t : Bool) → int_eq c d ≡ t → OffsetStands top.entry_rsp (if t then Known c else Unknown) (if pick.second then b else a)
      by_test true f = let P : ℤ → Type 0 = λ z. OffsetStands top.entry_rsp (Known z) b in second pick.second (subst P (sym (same_offset c d f)) so')
      by_test false f = tt

  operand_at : (b : Operand) → OffsetStands top.entry_rsp (operand_offset st b) (operand_value e b)
  operand_at (operand.Var v) = var_offset v
  operand_at (operand.Imm i) = tt

  pub choose : (dst : Var) (width : Width) (a : Var) (b : Operand) → After (stmt.Choose dst width a b)
  choose dst width a b =
      put dst _ _ _ (chosen_stands width _ _ _ _ (var_value e dst) (good (Register (index_of a))) (operand_good b) (var_stands a) (operand_stands b)) (chosen_place width _ _ _ _ (var_value e dst) (var_offset a) (operand_at b)) (may_choose width)
    where
      may_choose : (width : Width) → MayTag st.values st.same (chosen_value site width (value_of st (index_of a)) (operand_of st b))
      may_choose W8 = may Num refl
      may_choose W16 = may Num refl
      may_choose W32 = may_join _ _ (narrow32_good site laws bounds _ (good (Register (index_of a)))) (narrow32_good site laws bounds _ (operand_good b)) (may _ (narrow32_no_tag _))
      may_choose W64 = may_join _ _ (good (Register (index_of a))) (operand_good b) (may_operand a)

-- ---- (B)

pub under_const : (y : Value) (c : ℕ) → Under y (Const c) → y ≡ Const c
under_const y c same = refl

module _ (site : Site) (laws : ValueLaws) (bounds : IsSite site) (s t : Abstract) (below : Lower s t) (vs : IsForm site.bounds s) (vt : IsForm site.bounds t) where
  abbrev Mono : Stmt → Type 0
  Mono x = Lower (apply site x s) (apply site x t)

  put_below : (dst : Var) (v v' : Value) (o o' : Offset) → Under v v' → offset_below o o' → Lower (write s (index_of dst) None v o) (write t (index_of dst) None v' o')
  put_below dst v v' o o' k f = write_below s t (index_of dst) None None v v' o o' below vs.itself k f

  var_below : (v : Var) → Under (value_of s (index_of v)) (value_of t (index_of v))
  var_below v = below.values (Register (index_of v))

  pub operand_below : (b : Operand) → Under (operand_of s b) (operand_of t b)
  operand_below (operand.Var v) = var_below v
  operand_below (operand.Imm i) = same

  upper : (p : Place) → IsValid site.bounds (t.values p)
  upper p = (vt.values p, vt.among p)

  lower : (p : Place) → IsValid site.bounds (s.values p)
  lower p = (vs.values p, vs.among p)

  operand_low : (b : Operand) → IsValid site.bounds (operand_of s b)
  operand_low (operand.Var v) = lower (Register (index_of v))
  operand_low (operand.Imm i) = (word_fits i, tt)

  var_valid : (v : Var) → IsValue (value_of s (index_of v))
  var_valid v = vs.values (Register (index_of v))

  var_valid' : (v : Var) → IsValue (value_of t (index_of v))
  var_valid' v = vt.values (Register (index_of v))

  pub operand_valid : (b : Operand) → IsValue (operand_of s b)
  operand_valid (operand.Var v) = var_valid v
  operand_valid (operand.Imm i) = word_fits i

  pub operand_valid_upper : (b : Operand) → IsValue (operand_of t b)
  operand_valid_upper (operand.Var v) = var_valid' v
  operand_valid_upper (operand.Imm i) = word_fits i

  operand_in : (b : Operand) → IsValid site.bounds (operand_of t b)
  operand_in (operand.Var v) = upper (Register (index_of v))
  operand_in (operand.Imm i) = (word_fits i, tt)

  pub set_mono : (dst : Var) (c : ℕ) → Mono (stmt.Set dst c)
  set_mono dst c = put_below dst (Const c) (Const c) Unknown Unknown same tt

  pub copy_mono : (dst src : Var) → Mono (stmt.Copy dst src)
  copy_mono dst src =
      write_below s t (index_of dst) (copy_source (index_of dst) (index_of src)) (copy_source (index_of dst) (index_of src)) _ _ _ _ below vs.itself
      (source (index_of src == index_of dst)) (below.offsets (index_of src))
    where
      source : (b : Bool) → SourceBelow s (if b then None else Some (Register (index_of src))) (value_of s (index_of src)) (if b then None else Some (Register (index_of src))) (value_of t (index_of src))
      source true = var_below src
      source false = refl

  pub narrow_mono : (dst src : Var) (from to : Width) (sg : Bool) → Mono (stmt.Narrow dst src from to sg)
  narrow_mono dst src from to sg = put_below dst _ _ Unknown Unknown (narrowed_below site laws bounds sg from to _ _ (var_valid src) (var_valid' src) (var_below src)) tt

  pub open_mono : (dst : Var) (width : Width) → Mono (stmt.Open dst width)
  open_mono dst width = put_below dst _ _ Unknown Unknown same tt

  pub and_mono : (dst : Var) (width : Width) (a : Var) (b : Operand) → Mono (stmt.And dst width a b)
  and_mono dst width a b =
      put_below dst _ _ Unknown Unknown
      (and_below site laws bounds width _ _ _ _ (var_valid a) (operand_valid b) (upper (Register (index_of a))) (operand_in b) (var_below a) (operand_below b)) tt

  pub shl_mono : (dst : Var) → Mono (stmt.Shl dst)
  shl_mono dst = put_below dst _ _ Unknown Unknown (shifted_below site laws bounds _ _ (var_valid dst) (upper (Register (index_of dst))) (var_below dst)) tt

  sum_value_below : (minus : Bool) (x x' y y' : Value) → IsValue x → IsValue y → IsValue x' → IsValue y' → Under x x' → Under y y' → Under (sum_value site minus x y) (sum_value site minus x' y')
  sum_value_below false x x' y y' vx vy vx' vy' h k = add_below site laws bounds x x' y y' vx vy vx' vy' h k
  sum_value_below true x x' y y' vx vy vx' vy' h k = subtract_below site laws bounds x x' y y' vx vy vx' vy' h k

  moved_known : (minus : Bool) (c : ℤ) (y y' : Value) → Under y y' → offset_below (moved_by minus c y) (moved_by minus c y')
  moved_known minus c y (Const d) k =
      let ey : y ≡ Const d = under_const y d k in
      let P : Value → Type 0 = λ z. offset_below (moved_by minus c z) (moved_by minus c (Const d)) in
      subst P (sym ey) (offset_itself (moved_by minus c (Const d)))
  moved_known true c y y' k = tt
  moved_known false c y y' k = tt

  moved_below : (minus : Bool) (o o' : Offset) (y y' : Value) → offset_below o o' → Under y y' → offset_below (moved minus o y) (moved minus o' y')
  moved_below minus o Unknown y y' f k = tt
  moved_below minus Unknown (Known c) y y' f k = absurd f
  moved_below minus (Known d) (Known c) y y' f k =
      let P : ℤ → Type 0 = λ z. offset_below (moved_by minus z y) (moved_by minus c y') in
      subst P (sym f) (moved_known minus c y y' k)

  pub sum_mono : (dst a : Var) (b : Operand) (minus : Bool) → Mono (stmt.Sum dst a b minus)
  sum_mono dst a b minus =
      put_below dst _ _ _ _ (sum_value_below minus _ _ _ _ (var_valid a) (operand_valid b) (var_valid' a) (operand_valid_upper b) (var_below a) (operand_below b))
      (moved_below minus _ _ _ _ (below.offsets (index_of a)) (operand_below b))

  plus_below : (v v' : Value) (d : ℤ) → IsValue v → IsValue v' → Under v v' → Under (plus_disp site v d) (plus_disp site v' d)
  plus_below v v' (pos zero) a b k = k
  plus_below v v' (pos (suc n)) a b k = add_below site laws bounds v v' (Const (word_of (pos (suc n)))) (Const (word_of (pos (suc n)))) a (word_fits (pos (suc n))) b (word_fits (pos (suc n))) k same
  plus_below v v' (negsuc n) a b k = add_below site laws bounds v v' (Const (word_of (negsuc n))) (Const (word_of (negsuc n))) a (word_fits (negsuc n)) b (word_fits (negsuc n)) k same

  register_below : (r : Reg) → Under (value_of s (number r)) (value_of t (number r))
  register_below r = below.values (Register (number r))

  lea_value_below : (b : Base) (index : Option (Reg × ℕ)) (disp : ℤ) → Under (lea_by site s disp b index) (lea_by site t disp b index)
  lea_value_below base.Rip index disp = same
  lea_value_below base.None None disp = same
  lea_value_below base.None (Some (i, k)) disp =
      let x = lower (Register (number i)) in
      let x' = upper (Register (number i)) in
      plus_below _ _ disp (scaled_good site laws bounds k _ x).0 (scaled_good site laws bounds k _ x').0 (scaled_below site laws bounds k _ _ x.0 x'.0 (register_below i))
  lea_value_below (base.Reg r) None disp = plus_below _ _ disp (vs.values (Register (number r))) (vt.values (Register (number r))) (register_below r)
  lea_value_below (base.Reg r) (Some (i, k)) disp =
      let x = lower (Register (number i)) in
      let x' = upper (Register (number i)) in
      let y = lower (Register (number r)) in
      let y' = upper (Register (number r)) in
      let sx = scaled_good site laws bounds k _ x in
      let sx' = scaled_good site laws bounds k _ x' in
      plus_below _ _ disp (add_good site laws bounds _ _ y sx).0 (add_good site laws bounds _ _ y' sx').0
      (add_below site laws bounds _ _ _ _ y.0 sx.0 y'.0 sx'.0 (register_below r) (scaled_below site laws bounds k _ _ x.0 x'.0 (register_below i)))

  lea_offset_below : (b : Base) (index : Option (Reg × ℕ)) (disp : ℤ) → offset_below (lea_offset_by s b index disp) (lea_offset_by t b index disp)
  lea_offset_below base.Rip i disp = tt
  lea_offset_below base.None i disp = tt
  lea_offset_below (base.Reg r) (Some i) disp = tt
  lea_offset_below (base.Reg r) None disp = by_offset _ _ (below.offsets (number r))
    where
      by_offset : (o o' : Offset) → offset_below o o' → offset_below (lea_offset_of o disp) (lea_offset_of o' disp)
      by_offset o Unknown f = tt
      by_offset Unknown (Known c) f = absurd f
      by_offset (Known d) (Known c) f = let P : ℤ → Type 0 = λ z. offset_below (lea_offset_of (Known z) disp) (lea_offset_of (Known c) disp) in subst P (sym f) (offset_itself (lea_offset_of (Known c) disp))

  pub lea_mono : (dst : Var) (mem : Mem) → Mono (stmt.Lea dst mem)
  lea_mono dst mem = put_below dst _ _ _ _ (lea_value_below mem.base mem.index mem.disp) (lea_offset_below mem.base mem.index mem.disp)

  chosen_below : (width : Width) (x x' y y' : Value) → IsValid site.bounds x → IsValid site.bounds y → IsValid site.bounds x' → IsValid site.bounds y' → Under x x' → Under y y' → Under (chosen_value site width x y) (chosen_value site width x' y')
  chosen_below W8 x x' y y' vx vy vx' vy' h k = same
  chosen_below W16 x x' y y' vx vy vx' vy' h k = same
  chosen_below W32 x x' y y' vx vy vx' vy' h k =
      join_below site laws bounds _ _ _ _ (narrow32_good site laws bounds x vx) (narrow32_good site laws bounds y vy) (narrow32_good site laws bounds x' vx') (narrow32_good site laws bounds y' vy')
      (narrow32_below site laws bounds x x' vx.0 vx'.0 h) (narrow32_below site laws bounds y y' vy.0 vy'.0 k)
  chosen_below W64 x x' y y' vx vy vx' vy' h k = join_below site laws bounds x x' y y' vx vy vx' vy' h k

  common_below : (a a' b b' : Offset) → offset_below a a' → offset_below b b' → offset_below (offset_of_both a b) (offset_of_both a' b')
  common_below a Unknown b b' f g = tt
  common_below a (Known c) b Unknown f g = tt
  common_below Unknown (Known c) b (Known d) f g = absurd f
  common_below (Known c') (Known c) Unknown (Known d) f g = absurd g
  common_below (Known c') (Known c) (Known d') (Known d) f g =
      let P : ℤ → Type 0 = λ z. offset_below (offset_of_both (Known z) (Known d')) (offset_of_both (Known c) (Known d)) in
      let Q : ℤ → Type 0 = λ z. offset_below (offset_of_both (Known c) (Known z)) (offset_of_both (Known c) (Known d)) in
      subst P (sym f) (subst Q (sym g) (offset_itself (offset_of_both (Known c) (Known d))))

  chosen_flat : (width : Width) (a a' b b' : Offset) → offset_below a a' → offset_below b b' → offset_below (chosen_offset width a b) (chosen_offset width a' b')
  chosen_flat W8 a a' b b' f g = tt
  chosen_flat W16 a a' b b' f g = tt
  chosen_flat W32 a a' b b' f g = tt
  chosen_flat W64 a a' b b' f g = common_below a a' b b' f g

  operand_flat : (b : Operand) → offset_below (operand_offset s b) (operand_offset t b)
  operand_flat (operand.Var v) = below.offsets (index_of v)
  operand_flat (operand.Imm i) = tt

  pub choose_mono : (dst : Var) (width : Width) (a : Var) (b : Operand) → Mono (stmt.Choose dst width a b)
  choose_mono dst width a b =
      put_below dst _ _ _ _ (chosen_below width _ _ _ _ (lower (Register (index_of a))) (operand_low b) (upper (Register (index_of a))) (operand_in b) (var_below a) (operand_below b))
      (chosen_flat width _ _ _ _ (below.offsets (index_of a)) (operand_flat b))
