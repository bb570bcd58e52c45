-- Copies, loads and addresses.
use Rattle.std.proofs.Common.{◌≡◌, ◌≢◌, ℕ, ◌≤◌, ◌^◌, ◌==◌, ◌⊎◌, inl, inr, List, [], length, refl, sym, ap, ◌∙◌, subst, arith}
use Rattle.std.specs.Prelude.{ℤ, pos, Bool, true, false, if◌then◌else◌, Option, Some, None, IfSome}
use Rattle.std.specs.Ordering.{int_eq}
use Rattle.vw_insn.specs.declared.registers.Reg.{Reg as GeneralRegister}
use Rattle.vw_insn.specs.declared.registers.Width.{Width}
use Rattle.vw_insn.specs.declared.registers.Width.TheVariants.{W8, W16, W32, W64}
use Rattle.vw_insn.specs.declared.operands.Base.{Base}
use Rattle.vw_insn.specs.declared.operands.Base.TheVariants as base
use Rattle.vw_insn.specs.declared.operands.Mem.{Mem}
use Rattle.vw_insn.specs.Listed.{IsMem}
use Rattle.vw_insn.specs.Words.{number}
use Rattle.vw_stmt.specs.declared.operands.Var.{Var}
use Rattle.vw_stmt.specs.declared.operands.Operand.TheVariants as operand
use Rattle.vw_stmt.specs.declared.statement.Stmt.TheVariants as stmt
use Rattle.vw_stmt.specs.Lifted.{IsLoad}
use Rattle.vw_names.specs.declared.spot.Spot.{Spot}
use Rattle.vw_names.specs.declared.spot.Spot.TheVariants.{Reg}
use Rattle.vw_stack.specs.declared.offset.Offset.{Offset}
use Rattle.vw_stack.specs.declared.offset.Offset.TheVariants as offset
use Rattle.vw_values.specs.Bounds.{IsBounds}
use Rattle.vw_values.specs.Sums.{extent_of}
use Rattle.vw_values.specs.Values.{IsValue, IsAmong}
use Rattle.vw_values.specs.declared.extent.Extent.{Extent}
use Rattle.vw_values.specs.declared.extent.Extent.TheVariants as extent
use Rattle.vw_values.specs.declared.value.Value.{Value}
use Rattle.vw_values.specs.declared.value.Value.TheVariants as value
use Rattle.vw_domain.specs.Abstract.{Abstract}
use Rattle.vw_domain.specs.Addresses.{Address, Frame, Heap, Globals, Image, Range, Entry, Unknown, value_of, known_or, by_symbol, by_image, by_pair, by_index, by_parts, address_of}
use Rattle.vw_domain.specs.Changes.{write}
use Rattle.vw_domain.specs.FormLaws.{HoldsBounds, StatementsKeepStateForms, IsDisplacement}
use Rattle.vw_domain.specs.FormRanges.{IsStateForm}
use Rattle.vw_domain.specs.Memory.{value_or, plain_kind, wide_value, half_value, whole_value, known_value, slot_half, load_value, load_source, store_at}
use Rattle.vw_domain.specs.Operands.{index_of}
use Rattle.vw_domain.specs.Registers.{IsRegister, IsWithin}
use Rattle.vw_domain.specs.Sites.{Site as EquationSite}
use Rattle.vw_domain.specs.State.{plain_register}
use Rattle.vw_domain.specs.Statements.{copy_source}
use Rattle.vw_domain.proofs.StoreForms.{offset_tells}
use Rattle.vw_state.specs.declared.site.Site.{Site}
use Rattle.vw_state.specs.Context.{Context}
use Rattle.vw_state.specs.Context.{equation_site}
use Rattle.vw_state.proofs.Written.{calm, calm_is_site, statement_known}

-- ---- registers

pub copy_same : (st : Abstract) (d s : ℕ) → s ≡ d → (v w : Value) (o p : Offset) → v ≡ w → o ≡ p → write st d None v o ≡ write st d (copy_source d s) w p
copy_same st d s e v w o p f g =
    let t : (s == d) ≡ true = grind arith in
    let k : copy_source d s ≡ None = ap (λ (b : Bool). if b then None else Some (Reg s)) t in
    ap (λ (x : Option Spot). write st d x v o) (sym k) ∙ (ap (λ (x : Value). write st d (copy_source d s) x o) f ∙ ap (λ (x : Offset). write st d (copy_source d s) w x) g)

pub copy_other : (st : Abstract) (d s : ℕ) → s ≢ d → (v : Value) (o p : Offset) → o ≡ p → write st d (Some (Reg s)) v o ≡ write st d (copy_source d s) v p
copy_other st d s n v o p g =
    let t : (s == d) ≡ false = grind arith in
    let k : copy_source d s ≡ Some (Reg s) = ap (λ (b : Bool). if b then None else Some (Reg s)) t in
    ap (λ (x : Option Spot). write st d x v o) (sym k) ∙ ap (λ (x : Offset). write st d (copy_source d s) v x) g

-- ---- addresses

-- a context of the site
abbrev pub own_context : Site → Context
own_context site = record {
  image = site.image.now;
  tables = site.tables.now;
  functions = [];
  entry = site.entry;
  size = site.size;
  bounds = site.bounds.now;
}

-- no address depends on the words of the image
symbol_calm : (site : Site) (next a i : ℕ) (v : Value) (s : ℕ) (d : ℤ) → by_symbol (equation_site site next) a i v s d ≡ by_symbol (calm site next) a i v s d
symbol_calm site next a i (value.Index16 k m) s d = refl
symbol_calm site next a i v s d = refl

image_calm : (site : Site) (next a i : ℕ) (q : Extent) (s : ℕ) (d : ℤ) → by_image (equation_site site next) a i q s d ≡ by_image (calm site next) a i q s d
image_calm site next a i (extent.Exactly c) s d = refl
image_calm site next a i (extent.Under k) s d = refl
image_calm site next a i extent.Unbounded s d = refl
image_calm site next a i (extent.Other v) s d = symbol_calm site next a i v s d

pair_calm : (site : Site) (next : ℕ) (v : Value) (i : ℕ) (y : Value) (s : ℕ) (d : ℤ) → by_pair (equation_site site next) v i y s d ≡ by_pair (calm site next) v i y s d
pair_calm site next (value.Image a) i y s d = image_calm site next a i (extent_of y) s d
pair_calm site next v i y s d = refl

index_calm : (site : Site) (next : ℕ) (st : Abstract) (r i s : ℕ) (d : ℤ) → by_index (equation_site site next) st r i s d ≡ by_index (calm site next) st r i s d
index_calm site next st r i s d =
    ap (λ (p : Option Address). known_or p (if s == 1 then by_pair (equation_site site next) (value_of st i) r (value_of st r) 1 d else None)) (pair_calm site next (value_of st r) i (value_of st i) s d)
    ∙ ap (λ (q : Option Address). known_or (by_pair (calm site next) (value_of st r) i (value_of st i) s d) (if s == 1 then q else None)) (pair_calm site next (value_of st i) r (value_of st r) 1 d)

parts_calm : (site : Site) (next : ℕ) (st : Abstract) (b : Base) (i : Option (GeneralRegister × ℕ)) (d : ℤ) → by_parts (equation_site site next) st b i d ≡ by_parts (calm site next) st b i d
parts_calm site next st base.Rip i d = refl
parts_calm site next st base.None None d = refl
parts_calm site next st base.None (Some i) d = refl
parts_calm site next st (base.Reg r) None d = refl
parts_calm site next st (base.Reg r) (Some i) d = index_calm site next st (number r) (number i.0) i.1 d

address_calm : (site : Site) (next : ℕ) (st : Abstract) (mem : Mem) → address_of (equation_site site next) st mem ≡ address_of (calm site next) st mem
address_calm site next st mem = parts_calm site next st mem.base mem.index mem.disp

-- an address in the frame is that of a slot that a store leaves
pub near_frame : (site : Site) (next : ℕ) (members : List ℕ) (st : Abstract) (mem : Mem) → StatementsKeepStateForms → IsBounds site.bounds.now → HoldsBounds members site.bounds.now → length site.tables.now ≤ 64 → IsStateForm members st → IsMem mem → IsDisplacement mem.disp
    → (x : ℤ) → address_of (equation_site site next) st mem ≡ Frame x → IsWithin (2 ^ 32) x
near_frame site next members st mem kept bounds holds few form is_mem disp x e = stored.slots x (stands (offset_tells x x))
  where
    at : address_of (calm site next) st mem ≡ Frame x
    at = sym (address_calm site next st mem) ∙ e

    stored : IsStateForm members (store_at st (Frame x) 8 8 None (value.Const 0))
    stored = subst (λ (a : Address). IsStateForm members (store_at st a 8 8 None (value.Const 0))) at (kept (calm site next) members st (stmt.Store mem 8 (operand.Imm (pos 0))) (calm_is_site site next bounds few) holds form (inr (inr (inr refl)), is_mem) disp)

    stands : ((int_eq x x ≡ true) × (x ≡ x)) ⊎ ((int_eq x x ≡ false) × (x ≢ x)) → (store_at st (Frame x) 8 8 None (value.Const 0)).sizes x ≢ 0
    stands (inl k) z = eight (int_eq x x) k.0 _ z
      where
        eight : (b : Bool) → b ≡ true → (n : ℕ) → (if b then 8 else n) ≡ 0 → ⊥
        eight true f n z = absurd (omega arith)
        eight false f n z = cc
    stands (inr k) z = absurd (k.1 refl)

-- ---- loads

known_same : (s t : EquationSite) (a : Address) (size : ℕ) (to : Width) (signed : Bool) → half_value s a ≡ half_value t a → whole_value s a ≡ whole_value t a → known_value s a size to signed ≡ known_value t a size to signed
known_same s t a size W8 signed e f = refl
known_same s t a size W16 signed e f = refl
known_same s t a size W32 true e f = refl
known_same s t a size W32 false e f = ap (λ (h : Option Value). if size == 4 then h else None) e
known_same s t a size W64 true e f = refl
known_same s t a size W64 false e f =
    ap (λ (h : Option Value). if size == 8 then whole_value s a else (if size == 4 then h else None)) e
    ∙ ap (λ (h : Option Value). if size == 8 then h else (if size == 4 then half_value t a else None)) f

both_none : (b : Bool) → ◌≡◌ {A = Option Value} (if b then None else None) None
both_none true = refl
both_none false = refl

known_none : (site : Site) (next a size : ℕ) (to : Width) (signed : Bool) → known_value (calm site next) (Image a) size to signed ≡ None
known_none site next a size W8 signed = refl
known_none site next a size W16 signed = refl
known_none site next a size W32 true = refl
known_none site next a size W32 false = both_none (size == 4)
known_none site next a size W64 true = both_none (size == 4)
known_none site next a size W64 false = ap (λ (h : Option Value). if size == 8 then None else h) (both_none (size == 4)) ∙ both_none (size == 8)

abbrev pub IsSound : Value → Type 0
IsSound v = IsValue v × ((b : List ℕ) → IsAmong b v)

abbrev pub IsKnown : List ℕ → Value → Type 0
IsKnown b v = IsRegister (plain_register v) × IsAmong b v

module _ (site : Site) (next : ℕ) (members : List ℕ) (st : Abstract) (mem : Mem) (size : ℕ) (to : Width) (signed : Bool)
    (kept : StatementsKeepStateForms) (bounds : IsBounds site.bounds.now) (holds : HoldsBounds members site.bounds.now) (few : length site.tables.now ≤ 64) (form : IsStateForm members st) (is_mem : IsMem mem) (is_load : IsLoad size to signed) (disp : IsDisplacement mem.disp) where
  -- by the law, where the words of the image do not matter
  by_law : (a : Address) → a ≡ address_of (equation_site site next) st mem → load_source st a size signed ≡ None
      → known_value (equation_site site next) a size to signed ≡ known_value (calm site next) a size to signed → IsKnown members (load_value (equation_site site next) st a size to signed)
  by_law a at fresh same =
      statement_known site next members st (λ (d : Var). stmt.Load d size to signed mem) (plain_register (load_value (equation_site site next) st a size to signed)) kept bounds holds few form (λ (d : Var). (is_load, is_mem)) (λ (d : Var). disp) is
    where
      there : a ≡ address_of (calm site next) st mem
      there = at ∙ address_calm site next st mem

      loaded : load_value (calm site next) st a size to signed ≡ load_value (equation_site site next) st a size to signed
      loaded = ap (λ (k : Option Value). value_or (slot_half st a size signed) (value_or k (value_or (plain_kind size to signed) (wide_value a)))) (sym same)

      is : (d : Var) → write st (index_of d) (load_source st (address_of (calm site next) st mem) size signed) (load_value (calm site next) st (address_of (calm site next) st mem) size to signed) offset.Unknown
          ≡ write st (index_of d) None (load_value (equation_site site next) st a size to signed) offset.Unknown
      is d =
          ap (λ (x : Address). write st (index_of d) (load_source st x size signed) (load_value (calm site next) st x size to signed) offset.Unknown) (sym there)
          ∙ (ap (λ (x : Option Spot). write st (index_of d) x (load_value (calm site next) st a size to signed) offset.Unknown) fresh
          ∙ ap (λ (x : Value). write st (index_of d) None x offset.Unknown) loaded)

  by_word : (a : ℕ) (k : Option Value) → known_value (equation_site site next) (Image a) size to signed ≡ k → IfSome k IsSound → Image a ≡ address_of (equation_site site next) st mem
      → IsKnown members (load_value (equation_site site next) st (Image a) size to signed)
  by_word a None e sound at = by_law (Image a) at refl (e ∙ sym (known_none site next a size to signed))
  by_word a (Some v) e sound at =
      let P : Option Value → Type 0 = λ k. IsKnown members (value_or k (value_or (plain_kind size to signed) value.Any)) in
      subst P (sym e) (record { value = sound.0; offset = tt }, sound.1 members)

  pub loaded_known : (a : Address) → a ≡ address_of (equation_site site next) st mem → load_source st a size signed ≡ None
      → ((b : ℕ) → a ≡ Image b → IfSome (known_value (equation_site site next) a size to signed) IsSound) → IsKnown members (load_value (equation_site site next) st a size to signed)
  loaded_known (Image b) at fresh sound = by_word b (known_value (equation_site site next) (Image b) size to signed) refl (sound b refl) at
  loaded_known (Frame c) at fresh sound = by_law (Frame c) at fresh (known_same (equation_site site next) (calm site next) (Frame c) size to signed refl refl)
  loaded_known (Heap l h) at fresh sound = by_law (Heap l h) at fresh (known_same (equation_site site next) (calm site next) (Heap l h) size to signed refl refl)
  loaded_known (Globals l h) at fresh sound = by_law (Globals l h) at fresh (known_same (equation_site site next) (calm site next) (Globals l h) size to signed refl refl)
  loaded_known (Range b s k) at fresh sound = by_law (Range b s k) at fresh (known_same (equation_site site next) (calm site next) (Range b s k) size to signed refl refl)
  loaded_known (Entry t tag d via) at fresh sound = by_law (Entry t tag d via) at fresh (known_same (equation_site site next) (calm site next) (Entry t tag d via) size to signed refl refl)
  loaded_known Unknown at fresh sound = by_law Unknown at fresh (known_same (equation_site site next) (calm site next) Unknown size to signed refl refl)
