-- Bytes of the frame are written: the slot that is put, the classes, and the state afterwards.
use Rattle.std.proofs.Common.{◌≡◌, ◌≢◌, ℕ, ◌+◌, ◌^◌, ◌<◌, ◌⊎◌, List, sym, ap, subst, ◌∙◌, arith, Some, None, inl, inr, Bool, true, false, is_some}
use Rattle.std.proofs.lemmas.Int.{ints}
use Rattle.std.proofs.lemmas.Bool.{lt-ltb}
use Rattle.std.proofs.lemmas.Bool.Decides.{eqb_tells}
use Rattle.std.specs.Prelude.{ℤ, pos, ◌+ℤ◌, ◌-ℤ◌, ◌≤ℤ◌, Option, ◌↔◌, ◌||◌, ◌&&◌, int_lt, if◌then◌else◌}
use Rattle.vw_lattice.specs.Entries.{value_at, HasKey}
use Rattle.vw_locals.specs.Ranges.{IsRanges, is_written, is_between}
use Rattle.vw_names.specs.declared.spot.Spot.{Spot}
use Rattle.vw_names.specs.declared.spot.Spot.TheVariants.{Reg, Slot}
use Rattle.vw_names.specs.Division.{root, Same, IsAlone, IsDivision, Follows}
use Rattle.vw_names.specs.Spot.{slot_number}
use Rattle.vw_values.specs.declared.value.Value.{Value}
use Rattle.vw_values.specs.declared.value.Value.TheVariants.{Any}
use Rattle.vw_values.specs.Values.{IsValue, IsAmong}
use Rattle.vw_domain.specs.declared.parts.Parts.{Parts}
use Rattle.vw_domain.specs.declared.registers.Register.{Register}
use Rattle.vw_domain.specs.Registers.{register_at, IsWithin, IsRowAmong}
use Rattle.vw_domain.specs.State.{AreSlots, AreSlotsAmong, IsState, IsNamed, IsThere, IsNarrow, Fits, key_of, wide_key, narrow_key}
use Rattle.vw_domain.specs.Abstract.{abstract_of, slot_key, slot_size, value_of, value_or_any, is_there}
use Rattle.vw_domain.specs.Changes.{store_frame}
use Rattle.vw_domain.specs.Stores.{is_overlapped, LosesSlots, PutsSlot}
use Rattle.vw_domain.proofs.Lowers.{true_not_false}
use Rattle.vw_domain.proofs.WriteLemmas.{key_back}
use Rattle.vw_domain.proofs.GroupLemmas.{Comes, named_left, named_entered}
use Rattle.vw_domain.proofs.StoreLemmas.{Left, wide_is, narrow_is, over_here, low_kept}
use Rattle.vw_domain.proofs.StoreForms.{Stored, is_gone_at, offset_tells, stored_form, stored_state}

-- what is put under a key, with the class of a register if one is given
pub record IsSlotAt (s : Parts) (c : ℤ) (n : ℕ) (key : ℤ) (v : Value) : Type 0 where
  pub over : is_overlapped c n key ≡ true
  pub low : (pos 0 -ℤ pos (2 ^ 33)) ≤ℤ key
  pub high : key ≤ℤ pos (2 ^ 33 + 1)
  pub apart : (o : ℤ) → o ≢ c → (narrow_key o ≢ key) × (wide_key o ≢ key)
  pub value : IsValue v
  pub narrow : (o : ℤ) → narrow_key o ≡ key → IsNarrow v

pub kept_some : (b : Bool) (x y : Option Value) (v : Value) → y ≡ (if b then None else x) → y ≡ Some v → x ≡ Some v
kept_some true x y v is found =
    let no : None ≡ Some v = sym is ∙ found in
    absurd (cc)
kept_some false x y v is found = sym is ∙ found

module _ (s l : Parts) (c : ℤ) (n : ℕ) (is_c : IsWithin (2 ^ 32) c) (some : 0 < n) (is_s : IsState s) (loses : LosesSlots (is_overlapped c n) s l) where
  abbrev gone : ℕ → Bool
  gone = is_gone_at c n

  left_l : (o : ℤ) → Left s l.slots c n o
  left_l o = record {
    narrow = loses.values (narrow_key o) ∙ ap (λ (b : Bool). if b then None else value_at s.slots (narrow_key o)) (narrow_is c n o);
    wide = loses.values (wide_key o) ∙ ap (λ (b : Bool). if b then None else value_at s.slots (wide_key o)) (wide_is c n o);
  }

  pub narrow_gone : value_at l.slots (narrow_key c) ≡ None
  narrow_gone = (left_l c).narrow ∙ ap (λ (b : Bool). if b then None else value_at s.slots (narrow_key c)) (over_here c n 4 some (omega arith))

  pub wide_gone : value_at l.slots (wide_key c) ≡ None
  wide_gone = (left_l c).wide ∙ ap (λ (b : Bool). if b then None else value_at s.slots (wide_key c)) (over_here c n 8 some (omega arith))

  before : (key : ℤ) (v : Value) → value_at l.slots key ≡ Some v → value_at s.slots key ≡ Some v
  before key v found = kept_some (is_overlapped c n key) (value_at s.slots key) (value_at l.slots key) v (loses.values key) found

  after : (key : ℤ) (v : Value) → is_overlapped c n key ≡ false → value_at s.slots key ≡ Some v → value_at l.slots key ≡ Some v
  after key v not found = loses.values key ∙ ap (λ (b : Bool). if b then None else value_at s.slots key) not ∙ found

  are_left : AreSlots l.slots
  are_left = record {
    ascending = loses.ascending;
    within = λ key has. is_s.slots.within key (has.0, before key has.0 has.1);
    values = λ key v found. is_s.slots.values key v (before key v found);
    narrow = λ o v found. is_s.slots.narrow o v (before (narrow_key o) v found);
    apart = λ o wide narrow. is_s.slots.apart o (wide.0, before (wide_key o) wide.0 wide.1) (narrow.0, before (narrow_key o) narrow.0 narrow.1);
  }

  among_left : (b : List ℕ) → AreSlotsAmong b s.slots → AreSlotsAmong b l.slots
  among_left b among key v found = among key v (before key v found)

  still_l : (a : ℕ) → gone a ≡ false → IsThere s.slots a → IsThere l.slots a
  still_l a not (inl low) = inl low
  still_l a not (inr has) = inr (has.0, after (key_of a) has.0 not has.1)

  -- ---- no slot is put

  module _ (w : List (ℤ × ℤ)) (ranges : IsRanges w) (written : (x : ℤ) → is_written w x ≡ ((is_between c (c +ℤ pos n) x && int_lt x (pos 0)) || is_written s.written x)) where
    abbrev bare : Parts
    bare = record l { written = w }

    no_value : value_at l.slots (slot_key l.slots c) ≡ None
    no_value = ap (λ (x : Option Value). value_at l.slots (if is_some x then narrow_key c else wide_key c)) narrow_gone ∙ wide_gone

    bare_stored : Stored s bare c n 0 None Any
    bare_stored = record {
      left = λ o other. left_l o;
      slot = ap (λ (x : Option Value). if is_some x then 4 else (if is_some (value_at l.slots (wide_key c)) then 8 else 0)) narrow_gone ∙ ap (λ (x : Option Value). if is_some x then 8 else 0) wide_gone;
      number = ap value_or_any no_value;
      come = λ a is. absurd (cc);
      alone = λ is there. absurd (true_not_false (sym there ∙ ap is_some no_value));
      others = loses.classes.others;
      registers = loses.registers;
      probed = loses.probed;
      fact = loses.fact;
      written = written;
    }

    pub bare_form : abstract_of bare ≡ store_frame (abstract_of s) c n 0 None Any
    bare_form = stored_form s bare c n 0 None Any is_c.0 is_s are_left bare_stored

    pub bare_state : IsState bare
    bare_state = stored_state s bare c n 0 None Any is_c.0 is_s are_left bare_stored ranges loses.division
        (named_left s bare gone is_s.named loses.classes.others still_l loses.classes.alone)

    pub bare_fits : (b : List ℕ) → Fits b s → Fits b bare
    bare_fits b fits = record {
      registers = subst (λ (row : List Register). IsRowAmong b row) (sym loses.registers) fits.registers;
      slots = among_left b fits.slots;
    }

  -- ---- a slot is put

  module _ (f : Parts) (key : ℤ) (v : Value) (source : Option ℕ) (at : IsSlotAt s c n key v) (puts : PutsSlot key v source l f) (none : (o : ℤ) → (wide_key o ≡ key) ⊎ (narrow_key o ≡ key) → HasKey f.slots (wide_key o) → HasKey f.slots (narrow_key o) → ⊥) where
    left_f : (o : ℤ) → o ≢ c → Left s f.slots c n o
    left_f o other =
        let apart = at.apart o other in
        record {
          narrow = puts.others (narrow_key o) apart.0 ∙ (left_l o).narrow;
          wide = puts.others (wide_key o) apart.1 ∙ (left_l o).wide;
        }

    is_value : (w : Value) (k : ℤ) → k ≡ key → value_at f.slots k ≡ Some w → v ≡ w
    is_value w k same found =
        let both : Some v ≡ Some w = sym puts.here ∙ ap (value_at f.slots) (sym same) ∙ found in
        cc

    are_put : AreSlots f.slots
    are_put = record {
      ascending = puts.ascending;
      within = λ k has. elim (offset_tells k key) [
        | inl same ↦ subst (λ (z : ℤ). ((pos 0 -ℤ pos (2 ^ 33)) ≤ℤ z) × (z ≤ℤ pos (2 ^ 33 + 1))) (sym same.1) (at.low, at.high)
        | inr other ↦ are_left.within k (has.0, sym (puts.others k other.1) ∙ has.1)
      ];
      values = λ k w found. elim (offset_tells k key) [
        | inl same ↦ subst (λ (x : Value). IsValue x) (is_value w k same.1 found) at.value
        | inr other ↦ are_left.values k w (sym (puts.others k other.1) ∙ found)
      ];
      narrow = λ o w found. elim (offset_tells (narrow_key o) key) [
        | inl same ↦ subst (λ (x : Value). IsNarrow x) (is_value w (narrow_key o) same.1 found) (at.narrow o same.1)
        | inr other ↦ are_left.narrow o w (sym (puts.others (narrow_key o) other.1) ∙ found)
      ];
      apart = λ o wide narrow. elim (offset_tells (wide_key o) key) [
        | inl same ↦ none o (inl same.1) wide narrow
        | inr other ↦ elim (offset_tells (narrow_key o) key) [
          | inl same ↦ none o (inr same.1) wide narrow
          | inr too ↦ are_left.apart o (wide.0, sym (puts.others (wide_key o) other.1) ∙ wide.1) (narrow.0, sym (puts.others (narrow_key o) too.1) ∙ narrow.1)
        ]
      ];
    }

    among_put : (b : List ℕ) → AreSlotsAmong b s.slots → IsAmong b v → AreSlotsAmong b f.slots
    among_put b among is k w found = elim (offset_tells k key) [
      | inl same ↦ subst (λ (x : Value). IsAmong b x) (is_value w k same.1 found) is
      | inr other ↦ among_left b among k w (sym (puts.others k other.1) ∙ found)
    ]

    abbrev e : ℕ
    e = slot_number key

    e_gone : gone e ≡ true
    e_gone = ap (is_overlapped c n) (key_back key at.low) ∙ at.over

    not_e : (a : ℕ) → gone a ≡ false → a ≢ e
    not_e a not = λ same. true_not_false (sym e_gone ∙ sym (ap gone same) ∙ not)

    still_f : (a : ℕ) → gone a ≡ false → IsThere s.slots a → IsThere f.slots a
    still_f a not (inl low) = inl low
    still_f a not (inr has) =
        let other : key_of a ≢ key = λ same. true_not_false (sym at.over ∙ sym (ap (is_overlapped c n) same) ∙ not) in
        inr (has.0, puts.others (key_of a) other ∙ after (key_of a) has.0 not has.1)

    -- alone
    module _ (is_alone : f.classes ≡ l.classes) where
      lone_others : (a b : ℕ) → gone a ≡ false → gone b ≡ false → Same f.classes a b ↔ Same s.classes a b
      lone_others a b h k = subst (λ (x : List (ℕ × ℕ)). Same x a b ↔ Same s.classes a b) (sym is_alone) (loses.classes.others a b h k)

      lone_alone : (a : ℕ) → gone a ≡ true → IsAlone f.classes a
      lone_alone a is = subst (λ (x : List (ℕ × ℕ)). IsAlone x a) (sym is_alone) (loses.classes.alone a is)

      lone_named : IsNamed f.slots f.classes
      lone_named = named_left s f gone is_s.named lone_others still_f lone_alone

    -- in the class of a register
    module _ (r : ℕ) (is_r : r < 17) (follows : Follows e r l.classes f.classes) where
      r_not : gone r ≡ false
      r_not = low_kept c n is_c.0 r (omega arith)

      joined : Same f.classes e r
      joined = follows.joined (λ same. not_e r r_not (sym same))

      copy_others : (a b : ℕ) → gone a ≡ false → gone b ≡ false → Same f.classes a b ↔ Same s.classes a b
      copy_others a b h k =
          let near = follows.others a b (not_e a h) (not_e b k) in
          let far = loses.classes.others a b h k in
          (λ same. far.0 (near.0 same), λ same. near.1 (far.1 same))

      copy_alone : (a : ℕ) → gone a ≡ true → a ≢ e → IsAlone f.classes a
      copy_alone a is other b same = elim (eqb_tells b e) [
        | inl is_e ↦
            let now : Same f.classes a r = subst (λ (x : ℕ). Same f.classes a x) is_e.1 same ∙ joined in
            let found : r ≡ a = loses.classes.alone a is r ((follows.others a r other (not_e r r_not)).0 now) in
            absurd (true_not_false (sym is ∙ sym (ap gone found) ∙ r_not))
        | inr apart ↦ loses.classes.alone a is b ((follows.others a b other apart.1).0 same)
      ]

      copy_named : IsNamed f.slots f.classes
      copy_named = named_entered s f gone is_s.named copy_others still_f e r
          (record {
            stays = r_not;
            joined = joined;
            there = inr (subst (λ (k : ℤ). HasKey f.slots k) (sym (key_back key at.low)) (v, puts.here));
            source = inl (inl is_r);
          })
          copy_alone

    module _ (w : List (ℤ × ℤ)) (ranges : IsRanges w) (written : (x : ℤ) → is_written w x ≡ ((is_between c (c +ℤ pos n) x && int_lt x (pos 0)) || is_written s.written x)) (size : ℕ) (key_now : slot_key f.slots c ≡ key) (size_now : slot_size f.slots c ≡ size) (division : IsDivision f.classes) where
      abbrev t : Parts
      t = record f { written = w }

      there_now : is_there t (Slot c) ≡ true
      there_now = ap (λ (k : ℤ). is_some (value_at f.slots k)) key_now ∙ ap is_some puts.here

      number_now : value_of t (Slot c) ≡ v
      number_now = ap (λ (k : ℤ). value_or_any (value_at f.slots k)) key_now ∙ ap value_or_any puts.here

      pub put_fits : (b : List ℕ) → Fits b s → IsAmong b v → Fits b t
      put_fits b fits is = record {
        registers = subst (λ (row : List Register). IsRowAmong b row) (sym (puts.registers ∙ loses.registers)) fits.registers;
        slots = among_put b fits.slots is;
      }

      module _ (is_alone : f.classes ≡ l.classes) where
        lone_stored : Stored s t c n size None v
        lone_stored = record {
          left = left_f;
          slot = size_now;
          number = number_now;
          come = λ a is. absurd (cc);
          alone = λ is there. subst (λ (k : ℤ). IsAlone f.classes (slot_number k)) (sym key_now) (lone_alone is_alone e e_gone);
          others = lone_others is_alone;
          registers = puts.registers ∙ loses.registers;
          probed = puts.probed ∙ loses.probed;
          fact = puts.fact ∙ loses.fact;
          written = written;
        }

        pub lone_form : abstract_of t ≡ store_frame (abstract_of s) c n size None v
        lone_form = stored_form s t c n size None v is_c.0 is_s are_put lone_stored

        pub lone_state : IsState t
        lone_state = stored_state s t c n size None v is_c.0 is_s are_put lone_stored ranges division (lone_named is_alone)

      module _ (r : ℕ) (is_r : r < 17) (follows : Follows e r l.classes f.classes) (is_v : v ≡ (register_at s.registers r).value) (u : Value) where
        from_register : Comes s t gone (Slot c) (Reg r)
        from_register = record {
          there = there_now ∙ sym (lt-ltb r 17 is_r);
          stays = inl (lt-ltb r 17 is_r);
          left = λ there. r_not r is_r follows;
          together = λ there. ap (λ (k : ℤ). root f.classes (slot_number k)) key_now ∙ joined r is_r follows;
        }

        copy_stored : Stored s t c n size (Some (Reg r)) u
        copy_stored = record {
          left = left_f;
          slot = size_now;
          number = number_now ∙ is_v;
          come = λ a is.
              let same : Reg r ≡ a = cc in
              subst (λ (x : Spot). Comes s t gone (Slot c) x) same from_register;
          alone = λ is there. absurd (cc);
          others = copy_others r is_r follows;
          registers = puts.registers ∙ loses.registers;
          probed = puts.probed ∙ loses.probed;
          fact = puts.fact ∙ loses.fact;
          written = written;
        }

        pub copy_form : abstract_of t ≡ store_frame (abstract_of s) c n size (Some (Reg r)) u
        copy_form = stored_form s t c n size (Some (Reg r)) u is_c.0 is_s are_put copy_stored

        pub copy_state : IsState t
        copy_state = stored_state s t c n size (Some (Reg r)) u is_c.0 is_s are_put copy_stored ranges division (copy_named r is_r follows)

  -- ---- slots of 8 and of 4 bytes

  pub wide_fits : (v : Value) → IsValue v → IsSlotAt s c n (wide_key c) v
  wide_fits v is = record {
    over = wide_is c n c ∙ over_here c n 8 some (omega arith);
    low = low_wide c is_c.0;
    high = high_wide c is_c.1;
    apart = λ o other. (λ same. odd o c same, λ same. other (one o c same));
    value = is;
    narrow = λ o same. absurd (odd o c same);
  }
    where
      low_wide : (o : ℤ) → (pos 0 -ℤ pos (2 ^ 32)) ≤ℤ o → (pos 0 -ℤ pos (2 ^ 33)) ≤ℤ wide_key o
      low_wide o low = omega (arith, ints)

      high_wide : (o : ℤ) → o ≤ℤ pos (2 ^ 32) → wide_key o ≤ℤ pos (2 ^ 33 + 1)
      high_wide o high = omega (arith, ints)

      odd : (o d : ℤ) → narrow_key o ≡ wide_key d → ⊥
      odd o d same = omega (arith, ints)

      one : (o d : ℤ) → wide_key o ≡ wide_key d → o ≡ d
      one o d same = omega (arith, ints)

  pub narrow_fits : (v : Value) → IsValue v → IsNarrow v → IsSlotAt s c n (narrow_key c) v
  narrow_fits v is narrow = record {
    over = narrow_is c n c ∙ over_here c n 4 some (omega arith);
    low = low_narrow c is_c.0;
    high = high_narrow c is_c.1;
    apart = λ o other. (λ same. other (one o c same), λ same. odd o c same);
    value = is;
    narrow = λ o same. narrow;
  }
    where
      low_narrow : (o : ℤ) → (pos 0 -ℤ pos (2 ^ 32)) ≤ℤ o → (pos 0 -ℤ pos (2 ^ 33)) ≤ℤ narrow_key o
      low_narrow o low = omega (arith, ints)

      high_narrow : (o : ℤ) → o ≤ℤ pos (2 ^ 32) → narrow_key o ≤ℤ pos (2 ^ 33 + 1)
      high_narrow o high = omega (arith, ints)

      odd : (o d : ℤ) → wide_key o ≡ narrow_key d → ⊥
      odd o d same = omega (arith, ints)

      one : (o d : ℤ) → narrow_key o ≡ narrow_key d → o ≡ d
      one o d same = omega (arith, ints)
