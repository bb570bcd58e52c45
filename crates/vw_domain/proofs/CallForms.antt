-- A call returned: the state stays one, and its abstract form is that of the definition.
use Rattle.std.proofs.Common.{◌≡◌, ◌≢◌, ℕ, ◌<◌, ◌≤◌, ◌⊎◌, List, refl, sym, ap, subst, ◌∙◌, arith, Some, None, inl, inr, Bool, true, false, is_some}
use Rattle.std.proofs.Math.Path.{fun_ext}
use Rattle.std.proofs.lemmas.Int.{ints}
use Rattle.std.proofs.lemmas.Bool.{ltb-true, eqb-true}
use Rattle.std.proofs.lemmas.Bool.Decides.{eqb_tells}
use Rattle.std.specs.Prelude.{ℤ, ◌≤ℤ◌, Option, ◌||◌, ◌&&◌, ◌==◌, not, nat_lt, if◌then◌else◌}
use Rattle.std.specs.Option.{option_map}
use Rattle.vw_lattice.specs.Entries.{value_at}
use Rattle.vw_locals.specs.Ranges.{is_written, is_between}
use Rattle.vw_names.specs.declared.spot.Spot.{Spot}
use Rattle.vw_names.specs.declared.spot.Spot.TheVariants.{Reg, Flags, Slot}
use Rattle.vw_names.specs.Division.{root, IsAlone, Leaves}
use Rattle.vw_names.specs.Spot.{slot_number}
use Rattle.vw_stack.specs.declared.offset.Offset.{Offset}
use Rattle.vw_stack.specs.declared.offset.Offset.TheVariants as offset
use Rattle.vw_values.specs.declared.value.Value.{Value}
use Rattle.vw_values.specs.declared.value.Value.TheVariants.{Any, Num}
use Rattle.vw_domain.specs.declared.gone.Gone.{Gone}
use Rattle.vw_domain.specs.declared.parts.Parts.{Parts}
use Rattle.vw_domain.specs.declared.registers.Register.{Register}
use Rattle.vw_domain.specs.Registers.{register_at}
use Rattle.vw_domain.specs.State.{AreSlots, IsState, key_of, wide_key, narrow_key, plain_register}
use Rattle.vw_domain.specs.Abstract.{abstract_of, slot_key, slot_size, value_of, value_or_any, is_there, class_number}
use Rattle.vw_domain.specs.Changes.{forget, value_from, stays_over, call, call_from, call_fresh, is_pushed}
use Rattle.vw_domain.specs.Stores.{LeavesAll, called_register, is_left, lowest_key, key_limit, Calls}
use Rattle.vw_domain.specs.Writes.{is_gone, forgotten_register}
use Rattle.vw_domain.proofs.Lowers.{true_not_false}
use Rattle.vw_domain.proofs.SameLemmas.{moved_same, not_true}
use Rattle.vw_domain.proofs.ForgetLemmas.{mapped_some, mapped_or, slot_above, slots_left}
use Rattle.vw_domain.proofs.WriteLemmas.{form_same, key_back, some_has, no_some}
use Rattle.vw_domain.proofs.LossLemmas.{none_or_some}
use Rattle.vw_domain.proofs.LeaveLemmas.{true_or_false, leave_both, between_low}
use Rattle.vw_domain.proofs.StorePuts.{kept_some}
use Rattle.vw_domain.proofs.GroupLemmas.{Comes, regroup_moves}
use Rattle.vw_domain.proofs.CallLemmas.{over_key, under_key, under_wide, not_between, is_in}

leave_one : (e : ℕ) (old new : List (ℕ × ℕ)) → Leaves e old new → LeavesAll (λ a. a == e) old new
leave_one e old new leaves = record {
  alone = λ a h. subst (λ (x : ℕ). IsAlone new x) (sym (eqb-true a e h)) leaves.alone;
  others = λ a b h k. leaves.others a b (other a h) (other b k);
}
  where
    other : (a : ℕ) → (a == e) ≡ false → a ≢ e
    other a h = elim (eqb_tells a e) [
      | inl is ↦ absurd (true_not_false (sym is.0 ∙ h))
      | inr not ↦ not.1
    ]

mapped_none : (f : Value → Value) (b : Bool) (x : Option Value) → (b ≡ true) ⊎ (x ≡ None) → option_map f (if b then None else x) ≡ None
mapped_none f true x h = refl
mapped_none f false x (inl h) = absurd (true_not_false (sym h))
mapped_none f false x (inr h) = ap (option_map f) h

size_tells : (slots : List (ℤ × Value)) (o : ℤ) → not (slot_size slots o == 0) ≡ is_some (value_at slots (slot_key slots o))
size_tells slots o =
    let size : Option Value → Option Value → Bool = λ x y. not ((if is_some x then 4 else (if is_some y then 8 else 0)) == 0) in
    let there : Option Value → Bool = λ x. is_some (value_at slots (if is_some x then narrow_key o else wide_key o)) in
    elim (none_or_some (value_at slots (narrow_key o))) [
      | inr has ↦ ap (λ (x : Option Value). size x (value_at slots (wide_key o))) has.1 ∙ sym (ap there has.1 ∙ ap is_some has.1)
      | inl none ↦ elim (none_or_some (value_at slots (wide_key o))) [
        | inr has ↦ ap (λ (x : Option Value). size x (value_at slots (wide_key o))) none ∙ ap (size None) has.1 ∙ sym (ap there none ∙ ap is_some has.1)
        | inl nothing ↦ ap (λ (x : Option Value). size x (value_at slots (wide_key o))) none ∙ ap (size None) nothing ∙ sym (ap there none ∙ ap is_some nothing)
      ]
    ]

three_false : (x y z : Bool) → x ≡ false → y ≡ false → z ≡ false → (x || (y || z)) ≡ false
three_false x y z a b d = ap (λ (v : Bool). v || (y || z)) a ∙ ap (λ (v : Bool). v || z) b ∙ d

second_true : (x y z : Bool) → y ≡ true → (x || (y || z)) ≡ true
second_true true y z h = refl
second_true false y z h = ap (λ (v : Bool). v || z) h

and_false : (x y : Bool) → y ≡ false → (x && y) ≡ false
and_false true y h = h
and_false false y h = refl

not_equal : (a b : ℕ) → a ≢ b → (a == b) ≡ false
not_equal a b other = not_true (a == b) (λ h. other (eqb-true a b h))

fresh_stays : (f : ℕ → Bool) (b : Bool) → forget f (if b then Num else Any) ≡ (if b then Num else Any)
fresh_stays f true = refl
fresh_stays f false = refl

low_apart : (a : ℕ) → a < 257 → lowest_key ≤ℤ key_of a → ⊥
low_apart a is from = omega (arith, ints)

module _ (s t : Parts) (c : Offset) (gone : Gone) (kept : ℕ → Bool) (is_not : (r : ℕ) → is_gone gone r ≡ not (kept r)) (is_s : IsState s) (calls : Calls c gone s t) where
  abbrev pub g : ℕ → Bool
  g = is_gone gone

  abbrev pub over : ℤ
  over = key_limit c

  abbrev pub gone_at : ℕ → Bool
  gone_at a = (a == 256) || (is_left gone a || is_between lowest_key over (key_of a))

  pub call_leaves : LeavesAll gone_at s.classes t.classes
  call_leaves =
      let same : calls.pushed.classes ≡ s.classes = ap (λ (p : Parts). p.classes) calls.push.others in
      let lost : LeavesAll (λ a. is_between lowest_key over (key_of a)) s.classes calls.left.classes =
      subst (λ (x : List (ℕ × ℕ)). LeavesAll (λ a. is_between lowest_key over (key_of a)) x calls.left.classes) same calls.loses.classes in
      leave_both (λ a. is_left gone a || is_between lowest_key over (key_of a)) (λ a. a == 256) s.classes calls.classes t.classes
      (leave_both (λ a. is_between lowest_key over (key_of a)) (is_left gone) s.classes calls.left.classes calls.classes lost calls.registers)
      (leave_one 256 calls.classes t.classes calls.flags)

  pub values_t : (key : ℤ) → value_at t.slots key ≡ option_map (forget g) (if is_between lowest_key over key then None else value_at s.slots key)
  values_t key =
      calls.slots.values key
      ∙ ap (option_map (forget g)) (calls.loses.values key ∙ ap (λ (p : Parts). if is_between lowest_key over key then None else value_at p.slots key) calls.push.others)

  -- ---- slots over rsp

  module _ (o : ℤ) (stays : stays_over c o ≡ true) where
    over_both : (b : Bool) → over ≤ℤ (if b then narrow_key o else wide_key o)
    over_both true = let low = over_key c o stays in omega (arith, ints)
    over_both false = over_key c o stays

    mapped : (key : ℤ) → over ≤ℤ key → value_at t.slots key ≡ option_map (forget g) (value_at s.slots key)
    mapped key above = values_t key ∙ ap (λ (b : Bool). option_map (forget g) (if b then None else value_at s.slots key)) (not_between lowest_key over key above)

    some_now : (key : ℤ) → over ≤ℤ key → is_some (value_at t.slots key) ≡ is_some (value_at s.slots key)
    some_now key above = ap is_some (mapped key above) ∙ mapped_some (forget g) (value_at s.slots key)

    key_now : slot_key t.slots o ≡ slot_key s.slots o
    key_now = ap (λ (b : Bool). if b then narrow_key o else wide_key o) (some_now (narrow_key o) (over_both true))

    size_now : slot_size t.slots o ≡ slot_size s.slots o
    size_now =
        ap (λ (b : Bool). if b then 4 else (if is_some (value_at t.slots (wide_key o)) then 8 else 0)) (some_now (narrow_key o) (over_both true))
        ∙ ap (λ (b : Bool). if is_some (value_at s.slots (narrow_key o)) then 4 else (if b then 8 else 0)) (some_now (wide_key o) (over_both false))

    above : over ≤ℤ slot_key s.slots o
    above = over_both (is_some (value_at s.slots (narrow_key o)))

    there_now : is_there t (Slot o) ≡ is_there s (Slot o)
    there_now = ap (λ (k : ℤ). is_some (value_at t.slots k)) key_now ∙ some_now (slot_key s.slots o) above

    value_slot : value_of t (Slot o) ≡ forget g (value_of s (Slot o))
    value_slot =
        ap (λ (k : ℤ). value_or_any (value_at t.slots k)) key_now
        ∙ ap value_or_any (mapped (slot_key s.slots o) above)
        ∙ mapped_or (forget g) (value_at s.slots (slot_key s.slots o)) refl

  -- ---- slots under it

  module _ (o : ℤ) (goes : stays_over c o ≡ false) where
    narrow_none : value_at t.slots (narrow_key o) ≡ None
    narrow_none = values_t (narrow_key o) ∙ mapped_none (forget g) (is_between lowest_key over (narrow_key o)) (value_at s.slots (narrow_key o)) (elim (none_or_some (value_at s.slots (narrow_key o))) [
      | inl none ↦ inr none
      | inr has ↦
          let within = is_s.slots.within (narrow_key o) has in
          inl (is_in lowest_key over (narrow_key o) within.0 (under_key c o goes within.1))
    ])

    wide_none : value_at t.slots (wide_key o) ≡ None
    wide_none = values_t (wide_key o) ∙ mapped_none (forget g) (is_between lowest_key over (wide_key o)) (value_at s.slots (wide_key o)) (elim (none_or_some (value_at s.slots (wide_key o))) [
      | inl none ↦ inr none
      | inr has ↦
          let within = is_s.slots.within (wide_key o) has in
          inl (is_in lowest_key over (wide_key o) within.0 (under_wide c o goes within.1))
    ])

    slot_none : value_at t.slots (slot_key t.slots o) ≡ None
    slot_none = ap (λ (x : Option Value). value_at t.slots (if is_some x then narrow_key o else wide_key o)) narrow_none ∙ wide_none

    no_size : slot_size t.slots o ≡ 0
    no_size = ap (λ (x : Option Value). if is_some x then 4 else (if is_some (value_at t.slots (wide_key o)) then 8 else 0)) narrow_none ∙ ap (λ (x : Option Value). if is_some x then 8 else 0) wide_none

  -- ---- places

  abbrev from : Spot → Option Spot
  from = call_from (abstract_of s) kept c

  from_register : (q : ℕ) (b : Bool) → kept q ≡ b → from (Reg q) ≡ (if b then Some (Reg q) else None)
  from_register q b h = ap (λ (x : Bool). if x then Some (Reg q) else None) h

  from_slot : (o : ℤ) (a b : Bool) → is_there s (Slot o) ≡ a → stays_over c o ≡ b → from (Slot o) ≡ (if a && b then Some (Slot o) else None)
  from_slot o a b there stays =
      ap (λ (x : Bool). if x && stays_over c o then Some (Slot o) else None) (size_tells s.slots o ∙ there)
      ∙ ap (λ (x : Bool). if a && x then Some (Slot o) else None) stays

  low_key : (a : ℕ) → a < 257 → is_between lowest_key over (key_of a) ≡ false
  low_key a is = not_true (is_between lowest_key over (key_of a)) (λ h. low_apart a is (between_low lowest_key over (key_of a) h))

  kept_register : (q : ℕ) → kept q ≡ true → Comes s t gone_at (Reg q) (Reg q)
  kept_register q is = record {
    there = refl;
    stays = inr refl;
    left = λ there.
        let low : q < 17 = ltb-true q 17 there in
        three_false (q == 256) (is_left gone q) (is_between lowest_key over (key_of q)) (not_equal q 256 (omega arith)) (and_false (nat_lt q 17) (is_gone gone q) (is_not q ∙ ap not is)) (low_key q (omega arith));
    together = λ there. refl;
  }

  kept_slot : (o : ℤ) → is_there s (Slot o) ≡ true → stays_over c o ≡ true → Comes s t gone_at (Slot o) (Slot o)
  kept_slot o there stays =
      let key : ℤ = slot_key s.slots o in
      let within = is_s.slots.within key (some_has (value_at s.slots key) there) in
      let high : 257 ≤ slot_number key = slot_above key within.0 in
      record {
        there = there_now o stays;
        stays = inl there;
        left = λ is. three_false (slot_number key == 256) (is_left gone (slot_number key)) (is_between lowest_key over (key_of (slot_number key)))
            (not_equal (slot_number key) 256 (omega arith))
            (ap (λ (b : Bool). b && is_gone gone (slot_number key)) (not_true (nat_lt (slot_number key) 17) (λ h. let low = ltb-true (slot_number key) 17 h in absurd (omega arith))))
            (ap (is_between lowest_key over) (key_back key within.0) ∙ not_between lowest_key over key (above o stays));
        together = λ is. ap (λ (k : ℤ). root t.classes (slot_number k)) (key_now o stays);
      }

  some_same : (p a : Spot) → from p ≡ Some p → from p ≡ Some a → p ≡ a
  some_same p a one two =
      let both : Some p ≡ Some a = sym one ∙ two in
      cc

  none_some : (p a : Spot) → from p ≡ None → from p ≡ Some a → ⊥
  none_some p a one two =
      let both : None ≡ Some a = sym one ∙ two in
      cc

  comes : (p a : Spot) → from p ≡ Some a → Comes s t gone_at p a
  comes (Reg q) a is = elim (true_or_false (kept q)) [
    | inl k ↦ subst (λ (x : Spot). Comes s t gone_at (Reg q) x) (some_same (Reg q) a (from_register q true k) is) (kept_register q k)
    | inr k ↦ absurd (none_some (Reg q) a (from_register q false k) is)
  ]
  comes Flags a is = absurd (cc)
  comes (Slot o) a is = elim (true_or_false (is_there s (Slot o))) [
    | inl there ↦ elim (true_or_false (stays_over c o)) [
      | inl stays ↦ subst (λ (x : Spot). Comes s t gone_at (Slot o) x) (some_same (Slot o) a (from_slot o true true there stays) is) (kept_slot o there stays)
      | inr goes ↦ absurd (none_some (Slot o) a (from_slot o true false there goes) is)
    ]
    | inr not_there ↦ elim (true_or_false (stays_over c o)) [
      | inl stays ↦ absurd (none_some (Slot o) a (from_slot o false true not_there stays) is)
      | inr goes ↦ absurd (none_some (Slot o) a (from_slot o false false not_there goes) is)
    ]
  ]

  alone : (p : Spot) → from p ≡ None → is_there t p ≡ true → IsAlone t.classes (class_number t p)
  alone (Reg q) is there = elim (true_or_false (kept q)) [
    | inl k ↦ absurd (none_some (Reg q) (Reg q) is (from_register q true k))
    | inr k ↦ call_leaves.alone q (second_true (q == 256) (is_left gone q) (is_between lowest_key over (key_of q))
        (ap (λ (b : Bool). b && is_gone gone q) there ∙ is_not q ∙ ap not k))
  ]
  alone Flags is there = call_leaves.alone 256 refl
  alone (Slot o) is there = elim (true_or_false (stays_over c o)) [
    | inl stays ↦ absurd (none_some (Slot o) (Slot o) is (from_slot o true true (sym (there_now o stays) ∙ there) stays))
    | inr goes ↦ absurd (true_not_false (sym there ∙ ap is_some (slot_none o goes)))
  ]

  -- ---- ranges of the slots

  pub before : (key : ℤ) (v : Value) → value_at calls.left.slots key ≡ Some v → value_at s.slots key ≡ Some v
  before key v found =
      ap (λ (p : Parts). value_at p.slots key) (sym calls.push.others)
      ∙ kept_some (is_between lowest_key over key) (value_at calls.pushed.slots key) (value_at calls.left.slots key) v (calls.loses.values key) found

  are_left : AreSlots calls.left.slots
  are_left = record {
    ascending = calls.loses.ascending;
    within = λ key has. is_s.slots.within key (has.0, before key has.0 has.1);
    values = λ key v found. is_s.slots.values key v (before key v found);
    narrow = λ o v found. is_s.slots.narrow o v (before (narrow_key o) v found);
    apart = λ o wide narrow. is_s.slots.apart o (wide.0, before (wide_key o) wide.0 wide.1) (narrow.0, before (narrow_key o) narrow.0 narrow.1);
  }

  pub are_now : AreSlots t.slots
  are_now = slots_left gone calls.left.slots t.slots calls.slots are_left

  -- ---- the form

  abbrev after : Spot → Value
  after = (call (abstract_of s) kept c).values

  pub register_now : (q : ℕ) → register_at t.registers q ≡ called_register gone q (register_at s.registers q)
  register_now q =
      calls.row.registers q
      ∙ ap (λ (row : List Register). called_register gone q (register_at row q)) (calls.loses.registers ∙ ap (λ (p : Parts). p.registers) calls.push.others)

  called_as : (q : ℕ) (b : Bool) → kept q ≡ b → register_at t.registers q ≡ (if not b then plain_register (call_fresh (Reg q)) else forgotten_register gone (register_at s.registers q))
  called_as q b h = register_now q ∙ ap (λ (x : Bool). if x then plain_register (call_fresh (Reg q)) else forgotten_register gone (register_at s.registers q)) (is_not q ∙ ap not h)

  forget_as : (v : Value) → forget g v ≡ forget (λ r. not (kept r)) v
  forget_as v =
      let P : (ℕ → Bool) → Type 0 = λ f. forget g v ≡ forget f v in
      subst P (fun_ext is_not) refl

  value_now : (p : Spot) → value_of t p ≡ after p
  value_now (Reg q) =
      let back : Option Spot → Value = λ x. forget (λ r. not (kept r)) (value_from (value_of s) (call_fresh (Reg q)) x) in
      elim (true_or_false (kept q)) [
        | inl k ↦ ap (λ (r : Register). r.value) (called_as q true k) ∙ forget_as (register_at s.registers q).value ∙ sym (ap back (from_register q true k))
        | inr k ↦ ap (λ (r : Register). r.value) (called_as q false k) ∙ sym (fresh_stays (λ r. not (kept r)) (nat_lt q 16)) ∙ sym (ap back (from_register q false k))
      ]
  value_now Flags = refl
  value_now (Slot o) =
      let back : Option Spot → Value = λ x. forget (λ r. not (kept r)) (value_from (value_of s) Any x) in
      elim (true_or_false (stays_over c o)) [
        | inr goes ↦ elim (true_or_false (is_there s (Slot o))) [
          | inl there ↦ ap value_or_any (slot_none o goes) ∙ sym (ap back (from_slot o true false there goes))
          | inr not_there ↦ ap value_or_any (slot_none o goes) ∙ sym (ap back (from_slot o false false not_there goes))
        ]
        | inl stays ↦ elim (true_or_false (is_there s (Slot o))) [
          | inl there ↦ value_slot o stays ∙ forget_as (value_of s (Slot o)) ∙ sym (ap back (from_slot o true true there stays))
          | inr not_there ↦
              value_slot o stays
              ∙ ap (λ (x : Option Value). forget g (value_or_any x)) (no_some (value_at s.slots (slot_key s.slots o)) not_there)
              ∙ sym (ap back (from_slot o false true not_there stays))
        ]
      ]

  offset_now : (q : ℕ) → (register_at t.registers q).offset ≡ (if kept q then (register_at s.registers q).offset else offset.Unknown)
  offset_now q =
      let back : Bool → Offset = λ b. if b then (register_at s.registers q).offset else offset.Unknown in
      elim (true_or_false (kept q)) [
        | inl k ↦ ap (λ (r : Register). r.offset) (called_as q true k) ∙ sym (ap back k)
        | inr k ↦ ap (λ (r : Register). r.offset) (called_as q false k) ∙ sym (ap back k)
      ]

  size_at : (o : ℤ) → slot_size t.slots o ≡ (if stays_over c o then slot_size s.slots o else 0)
  size_at o =
      let back : Bool → ℕ = λ b. if b then slot_size s.slots o else 0 in
      elim (true_or_false (stays_over c o)) [
        | inl stays ↦ size_now o stays ∙ sym (ap back stays)
        | inr goes ↦ no_size o goes ∙ sym (ap back goes)
      ]

  pub written_now : (x : ℤ) → is_written t.written x ≡ (is_pushed c x || is_written s.written x)
  written_now x = ap (λ (w : List (ℤ × ℤ)). is_written w x) (calls.written ∙ calls.loses.written) ∙ calls.push.written x

  pub called_form : abstract_of t ≡ call (abstract_of s) kept c
  called_form = form_same (abstract_of t) (call (abstract_of s) kept c)
      offset_now value_now size_at
      (moved_same s t from (regroup_moves s t gone_at from are_now (record { comes = comes; alone = alone; others = call_leaves.others })))
      calls.fact (calls.probed ∙ calls.loses.probed ∙ ap (λ (p : Parts). p.probed) calls.push.others) written_now
