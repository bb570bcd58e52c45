-- The state at a function's entry stands where the function was just entered.
use Rattle.std.proofs.Common.{◌≡◌, ℕ, zero, suc, ◌+◌, ◌%◌, ◌^◌, ◌≤◌, ◌⊎◌, inl, inr, ⊎_elim, ◌==◌, ◌&&◌, ◌||◌, Bool, true, false, refl, sym, ap, ◌∙◌, arith, lit<}
use Rattle.std.specs.Prelude.{pos, nat_lt}
use Rattle.std.proofs.lemmas.Bool.{false≢true, eqb-true}
use Rattle.std.proofs.lemmas.Bool.Decides.{nat_tests}
use Rattle.vw_names.specs.declared.spot.Spot.{Spot}
use Rattle.vw_names.specs.declared.spot.Spot.TheVariants.{Reg, Flags, Slot}
use Rattle.vw_stack.specs.declared.offset.Offset.TheVariants as offset
use Rattle.vw_values.specs.declared.value.Value.{Value}
use Rattle.vw_values.specs.declared.value.Value.TheVariants.{Any, Num, HeapBase, Entry}
use Rattle.vw_values.specs.Stands.{Stands}
use Rattle.vw_domain.specs.declared.registers.Register.{Register}
use Rattle.vw_domain.specs.Abstract.{abstract_of, value_of, is_same}
use Rattle.vw_domain.specs.Registers.{register_at, unknown_register}
use Rattle.vw_domain.specs.Stands.{Machine, StandsWith, OffsetStands, clashes, content}
use Rattle.vw_domain.specs.State.{plain_register, entry_registers, entry_state}
use Rattle.vw_machine.specs.declared.world.World.{World}
use Rattle.vw_machine.specs.Module.{ModuleView}
use Rattle.vw_machine.specs.State.{Activation}
use Rattle.vw_sandbox.specs.Assertions.{Moment, IsEntered}
use Rattle.vw_sandbox.proofs.DomainLaws.{WritesInFrame}
use Rattle.vw_sandbox.proofs.Sites.{machine_of}

-- what holds of each register's row
rows : (P : ℕ → Register → Type 0)
    → P 0 (plain_register Num)
    → P 1 (plain_register Num)
    → P 2 (plain_register Num)
    → P 3 (plain_register (Entry 3))
    → P 4 record { offset = offset.Known (pos 0); value = Any }
    → P 5 (plain_register (Entry 5))
    → P 6 (plain_register Num)
    → P 7 (plain_register HeapBase)
    → P 8 (plain_register Num)
    → P 9 (plain_register Num)
    → P 10 (plain_register Num)
    → P 11 (plain_register Num)
    → P 12 (plain_register (Entry 12))
    → P 13 (plain_register (Entry 13))
    → P 14 (plain_register (Entry 14))
    → P 15 (plain_register (Entry 15))
    → P 16 unknown_register
    → ((r : ℕ) → P r unknown_register) → (r : ℕ) → P r (register_at entry_registers r)
rows P p0 p1 p2 p3 p4 p5 p6 p7 p8 p9 p10 p11 p12 p13 p14 p15 p16 more zero = p0
rows P p0 p1 p2 p3 p4 p5 p6 p7 p8 p9 p10 p11 p12 p13 p14 p15 p16 more (suc zero) = p1
rows P p0 p1 p2 p3 p4 p5 p6 p7 p8 p9 p10 p11 p12 p13 p14 p15 p16 more (suc (suc zero)) = p2
rows P p0 p1 p2 p3 p4 p5 p6 p7 p8 p9 p10 p11 p12 p13 p14 p15 p16 more (suc (suc (suc zero))) = p3
rows P p0 p1 p2 p3 p4 p5 p6 p7 p8 p9 p10 p11 p12 p13 p14 p15 p16 more (suc (suc (suc (suc zero)))) = p4
rows P p0 p1 p2 p3 p4 p5 p6 p7 p8 p9 p10 p11 p12 p13 p14 p15 p16 more (suc (suc (suc (suc (suc zero))))) = p5
rows P p0 p1 p2 p3 p4 p5 p6 p7 p8 p9 p10 p11 p12 p13 p14 p15 p16 more (suc (suc (suc (suc (suc (suc zero)))))) = p6
rows P p0 p1 p2 p3 p4 p5 p6 p7 p8 p9 p10 p11 p12 p13 p14 p15 p16 more (suc (suc (suc (suc (suc (suc (suc zero))))))) = p7
rows P p0 p1 p2 p3 p4 p5 p6 p7 p8 p9 p10 p11 p12 p13 p14 p15 p16 more (suc (suc (suc (suc (suc (suc (suc (suc zero)))))))) = p8
rows P p0 p1 p2 p3 p4 p5 p6 p7 p8 p9 p10 p11 p12 p13 p14 p15 p16 more (suc (suc (suc (suc (suc (suc (suc (suc (suc zero))))))))) = p9
rows P p0 p1 p2 p3 p4 p5 p6 p7 p8 p9 p10 p11 p12 p13 p14 p15 p16 more (suc (suc (suc (suc (suc (suc (suc (suc (suc (suc zero)))))))))) = p10
rows P p0 p1 p2 p3 p4 p5 p6 p7 p8 p9 p10 p11 p12 p13 p14 p15 p16 more (suc (suc (suc (suc (suc (suc (suc (suc (suc (suc (suc zero))))))))))) = p11
rows P p0 p1 p2 p3 p4 p5 p6 p7 p8 p9 p10 p11 p12 p13 p14 p15 p16 more (suc (suc (suc (suc (suc (suc (suc (suc (suc (suc (suc (suc zero)))))))))))) = p12
rows P p0 p1 p2 p3 p4 p5 p6 p7 p8 p9 p10 p11 p12 p13 p14 p15 p16 more (suc (suc (suc (suc (suc (suc (suc (suc (suc (suc (suc (suc (suc zero))))))))))))) = p13
rows P p0 p1 p2 p3 p4 p5 p6 p7 p8 p9 p10 p11 p12 p13 p14 p15 p16 more (suc (suc (suc (suc (suc (suc (suc (suc (suc (suc (suc (suc (suc (suc zero)))))))))))))) = p14
rows P p0 p1 p2 p3 p4 p5 p6 p7 p8 p9 p10 p11 p12 p13 p14 p15 p16 more (suc (suc (suc (suc (suc (suc (suc (suc (suc (suc (suc (suc (suc (suc (suc zero))))))))))))))) = p15
rows P p0 p1 p2 p3 p4 p5 p6 p7 p8 p9 p10 p11 p12 p13 p14 p15 p16 more (suc (suc (suc (suc (suc (suc (suc (suc (suc (suc (suc (suc (suc (suc (suc (suc zero)))))))))))))))) = p16
rows P p0 p1 p2 p3 p4 p5 p6 p7 p8 p9 p10 p11 p12 p13 p14 p15 p16 more (suc (suc (suc (suc (suc (suc (suc (suc (suc (suc (suc (suc (suc (suc (suc (suc (suc r))))))))))))))))) = more _

no_clash : (at : Bool) (v : Value) → clashes true v ≡ false → clashes false v ≡ false → clashes at v ≡ false
no_clash true v a b = a
no_clash false v a b = b

either : (a b : Bool) → (a || b) ≡ true → (a ≡ true) ⊎ (b ≡ true)
either true b e = inl refl
either false b e = inr e

last : (a b c : Bool) → (a && (b && c)) ≡ true → c ≡ true
last true true c e = e
last true false c e = absurd (false≢true e)
last false b c e = absurd (false≢true e)

first : (a b : Bool) → (a && b) ≡ true → a ≡ true
first true b e = refl
first false b e = absurd (false≢true e)

none : (a : Bool) → (a && false) ≡ true → ⊥
none true e = false≢true e
none false e = false≢true e

pub entry_writes : WritesInFrame (abstract_of entry_state)
entry_writes o e = absurd (false≢true e)

module _ (m : ModuleView) (w : World) (ends : w.stack_high ≤ 2 ^ 47) (top : Activation) (now : Moment) (h : IsEntered m w top now) (tmp : ℕ) where
  abbrev M : Machine
  M = machine_of m w now.registers top now tmp

  abbrev Row : ℕ → Register → Type 0
  Row r row = OffsetStands top.rsp0 row.offset (M.registers r) × Stands M.instance M.registers row.value (M.registers r) × ((at : Bool) → clashes at row.value ≡ false)

  number : (r : ℕ) → Row r (plain_register Num)
  number r = (tt, tt, λ at. no_clash at Num refl refl)

  unknown : (r : ℕ) → Row r unknown_register
  unknown r = (tt, tt, λ at. no_clash at Any refl refl)

  row : (r : ℕ) → Row r (register_at entry_registers r)
  row =
      rows Row (number 0) (number 1) (number 2) (tt, refl, λ at. no_clash at (Entry 3) refl refl) (rsp, tt, λ at. no_clash at Any refl refl) (tt, refl, λ at. no_clash at (Entry 5) refl refl)
      (number 6) (tt, h.rdi, λ at. no_clash at HeapBase refl refl) (number 8) (number 9) (number 10) (number 11)
      (tt, refl, λ at. no_clash at (Entry 12) refl refl) (tt, refl, λ at. no_clash at (Entry 13) refl refl) (tt, refl, λ at. no_clash at (Entry 14) refl refl) (tt, refl, λ at. no_clash at (Entry 15) refl refl)
      (unknown 16) unknown
    where
      rsp : now.registers 4 ≡ (top.rsp0 + 0) % 2 ^ 64
      rsp = let e = h.rsp in let high = h.high in omega (arith, ends)

  value : (p : Spot) → Stands M.instance M.registers (value_of entry_state p) (content top.rsp0 (abstract_of entry_state).sizes M.registers M.byte 0 p)
  value (Reg r) = (row r).1
  value Flags = tt
  value (Slot o) = tt

  quiet : (at : Bool) (p : Spot) → clashes at (value_of entry_state p) ≡ true → ⊥
  quiet at (Reg r) e = false≢true (sym ((row r).2 at) ∙ e)
  quiet at Flags e = false≢true (sym (no_clash at Any refl refl) ∙ e)
  quiet at (Slot o) e = false≢true (sym (no_clash at Any refl refl) ∙ e)

  class : (p q : Spot) → is_same entry_state p q ≡ true → content top.rsp0 (abstract_of entry_state).sizes M.registers M.byte 0 p ≡ content top.rsp0 (abstract_of entry_state).sizes M.registers M.byte 0 q
  class (Reg a) (Reg b) e =
      ap M.registers (eqb-true a b (⊎_elim (λ (s : (a == b) ≡ true). s) (λ (s : (nat_lt a 17 && (nat_lt b 17 && (a == b))) ≡ true). last (nat_lt a 17) (nat_lt b 17) (a == b) s) (either (a == b) _ e)))
  class (Reg a) Flags e = absurd (apart a (first (nat_lt a 17) _ e) (last (nat_lt a 17) true (a == 256) e))
    where
      apart : (a : ℕ) → nat_lt a 17 ≡ true → (a == 256) ≡ true → ⊥
      apart a s t = grind (arith, nat_tests)
  class (Reg a) (Slot o) e = absurd (none (nat_lt a 17) e)
  class Flags (Reg b) e = absurd (apart b (first (nat_lt b 17) _ e) (last true (nat_lt b 17) (256 == b) e))
    where
      apart : (b : ℕ) → nat_lt b 17 ≡ true → (256 == b) ≡ true → ⊥
      apart b s t = grind (arith, nat_tests)
  class Flags Flags e = refl
  class Flags (Slot o) e = absurd (none true e)
  class (Slot o) (Reg b) e = absurd (false≢true e)
  class (Slot o) Flags e = absurd (false≢true e)
  class (Slot a) (Slot b) e = refl

  pub entry_stands : StandsWith (abstract_of entry_state) M 0
  entry_stands = record {
    start = h.low;
    end = h.high;
    depth = (let low = h.low in omega arith);
    offsets = λ r. (row r).0;
    written = λ c e. absurd (false≢true e);
    values = value;
    classes = class;
    word = lit< tt;
    fact = tt;
    kinds = record { apart = λ at p q s a b. quiet at q b; tags = λ p q g t s c. quiet g.at q c };
  }
