-- How often a state can still rise.
use Rattle.std.proofs.Common.{◌≡◌, ℕ, ◌+◌, ◌*◌, ◌≤◌, List, [], ◌∷◌, length, arith, ap}
use Rattle.std.proofs.lemmas.Nat.{mul-le}
use Rattle.std.proofs.Math.Nat.{add-mul, mul-add, mul_assoc}
use Rattle.std.specs.Prelude.{ℤ}
use Rattle.vw_lattice.specs.Entries.{map_rank}
use Rattle.vw_stack.specs.Stack.{offset_rank}
use Rattle.vw_stack.specs.declared.offset.Offset.{Offset}
use Rattle.vw_stack.specs.declared.offset.Offset.TheVariants.{Known, Unknown}
use Rattle.vw_values.specs.declared.value.Value.{Value}
use Rattle.vw_values.specs.Rank.{value_rank}
use Rattle.vw_values.specs.Laws.{RanksAreSmall}
use Rattle.vw_domain.specs.declared.parts.Fact.{Fact}
use Rattle.vw_domain.specs.declared.parts.Fact.TheVariants as fact
use Rattle.vw_domain.specs.declared.registers.Register.{Register}
use Rattle.vw_domain.specs.Registers.{row_rank}
use Rattle.vw_domain.specs.State.{fact_rank}
use Rattle.vw_domain.specs.Ranks.{StateRanksAreBounded, StateRanksAreSmall}

one_more : (n k : ℕ) → (1 + n) * k ≡ k + n * k
one_more n k = let e = add-mul 1 n k in omega arith

offset_small : (o : Offset) → offset_rank o ≤ 1
offset_small (Known c) = omega arith
offset_small Unknown = omega arith

fact_small : (f : Fact) → fact_rank f ≤ 1
fact_small fact.Unknown = omega arith
fact_small (fact.Compare w k) = omega arith

module _ (small : RanksAreSmall) (b : List ℕ) where
  row_small : (row : List Register) → row_rank b row ≤ length row * (length b + 9)
  row_small [] = omega arith
  row_small (r ∷ rest) =
      let more = one_more (length rest) (length b + 9) in
      let first = small b r.value in
      let offset = offset_small r.offset in
      let others = row_small rest in
      omega arith

  map_small : (slots : List (ℤ × Value)) → map_rank (value_rank b) slots ≤ length slots * (length b + 9)
  map_small [] = omega arith
  map_small (slot ∷ rest) =
      let more = one_more (length rest) (length b + 9) in
      let first = small b slot.1 in
      let others = map_small rest in
      omega arith

sum_times : (m n k : ℕ) → (m + n) * k ≡ m * k + n * k
sum_times m n k = add-mul m n k

pub ranks_bounded : RanksAreSmall → StateRanksAreBounded
ranks_bounded small b s is =
    let sum = sum_times 17 (length s.slots) (length b + 9) in
    let row = row_small small b s.registers in
    let all : length s.registers * (length b + 9) ≡ 17 * (length b + 9) = ap (λ (n : ℕ). n * (length b + 9)) is.registers.seventeen in
    let map = map_small small b s.slots in
    let fact = fact_small s.fact in
    omega arith

pub ranks_small : RanksAreSmall → StateRanksAreSmall
ranks_small small b s d n is deep size =
    let bounded = ranks_bounded small b s is in
    let some = size.some in
    let slots = size.slots in
    let written = size.written in
    let classes = size.classes in
    let times : (17 + length s.slots) * (length b + 9) ≤ (18 * n) * (length b + 9) = mul-le (17 + length s.slots) (length b + 9) (18 * n) (length b + 9) (omega arith) (omega arith) in
    let more : length b + 9 ≡ (length b + 8) + 1 = omega arith in
    let spread : (18 * n) * ((length b + 8) + 1) ≡ (18 * n) * (length b + 8) + (18 * n) * 1 = mul-add (18 * n) (length b + 8) 1 in
    let whole : (18 * n) * (length b + 9) ≡ (18 * n) * ((length b + 8) + 1) = ap (λ (x : ℕ). (18 * n) * x) more in
    let together : (18 * n) * (length b + 8) ≡ 18 * (n * (length b + 8)) = mul_assoc 18 n (length b + 8) in
    let floor : n * 8 ≤ n * (length b + 8) = mul-le n 8 n (length b + 8) (omega arith) (omega arith) in
    omega arith
