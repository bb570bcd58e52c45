-- What a function of the host leaves below rsp.
use Rattle.std.proofs.Common.{◌≡◌, ℕ, ◌+◌, ◌-◌, ◌%◌, ◌<◌, ◌≤◌, Bool, true, false, if◌then◌else◌, List, length, slice_index, min, max, refl, sym, ◌∙◌, arith}
use Rattle.std.specs.Prelude.{◌&&◌, nat_le, nat_lt}
use Rattle.std.proofs.Math.Path.{fun_ext}
use Rattle.std.proofs.lemmas.Bool.{false≢true}
use Rattle.std.proofs.lemmas.Bool.Decides.{nat_tests}
use Rattle.vw_machine.specs.declared.world.World.{World}
use Rattle.vw_machine.specs.State.{Bytes, is_in_stack}
use Rattle.vw_machine.specs.Step.{is_left, host_bytes}
use Rattle.vw_machine.proofs.Lists.{and_parts, and_both}

left_within : (w : World) (rsp count from to q : ℕ) → from ≡ max (rsp - count) w.stack_low → to ≡ min rsp w.stack_high → is_left w rsp count q ≡ true → (from ≤ q) × (q < to)
left_within w rsp count from to q begins ends left =
    let one = and_parts (is_in_stack w q && nat_lt q rsp) (nat_lt (rsp - 1 - q) count) left in
    let two = and_parts (is_in_stack w q) (nat_lt q rsp) one.0 in
    let three = and_parts (nat_le w.stack_low q) (nat_le (q + 1) w.stack_high) two.0 in
    let few : nat_lt (rsp - 1 - q) count ≡ true = one.1 in
    let under : nat_lt q rsp ≡ true = two.1 in
    let low : nat_le w.stack_low q ≡ true = three.0 in
    let high : nat_le (q + 1) w.stack_high ≡ true = three.1 in
    let a : rsp - 1 - q < count = grind (arith, nat_tests) in
    let b : q < rsp = grind (arith, nat_tests) in
    let c : w.stack_low ≤ q = grind (arith, nat_tests) in
    let d : q + 1 ≤ w.stack_high = grind (arith, nat_tests) in
    (omega (arith, begins, a, b, c), omega (arith, ends, b, d))

within_left : (w : World) (rsp count from to q : ℕ) → from ≡ max (rsp - count) w.stack_low → to ≡ min rsp w.stack_high → from ≤ q → q < to → is_left w rsp count q ≡ true
within_left w rsp count from to q begins ends one two =
    let a : rsp - 1 - q < count = omega (arith, begins, ends, one, two) in
    let b : q < rsp = omega (arith, ends, two) in
    let c : w.stack_low ≤ q = omega (arith, begins, one) in
    let d : q + 1 ≤ w.stack_high = omega (arith, ends, two) in
    let few : nat_lt (rsp - 1 - q) count ≡ true = grind (arith, nat_tests) in
    let under : nat_lt q rsp ≡ true = grind (arith, nat_tests) in
    let low : nat_le w.stack_low q ≡ true = grind (arith, nat_tests) in
    let high : nat_le (q + 1) w.stack_high ≡ true = grind (arith, nat_tests) in
    and_both (is_in_stack w q && nat_lt q rsp) (nat_lt (rsp - 1 - q) count) (and_both (is_in_stack w q) (nat_lt q rsp) (and_both (nat_le w.stack_low q) (nat_le (q + 1) w.stack_high) low high) under) few

pub left_bytes : (w : World) (old new : Bytes) (rsp from to : ℕ) (below : List ℕ) → from ≡ max (rsp - length below) w.stack_low → to ≡ min rsp w.stack_high
    → ((q : ℕ) → from ≤ q → q < to → new q ≡ slice_index below (rsp - 1 - q) % 256)
    → ((q : ℕ) → (nat_le from q && nat_lt q to) ≡ false → new q ≡ old q)
    → new ≡ host_bytes w old rsp below
left_bytes w old new rsp from to below begins ends put others = fun_ext (λ q. by_test q (is_left w rsp (length below) q) refl)
  where
    outside : (q : ℕ) (b : Bool) → (nat_le from q && nat_lt q to) ≡ b → is_left w rsp (length below) q ≡ false → (nat_le from q && nat_lt q to) ≡ false
    outside q false is none = is
    outside q true is none =
        let parts = and_parts (nat_le from q) (nat_lt q to) is in
        let low : nat_le from q ≡ true = parts.0 in
        let high : nat_lt q to ≡ true = parts.1 in
        let a : from ≤ q = grind (arith, nat_tests) in
        let b : q < to = grind (arith, nat_tests) in
        absurd (false≢true (sym none ∙ within_left w rsp (length below) from to q begins ends a b))

    by_test : (q : ℕ) (b : Bool) → is_left w rsp (length below) q ≡ b → new q ≡ (if b then slice_index below (rsp - 1 - q) % 256 else old q)
    by_test q true is = let inside = left_within w rsp (length below) from to q begins ends is in put q inside.0 inside.1
    by_test q false is = others q (outside q (nat_le from q && nat_lt q to) refl is)
