use Rattle.std.proofs.Common.{◌≡◌, ◌≢◌, ℕ, ◌+◌, ◌<◌, ◌≤◌, ◌^◌, ◌==◌, true, false, List, length, drop, get_or, refl, sym, ◌∙◌, arith, rules}
use Rattle.std.proofs.lemmas.List.{at_drop_more, at_drop_all}
use Rattle.std.proofs.lemmas.Bool.Decides.{nat_tests}
use Rattle.vw_image.specs.Image.{segment_byte}
use Rattle.vw_image.specs.Stubs.{spells}
use Rattle.vw_bits.proofs.BoundLemmas.{among}
use Rattle.vw_image.proofs.stub.spells.Goals as goal

next : (f : ℕ → ℕ) (a x : ℕ) (xs : List ℕ) (i : ℕ) → i < length xs → x ≡ f a → x ≡ get_or xs i 0 → spells f (a + 1) (drop (i + 1) xs) ≡ spells f a (drop i xs)
next f a x xs i inside is same =
    let test : (f a == get_or xs i 0) ≡ true = grind (arith, nat_tests, is, same) in
    sym (at_drop_more (spells f a) xs i 0 inside ∙ rw test refl)

differs : (f : ℕ → ℕ) (a x : ℕ) (xs : List ℕ) (i : ℕ) → i < length xs → x ≡ f a → x ≢ get_or xs i 0 → false ≡ spells f a (drop i xs)
differs f a x xs i inside is other =
    let test : (f a == get_or xs i 0) ≡ false = grind (arith, nat_tests, is, other) in
    sym (at_drop_more (spells f a) xs i 0 inside ∙ rw test refl)

pub byte_at-requires-clause-behind : goal.byte_at-requires-clause-behind
byte_at-requires-clause-behind c =
    let s = c.args.segment.now in
    let held : (s.vaddr ≤ c.args.address) × (c.args.address < s.vaddr + s.memsz) × (c.args.address + length c.args.expected.now ≤ s.vaddr + s.memsz) = among s.vaddr s.memsz c.args.address (length c.args.expected.now) c.requires.held in
    let place : c.loop-byte.at ≡ c.args.address + c.loop-byte.byte-index = c.loop-byte.invariant.place in
    omega arith

pub overflow_add-at : goal.overflow_add-at
overflow_add-at c =
    let s = c.args.segment.now in
    let held : (s.vaddr ≤ c.args.address) × (c.args.address < s.vaddr + s.memsz) × (c.args.address + length c.args.expected.now ≤ s.vaddr + s.memsz) = among s.vaddr s.memsz c.args.address (length c.args.expected.now) c.requires.held in
    let below : s.vaddr + s.memsz ≤ 2 ^ 31 = c.requires.bounded.below in
    let place : c.loop-byte.at ≡ c.args.address + c.loop-byte.byte-index = c.loop-byte.invariant.place in
    let small : c.loop-byte.at + 1 ≤ 2 ^ 31 = omega arith in
    search rules

pub loop-byte-preserved : goal.loop-byte-preserved
loop-byte-preserved c =
    let f = segment_byte c.args.bytes.now c.args.segment.now in
    let place : c.loop-byte.at ≡ c.args.address + c.loop-byte.byte-index = c.loop-byte.invariant.place in
    record {
      place = omega arith;
      rest = next f c.loop-byte.at c.byte_at.result c.args.expected.now c.loop-byte.byte-index c.loop-byte-test.true c.byte_at.ensures c.if-byte_at-byte.false ∙ c.loop-byte.invariant.rest;
    }

pub returns-then-byte_at-byte : goal.returns-then-byte_at-byte
returns-then-byte_at-byte c =
    let f = segment_byte c.args.bytes.now c.args.segment.now in
    differs f c.loop-byte.at c.byte_at.result c.args.expected.now c.loop-byte.byte-index c.loop-byte-test.true c.byte_at.ensures c.if-byte_at-byte.true ∙ c.loop-byte.invariant.rest

pub returns : goal.returns
returns c =
    let f = segment_byte c.args.bytes.now c.args.segment.now in
    sym (at_drop_all (spells f c.loop-byte.at) c.args.expected.now c.loop-byte.byte-index c.loop-byte-test.false) ∙ c.loop-byte.invariant.rest
