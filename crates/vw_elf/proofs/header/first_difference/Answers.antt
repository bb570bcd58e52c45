use Rattle.std.proofs.Common.{◌≡◌, ℕ, ◌+◌, ◌-◌, ◌*◌, ◌==◌, Bool, true, false, not, List, length, slice_index, refl, sym, arith}
use Rattle.std.proofs.lemmas.Bool.Decides.{nat_tests}
use Rattle.vw_bits.specs.HeaderRules.{first_difference}
use Rattle.vw_bits.proofs.Tables.{table-none, find_table_more, find_table_here}
use Rattle.vw_elf.proofs.header.first_difference.Goals as goal

abbrev differs : List ℕ → ℕ → List ℕ → ℕ → Bool
differs bytes from expected k = not (slice_index bytes k == slice_index expected (k - from))

unequal : (a b : ℕ) → (a ≡ b → ⊥) → not (a == b) ≡ true
unequal a b h = grind (arith, nat_tests)

equal : (a b : ℕ) → a ≡ b → not (a == b) ≡ false
equal a b h = grind (arith, nat_tests)

place : (from k : ℕ) → from + k ≡ from + 1 * k
place from k = omega arith

behind : (from k : ℕ) → (from + k) - from ≡ k
behind from k = omega arith

pub loop-index-init : goal.loop-index-init
loop-index-init c = rw table-none refl

pub returns-then-bytes-from : goal.returns-then-bytes-from
unfolding first_difference
returns-then-bytes-from c =
    let here : differs c.args.bytes.now c.args.from c.args.expected.now (c.args.from + c.loop-index.index) ≡ true = rw (behind c.args.from c.loop-index.index) (unequal _ _ c.if-bytes-from.true) in
    sym (find_table_here _ c.args.from 1 c.loop-index.index _ _ c.loop-index-test.true (place _ _) c.loop-index.invariant here)

pub loop-index-preserved : goal.loop-index-preserved
loop-index-preserved c =
    let here : differs c.args.bytes.now c.args.from c.args.expected.now (c.args.from + c.loop-index.index) ≡ false = rw (behind c.args.from c.loop-index.index) (equal _ _ c.if-bytes-from.false) in
    find_table_more _ c.args.from 1 c.loop-index.index _ (place _ _) c.loop-index.invariant here

pub returns : goal.returns
unfolding first_difference
returns c =
    let all : c.loop-index.index ≡ length c.args.expected.now = omega arith in
    rw (← all) (sym c.loop-index.invariant)
