use Rattle.std.proofs.Common.{◌≡◌, ℕ, ◌+◌, ◌-◌, ◌*◌, ◌/◌, ◌%◌, ◌<◌, ◌≤◌, ◌==◌, ◌&&◌, ◌||◌, Bool, false, nat_le, nat_lt, sym, ◌∙◌, arith, zero, suc}
use Rattle.std.specs.List.{list_any}
use Rattle.std.proofs.lemmas.List.Folds.{list_any-append}
use Rattle.std.proofs.lemmas.Bool.Decides.{nat_tests}
use Rattle.vw_bits.specs.Headers.{table}
use Rattle.vw_bits.proofs.Tables.{table-none, table-more}
use Rattle.vw_dynamic.proofs.relas.begins_entry.Goals as goal

abbrev begins : ℕ → ℕ → ℕ → Bool
begins offset at n = nat_le offset at && (at - offset) % 24 == 0 && nat_lt ((at - offset) / 24) n

begins-zero : (offset at : ℕ) → false ≡ begins offset at 0
begins-zero offset at = grind (arith, nat_tests)

begins-more : (offset at n : ℕ) (before : Bool) → before ≡ begins offset at n → (before || ((offset + 24 * n == at) || false)) ≡ begins offset at (n + 1)
begins-more offset at n before is = grind (arith, nat_tests)

any-begins : (offset at n : ℕ) → list_any (λ other. other == at) (table offset 24 n) ≡ begins offset at n
any-begins offset at zero = rw table-none (begins-zero offset at)
any-begins offset at (suc n) =
    let e : suc n ≡ n + 1 = omega arith in
    rw (e, table-more, list_any-append) (begins-more offset at n _ (any-begins offset at n))

below : (offset at n : ℕ) → at < offset → false ≡ begins offset at n
below offset at n h = grind (arith, nat_tests)

whole : (offset at n : ℕ) → offset ≤ at → (at - offset) % 24 ≡ 0 → nat_lt ((at - offset) / 24) n ≡ begins offset at n
whole offset at n behind rest = grind (arith, nat_tests)

part : (offset at n : ℕ) → offset ≤ at → ((at - offset) % 24 ≡ 0 → ⊥) → ((at - offset) % 24 == 0) ≡ begins offset at n
part offset at n behind rest = grind (arith, nat_tests)

pub returns-then-at-first : goal.returns-then-at-first
returns-then-at-first c = below _ _ _ c.if-at-first.true ∙ sym (any-begins c.args.first.offset c.args.at c.args.first.count)

pub returns-then-distance-eq0 : goal.returns-then-distance-eq0
returns-then-distance-eq0 c = whole _ _ _ c.if-at-first.false c.if-distance-eq0.true ∙ sym (any-begins c.args.first.offset c.args.at c.args.first.count)

pub returns-else-distance-eq0 : goal.returns-else-distance-eq0
returns-else-distance-eq0 c = part _ _ c.args.first.count c.if-at-first.false c.if-distance-eq0.false ∙ sym (any-begins c.args.first.offset c.args.at c.args.first.count)
