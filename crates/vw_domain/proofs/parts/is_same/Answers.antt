use Rattle.std.proofs.Common.{◌≡◌, ap, arith, refl, rules}
use Rattle.vw_domain.specs.declared.parts.Parts.{Parts}
use Rattle.vw_domain.specs.StateOrder.{state_same}
use Rattle.vw_domain.proofs.parts.is_same.Goals as goal

pub returns-then-not-is_row_same : goal.returns-then-not-is_row_same
returns-then-not-is_row_same c = (
  λ never. absurd (cc),
  λ are. c.if-not-is_row_same.ensures.1 (ap (λ (p : Parts). p.registers) are.0, are.1.registers),
)

pub returns-then-is_same : goal.returns-then-is_same
returns-then-is_same c =
    let probed : c.args.parts.now.probed ≡ c.args.other.now.probed = omega arith in
    let fact : c.args.parts.now.fact ≡ c.args.other.now.fact = search rules in
    let rows = c.if-not-is_row_same.ensures.0 refl in
    let slots = c.if-not-are_slots_same.ensures.0 refl in (
      λ yes. (
        state_same c.args.parts.now c.args.other.now rows.0 probed (c.is_same-then-is_same.ensures.0 yes) slots.0 (c.if-is_same.ensures.0 refl) fact,
        record { registers = rows.1; slots = slots.1 },
      ),
      λ are. c.is_same-then-is_same.ensures.1 (ap (λ (p : Parts). p.written) are.0),
    )
