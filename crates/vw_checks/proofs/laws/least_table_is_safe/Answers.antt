use Rattle.vw_checks.proofs.Passing.{ends_stable}
use Rattle.vw_checks.proofs.laws.least_table_is_safe.Goals as goal

pub returns-clause-safe : goal.returns-clause-safe
returns-clause-safe c = λ f least table bytes sites is_least safe.
    let last = is_least.last in
    let none = c.rounds_of_safe_functions_pass.ensures.passes f last.number is_least.pairs least bytes sites last.round (record { table = table; is_safe = safe }) in
    c.stable_rounds_are_safe.ensures f last.number is_least.pairs least bytes sites last.round (ends_stable f is_least.pairs least none last.ends) none

pub returns-clause-lower : goal.returns-clause-lower
returns-clause-lower c = λ f least table bytes sites is_least safe. c.rounds_of_safe_functions_pass.ensures.lower f is_least.last.number is_least.pairs least table bytes sites is_least.last.round safe
