use Rattle.vw_checks.proofs.Passing.{round_lower, round_passes}
use Rattle.vw_checks.proofs.laws.rounds_of_safe_functions_pass.Goals as goal

pub returns-clause-passes : goal.returns-clause-passes
returns-clause-passes c = λ f number pairs table bytes sites round has.
    round_passes f number pairs table has.table bytes sites round has.is_safe c.lower_states_pass.ensures.passes (round_lower f number pairs table has.table bytes sites round has.is_safe c.rounds_are_lower.ensures)

pub returns-clause-lower : goal.returns-clause-lower
returns-clause-lower c = λ f number pairs table safe bytes sites round is_safe. round_lower f number pairs table safe bytes sites round is_safe c.rounds_are_lower.ensures
