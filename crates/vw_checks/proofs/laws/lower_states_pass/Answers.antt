use Rattle.std.proofs.Common.{arith}
use Rattle.vw_checks.proofs.Rising.{passes_rise, code_rises, first_rise}
use Rattle.vw_checks.proofs.laws.lower_states_pass.Goals as goal

pub returns-clause-passes : goal.returns-clause-passes
returns-clause-passes c =
    passes_rise c.statements_are_sound.ensures.rise c.statements_are_sound.ensures.forms c.statements_are_sound.ensures.checks c.transfer_checks_rise.ensures.transfers c.transfer_checks_rise.ensures.values
    c.states_have_forms.ensures.forms c.forms_tell_states.ensures.order c.statements_have_displacements.ensures

pub returns-clause-code : goal.returns-clause-code
returns-clause-code c = λ f at low high below passes fails. passes (code_rises f at low high 1 (omega arith) fails)

pub returns-clause-jump : goal.returns-clause-jump
returns-clause-jump c = λ f at low high bytes sites is_low is_high below passes fails.
    passes
    (first_rise c.statements_are_sound.ensures.rise c.statements_are_sound.ensures.forms c.states_have_forms.ensures.forms c.forms_tell_states.ensures.order c.statements_have_displacements.ensures f at low high bytes sites is_low is_high below 2
    (omega arith) fails)
