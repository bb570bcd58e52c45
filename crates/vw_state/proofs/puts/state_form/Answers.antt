use Rattle.vw_state.proofs.puts.state_form.Goals as goal

pub returns-clause-form : goal.returns-clause-form
returns-clause-form c = λ b fits. c.states_have_forms.ensures.forms b c.args.state.now (record { state = c.is_state.ensures; fits = fits })

pub returns-clause-more : goal.returns-clause-more
returns-clause-more c =
    let names = c.states_have_forms.ensures.bounds c.args.state.now c.is_state.ensures in
    (names.0, names.1 c.args.site.now.bounds.now c.are_bounds.ensures, c.states_have_forms.ensures.forms names.0 c.args.state.now (record { state = c.is_state.ensures; fits = names.2 }))
