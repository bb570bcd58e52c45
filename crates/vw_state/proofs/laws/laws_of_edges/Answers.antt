use Rattle.vw_state.proofs.laws.laws_of_edges.Goals as goal

pub returns : goal.returns
returns c = record {
  lists_rise = c.statement_lists_are_sound.ensures.rise;
  lists_keep = c.state_forms_are_kept.ensures.lists;
  ends_rise = c.instruction_ends_are_sound.ensures.rise;
  ends_keep = c.state_forms_are_kept.ensures.ends;
  branches_rise = c.branches_are_sound.ensures.rise;
  branches_keep = c.state_forms_are_kept.ensures.edges;
  decided = c.edges_are_decided.ensures;
  calls_rise = c.calls_are_sound.ensures.rise;
  calls_keep = c.state_forms_are_kept.ensures.calls;
  probes_rise = c.calls_are_sound.ensures.probes_rise;
  probes_keep = c.state_forms_are_kept.ensures.probes;
  order = c.forms_tell_states.ensures.order;
  forms = c.states_have_forms.ensures.forms;
  built = c.states_have_forms.ensures.built;
  listed = c.spelled_is_listed.ensures;
  in_form = c.lists_are_in_form.ensures;
  are = c.edges_are_post.ensures.are;
  only = c.edges_are_post.ensures.only;
}
