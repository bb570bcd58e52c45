use Rattle.vw_domain.specs.Abstract.{abstract_of}
use Rattle.vw_domain.specs.Calls.{after_call}
use Rattle.vw_state.proofs.flow_edges.append_after_call.Goals as goal

pub returns-clause-ok : goal.returns-clause-ok
returns-clause-ok c = c.append.ensures.ok (after_call (abstract_of c.args.state)) c.in_ok-call.ensures.ok
