use Rattle.vw_state.proofs.stores.content_of.Goals as goal

pub returns-then-size-eq8-clause-among : goal.returns-then-size-eq8-clause-among
returns-then-size-eq8-clause-among c = λ fits. c.whole_content.ensures.among _
