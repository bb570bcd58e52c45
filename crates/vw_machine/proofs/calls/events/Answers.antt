use Rattle.std.proofs.Common.{◌∙◌}
use Rattle.vw_machine.specs.Found.{here_of}
use Rattle.vw_machine.proofs.Lists.{if_ok}
use Rattle.vw_machine.proofs.calls.events.Goals as goal

pub returns : goal.returns
returns c = if_ok c.events_of.result (λ found same. (here_of c.thing_at-thing.result, c.thing_at-thing.ensures.stands, same ∙ c.deeds_of-deeds.ensures)) c.events_of.ensures
