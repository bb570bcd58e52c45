use Rattle.vw_domain.proofs.EntryState
use Rattle.vw_domain.proofs.laws.entry_is_state.Goals as goal

pub returns : goal.returns
returns c = EntryState.entry_is_state
