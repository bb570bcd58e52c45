use Rattle.vw_sandbox.proofs.Witnesses.{returned_kept, saved_is}
use Rattle.vw_sandbox.proofs.laws.wrong_returns_are_refused.Goals as goal

pub returns-clause-rsp : goal.returns-clause-rsp
returns-clause-rsp c m w entered s after here choice stands is other keeps = other (returned_kept m w entered s after here choice stands is keeps).rsp

pub returns-clause-saved : goal.returns-clause-saved
returns-clause-saved c m w entered s after here choice stands is r among other keeps = other ((returned_kept m w entered s after here choice stands is keeps).saved r (saved_is r among))
