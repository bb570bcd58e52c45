use Rattle.vw_app.proofs.Answers.{accepted_reply}
use Rattle.vw_app.proofs.laws.accepted_files_are_answered.Goals as goal

pub returns : goal.returns
returns c = accepted_reply
