use Rattle.vw_app.specs.Answer.{ReadFailed}
use Rattle.vw_app.proofs.Answers.{reply_written, reply_tested}
use Rattle.vw_app.proofs.laws.made_modules_are_answered.Goals as goal

pub returns-clause-written : goal.returns-clause-written
returns-clause-written c words told before after opened failed = reply_written words told (ReadFailed before after opened failed)

pub returns-clause-tested : goal.returns-clause-tested
returns-clause-tested c words told before after opened failed = reply_tested words told (ReadFailed before after opened failed)
