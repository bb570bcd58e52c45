use Rattle.std.proofs.Common.{subst}
use Rattle.vw_app.specs.Answer.{Judges}
use Rattle.vw_app.proofs.Answers.{verified, verified_safe, reported, code_listed, informed, refused}
use Rattle.vw_app.proofs.program.answer.Goals as goal

pub verify-requires : goal.verify-requires
verify-requires c = c.in-Ok.ensures.whole

pub returns-in-Verify-clause-answered : goal.returns-in-Verify-clause-answered
returns-in-Verify-clause-answered c = verified c.args.file c.in-Ok.module c.args.command c.verify.result c.in-Verify.is c.in-Ok.ensures.ok c.verify.ensures.judged

pub returns-in-Verify-clause-safe : goal.returns-in-Verify-clause-safe
returns-in-Verify-clause-safe c = verified_safe c.args.file c.in-Ok.module c.args.command c.verify.result c.in-Ok.ensures.ok c.verify.ensures.safe

pub report-requires : goal.report-requires
report-requires c = c.in-Ok.ensures.whole

pub returns-in-Report-clause-answered : goal.returns-in-Report-clause-answered
returns-in-Report-clause-answered c = reported c.args.file c.in-Ok.module c.args.command c.report.result c.in-Report.is c.in-Ok.ensures.ok c.report.ensures.judged

pub returns-in-Report-clause-safe : goal.returns-in-Report-clause-safe
returns-in-Report-clause-safe c = verified_safe c.args.file c.in-Ok.module c.args.command c.report.result c.in-Ok.ensures.ok c.report.ensures.safe

pub returns-in-List-clause-safe : goal.returns-in-List-clause-safe
returns-in-List-clause-safe c judges zero = absurd (subst Judges c.in-List.is judges)

pub returns-in-Ok-clause-safe : goal.returns-in-Ok-clause-safe
returns-in-Ok-clause-safe c judges zero = absurd (subst Judges c.in-Info.is judges)

pub info_text-requires : goal.info_text-requires
info_text-requires c = c.in-Ok.ensures.whole

pub listing_text-requires : goal.listing_text-requires
listing_text-requires c = c.in-Ok.ensures.whole

pub returns-in-List-clause-answered : goal.returns-in-List-clause-answered
returns-in-List-clause-answered c = code_listed c.args.file c.in-Ok.module c.args.command c.in_ok-listing_text-in-List.field-0 c.in-List.is c.in-Ok.ensures.ok c.in_ok-listing_text-in-List.ensures

pub returns-in-Ok-clause-answered : goal.returns-in-Ok-clause-answered
returns-in-Ok-clause-answered c = informed c.args.file c.in-Ok.module c.args.command c.in_ok-info_text-in-Info.field-0 c.in-Info.is c.in-Ok.ensures.ok c.in_ok-info_text-in-Info.ensures

pub returns-in-Err-Malformed-clause-answered : goal.returns-in-Err-Malformed-clause-answered
returns-in-Err-Malformed-clause-answered c =
    refused c.args.file c.args.command c.in-Err-Malformed.rule c.in-Err-Malformed.offset c.in_ok-malformed_text-in-Err-Malformed.field-0 (rw c.in-Err-Malformed.field-0-is at c.in-Err-Malformed.ensures.fault) (rw c.in-Err-Malformed.field-0-is at c.in_ok-malformed_text-in-Err-Malformed.ensures)
