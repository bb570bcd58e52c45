use Rattle.vw_app.proofs.Selftests.{all_tested, all_sandboxed, broken}
use Rattle.vw_app.proofs.selftest.selftest.Goals as goal

pub returns-in-Ok-clause-tested : goal.returns-in-Ok-clause-tested
returns-in-Ok-clause-tested c =
    all_tested c.args.functions c.args.number c.in_ok-file.file c.in-Ok.module c.test_module.result c.in_ok-file.ensures.bytes c.in-Ok.ensures.ok c.test_module.ensures.judged

pub returns-in-Ok-clause-safe : goal.returns-in-Ok-clause-safe
returns-in-Ok-clause-safe c =
    all_sandboxed c.args.functions c.args.number c.in_ok-file.file c.in-Ok.module c.test_module.result c.in_ok-file.ensures.bytes c.in-Ok.ensures.ok c.test_module.ensures.safe

pub returns-in_ok-malformed_text-in-Err-Malformed-clause-tested : goal.returns-in_ok-malformed_text-in-Err-Malformed-clause-tested
returns-in_ok-malformed_text-in-Err-Malformed-clause-tested c =
    broken c.args.functions c.args.number c.in_ok-file.file c.in-Err-Malformed.rule c.in-Err-Malformed.offset c.in_ok-malformed_text-in-Err-Malformed.field-0 c.in_ok-file.ensures.bytes
    (rw c.in-Err-Malformed.field-0-is at c.in-Err-Malformed.ensures.fault) c.in_ok-malformed_text-in-Err-Malformed.ensures
