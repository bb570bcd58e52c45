use Rattle.std.proofs.Common.{◌≡◌, ℕ, List}
use Rattle.vw_app.specs.declared.status.Status.{Status}
use Rattle.vw_app.proofs.Checks.{file_module, file_refused, file_sandboxed, never_two}
use Rattle.vw_app.proofs.check.check_file.Goals as goal

pub returns-in-Ok-clause-answered : goal.returns-in-Ok-clause-answered
returns-in-Ok-clause-answered g c =
    file_module c.args.file (g.F.Shelf.told c.args.shelf.now c.args.report.now) _ c.in-Ok.module c.check_module.result c.in-Ok.ensures.ok c.check_module.ensures.answered

pub returns-in-Ok-clause-safe : goal.returns-in-Ok-clause-safe
returns-in-Ok-clause-safe g c =
    file_sandboxed (g.F.Shelf.told c.args.shelf.now c.args.report.now) c.args.file c.in-Ok.module c.check_module.result c.in-Ok.ensures.ok c.check_module.ensures.safe

pub returns-in-Ok-clause-unread : goal.returns-in-Ok-clause-unread
returns-in-Ok-clause-unread g c = never_two (λ (reply : Status × List ℕ). g.F.Shelf.opened c.check_module.new.shelf ≡ g.F.Shelf.opened c.args.shelf.now) c.check_module.result c.check_module.ensures.no_rule

pub returns-in_ok-malformed_text-in-Err-Malformed-clause-answered : goal.returns-in_ok-malformed_text-in-Err-Malformed-clause-answered
returns-in_ok-malformed_text-in-Err-Malformed-clause-answered g c =
    file_refused c.args.file (g.F.Shelf.told c.args.shelf.now c.args.report.now) _ c.in-Err-Malformed.rule c.in-Err-Malformed.offset c.in_ok-malformed_text-in-Err-Malformed.field-0 (rw c.in-Err-Malformed.field-0-is at c.in-Err-Malformed.ensures.fault) c.in_ok-malformed_text-in-Err-Malformed.ensures
