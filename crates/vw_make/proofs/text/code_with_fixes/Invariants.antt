use Rattle.std.proofs.Common.{◌≡◌, take}
use Rattle.vw_make.specs.Bytes.{with_fields}
use Rattle.vw_make.specs.Text.{fix_field}
use Rattle.vw_make.proofs.text.code_with_fixes.Given as goal

abbrev pub invariant-loop-fix : goal.invariant-loop-fix
invariant-loop-fix l = l.code.items ≡ with_fields (fix_field l.plan.parts.now.functions l.plan.layout l.at) 4 (take l.fix-index l.fixes) l.fn.func.code
