use Rattle.std.proofs.Common.{◌∙◌, length, ap}
use Rattle.vw_make.proofs.Lengths.{length-module_bytes}
use Rattle.vw_make.proofs.Places.{file_is}
use Rattle.vw_make.proofs.write.write_module.Goals as goal

pub returns-clause-bytes : goal.returns-clause-bytes
returns-clause-bytes c = c.from_vec.ensures ∙ (c.in_ok-file.ensures ∙ file_is c.in_ok-plan.ensures.plan c.args.parts.now c.in_ok-plan.ensures.parts)

pub returns-clause-size : goal.returns-clause-size
returns-clause-size c =
    ap length (c.from_vec.ensures ∙ (c.in_ok-file.ensures ∙ file_is c.in_ok-plan.ensures.plan c.args.parts.now c.in_ok-plan.ensures.parts)) ∙ length-module_bytes c.args.parts.now
