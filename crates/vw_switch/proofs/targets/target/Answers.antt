use Rattle.std.proofs.Common.{ap, ◌∙◌, arith}
use Rattle.vw_image.specs.declared.word.Word.{Word}
use Rattle.vw_switch.specs.Targets.{leads_to, target}
use Rattle.vw_switch.proofs.Far.{far_target}
use Rattle.vw_switch.proofs.targets.target.Goals as goal

pub returns-then-address : goal.returns-then-address
returns-then-address c = far_target c.args.image.now c.args.base c.args.i c.args.entry c.args.size c.bytes.ensures.whole c.segments_are_bounded.ensures (omega arith)

pub returns : goal.returns
unfolding target
returns c = c.leads_to.ensures ∙ ap (λ (w : Word). leads_to c.args.base c.args.entry c.args.size w) c.word_at.ensures.value
