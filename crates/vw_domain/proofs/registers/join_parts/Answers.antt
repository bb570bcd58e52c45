use Rattle.vw_domain.specs.RegisterOrder.{register_join}
use Rattle.vw_domain.proofs.registers.join_parts.Goals as goal

pub returns : goal.returns
returns c = register_join c.args.bounds.now c.args.register c.args.other.now _ c.requires.register c.requires.other (c.in_ok-_offset.ensures.join tt tt) (c.in_ok-_value.ensures.ranges c.requires.register.value c.requires.other.value)
