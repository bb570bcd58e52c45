use Rattle.vw_state.proofs.operand.at_register.Goals as goal

pub by_base-requires-clause-fits : goal.by_base-requires-clause-fits
by_base-requires-clause-fits c =
    rw (c.register-register.ensures.offset, c.register-register.ensures.value) (c.is_state.ensures.registers.registers c.args.r).offset
