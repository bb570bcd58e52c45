use Rattle.std.proofs.Common.{sym, subst}
use Rattle.vw_make.specs.declared.parts.Parts.{Parts}
use Rattle.vw_make.specs.Bounds.{MeetsBounds}
use Rattle.vw_make.proofs.Guests.{generated_meets}
use Rattle.vw_make.proofs.generator.make.Goals as goal

pub returns-in_err-parts-clause-bounds : goal.returns-in_err-parts-clause-bounds
returns-in_err-parts-clause-bounds c = generated_meets c.args.functions c.args.number c.requires

pub write_module-requires : goal.write_module-requires
write_module-requires c = subst (λ (parts : Parts). MeetsBounds parts) (sym c.in_ok-parts.ensures) (generated_meets c.args.functions c.args.number c.requires)

pub returns-clause-bounds : goal.returns-clause-bounds
returns-clause-bounds c = generated_meets c.args.functions c.args.number c.requires
