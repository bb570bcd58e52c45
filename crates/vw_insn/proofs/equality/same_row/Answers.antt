-- Of an enum without fields, `==` compares the variants.
use Rattle.std.proofs.Common.{rules, sym, ◌∙◌}
use denote.Enum.Bare.{same_true, true_same}
use Rattle.vw_insn.specs.contracts.xmm.XmmRow.{the_type}
use Rattle.vw_insn.proofs.equality.same_row.Goals as goal

pub returns : goal.returns
returns c = (λ h. same_true the_type (search rules) _ _ (sym c.eq.ensures ∙ h), λ e. c.eq.ensures ∙ true_same the_type _ _ e)
