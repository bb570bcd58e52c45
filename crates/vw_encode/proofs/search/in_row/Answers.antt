use Rattle.vw_rows.specs.declared.patterns.Prefix.TheVariants.{Plain, P66, PF2, PF3}
use Rattle.vw_rows.specs.declared.patterns.Prefixes.TheVariants as pre
use Rattle.vw_encode.proofs.Rows.{plain_only, p66_only, pf2_only, pf3_only, one_prefix, two_prefixes, both_mapped}
use Rattle.vw_encode.proofs.Firsts.{first_prefix, first_without_66, first_with_66}
use Rattle.vw_encode.proofs.search.in_row.Goals as goal

pub returns-in-Plain : goal.returns-in-Plain
returns-in-Plain c = both_mapped _ _ c.with_prefix.result (one_prefix c.args.row c.args.insn.now pre.Plain Plain c.in-Plain.is plain_only) (first_prefix c.args.row c.args.insn.now pre.Plain Plain c.in-Plain.is plain_only) c.with_prefix.ensures

pub returns-in_default : goal.returns-in_default
returns-in_default c = both_mapped _ _ c.with_prefix-in-PlainOr66-2.result (two_prefixes c.args.row c.args.insn.now c.in-PlainOr66.is c.in_default.ensures) (first_with_66 c.args.row c.args.insn.now c.in-PlainOr66.is c.in_default.ensures) c.with_prefix-in-PlainOr66-2.ensures

pub returns-in-P66 : goal.returns-in-P66
returns-in-P66 c = both_mapped _ _ c.with_prefix-in-P66.result (one_prefix c.args.row c.args.insn.now pre.P66 P66 c.in-P66.is p66_only) (first_prefix c.args.row c.args.insn.now pre.P66 P66 c.in-P66.is p66_only) c.with_prefix-in-P66.ensures

pub returns-in-PF2 : goal.returns-in-PF2
returns-in-PF2 c = both_mapped _ _ c.with_prefix-in-PF2.result (one_prefix c.args.row c.args.insn.now pre.PF2 PF2 c.in-PF2.is pf2_only) (first_prefix c.args.row c.args.insn.now pre.PF2 PF2 c.in-PF2.is pf2_only) c.with_prefix-in-PF2.ensures

pub returns-in-PF3 : goal.returns-in-PF3
returns-in-PF3 c = both_mapped _ _ c.with_prefix-in-PF3.result (one_prefix c.args.row c.args.insn.now pre.PF3 PF3 c.in-PF3.is pf3_only) (first_prefix c.args.row c.args.insn.now pre.PF3 PF3 c.in-PF3.is pf3_only) c.with_prefix-in-PF3.ensures

pub returns-in-Some : goal.returns-in-Some
returns-in-Some c = first_without_66 c.args.row c.args.insn.now c.in-PlainOr66.is c.in-Some.spelled c.in-Some.ensures
