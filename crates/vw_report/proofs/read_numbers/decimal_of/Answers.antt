use Rattle.std.proofs.Common.{◌∙◌, sym}
use Rattle.vw_report.proofs.NumberLaws.{whole_number, same_number, none_left, number_whole}
use Rattle.vw_report.proofs.read_numbers.decimal_of.Goals as goal

pub returns-in-None-clause-all : goal.returns-in-None-clause-all
returns-in-None-clause-all c n small is = let e = sym c.in-None.ensures ∙ number_whole c.args.bytes.now n small is in absurd cc

pub returns-then-is_empty-clause-are : goal.returns-then-is_empty-clause-are
returns-then-is_empty-clause-are c = whole_number c.args.bytes.now c.in-Some.n c.in-Some.rest.now c.in-Some.ensures (sym c.if-is_empty.ensures)

pub returns-then-is_empty-clause-all : goal.returns-then-is_empty-clause-all
returns-then-is_empty-clause-all c n small is = same_number c.args.bytes.now c.in-Some.n n c.in-Some.rest.now c.in-Some.ensures small is

pub returns-else-is_empty-clause-all : goal.returns-else-is_empty-clause-all
returns-else-is_empty-clause-all c n small is = absurd (none_left c.args.bytes.now c.in-Some.n n c.in-Some.rest.now c.in-Some.ensures small is (sym c.if-is_empty.ensures))
