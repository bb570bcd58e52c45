use Rattle.std.proofs.Common.{sym, subst}
use Rattle.vw_values.proofs.JoinLemmas.{Joins, joins}
use Rattle.vw_values.proofs.order.ValueLattice.join.Goals as goal

pub returns-clause-kept : goal.returns-clause-kept
returns-clause-kept c = λ hx.
    let is = subst (λ v. Joins c.args.bounds.now c.args.self.now c.args.other.now v) (sym c.join_of-after.ensures) (joins c.args.bounds.now c.args.self.now c.args.other.now c.are_bounds.ensures) in
    is.kept hx.0

pub returns-clause-join : goal.returns-clause-join
returns-clause-join c = λ hx hy.
    let is = subst (λ v. Joins c.args.bounds.now c.args.self.now c.args.other.now v) (sym c.join_of-after.ensures) (joins c.args.bounds.now c.args.self.now c.args.other.now c.are_bounds.ensures) in
    is.least hx.0 hy.0

pub returns-clause-formed : goal.returns-clause-formed
returns-clause-formed c = λ hx hy.
    let is = subst (λ v. Joins c.args.bounds.now c.args.self.now c.args.other.now v) (sym c.join_of-after.ensures) (joins c.args.bounds.now c.args.self.now c.args.other.now c.are_bounds.ensures) in
    (is.kept hx).0

pub returns-clause-least : goal.returns-clause-least
returns-clause-least c = λ hx hy.
    let is = subst (λ v. Joins c.args.bounds.now c.args.self.now c.args.other.now v) (sym c.join_of-after.ensures) (joins c.args.bounds.now c.args.self.now c.args.other.now c.are_bounds.ensures) in
    (is.least hx hy).least

pub returns-clause-ranges : goal.returns-clause-ranges
returns-clause-ranges c = λ hx hy.
    let is = subst (λ v. Joins c.args.bounds.now c.args.self.now c.args.other.now v) (sym c.join_of-after.ensures) (joins c.args.bounds.now c.args.self.now c.args.other.now c.are_bounds.ensures) in
    is.least hx hy
