use Rattle.std.proofs.Common.{subst}
use Rattle.vw_domain.specs.Abstract.{abstract_of}
use Rattle.vw_domain.specs.Addresses.{Address}
use Rattle.vw_state.specs.Context.{site_at}
use Rattle.vw_checks.specs.Accesses.{ReadFails, WriteFails, TouchFails}
use Rattle.vw_checks.specs.Checks.{IsLowestOf}
use Rattle.vw_checks.proofs.statements.failing_stmt.Goals as goal

pub returns-in-Load : goal.returns-in-Load
returns-in-Load c = λ f of is.
    let st = abstract_of c.args.state.now in
    let read = subst (λ (a : Address). IsLowestOf (ReadFails (site_at f c.args.next) st a c.in-Load.size) c.failing_read.result) (c.address.ensures f is) (c.failing_read.ensures f c.args.next is) in
    rw c.in-Load.is read

pub returns-in-Store : goal.returns-in-Store
returns-in-Store c = λ f of is.
    let st = abstract_of c.args.state.now in
    let write = subst (λ (a : Address). IsLowestOf (WriteFails st a c.in-Store.size) c.failing_write.result) (c.address-in-Store.ensures f is) c.failing_write.ensures in
    rw c.in-Store.is write

pub returns-in-Touch : goal.returns-in-Touch
returns-in-Touch c = λ f of is.
    let st = abstract_of c.args.state.now in
    let touch = subst (λ (a : Address). IsLowestOf (TouchFails (site_at f c.args.next) st c.in-Touch.write a c.in-Touch.size) c.failing_touch.result) (c.address-in-Touch.ensures f is) (c.failing_touch.ensures f c.args.next is) in
    rw c.in-Touch.is touch

pub returns-in-Flow : goal.returns-in-Flow
returns-in-Flow c = λ f of is. rw c.in-Flow.is (c.failing_flow.ensures f of is)
