use Rattle.std.proofs.Common.{ℕ, max, ◌∙◌, ap}
use Rattle.vw_machine.specs.Kept.{byte_in}
use Rattle.vw_machine.proofs.WritingLemmas.{left_bytes}
use Rattle.vw_machine.proofs.writing.leave_below.Goals as goal

pub returns-clause-ok : goal.returns-clause-ok
returns-clause-ok c =
    let w = c.args.world.now in
    left_bytes w (byte_in c.args.bytes.now) (byte_in c.put_below.new.bytes) c.args.rsp c.first_in-from.result c.min-to.result c.args.below.now
    (c.first_in-from.ensures ∙ ap (λ (x : ℕ). max x w.stack_low) c.saturating_sub.ensures)
    c.min-to.ensures
    c.put_below.ensures.put
    (λ q outside. c.put_below.ensures.others q outside ∙ c.make_room.ensures.same q)
