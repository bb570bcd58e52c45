use Rattle.std.proofs.Common.{◌≡◌, arith, refl, ◌∙◌, w64, to_z, of_z}
use Rattle.std.proofs.lemmas.Int.{ints}
use Rattle.std.specs.Prelude.{ℤ}
use Rattle.vw_domain.specs.Stores.{lowest_key, key_limit}
use Rattle.vw_domain.proofs.LeaveLemmas.{lose_range}
use Rattle.vw_domain.proofs.after_calls.call.Goals as goal

pub returns-clause-ok : goal.returns-clause-ok
returns-clause-ok c =
    let hi : ℤ = to_z w64 (of_z w64 c.key_limit.result) in
    let same : hi ≡ c.key_limit.result = omega (arith, ints) in
    record {
      pushed = c.push.new.parts;
      left = c.lose_between.new.parts;
      classes = c.leave_registers.new.classes;
      push = c.in_ok-push.ensures.ok;
      loses = lose_range lowest_key hi lowest_key (key_limit c.args.offset) c.push.new.parts c.lose_between.new.parts refl (same ∙ c.key_limit.ensures) c.lose_between.ensures;
      registers = c.leave_registers.ensures;
      flags = c.leave.ensures.leaves;
      division = c.leave.ensures.division;
      row = c.call_in_row.ensures;
      slots = c.forget_in_slots.ensures;
      probed = refl;
      written = refl;
      fact = refl;
    }
