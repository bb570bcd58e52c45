use Rattle.std.proofs.Common.{refl}
use Rattle.vw_domain.proofs.parts.do_land.Goals as goal

pub returns-then-are_slots_among : goal.returns-then-are_slots_among
returns-then-are_slots_among c =
    let rows = c.if-not-does_row_land.ensures.0 refl in
    let slots = c.if-are_slots_among.ensures.0 refl in (
      λ below.
          let rest = c.is_rest_below.ensures.0 below in (
            record { registers = rows.0; slots = slots },
            record { registers = rows.1; probed = rest.probed; written = rest.written; slots = rest.slots; classes = rest.classes; fact = rest.fact },
          ),
      λ lands.
          let all = lands.1 in
          c.is_rest_below.ensures.1 (record { probed = all.probed; written = all.written; slots = all.slots; classes = all.classes; fact = all.fact }),
    )
