use Rattle.std.proofs.Common.{Bool, sym, subst}
use Rattle.vw_lattice.specs.Order.{TellsChange}
use Rattle.vw_domain.specs.declared.parts.Parts.{Parts}
use Rattle.vw_domain.proofs.StateJoins.{formed_slots, parts_told}
use Rattle.vw_domain.proofs.parts.join.Goals as goal

pub join_rows-requires-clause-row : goal.join_rows-requires-clause-row
join_rows-requires-clause-row c = c.requires.state.registers

pub join_rows-requires-clause-other : goal.join_rows-requires-clause-other
join_rows-requires-clause-other c = c.requires.other.registers

pub returns-clause-joins : goal.returns-clause-joins
returns-clause-joins c = record {
  registers = c.in_ok-registers.ensures.joins;
  probed = c.join_depth-probed.ensures.depth;
  written = c.in_ok-written.ensures.join c.requires.state.ranges c.requires.other.ranges;
  common = c.in_ok-written.ensures.common;
  slots = record {
    values = c.in_ok-slots.ensures.formed (formed_slots c.args.parts.now c.requires.state) (formed_slots c.args.other.now c.requires.other);
    kept = c.in_ok-slots.ensures.kept;
    is_join = c.in_ok-slots.ensures.join;
    least = c.in_ok-slots.ensures.least (formed_slots c.args.parts.now c.requires.state) (formed_slots c.args.other.now c.requires.other);
    keys = c.in_ok-slots.ensures.keys;
  };
  classes = c.in_ok-classes.ensures.join c.requires.state.classes c.requires.other.classes;
  refines = c.in_ok-classes.ensures.refines;
  fact = c.join_fact-fact.ensures.joins;
}

pub returns-clause-told : goal.returns-clause-told
returns-clause-told c =
    let new : Parts = record {
      registers = c.join_rows.new.row;
      probed = c.join_depth-probed.new.probed;
      written = c.join-3.new.self;
      slots = c.join.new.self;
      classes = c.join-2.new.self;
      fact = c.join_fact-fact.new.fact;
    } in
    subst (λ (b : Bool). TellsChange b c.args.parts.now new) (sym c.is_any.ensures)
    (parts_told c.args.parts.now new c.in_ok-registers.registers c.join_depth-probed.result c.in_ok-written.written c.in_ok-slots.slots c.in_ok-classes.classes c.join_fact-fact.result c.in_ok-registers.ensures.told c.join_depth-probed.ensures.told c.in_ok-written.ensures.changed c.in_ok-slots.ensures.changed c.in_ok-classes.ensures.changed c.join_fact-fact.ensures.told)
