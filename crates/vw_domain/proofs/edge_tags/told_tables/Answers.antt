use Rattle.std.proofs.Common.{Bool, ap, ◌∙◌}
use Rattle.std.specs.Prelude.{◌||◌}
use Rattle.std.specs.List.{list_any}
use Rattle.vw_domain.specs.declared.parts.Parts.{Parts}
use Rattle.vw_domain.specs.Refines.{any_below, row_tells, slot_tells}
use Rattle.vw_domain.proofs.TagSets.{none_told}
use Rattle.vw_domain.proofs.edge_tags.told_tables.Goals as goal

pub returns : goal.returns
returns c = λ r t.
    let s : Parts = c.args.parts.now in
    c.tell_slots.ensures.told r t
    ∙ ap (λ (b : Bool). b || list_any (slot_tells s.classes r t) s.slots) (c.tell_row.ensures.told r t ∙ ap (λ (b : Bool). b || any_below (row_tells s.classes s.registers r t) 17) (none_told r t))
