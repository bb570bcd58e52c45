use Rattle.std.proofs.Common.{arith}
use Rattle.vw_make.proofs.Places.{plan_facts}
use Rattle.vw_make.proofs.write.file_front.Goals as goal

pub put_program_headers-requires : goal.put_program_headers-requires
put_program_headers-requires c =
    let facts = plan_facts c.requires in
    (omega (arith, facts.ordered.lucet_tables, facts.ordered.tables, facts.ordered.content, facts.ordered.dynamic), omega (arith, facts.low.dynamic))

pub put_dynamic_symbols-requires : goal.put_dynamic_symbols-requires
put_dynamic_symbols-requires c =
    let facts = plan_facts c.requires in
    rw c.as_slice-imports.ensures (omega (arith, facts.sizes.dynamic_strings, facts.ordered.relocations, facts.ordered.text, facts.low.text))
