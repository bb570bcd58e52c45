-- The level and the rows compute to the same.
use Rattle.std.proofs.Common.{refl}
use Rattle.vw_rows.specs.Rows.{rows}
use Rattle.vw_rows.specs.Levels.{owners, same_prefix, same_slot, rows_at, fits, is_entry, is_entry_below, is_owner, opcode_agrees, opcodes_agree_from, opcodes_agree, digits_agree, owners_agree}
use Rattle.vw_rows.proofs.levels.one_pf2.Goals as goal

pub returns : goal.returns
unfolding rows owners same_prefix same_slot rows_at fits is_entry is_entry_below is_owner opcode_agrees opcodes_agree_from opcodes_agree digits_agree owners_agree
returns c = refl
