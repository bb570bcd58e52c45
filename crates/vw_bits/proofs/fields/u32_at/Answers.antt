use Rattle.vw_bits.proofs.FieldLemmas.{field_at}
use Rattle.vw_bits.proofs.fields.u32_at.Goals as goal

pub returns : goal.returns
returns c = rw (← field_at c.args.bytes.now c.args.at 4, ← c.from.ensures) c.read_u32.ensures
