-- What holds of instructions that bytes spell.
use Rattle.std.proofs.Common.{◌≡◌, ℕ, zero, suc, ◌<◌, List, [], length, ap, arith}
use Rattle.vw_insn.specs.declared.instruction.Insn.{Insn}
use Rattle.vw_rows.specs.Parts.{bytes_of}
use Rattle.vw_rows.specs.Spelling.{Spells}
use Rattle.vw_rows.proofs.Lengths.{spelled_length}
use Rattle.vw_state.specs.Code.{BeginsAt}

-- no instruction is spelled by no bytes
spelled_some : {i : Insn} → Spells [] i → ⊥
spelled_some spells =
    let none : length {A = ℕ} [] ≡ length (bytes_of spells.parts) = ap length spells.spelled in
    let some = spelled_length spells.parts spells.row spells.width spells.laid in
    absurd (omega (arith, none, some.0))

pub begins_some : {code : List ℕ} {point len : ℕ} {i : Insn} → BeginsAt code point i len → 0 < len
begins_some {code} {point} {len = zero} begins = absurd (spelled_some begins.spelled)
begins_some {code} {point} {len = suc len} begins = omega arith
