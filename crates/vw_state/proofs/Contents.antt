-- What is known of operands, and of words that are stored.
use Rattle.std.proofs.Common.{ℕ, ◌^◌, List, arith}
use Rattle.std.proofs.lemmas.Nat.{mod_below}
use Rattle.vw_names.specs.declared.spot.Spot.TheVariants.{Reg}
use Rattle.vw_stmt.specs.declared.operands.Operand.{Operand}
use Rattle.vw_stmt.specs.declared.operands.Operand.TheVariants as operand
use Rattle.vw_values.specs.Narrowing.{narrow32}
use Rattle.vw_values.specs.Values.{IsValue, IsAmong}
use Rattle.vw_values.specs.declared.value.Value.{Value}
use Rattle.vw_values.specs.declared.value.Value.TheVariants.{Const, Below, Low, Both}
use Rattle.vw_domain.specs.Abstract.{Abstract}
use Rattle.vw_domain.specs.FormRanges.{IsStateForm}
use Rattle.vw_domain.specs.Operands.{index_of, operand_of}
use Rattle.vw_domain.specs.State.{IsNarrow}
use Rattle.vw_domain.proofs.Statements.{word_fits}

pub operand_valid : (b : List ℕ) (st : Abstract) (o : Operand) → IsStateForm b st → IsValue (operand_of st o) × IsAmong b (operand_of st o)
operand_valid b st (operand.Var v) k = (k.form.values (Reg (index_of v)), k.form.among (Reg (index_of v)))
operand_valid b st (operand.Imm i) k = (word_fits i, tt)

-- the low half of a word is a number of four bytes
pub narrow_slot : (v : Value) → IsValue v → IsNarrow (narrow32 v)
narrow_slot (Const c) i = mod_below c (2 ^ 32) (omega arith)
narrow_slot (Below k) i = omega arith
narrow_slot (Low k) i = omega (arith, i.1)
narrow_slot (Both k) i = omega (arith, i.1)
narrow_slot v i = omega arith
