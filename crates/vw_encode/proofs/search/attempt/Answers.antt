use Rattle.std.proofs.Common.{◌≡◌, take, ◌∙◌, subst}
use Rattle.vw_rows.specs.Parts.{Parts}
use Rattle.vw_rows.specs.Layout.{has_modrm}
use Rattle.vw_rows.specs.Views.{optional_view}
use Rattle.vw_encode.specs.declared.asked.Asked.{Asked}
use Rattle.vw_encode.specs.search.Asked.{operands_asked}
use Rattle.vw_encode.specs.search.Candidate.{candidate, operand_memory, modrm_byte, sib_field, modrm_candidate, optional_modrm}
use Rattle.vw_encode.proofs.Rows.{both_mapped}
use Rattle.vw_encode.proofs.Firsts.{first_at}
use Rattle.vw_encode.proofs.Excluded.{attempt_fails}
use Rattle.vw_encode.proofs.Candidates.{parts_are, built_modrm, built_candidate}
use Rattle.vw_encode.proofs.search.attempt.Goals as goal

pub returns : goal.returns
returns c =
    let row = c.args.row in
    let choice = c.args.choice in
    let a = c.args.wanted.now in
    let modrm : optional_view c.optional_modrm.result ≡ optional_modrm (has_modrm row.operands) (modrm_candidate (modrm_byte row choice a) (sib_field choice.scale (operand_memory row.operands a)) (operand_memory row.operands a)) =
    c.optional_modrm.ensures ∙ built_modrm row choice a c.has_modrm.result c.modrm_byte-byte.result c.sib_field-sib.result c.operand_memory-mem.result c.displacement_length.result c.displacement_block-disp.result c.has_modrm.ensures c.operand_memory-mem.ensures c.modrm_byte-byte.ensures c.sib_field-sib.ensures c.displacement_length.ensures c.displacement_block-disp.ensures in
    let made : Parts = parts_are choice.prefix choice.rex row.pattern.map c.opcode_byte.result (optional_view c.optional_modrm.result) (take c.immediate_length.result c.immediate_block-block.result) in
    let is : made ≡ candidate row c.args.w choice a = built_candidate row c.args.w choice a c.opcode_byte.result (optional_view c.optional_modrm.result) c.immediate_length.result c.immediate_block-block.result c.opcode_byte.ensures modrm c.immediate_length.ensures c.immediate_block-block.ensures in
    let wanted : made ≡ candidate row c.args.w choice (operands_asked c.args.insn.now) = subst (λ (x : Asked). made ≡ candidate row c.args.w choice x) c.requires.wanted is in
    both_mapped _ _ c.spelled_by.result (attempt_fails made row c.args.w c.args.insn.now choice c.requires.width wanted) (first_at made row c.args.w c.args.insn.now choice c.requires.width wanted) c.spelled_by.ensures
