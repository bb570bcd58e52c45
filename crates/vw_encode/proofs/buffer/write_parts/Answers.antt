use Rattle.std.proofs.Common.{[], ◌++◌, refl, append_assoc}
use Rattle.vw_rows.specs.Parts.{prefix_bytes, rex_bytes, opcode_bytes, modrm_bytes, bytes_of}
use Rattle.vw_rows.specs.Views.{parts_view}
use Rattle.vw_encode.proofs.Buffers.{pushed_onto_nothing, cut, empty}
use Rattle.vw_encode.proofs.buffer.write_parts.Goals as goal

pub returns-in_err-with_prefix : goal.returns-in_err-with_prefix
returns-in_err-with_prefix c =
    let p = parts_view c.args.parts.now in
    rw c.from_residual.ensures (cut [] (prefix_bytes p.prefix) (rex_bytes p.rex ++ (opcode_bytes p.map p.opcode ++ (modrm_bytes p.modrm ++ p.imm))) (bytes_of p) refl (c.in_err-with_prefix.ensures [] empty))

pub returns-in_err-with_rex : goal.returns-in_err-with_rex
returns-in_err-with_rex c =
    let p = parts_view c.args.parts.now in
    let one = c.in_ok-with_prefix.ensures [] empty in
    rw c.from_residual-in_err-with_rex.ensures (cut (prefix_bytes p.prefix) (rex_bytes p.rex) (opcode_bytes p.map p.opcode ++ (modrm_bytes p.modrm ++ p.imm)) (bytes_of p) (simp append_assoc) (c.in_err-with_rex.ensures _ one))

pub returns-in_err-with_opcode : goal.returns-in_err-with_opcode
returns-in_err-with_opcode c =
    let p = parts_view c.args.parts.now in
    let one = c.in_ok-with_prefix.ensures [] empty in
    let two = c.in_ok-with_rex.ensures _ one in
    rw c.from_residual-in_err-with_opcode.ensures (cut (prefix_bytes p.prefix ++ rex_bytes p.rex) (opcode_bytes p.map p.opcode) (modrm_bytes p.modrm ++ p.imm) (bytes_of p) (simp append_assoc) (c.in_err-with_opcode.ensures _ two))

pub returns-in_err-with_modrm : goal.returns-in_err-with_modrm
returns-in_err-with_modrm c =
    let p = parts_view c.args.parts.now in
    let one = c.in_ok-with_prefix.ensures [] empty in
    let two = c.in_ok-with_rex.ensures _ one in
    let three = c.in_ok-with_opcode.ensures _ two in
    rw c.from_residual-in_err-with_modrm.ensures (cut ((prefix_bytes p.prefix ++ rex_bytes p.rex) ++ opcode_bytes p.map p.opcode) (modrm_bytes p.modrm) p.imm (bytes_of p) (simp append_assoc) (c.in_err-with_modrm.ensures _ three))

pub returns : goal.returns
returns c =
    let p = parts_view c.args.parts.now in
    let one = c.in_ok-with_prefix.ensures [] empty in
    let two = c.in_ok-with_rex.ensures _ one in
    let three = c.in_ok-with_opcode.ensures _ two in
    let four = c.in_ok-with_modrm.ensures _ three in
    pushed_onto_nothing (((prefix_bytes p.prefix ++ rex_bytes p.rex) ++ opcode_bytes p.map p.opcode) ++ modrm_bytes p.modrm) p.imm (bytes_of p) c.push_all.result (simp append_assoc) (c.push_all.ensures _ four)
