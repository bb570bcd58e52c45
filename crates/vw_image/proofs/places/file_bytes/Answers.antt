use Rattle.std.proofs.Common.{◌≤◌, ◌^◌, length, take, drop, Some, option_map, option_copied, sym, ap, ◌∙◌, arith}
use Rattle.vw_bits.proofs.BoundLemmas.{AreBounded-widen, file_offset-inside}
use Rattle.vw_image.proofs.places.file_bytes.Goals as goal

pub file_offset-requires : goal.file_offset-requires
file_offset-requires c =
    let small : length c.args.bytes.now ≤ 2 ^ 64 = omega arith in
    AreBounded-widen (length c.args.bytes.now) (2 ^ 64) c.args.segments.now small c.requires

pub returns-in_err-offset : goal.returns-in_err-offset
returns-in_err-offset c = ap option_copied c.from_residual.ensures ∙ ap (option_map (λ at. take c.args.size (drop at c.args.bytes.now))) c.in_err-offset.ensures

pub bytes_at-requires : goal.bytes_at-requires
bytes_at-requires c = file_offset-inside _ _ _ _ _ c.requires (sym c.in_ok-offset.ensures)

pub returns : goal.returns
returns c = ap Some c.bytes_at.ensures ∙ ap (option_map (λ at. take c.args.size (drop at c.args.bytes.now))) c.in_ok-offset.ensures
