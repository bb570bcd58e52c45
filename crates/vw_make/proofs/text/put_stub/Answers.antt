use Rattle.std.proofs.Common.{◌∙◌, ◌++◌, ◌∷◌, [], ℕ, ap}
use Rattle.byteorder.specs.Endian.{little_bytes}
use Rattle.vw_make.specs.Bytes.{rounded_up}
use Rattle.vw_make.proofs.Pieces.{joined_three}
use Rattle.vw_make.proofs.text.put_stub.Goals as goal

pub returns : goal.returns
unfolding rounded_up
returns c =
    joined_three c.args.out.now.items c.put.new.out.items c.put_u32.new.out.items c.put-2.new.out.items _ _ _ c.in_ok-put.ensures c.in_ok-put_u32.ensures c.in_ok-put-2.ensures
    ∙ ap (λ (d : ℕ). c.args.out.now.items ++ (0xFF ∷ 0x25 ∷ (little_bytes 4 d ++ (0xCC ∷ 0xCC ∷ 0xCC ∷ 0xCC ∷ 0xCC ∷ 0xCC ∷ 0xCC ∷ 0xCC ∷ 0xCC ∷ 0xCC ∷ [])))) c.distance.ensures
