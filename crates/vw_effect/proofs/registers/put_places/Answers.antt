use Rattle.std.proofs.Common.{ℕ, ap, ◌∙◌}
use Rattle.vw_insn.specs.Effect.{put_place}
use Rattle.vw_insn.specs.declared.operands.Place.TheVariants as place
use Rattle.vw_effect.proofs.registers.put_places.Goals as goal

pub returns : goal.returns
returns c =
    c.put_place-2.ensures ∙ ap (λ (f : ℕ → ℕ). put_place f c.args.w (place.Reg c.args.b) c.args.y) c.put_place.ensures
