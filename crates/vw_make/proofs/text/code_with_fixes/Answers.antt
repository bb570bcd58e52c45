use Rattle.std.proofs.Common.{ℕ, ◌∙◌, ◌+◌, List, length, get_or, sym, ap, subst, arith}
use Rattle.std.specs.List.{AllPairs}
use Rattle.byteorder.specs.Endian.{little_bytes}
use Rattle.vw_make.specs.declared.parts.Target.{Target}
use Rattle.vw_make.specs.declared.parts.Target.TheVariants.{Function}
use Rattle.vw_make.specs.Bounds.{AreApart, FixFits}
use Rattle.vw_make.specs.Bytes.{difference}
use Rattle.vw_make.specs.Text.{fix_field}
use Rattle.vw_make.proofs.FieldLemmas.{fields_step, length-with_fields, with_fields_none}
use Rattle.vw_make.proofs.Places.{item_here}
use Rattle.vw_make.proofs.text.code_with_fixes.Goals as goal

pub loop-fix-init : goal.loop-fix-init
loop-fix-init c =
    c.in_ok-code.ensures.items
    ∙ (c.as_slice.ensures ∙ sym (with_fields_none (fix_field c.args.plan.now.parts.now.functions c.args.plan.now.layout c.args.at) 4 c.args.func.now.code))

pub write_at-requires : goal.write_at-requires
write_at-requires c =
    let fits = item_here (λ (fix : ℕ × Target). FixFits c.args.plan.now.parts.now c.args.func.now fix) _ _ c.as_slice-fixes.ensures c.requires.fits.fixes c.loop-fix.fix-index (0, Function 0) c.loop-fix-test.true in
    omega (arith, fits.inside, ap length c.loop-fix.invariant, ap length c.to_le_bytes-field.ensures, length-with_fields (fix_field c.args.plan.now.parts.now.functions c.args.plan.now.layout c.args.at) 4)

pub loop-fix-preserved : goal.loop-fix-preserved
loop-fix-preserved c =
    let fits = item_here (λ (fix : ℕ × Target). FixFits c.args.plan.now.parts.now c.args.func.now fix) _ _ c.as_slice-fixes.ensures c.requires.fits.fixes c.loop-fix.fix-index (0, Function 0) c.loop-fix-test.true in
    fields_step (fix_field c.args.plan.now.parts.now.functions c.args.plan.now.layout c.args.at) 4 c.as_slice-fixes.result.now c.loop-fix.fix-index (0, Function 0)
    c.args.func.now.code c.loop-fix.code.items c.write_at.new.bytes.items c.to_le_bytes-field.result c.loop-fix-test.true (ap length c.to_le_bytes-field.ensures) fits.inside
    (subst (λ (fixes : List (ℕ × Target)). AllPairs (AreApart 4) fixes) (sym c.as_slice-fixes.ensures) c.requires.fits.apart)
    c.loop-fix.invariant
    (c.to_le_bytes-field.ensures
    ∙ ap (λ (d : ℕ). little_bytes 4 d)
    (c.distance.ensures ∙ ap (λ (target : ℕ). difference target (c.args.at + (get_or c.as_slice-fixes.result.now c.loop-fix.fix-index (0, Function 0)).0 + 4)) c.target_address.ensures.value))
    c.write_at.ensures
