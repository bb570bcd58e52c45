use Rattle.std.proofs.Common.{ℕ, ◌∙◌, List, length, refl, sym, ap, subst, arith}
use Rattle.std.specs.List.{AllPairs}
use Rattle.vw_make.specs.Bounds.{AreApart, BindFits}
use Rattle.vw_make.specs.Bytes.{zeros}
use Rattle.vw_make.proofs.FieldLemmas.{fields_step, length-with_fields, with_fields_none}
use Rattle.vw_make.proofs.Places.{item_here, small_parts}
use Rattle.vw_make.proofs.tables.put_content.Goals as goal

pub loop-bind-init : goal.loop-bind-init
loop-bind-init c =
    c.in_ok-content.ensures.items ∙ (c.as_slice.ensures ∙ sym (with_fields_none (λ (bind : ℕ × ℕ). zeros 8) 8 c.args.parts.now.content))

pub write_at-requires : goal.write_at-requires
write_at-requires c =
    let fits = item_here (λ (bind : ℕ × ℕ). BindFits c.args.parts.now bind) _ _ c.as_slice-binds.ensures c.requires.binds c.loop-bind.bind-index (0, 0) c.loop-bind-test.true in
    omega (arith, fits.inside, ap length c.loop-bind.invariant, length-with_fields (λ (bind : ℕ × ℕ). zeros 8) 8)

pub loop-bind-preserved : goal.loop-bind-preserved
loop-bind-preserved c =
    let fits = item_here (λ (bind : ℕ × ℕ). BindFits c.args.parts.now bind) _ _ c.as_slice-binds.ensures c.requires.binds c.loop-bind.bind-index (0, 0) c.loop-bind-test.true in
    fields_step (λ (bind : ℕ × ℕ). zeros 8) 8 c.as_slice-binds.result.now c.loop-bind.bind-index (0, 0) c.args.parts.now.content c.loop-bind.content.items c.write_at.new.bytes.items (zeros 8)
    c.loop-bind-test.true refl fits.inside (subst (λ (binds : List (ℕ × ℕ)). AllPairs (AreApart 8) binds) (sym c.as_slice-binds.ensures) c.requires.apart)
    c.loop-bind.invariant refl c.write_at.ensures

pub pad-requires-clause-fits : goal.pad-requires-clause-fits
pad-requires-clause-fits c =
    let small = (small_parts c.requires).content in
    omega (arith, small, ap length c.loop-bind.invariant, length-with_fields (λ (bind : ℕ × ℕ). zeros 8) 8)
