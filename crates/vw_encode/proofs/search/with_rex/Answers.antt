use Rattle.std.proofs.Common.{◌≡◌, sym, refl, Some}
use Rattle.vw_rows.specs.Parts.{rex_w}
use Rattle.vw_rows.specs.Layout.{width_at}
use Rattle.vw_encode.proofs.Excluded.{not_built, no_sib, one_scale, all_scales}
use Rattle.std.proofs.lemmas.Bool.{false≢true}
use Rattle.vw_encode.proofs.Firsts.{first_register, first_plain, first_scale}
use Rattle.vw_encode.proofs.search.with_rex.Goals as goal

pub returns-then-not-may_mean : goal.returns-then-not-may_mean
returns-then-not-may_mean c =
    let width : width_at c.args.row.width c.args.prefix (rex_w c.args.rex) ≡ Some c.in_ok-w.w = rw (← c.rex_w.ensures) (sym c.in_ok-w.ensures) in
    not_built c.args.row c.args.insn.now c.args.prefix c.args.rex c.in_ok-w.w width (λ h. false≢true (c.if-not-may_mean.ensures.1 (rw c.requires.wanted h)))

pub loop-scale-init : goal.loop-scale-init
loop-scale-init c = no_sib c.args.row c.args.insn.now _ refl refl c.in_default.ensures c.in_default-in_memory.ensures

pub loop-scale-preserved : goal.loop-scale-preserved
loop-scale-preserved c = one_scale c.args.row c.args.insn.now c.args.prefix c.args.rex c.loop-scale.scale c.in_default-in_memory-2.ensures c.loop-scale.invariant

pub returns : goal.returns
returns c = all_scales c.args.row c.args.insn.now c.args.prefix c.args.rex c.loop-scale.scale c.loop-scale-test.false c.loop-scale.invariant

pub returns-in-Some : goal.returns-in-Some
returns-in-Some c = first_register c.in-Some.spelled c.args.row c.args.insn.now _ refl refl c.in-Some.ensures

pub returns-in-Some-in_memory : goal.returns-in-Some-in_memory
returns-in-Some-in_memory c = first_plain c.in-Some-in_memory.spelled c.args.row c.args.insn.now _ refl refl c.in_default.ensures c.in-Some-in_memory.ensures

pub returns-in-Some-in_memory-2 : goal.returns-in-Some-in_memory-2
returns-in-Some-in_memory-2 c = first_scale c.in-Some-in_memory-2.spelled c.args.row c.args.insn.now c.args.prefix c.args.rex c.loop-scale.scale c.loop-scale.invariant c.in-Some-in_memory-2.ensures
