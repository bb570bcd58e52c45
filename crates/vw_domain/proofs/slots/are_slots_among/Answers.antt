use Rattle.std.proofs.Common.{◌≤◌, length, arith, refl}
use Rattle.std.specs.Prelude.{pos}
use Rattle.vw_values.specs.declared.value.Value.TheVariants.{Any}
use Rattle.vw_domain.proofs.SlotLemmas.{few_slots, all_among, among_step, not_among, entry_at}
use Rattle.vw_domain.proofs.slots.are_slots_among.Goals as goal

pub returns-in-None : goal.returns-in-None
returns-in-None c =
    let end : length c.args.slots.now ≤ c.loop-i.i = c.in-None.ensures.entry in
    (λ _. all_among c.args.bounds.now c.args.slots.now (λ d k h. c.loop-i.invariant.among d k (omega arith)), λ _. refl)

pub returns-then-not-fits : goal.returns-then-not-fits
returns-then-not-fits c =
    (λ never. absurd (cc), λ among. c.if-not-fits.ensures.1 (not_among c.args.bounds.now c.args.slots.now c.loop-i.i c.in-Some._key c.in-Some.value.now c.requires c.in-Some.ensures.entry among))

pub loop-i-preserved : goal.loop-i-preserved
loop-i-preserved c =
    let within = (entry_at c.args.slots.now c.loop-i.i (c.in-Some._key, c.in-Some.value.now) c.in-Some.ensures.entry).within in
    record {
      within = omega arith;
      among = λ d. among_step c.args.bounds.now c.args.slots.now c.loop-i.i c.in-Some._key c.in-Some.value.now d c.in-Some.ensures.entry (c.if-not-fits.ensures.0 refl) (c.loop-i.invariant.among d);
    }

pub returns : goal.returns
returns c =
    let few = few_slots c.args.slots.now (pos 0, Any) c.requires in
    absurd (omega arith)
