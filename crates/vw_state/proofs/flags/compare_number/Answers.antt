use Rattle.vw_state.proofs.flags.compare_number.Goals as goal

pub returns-in_ok-compare-in-W32-clause-fits : goal.returns-in_ok-compare-in-W32-clause-fits
returns-in_ok-compare-in-W32-clause-fits c = c.in_ok-compare-in-W32.ensures.fits _

pub returns-in_ok-compare-in-W64-clause-fits : goal.returns-in_ok-compare-in-W64-clause-fits
returns-in_ok-compare-in-W64-clause-fits c = c.in_ok-compare-in-W64.ensures.fits _

pub returns-in_ok-compare-in-W32-clause-form : goal.returns-in_ok-compare-in-W32-clause-form
returns-in_ok-compare-in-W32-clause-form c = rw c.in-W32.is c.in_ok-compare-in-W32.ensures.ok

pub returns-in_ok-compare-in-W64-clause-form : goal.returns-in_ok-compare-in-W64-clause-form
returns-in_ok-compare-in-W64-clause-form c = rw c.in-W64.is c.in_ok-compare-in-W64.ensures.ok
