use Rattle.vw_checks.proofs.readable.+is_range_readable.Given as goal

abbrev pub decreases-is_range_readable : goal.decreases-is_range_readable
decreases-is_range_readable l = l.count
