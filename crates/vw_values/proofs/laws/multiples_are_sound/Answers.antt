use Rattle.vw_values.proofs.MultipleLemmas as multiples
use Rattle.vw_values.proofs.laws.multiples_are_sound.Goals as goal

pub returns : goal.returns
returns c = record {
  scales_valid = multiples.scales-valid;
  scales_rise = multiples.scales-rise;
  scales_stand = multiples.scales-stand;
  shifts_valid = multiples.shifts-valid;
  shifts_rise = multiples.shifts-rise;
  shifts_stand = multiples.shifts-stand;
}
