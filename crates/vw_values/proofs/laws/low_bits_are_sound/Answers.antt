use Rattle.vw_values.proofs.NarrowLemmas as narrows
use Rattle.vw_values.proofs.laws.low_bits_are_sound.Goals as goal

pub returns : goal.returns
returns c = record {
  lows_valid = narrows.low-valid;
  lows_rise = narrows.lows-rise;
  lows_stand = narrows.low-stands;
  narrows_valid = narrows.narrows-valid;
  narrows_rise = narrows.narrows-rise;
  narrows_stand = narrows.narrows-stand;
}
