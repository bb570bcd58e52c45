-- What a loop of reads keeps.
use Rattle.std.proofs.Common.{◌≡◌, ℕ, ◌≤◌, Bool, false, List, length}
use Rattle.std.specs.Prelude.{Option}
use Rattle.vw_outside.specs.Shelf.{SameFiles}
use Rattle.vw_outside.specs.Reading.{SplitsInto}

-- `bytes` were read since the shelf was `old`, which was just opened
pub record ReadSoFar {S : Type 0} (told : S → List ℕ → Option (List ℕ)) (left : S → Option (List ℕ)) (given : S → ℕ) (opened : S → Option (List ℕ)) (failed : S → Bool) (faults : S → ℕ)
    (old new : S) (bytes : List ℕ) (limit : ℕ) : Type 0 where
  pub files : SameFiles (told old) (told new)
  pub named : opened new ≡ opened old
  pub count : faults old ≤ faults new
  pub passed : failed new ≡ false
  pub total : given new ≡ length bytes
  pub within : length bytes ≤ limit
  pub split : SplitsInto (left old) bytes (left new)
