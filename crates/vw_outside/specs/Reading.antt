-- What the answers of reading a whole file mean.
use Rattle.std.specs.Prelude.{◌≡◌, ℕ, ◌≤◌, ◌+◌, List, ◌++◌, length, Option, Some, IfSome, Result, Ok, Err, ⊤}
use Rattle.vw_outside.specs.declared.reading.ReadError.{ReadError}
use Rattle.vw_outside.specs.declared.reading.ReadError.TheVariants.{Fault, TooLong, Memory}

-- the fact, where the answer is a fault of the shelf
abbrev pub OnFault : {T : Type 0} → Result T ReadError → Type 0 → Type 0
OnFault (Ok _) fact = ⊤
OnFault (Err Fault) fact = fact
OnFault (Err TooLong) fact = ⊤
OnFault (Err (Memory _)) fact = ⊤

-- the fact, where the answer is that the file is too long
abbrev pub OnTooLong : {T : Type 0} → Result T ReadError → Type 0 → Type 0
OnTooLong (Ok _) fact = ⊤
OnTooLong (Err Fault) fact = ⊤
OnTooLong (Err TooLong) fact = fact
OnTooLong (Err (Memory _)) fact = ⊤

-- the fact, where the answer is want of memory
abbrev pub OnMemory : {T : Type 0} → Result T ReadError → Type 0 → Type 0
OnMemory (Ok _) fact = ⊤
OnMemory (Err Fault) fact = ⊤
OnMemory (Err TooLong) fact = ⊤
OnMemory (Err (Memory _)) fact = fact

-- the fact, where the answer is anything but want of memory
abbrev pub UnlessMemory : {T : Type 0} → Result T ReadError → Type 0 → Type 0
UnlessMemory (Ok _) fact = fact
UnlessMemory (Err Fault) fact = fact
UnlessMemory (Err TooLong) fact = fact
UnlessMemory (Err (Memory _)) fact = ⊤

-- the answer is that the file is too long
abbrev pub IsTooLong : {T : Type 0} → Result T ReadError → Type 0
IsTooLong (Ok _) = ⊥
IsTooLong (Err Fault) = ⊥
IsTooLong (Err TooLong) = ⊤
IsTooLong (Err (Memory _)) = ⊥

-- Where a file's bytes are told, they are those read so far and then those left.
abbrev pub SplitsInto : Option (List ℕ) → List ℕ → Option (List ℕ) → Type 0
SplitsInto whole done left = IfSome whole (λ bytes. (rest : List ℕ) × (left ≡ Some rest) × (bytes ≡ done ++ rest))

-- A read of `count` bytes joined them to those read so far.
pub record Joined (left_old left_new : Option (List ℕ)) (old new : List ℕ) (space count : ℕ) : Type 0 where
  pub within : count ≤ space
  pub grown : length new ≡ length old + count
  pub kept : (whole : Option (List ℕ)) → SplitsInto whole old left_old → SplitsInto whole new left_new
  pub ended : (whole : Option (List ℕ)) → SplitsInto whole old left_old → count ≡ 0 → IfSome whole (λ bytes. bytes ≡ new)
