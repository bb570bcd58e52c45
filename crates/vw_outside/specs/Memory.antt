-- Shelves and sinks in memory.
use Rattle.std.specs.Prelude.{ℕ, ◌+◌, ◌-◌, ◌^◌, min, Bool, List, [], drop, find, slice_get, Option, None, Some, option_map, unwrap_or}
use Rattle.std.specs.Str.{bytes_eq}
use Rattle.vw_outside.specs.declared.memory_shelf.ShelfFile.{ShelfFile}

-- one more, on a counter of 64 bits that stands still at its type's end
abbrev pub next_count : ℕ → ℕ
next_count count = min (count + 1) (2 ^ 64 - 1)

-- the bytes of the first file of a name
abbrev pub file_of : List ShelfFile → List ℕ → Option (List ℕ)
file_of files name = option_map (λ file. file.bytes) (find (λ file. bytes_eq file.name name) files)

-- the bytes of the file at an index
abbrev pub bytes_at : List ShelfFile → ℕ → List ℕ
bytes_at files at = unwrap_or (option_map (λ file. file.bytes) (slice_get files at)) []

-- the bytes left of the file at an index, of which `given` were given
abbrev pub left_of : List ShelfFile → Option ℕ → ℕ → Option (List ℕ)
left_of files file given = option_map (λ at. drop given (bytes_at files at)) file

-- A shelf in memory: its files, the numbers of the calls that fail, how many calls there were, the
-- name opened last, the bytes left of the opened file, how many bytes were given of it, whether the
-- last call failed, and how many failed.
pub record MemoryShelfState : Type 0 where
  pub files : List ShelfFile
  pub fail : List ℕ
  pub calls : ℕ
  pub opened : Option (List ℕ)
  pub left : Option (List ℕ)
  pub given : ℕ
  pub failed : Bool
  pub faults : ℕ

-- A sink in memory: the bytes taken, the numbers of the calls that fail, how many calls there were,
-- and how many failed.
pub record MemorySinkState : Type 0 where
  pub taken : List ℕ
  pub fail : List ℕ
  pub calls : ℕ
  pub faults : ℕ

-- A shelf of one file under every name: its bytes, the name opened last, the bytes left of the opened
-- file (none before an open), and how many bytes were given of it.
pub record NeverFailsState : Type 0 where
  pub bytes : List ℕ
  pub opened : Option (List ℕ)
  pub left : List ℕ
  pub given : ℕ

-- the bytes left of the one file, of which `given` were given, and none before an open
abbrev pub left_after_open : List ℕ → Option (List ℕ) → ℕ → List ℕ
left_after_open bytes None given = []
left_after_open bytes (Some name) given = drop given bytes

-- A shelf of files and standard input: whether one is open, the name opened last, how many bytes were
-- given of it, whether the last call failed, and how many failed.
pub record FileShelfState : Type 0 where
  pub is_open : Bool
  pub opened : Option (List ℕ)
  pub given : ℕ
  pub failed : Bool
  pub faults : ℕ
