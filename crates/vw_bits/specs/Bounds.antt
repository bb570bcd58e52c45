-- What the rules on headers give of the segments.
use Rattle.std.specs.Prelude.{ℕ, ◌+◌, ◌≤◌, ◌^◌, List}
use Rattle.std.specs.List.{AllByRecursion}
use Rattle.vw_bits.specs.declared.records.Segment.{Segment}

-- a segment's file part ends at or before `len` in the file and is no longer than its memory, which ends at or
-- before 2^31
pub record IsBounded (len : ℕ) (s : Segment) : Type 0 where
  pub inside : s.offset + s.filesz ≤ len
  pub part : s.filesz ≤ s.memsz
  pub below : s.vaddr + s.memsz ≤ 2 ^ 31

abbrev pub AreBounded : ℕ → List Segment → Type 0
AreBounded len segments = AllByRecursion (IsBounded len) segments
