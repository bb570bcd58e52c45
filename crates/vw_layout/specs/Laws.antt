-- What the rules give of the functions and tables of a module.
use Rattle.std.specs.Prelude.{◌≡◌, ℕ, ◌*◌, ◌≤◌, List, Contains, length, true, false}
use Rattle.vw_bits.specs.Headers.{segments_of, is_readable, is_executable}
use Rattle.vw_bits.specs.Places.{in_file_part}
use Rattle.vw_bits.specs.declared.records.Segment.{Segment}
use Rattle.vw_layout.specs.declared.functions.Function.{Function}
use Rattle.vw_layout.specs.declared.tables.TableInfo.{TableInfo}

-- The function has some bytes, at most 1,048,576, and they are in the file part of a segment that is read and
-- executed.
pub record IsCode (file : List ℕ) (f : Function) : Type 0 where
  pub some : 1 ≤ f.size
  pub short : f.size ≤ 1048576
  pub segment : Segment
  pub listed : Contains (segments_of file) segment
  pub is_read : is_readable segment ≡ true
  pub is_executed : is_executable segment ≡ true
  pub inside : in_file_part f.entry f.size segment ≡ true

-- The sixteen bytes of each entry of the table are in the file part of a segment that is read and not executed.
pub record IsData (file : List ℕ) (t : TableInfo) : Type 0 where
  pub segment : Segment
  pub listed : Contains (segments_of file) segment
  pub is_read : is_readable segment ≡ true
  pub not_executed : is_executable segment ≡ false
  pub inside : in_file_part t.address (16 * length t.entries) segment ≡ true
