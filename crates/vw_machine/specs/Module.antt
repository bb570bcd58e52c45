-- A module as the machine sees it: the bytes of its image, where its functions and stubs are, and its tables.
use Rattle.std.specs.Prelude.{ℕ, zero, suc, ◌+◌, ◌*◌, Bool, List, [], ◌∷◌, map, length, slice_index, Option}
use Rattle.vw_bits.specs.Places.{is_among}
use Rattle.vw_bits.specs.declared.records.Segment.{Segment}
use Rattle.vw_image.specs.Image.{image_of, image_byte}
use Rattle.vw_image.specs.Words.{readable}
use Rattle.vw_image.specs.declared.stub.Stub.{Stub}
use Rattle.vw_layout.specs.declared.functions.Function.{Function}
use Rattle.vw_layout.specs.declared.tables.TableInfo.{TableInfo}
use Rattle.vw_layout.specs.declared.layout.Module.{Module as Declared}
use Rattle.vw_layout.specs.Layout.{declared_functions, declared_tables}
use Rattle.vw_layout.specs.Calls.{is_probe, module_stub}
use Rattle.vw_machine.specs.declared.world.World.{World}
use Rattle.vw_machine.specs.World.{Range}

-- Places count from the load address.
pub record ModuleView : Type 0 where
  -- the parts of memory that its loadable segments take up
  pub image : List Range
  -- the byte at a place after relocation, in an instance
  pub byte : World → ℕ → ℕ
  -- the byte at a place is in the memory of a segment with the right to read, and no relocation binds it to an import
  pub is_readable : ℕ → Bool
  -- the declared functions
  pub functions : List Function
  -- the declared tables
  pub tables : List TableInfo
  -- the stub at a place
  pub stub : ℕ → Option Stub
  -- the import with a number is the one that probes the stack
  pub is_probe : ℕ → Bool
  -- how many functions of the host it imports
  pub imports : ℕ

-- n bytes from address a on
abbrev pub bytes_from : (ℕ → ℕ) → ℕ → ℕ → List ℕ
bytes_from bytes a zero = []
bytes_from bytes a (suc n) = bytes a ∷ bytes_from bytes (a + 1) n

-- the memory of a segment (gABI, "Program Header": p_vaddr, p_memsz)
abbrev pub segment_range : Segment → Range
segment_range s = record { from = s.vaddr; to = s.vaddr + s.memsz }

-- the byte at a place is one of the table, whose entries have sixteen bytes each
abbrev pub is_in_table : ℕ → TableInfo → Bool
is_in_table a table = is_among table.address (16 * length table.entries) a 1

-- the module that a file gives, as the crates below see it
abbrev pub declared_module : List ℕ → Declared
declared_module file = record { functions = declared_functions file; tables = declared_tables file; image = image_of file }

-- A module as the machine sees it.
abbrev pub view_of : Declared → ModuleView
view_of declared = record {
  image = map segment_range declared.image.segments;
  byte = λ w a. image_byte declared.image w.load (slice_index w.hosts) a;
  is_readable = λ a. readable declared.image a 1;
  functions = declared.functions;
  tables = declared.tables;
  stub = module_stub declared.image declared.functions;
  is_probe = is_probe declared.image.imports;
  imports = length declared.image.imports;
}

-- The module of a file, as the machine sees it.
unfoldable pub module_of : List ℕ → ModuleView
module_of file = view_of (declared_module file)
