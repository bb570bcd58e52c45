-- What the crates below say of files, modules and their instances, gathered for the laws of this crate: each line is the
-- contract of one law below, and no reader has to believe it again.
use Rattle.std.specs.Prelude.{◌≡◌, ◌≢◌, ℕ, ◌+◌, ◌≤◌, ◌<◌, ◌^◌, ◌||◌, true, List, length, slice_index, Option, Some, None, is_some, Contains, ◌↔◌}
use Rattle.vw_bits.specs.Headers.{segments_of}
use Rattle.vw_bits.specs.HeaderRules.{header_fault}
use Rattle.vw_dynamic.specs.Dynamic.{file_imports}
use Rattle.vw_image.specs.declared.stub.Stub.{Stub}
use Rattle.vw_bits.specs.Bounds.{AreBounded}
use Rattle.vw_image.specs.Image.{Contents, IsImage, image_of, memory_byte, image_byte}
use Rattle.vw_image.specs.Laws.{IsSize, IsNumbered, Gives, image_word}
use Rattle.vw_image.specs.Stubs.{in_executable, stub_at}
use Rattle.vw_image.specs.Words.{word_at, bytes_at}
use Rattle.vw_layout.specs.declared.functions.Function.{Function}
use Rattle.vw_layout.specs.declared.tables.TableInfo.{TableInfo}
use Rattle.vw_layout.specs.declared.tables.TableEntry.{TableEntry}
use Rattle.vw_layout.specs.declared.calls.CallTarget.TheVariants as target
use Rattle.vw_layout.specs.Calls.{is_entry, is_destination, module_stub, is_probe_stub, call_target}
use Rattle.vw_layout.specs.Laws.{IsCode}
use Rattle.vw_layout.specs.Layout.{IsModule, declared_functions, declared_tables}
use Rattle.vw_layout.specs.Tables.{is_pointer}
use Rattle.vw_state.specs.Code.{code_at}
use Rattle.vw_machine.specs.declared.world.World.{World}
use Rattle.vw_machine.specs.World.{IsLaidOut}
use Rattle.vw_machine.specs.Module.{ModuleView}
use Rattle.vw_machine.specs.State.{Activation}
use Rattle.vw_machine.specs.Standing.{Here, StandsAt}

-- at most one thing stands at rip
abbrev pub StandsAlone : ModuleView → World → Type 0
StandsAlone m w =
    (rip : ℕ) (active : List Activation) (one other : Here)
    → StandsAt m w rip active one → StandsAt m w rip active other → one ≡ other

-- of files
pub record FileLaws : Type 0 where
  pub code : (file : List ℕ) (f : Function)
      → IsModule file → Contains (declared_functions file) f → IsCode file f
  pub settled : (image : Contents) → IsImage image
      → (a n : ℕ) → in_executable image.segments a n ≡ true
      → (base : ℕ) (hosts : ℕ → ℕ) (b : ℕ) → a ≤ b → b < a + n
      → image_byte image base hosts b ≡ memory_byte image.bytes image.segments b
  pub lent : (image : Contents) → IsImage image
      → (a n : ℕ) (bytes : List ℕ) → bytes_at image a n ≡ Some bytes
      → (k : ℕ) → k < n → slice_index bytes k ≡ memory_byte image.bytes image.segments (a + k)
  pub bounded : (bytes : List ℕ) → header_fault bytes ≡ None
      → AreBounded (length bytes) (segments_of bytes)
  pub sized : (file : List ℕ) (f : Function) → IsModule file → Contains (declared_functions file) f
      → length (code_at (image_of file) f.entry f.size) ≡ f.size

-- of files, words, stubs and tables
pub record ModuleLaws : Type 0 where
  pub laws : FileLaws
  pub images : (file : List ℕ) → IsModule file → IsImage (image_of file)
  pub spelled : (image : Contents) → IsImage image → (a size : ℕ) → IsSize size
      → (base : ℕ) (hosts : ℕ → ℕ) → ((number : ℕ) → hosts number < 2 ^ 64)
      → Gives base hosts (word_at image a size) (image_word image base hosts a size)
  pub numbered : (image : Contents) → IsImage image
      → (a size : ℕ) → IsNumbered (length image.imports) (word_at image a size)
  pub probe : (image : Contents) (functions : List Function) (address : ℕ)
      → (call_target image functions address ≡ Some target.Probe)
      ↔ (is_probe_stub image address ≡ true)
  pub some : (image : Contents) (functions : List Function) (address : ℕ)
      → is_some (call_target image functions address)
      ≡ (is_entry functions address || is_some (module_stub image functions address))
  pub stub : (image : Contents) (functions : List Function) (address : ℕ) (stub : Stub)
      → module_stub image functions address ≡ Some stub
      → (stub_at image address ≡ Some stub) × (is_destination functions stub.to ≡ true)
  pub pointer : (file : List ℕ) (t : TableInfo) (e : TableEntry) → IsModule file
      → Contains (declared_tables file) t → Contains t.entries e → e.tag ≢ 18446744073709551615
      → is_pointer (image_of file) (declared_functions file) e.pointer ≡ true
  pub entries : (file : List ℕ) (t : TableInfo) (e : TableEntry) → IsModule file
      → Contains (declared_tables file) t → Contains t.entries e
      → IsNumbered (length (file_imports file)) e.pointer
  pub alone : (m : ModuleView) (w : World) → IsLaidOut m.image m.imports w → StandsAlone m w
