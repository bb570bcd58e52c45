-- The text: functions and import stubs, each begun at a multiple of 16 and padded with 0xCC (INT3).
use Rattle.std.specs.Prelude.{ℕ, ◌+◌, List, ◌∷◌, ◌++◌, length}
use Rattle.byteorder.specs.Endian.{little_bytes}
use Rattle.vw_make.specs.declared.parts.Parts.{Parts}
use Rattle.vw_make.specs.declared.parts.Func.{Func}
use Rattle.vw_make.specs.declared.parts.Target.{Target}
use Rattle.vw_make.specs.declared.parts.Target.TheVariants.{Function, Stub, Tables, Data}
use Rattle.vw_make.specs.declared.layout.Layout.{Layout}
use Rattle.vw_make.specs.Bytes.{padded, counted, numbered, with_fields, difference}
use Rattle.vw_make.specs.Layout.{function_at, stub_at, slot_at}

-- the address of a fix's target
abbrev pub target_at : List Func → Layout → Target → ℕ
target_at functions layout (Function number) = function_at functions layout number
target_at functions layout (Stub number) = stub_at layout number
target_at functions layout (Tables byte) = layout.lucet_tables + byte
target_at functions layout (Data byte) = layout.content + byte

-- the four bytes of a fix in a function at the address `at`: the target less the address behind the field,
-- as rip counts from the next instruction (Intel SDM, volume 2, "RIP-Relative Addressing")
abbrev pub fix_field : List Func → Layout → ℕ → ℕ × Target → List ℕ
fix_field functions layout at fix = little_bytes 4 (difference (target_at functions layout fix.1) (at + fix.0 + 4))

-- the code of a function at the address `at`, with its fixes written
unfoldable pub fixed_code : List Func → Layout → ℕ → Func → List ℕ
fixed_code functions layout at f = with_fields (fix_field functions layout at) 4 f.fixes f.code

-- a function in the text
abbrev pub function_text : List Func → Layout → ℕ → Func → List ℕ
function_text functions layout number f = padded 16 0xCC (fixed_code functions layout (function_at functions layout number) f)

unfoldable pub function_texts : List Func → Layout → List ℕ
function_texts functions layout = numbered (function_text functions layout) 0 functions

-- the stub of an import: `jmp [rip + disp32]` (FF /4) through its slot
abbrev pub stub : Layout → ℕ → List ℕ
stub layout number = 0xFF ∷ 0x25 ∷ little_bytes 4 (difference (slot_at layout number) (stub_at layout number + 6))

-- a stub in the text
abbrev pub stub_text : Layout → ℕ → List ℕ
stub_text layout number = padded 16 0xCC (stub layout number)

unfoldable pub stub_texts : List (List ℕ) → Layout → List ℕ
stub_texts imports layout = counted (stub_text layout) (length imports)

-- the text: the functions, then the stubs
unfoldable pub text : Parts → Layout → List ℕ
text parts layout = function_texts parts.functions layout ++ stub_texts parts.imports layout
