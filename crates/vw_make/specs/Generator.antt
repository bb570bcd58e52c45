-- The parts of a module that is generated from a number: functions of eight kinds, two imports and one table.
use Rattle.std.specs.Prelude.{ℕ, zero, suc, ◌+◌, ◌-◌, ◌*◌, ◌/◌, ◌%◌, ◌^◌, min, List, [], ◌∷◌, ◌++◌, map, slice_index_or, codes, Option, Some}
use Rattle.std.specs.Fmt.{decimal}
use Rattle.std.specs.List.{range_with_len}
use Rattle.byteorder.specs.Endian.{little_bytes}
use Rattle.vw_bits.specs.Words.{next_draw}
use Rattle.vw_make.specs.declared.kinds.Kind.{Kind}
use Rattle.vw_make.specs.declared.kinds.Kind.TheVariants.{HeapLoad, StoreLoop, Switch, Spill, HostCall, DirectCall, TableCall, ProbedFrame}
use Rattle.vw_make.specs.declared.parts.Parts.{Parts}
use Rattle.vw_make.specs.declared.parts.Func.{Func}
use Rattle.vw_make.specs.declared.parts.Target.{Target}
use Rattle.vw_make.specs.declared.parts.Target.TheVariants.{Function, Stub, Tables}

-- the number that the generator has after so many draws, which it begins with `number`
abbrev pub drawn : ℕ → ℕ → ℕ
drawn number zero = number
drawn number (suc draws) = next_draw (drawn number draws)

-- The function i takes the draw i + 1, of which the bits from 33 up are used.
abbrev pub draw_of : ℕ → ℕ → ℕ
draw_of number i = drawn number (i + 1) / 2 ^ 33

-- the kinds of functions; the function i is of the kind i modulo 8
abbrev pub kinds : List Kind
kinds = HeapLoad ∷ StoreLoop ∷ Switch ∷ Spill ∷ HostCall ∷ DirectCall ∷ TableCall ∷ ProbedFrame ∷ []

abbrev pub kind_of : ℕ → Kind
kind_of i = slice_index_or kinds (i % 8) HeapLoad

-- The code of a function of each kind, where its draw is r. The fields under its fixes are 0 here.
abbrev pub code_of : Kind → ℕ → List ℕ
-- mov esi, esi; mov eax, [rdi+rsi+d32] with d32 = r modulo 65,536; ret
code_of HeapLoad r = (0x89 ∷ 0xF6 ∷ 0x8B ∷ 0x84 ∷ 0x37 ∷ []) ++ little_bytes 4 (r % 65536) ++ (0xC3 ∷ [])
-- xor eax, eax; next: mov ecx, eax; mov [rdi+rcx], esi; add eax, 4; cmp eax, i32; jb next; ret
-- with i32 = 4 (1 + r modulo 1,024)
code_of StoreLoop r =
    (0x31 ∷ 0xC0 ∷ 0x89 ∷ 0xC1 ∷ 0x89 ∷ 0x34 ∷ 0x0F ∷ 0x83 ∷ 0xC0 ∷ 0x04 ∷ 0x3D ∷ []) ++ little_bytes 4 (4 * (1 + r % 1024)) ++ (0x72 ∷ 0xF1 ∷ 0xC3 ∷ [])
-- cmp esi, 3; jae third; mov eax, esi; lea rcx, [rip+offsets]; movsxd rax, [rcx+4*rax]; add rax, rcx; jmp rax;
-- first: ret; second: ret; third: ret; offsets: the 32-bit numbers first - offsets, second - offsets, third - offsets
code_of Switch r =
    0x83 ∷ 0xFE ∷ 0x03 ∷ 0x73 ∷ 0x14 ∷ 0x89 ∷ 0xF0 ∷ 0x48 ∷ 0x8D ∷ 0x0D ∷ 0x0C ∷ 0x00 ∷ 0x00 ∷ 0x00 ∷ 0x48 ∷ 0x63 ∷ 0x04 ∷ 0x81
    ∷ 0x48 ∷ 0x01 ∷ 0xC8 ∷ 0xFF ∷ 0xE0 ∷ 0xC3 ∷ 0xC3 ∷ 0xC3 ∷ 0xFD ∷ 0xFF ∷ 0xFF ∷ 0xFF ∷ 0xFE ∷ 0xFF ∷ 0xFF ∷ 0xFF ∷ 0xFF ∷ 0xFF ∷ 0xFF ∷ 0xFF ∷ []
-- push rbp; mov rbp, rsp; sub rsp, 16; mov [rbp-8], rdi; mov eax, [rdi]; mov rdi, [rbp-8]; mov [rdi+4], eax; leave; ret
code_of Spill r =
    0x55 ∷ 0x48 ∷ 0x89 ∷ 0xE5 ∷ 0x48 ∷ 0x83 ∷ 0xEC ∷ 0x10 ∷ 0x48 ∷ 0x89 ∷ 0x7D ∷ 0xF8 ∷ 0x8B ∷ 0x07 ∷ 0x48 ∷ 0x8B ∷ 0x7D ∷ 0xF8
    ∷ 0x89 ∷ 0x47 ∷ 0x04 ∷ 0xC9 ∷ 0xC3 ∷ []
-- push rbx; mov rbx, rdi; call rel32; mov eax, [rbx]; pop rbx; ret
code_of HostCall r = 0x53 ∷ 0x48 ∷ 0x89 ∷ 0xFB ∷ 0xE8 ∷ 0 ∷ 0 ∷ 0 ∷ 0 ∷ 0x8B ∷ 0x03 ∷ 0x5B ∷ 0xC3 ∷ []
-- sub rsp, 8; call rel32; add rsp, 8; ret
code_of DirectCall r = 0x48 ∷ 0x83 ∷ 0xEC ∷ 0x08 ∷ 0xE8 ∷ 0 ∷ 0 ∷ 0 ∷ 0 ∷ 0x48 ∷ 0x83 ∷ 0xC4 ∷ 0x08 ∷ 0xC3 ∷ []
-- mov rcx, [rip+disp32]; mov eax, esi; cmp rax, rcx; jae trap; shl rax, 4; mov rcx, [rip+disp32]; add rax, rcx;
-- mov rdx, [rax]; cmp rdx, 5; jne trap; call [rax+8]; ret; trap: ud2
code_of TableCall r =
    0x48 ∷ 0x8B ∷ 0x0D ∷ 0 ∷ 0 ∷ 0 ∷ 0 ∷ 0x89 ∷ 0xF0 ∷ 0x48 ∷ 0x39 ∷ 0xC8 ∷ 0x73 ∷ 0x1B ∷ 0x48 ∷ 0xC1 ∷ 0xE0 ∷ 0x04
    ∷ 0x48 ∷ 0x8B ∷ 0x0D ∷ 0 ∷ 0 ∷ 0 ∷ 0 ∷ 0x48 ∷ 0x01 ∷ 0xC8 ∷ 0x48 ∷ 0x8B ∷ 0x10 ∷ 0x48 ∷ 0x83 ∷ 0xFA ∷ 0x05 ∷ 0x75 ∷ 0x04
    ∷ 0xFF ∷ 0x50 ∷ 0x08 ∷ 0xC3 ∷ 0x0F ∷ 0x0B ∷ []
-- mov eax, 131072; call rel32; sub rsp, 131072; mov [rsp], rax; add rsp, 131072; ret
code_of ProbedFrame r =
    0xB8 ∷ 0x00 ∷ 0x00 ∷ 0x02 ∷ 0x00 ∷ 0xE8 ∷ 0 ∷ 0 ∷ 0 ∷ 0 ∷ 0x48 ∷ 0x81 ∷ 0xEC ∷ 0x00 ∷ 0x00 ∷ 0x02 ∷ 0x00
    ∷ 0x48 ∷ 0x89 ∷ 0x04 ∷ 0x24 ∷ 0x48 ∷ 0x81 ∷ 0xC4 ∷ 0x00 ∷ 0x00 ∷ 0x02 ∷ 0x00 ∷ 0xC3 ∷ []

-- The fixes of the function i, of each kind. A host call calls the import 1, a probed frame the import 0, a direct call the
-- function five before it; a table call reads the length and the address in the first pair of `lucet_tables`.
abbrev pub fixes_of : Kind → ℕ → List (ℕ × Target)
fixes_of HeapLoad i = []
fixes_of StoreLoop i = []
fixes_of Switch i = []
fixes_of Spill i = []
fixes_of HostCall i = (5, Stub 1) ∷ []
fixes_of DirectCall i = (5, Function (i - 5)) ∷ []
fixes_of TableCall i = (3, Tables 8) ∷ (21, Tables 0) ∷ []
fixes_of ProbedFrame i = (6, Stub 0) ∷ []

-- the function i, whose draw is r: `guest_func_` and i in decimal
abbrev pub guest : ℕ → ℕ → Func
guest i r = record { name = codes "guest_func_" ++ decimal i; code = code_of (kind_of i) r; fixes = fixes_of (kind_of i) i }

-- the function i of the module
abbrev pub guest_of : ℕ → ℕ → Func
guest_of number i = guest i (draw_of number i)

-- the table: its entry j is the function j, with the tag j modulo 8, for the first 1,024 functions
abbrev pub table_of : ℕ → List (ℕ × Option ℕ)
table_of functions = map (λ j. (j % 8, Some j)) (range_with_len 0 (min functions 1024))

-- the parts of the module with so many functions
unfoldable pub generated_parts : ℕ → ℕ → Parts
generated_parts functions number = record {
  functions = map (guest_of number) (range_with_len 0 functions);
  imports = codes "lucet_probestack" ∷ codes "host_call" ∷ [];
  tables = table_of functions ∷ [];
  content = [];
  binds = [];
}
