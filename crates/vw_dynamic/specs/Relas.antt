-- Relocations with addends, and rules 23 to 25 (System V gABI, "Relocation"; x86-64 psABI, "Relocation Types").
use Rattle.std.specs.Prelude.{ℕ, ◌+◌, ◌/◌, ◌%◌, ◌^◌, Bool, false, not, ◌&&◌, ◌||◌, ◌==◌, nat_lt, List, map, Option, option_map}
use Rattle.std.specs.List.{find, list_any}
use Rattle.std.specs.Option.{option_map_or}
use Rattle.vw_bits.specs.DynamicTables.{r_offset, r_info, r_addend}
use Rattle.vw_bits.specs.Headers.{is_executable}
use Rattle.vw_bits.specs.Places.{in_memory}
use Rattle.vw_bits.specs.Rules.{with_earlier}
use Rattle.vw_bits.specs.declared.records.Segment.{Segment}
use Rattle.vw_dynamic.specs.declared.directory.Directory.{Directory}
use Rattle.vw_dynamic.specs.declared.relas.RelaEntry.{RelaEntry}
use Rattle.vw_dynamic.specs.Directory.{relocation_offsets}

-- the entry at a file offset: r_offset, r_info (ELF64_R_SYM in the high half, ELF64_R_TYPE in the low) and
-- r_addend
unfoldable pub rela_at : List ℕ → ℕ → RelaEntry
rela_at bytes at = record {
  at = at;
  place = r_offset bytes at;
  symbol = r_info bytes at / 2 ^ 32;
  kind = r_info bytes at % 2 ^ 32;
  addend = r_addend bytes at;
}

-- the relocations of the file, in order
unfoldable pub relas_of : List ℕ → List Segment → Directory → List RelaEntry
relas_of bytes segments d = map (rela_at bytes) (relocation_offsets segments d)

-- R_X86_64_NONE changes nothing
abbrev pub is_none_kind : RelaEntry → Bool
is_none_kind r = r.kind == 0

-- Rule 23: R_X86_64_NONE, 64, GLOB_DAT, JUMP_SLOT or RELATIVE.
abbrev pub is_known : RelaEntry → Bool
is_known r = r.kind == 0 || r.kind == 1 || r.kind == 6 || r.kind == 7 || r.kind == 8

-- Rule 24: its eight bytes are in the memory of a segment that is not executed.
abbrev pub is_data : Segment → ℕ → Bool
is_data s place = in_memory place 8 s && not (is_executable s)

abbrev pub is_misplaced : List Segment → RelaEntry → Bool
is_misplaced segments r = not (is_none_kind r) && not (list_any (λ s. is_data s r.place) segments)

-- Rule 25: eight bytes from each of two places share a byte.
abbrev pub share_byte : ℕ → ℕ → Bool
share_byte a b = nat_lt a (b + 8) && nat_lt b (a + 8)

-- the first relocation that shares a byte with one before it
unfoldable pub first_overlap : List RelaEntry → Option RelaEntry
first_overlap relas =
    option_map (λ p. p.1) (find (λ p. not (is_none_kind p.1) && list_any (λ e. not (is_none_kind e) && share_byte e.place p.1.place) p.0) (with_earlier relas))

abbrev pub rela_offset : Option RelaEntry → Option ℕ
rela_offset rela = option_map (λ r. r.at) rela

-- a place, if there is one, shares a byte with another
abbrev pub shares : Option ℕ → ℕ → Bool
shares other place = option_map_or (λ p. share_byte p place) other false
