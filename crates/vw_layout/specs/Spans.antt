-- Tables by where they lie in the image, as the pairs name them.
use Rattle.std.specs.Prelude.{ℕ, ◌+◌, ◌*◌, ◌≤◌, ◌^◌, List, map, All}
use Rattle.vw_bits.specs.Headers.{table}
use Rattle.vw_image.specs.Image.{Contents}
use Rattle.vw_layout.specs.Bounds.{Rises}
use Rattle.vw_layout.specs.Tables.{table_address, table_length, table_entry_at}
use Rattle.vw_layout.specs.declared.functions.Function.{Function}
use Rattle.vw_layout.specs.declared.tables.Span.{Span}
use Rattle.vw_layout.specs.declared.tables.TableInfo.{TableInfo}

-- the table that a pair names
abbrev pub span_at : Contents → ℕ → Span
span_at image pair = record { pair = pair; start = table_address image pair; count = table_length image pair }

-- the addresses of its entries
abbrev pub entries_in : Span → List ℕ
entries_in span = table span.start 16 span.count

-- the table itself
abbrev pub table_in : Contents → Span → TableInfo
table_in image span = record { address = span.start; entries = map (table_entry_at image) (entries_in span) }

-- a table ends at or below 2^32
abbrev pub IsLow : Span → Type 0
IsLow span = span.start + 16 * span.count ≤ 2 ^ 32

abbrev pub AreLow : List Span → Type 0
AreLow spans = All IsLow spans

-- functions ascend by their entries
abbrev pub Ascend : List Function → Type 0
Ascend functions = Rises 0 (map (λ f. f.entry) functions)
