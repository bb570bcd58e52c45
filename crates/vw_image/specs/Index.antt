-- Relocations by their places: which one stands at an address, and which bind an import.
use Rattle.std.specs.Prelude.{◌≡◌, ℕ, Bool, true, false, ◌==◌, List, Option, option_map}
use Rattle.std.specs.List.{find, filter}
use Rattle.std.specs.BTreeMap.{BTreeMap, get}
use Rattle.std.specs.Ordering.{nat_cmp}
use Rattle.vw_dynamic.specs.declared.dynamic.Relocation.{Relocation}
use Rattle.vw_dynamic.specs.declared.dynamic.RelKind.{RelKind}
use Rattle.vw_dynamic.specs.declared.dynamic.RelKind.TheVariants.{Based, Bound}

-- what the relocation that stands exactly at an address makes of its bytes, where there is one
unfoldable pub kind_at : List Relocation → ℕ → Option RelKind
kind_at relocations a = option_map (λ r. r.kind) (find (λ r. r.place == a) relocations)

abbrev pub is_bound_kind : RelKind → Bool
is_bound_kind (Based addend) = false
is_bound_kind (Bound number) = true

-- those that bind an import
abbrev pub bound_ones : List Relocation → List Relocation
bound_ones relocations = filter (λ r. is_bound_kind r.kind) relocations

-- a map has the relocations of a list, each by its place, and nothing else
abbrev pub IsIndex : BTreeMap ℕ RelKind → List Relocation → Type 0
IsIndex index relocations = (q : ℕ) → get nat_cmp index q ≡ kind_at relocations q
