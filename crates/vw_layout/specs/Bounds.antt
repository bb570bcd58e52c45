-- What the rules give that the calls behind them take.
use Rattle.std.specs.Prelude.{ℕ, ◌+◌, ◌*◌, ◌≤◌, ◌<◌, ◌^◌, List, [], ◌∷◌, All}
use Rattle.vw_elf.specs.declared.sections.SymbolSection.{SymbolSection}
use Rattle.vw_layout.specs.declared.symbols.SymbolEntry.{SymbolEntry}

-- the symbols of a section end at or before `len` in the file
abbrev pub IsInside : ℕ → SymbolSection → Type 0
IsInside len section = section.offset + 24 * section.count ≤ len

abbrev pub AreInside : ℕ → List SymbolSection → Type 0
AreInside len sections = All (IsInside len) sections

-- a function of at most 2^20 bytes below 2^32
pub record IsShort (s : SymbolEntry) : Type 0 where
  pub at : s.symbol.value < 2 ^ 32
  pub below : s.symbol.value + s.symbol.size ≤ 2 ^ 32
  pub short : s.symbol.size ≤ 2 ^ 20

abbrev pub AreShort : List SymbolEntry → Type 0
AreShort symbols = All IsShort symbols

-- numbers ascend, each above the one before it, from `low` on
abbrev pub Rises : ℕ → List ℕ → Type 0
Rises low [] = Unit {0}
Rises low (n ∷ ns) = (low ≤ n) × Rises (n + 1) ns
