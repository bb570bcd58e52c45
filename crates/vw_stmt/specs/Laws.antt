-- What holds of every run of statements.
use Rattle.std.specs.Prelude.{ℕ, ◌<◌, ◌≤◌, ◌^◌, ◌≡◌, List, [], ◌++◌}
use Rattle.vw_stmt.specs.declared.statement.Stmt.{Stmt}
use Rattle.vw_stmt.specs.Environment.{Environment, Pick}
use Rattle.vw_stmt.specs.Does.{does, Does}
use Rattle.vw_stmt.specs.Accesses.{places_of, stmt_reads, stmt_writes}

-- the registers and tmp hold words of 64 bits
pub record HasWords (e : Environment) : Type 0 where
  pub in_registers : (r : ℕ) → e.registers r < 2 ^ 64
  pub in_tmp : e.tmp < 2 ^ 64

-- each byte of memory is below 256
abbrev pub AreBytes : (ℕ → ℕ) → Type 0
AreBytes bytes = (a : ℕ) → bytes a < 256

-- loads of at most eight bytes of memory give words of 64 bits, and bytes stay bytes where a number is stored
pub record HoldsWords (loads : (ℕ → ℕ) → ℕ → ℕ → ℕ) (stores : (ℕ → ℕ) → ℕ → ℕ → ℕ → ℕ → ℕ) : Type 0 where
  pub gives : (bytes : ℕ → ℕ) → AreBytes bytes → (a n : ℕ) → n ≤ 8 → loads bytes a n < 2 ^ 64
  pub stays : (bytes : ℕ → ℕ) (a n v : ℕ) → AreBytes bytes → AreBytes (stores bytes a n v)

module _ (loads : (ℕ → ℕ) → ℕ → ℕ → ℕ) (stores : (ℕ → ℕ) → ℕ → ℕ → ℕ → ℕ → ℕ) (next : ℕ) where
  -- one statement adds its reads to those before it, and no others
  abbrev pub AddsItsReads : Stmt → Pick → Environment → Type 0
  AddsItsReads s pick e = (does loads stores next s pick e).reads ≡ e.reads ++ stmt_reads next s e.registers

  -- one statement adds its writes to those before it, and no others
  abbrev pub AddsItsWrites : Stmt → Pick → Environment → Type 0
  AddsItsWrites s pick e = places_of (does loads stores next s pick e).writes ≡ places_of e.writes ++ stmt_writes next s e.registers

  -- a statement that writes nothing leaves memory as it was
  abbrev pub LeavesMemory : Stmt → Pick → Environment → Type 0
  LeavesMemory s pick e = stmt_writes next s e.registers ≡ [] → (does loads stores next s pick e).bytes ≡ e.bytes

  -- where all are words before the statements, and memory has bytes, it is so after them
  abbrev pub KeepsWords : List Stmt → Type 0
  KeepsWords stmts = (e e' : Environment) → HasWords e → AreBytes e.bytes → Does loads stores next stmts e e' → HasWords e' × AreBytes e'.bytes
