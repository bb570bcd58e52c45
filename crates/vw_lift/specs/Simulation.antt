-- What is proved of the statements of an instruction: a run of them is its effect, their fields are in range, they are
-- few, and none of them reads after the one that writes.
use Rattle.std.specs.Prelude.{◌≡◌, ℕ, ◌<◌, ◌≤◌, ◌^◌, Bool, true, false, ◌||◌, not, ◌&&◌, if◌then◌else◌, List, [], ◌∷◌, length}
use Rattle.std.specs.List.{AllByRecursion}
use Rattle.vw_insn.specs.declared.instruction.Insn.{Insn}
use Rattle.vw_insn.specs.declared.instruction.Insn.TheVariants as insn
use Rattle.vw_insn.specs.Words.{Registers, Flags}
use Rattle.vw_insn.specs.Effect.{Open, Access, Write, After, reads, effect}
use Rattle.vw_stmt.specs.declared.statement.Flow.TheVariants as flow
use Rattle.vw_stmt.specs.declared.statement.Stmt.{Stmt}
use Rattle.vw_stmt.specs.declared.statement.Stmt.TheVariants as stmt
use Rattle.vw_stmt.specs.Environment.{Environment, start}
use Rattle.vw_stmt.specs.Does.{Does}
use Rattle.vw_stmt.specs.Lifted.{IsLifted}

-- the number that the first read loads from memory with these bytes, and 0 where nothing is read
abbrev pub first_loaded : ((ℕ → ℕ) → ℕ → ℕ → ℕ) → (ℕ → ℕ) → List Access → ℕ
first_loaded loads bytes [] = 0
first_loaded loads bytes (r ∷ rs) = loads bytes r.at r.size

-- memory after the writes, one after another
abbrev pub stored : ((ℕ → ℕ) → ℕ → ℕ → ℕ → ℕ → ℕ) → (ℕ → ℕ) → List Write → ℕ → ℕ
stored stores bytes [] = bytes
stored stores bytes (v ∷ vs) = stored stores (stores bytes v.at v.size v.value) vs

-- The environment after an instruction: the registers, flags, writes and transfer of its effect, its reads, memory after
-- its writes, and a number in tmp.
abbrev pub finish : ((ℕ → ℕ) → ℕ → ℕ → ℕ → ℕ → ℕ) → (ℕ → ℕ) → List Access → After → ℕ → Environment
finish stores bytes rs after tmp =
    record {
      registers = after.registers;
      tmp = tmp;
      flags = after.flags;
      bytes = stored stores bytes after.writes;
      reads = rs;
      writes = after.writes;
      transfer = after.transfer;
    }

-- With some number in tmp at first and some at last, the statements may do what the instruction before `next` does from
-- these registers, flags and bytes of memory, under this choice: the same registers, flags, memory, reads, writes and
-- transfer.
abbrev pub MayDo : ((ℕ → ℕ) → ℕ → ℕ → ℕ) → ((ℕ → ℕ) → ℕ → ℕ → ℕ → ℕ → ℕ) → ℕ → Registers → Flags → (ℕ → ℕ) → Open → List Stmt → Insn → Type 0
MayDo loads stores next registers flags bytes choice stmts i =
    let rs = reads i next registers in
    (tmp : ℕ)
    × (tmp' : ℕ)
    × (tmp < 2 ^ 64)
    × Does loads stores next stmts (start registers tmp flags bytes)
    (finish stores bytes rs (effect i next registers flags (first_loaded loads bytes rs) choice) tmp')

-- loads of at most eight bytes of this memory give words of 64 bits
abbrev pub GivesWords : ((ℕ → ℕ) → ℕ → ℕ → ℕ) → (ℕ → ℕ) → Type 0
GivesWords loads bytes = (a n : ℕ) → n ≤ 8 → loads bytes a n < 2 ^ 64

-- in each register is a word of 64 bits
abbrev pub AreWords : Registers → Type 0
AreWords registers = (r : ℕ) → registers r < 2 ^ 64

-- The effect of an instruction is a run of statements, whatever memory is and whatever the instruction leaves open: so
-- they say at most what it does.
abbrev pub IsRunOf : List Stmt → Insn → Type 0
IsRunOf stmts i =
    (loads : (ℕ → ℕ) → ℕ → ℕ → ℕ) (stores : (ℕ → ℕ) → ℕ → ℕ → ℕ → ℕ → ℕ) (next : ℕ) (registers : Registers) (flags : Flags) (bytes : ℕ → ℕ) (choice : Open)
    → GivesWords loads bytes → AreWords registers → MayDo loads stores next registers flags bytes choice stmts i

abbrev pub reads_memory : Stmt → Bool
reads_memory (stmt.Load dst size to signed mem) = true
reads_memory (stmt.Touch mem size write) = not write
reads_memory (stmt.Flow flow.Ret) = true
reads_memory s = false

abbrev pub writes_memory : Stmt → Bool
writes_memory (stmt.Store mem size src) = true
writes_memory (stmt.Touch mem size write) = write
writes_memory (stmt.Flow (flow.Call rel)) = true
writes_memory (stmt.Flow (flow.CallReg src)) = true
writes_memory s = false

-- no statement reads or writes memory
abbrev pub is_silent : List Stmt → Bool
is_silent [] = true
is_silent (s ∷ stmts) = not (reads_memory s || writes_memory s) && is_silent stmts

-- no statement reads or writes memory after one that writes it
abbrev pub stores_last : List Stmt → Bool
stores_last [] = true
stores_last (s ∷ stmts) = if writes_memory s then is_silent stmts else stores_last stmts

abbrev pub is_empty : List Stmt → Bool
is_empty [] = true
is_empty (s ∷ stmts) = false

abbrev pub is_flow : Stmt → Bool
is_flow (stmt.Flow f) = true
is_flow s = false

-- the last statement is a Flow, and no other is
abbrev pub ends_with_flow : List Stmt → Bool
ends_with_flow [] = false
ends_with_flow (s ∷ stmts) = if is_flow s then is_empty stmts else ends_with_flow stmts

-- the immediate of MOV has 64 bits
abbrev pub HasWord : Insn → Type 0
HasWord (insn.MovImm64 dst imm) = imm < 2 ^ 64
HasWord i = Unit {0}

-- The form of a list: at most eight statements, each with fields in range; the last alone is a Flow, and nothing accesses
-- memory after a write.
pub record IsInForm (stmts : List Stmt) : Type 0 where
  pub fields : AllByRecursion IsLifted stmts
  pub few : length stmts ≤ 8
  pub stores : stores_last stmts ≡ true
  pub flow : ends_with_flow stmts ≡ true
