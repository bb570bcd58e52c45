-- What each statement reads and writes in memory: where, and how many bytes.
use Rattle.std.specs.Prelude.{ℕ, true, false, List, [], ◌∷◌, map}
use Rattle.vw_insn.specs.Words.{Registers}
use Rattle.vw_insn.specs.Effect.{Access, Write, address, at_rsp, below_rsp}
use Rattle.vw_stmt.specs.declared.statement.Flow.{Flow}
use Rattle.vw_stmt.specs.declared.statement.Flow.TheVariants as flow
use Rattle.vw_stmt.specs.declared.statement.Stmt.{Stmt}
use Rattle.vw_stmt.specs.declared.statement.Stmt.TheVariants as stmt

-- where the writes were, and how many bytes each had
abbrev pub places_of : List Write → List Access
places_of writes = map (λ v. record { at = v.at; size = v.size }) writes

module _ (next : ℕ) where
  -- RET reads the return address (SDM volume 2, "RET")
  abbrev pub flow_reads : Flow → Registers → List Access
  flow_reads flow.Ret registers = record { at = address next registers at_rsp; size = 8 } ∷ []
  flow_reads _ registers = []

  -- CALL writes the return address (SDM volume 2, "CALL")
  abbrev pub flow_writes : Flow → Registers → List Access
  flow_writes (flow.Call rel) registers = record { at = address next registers below_rsp; size = 8 } ∷ []
  flow_writes (flow.CallReg src) registers = record { at = address next registers below_rsp; size = 8 } ∷ []
  flow_writes _ registers = []

  -- what a statement reads, where the registers are these before it
  abbrev pub stmt_reads : Stmt → Registers → List Access
  stmt_reads (stmt.Load dst size to signed mem) registers = record { at = address next registers mem; size = size } ∷ []
  stmt_reads (stmt.Touch mem size false) registers = record { at = address next registers mem; size = size } ∷ []
  stmt_reads (stmt.Flow f) registers = flow_reads f registers
  stmt_reads _ registers = []

  -- what it writes
  abbrev pub stmt_writes : Stmt → Registers → List Access
  stmt_writes (stmt.Store mem size src) registers = record { at = address next registers mem; size = size } ∷ []
  stmt_writes (stmt.Touch mem size true) registers = record { at = address next registers mem; size = size } ∷ []
  stmt_writes (stmt.Flow f) registers = flow_writes f registers
  stmt_writes _ registers = []
