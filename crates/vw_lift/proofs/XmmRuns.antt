-- Instructions on XMM registers: their effect is a run of their statements.
use Rattle.std.proofs.Common.{◌≡◌, ℕ, ◌<◌, Bool, true, false, if◌then◌else◌, List, [], ◌∷◌, ◌++◌, refl, ap, ◌∙◌}
use Rattle.vw_insn.specs.declared.operands.Mem.{Mem}
use Rattle.vw_insn.specs.declared.operands.XmmOperand.{XmmOperand}
use Rattle.vw_insn.specs.declared.operands.XmmOperand.TheVariants as xmm
use Rattle.vw_insn.specs.declared.xmm.XmmRow.{XmmRow}
use Rattle.vw_insn.specs.declared.xmm.XmmRole.{XmmRole}
use Rattle.vw_insn.specs.declared.xmm.XmmRole.TheVariants as role
use Rattle.vw_insn.specs.declared.instruction.Insn.TheVariants as insn
use Rattle.vw_insn.specs.Listed.{IsXmmOperand}
use Rattle.vw_insn.specs.Words.{Registers, Flags, number, register, put}
use Rattle.vw_insn.specs.XmmTable.{xmm_role, xmm_size, is_xmm_store}
use Rattle.vw_insn.specs.XmmEffect.{stored_bytes, by_wide, xmm_registers, xmm_flags}
use Rattle.vw_insn.specs.Effect.{Open, Access, Write, Next, address}
use Rattle.vw_insn.proofs.RegisterNumbers.{number_register}
use Rattle.vw_stmt.specs.declared.operands.Var.TheVariants as var
use Rattle.vw_stmt.specs.declared.statement.Flow.TheVariants as flow
use Rattle.vw_stmt.specs.declared.statement.Stmt.{Stmt}
use Rattle.vw_stmt.specs.declared.statement.Stmt.TheVariants as stmt
use Rattle.vw_stmt.specs.Environment.{Environment, Pick, start}
use Rattle.vw_stmt.specs.Does.{Does, opened}
use Rattle.vw_lift.specs.Lifted.{width_by_wide, general_open, xmm_compared}
use Rattle.vw_lift.specs.Simulation.{stored}
use Rattle.vw_lift.proofs.Numbers.{zero_word}
use Rattle.vw_lift.proofs.OperandRuns.{chosen}
use Rattle.vw_lift.proofs.MoveRuns.{Runs}

opened_by_wide : (wide : Bool) (x : ℕ) → opened (width_by_wide wide) x ≡ by_wide wide x
opened_by_wide true x = refl
opened_by_wide false x = refl

module _ (loads : (ℕ → ℕ) → ℕ → ℕ → ℕ) (stores : (ℕ → ℕ) → ℕ → ℕ → ℕ → ℕ → ℕ) (next : ℕ) (registers : Registers) (flags : Flags) (bytes : ℕ → ℕ) (choice : Open) where
  abbrev pick : Pick
  pick = chosen loads stores next registers bytes choice

  -- after these reads and writes, with these registers and flags
  abbrev reached : List Access → List Write → (ℕ → ℕ) → Registers → Flags → Environment
  reached rs ws memory r f = record { registers = r; tmp = 0; flags = f; bytes = memory; reads = rs; writes = ws; transfer = Next }

  open_general : (wide : Bool) (n : ℕ) (rs : List Access) (ws : List Write) (memory : ℕ → ℕ) → n < 16
      → Does loads stores next (stmt.Open (var.Reg (register n)) (width_by_wide wide) ∷ stmt.Flow flow.Next ∷ []) (reached rs ws memory registers flags)
      (reached rs ws memory (put registers n (by_wide wide (choice.numbers 0))) flags)
  open_general wide n rs ws memory h =
      let x : ℕ = choice.numbers 0 in (
        pick,
        (
          pick,
          ap (λ (v : ℕ). reached rs ws memory (put registers (number (register n)) v) flags) (opened_by_wide wide x)
              ∙ ap (λ (m : ℕ). reached rs ws memory (put registers m (by_wide wide x)) flags) (number_register n h),
        ),
      )

  -- what comes after the access
  after_access : (what : XmmRole) (wide : Bool) (reg : ℕ) (rm : XmmOperand) (rs : List Access) (ws : List Write) (memory : ℕ → ℕ) → reg < 16 → IsXmmOperand rm
      → Does loads stores next ((general_open what wide reg rm ++ xmm_compared what) ++ stmt.Flow flow.Next ∷ []) (reached rs ws memory registers flags)
      (reached rs ws memory (xmm_registers what wide reg rm registers (choice.numbers 0)) (xmm_flags what flags choice.flags))
  after_access role.ToGeneral wide reg rm rs ws memory h is = open_general wide reg rs ws memory h
  after_access role.MoveToGeneral wide reg (xmm.Reg n) rs ws memory h is = open_general wide n rs ws memory is
  after_access role.MoveToGeneral wide reg (xmm.Mem mem) rs ws memory h is = (pick, refl)
  after_access role.Compare wide reg rm rs ws memory h is = (pick, (pick, refl))
  after_access _ wide reg rm rs ws memory h is = (pick, refl)

  -- reads, writes and memory after a touch of memory that writes, or that reads
  abbrev touch_reads : Bool → ℕ → ℕ → List Access
  touch_reads write a size = if write then [] else record { at = a; size = size } ∷ []

  abbrev touch_writes : Bool → ℕ → ℕ → List Write
  touch_writes write a size = if write then record { at = a; size = size; value = stored_bytes size choice.numbers } ∷ [] else []

  touching : (write : Bool) (mem : Mem) (size : ℕ) (stmts : List Stmt) (after : List Access → List Write → (ℕ → ℕ) → Environment)
      → ((rs : List Access) (ws : List Write) (memory : ℕ → ℕ) → Does loads stores next stmts (reached rs ws memory registers flags) (after rs ws memory))
      → Does loads stores next (stmt.Touch mem size write ∷ stmts) (start registers 0 flags bytes)
      (after (touch_reads write (address next registers mem) size) (touch_writes write (address next registers mem) size) (stored stores bytes (touch_writes write (address next registers mem) size)))
  touching true mem size stmts after f =
      let a : ℕ = address next registers mem in
      (pick, f [] (touch_writes true a size) (stores bytes a size (stored_bytes size choice.numbers)))
  touching false mem size stmts after f = (pick, f (touch_reads false (address next registers mem) size) [] bytes)

  pub xmm_op : (row : XmmRow) (wide : Bool) (reg : ℕ) (rm : XmmOperand) (imm : ℕ) → reg < 16 → IsXmmOperand rm → Runs loads stores next registers flags bytes choice (insn.Xmm row wide reg rm imm)
  xmm_op row wide reg (xmm.Reg n) imm h is = (0, 0, zero_word, after_access (xmm_role row) wide reg (xmm.Reg n) [] [] bytes h is)
  xmm_op row wide reg (xmm.Mem mem) imm h is = (
    0,
    0,
    zero_word,
    touching (is_xmm_store row) mem (xmm_size row wide) ((general_open (xmm_role row) wide reg (xmm.Mem mem) ++ xmm_compared (xmm_role row)) ++ stmt.Flow flow.Next ∷ [])
        (λ rs ws memory. reached rs ws memory (xmm_registers (xmm_role row) wide reg (xmm.Mem mem) registers (choice.numbers 0)) (xmm_flags (xmm_role row) flags choice.flags))
        (λ rs ws memory. after_access (xmm_role row) wide reg (xmm.Mem mem) rs ws memory h is),
  )
