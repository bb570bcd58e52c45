-- Where no check fails, and what its conditions then are.
use Rattle.std.proofs.Common.{inl, inr, ℕ, List, [], ◌∷◌, ◌++◌, true, false, refl}
use Rattle.std.specs.Prelude.{pos, ◌-ℤ◌}
use Rattle.vw_insn.specs.declared.instruction.Insn.{Insn}
use Rattle.vw_stmt.specs.declared.statement.Flow.{Flow}
use Rattle.vw_stmt.specs.declared.statement.Flow.TheVariants as flow
use Rattle.vw_stmt.specs.declared.statement.Stmt.{Stmt}
use Rattle.vw_stmt.specs.declared.statement.Stmt.TheVariants as stmt
use Rattle.vw_lift.specs.Lifted.{steps, flow_of}
use Rattle.vw_stack.specs.declared.offset.Offset.{Offset}
use Rattle.vw_stack.specs.declared.offset.Offset.TheVariants as offset
use Rattle.vw_domain.specs.declared.parts.Parts.{Parts}
use Rattle.vw_domain.specs.Abstract.{Abstract, abstract_of}
use Rattle.vw_domain.specs.Addresses.{Address, Frame, address_of}
use Rattle.vw_domain.specs.Checks.{Passes as Permits, PassesAll, MayRead, MayWrite, MayPushAt, MayPush}
use Rattle.vw_domain.specs.EquationLaws.{NoFlow}
use Rattle.vw_domain.specs.Sites.{Site}
use Rattle.vw_domain.specs.Statements.{apply, applies}
use Rattle.vw_state.specs.Context.{Context, site_at}
use Rattle.vw_state.specs.Post.{form_behind}
use Rattle.vw_checks.specs.Accesses.{ReadFails, WriteFails, PushFailsAt, PushFails}
use Rattle.vw_checks.specs.Checks.{called_target, StmtFails, StmtsFail, FlowFails, InsnFails, FlowPasses}
use Rattle.vw_checks.proofs.Decisions.{stable, begins_in_stack, reads_inside, writes_inside, writes_own, reads_known, may_enter, may_enter_by, may_return}

-- none of these fails
abbrev pub None : (ℕ → Type 0) → Type 0
None Fails = (number : ℕ) → Fails number → ⊥

read_passes : (site : Site) (st : Abstract) (a : Address) (n : ℕ) → None (ReadFails site st a n) → MayRead site st a n
read_passes site st a n none = (stable (reads_inside site a n) (λ refuted. none 4 (inl (refl, refuted))), stable (reads_known st a n) (λ refuted. none 6 (inr (refl, refuted))))

read_none : (site : Site) (st : Abstract) (a : Address) (n : ℕ) → MayRead site st a n → None (ReadFails site st a n)
read_none site st a n may number (inl h) = h.1 may.0
read_none site st a n may number (inr h) = h.1 may.1

write_passes : (st : Abstract) (a : Address) (n : ℕ) → None (WriteFails st a n) → MayWrite st a n
write_passes st a n none =
    (stable (begins_in_stack st a) (λ refuted. none 3 (inl (refl, refuted))), stable (writes_inside a n) (λ refuted. none 4 (inr (inl (refl, refuted)))), stable (writes_own a n) (λ refuted. none 5 (inr (inr (refl, refuted)))))

write_none : (st : Abstract) (a : Address) (n : ℕ) → MayWrite st a n → None (WriteFails st a n)
write_none st a n may number (inl h) = h.1 may.0
write_none st a n may number (inr (inl h)) = h.1 may.1
write_none st a n may number (inr (inr h)) = h.1 may.2

push_passes_at : (st : Abstract) (o : Offset) → None (PushFailsAt st o) → MayPushAt st o
push_passes_at st offset.Unknown none = none 3 refl
push_passes_at st (offset.Known c) none = write_passes st (Frame (c -ℤ pos 8)) 8 none

push_none_at : (st : Abstract) (o : Offset) → MayPushAt st o → None (PushFailsAt st o)
push_none_at st offset.Unknown may number h = may
push_none_at st (offset.Known c) may number h = write_none st (Frame (c -ℤ pos 8)) 8 may number h

push_passes : (st : Abstract) → None (PushFails st) → MayPush st
push_passes st none = push_passes_at st (st.offsets 4) none

push_none : (st : Abstract) → MayPush st → None (PushFails st)
push_none st may = push_none_at st (st.offsets 4) may

module _ (f : Context) (next : ℕ) where
  pub flow_passes : (st : Abstract) (fl : Flow) → None (FlowFails f next st fl) → FlowPasses f next st fl
  flow_passes st flow.Next none = tt
  flow_passes st (flow.Jump rel) none = λ leaves. none 2 (inl (refl, leaves))
  flow_passes st (flow.Branch cond rel) none = λ leaves. none 2 (inl (refl, leaves))
  flow_passes st (flow.JumpReg src) none = λ leaves. none 2 (inl (refl, leaves))
  flow_passes st (flow.Call rel) none =
      (push_passes st (λ number h. none number (inr (inl h))), stable (may_enter (called_target f next rel) st) (λ refuted. none 7 (inr (inr (refl, refuted)))))
  flow_passes st (flow.CallReg src) none =
      (push_passes st (λ number h. none number (inr (inl h))), stable (may_enter_by src st) (λ refuted. none 7 (inr (inr (refl, refuted)))))
  flow_passes st flow.Ret none = stable (may_return st) (λ refuted. none 8 (inr (refl, refuted)))
  flow_passes st flow.Stop none = tt

  pub flow_none : (st : Abstract) (fl : Flow) → FlowPasses f next st fl → None (FlowFails f next st fl)
  flow_none st flow.Next passes number (inl h) = h.1
  flow_none st flow.Next passes number (inr h) = h
  flow_none st (flow.Jump rel) passes number (inl h) = passes h.1
  flow_none st (flow.Jump rel) passes number (inr h) = h
  flow_none st (flow.Branch cond rel) passes number (inl h) = passes h.1
  flow_none st (flow.Branch cond rel) passes number (inr h) = h
  flow_none st (flow.JumpReg src) passes number (inl h) = passes h.1
  flow_none st (flow.JumpReg src) passes number (inr h) = h
  flow_none st (flow.Call rel) passes number (inl h) = h.1
  flow_none st (flow.Call rel) passes number (inr (inl h)) = push_none st passes.0 number h
  flow_none st (flow.Call rel) passes number (inr (inr h)) = h.1 passes.1
  flow_none st (flow.CallReg src) passes number (inl h) = h.1
  flow_none st (flow.CallReg src) passes number (inr (inl h)) = push_none st passes.0 number h
  flow_none st (flow.CallReg src) passes number (inr (inr h)) = h.1 passes.1
  flow_none st flow.Ret passes number (inl h) = h.1
  flow_none st flow.Ret passes number (inr h) = h.1 passes
  flow_none st flow.Stop passes number (inl h) = h.1
  flow_none st flow.Stop passes number (inr h) = h

  abbrev site : Site
  site = site_at f next

  pub stmt_passes : (st : Abstract) (x : Stmt) → None (StmtFails f next st x) → Permits (site_at f next) st x
  stmt_passes st (stmt.Set dst c) none = tt
  stmt_passes st (stmt.Copy dst src) none = tt
  stmt_passes st (stmt.Narrow dst src from to signed) none = tt
  stmt_passes st (stmt.Sum dst a b minus) none = tt
  stmt_passes st (stmt.Lea dst mem) none = tt
  stmt_passes st (stmt.And dst w a b) none = tt
  stmt_passes st (stmt.Shl dst) none = tt
  stmt_passes st (stmt.Open dst w) none = tt
  stmt_passes st (stmt.Choose dst w a b) none = tt
  stmt_passes st (stmt.Load dst size to signed mem) none = read_passes site st (address_of site st mem) size none
  stmt_passes st (stmt.Store mem size src) none = write_passes st (address_of site st mem) size none
  stmt_passes st (stmt.Touch mem size true) none = write_passes st (address_of site st mem) size none
  stmt_passes st (stmt.Touch mem size false) none = read_passes site st (address_of site st mem) size none
  stmt_passes st (stmt.Flags fact) none = tt
  stmt_passes st (stmt.Flow fl) none = tt

  pub stmt_none : (st : Abstract) (x : Stmt) → NoFlow x → Permits (site_at f next) st x → None (StmtFails f next st x)
  stmt_none st (stmt.Set dst c) plain passes number h = h
  stmt_none st (stmt.Copy dst src) plain passes number h = h
  stmt_none st (stmt.Narrow dst src from to signed) plain passes number h = h
  stmt_none st (stmt.Sum dst a b minus) plain passes number h = h
  stmt_none st (stmt.Lea dst mem) plain passes number h = h
  stmt_none st (stmt.And dst w a b) plain passes number h = h
  stmt_none st (stmt.Shl dst) plain passes number h = h
  stmt_none st (stmt.Open dst w) plain passes number h = h
  stmt_none st (stmt.Choose dst w a b) plain passes number h = h
  stmt_none st (stmt.Load dst size to signed mem) plain passes number h = read_none site st (address_of site st mem) size passes number h
  stmt_none st (stmt.Store mem size src) plain passes number h = write_none st (address_of site st mem) size passes number h
  stmt_none st (stmt.Touch mem size true) plain passes number h = write_none st (address_of site st mem) size passes number h
  stmt_none st (stmt.Touch mem size false) plain passes number h = read_none site st (address_of site st mem) size passes number h
  stmt_none st (stmt.Flags fact) plain passes number h = h
  stmt_none st (stmt.Flow fl) plain passes number h = plain

  list_passes : (st : Abstract) (stmts : List Stmt) (fl : Flow) → None (StmtsFail f next st (stmts ++ stmt.Flow fl ∷ [])) → PassesAll (site_at f next) st stmts × FlowPasses f next (applies (site_at f next) stmts st) fl
  list_passes st [] fl none = (tt, flow_passes st fl (λ number h. none number (inl h)))
  list_passes st (x ∷ stmts) fl none =
      let rest = list_passes (apply site x st) stmts fl (λ number h. none number (inr h)) in
      ((stmt_passes st x (λ number h. none number (inl h)), rest.0), rest.1)

  pub insn_passes : (state : Parts) (i : Insn) → None (InsnFails f next state i) → PassesAll (site_at f next) (abstract_of state) (steps i) × FlowPasses f next (form_behind f next i state) (flow_of i)
  insn_passes state i none = list_passes (abstract_of state) (steps i) (flow_of i) none
