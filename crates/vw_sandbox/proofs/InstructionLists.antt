-- The list of an instruction: its steps, and then its Flow.
use Rattle.std.proofs.Common.{◌≡◌, ℕ, List, [], ◌∷◌, ◌++◌, refl, sym, ap, ◌∙◌, subst}
use Rattle.std.specs.Prelude.{Bool, true, false, ◌||◌, ◌&&◌, not, if◌then◌else◌}
use Rattle.std.specs.List.{AllByRecursion}
use Rattle.std.proofs.lemmas.Bool.{false≢true}
use Rattle.vw_insn.specs.declared.instruction.Insn.{Insn}
use Rattle.vw_insn.specs.declared.instruction.Insn.TheVariants as insn
use Rattle.vw_insn.specs.Effect.{Way, Ordinary, Return, Direct, Indirect, way}
use Rattle.vw_stmt.specs.declared.statement.Flow.{Flow}
use Rattle.vw_stmt.specs.declared.statement.Flow.TheVariants as flow
use Rattle.vw_stmt.specs.declared.statement.Stmt.{Stmt}
use Rattle.vw_stmt.specs.Environment.{Environment, Pick}
use Rattle.vw_stmt.specs.Does.{does, Does}
use Rattle.vw_lift.specs.Lifted.{steps, flow_of}
use Rattle.vw_lift.specs.Simulation.{reads_memory, writes_memory, is_flow, is_silent, stores_last, is_empty, ends_with_flow}
use Rattle.vw_insn.specs.declared.operands.Place.TheVariants as place
use Rattle.vw_sandbox.proofs.StatementRuns.{does_is, writes_kept, AllNoFlow}

abbrev pub way_of : Flow → Way
way_of flow.Ret = Return
way_of (flow.Call rel) = Direct
way_of (flow.CallReg src) = Indirect
way_of f = Ordinary

pub way_is : (i : Insn) → way i ≡ way_of (flow_of i)
way_is insn.Ret = refl
way_is (insn.Call rel) = refl
way_is (insn.CallInd src) = refl
way_is i = refl

abbrev is_ret : Flow → Bool
is_ret flow.Ret = true
is_ret f = false

-- a return does nothing else
pub ret_alone : (i : Insn) → flow_of i ≡ flow.Ret → steps i ≡ []
ret_alone insn.Ret e = refl
ret_alone i e = absurd (false≢true (ap is_ret e))

abbrev pub is_branch : Flow → Bool
is_branch (flow.Branch cond rel) = true
is_branch f = false

-- nor does a branch
pub branch_alone : (i : Insn) → is_branch (flow_of i) ≡ true → steps i ≡ []
branch_alone (insn.Jcc cond rel) e = refl
branch_alone i e = absurd (false≢true e)

abbrev pub is_call : Flow → Bool
is_call (flow.Call rel) = true
is_call (flow.CallReg src) = true
is_call f = false

abbrev pub WritesNothing : List Stmt → Type 0
WritesNothing stmts = AllByRecursion (λ s. writes_memory s ≡ false) stmts

-- before a call nothing is written
pub call_last : (i : Insn) → is_call (flow_of i) ≡ true → WritesNothing (steps i)
call_last (insn.Call rel) e = tt
call_last (insn.CallInd (place.Reg r)) e = tt
call_last (insn.CallInd (place.High h)) e = tt
call_last (insn.CallInd (place.Mem mem)) e = (refl, tt)
call_last i e = absurd (false≢true e)

pub nothing_written : (loads : (ℕ → ℕ) → ℕ → ℕ → ℕ) (stores : (ℕ → ℕ) → ℕ → ℕ → ℕ → ℕ → ℕ) (next : ℕ) (stmts : List Stmt) (e e' : Environment) → AllNoFlow stmts → WritesNothing stmts → Does loads stores next stmts e e' → e'.writes ≡ e.writes
nothing_written loads stores next [] e e' n q d = subst (λ (z : Environment). z.writes ≡ e.writes) d refl
nothing_written loads stores next (s ∷ stmts) e e' n q d =
    let one : (does loads stores next s d.0 e).writes ≡ e.writes = ap (λ (z : Environment). z.writes) (does_is loads stores next d.0 s n.0 e) ∙ writes_kept loads stores next d.0 s n.0 q.0 e in
    nothing_written loads stores next stmts (does loads stores next s d.0 e) e' n.1 q.1 d.1 ∙ one

pub prefix_all : (P : Stmt → Type 0) (xs ys : List Stmt) → AllByRecursion P (xs ++ ys) → AllByRecursion P xs
prefix_all P [] ys h = tt
prefix_all P (x ∷ xs) ys h = (h.0, prefix_all P xs ys h.1)

pub and_is : (a b : Bool) → (a && b) ≡ true → (a ≡ true) × (b ≡ true)
and_is true b e = (refl, e)
and_is false b e = absurd (false≢true e)

prefix_silent : (xs ys : List Stmt) → is_silent (xs ++ ys) ≡ true → is_silent xs ≡ true
prefix_silent [] ys h = refl
prefix_silent (x ∷ xs) ys h =
    let parts = and_is (not (reads_memory x || writes_memory x)) (is_silent (xs ++ ys)) h in
    ap (λ b. b && is_silent xs) parts.0 ∙ prefix_silent xs ys parts.1

either_is : (b x y x' y' : Bool) → (x ≡ true → x' ≡ true) → (y ≡ true → y' ≡ true) → (if b then x else y) ≡ true → (if b then x' else y') ≡ true
either_is true x y x' y' f g h = f h
either_is false x y x' y' f g h = g h

pub prefix_stores : (xs ys : List Stmt) → stores_last (xs ++ ys) ≡ true → stores_last xs ≡ true
prefix_stores [] ys h = refl
prefix_stores (x ∷ xs) ys h = either_is (writes_memory x) (is_silent (xs ++ ys)) (stores_last (xs ++ ys)) (is_silent xs) (stores_last xs) (prefix_silent xs ys) (prefix_stores xs ys) h

not_empty : (xs : List Stmt) (y : Stmt) → is_empty (xs ++ y ∷ []) ≡ true → ⊥
not_empty [] y h = false≢true h
not_empty (x ∷ xs) y h = false≢true h

by_flag : (b x y : Bool) → (x ≡ true → ⊥) → (if b then x else y) ≡ true → (b ≡ false) × (y ≡ true)
by_flag true x y f h = absurd (f h)
by_flag false x y f h = (refl, h)

pub no_flow : (xs : List Stmt) (y : Stmt) → ends_with_flow (xs ++ y ∷ []) ≡ true → AllNoFlow xs
no_flow [] y h = tt
no_flow (x ∷ xs) y h = let r = by_flag (is_flow x) (is_empty (xs ++ y ∷ [])) (ends_with_flow (xs ++ y ∷ [])) (not_empty xs y) h in (r.0, no_flow xs y r.1)

-- a run of the list is one of its steps, and then its last statement
pub does_then : (loads : (ℕ → ℕ) → ℕ → ℕ → ℕ) (stores : (ℕ → ℕ) → ℕ → ℕ → ℕ → ℕ → ℕ) (next : ℕ) (xs : List Stmt) (y : Stmt) (e e' : Environment) → Does loads stores next (xs ++ y ∷ []) e e'
    → (mid : Environment) × Does loads stores next xs e mid × (pick : Pick) × (does loads stores next y pick mid ≡ e')
does_then loads stores next [] y e e' d = (e, refl, d.0, d.1)
does_then loads stores next (x ∷ xs) y e e' d =
    let r = does_then loads stores next xs y (does loads stores next x d.0 e) e' d.1 in
    (r.0, (d.0, r.1), r.2, r.3)

-- before a call no register changes
pub call_registers : (loads : (ℕ → ℕ) → ℕ → ℕ → ℕ) (stores : (ℕ → ℕ) → ℕ → ℕ → ℕ → ℕ → ℕ) (next : ℕ) (i : Insn) → is_call (flow_of i) ≡ true → (e e' : Environment) → Does loads stores next (steps i) e e' → e'.registers ≡ e.registers
call_registers loads stores next (insn.Call rel) c e e' d = sym (ap (λ (z : Environment). z.registers) d)
call_registers loads stores next (insn.CallInd (place.Reg r)) c e e' d = sym (ap (λ (z : Environment). z.registers) d)
call_registers loads stores next (insn.CallInd (place.High h)) c e e' d = sym (ap (λ (z : Environment). z.registers) d)
call_registers loads stores next (insn.CallInd (place.Mem mem)) c e e' d = sym (ap (λ (z : Environment). z.registers) d.1)
call_registers loads stores next i c e e' d = absurd (false≢true c)
