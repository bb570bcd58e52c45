-- The statements of an instruction but for its transfer: their accesses are permitted, and the state stands after them, or
-- the guard is touched.
use Rattle.std.proofs.Common.{◌≡◌, ℕ, ◌+◌, ◌-◌, ◌<◌, ◌⊎◌, inl, inr, ⊎_elim, List, [], ◌∷◌, ◌++◌, refl, sym, ap, ◌∙◌, subst, arith}
use Rattle.std.specs.Prelude.{Some, None, Bool, true, false, if◌then◌else◌, ◌||◌, ◌&&◌, not, nat_lt}
use Rattle.std.specs.List.{AllByRecursion, list_any}
use Rattle.std.proofs.lemmas.Bool.{false≢true, true≢false}
use Rattle.std.proofs.lemmas.Bool.Decides.{nat_tests}
use Rattle.vw_insn.specs.Effect.{Access, Write, address}
use Rattle.vw_insn.specs.XmmEffect.{stored_bytes}
use Rattle.vw_insn.specs.Words.{low}
use Rattle.vw_stmt.specs.declared.operands.Var.{Var}
use Rattle.vw_stmt.specs.declared.operands.Var.TheVariants as var
use Rattle.vw_stmt.specs.declared.statement.Stmt.{Stmt}
use Rattle.vw_stmt.specs.declared.statement.Stmt.TheVariants as stmt
use Rattle.vw_stmt.specs.Environment.{Environment, Pick, set_var, operand_value}
use Rattle.vw_stmt.specs.Does.{does, performs, Does, width_of}
use Rattle.vw_stmt.specs.Lifted.{IsLifted, IsWordSize, IsXmmSize}
use Rattle.vw_stmt.specs.Laws.{HasWords, AreBytes, HoldsWords, KeepsWords}
use Rattle.vw_stmt.specs.Accesses.{stmt_reads}
use Rattle.vw_lift.specs.Simulation.{reads_memory, writes_memory, is_flow, is_silent, stores_last}
use Rattle.vw_domain.specs.Abstract.{Abstract}
use Rattle.vw_domain.specs.Checks.{Passes, PassesAll}
use Rattle.vw_domain.specs.EquationLaws.{NoFlow}
use Rattle.vw_domain.specs.FormRanges.{IsForm}
use Rattle.vw_domain.specs.Sites.{Site, IsSite}
use Rattle.vw_domain.specs.Soundness.{IsPlaced, IsMemory, HasImage, ReadPermitted, WritePermitted, store, after_write, activation_after, HitsGuard, TouchesGuard, machine_in}
use Rattle.vw_domain.specs.Stands.{Machine, StandsWith, StandsFor, WritesItsFrame}
use Rattle.vw_domain.specs.Statements.{apply, applies}
use Rattle.vw_machine.specs.World.{Range, touches}
use Rattle.vw_sandbox.proofs.DomainLaws.{DomainLaws}

-- ---- what is recorded

set_kept : (e : Environment) (v : Var) (x : ℕ) → ((set_var e v x).reads ≡ e.reads) × ((set_var e v x).writes ≡ e.writes)
set_kept e (var.Reg r) x = (refl, refl)
set_kept e var.Tmp x = (refl, refl)

pub append_none : {A : Type 0} (xs : List A) → xs ++ [] ≡ xs
append_none [] = refl
append_none (x ∷ xs) = ap (λ ys. x ∷ ys) (append_none xs)

pub no_flow_of : (s : Stmt) → is_flow s ≡ false → NoFlow s
no_flow_of (stmt.Flow f) n = absurd (true≢false n)
no_flow_of s n = tt

module _ (loads : (ℕ → ℕ) → ℕ → ℕ → ℕ) (stores : (ℕ → ℕ) → ℕ → ℕ → ℕ → ℕ → ℕ) (next : ℕ) (pick : Pick) where
  pub does_is : (s : Stmt) → is_flow s ≡ false → (e : Environment) → does loads stores next s pick e ≡ performs loads stores next s pick e
  does_is (stmt.Flow f) n e = absurd (true≢false n)
  does_is s n e = refl

  abbrev Then : Stmt → Environment → Environment
  Then s e = performs loads stores next s pick e

  pub reads_added : (s : Stmt) → is_flow s ≡ false → (e : Environment) → (Then s e).reads ≡ e.reads ++ stmt_reads next s e.registers
  reads_added (stmt.Set dst c) n e = (set_kept e dst _).0 ∙ sym (append_none e.reads)
  reads_added (stmt.Copy dst src) n e = (set_kept e dst _).0 ∙ sym (append_none e.reads)
  reads_added (stmt.Narrow dst src from to sg) n e = (set_kept e dst _).0 ∙ sym (append_none e.reads)
  reads_added (stmt.Sum dst a b minus) n e = (set_kept e dst _).0 ∙ sym (append_none e.reads)
  reads_added (stmt.Lea dst mem) n e = (set_kept e dst _).0 ∙ sym (append_none e.reads)
  reads_added (stmt.And dst w a b) n e = (set_kept e dst _).0 ∙ sym (append_none e.reads)
  reads_added (stmt.Shl dst) n e = (set_kept e dst _).0 ∙ sym (append_none e.reads)
  reads_added (stmt.Open dst w) n e = (set_kept e dst _).0 ∙ sym (append_none e.reads)
  reads_added (stmt.Choose dst w a b) n e = (set_kept e dst _).0 ∙ sym (append_none e.reads)
  reads_added (stmt.Load dst size to sg mem) n e = (set_kept (record e { reads = e.reads ++ record { at = address next e.registers mem; size = size } ∷ [] }) dst _).0
  reads_added (stmt.Store mem size src) n e = sym (append_none e.reads)
  reads_added (stmt.Touch mem size true) n e = sym (append_none e.reads)
  reads_added (stmt.Touch mem size false) n e = refl
  reads_added (stmt.Flags None) n e = sym (append_none e.reads)
  reads_added (stmt.Flags (Some c)) n e = sym (append_none e.reads)
  reads_added (stmt.Flow f) n e = absurd (true≢false n)

  pub writes_kept : (s : Stmt) → is_flow s ≡ false → writes_memory s ≡ false → (e : Environment) → (Then s e).writes ≡ e.writes
  writes_kept (stmt.Set dst c) n q e = (set_kept e dst _).1
  writes_kept (stmt.Copy dst src) n q e = (set_kept e dst _).1
  writes_kept (stmt.Narrow dst src from to sg) n q e = (set_kept e dst _).1
  writes_kept (stmt.Sum dst a b minus) n q e = (set_kept e dst _).1
  writes_kept (stmt.Lea dst mem) n q e = (set_kept e dst _).1
  writes_kept (stmt.And dst w a b) n q e = (set_kept e dst _).1
  writes_kept (stmt.Shl dst) n q e = (set_kept e dst _).1
  writes_kept (stmt.Open dst w) n q e = (set_kept e dst _).1
  writes_kept (stmt.Choose dst w a b) n q e = (set_kept e dst _).1
  writes_kept (stmt.Load dst size to sg mem) n q e = (set_kept (record e { reads = e.reads ++ record { at = address next e.registers mem; size = size } ∷ [] }) dst _).1
  writes_kept (stmt.Store mem size src) n q e = absurd (true≢false q)
  writes_kept (stmt.Touch mem size true) n q e = absurd (true≢false q)
  writes_kept (stmt.Touch mem size false) n q e = refl
  writes_kept (stmt.Flags None) n q e = refl
  writes_kept (stmt.Flags (Some c)) n q e = refl
  writes_kept (stmt.Flow f) n q e = absurd (true≢false n)

  no_reads : (s : Stmt) → reads_memory s ≡ false → is_flow s ≡ false → (e : Environment) → stmt_reads next s e.registers ≡ []
  no_reads (stmt.Load dst size to sg mem) q n e = absurd (true≢false q)
  no_reads (stmt.Touch mem size true) q n e = refl
  no_reads (stmt.Touch mem size false) q n e = absurd (true≢false q)
  no_reads (stmt.Flow f) q n e = absurd (true≢false n)
  no_reads s q n e = refl

-- a statement that writes nothing leaves the activation
left_alone : (m : Machine) (next : ℕ) (e : Environment) (s : Stmt) → writes_memory s ≡ false → (activation_after next e m s ≡ m) × (HitsGuard m next e s → ⊥)
left_alone m next e (stmt.Store mem size src) q = absurd (true≢false q)
left_alone m next e (stmt.Touch mem size true) q = absurd (true≢false q)
left_alone m next e (stmt.Touch mem size false) q = (refl, λ h. h)
left_alone m next e s q = (refl, λ h. h)

some_word : (n : ℕ) → IsWordSize n → 0 < n
some_word n (inl e) = omega arith
some_word n (inr (inl e)) = omega arith
some_word n (inr (inr (inl e))) = omega arith
some_word n (inr (inr (inr e))) = omega arith

some_xmm : (n : ℕ) → IsXmmSize n → 0 < n
some_xmm n (inl e) = omega arith
some_xmm n (inr (inl e)) = omega arith
some_xmm n (inr (inr e)) = omega arith

and_parts : (a b : Bool) → (a && b) ≡ true → (a ≡ true) × (b ≡ true)
and_parts true b e = (refl, e)
and_parts false b e = absurd (false≢true e)

neither : (a b : Bool) → not (a || b) ≡ true → (a ≡ false) × (b ≡ false)
neither true b e = absurd (false≢true e)
neither false true e = absurd (false≢true e)
neither false false e = (refl, refl)

or_first : (a b : Bool) → a ≡ true → (a || b) ≡ true
or_first a b e = ap (λ t. t || b) e

-- ---- activations

-- the 8,192 bytes below the stack
abbrev pub guard_of : Machine → Range
guard_of m = record { from = m.stack_start - 8192; to = m.stack_start }

abbrev pub touched : Machine → List Write → Bool
touched m ws = list_any (λ v. touches v.at v.size (guard_of m)) ws

-- the activation after writes
abbrev pub marking : Machine → List Write → Machine
marking m [] = m
marking m (v ∷ vs) = marking (after_write m v.at v.size) vs

abbrev pub AllNoFlow : List Stmt → Type 0
AllNoFlow stmts = AllByRecursion (λ s. is_flow s ≡ false) stmts

-- what does not depend on the bytes that an activation wrote
placed_after : (m : Machine) (site : Site) (next : ℕ) (written : ℕ → Bool) → IsPlaced m site next → IsPlaced (record m { is_written = written }) site next
placed_after m site next written p =
    record {
      room = p.room;
      ends = p.ends;
      heap_ends = p.heap_ends;
      heap_room = p.heap_room;
      globals_end = p.globals_end;
      heap_apart = p.heap_apart;
      globals_apart = p.globals_apart;
      next_is = p.next_is;
      tables = p.tables;
    }

memory_after : (m : Machine) (site : Site) (loads : (ℕ → ℕ) → ℕ → ℕ → ℕ) (written : ℕ → Bool) → IsMemory m site loads → IsMemory (record m { is_written = written }) site loads
memory_after m site loads written h =
    record { in_stack = h.in_stack; globals = h.globals; plain = h.plain; based = h.based; jump = h.jump; tag = h.tag; pointer = h.pointer }

-- what the crates below say of statements' words
abbrev pub WordsStay : Type 0
WordsStay =
    (loads : (ℕ → ℕ) → ℕ → ℕ → ℕ) (stores : (ℕ → ℕ) → ℕ → ℕ → ℕ → ℕ → ℕ) (next : ℕ) (stmts : List Stmt)
    → HoldsWords loads stores → AllByRecursion IsLifted stmts → KeepsWords loads stores next stmts

module _ (laws : DomainLaws) (words_stay : WordsStay) (site : Site) (next : ℕ) (is : IsSite site) (loads : (ℕ → ℕ) → ℕ → ℕ → ℕ) where
  -- one statement of an activation
  module _ (m : Machine) (placed : IsPlaced m site next) (image : HasImage m.instance site) (memory : IsMemory m site loads) (good : HoldsWords loads (store m)) where
    abbrev After : Stmt → Pick → Environment → Environment
    After s pick e = performs loads (store m) next s pick e

    one_words : (s : Stmt) (pick : Pick) (e : Environment) → IsLifted s → is_flow s ≡ false → HasWords e → AreBytes e.bytes → HasWords (After s pick e) × AreBytes (After s pick e).bytes
    one_words s pick e i n words bytes =
        subst (λ (z : Environment). HasWords z × AreBytes z.bytes) (does_is loads (store m) next pick s n e) (words_stay loads (store m) next (s ∷ []) good (i, tt) e _ words bytes (pick, refl))

    -- a statement that writes nothing
    stays : (s : Stmt) (pick : Pick) (st : Abstract) (e : Environment) (x : ℕ) → IsLifted s → writes_memory s ≡ false → Passes site st s → IsForm site.bounds st → HasWords e → AreBytes e.bytes → WritesItsFrame m
        → StandsWith st (machine_in m e) x → StandsFor (apply site s st) (machine_in m (After s pick e))
    stays s pick st e x i q passes form words bytes frame h =
        let alone = left_alone m next e s q in
        ⊎_elim
        (λ (g : HitsGuard m next e s). absurd (alone.1 g))
        (λ (k : WritesItsFrame (activation_after next e m s) × StandsFor (apply site s st) (machine_in (activation_after next e m s) (After s pick e))).
        subst (λ (z : Machine). StandsFor (apply site s st) (machine_in z (After s pick e))) alone.0 k.1)
        (laws.stand m site next loads st e x pick s placed is memory form words bytes frame h i passes)

    silent_accesses : (stmts : List Stmt) (e e' : Environment) → AllNoFlow stmts → is_silent stmts ≡ true → Does loads (store m) next stmts e e' → (e'.reads ≡ e.reads) × (e'.writes ≡ e.writes)
    silent_accesses [] e e' n q d = subst (λ (z : Environment). (z.reads ≡ e.reads) × (z.writes ≡ e.writes)) d (refl, refl)
    silent_accesses (s ∷ stmts) e e' n q d =
        let parts = and_parts (not (reads_memory s || writes_memory s)) (is_silent stmts) q in
        let none = neither (reads_memory s) (writes_memory s) parts.0 in
        let d' : Does loads (store m) next stmts (After s d.0 e) e' = subst (λ z. Does loads (store m) next stmts z e') (does_is loads (store m) next d.0 s n.0 e) d.1 in
        let rest = silent_accesses stmts (After s d.0 e) e' n.1 parts.1 d' in (
          rest.0 ∙ reads_added loads (store m) next d.0 s n.0 e ∙ ap (λ l. e.reads ++ l) (no_reads loads (store m) next d.0 s none.0 n.0 e) ∙ append_none e.reads,
          rest.1 ∙ writes_kept loads (store m) next d.0 s n.0 none.1 e,
        )

    silent_stands : (stmts : List Stmt) (st : Abstract) (e e' : Environment) (x : ℕ) → AllByRecursion IsLifted stmts → AllNoFlow stmts → is_silent stmts ≡ true → PassesAll site st stmts → IsForm site.bounds st → HasWords e → AreBytes e.bytes → WritesItsFrame m
        → StandsWith st (machine_in m e) x → Does loads (store m) next stmts e e' → StandsFor (applies site stmts st) (machine_in m e')
    silent_stands [] st e e' x i n q passes form words bytes frame h d = (x, subst (λ (z : Environment). StandsWith st (machine_in m z) x) d h)
    silent_stands (s ∷ stmts) st e e' x i n q passes form words bytes frame h d =
        let parts = and_parts (not (reads_memory s || writes_memory s)) (is_silent stmts) q in
        let none = neither (reads_memory s) (writes_memory s) parts.0 in
        let d' : Does loads (store m) next stmts (After s d.0 e) e' = subst (λ z. Does loads (store m) next stmts z e') (does_is loads (store m) next d.0 s n.0 e) d.1 in
        let k = stays s d.0 st e x i.0 none.1 passes.0 form words bytes frame h in
        let o = one_words s d.0 e i.0 n.0 words bytes in
        silent_stands stmts (apply site s st) (After s d.0 e) e' k.0 i.1 n.1 parts.1 passes.1 (laws.forms site st s is form i.0) o.0 o.1 frame k.1 d'

    -- what one that writes writes
    record Wrote (s : Stmt) (pick : Pick) (e : Environment) : Type 0 where
      value : Write
      added : (After s pick e).writes ≡ e.writes ++ value ∷ []
      kept : (After s pick e).reads ≡ e.reads
      may : WritePermitted m value.at value.size
      marks : activation_after next e m s ≡ after_write m value.at value.size
      guard : HitsGuard m next e s → touches value.at value.size (guard_of m) ≡ true

    in_guard : (a n : ℕ) → 0 < n → TouchesGuard m a → touches a n (guard_of m) ≡ true
    in_guard a n some g = touching a n (m.stack_start - 8192) m.stack_start g.1 (let l = g.0 in let u = g.1 in omega arith)
      where
        touching : (a n from to : ℕ) → a < to → from < a + n → (nat_lt a to && nat_lt from (a + n)) ≡ true
        touching a n from to l h = grind (arith, nat_tests)

    module _ (st : Abstract) (e : Environment) (x : ℕ) (form : IsForm site.bounds st) (words : HasWords e) (frame : WritesItsFrame m) (h : StandsWith st (machine_in m e) x) where
      reads_may : (s : Stmt) → IsLifted s → is_flow s ≡ false → Passes site st s → AllByRecursion (λ r. ReadPermitted m site r.at r.size) (stmt_reads next s e.registers)
      reads_may s i n passes = (laws.accesses m site next st e x s placed image is form words frame h i (no_flow_of s n) passes).0

      wrote : (s : Stmt) (pick : Pick) → IsLifted s → writes_memory s ≡ true → is_flow s ≡ false → Passes site st s → Wrote s pick e
      wrote (stmt.Store mem size src) pick i q n passes =
          record {
            value = record { at = address next e.registers mem; size = size; value = low (width_of size) (operand_value e src) };
            added = refl;
            kept = refl;
            may = (laws.accesses m site next st e x (stmt.Store mem size src) placed image is form words frame h i tt passes).1.0;
            marks = refl;
            guard = in_guard _ size (some_word size i.0);
          }
      wrote (stmt.Touch mem size true) pick i q n passes =
          record {
            value = record { at = address next e.registers mem; size = size; value = stored_bytes size pick.choice.numbers };
            added = refl;
            kept = refl;
            may = (laws.accesses m site next st e x (stmt.Touch mem size true) placed image is form words frame h i tt passes).1.0;
            marks = refl;
            guard = in_guard _ size (some_xmm size i.0);
          }
      wrote (stmt.Touch mem size false) pick i q n passes = absurd (false≢true q)
      wrote (stmt.Flow f) pick i q n passes = absurd (true≢false n)
      wrote s pick i q n passes = absurd (false≢true q)

  -- ---- a list

  module _ (m : Machine) (placed : IsPlaced m site next) (image : HasImage m.instance site) (memory : IsMemory m site loads) (good : HoldsWords loads (store m)) where
    abbrev pub AllRead : List Access → Type 0
    AllRead rs = AllByRecursion (λ r. ReadPermitted m site r.at r.size) rs

    abbrev pub AllWritten : List Write → Type 0
    AllWritten ws = AllByRecursion (λ v. WritePermitted m v.at v.size) ws

    all_append : (rs qs : List Access) → AllRead rs → AllRead qs → AllRead (rs ++ qs)
    all_append [] qs h k = k
    all_append (r ∷ rs) qs h k = (h.0, all_append rs qs h.1 k)

    -- the state stands where the activation has made these writes
    abbrev pub Stood : Abstract → List Write → Environment → Type 0
    Stood st ws e = WritesItsFrame (marking m ws) × StandsFor st (machine_in (marking m ws) e)

    -- what a run of statements gives
    pub record Ran (st : Abstract) (e : Environment) : Type 0 where
      pub reads : AllRead e.reads
      pub writes : AllWritten e.writes
      pub stands : (touched m e.writes ≡ true) ⊎ Stood st e.writes e

    pub ran : (stmts : List Stmt) (st : Abstract) (e e' : Environment) (x : ℕ) → AllByRecursion IsLifted stmts → AllNoFlow stmts → stores_last stmts ≡ true → PassesAll site st stmts → IsForm site.bounds st → HasWords e → AreBytes e.bytes → WritesItsFrame m
        → StandsWith st (machine_in m e) x → AllRead e.reads → e.writes ≡ [] → Does loads (store m) next stmts e e' → Ran (applies site stmts st) e'
    ran [] st e e' x i n last passes form words bytes frame h rs ws d =
        let P : List Write → Type 0 = λ l. AllWritten l × Stood st l e in
        let t = subst P (sym ws) (tt, (frame, (x, h))) in
        subst (λ z. Ran st z) d (record { reads = rs; writes = t.0; stands = inr t.1 })
    ran (s ∷ stmts) st e e' x i n last passes form words bytes frame h rs ws d =
        by_write (writes_memory s) refl (λ y last' h' rs' ws'. ran stmts (apply site s st) (Z) e' y i.1 n.1 last' passes.1 form' o.0 o.1 frame h' rs' ws' d')
      where
        Z : Environment
        Z = performs loads (store m) next s d.0 e

        d' : Does loads (store m) next stmts Z e'
        d' = subst (λ z. Does loads (store m) next stmts z e') (does_is loads (store m) next d.0 s n.0 e) d.1

        o : HasWords Z × AreBytes Z.bytes
        o = one_words m placed image memory good s d.0 e i.0 n.0 words bytes

        form' : IsForm site.bounds (apply site s st)
        form' = laws.forms site st s is form i.0

        by_write : (b : Bool) → writes_memory s ≡ b
            → ((y : ℕ) → stores_last stmts ≡ true → StandsWith (apply site s st) (machine_in m Z) y → AllRead Z.reads → Z.writes ≡ [] → Ran (applies site stmts (apply site s st)) e')
            → Ran (applies site (s ∷ stmts) st) e'
        by_write false q again =
            let last' : stores_last stmts ≡ true = subst (λ t. (if t then is_silent stmts else stores_last stmts) ≡ true) q last in
            let k = stays m placed image memory good s d.0 st e x i.0 q passes.0 form words bytes frame h in
            let may = reads_may m placed image memory good st e x form words frame h s i.0 n.0 passes.0 in
            let rs' : AllRead Z.reads = subst AllRead (sym (reads_added loads (store m) next d.0 s n.0 e)) (all_append e.reads _ rs may) in
            again k.0 last' k.1 rs' (writes_kept loads (store m) next d.0 s n.0 q e ∙ ws)
        by_write true q again =
            let last' : is_silent stmts ≡ true = subst (λ t. (if t then is_silent stmts else stores_last stmts) ≡ true) q last in
            let one = wrote m placed image memory good st e x form words frame h s d.0 i.0 q n.0 passes.0 in
            let v = one.value in
            let same = silent_accesses m placed image memory good stmts Z e' n.1 last' d' in
            let written : e'.writes ≡ v ∷ [] = same.1 ∙ one.added ∙ ap (λ l. l ++ v ∷ []) ws in
            let S : List Write → Type 0 = λ l. (touched m l ≡ true) ⊎ Stood (applies site stmts (apply site s st)) l e' in
            record {
              reads = subst AllRead (sym (same.0 ∙ one.kept)) rs;
              writes = subst AllWritten (sym written) (one.may, tt);
              stands = subst S (sym written) (⊎_elim
                  (λ (g : HitsGuard m next e s). inl (or_first _ false (one.guard g)))
                  (λ (k : WritesItsFrame (activation_after next e m s) × StandsFor (apply site s st) (machine_in (activation_after next e m s) Z)).
                  let P : Machine → Type 0 = λ z. WritesItsFrame z × StandsFor (apply site s st) (machine_in z Z) in
                  let t : P (after_write m v.at v.size) = subst P one.marks k in
                  let after : Machine = after_write m v.at v.size in
                  inr (t.0, silent_stands after (placed_after m site next after.is_written placed) image (memory_after m site loads after.is_written memory) good stmts (apply site s st) Z e' t.1.0 i.1 n.1 last' passes.1 form' o.0 o.1 t.0 t.1.1 d'))
                  (laws.stand m site next loads st e x d.0 s placed is memory form words bytes frame h i.0 passes.0));
            }
