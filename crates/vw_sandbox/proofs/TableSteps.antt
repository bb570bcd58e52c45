-- Where tables are safe, each run of an instruction's statements keeps what they assert.
use Rattle.std.proofs.Common.{◌≡◌, ℕ, suc, ◌+◌, ◌-◌, ◌*◌, ◌/◌, ◌%◌, ◌^◌, ◌<◌, ◌≤◌, ◌⊎◌, inl, inr, ⊎_elim, ◌==◌, ◌&&◌, ◌||◌, Bool, true, false, if◌then◌else◌, List, [], ◌∷◌, ◌++◌, slice_index, Option, Some, None, refl, sym, ap, ◌∙◌, subst, arith}
use Rattle.std.specs.Prelude.{Contains, is_some, nat_le, nat_lt, map, ℤ, pos, ◌+ℤ◌, ◌-ℤ◌, ◌≤ℤ◌}
use Rattle.std.specs.List.{AllByRecursion, list_any}
use Rattle.std.proofs.Math.Path.{fun_ext}
use Rattle.std.proofs.lemmas.Int.{ints}
use Rattle.std.proofs.lemmas.Bool.{false≢true, true≢false, cases_lt, eqb-true}
use Rattle.std.proofs.lemmas.Bool.Decides.{nat_tests}
use Rattle.std.proofs.Math.Nat.{mod-eq_of_lt}
use Rattle.vw_bits.specs.Fields.{load}
use Rattle.vw_bits.specs.HeaderRules.{header_fault}
use Rattle.vw_bits.specs.Words.{sign_extended}
use Rattle.vw_insn.specs.declared.registers.Width.{Width}
use Rattle.vw_image.specs.declared.stub.Stub.{Stub}
use Rattle.vw_insn.specs.declared.instruction.Insn.{Insn}
use Rattle.vw_insn.specs.declared.operations.Cond.{Cond}
use Rattle.vw_insn.specs.Conditions.{holds}
use Rattle.vw_insn.specs.Effect.{Access, Write, Next, To, Enter, Stop, Way, Ordinary, Return, Direct, Indirect, way, address, at_rsp, below_rsp, raised, lowered, relative}
use Rattle.vw_insn.specs.Listed.{IsListed}
use Rattle.vw_insn.specs.Words.{Registers, Flags, number, put, word_of}
use Rattle.vw_insn.specs.declared.registers.Reg.{Reg}
use Rattle.vw_insn.specs.declared.registers.Reg.TheVariants as reg
use Rattle.vw_stmt.specs.declared.operands.Var.{Var}
use Rattle.vw_stmt.specs.declared.operands.Var.TheVariants as var
use Rattle.vw_stmt.specs.declared.statement.Flow.{Flow}
use Rattle.vw_stmt.specs.declared.statement.Flow.TheVariants as flow
use Rattle.vw_stmt.specs.declared.statement.Stmt.{Stmt}
use Rattle.vw_stmt.specs.declared.statement.Stmt.TheVariants as stmt
use Rattle.vw_stmt.specs.Environment.{Environment, start, var_value, set_var}
use Rattle.vw_stmt.specs.Does.{flows, Does}
use Rattle.vw_stmt.specs.Lifted.{IsLifted}
use Rattle.vw_stmt.specs.Laws.{HasWords, AreBytes, HoldsWords}
use Rattle.vw_lift.specs.Lifted.{steps, flow_of, lifted}
use Rattle.vw_lift.specs.Simulation.{IsInForm, HasWord}
use Rattle.vw_names.specs.declared.spot.Spot.{Spot}
use Rattle.vw_names.specs.declared.spot.Spot.TheVariants as spot
use Rattle.vw_stack.specs.declared.offset.Offset.{Offset}
use Rattle.vw_stack.specs.declared.offset.Offset.TheVariants as offset
use Rattle.vw_values.specs.declared.value.Value.{Value}
use Rattle.vw_values.specs.declared.value.Value.TheVariants.{Entry, TableFn, JumpDest}
use Rattle.vw_values.specs.Stands.{Stands, Instance, AtEntry, IsFunction}
use Rattle.vw_values.specs.Values.{IsValue}
use Rattle.vw_layout.specs.Tables.{is_empty_tag}
use Rattle.vw_domain.specs.Abstract.{Abstract, abstract_of}
use Rattle.vw_domain.specs.Addresses.{value_of}
use Rattle.vw_domain.specs.Branches.{Rule, rule_at, MayGo, edge_state}
use Rattle.vw_domain.specs.Calls.{after_call, after_probe}
use Rattle.vw_domain.specs.Changes.{call, is_kept, is_register}
use Rattle.vw_domain.specs.Checks.{MayReturn, MayPush, MayPushAt, HasHeapBase}
use Rattle.vw_domain.specs.FormRanges.{IsForm, IsStateForm}
use Rattle.vw_domain.specs.Operands.{index_of}
use Rattle.vw_domain.specs.Sites.{Site, Plain, IsSite}
use Rattle.vw_domain.specs.Soundness.{IsPlaced, IsMemory, HasImage, ReadPermitted, of_heap, of_instance, of_globals, of_image, of_written, of_arguments, WritePermitted, in_heap, in_globals, in_frame, store, after_write, held_of, machine_in}
use Rattle.vw_domain.specs.Stands.{Machine, StandsWith, StandsFor, WritesItsFrame, OffsetStands}
use Rattle.vw_domain.specs.State.{entry_state}
use Rattle.vw_domain.specs.Statements.{applies, finish}
use Rattle.vw_image.specs.Image.{image_of}
use Rattle.vw_layout.specs.declared.functions.Function.{Function}
use Rattle.vw_layout.specs.declared.layout.Module.{Module as Declared}
use Rattle.vw_layout.specs.Layout.{IsModule}
use Rattle.vw_state.specs.Context.{extent_of}
use Rattle.vw_state.specs.Sites.{site_word, may_be_read, site_of}
use Rattle.vw_machine.specs.declared.world.World.{World}
use Rattle.vw_machine.specs.declared.choice.Choice.{Choice}
use Rattle.vw_machine.specs.declared.event.Event.TheVariants.{Read}
use Rattle.vw_machine.specs.World.{Range, IsLaidOut, touches, guard_range, loaded_range, is_within}
use Rattle.vw_machine.specs.Module.{ModuleView, declared_module, view_of}
use Rattle.vw_machine.specs.State.{Bytes, Activation, is_one_of, is_in_frame, mark, after_writes, store as machine_store}
use Rattle.vw_machine.specs.Step.{is_saved, loads, accesses, does_trap}
use Rattle.vw_machine.specs.Permitted.{is_pointer, MayDo, MayRead, MayWrite, IsReadableAt}
use Rattle.vw_sandbox.specs.Claims.{IsProbeStub}
use Rattle.vw_sandbox.specs.Maps.{Map, IsTypedFrom}
use Rattle.vw_sandbox.specs.Assertions.{Moment, SavesRegisters, IsRunning, IsPushed, Lands as Arrives, Resumes, ResumesProbed, IsBehind, of_callee, of_probe, GoesBy}
use Rattle.vw_sandbox.specs.Stated.{moment_in, IsRunKept, IsPointStated, AreStated}
use Rattle.vw_sandbox.specs.Tables.{Tables, Bounds, site_at, Lands, IsProbeAt, Calls, EdgeLands, Follows, IsSafeAt, AreSafe, IsMapOf}
use Rattle.vw_sandbox.proofs.DomainLaws.{DomainLaws, WritesInFrame}
use Rattle.vw_sandbox.proofs.StatementRuns.{WordsStay, Ran, ran, touched, marking, Stood}
use Rattle.vw_sandbox.proofs.InstructionLists.{way_of, way_is, ret_alone, is_call, call_last, WritesNothing, nothing_written, prefix_all, prefix_stores, no_flow, does_then, call_registers}
use Rattle.vw_machine.proofs.Regions.{stack_ends}
use Rattle.vw_sandbox.proofs.EntryStates.{entry_writes, entry_stands}
use Rattle.vw_sandbox.proofs.Sites.{SiteLaws, any_extent, instance_of, machine_of, is_site, is_placed, is_memory, has_image, has_tables, byte_is, plain_bytes, pointer_is, entry_is, contains_got}
use Rattle.vw_sandbox.proofs.Stating.{holds_words}
use Rattle.vw_domain.proofs.Memory.{whole_stored}
use Rattle.vw_sandbox.proofs.Stores.{at_word, whole_address}

-- ---- stores and marks

one_less : (q n : ℕ) → nat_le (q + 1) n ≡ nat_lt q n
one_less q n = by_test (nat_lt q n) refl
  where
    by_test : (b : Bool) → nat_lt q n ≡ b → nat_le (q + 1) n ≡ b
    by_test true e = grind (arith, nat_tests)
    by_test false e = grind (arith, nat_tests)

-- the machine's stores are those of the equations
store_same : (w : World) (m : Machine) → m.stack_start ≡ w.stack_low → m.stack_end ≡ w.stack_high → machine_store w ≡ store m
store_same w m low high = fun_ext (λ bytes. fun_ext (λ a. fun_ext (λ n. fun_ext (λ v. fun_ext (λ q. byte_same bytes a n v q)))))
  where
    byte_same : (bytes : ℕ → ℕ) (a n v q : ℕ) → machine_store w bytes a n v q ≡ store m bytes a n v q
    byte_same bytes a n v q =
        ap (λ b. if (nat_le w.stack_low q && b) && (nat_le a q && nat_le (q + 1) (a + n)) then v / 256 ^ (q - a) % 256 else bytes q) (one_less q w.stack_high)
        ∙ ap (λ b. if (nat_le w.stack_low q && nat_lt q w.stack_high) && (nat_le a q && b) then v / 256 ^ (q - a) % 256 else bytes q) (one_less q (a + n))
        ∙ ap (λ k. if (nat_le k q && nat_lt q w.stack_high) && (nat_le a q && nat_lt q (a + n)) then v / 256 ^ (q - a) % 256 else bytes q) (sym low)
        ∙ ap (λ k. if (nat_le m.stack_start q && nat_lt q k) && (nat_le a q && nat_lt q (a + n)) then v / 256 ^ (q - a) % 256 else bytes q) (sym high)

bools : (a b c d e t : Bool) → ((((a && b) && c) && (d && e)) || t) ≡ (((a && b) && ((d && e) && c)) || t)
bools false b c d e t = refl
bools true false c d e t = refl
bools true true true true true t = refl
bools true true true true false t = refl
bools true true true false e t = refl
bools true true false true true t = refl
bools true true false true false t = refl
bools true true false false e t = refl

module _ (m : ModuleView) (w : World) (entered : Registers) (now : Moment) (tmp : ℕ) where
  mark_same : (top : Activation) (a n : ℕ) → machine_of m w entered (mark w top a n) now tmp ≡ after_write (machine_of m w entered top now tmp) a n
  mark_same top a n =
      ap (λ (f : ℕ → Bool). record (machine_of m w entered top now tmp) { is_written = f }) (fun_ext (λ q. by_byte q))
    where
      by_byte : (q : ℕ) → ((is_in_frame w top q && is_one_of a n q) || top.written q) ≡ (((nat_le w.stack_low q && nat_lt q w.stack_high) && ((nat_le a q && nat_lt q (a + n)) && nat_lt q top.rsp0)) || top.written q)
      by_byte q =
          ap (λ b. (((nat_le w.stack_low q && b) && nat_lt q top.rsp0) && (nat_le a q && nat_le (q + 1) (a + n))) || top.written q) (one_less q w.stack_high)
          ∙ ap (λ b. (((nat_le w.stack_low q && nat_lt q w.stack_high) && nat_lt q top.rsp0) && (nat_le a q && b)) || top.written q) (one_less q (a + n))
          ∙ bools (nat_le w.stack_low q) (nat_lt q w.stack_high) (nat_lt q top.rsp0) (nat_le a q) (nat_lt q (a + n)) (top.written q)

  marks_same : (ws : List Write) (top : Activation) → machine_of m w entered (after_writes w top ws) now tmp ≡ marking (machine_of m w entered top now tmp) ws
  marks_same [] top = refl
  marks_same (v ∷ ws) top = marks_same ws (mark w top v.at v.size) ∙ ap (λ z. marking z ws) (mark_same top v.at v.size)

instance_kept : (m : Machine) (ws : List Write) → (marking m ws).instance ≡ m.instance
instance_kept m [] = refl
instance_kept m (v ∷ ws) = instance_kept (after_write m v.at v.size) ws

-- marks do not depend on registers, flags and bytes
marking_moved : (m : Machine) (registers : ℕ → ℕ) (flags : Flags) (bytes : ℕ → ℕ) (ws : List Write)
    → marking (record m { registers = registers; flags = flags; byte = bytes }) ws ≡ record (marking m ws) { registers = registers; flags = flags; byte = bytes }
marking_moved m registers flags bytes [] = refl
marking_moved m registers flags bytes (v ∷ ws) = marking_moved (after_write m v.at v.size) registers flags bytes ws

kept_by_writes : (w : World) (top : Activation) (ws : List Write) → ((after_writes w top ws).entry ≡ top.entry) × ((after_writes w top ws).rsp0 ≡ top.rsp0) × ((after_writes w top ws).back ≡ top.back)
kept_by_writes w top [] = (refl, refl, refl)
kept_by_writes w top (v ∷ ws) = kept_by_writes w (mark w top v.at v.size) ws

-- ---- what traps

or_second : (a b : Bool) → b ≡ true → (a || b) ≡ true
or_second true b e = refl
or_second false b e = e

or_first : (a b : Bool) → a ≡ true → (a || b) ≡ true
or_first a b e = ap (λ t. t || b) e

or_cases : (a b : Bool) → (a || b) ≡ true → (a ≡ true) ⊎ (b ≡ true)
or_cases true b e = inl refl
or_cases false b e = inr e

any_append : (f : Access → Bool) (xs ys : List Access) → list_any f ys ≡ true → list_any f (xs ++ ys) ≡ true
any_append f [] ys h = h
any_append f (x ∷ xs) ys h = or_second (f x) _ (any_append f xs ys h)

any_map : (f : Access → Bool) (ws : List Write) → list_any (λ v. f (record { at = v.at; size = v.size })) ws ≡ true → list_any f (map (λ v. record { at = v.at; size = v.size }) ws) ≡ true
any_map f [] h = h
any_map f (v ∷ ws) h = ⊎_elim (λ (l : f (record { at = v.at; size = v.size }) ≡ true). or_first _ _ l) (λ (l : list_any (λ v. f (record { at = v.at; size = v.size })) ws ≡ true). or_second _ _ (any_map f ws l)) (or_cases _ _ h)

-- a touched guard makes the step a trap
guard_traps : (w : World) (i : Insn) (rs : List Access) (ws : List Write) (choice : Choice) → list_any (λ v. touches v.at v.size (guard_range w)) ws ≡ true → does_trap w i (accesses rs ws) choice ≡ true
guard_traps w i rs ws choice h = or_first _ _ (any_append (λ a. touches a.at a.size (guard_range w)) rs _ (any_map (λ a. touches a.at a.size (guard_range w)) ws h))

all_by : {X : Type 0} (P Q : X → Type 0) (xs : List X) → ((x : X) → P x → Q x) → AllByRecursion P xs → AllByRecursion Q xs
all_by P Q [] f h = tt
all_by P Q (x ∷ xs) f h = (f x h.0, all_by P Q xs f h.1)

held_reg : (e : Environment) (r : Reg) → (if number r == 16 then e.tmp else e.registers (number r)) ≡ e.registers (number r)
held_reg e reg.Rax = refl
held_reg e reg.Rcx = refl
held_reg e reg.Rdx = refl
held_reg e reg.Rbx = refl
held_reg e reg.Rsp = refl
held_reg e reg.Rbp = refl
held_reg e reg.Rsi = refl
held_reg e reg.Rdi = refl
held_reg e reg.R8 = refl
held_reg e reg.R9 = refl
held_reg e reg.R10 = refl
held_reg e reg.R11 = refl
held_reg e reg.R12 = refl
held_reg e reg.R13 = refl
held_reg e reg.R14 = refl
held_reg e reg.R15 = refl

held_var : (e : Environment) (v : Var) → held_of e (index_of v) ≡ var_value e v
held_var e (var.Reg r) = held_reg e r
held_var e var.Tmp = refl

some_is : {A : Type 0} {a b : A} → Some a ≡ Some b → a ≡ b
some_is e = cc

some_of : {A : Type 0} (o : Option A) → is_some o ≡ true → (x : A) × (o ≡ Some x)
some_of None e = absurd (false≢true e)
some_of (Some x) e = (x, refl)

-- the address and the number of entries of each table
abbrev extents_in : Declared → List (ℕ × ℕ)
extents_in declared = map extent_of declared.tables

-- ---- what tables assert

module _ (domain : DomainLaws) (words_stay : WordsStay) (laws : SiteLaws) (in_form : (i : Insn) → IsListed i → HasWord i → IsInForm (lifted i))
    (file : List ℕ) (is : IsModule file) (headers : header_fault file ≡ None) (image_bytes : (a : ℕ) → slice_index (image_of file).bytes a < 256)
    (bounds : Bounds) (tables : Tables) (map : Map) where
  abbrev declared : Declared
  declared = declared_module file

  abbrev m : ModuleView
  m = view_of declared

  -- the state of the point stands, whatever is in the register that lives within one instruction
  pub record Asserts (w : World) (f : Function) (point : ℕ) (entered : Registers) (top : Activation) (now : Moment) : Type 0 where
    pub st : Abstract
    pub there : tables f.entry point ≡ Some st
    pub form : IsStateForm (bounds f) st
    pub stands : (tmp : ℕ) → StandsFor st (machine_of m w entered top now tmp)

  module _ (safe : AreSafe declared bounds tables) (is_map : IsMapOf declared bounds tables map)
      (w : World) (laid : IsLaidOut m.image m.imports w) (hosts_are : (number : ℕ) → slice_index w.hosts number < 2 ^ 64) (bytes_are : (a : ℕ) → m.byte w a < 256) where
    abbrev At : Function → ℕ → Registers → Activation → Moment → Type 0
    At = Asserts w

    -- ---- landing at a point

    module _ (f : Function) (listed : Contains declared.functions f) (entered : Registers) where
      abbrev site : ℕ → Site
      site next = site_at declared bounds tables f next

      site_is : (next : ℕ) → IsSite (site next)
      site_is next = is_site laws file is headers image_bytes (bounds f) (safe.bounded f listed) (f.entry + next)

      placed : (top : Activation) (now : Moment) (tmp next at : ℕ) → at ≡ w.load + (f.entry + next) → IsPlaced (machine_of m w entered top now tmp) (site next) at
      placed top now tmp next at e = is_placed laws file is headers image_bytes w laid hosts_are entered top now tmp (bounds f) (f.entry + next) at e

      landed : (st : Abstract) (to : ℕ) → Lands declared bounds tables f st to → WritesInFrame st → (top : Activation) (now : Moment) → WritesItsFrame (machine_of m w entered top now 0)
          → ((tmp : ℕ) → StandsFor st (machine_of m w entered top now tmp)) → Asserts w f to entered top now
      landed st to lands writes top now frame stands = record {
        st = lands.high;
        there = lands.there;
        form = lands.form;
        stands = λ tmp. let k = stands tmp in
            (k.0, domain.lower (site 0) (machine_of m w entered top now tmp) (w.load + (f.entry + 0)) st lands.high k.0 (placed top now tmp 0 _ refl) (site_is 0) writes lands.form.form frame lands.above k.1);
      }

      -- a point with a state is one of the function, and the map tells so
      inside : (st : Abstract) (to : ℕ) → Lands declared bounds tables f st to → to < f.size
      inside st to lands = (safe.each f to lands.high listed lands.there).stands.begins

      is_point : (st : Abstract) (to : ℕ) → Lands declared bounds tables f st to → map.is_point f.entry to ≡ true
      is_point st to lands = is_map.points f to listed ∙ ap is_some lands.there

      arrives : (st : Abstract) (to at : ℕ) (lands : Lands declared bounds tables f st to) → at ≡ w.load + f.entry + to → WritesInFrame st → (top : Activation) (now : Moment) → WritesItsFrame (machine_of m w entered top now 0)
          → ((tmp : ℕ) → StandsFor st (machine_of m w entered top now tmp)) → Arrives m w map At f entered top now at
      arrives st to at lands e writes top now frame stands =
          record { point = to; inside = inside st to lands; has_state = is_point st to lands; at = e; holds = landed st to lands writes top now frame stands }

    -- ---- what is permitted

    may_read : (entered : Registers) (top : Activation) (now : Moment) (tmp next : ℕ) (members : List ℕ) (a n : ℕ) → ReadPermitted (machine_of m w entered top now tmp) (site_of declared.image (extents_in declared) members next) a n → MayRead m w top a n
    may_read entered top now tmp next members a n (of_heap h) = inl h
    may_read entered top now tmp next members a n (of_instance e k) = inr (inl (omega (arith, laid.room_below_heap), k))
    may_read entered top now tmp next members a n (of_globals h) = inr (inr (inl h))
    may_read entered top now tmp next members a n (of_image b e r) = inr (inr (inr (inl (λ q l u. readable_at q (q - a) (omega arith) (r (q - a) (omega arith))))))
      where
        readable_at : (q k : ℕ) → q ≡ w.load + (b + k) → may_be_read declared.image (extents_in declared) (b + k) ≡ true → IsReadableAt m w q
        readable_at q k at may =
            let found = part_of m.image (byte_is laws file is headers image_bytes w laid hosts_are entered (b + k) may).0 in
            record {
              part = found.0;
              of_image = found.1;
              inside = (omega (arith, at, found.2), omega (arith, at, found.3));
              may_read =
                  ap (λ t. m.is_readable (q - w.load) || t) (sym (any_extent (q - w.load) declared.tables))
                  ∙ subst (λ x. may_be_read declared.image (extents_in declared) x ≡ true) (omega (arith, at)) may;
            }
          where
            part_of : (parts : List Range) → list_any (λ part. is_within (w.load + (b + k)) 1 (loaded_range w part)) parts ≡ true → (part : Range) × Contains parts part × (w.load + part.from ≤ w.load + (b + k)) × (w.load + (b + k) < w.load + part.to)
            part_of [] e = absurd (false≢true e)
            part_of (part ∷ parts) e = ⊎_elim
                (λ (t : is_within (w.load + (b + k)) 1 (loaded_range w part) ≡ true). let l = within part t in (part, (0, omega arith, refl), l.0, l.1))
                (λ (t : list_any (λ part. is_within (w.load + (b + k)) 1 (loaded_range w part)) parts ≡ true). let rest = part_of parts t in (rest.0, (suc rest.1.0, omega (arith, rest.1.1), rest.1.2), rest.2, rest.3))
                (or_cases _ _ e)
              where
                within : (part : Range) → is_within (w.load + (b + k)) 1 (loaded_range w part) ≡ true → (w.load + part.from ≤ w.load + (b + k)) × (w.load + (b + k) < w.load + part.to)
                within part t = (grind (arith, nat_tests), grind (arith, nat_tests))
    may_read entered top now tmp next members a n (of_written h) = inr (inr (inr (inr (inl h))))
    may_read entered top now tmp next members a n (of_arguments h) = inr (inr (inr (inr (inr h))))

    may_write : (entered : Registers) (top : Activation) (now : Moment) (tmp a n : ℕ) → WritePermitted (machine_of m w entered top now tmp) a n → MayWrite m w top a n
    may_write entered top now tmp a n (in_heap h) = inl h
    may_write entered top now tmp a n (in_globals h) = inr (inl h)
    may_write entered top now tmp a n (in_frame h) = inr (inr h)

    do_read : (top : Activation) (k : Way) → (k ≡ Return → ⊥) → (a n : ℕ) → MayRead m w top a n → MayDo m w top k (Read a n)
    do_read top Ordinary plain a n h = h
    do_read top Return plain a n h = absurd (plain refl)
    do_read top Direct plain a n h = h
    do_read top Indirect plain a n h = h

    -- ---- one instruction

    module _ (code_ends : (f : Function) → Contains declared.functions f → w.load + f.entry + f.size ≤ 2 ^ 47)
        (stub_low : (place : ℕ) (stub : Stub) → m.stub place ≡ Some stub → w.load + place < 2 ^ 47)
        (no_stub : (g : Function) → Contains declared.functions g → (stub : Stub) → m.stub g.entry ≡ Some stub → ⊥)
        (f : Function) (listed : Contains declared.functions f) (point : ℕ) (st : Abstract) (there : tables f.entry point ≡ Some st) where
      pub at : IsSafeAt declared bounds tables f point st
      at = safe.each f point st listed there

      abbrev i : Insn
      i = at.i

      -- the point of the next instruction, and its address
      abbrev behind : ℕ
      behind = point + at.len

      abbrev next : ℕ
      next = w.load + f.entry + point + at.len

      abbrev here : Site
      here = site_at declared bounds tables f behind

      abbrev end_state : Abstract
      end_state = applies here (steps i) st

      next_is : next ≡ w.load + (f.entry + behind)
      next_is = omega arith

      next_at : next ≡ w.load + f.entry + behind
      next_at = omega arith

      next_low : next ≤ 2 ^ 47
      next_low = omega (arith, at.stands.inside, code_ends f listed)

      module _ (entered : Registers) (top : Activation) (now : Moment) (running : IsRunning m w f top now) (form : IsStateForm (bounds f) st) (choice : Choice) (tmp : ℕ) (small : tmp < 2 ^ 64)
          (stands : StandsFor st (machine_of m w entered top now tmp)) where
        abbrev M : Machine
        M = machine_of m w entered top now tmp

        abbrev loaded : (ℕ → ℕ) → ℕ → ℕ → ℕ
        loaded = loads m w choice

        good : HoldsWords loaded (store M)
        good = subst (HoldsWords loaded) (store_same w M refl refl) (holds_words m w laid bytes_are choice)

        here_is : IsSite here
        here_is = site_is f listed entered behind

        placed_here : IsPlaced M here next
        placed_here = placed f listed entered top now tmp behind next next_is

        image_here : HasImage (instance_of m w entered) here
        image_here = has_image laws file is headers image_bytes w laid hosts_are entered (bounds f) (f.entry + behind)

        memory_here : IsMemory M here loaded
        memory_here = is_memory laws file is headers image_bytes w laid hosts_are entered top now tmp (bounds f) (f.entry + behind) choice

        abbrev RanTo : Environment → Type 0
        RanTo mid = Ran domain words_stay here next here_is loaded M placed_here image_here memory_here good end_state mid

        abbrev first : Environment
        first = start now.registers tmp now.flags now.bytes

        -- a run of the statements: of those but the last to an environment, and then of that
        record Run (e : Environment) : Type 0 where
          mid : Environment
          ran_to : RanTo mid
          words : HasWords mid
          fits : AreBytes mid.bytes
          alone : steps i ≡ [] → mid ≡ first
          unchanged : is_call (flow_of i) ≡ true → mid.registers ≡ now.registers
          unwritten : WritesNothing (steps i) → mid.writes ≡ []
          last : flows loaded (store M) next (flow_of i) mid ≡ e

        run : (e : Environment) → Does loaded (machine_store w) next (lifted i) first e → Run e
        run e d =
            let d' : Does loaded (store M) next (lifted i) first e = subst (λ (s : (ℕ → ℕ) → ℕ → ℕ → ℕ → ℕ → ℕ). Does loaded s next (lifted i) first e) (store_same w M refl refl) d in
            let listing = in_form i at.listed at.word in
            let r = does_then loaded (store M) next (steps i) (stmt.Flow (flow_of i)) first e d' in
            let fields = prefix_all IsLifted (steps i) (stmt.Flow (flow_of i) ∷ []) listing.fields in
            let plain = no_flow (steps i) (stmt.Flow (flow_of i)) listing.flow in
            let words : HasWords first = record { in_registers = running.words.registers; in_tmp = small } in
            let wide = words_stay loaded (store M) next (steps i) good fields first r.0 words running.words.bytes r.1 in
            record {
              mid = r.0;
              ran_to = ran domain words_stay here next here_is loaded M placed_here image_here memory_here good (steps i) st first r.0 stands.0 fields plain (prefix_stores (steps i) (stmt.Flow (flow_of i) ∷ []) listing.stores) (at.passes form) form.form words running.words.bytes running.framed.written stands.1 tt refl r.1;
              words = wide.0;
              fits = wide.1;
              alone = λ e. alone_at (steps i) first r.0 e r.1;
              unchanged = λ c. call_registers loaded (store M) next i c first r.0 r.1;
              unwritten = λ q. nothing_written loaded (store M) next (steps i) first r.0 plain q r.1;
              last = r.3;
            }
          where
            alone_at : (xs : List Stmt) (e e' : Environment) → xs ≡ [] → Does loaded (store M) next xs e e' → e' ≡ e
            alone_at [] e e' none d = sym d
            alone_at (x ∷ xs) e e' none d = absurd (let never : x ∷ xs ≡ [] = none in cc)

        module _ (mid : Environment) (ran_to : RanTo mid) (words : HasWords mid) (fits : AreBytes mid.bytes) where
          abbrev caller : Activation
          caller = after_writes w top mid.writes

          abbrev trapped : Environment → Bool
          trapped z = does_trap w i (accesses z.reads z.writes) choice

          -- what is owed for a run that leaves this environment
          record Owed (k : Way) (z : Environment) : Type 0 where
            reads : AllByRecursion (λ a. MayDo m w top k (Read a.at a.size)) z.reads
            writes : AllByRecursion (λ v. MayWrite m w top v.at v.size) z.writes
            goes : trapped z ≡ false → GoesBy m w map At f point behind entered top (after_writes w top z.writes) now (moment_in z) next k z.transfer

          may_reads : (k : Way) → (k ≡ Return → ⊥) → AllByRecursion (λ a. MayDo m w top k (Read a.at a.size)) mid.reads
          may_reads k plain = all_by _ _ mid.reads (λ a r. do_read top k plain a.at a.size (may_read entered top now tmp (f.entry + behind) (bounds f) a.at a.size r)) ran_to.reads

          may_writes : AllByRecursion (λ v. MayWrite m w top v.at v.size) mid.writes
          may_writes = all_by _ _ mid.writes (λ v r. may_write entered top now tmp v.at v.size r) ran_to.writes

          -- what stands after the statements, where the step does not trap
          abbrev Stays : Type 0
          Stays = Stood domain words_stay here next here_is loaded M placed_here image_here memory_here good end_state mid.writes mid

          stood : trapped mid ≡ false → Stays
          stood free = ⊎_elim
              (λ (t : touched M mid.writes ≡ true). absurd (true≢false (sym (guard_traps w i mid.reads mid.writes choice t) ∙ free)))
              (λ (k : Stays). k)
              ran_to.stands

          end_form : IsForm (bounds f) end_state
          end_form = domain.lists here st (steps i) here_is form.form (prefix_all IsLifted (steps i) (stmt.Flow (flow_of i) ∷ []) (in_form i at.listed at.word).fields)

          finished_form : IsForm (bounds f) (finish end_state)
          finished_form = domain.end_forms here end_state here_is end_form

          -- the machine after the statements, with another number in the register of one instruction
          moved : (t : ℕ) → machine_of m w entered caller (moment_in mid) t ≡ machine_in (marking M mid.writes) (set_var mid var.Tmp t)
          moved t = marks_same m w entered (moment_in mid) t mid.writes top ∙ marking_moved M (λ q. if q == 16 then t else mid.registers q) mid.flags mid.bytes mid.writes

          frame_after : Stays → WritesItsFrame (machine_of m w entered caller (moment_in mid) 0)
          frame_after k = subst WritesItsFrame (sym (moved 0)) k.0

          finished : (k : Stays) (t : ℕ) → StandsWith (finish end_state) (machine_of m w entered caller (moment_in mid) t) k.1.0
          finished k t =
              subst (λ (z : Machine). StandsWith (finish end_state) z k.1.0) (sym (moved t)) (domain.ends (bounds f) (marking M mid.writes) end_state mid k.1.0 t end_form k.0 k.1.1)

          to_point : (k : Stays) (to goal : ℕ) → Lands declared bounds tables f (finish end_state) to → goal ≡ w.load + f.entry + to → Arrives m w map At f entered caller (moment_in mid) goal
          to_point k to goal lands e = arrives f listed entered (finish end_state) to goal lands e finished_form.written caller (moment_in mid) (frame_after k) (λ t. (k.1.0, finished k t))

          -- a relative target in the function
          relative_is : (to : ℕ) (rel : ℤ) → to < f.size → pos to ≡ pos behind +ℤ rel → relative next rel ≡ w.load + f.entry + to
          relative_is to rel inside goal = at_word next (w.load + f.entry + to) rel (omega (arith, ints, goal)) (omega (arith, code_ends f listed, inside)) (omega (arith, next_low))

          next_step : Lands declared bounds tables f (finish end_state) behind → Owed Ordinary (record mid { transfer = Next })
          next_step lands = record { reads = may_reads Ordinary (λ e. cc); writes = may_writes; goes = λ free. to_point (stood free) behind next lands next_at }

          jump_step : (rel : ℤ) (to : ℕ) → pos to ≡ pos behind +ℤ rel → Lands declared bounds tables f (finish end_state) to → Owed Ordinary (record mid { transfer = To (relative next rel) })
          jump_step rel to goal lands = record {
            reads = may_reads Ordinary (λ e. cc);
            writes = may_writes;
            goes = λ free. to_point (stood free) to (relative next rel) lands (relative_is to rel (inside f listed entered _ to lands) goal);
          }

          edge_writes : (places : List Spot) (r : Option (Width × Rule)) → WritesInFrame (edge_state here places (finish end_state) r)
          edge_writes places None = finished_form.written
          edge_writes places (Some r) = finished_form.written

          module _ (places : List Spot) (cond : Cond) where
            abbrev Taken : Bool → Option (Width × Rule)
            Taken taken = rule_at cond taken (finish end_state).fact

            takes : (k : Stays) (taken : Bool) → holds cond mid.flags ≡ taken → (t : ℕ)
                → MayGo here places (finish end_state) (Taken taken) × StandsWith (edge_state here places (finish end_state) (Taken taken)) (machine_of m w entered caller (moment_in mid) t) k.1.0
            takes k taken c t =
                domain.branches here (machine_of m w entered caller (moment_in mid) t) next (finish end_state) k.1.0 places cond taken (placed f listed entered caller (moment_in mid) t behind next next_is) here_is
                (has_tables laws file is headers image_bytes w laid hosts_are entered) finished_form (frame_after k) (finished k t) c

            edge_to : (k : Stays) (taken : Bool) (to goal : ℕ) → holds cond mid.flags ≡ taken → EdgeLands declared bounds tables f behind end_state places (Taken taken) to → goal ≡ w.load + f.entry + to
                → Arrives m w map At f entered caller (moment_in mid) goal
            edge_to k taken to goal c lands e =
                arrives f listed entered (edge_state here places (finish end_state) (Taken taken)) to goal (lands (takes k taken c 0).0) e (edge_writes places (Taken taken)) caller (moment_in mid) (frame_after k) (λ t. (k.1.0, (takes k taken c t).1))

            branch_step : (rel : ℤ) (to : ℕ) → pos to ≡ pos behind +ℤ rel → to < f.size → EdgeLands declared bounds tables f behind end_state places (Taken true) to → EdgeLands declared bounds tables f behind end_state places (Taken false) behind
                → Owed Ordinary (record mid { transfer = if holds cond mid.flags then To (relative next rel) else Next })
            branch_step rel to goal inside taken not_taken = by_cond (holds cond mid.flags) refl
              where
                by_cond : (b : Bool) → holds cond mid.flags ≡ b → Owed Ordinary (record mid { transfer = if b then To (relative next rel) else Next })
                by_cond true c = record { reads = may_reads Ordinary (λ e. cc); writes = may_writes; goes = λ free. edge_to (stood free) true to (relative next rel) c taken (relative_is to rel inside goal) }
                by_cond false c = record { reads = may_reads Ordinary (λ e. cc); writes = may_writes; goes = λ free. edge_to (stood free) false behind next c not_taken next_at }

          stop_step : Owed Ordinary (record mid { transfer = Stop })
          stop_step = record { reads = may_reads Ordinary (λ e. cc); writes = may_writes; goes = λ free. tt }

          jump_reg_step : (src : Var) (a k : ℕ) → value_of end_state (index_of src) ≡ JumpDest a k
              → ((j : ℕ) → j < k → (x : ℕ) × (site_word (image_of file) (a + 4 * j) 4 ≡ Plain x) × (to : ℕ) × ((a + sign_extended x 4) % 2 ^ 64 ≡ f.entry + to) × Lands declared bounds tables f (finish end_state) to)
              → Owed Ordinary (record mid { transfer = To (var_value mid src) })
          jump_reg_step src a k value edges = record {
            reads = may_reads Ordinary (λ e. cc);
            writes = may_writes;
            goes = λ free. let s = stood free in let g = goal s in to_point s g.0 (var_value mid src) g.2 g.1;
          }
            where
              goal : Stays → (to : ℕ) × (var_value mid src ≡ w.load + f.entry + to) × Lands declared bounds tables f (finish end_state) to
              goal s =
                  let P : Value → Type 0 = λ v. Stands (marking M mid.writes).instance (held_of mid) v (held_of mid (index_of src)) in
                  let d = subst P value (s.1.1.values (spot.Reg (index_of src))) in
                  let e = edges d.0 d.1 in
                  let inside = inside f listed entered _ e.2 e.4 in
                  let same : load (m.byte w) (a + 4 * d.0) 4 ≡ e.0 = plain_bytes laws file is headers image_bytes w laid hosts_are (a + 4 * d.0) 4 e.0 e.1 in
                  (e.2, sym (held_var mid src) ∙ d.2 ∙ place_of s d.0 e.0 same e.2 e.3 (omega (arith, code_ends f listed, inside)), e.4)
                where
                  place_of : Stays → (j x : ℕ) → load (m.byte w) (a + 4 * j) 4 ≡ x → (to : ℕ) → (a + sign_extended x 4) % 2 ^ 64 ≡ f.entry + to → w.load + f.entry + to < 2 ^ 64
                      → ((marking M mid.writes).instance.load + a + sign_extended (load (marking M mid.writes).instance.byte (a + 4 * j) 4) 4) % 2 ^ 64 ≡ w.load + f.entry + to
                  place_of s j x same to e low =
                      ap (λ (z : Instance). (z.load + a + sign_extended (load z.byte (a + 4 * j) 4) 4) % 2 ^ 64) (instance_kept M mid.writes)
                      ∙ ap (λ z. (w.load + a + sign_extended z 4) % 2 ^ 64) same ∙ sum (sign_extended x 4) e
                    where
                      sum : (z : ℕ) → (a + z) % 2 ^ 64 ≡ f.entry + to → (w.load + a + z) % 2 ^ 64 ≡ w.load + f.entry + to
                      sum z e = omega (arith, low)

        -- ---- a return

        put_other : (registers : Registers) (q v : ℕ) → is_saved q ≡ true → put registers 4 v q ≡ registers q
        put_other registers q v s = by_test (q == 4) refl
          where
            by_test : (b : Bool) → (q == 4) ≡ b → (if b then v else registers q) ≡ registers q
            by_test true e = absurd (false≢true (ap is_saved (sym (eqb-true q 4 e)) ∙ s))
            by_test false e = refl

        -- a saved register in which the state has its own entry value
        saved_is : (e : Environment) (x : ℕ) → StandsWith end_state (machine_in M e) x → (q : ℕ) → is_saved q ≡ true → value_of end_state q ≡ Entry q → e.registers q ≡ entered q
        saved_is e x h q s v =
            sym (not_16 (q == 16) refl) ∙ (let P : Value → Type 0 = λ v. Stands M.instance (held_of e) v (held_of e q) in subst P v (h.values (spot.Reg q)))
          where
            not_16 : (b : Bool) → (q == 16) ≡ b → (if b then e.tmp else e.registers q) ≡ e.registers q
            not_16 true t = absurd (false≢true (ap is_saved (sym (eqb-true q 16 t)) ∙ s))
            not_16 false t = refl

        offset_is : (o : Offset) (c : ℤ) (x : ℕ) → o ≡ offset.Known c → OffsetStands top.rsp0 o x → x ≡ (top.rsp0 + word_of c) % 2 ^ 64
        offset_is o c x e h = subst (λ o. OffsetStands top.rsp0 o x) e h

        module _ (ran_to : RanTo first) where
          ret_step : steps i ≡ [] → MayReturn end_state → Owed first ran_to (record { in_registers = running.words.registers; in_tmp = small }) running.words.bytes Return (flows loaded (store M) next flow.Ret first)
          ret_step alone may = record {
            reads = ((here_at, refl), tt);
            writes = tt;
            goes = λ free. (got, raised_is, saves);
          }
            where
              h : StandsWith end_state (machine_in M first) stands.0
              h = subst (λ (s : Abstract). StandsWith s (machine_in M first) stands.0) (sym (ap (λ l. applies here l st) alone)) stands.1

              high : top.rsp0 + 4104 ≤ w.stack_high
              high = running.framed.high

              ends : w.stack_high ≤ 2 ^ 47
              ends = stack_ends laid

              rsp : now.registers 4 ≡ top.rsp0
              rsp = let e = offset_is (end_state.offsets 4) (pos 0) (now.registers 4) may.rsp (h.offsets 4) in omega (arith, high, ends, e)

              here_at : address next now.registers at_rsp ≡ top.rsp0
              here_at = omega (arith, rsp, high, ends)

              raised_is : raised (now.registers 4) ≡ top.rsp0 + 8
              raised_is = omega (arith, rsp, high, ends)

              got : loaded now.bytes (address next now.registers at_rsp) 8 ≡ top.back
              got = ap (λ x. loaded now.bytes x 8) here_at ∙ memory_here.in_stack now.bytes top.rsp0 8 running.framed.low (omega (arith, high)) ∙ running.return

              saves : SavesRegisters entered (put now.registers 4 (raised (now.registers 4)))
              saves q s = put_other now.registers q _ s ∙ saved_is first stands.0 h q s (may.saved q s)

        -- ---- calls

        module _ (mid : Environment) (ran_to : RanTo mid) (words : HasWords mid) (fits : AreBytes mid.bytes) (quiet : mid.writes ≡ []) (same_registers : mid.registers ≡ now.registers) where
          abbrev v : Write
          v = record { at = address next mid.registers below_rsp; size = 8; value = next }

          -- the caller, once the return address is pushed
          abbrev pushing : Activation
          pushing = mark w top v.at 8

          abbrev pushed : Bytes
          pushed = store M mid.bytes v.at 8 next

          abbrev in_callee : Registers
          in_callee = put mid.registers 4 (lowered (mid.registers 4))

          -- what is left by a call
          abbrev after_push : Moment
          after_push = record { registers = in_callee; flags = mid.flags; bytes = pushed }

          standing : StandsFor end_state (machine_in M mid)
          standing = by_stands (subst (λ (ws : List Write). (touched M ws ≡ true) ⊎ Stood domain words_stay here next here_is loaded M placed_here image_here memory_here good end_state ws mid) quiet ran_to.stands)
            where
              by_stands : (false ≡ true) ⊎ Stood domain words_stay here next here_is loaded M placed_here image_here memory_here good end_state [] mid → StandsFor end_state (machine_in M mid)
              by_stands (inl t) = absurd (false≢true t)
              by_stands (inr k) = k.1

          abbrev x : ℕ
          x = standing.0

          form_here : IsForm (bounds f) end_state
          form_here = end_form mid ran_to words fits

          -- the push of a call that passes its checks
          record Push : Type 0 where
            c : ℤ
            known : end_state.offsets 4 ≡ offset.Known c
            rsp_at : ℕ
            is_at : pos rsp_at ≡ pos top.rsp0 +ℤ c
            rsp : mid.registers 4 ≡ rsp_at
            at_push : v.at + 8 ≡ rsp_at
            low_rsp : lowered (mid.registers 4) + 8 ≡ rsp_at
            below : c ≤ℤ pos 0
            upper : rsp_at ≤ top.rsp0
            bottom : w.stack_low ≤ rsp_at + 8184
            high : top.rsp0 + 4104 ≤ w.stack_high

          push : MayPush end_state → Push
          push may = by_offset (end_state.offsets 4) refl may
            where
              by_offset : (o : Offset) → end_state.offsets 4 ≡ o → MayPushAt end_state o → Push
              by_offset offset.Unknown e h = absurd h
              by_offset (offset.Known c) e h =
                  let depth : w.stack_low + end_state.probed ≤ top.rsp0 = standing.1.depth in
                  let high : top.rsp0 + 4104 ≤ w.stack_high = running.framed.high in
                  let room : 8192 ≤ w.stack_low = laid.room_below_stack in
                  let ends : w.stack_high ≤ 2 ^ 47 = stack_ends laid in
                  let low : pos 0 ≤ℤ ((c -ℤ pos 8) +ℤ pos (8192 + end_state.probed)) = h.0 in
                  let own : ((c -ℤ pos 8) +ℤ pos 8) ≤ℤ pos 0 = h.2 in
                  let a = whole_address top.rsp0 c (omega (arith, ints, low, depth, room)) in
                  let upper : a.0 ≤ top.rsp0 = omega (arith, ints, a.1, own) in
                  let bottom : w.stack_low ≤ a.0 + 8184 = omega (arith, ints, a.1, low, depth) in
                  let exact : (top.rsp0 + word_of c) % 2 ^ 64 ≡ a.0 = at_word top.rsp0 a.0 c a.1 (omega (arith, high, ends, upper)) (omega (arith, high, ends)) in
                  let rsp : mid.registers 4 ≡ a.0 = offset_is (end_state.offsets 4) c (mid.registers 4) e (standing.1.offsets 4) ∙ exact in
                  record {
                    c = c;
                    known = e;
                    rsp_at = a.0;
                    is_at = a.1;
                    rsp = rsp;
                    at_push = omega (arith, rsp, upper, bottom, high, ends, room);
                    low_rsp = omega (arith, rsp, upper, bottom, high, ends, room);
                    below = omega (arith, ints, own);
                    upper = upper;
                    bottom = bottom;
                    high = high;
                  }

          abbrev call_accesses : List Access
          call_accesses = accesses mid.reads (v ∷ [])

          -- a push that does not trap stays above the guard
          above_guard : (p : Push) → does_trap w i call_accesses choice ≡ false → w.stack_low ≤ v.at
          above_guard p free =
              ⊎_elim
              (λ (l : v.at < w.stack_low). absurd (true≢false (sym (guard_traps w i mid.reads (v ∷ []) choice (or_first _ _ (touching v.at (w.stack_low - 8192) w.stack_low l (omega (arith, p.at_push, p.bottom, laid.room_below_stack))))) ∙ free)))
              (λ (l : w.stack_low ≤ v.at). l)
              (cases_lt v.at w.stack_low)
            where
              touching : (a from to : ℕ) → a < to → from < a + 8 → (nat_lt a to && nat_lt from (a + 8)) ≡ true
              touching a from to l h = grind (arith, nat_tests)

          may_push : (p : Push) → MayWrite m w top v.at 8
          may_push p = inr (inr (omega (arith, p.at_push, p.bottom, laid.room_below_stack), omega (arith, p.at_push, p.upper)))

          in_push : (q : ℕ) → w.stack_low ≤ q → v.at ≤ q → q < v.at + 8 → q < top.rsp0 → q < w.stack_high → (is_in_frame w top q && is_one_of v.at 8 q) ≡ true
          in_push q a b d e g = grind (arith, nat_tests)

          was_in : (q : ℕ) → (is_in_frame w top q && is_one_of v.at 8 q) ≡ true → (w.stack_low ≤ q) × (q < top.rsp0)
          was_in q t = (grind (arith, nat_tests), grind (arith, nat_tests))

          pushing_frame : WritesItsFrame (record (machine_in M mid) { is_written = pushing.written })
          pushing_frame q e = ⊎_elim
              (λ (t : (is_in_frame w top q && is_one_of v.at 8 q) ≡ true). was_in q t)
              (λ (t : top.written q ≡ true). running.framed.written q t)
              (or_cases _ _ e)

          written_too : (q : ℕ) → top.written q ≡ true → pushing.written q ≡ true
          written_too q e = or_second _ _ e

          module _ (p : Push) (low : w.stack_low ≤ v.at) where
            pushed_written : (q : ℕ) → p.rsp_at ≤ q + 8 → q < p.rsp_at → pushing.written q ≡ true
            pushed_written q a b = or_first _ _ (in_push q (omega (arith, low, p.at_push)) (omega (arith, p.at_push)) (omega (arith, p.at_push)) (omega (arith, p.upper)) (omega (arith, p.upper, p.high)))

            push_kept : (q : ℕ) → v.at + 8 ≤ q → pushed q ≡ mid.bytes q
            push_kept q l = ap (λ b. if b then next / 256 ^ (q - v.at) % 256 else mid.bytes q) (outside w.stack_low w.stack_high v.at q l)
              where
                outside : (lo hi a q : ℕ) → a + 8 ≤ q → ((nat_le lo q && nat_lt q hi) && (nat_le a q && nat_lt q (a + 8))) ≡ false
                outside lo hi a q l = grind (arith, nat_tests)

            is_pushed : IsPushed m w pushing after_push next
            is_pushed =
                let same : lowered (mid.registers 4) ≡ v.at = omega (arith, p.at_push, p.low_rsp) in
                record {
                  low = omega (arith, low, same);
                  below = omega (arith, p.low_rsp, p.upper);
                  return = ap (λ a. load pushed a 8) same ∙ whole_stored M mid.bytes v.at 8 next low (omega (arith, p.at_push, p.upper, p.high)) ∙ mod-eq_of_lt (omega (arith, next_low));
                }

            is_behind : (to : Abstract) → Lands declared bounds tables f to behind → IsBehind m w map At f behind next
            is_behind to lands = record { inside = inside f listed entered to behind lands; has_state = is_point f listed entered to behind lands; at = next_at }

            not_16 : (q : ℕ) (a b : ℕ) (r : Registers) → (q ≡ 16 → ⊥) → r q ≡ mid.registers q → (if q == 16 then a else r q) ≡ (if q == 16 then mid.tmp else mid.registers q)
            not_16 q a b r ne e = by_test (q == 16) refl
              where
                by_test : (t : Bool) → (q == 16) ≡ t → (if t then a else r q) ≡ (if t then mid.tmp else mid.registers q)
                by_test true t = absurd (ne (eqb-true q 16 t))
                by_test false t = e

            kept_cases : (q : ℕ) → is_kept q ≡ true → (q ≡ 4) ⊎ (is_saved q ≡ true)
            kept_cases q e = ⊎_elim (λ (a : (q == 4) ≡ true). inl (eqb-true q 4 a)) (λ (a : is_saved q ≡ true). inr a) (by_bools (q == 3) (q == 4) _ e)
              where
                by_bools : (a b c : Bool) → (a || (b || c)) ≡ true → (b ≡ true) ⊎ ((a || c) ≡ true)
                by_bools a true c e = inl refl
                by_bools true false c e = inr refl
                by_bools false false c e = inr e

            resumes : Lands declared bounds tables f (after_call end_state) behind → Resumes m w map At f behind entered pushing after_push
            resumes lands later are rsp saves same =
                landed f listed entered (after_call end_state) behind lands (domain.call_forms (bounds f) end_state is_kept form_here).written pushing later pushing_frame (λ t. (x, stands_later t))
              where
                same_register : (q : ℕ) → is_kept q ≡ true → later.registers q ≡ mid.registers q
                same_register q e = ⊎_elim
                    (λ (g : q ≡ 4). ap later.registers g ∙ rsp ∙ p.low_rsp ∙ sym p.rsp ∙ ap mid.registers (sym g))
                    (λ (s : is_saved q ≡ true). saves q s ∙ put_other mid.registers q _ s)
                    (kept_cases q e)

                stands_later : (t : ℕ) → StandsWith (after_call end_state) (machine_of m w entered pushing later t) x
                stands_later t =
                    subst (λ o. StandsWith (call end_state is_kept o) (machine_of m w entered pushing later t) x) (sym p.known)
                    (domain.calls (bounds f) (machine_in M mid) end_state x is_kept p.c p.rsp_at form_here running.framed.written standing.1 p.is_at p.below (omega (arith, low, p.at_push))
                    (λ q. if q == 16 then t else later.registers q) later.flags later.bytes pushing.written
                    (λ q e. not_16 q t mid.tmp later.registers (λ g. false≢true (ap is_kept (sym g) ∙ e)) (same_register q e))
                    (λ q l. same q (omega (arith, l, p.low_rsp)) ∙ push_kept q (omega (arith, l, p.at_push)))
                    written_too pushed_written pushing_frame)

            resumes_probed : Lands declared bounds tables f (after_probe end_state) behind → ResumesProbed m w map At f behind entered pushing after_push
            resumes_probed lands far flags bytes are same =
                landed f listed entered (after_probe end_state) behind lands (domain.call_forms (bounds f) end_state is_register form_here).written pushing later pushing_frame (λ t. (x, stands_later t))
              where
                later : Moment
                later = record { registers = put in_callee 4 (in_callee 4 + 8); flags = flags; bytes = bytes }

                same_register : (q : ℕ) → put in_callee 4 (lowered (mid.registers 4) + 8) q ≡ mid.registers q
                same_register q = by_rsp (q == 4) refl
                  where
                    by_rsp : (b : Bool) → (q == 4) ≡ b → (if b then lowered (mid.registers 4) + 8 else (if b then lowered (mid.registers 4) else mid.registers q)) ≡ mid.registers q
                    by_rsp true g = p.low_rsp ∙ sym p.rsp ∙ ap mid.registers (sym (eqb-true q 4 g))
                    by_rsp false g = refl

                stands_later : (t : ℕ) → StandsWith (after_probe end_state) (machine_of m w entered pushing later t) x
                stands_later t =
                    domain.probes (bounds f) (machine_in M mid) end_state x p.c p.rsp_at form_here running.framed.written standing.1 p.known p.is_at p.below (omega (arith, low, p.at_push)) (omega (arith, far, p.low_rsp))
                    (λ q. if q == 16 then t else later.registers q) flags bytes pushing.written
                    (λ q e. not_16 q t mid.tmp later.registers (λ g. false≢true (ap is_register (sym g) ∙ e)) (same_register q))
                    (λ q l. same q (omega (arith, l, p.low_rsp)) ∙ push_kept q (omega (arith, l, p.at_push)))
                    written_too pushed_written pushing_frame

          heap_is : HasHeapBase end_state → mid.registers 7 ≡ w.heap
          heap_is e = let P : Value → Type 0 = λ v. Stands M.instance (held_of mid) v (mid.registers 7) in subst P e (standing.1.values (spot.Reg 7))

          heap_before : HasHeapBase end_state → now.registers 7 ≡ w.heap
          heap_before e = sym (ap (λ (r : Registers). r 7) same_registers) ∙ heap_is e

          abbrev Left : ℕ → Environment
          Left to = record { registers = in_callee; tmp = mid.tmp; flags = mid.flags; bytes = pushed; reads = mid.reads; writes = mid.writes ++ v ∷ []; transfer = Enter to }

          owed_call : (k : Way) → (k ≡ Return → ⊥) → (to : ℕ) → Push → (does_trap w i call_accesses choice ≡ false → GoesBy m w map At f point behind entered top pushing now after_push next k (Enter to))
              → Owed mid ran_to words fits k (Left to)
          owed_call k plain to p goes = record {
            reads = may_reads mid ran_to words fits k plain;
            writes = subst (λ (ws : List Write). AllByRecursion (λ u. MayWrite m w top u.at u.size) (ws ++ v ∷ [])) (sym quiet) (may_push p, tt);
            goes = subst (λ (ws : List Write). does_trap w i (accesses mid.reads (ws ++ v ∷ [])) choice ≡ false → GoesBy m w map At f point behind entered top (after_writes w top (ws ++ v ∷ [])) now after_push next k (Enter to)) (sym quiet) goes;
          }

          same_place : (to a b : ℕ) → to ≡ w.load + a → to ≡ w.load + b → a ≡ b
          same_place to a b e g = omega arith

          call_step : (rel : ℤ) (place : ℕ) → pos place ≡ pos (f.entry + behind) +ℤ rel → Calls declared bounds tables f behind end_state place → Owed mid ran_to words fits Direct (Left (relative next rel))
          call_step rel place goal (inl (kind, no_probe, heap, may, lands)) =
              let p = push may in
              let to = relative_to place_low in
              owed_call Direct (λ e. cc) (relative next rel) p (λ free. let low = above_guard p free in
              (is_pushed p low, is_behind p low _ lands, of_callee (place, to, kind) (λ probe. no_probe (probe_at to probe)) (heap_before heap) (heap_is heap) (resumes p low lands)))
            where
              relative_to : w.load + place < 2 ^ 64 → relative next rel ≡ w.load + place
              relative_to low = at_word next (w.load + place) rel (omega (arith, ints, goal)) low (omega (arith, next_low))

              place_low : w.load + place < 2 ^ 64
              place_low = ⊎_elim
                  (λ (g : (g : Function) × Contains declared.functions g × (g.entry ≡ place)). let ends = code_ends g.0 g.1 in let same = g.2 in omega arith)
                  (λ (s : (stub : Stub) × (m.stub place ≡ Some stub)). let low = stub_low place s.0 s.1 in omega arith)
                  kind

              probe_at : relative next rel ≡ w.load + place → IsProbeStub m w (relative next rel) → IsProbeAt declared bounds tables place
              probe_at to probe =
                  let same = same_place (relative next rel) probe.place place probe.at to in
                  record { stub = probe.stub; there = ap m.stub (sym same) ∙ probe.there; number = probe.number; to_import = probe.to_import; is_probe = probe.is_probe }
          call_step rel place goal (inr (probe, may, lands)) =
              let p = push may in
              let low_place = stub_low place probe.stub probe.there in
              let to : relative next rel ≡ w.load + place = at_word next (w.load + place) rel (omega (arith, ints, goal)) (omega (arith, low_place)) (omega (arith, next_low)) in
              owed_call Direct (λ e. cc) (relative next rel) p (λ free. let low = above_guard p free in (
                is_pushed p low,
                is_behind p low _ lands,
                of_probe (record { place = place; at = to; stub = probe.stub; there = probe.there; number = probe.number; to_import = probe.to_import; is_probe = probe.is_probe })
                    (λ g has same. no_stub g has probe.stub (ap m.stub (sym (same_place (relative next rel) place g.entry to same)) ∙ probe.there))
                    (resumes_probed p low lands),
              ))

          call_reg_step : (src : Var) → flow_of i ≡ flow.CallReg src → (t g : ℕ) → value_of end_state (index_of src) ≡ TableFn t g → HasHeapBase end_state → MayPush end_state → Lands declared bounds tables f (after_call end_state) behind
              → Owed mid ran_to words fits Indirect (Left (var_value mid src))
          call_reg_step src named t g value heap may lands =
              let p = push may in
              owed_call Indirect (λ e. cc) (var_value mid src) p (λ free. let low = above_guard p free in
              (is_pushed p low, is_behind p low _ lands, record { typed = typed; not_empty = not_empty; heap_before = heap_before heap; heap = heap_is heap; resumes = resumes p low lands }))
            where
              in_range : IsValue (TableFn t g)
              in_range = subst IsValue value (form_here.values (spot.Reg (index_of src)))

              not_empty : is_empty_tag g ≡ false
              not_empty = let small = in_range.1 in by_tag small
                where
                  by_tag : g < 2 ^ 32 - 1 → (g == 0xFFFF_FFFF_FFFF_FFFF) ≡ false
                  by_tag small = grind (arith, nat_tests)

              entry_of : (y : ℕ) × AtEntry M.instance t (IsFunction g (var_value mid src)) y
              entry_of =
                  let P : Value → Type 0 = λ v. Stands M.instance (held_of mid) v (held_of mid (index_of src)) in
                  subst (λ z. (y : ℕ) × AtEntry M.instance t (IsFunction g z) y) (held_var mid src) (subst P value (standing.1.values (spot.Reg (index_of src))))

              typed : IsTypedFrom m w map f point (var_value mid src)
              typed =
                  let a = entry_of.1 in
                  let e = entry_is laws file is headers image_bytes w laid hosts_are t a.table a.is_table a.i a.entry a.is_entry in
                  let same : e.e.tag ≡ g = sym e.tag ∙ a.holds.0 in
                  record {
                    number = t;
                    tag = g;
                    given = is_map.callees f point st i at.len src t g listed there at.stands named value;
                    table = e.info;
                    declared = e.number;
                    entry = e.e;
                    of_table = contains_got e.info.entries a.i e.e e.got;
                    tagged = same;
                    pointer = subst (λ z. is_pointer w e.e.pointer z ≡ true) a.holds.1 (pointer_is laws file is headers image_bytes w laid hosts_are t a.table a.i a.entry e (λ q. let small = in_range.1 in omega (arith, small, same, q)));
                  }

        -- ---- each way of going on

        owed : (e : Environment) (r : Run e) → Owed r.mid r.ran_to r.words r.fits (way i) e
        owed e r =
            subst (λ (k : Way). Owed r.mid r.ran_to r.words r.fits k e) (sym (way_is i))
            (subst (λ (z : Environment). Owed r.mid r.ran_to r.words r.fits (way_of (flow_of i)) z) r.last (by_flow (flow_of i) refl (at.follows form)))
          where
            by_flow : (k : Flow) → flow_of i ≡ k → Follows declared bounds tables f behind end_state k → Owed r.mid r.ran_to r.words r.fits (way_of k) (flows loaded (store M) next k r.mid)
            by_flow flow.Next e follows = next_step r.mid r.ran_to r.words r.fits follows
            by_flow (flow.Jump rel) e follows = jump_step r.mid r.ran_to r.words r.fits rel follows.0 follows.1 follows.2
            by_flow (flow.Branch cond rel) e follows = branch_step r.mid r.ran_to r.words r.fits follows.3 cond rel follows.0 follows.1 follows.2 follows.4 follows.5
            by_flow (flow.JumpReg src) e follows = jump_reg_step r.mid r.ran_to r.words r.fits src follows.0 follows.1 follows.2 follows.3
            by_flow (flow.Call rel) e follows = call_step r.mid r.ran_to r.words r.fits (r.unwritten (call_last i (ap is_call e))) (r.unchanged (ap is_call e)) rel follows.0 follows.1 follows.2
            by_flow (flow.CallReg src) e follows = call_reg_step r.mid r.ran_to r.words r.fits (r.unwritten (call_last i (ap is_call e))) (r.unchanged (ap is_call e)) src e follows.0 follows.1 follows.2 follows.3 follows.4 follows.5
            by_flow flow.Ret e follows = returned (r.alone (ret_alone i e)) (ret_alone i e) follows
              where
                returned : r.mid ≡ first → steps i ≡ [] → MayReturn end_state → Owed r.mid r.ran_to r.words r.fits Return (flows loaded (store M) next flow.Ret r.mid)
                returned same alone may = moved_owed r.mid same r.ran_to r.words r.fits
                  where
                    moved_owed : (mid : Environment) → mid ≡ first → (ran_to : RanTo mid) (words : HasWords mid) (fits : AreBytes mid.bytes) → Owed mid ran_to words fits Return (flows loaded (store M) next flow.Ret mid)
                    moved_owed mid same ran_to words fits =
                        let z : Owed first (subst RanTo same ran_to) (record { in_registers = running.words.registers; in_tmp = small }) running.words.bytes Return (flows loaded (store M) next flow.Ret first) = ret_step (subst RanTo same ran_to) alone may in
                        let back = subst (λ (n : Environment). AllByRecursion (λ a. MayDo m w top Return (Read a.at a.size)) (flows loaded (store M) next flow.Ret n).reads) (sym same) z.reads in
                        let written = subst (λ (n : Environment). AllByRecursion (λ v. MayWrite m w top v.at v.size) (flows loaded (store M) next flow.Ret n).writes) (sym same) z.writes in
                        let goes = subst (λ (n : Environment). does_trap w i (accesses (flows loaded (store M) next flow.Ret n).reads (flows loaded (store M) next flow.Ret n).writes) choice ≡ false
                        → GoesBy m w map At f point behind entered top (after_writes w top (flows loaded (store M) next flow.Ret n).writes) now (moment_in (flows loaded (store M) next flow.Ret n)) next Return (flows loaded (store M) next flow.Ret n).transfer) (sym same) z.goes in
                        record { reads = back; writes = written; goes = goes }
            by_flow flow.Stop e follows = stop_step r.mid r.ran_to r.words r.fits

        run_kept : (e : Environment) → Does loaded (machine_store w) next (lifted i) first e → IsRunKept m w map At f point i at.len entered top now choice e
        run_kept e d = let o = owed e (run e d) in record { reads_permitted = o.reads; writes_permitted = o.writes; goes_on = o.goes }

      pub point_stated : IsPointStated m w map At f point
      point_stated = record {
        i = at.i;
        len = at.len;
        begins = at.stands.begins;
        inside = at.stands.inside;
        spelled = at.stands.spelled w;
        listed = at.listed;
        word = at.word;
        each = λ entered top now running holds choice tmp small e words fits d.
            let same : holds.st ≡ st = some_is (sym holds.there ∙ there) in
            run_kept entered top now running (subst (IsStateForm (bounds f)) same holds.form) choice tmp small (subst (λ (s : Abstract). StandsFor s (machine_of m w entered top now tmp)) same (holds.stands tmp)) e d;
      }

    -- safe tables are kept
    pub tables_stated :
        ((f : Function) → Contains declared.functions f → w.load + f.entry + f.size ≤ 2 ^ 47) → ((place : ℕ) (stub : Stub) → m.stub place ≡ Some stub → w.load + place < 2 ^ 47)
        → ((g : Function) → Contains declared.functions g → (stub : Stub) → m.stub g.entry ≡ Some stub → ⊥)
        → AreStated m w map At
    tables_stated code_ends stub_low no_stub = record {
      begins = λ f listed. is_point f listed (λ q. 0) _ 0 (safe.entered f listed);
      enters = λ f listed top now of_top h.
          landed f listed now.registers (abstract_of entry_state) 0 (safe.entered f listed) entry_writes top now (nothing_written_yet top h.fresh)
          (λ tmp. (0, entry_stands m w (stack_ends laid) top now h tmp));
      keeps = λ f listed point is.
          let known = some_of (tables f.entry point) (sym (is_map.points f point listed) ∙ is) in
          point_stated code_ends stub_low no_stub f listed point known.0 known.1;
    }
      where
        nothing_written_yet : (top : Activation) → top.written ≡ (λ q. false) → (a : ℕ) → top.written a ≡ true → (w.stack_low ≤ a) × (a < top.rsp0)
        nothing_written_yet top fresh a e = absurd (false≢true (sym (ap (λ (g : ℕ → Bool). g a) fresh) ∙ e))
