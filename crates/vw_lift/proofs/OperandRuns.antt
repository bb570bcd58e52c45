-- Runs of the statements that fetch an operand or write any result, from the registers before the instruction.
use Rattle.std.proofs.Common.{◌≡◌, ℕ, ◌%◌, ◌/◌, ◌^◌, ◌<◌, ◌≤◌, Bool, false, List, [], ◌∷◌, ◌++◌, refl, sym, ap, subst, arith, append-nil}
use Rattle.vw_insn.specs.declared.registers.Width.{Width}
use Rattle.vw_insn.specs.declared.registers.Width.TheVariants.{W8, W16, W32, W64}
use Rattle.vw_insn.specs.declared.registers.Reg.{Reg}
use Rattle.vw_insn.specs.declared.operands.Place.{Place}
use Rattle.vw_insn.specs.declared.operands.Place.TheVariants as place
use Rattle.vw_insn.specs.declared.operands.Source.{Source}
use Rattle.vw_insn.specs.declared.operands.Source.TheVariants as source
use Rattle.vw_insn.specs.Words.{Registers, Flags, number, register_of, bytes_in, low, with_low, with_high, put}
use Rattle.vw_insn.specs.Effect.{Open, Access, After, Next, reads_place, reads_source, place_word, source_word, put_place, writing, going, address}
use Rattle.vw_stmt.specs.declared.operands.Var.TheVariants as var
use Rattle.vw_stmt.specs.declared.statement.Flow.TheVariants as flow
use Rattle.vw_stmt.specs.declared.statement.Stmt.{Stmt}
use Rattle.vw_stmt.specs.declared.statement.Stmt.TheVariants as stmt
use Rattle.vw_stmt.specs.Environment.{Environment, Pick, start, var_value, operand_value}
use Rattle.vw_stmt.specs.Does.{Does, width_of, opened}
use Rattle.vw_lift.specs.Lifted.{var_of, operand_of, fetched, fetched_source, left_open}
use Rattle.vw_lift.specs.Simulation.{first_loaded, finish, AreWords, GivesWords}
use Rattle.vw_stmt.proofs.WordLemmas.{word_of_word}
use Rattle.vw_lift.proofs.Numbers.{zero_word, low_word, low_written, high_word, opened_with_low, stored_opened, loaded_low}

module _ (loads : (ℕ → ℕ) → ℕ → ℕ → ℕ) (stores : (ℕ → ℕ) → ℕ → ℕ → ℕ → ℕ → ℕ) (next : ℕ) (registers : Registers) (bytes : ℕ → ℕ) (choice : Open) where
  -- the environment after reads, with these flags and this number in tmp
  abbrev pub after_reads : Flags → List Access → ℕ → Environment
  after_reads flags rs tmp = record { registers = registers; tmp = tmp; flags = flags; bytes = bytes; reads = rs; writes = []; transfer = Next }

  -- statements that may end so, with some number in tmp
  abbrev pub Ends : List Stmt → Environment → (ℕ → Environment) → Type 0
  Ends stmts e after = (tmp' : ℕ) × Does loads stores next stmts e (after tmp')

  -- where nothing is left open
  abbrev pub chosen : Pick
  chosen = record { choice = choice; second = false }

  abbrev pub taken : Bool → Pick
  taken b = record { choice = choice; second = b }

  abbrev pub pick_number : (x : ℕ) → x < 2 ^ 64 → Pick
  pick_number x h = record { choice = record { numbers = λ i. x; are_words = λ i. h; flags = choice.flags }; second = false }

  abbrev pub pick_flags : Flags → Pick
  pick_flags flags = record { choice = record { numbers = choice.numbers; are_words = choice.are_words; flags = flags }; second = false }

  -- an operand is fetched, whatever is in tmp then
  pub fetch_any : (flags : Flags) (w : Width) (p : Place) (rs : List Access) (tmp : ℕ) (a b : List Stmt) (after : ℕ → Environment)
      → ((t : ℕ) → Ends (a ++ b) (after_reads flags (rs ++ reads_place next registers w p) t) after) → Ends ((fetched w p ++ a) ++ b) (after_reads flags rs tmp) after
  fetch_any flags w (place.Reg r) rs tmp a b after f =
      let P : List Access → Type 0 = λ qs. Ends (a ++ b) (after_reads flags qs tmp) after in
      subst P (append-nil rs) (f tmp)
  fetch_any flags w (place.High h) rs tmp a b after f =
      let P : List Access → Type 0 = λ qs. Ends (a ++ b) (after_reads flags qs tmp) after in
      subst P (append-nil rs) (f tmp)
  fetch_any flags w (place.Mem mem) rs tmp a b after f =
      let t : ℕ = with_low w tmp (low (width_of (bytes_in w)) (loads bytes (address next registers mem) (bytes_in w))) in
      ((f t).0, (chosen, (f t).1))

  -- it is fetched, and its low bits are those of the operand
  pub fetch_exact : (flags : Flags) (w : Width) (p : Place) (a b : List Stmt) (after : ℕ → Environment)
      → ((t : ℕ)
      → low w (var_value (after_reads flags (reads_place next registers w p) t) (var_of p)) ≡ low w (place_word registers (first_loaded loads bytes (reads_place next registers w p)) p)
      → Ends (a ++ b) (after_reads flags (reads_place next registers w p) t) after)
      → (tmp : ℕ) × (tmp' : ℕ) × (tmp < 2 ^ 64) × Does loads stores next ((fetched w p ++ a) ++ b) (start registers tmp flags bytes) (after tmp')
  fetch_exact flags w (place.Reg r) a b after f = (0, (f 0 refl).0, zero_word, (f 0 refl).1)
  fetch_exact flags w (place.High h) a b after f =
      let t : ℕ = registers (number (register_of h)) / 2 ^ 8 % 2 ^ 8 in
      (t, (f t refl).0, omega arith, (f t refl).1)
  fetch_exact flags w (place.Mem mem) a b after f =
      let x : ℕ = loads bytes (address next registers mem) (bytes_in w) in
      let t : ℕ = with_low w 0 (low (width_of (bytes_in w)) x) in
      (0, (f t (loaded_low w 0 x)).0, zero_word, (chosen, (f t (loaded_low w 0 x)).1))

  pub fetch_source : (flags : Flags) (w : Width) (s : Source) (a b : List Stmt) (after : ℕ → Environment)
      → ((t : ℕ)
      → low w (operand_value (after_reads flags (reads_source next registers w s) t) (operand_of s)) ≡ low w (source_word registers (first_loaded loads bytes (reads_source next registers w s)) s)
      → Ends (a ++ b) (after_reads flags (reads_source next registers w s) t) after)
      → (tmp : ℕ) × (tmp' : ℕ) × (tmp < 2 ^ 64) × Does loads stores next ((fetched_source w s ++ a) ++ b) (start registers tmp flags bytes) (after tmp')
  fetch_source flags w (source.Place p) a b after f = fetch_exact flags w p a b after f
  fetch_source flags w (source.Imm i) a b after f = (0, (f 0 refl).0, zero_word, (f 0 refl).1)

  pub fetch_any_source : (flags : Flags) (w : Width) (s : Source) (rs : List Access) (tmp : ℕ) (a b : List Stmt) (after : ℕ → Environment)
      → ((t : ℕ) → Ends (a ++ b) (after_reads flags (rs ++ reads_source next registers w s) t) after) → Ends ((fetched_source w s ++ a) ++ b) (after_reads flags rs tmp) after
  fetch_any_source flags w (source.Place p) rs tmp a b after f = fetch_any flags w p rs tmp a b after f
  fetch_any_source flags w (source.Imm i) rs tmp a b after f =
      let P : List Access → Type 0 = λ qs. Ends (a ++ b) (after_reads flags qs tmp) after in
      subst P (append-nil rs) (f tmp)

  -- any number of a width may be written to a place
  pub open_place : AreWords registers → (flags : Flags) (w : Width) (p : Place) (rs : List Access) (tmp x : ℕ) → x < 2 ^ 64
      → Ends (left_open w p ++ stmt.Flow flow.Next ∷ []) (after_reads flags rs tmp) (finish stores bytes rs (writing next registers flags w p (low w x)))
  open_place words flags w (place.Reg r) rs tmp x h =
      let old : ℕ = registers (number r) in (
        tmp,
        (
          pick_number (with_low w old (low w x)) (low_written w old x (words (number r)) h),
          (
            chosen,
            ap (λ (v : ℕ). finish stores bytes rs (going (put registers (number r) v) flags Next) tmp) (opened_with_low w old x),
          ),
        ),
      )
  open_place words flags w (place.High p) rs tmp x h =
      let old : ℕ = registers (number (register_of p)) in
      (tmp, (pick_number (with_high old (low w x % 2 ^ 8)) (high_word old (low w x) (words (number (register_of p)))), (chosen, refl)))
  open_place words flags w (place.Mem mem) rs tmp x h =
      let a : ℕ = address next registers mem in
      let after : ℕ → After = λ v. record { registers = registers; flags = flags; writes = record { at = a; size = bytes_in w; value = v } ∷ []; transfer = Next } in (
        opened w (low w x),
        (
          pick_number (low w x) (low_word w x h),
          (
            chosen,
            (
              chosen,
              ap (λ (v : ℕ). finish stores bytes rs (after v) (opened w (low w x))) (stored_opened w x),
            ),
          ),
        ),
      )

  -- two operands are fetched, whatever is in tmp then
  pub fetch_both : (flags : Flags) (w : Width) (p : Place) (s : Source) (tmp : ℕ) (a b : List Stmt) (after : ℕ → Environment)
      → ((t : ℕ) → Ends (a ++ b) (after_reads flags (reads_place next registers w p ++ reads_source next registers w s) t) after)
      → Ends (((fetched w p ++ fetched_source w s) ++ a) ++ b) (after_reads flags [] tmp) after
  fetch_both flags w (place.Reg r) s tmp a b after f = fetch_any_source flags w s [] tmp a b after f
  fetch_both flags w (place.High h) s tmp a b after f = fetch_any_source flags w s [] tmp a b after f
  fetch_both flags w (place.Mem mem) s tmp a b after f =
      let at : ℕ = address next registers mem in
      let t : ℕ = with_low w tmp (low (width_of (bytes_in w)) (loads bytes at (bytes_in w))) in
      let g : Ends ((fetched_source w s ++ a) ++ b) (after_reads flags (record { at = at; size = bytes_in w } ∷ []) t) after = fetch_any_source flags w s (record { at = at; size = bytes_in w } ∷ []) t a b after f in
      (g.0, (chosen, g.1))

  -- any number of a width may be written to a register, before other statements
  pub open_register : AreWords registers → (flags : Flags) (w : Width) (r : Reg) (rs : List Access) (tmp x : ℕ) (stmts : List Stmt) (after : ℕ → Environment)
      → x < 2 ^ 64
      → ((tmp' : ℕ) × Does loads stores next stmts (record { registers = put_place registers w (place.Reg r) (low w x); tmp = tmp; flags = flags; bytes = bytes; reads = rs; writes = []; transfer = Next }) (after tmp'))
      → Ends (stmt.Open (var.Reg r) w ∷ stmts) (after_reads flags rs tmp) after
  open_register words flags w r rs tmp x stmts after h d =
      let old : ℕ = registers (number r) in
      let P : ℕ → Type 0 = λ v. Does loads stores next stmts (record { registers = put registers (number r) v; tmp = tmp; flags = flags; bytes = bytes; reads = rs; writes = []; transfer = Next }) (after d.0) in
      (d.0, (pick_number (with_low w old (low w x)) (low_written w old x (words (number r)) h), subst P (sym (opened_with_low w old x)) d.1))

  pub place_word_word : AreWords registers → (loaded : ℕ) (p : Place) → loaded < 2 ^ 64 → place_word registers loaded p < 2 ^ 64
  place_word_word words loaded (place.Reg r) h = words (number r)
  place_word_word words loaded (place.High p) h = omega arith
  place_word_word words loaded (place.Mem mem) h = h

  pub source_word_word : AreWords registers → (loaded : ℕ) (s : Source) → loaded < 2 ^ 64 → source_word registers loaded s < 2 ^ 64
  source_word_word words loaded (source.Place p) h = place_word_word words loaded p h
  source_word_word words loaded (source.Imm i) h = word_of_word i

  size_fits : (w : Width) → bytes_in w ≤ 8
  size_fits W8 = omega arith
  size_fits W16 = omega arith
  size_fits W32 = omega arith
  size_fits W64 = omega arith

  pub loaded_place : GivesWords loads bytes → (w : Width) (p : Place) → first_loaded loads bytes (reads_place next registers w p) < 2 ^ 64
  loaded_place l w (place.Reg r) = zero_word
  loaded_place l w (place.High h) = zero_word
  loaded_place l w (place.Mem mem) = l (address next registers mem) (bytes_in w) (size_fits w)

  pub loaded_source : GivesWords loads bytes → (w : Width) (s : Source) → first_loaded loads bytes (reads_source next registers w s) < 2 ^ 64
  loaded_source l w (source.Place p) = loaded_place l w p
  loaded_source l w (source.Imm i) = zero_word

  pub loaded_both : GivesWords loads bytes → (w : Width) (p : Place) (s : Source) → first_loaded loads bytes (reads_place next registers w p ++ reads_source next registers w s) < 2 ^ 64
  loaded_both l w (place.Reg r) s = loaded_source l w s
  loaded_both l w (place.High h) s = loaded_source l w s
  loaded_both l w (place.Mem mem) s = l (address next registers mem) (bytes_in w) (size_fits w)
