-- The state at a function's entry is one.
use Rattle.std.proofs.Common.{ℕ, zero, suc, inl, List, [], ◌∷◌, refl, arith}
use Rattle.std.specs.List.{AllByRecursion}
use Rattle.std.proofs.lemmas.Int.{ints}
use Rattle.std.proofs.lemmas.Bool.{false≢true}
use Rattle.vw_values.specs.Values.{IsAmong}
use Rattle.vw_domain.specs.declared.registers.Register.{Register}
use Rattle.vw_domain.specs.Registers.{IsRegister, register_at, unknown_register}
use Rattle.vw_domain.specs.State.{entry_registers, entry_state, IsState, Fits}
use Rattle.vw_domain.specs.FormLaws

each : (P : Register → Type 0) (row : List Register) → AllByRecursion P row → P unknown_register → (r : ℕ) → P (register_at row r)
each P [] all unknown r = unknown
each P (x ∷ row) all unknown zero = all.0
each P (x ∷ row) all unknown (suc r) = each P row all.1 unknown r

registers : AllByRecursion (λ (x : Register). IsRegister x) entry_registers
registers = (
  record { value = tt; offset = tt },
  (
    record { value = tt; offset = tt },
    (
      record { value = tt; offset = tt },
      (
        record { value = omega arith; offset = tt },
        (
          record { value = tt; offset = ((omega (arith, ints), omega (arith, ints)), inl refl) },
          (
            record { value = omega arith; offset = tt },
            (
              record { value = tt; offset = tt },
              (
                record { value = tt; offset = tt },
                (
                  record { value = tt; offset = tt },
                  (
                    record { value = tt; offset = tt },
                    (
                      record { value = tt; offset = tt },
                      (
                        record { value = tt; offset = tt },
                        (
                          record { value = omega arith; offset = tt },
                          (
                            record { value = omega arith; offset = tt },
                            (
                              record { value = omega arith; offset = tt },
                              (
                                record { value = omega arith; offset = tt },
                                (
                                  record { value = tt; offset = tt },
                                  tt,
                                ),
                              ),
                            ),
                          ),
                        ),
                      ),
                    ),
                  ),
                ),
              ),
            ),
          ),
        ),
      ),
    ),
  ),
)

state : IsState entry_state
state = record {
  registers = record { seventeen = refl; registers = each (λ (x : Register). IsRegister x) entry_registers registers (record { value = tt; offset = tt }) };
  probed = omega arith;
  ranges = record { filled = λ k d within. absurd (omega arith); apart = λ i j d before within. absurd (omega arith) };
  frame = λ x h. absurd (false≢true h);
  slots = record {
    ascending = λ i j d before within. absurd (omega arith);
    within = λ key has. let none = has.1 in absurd (cc);
    values = λ key v found. absurd (cc);
    narrow = λ o v found. absurd (cc);
    apart = λ o a b. let none = a.1 in cc;
  };
  classes = record { ascending = λ i j d before within. absurd (omega arith); falls = λ k d within. absurd (omega arith); settled = λ place. refl };
  named = λ a b same apart. absurd (apart same);
  fact = tt;
}

fits : (bounds : List ℕ) → Fits bounds entry_state
fits bounds = record {
  registers = each (λ (x : Register). IsAmong bounds x.value) entry_registers
      (tt, (tt, (tt, (tt, (tt, (tt, (tt, (tt, (tt, (tt, (tt, (tt, (tt, (tt, (tt, (tt, (tt, tt))))))))))))))))) tt;
  slots = λ key v found. absurd (cc);
}

pub entry_is_state : FormLaws.EntryIsState
entry_is_state bounds = record { state = state; fits = fits bounds }
