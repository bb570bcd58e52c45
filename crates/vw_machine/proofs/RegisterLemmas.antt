-- The registers after a function of the host.
use Rattle.std.proofs.Common.{◌≡◌, ℕ, zero, suc, ◌-◌, ◌%◌, ◌^◌, ◌≤◌, ◌==◌, Bool, false, if◌then◌else◌, List, [], ◌∷◌, length, slice_index, refl, sym, ◌∙◌, ap, arith}
use Rattle.std.specs.Prelude.{◌||◌, nat_lt}
use Rattle.std.proofs.lemmas.Bool.Decides.{nat_tests}
use Rattle.vw_insn.specs.Words.{Registers}
use Rattle.vw_insn.specs.Effect.{raised}
use Rattle.vw_effect.specs.Meaning.{registers_of}
use Rattle.vw_machine.specs.declared.choice.Choice.{Choice}
use Rattle.vw_machine.specs.Choices.{number_of}
use Rattle.vw_machine.specs.Step.{is_saved, host_registers}

-- a list has 0 past its end
past_end : (xs : List ℕ) (k : ℕ) → length xs ≤ k → slice_index xs k ≡ 0
past_end [] k past = refl
past_end (x ∷ xs) zero past = absurd (omega arith)
past_end (x ∷ xs) (suc k) past = past_end xs k (omega arith)

-- what stands in the place of the registers from the sixteenth on
beyond : (registers : Registers) (choice : Choice) (k : ℕ) → length choice.numbers ≡ 10 → 16 ≤ k → host_registers registers choice k ≡ 0
beyond registers choice k ten above =
    let four : (k == 4) ≡ false = grind (arith, nat_tests) in
    let few : nat_lt k 3 ≡ false = grind (arith, nat_tests) in
    let none = past_end choice.numbers (k - 3) (omega arith) in
    let f = λ (a b c : Bool). if a then raised (registers 4) else (if b then registers k else number_of choice (if c then k else k - 3)) in
    ap (λ (a : Bool). f a (is_saved k) (nat_lt k 3)) four
    ∙ ap (λ (b : Bool). f false b (nat_lt k 3)) unsaved
    ∙ ap (λ (c : Bool). f false false c) few
    ∙ ap (λ (n : ℕ). n % 2 ^ 64) none
  where
    differs : (r : ℕ) → 16 ≤ k → r ≤ 15 → (k == r) ≡ false
    differs r above below = grind (arith, nat_tests)

    unsaved : is_saved k ≡ false
    unsaved =
        ap (λ (b : Bool). b || ((k == 5) || ((k == 12) || ((k == 13) || ((k == 14) || (k == 15)))))) (differs 3 above (omega arith))
        ∙ ap (λ (b : Bool). b || ((k == 12) || ((k == 13) || ((k == 14) || (k == 15))))) (differs 5 above (omega arith))
        ∙ ap (λ (b : Bool). b || ((k == 13) || ((k == 14) || (k == 15)))) (differs 12 above (omega arith))
        ∙ ap (λ (b : Bool). b || ((k == 14) || (k == 15))) (differs 13 above (omega arith))
        ∙ ap (λ (b : Bool). b || (k == 15)) (differs 14 above (omega arith))
        ∙ differs 15 above (omega arith)

module _ (rs : List ℕ) (choice : Choice) (ten : length choice.numbers ≡ 10) where
  abbrev upper_half : List ℕ
  upper_half =
      number_of choice 5 ∷ number_of choice 6 ∷ number_of choice 7 ∷ number_of choice 8
      ∷ slice_index rs 12 ∷ slice_index rs 13 ∷ slice_index rs 14 ∷ slice_index rs 15 ∷ []

  upper : (q : ℕ) → registers_of upper_half q ≡ host_registers (registers_of rs) choice (suc (suc (suc (suc (suc (suc (suc (suc q))))))))
  upper zero = refl
  upper (suc zero) = refl
  upper (suc (suc zero)) = refl
  upper (suc (suc (suc zero))) = refl
  upper (suc (suc (suc (suc zero)))) = refl
  upper (suc (suc (suc (suc (suc zero))))) = refl
  upper (suc (suc (suc (suc (suc (suc zero)))))) = refl
  upper (suc (suc (suc (suc (suc (suc (suc zero))))))) = refl
  upper (suc (suc (suc (suc (suc (suc (suc (suc q)))))))) =
      sym (beyond (registers_of rs) choice (suc (suc (suc (suc (suc (suc (suc (suc (suc (suc (suc (suc (suc (suc (suc (suc q)))))))))))))))) ten (omega arith))

  abbrev pub host_list : List ℕ
  host_list =
      number_of choice 0 ∷ number_of choice 1 ∷ number_of choice 2 ∷ slice_index rs 3 ∷ raised (slice_index rs 4) ∷ slice_index rs 5
      ∷ number_of choice 3 ∷ number_of choice 4 ∷ upper_half

  pub lists_host : (q : ℕ) → registers_of host_list q ≡ host_registers (registers_of rs) choice q
  lists_host zero = refl
  lists_host (suc zero) = refl
  lists_host (suc (suc zero)) = refl
  lists_host (suc (suc (suc zero))) = refl
  lists_host (suc (suc (suc (suc zero)))) = refl
  lists_host (suc (suc (suc (suc (suc zero))))) = refl
  lists_host (suc (suc (suc (suc (suc (suc zero)))))) = refl
  lists_host (suc (suc (suc (suc (suc (suc (suc zero))))))) = refl
  lists_host (suc (suc (suc (suc (suc (suc (suc (suc q)))))))) = upper q
