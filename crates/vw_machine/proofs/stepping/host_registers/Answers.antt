use Rattle.std.proofs.Common.{◌≡◌, ℕ, List, [], ◌∷◌, length, slice_index, ◌∙◌, ap, arith}
use Rattle.std.proofs.Math.Path.{fun_ext}
use Rattle.vw_insn.specs.Effect.{raised}
use Rattle.vw_effect.specs.Meaning.{registers_of}
use Rattle.vw_machine.specs.Choices.{number_of}
use Rattle.vw_machine.proofs.RegisterLemmas.{lists_host}
use Rattle.vw_machine.proofs.stepping.host_registers.Goals as goal

-- the list that the function makes, of these numbers
abbrev made : List ℕ → ℕ → ℕ → ℕ → ℕ → ℕ → ℕ → ℕ → ℕ → ℕ → List ℕ
made rs a b d e f g h i j =
    a ∷ b ∷ d ∷ slice_index rs 3 ∷ raised (slice_index rs 4) ∷ slice_index rs 5 ∷ e ∷ f ∷ g ∷ h ∷ i ∷ j ∷ slice_index rs 12 ∷ slice_index rs 13 ∷ slice_index rs 14 ∷ slice_index rs 15 ∷ []

same_list : (rs : List ℕ) (a b d e f g h i j a' b' d' e' f' g' h' i' j' : ℕ) → a ≡ a' → b ≡ b' → d ≡ d' → e ≡ e' → f ≡ f' → g ≡ g' → h ≡ h' → i ≡ i' → j ≡ j'
    → made rs a b d e f g h i j ≡ made rs a' b' d' e' f' g' h' i' j'
same_list rs a b d e f g h i j a' b' d' e' f' g' h' i' j' p0 p1 p2 p3 p4 p5 p6 p7 p8 = cc

pub returns : goal.returns
returns c =
    let rs = c.args.registers.now in
    let choice = c.args.choice.now in
    let ten : length choice.numbers ≡ 10 = omega arith in
    let n = number_of choice in
    let same =
    same_list rs _ _ _ _ _ _ _ _ _ (n 0) (n 1) (n 2) (n 3) (n 4) (n 5) (n 6) (n 7) (n 8)
    c.number_of.ensures c.number_of-2.ensures c.number_of-3.ensures c.number_of-4.ensures c.number_of-5.ensures c.number_of-6.ensures c.number_of-7.ensures c.number_of-8.ensures c.number_of-9.ensures in
    fun_ext (λ q. ap (λ (l : List ℕ). registers_of l q) same ∙ lists_host rs choice ten q)
