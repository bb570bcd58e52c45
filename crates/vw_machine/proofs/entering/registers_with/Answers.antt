use Rattle.std.proofs.Common.{◌≡◌, ◌≢◌, ℕ, zero, suc, refl}
use Rattle.vw_effect.specs.Meaning.{registers_of}
use Rattle.std.proofs.Common.{[], ◌∷◌}
use Rattle.vw_machine.proofs.entering.registers_with.Goals as goal

zeros : (r : ℕ) → registers_of (0 ∷ 0 ∷ 0 ∷ 0 ∷ 0 ∷ 0 ∷ 0 ∷ 0 ∷ []) r ≡ 0
zeros zero = refl
zeros (suc zero) = refl
zeros (suc (suc zero)) = refl
zeros (suc (suc (suc zero))) = refl
zeros (suc (suc (suc (suc zero)))) = refl
zeros (suc (suc (suc (suc (suc zero))))) = refl
zeros (suc (suc (suc (suc (suc (suc zero)))))) = refl
zeros (suc (suc (suc (suc (suc (suc (suc zero))))))) = refl
zeros (suc (suc (suc (suc (suc (suc (suc (suc r)))))))) = refl

others : (rsp rdi r : ℕ) → r ≢ 4 → r ≢ 7 → registers_of (0 ∷ 0 ∷ 0 ∷ 0 ∷ rsp ∷ 0 ∷ 0 ∷ rdi ∷ 0 ∷ 0 ∷ 0 ∷ 0 ∷ 0 ∷ 0 ∷ 0 ∷ 0 ∷ []) r ≡ 0
others rsp rdi zero one two = refl
others rsp rdi (suc zero) one two = refl
others rsp rdi (suc (suc zero)) one two = refl
others rsp rdi (suc (suc (suc zero))) one two = refl
others rsp rdi (suc (suc (suc (suc zero)))) one two = absurd (one refl)
others rsp rdi (suc (suc (suc (suc (suc zero))))) one two = refl
others rsp rdi (suc (suc (suc (suc (suc (suc zero)))))) one two = refl
others rsp rdi (suc (suc (suc (suc (suc (suc (suc zero))))))) one two = absurd (two refl)
others rsp rdi (suc (suc (suc (suc (suc (suc (suc (suc r)))))))) one two = zeros r

pub returns : goal.returns
returns c = record { at_rsp = refl; at_rdi = refl; others = others c.args.rsp c.args.rdi }
