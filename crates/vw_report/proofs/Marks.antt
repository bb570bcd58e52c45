-- The marks of the registers, one after the other.
use Rattle.std.proofs.Common.{◌≡◌, ℕ, zero, suc, ◌+◌, ◌<◌, List, [], ◌∷◌, ◌++◌, length, get_or, drop, drop-cons, map, append_assoc, refl, sym, ap, ◌∙◌, arith}
use Rattle.std.specs.Prelude.{Option}
use Rattle.vw_values.specs.declared.value.Value.{Value}
use Rattle.vw_values.specs.declared.value.Value.TheVariants.{Any}
use Rattle.vw_report.specs.StateText.{known_text, known_value, register_mark, registers, registers_text}

pub mark_at : (letter r : ℕ) → r < 16 → drop r (map (register_mark letter) registers) ≡ register_mark letter r ∷ drop (suc r) (map (register_mark letter) registers)
mark_at letter zero low = refl
mark_at letter (suc zero) low = refl
mark_at letter (suc (suc zero)) low = refl
mark_at letter (suc (suc (suc zero))) low = refl
mark_at letter (suc (suc (suc (suc zero)))) low = refl
mark_at letter (suc (suc (suc (suc (suc zero))))) low = refl
mark_at letter (suc (suc (suc (suc (suc (suc zero)))))) low = refl
mark_at letter (suc (suc (suc (suc (suc (suc (suc zero))))))) low = refl
mark_at letter (suc (suc (suc (suc (suc (suc (suc (suc zero)))))))) low = refl
mark_at letter (suc (suc (suc (suc (suc (suc (suc (suc (suc zero))))))))) low = refl
mark_at letter (suc (suc (suc (suc (suc (suc (suc (suc (suc (suc zero)))))))))) low = refl
mark_at letter (suc (suc (suc (suc (suc (suc (suc (suc (suc (suc (suc zero))))))))))) low = refl
mark_at letter (suc (suc (suc (suc (suc (suc (suc (suc (suc (suc (suc (suc zero)))))))))))) low = refl
mark_at letter (suc (suc (suc (suc (suc (suc (suc (suc (suc (suc (suc (suc (suc zero))))))))))))) low = refl
mark_at letter (suc (suc (suc (suc (suc (suc (suc (suc (suc (suc (suc (suc (suc (suc zero)))))))))))))) low = refl
mark_at letter (suc (suc (suc (suc (suc (suc (suc (suc (suc (suc (suc (suc (suc (suc (suc zero))))))))))))))) low = refl
mark_at letter (suc (suc (suc (suc (suc (suc (suc (suc (suc (suc (suc (suc (suc (suc (suc (suc r)))))))))))))))) low = absurd (omega arith)

-- what is appended for register r, and what is still to come
pub registers_on : {A : Type 0} (text : A → List ℕ) (letter r : ℕ) (known : List (Option A)) (x : Option A) → r < 16 → r < length known → get_or known r x ≡ x
    → registers_text text (drop r (map (register_mark letter) registers)) (drop r known)
    ≡ known_text text (register_mark letter r) x ++ registers_text text (drop (r + 1) (map (register_mark letter) registers)) (drop (r + 1) known)
registers_on text letter r known x low inside is =
    let more : r + 1 ≡ suc r = omega arith in
    rw (more, mark_at letter r low, drop-cons known r x inside, is) refl

pub register_step : (start old new piece now later : List ℕ) → new ≡ old ++ piece → now ≡ piece ++ later → old ++ now ≡ start → new ++ later ≡ start
register_step start old new piece now later appended split before = ap (λ (t : List ℕ). t ++ later) appended ∙ append_assoc old piece later ∙ ap (λ (t : List ℕ). old ++ t) (sym split) ∙ before

pub known_at : (values : List Value) (r : ℕ) → r < length values → get_or (map known_value values) r (known_value (get_or values r Any)) ≡ known_value (get_or values r Any)
known_at [] r inside = absurd (omega arith)
known_at (v ∷ values) zero inside = refl
known_at (v ∷ values) (suc r) inside = known_at values r (omega arith)
