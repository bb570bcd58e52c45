-- How many lines stand before a place.
use Rattle.std.proofs.Common.{◌≡◌, ℕ, zero, suc, ◌+◌, ◌-◌, List, [], ◌∷◌, ◌++◌, length, length-append, take, false, cond, refl, sym, ap, subst, ◌∙◌, arith}
use Rattle.std.specs.Prelude.{◌==◌, count_by}
use Rattle.std.proofs.lemmas.List.{take_at}
use Rattle.std.proofs.lemmas.List.Recursion.{is_count_by}
use Rattle.vw_report.specs.Listings.{FaultAt}
use Rattle.vw_report.specs.Reports.{AreLines, IsFault, IsPlain}

abbrev ends : List ℕ → ℕ
ends [] = 0
ends (b ∷ bs) = cond (b == 10) (1 + ends bs) (ends bs)

plain_ends : (body others : List ℕ) → IsPlain body → ends (body ++ 10 ∷ others) ≡ 1 + ends others
plain_ends [] others p = refl
plain_ends (b ∷ body) others p = let n : (b == 10) ≡ false = p.0 in rw n (plain_ends body others p.1)

lines_ends : (n : ℕ) (front : List ℕ) → AreLines n front → ends front ≡ n
lines_ends zero front h = ap ends h
lines_ends (suc n) front h = let t = lines_ends n h.1 h.3 in ap ends h.4 ∙ plain_ends h.0 h.1 h.2 ∙ (omega (arith, t))

pub lines_count : (n : ℕ) (front : List ℕ) → AreLines n front → count_by (λ b. b == 10) front ≡ n
lines_count n front h = sym (is_count_by ends (λ b. b == 10) refl (λ x xs. refl) front) ∙ lines_ends n front h

pub fault_line : (bytes stop : List ℕ) (left line : ℕ) → length stop ≡ left → FaultAt bytes stop → line ≡ count_by (λ b. b == 10) (take (length bytes - left) bytes) + 1 → IsFault bytes line
fault_line bytes stop left line z f e =
    let l : length bytes ≡ length f.front + length stop = ap length f.bytes_are ∙ length-append f.front stop in
    let m : length f.front ≡ length bytes - left = omega arith in
    let t : take (length bytes - left) bytes ≡ f.front = ap (λ x. take (length bytes - left) x) f.bytes_are ∙ take_at f.front stop (length bytes - left) m in
    let c = lines_count f.count f.front f.lines in
    let k : line ≡ f.count + 1 = e ∙ ap (λ x. count_by (λ b. b == 10) x + 1) t ∙ ap (λ x. x + 1) c in
    subst (λ x. IsFault bytes x) (sym k) f.fault
