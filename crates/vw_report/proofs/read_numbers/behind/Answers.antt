use Rattle.std.proofs.Common.{◌≡◌, ℕ, ◌<◌, List, [], ◌∷◌, None, length, drop, drop-cons, refl, sym, ◌∙◌, arith}
use Rattle.vw_report.specs.Items.{after}
use Rattle.vw_report.proofs.read_numbers.behind.Goals as goal

no_more : (s : List ℕ) (i : ℕ) (rest : List ℕ) → i < length s → length rest < 1 → after (drop i s) rest ≡ None
no_more s i [] lt len = rw (drop-cons s i 0) refl
no_more s i (b ∷ rest) lt len = absurd (omega arith)

pub returns-in-empty : goal.returns-in-empty
returns-in-empty c = sym c.loop-c.invariant ∙ no_more c.args.literal.now c.loop-c.c-index c.loop-c.rest.now (omega arith) (omega arith)
