-- The verdict's loop, with its steps.
use Rattle.std.proofs.Common.{◌≡◌, ℕ, ◌+◌, ◌-◌, ◌≤◌, List, [], ◌∷◌, ◌++◌, zero, suc, take, sym, ◌∙◌, ap, subst, arith}
use Rattle.std.proofs.lemmas.List.{take_more}
use Rattle.std.proofs.lemmas.Option.{slice_get_within, get_or_from_slice_get}
use Rattle.vw_layout.specs.declared.functions.Function.{Function}
use Rattle.vw_layout.specs.declared.layout.Module.{Module}
use Rattle.vw_state.specs.declared.tables.FunctionTable.{FunctionTable}
use Rattle.vw_state.specs.Context.{context_of}
use Rattle.vw_checks.specs.Modules.{IsNumbered}
use Rattle.vw_graph.specs.Rounds.{first_begins, WithinRounds}
use Rattle.vw_verdict.specs.Ticks.{SumWithin, none, one}
use Rattle.vw_verdict.proofs.Modules.{Passed, begins}

module _ (m : Module) where
  -- a function of which no round is begun takes no steps
  counts_nothing : (f : Function) → WithinRounds (context_of m f) 0
  counts_nothing f = record { pairs = []; begun = first_begins; within = omega arith }

  pub no_steps : (f : Function) (steps : ℕ) → WithinRounds (context_of m f) (steps - steps)
  no_steps f steps = record { pairs = []; begun = first_begins; within = omega arith }

  -- one function more
  sum_more : (functions : List Function) (sum : ℕ) (f : Function) (count : ℕ) → SumWithin m functions sum → WithinRounds (context_of m f) count → SumWithin m (functions ++ f ∷ []) (sum + count)
  sum_more functions sum f count none within =
      let same : count + 0 ≡ 0 + count = omega arith in
      subst (λ (n : ℕ). SumWithin m (f ∷ []) n) same (one f [] count 0 within none)
  sum_more functions sum f count (one g rest first more is sums) within =
      let same : first + (more + count) ≡ first + more + count = omega arith in
      subst (λ (n : ℕ). SumWithin m (g ∷ (rest ++ f ∷ [])) n) same (one g (rest ++ f ∷ []) first (more + count) is (sum_more rest more f count sums within))

  -- all functions, where the others count nothing
  sum_none : (functions : List Function) → SumWithin m functions 0
  sum_none [] = none
  sum_none (f ∷ rest) = one f rest 0 0 (counts_nothing f) (sum_none rest)

  pub none_taken : (steps : ℕ) → SumWithin m m.functions (steps - steps)
  none_taken steps =
      let zero_steps : 0 ≡ steps - steps = omega arith in
      subst (λ (n : ℕ). SumWithin m m.functions n) zero_steps (sum_none m.functions)

  sum_all : (functions : List Function) (n sum : ℕ) → SumWithin m (take n functions) sum → SumWithin m functions sum
  sum_all [] zero sum sums = sums
  sum_all [] (suc n) sum sums = sums
  sum_all (f ∷ rest) zero sum none = sum_none (f ∷ rest)
  sum_all (f ∷ rest) (suc n) sum (one g others count more is sums) = one f rest count more is (sum_all rest n more sums)

-- what is known of the functions below a number, and of the steps
pub record Going (m : Module) (n : ℕ) (tables : List FunctionTable) (first steps : ℕ) : Type 0 where
  pub passed : Passed m n tables
  pub low : first ≤ steps
  pub sums : SumWithin m (take n m.functions) (steps - first)

pub going_begins : (m : Module) (steps : ℕ) → Going m 0 [] steps steps
going_begins m steps =
    let zero_steps : 0 ≡ steps - steps = omega arith in
    record { passed = begins m; low = omega arith; sums = subst (λ (n : ℕ). SumWithin m [] n) zero_steps none }

module _ (m : Module) (n : ℕ) (f : Function) (is : IsNumbered m n f) (tables : List FunctionTable) (first before after : ℕ) (going : Going m n tables first before) (low : before ≤ after)
    (within : WithinRounds (context_of m f) (after - before)) where
  one_more : take (n + 1) m.functions ≡ take n m.functions ++ f ∷ []
  one_more =
      let inside = slice_get_within m.functions n f is in
      take_more m.functions n f inside ∙ ap (λ (g : Function). take n m.functions ++ g ∷ []) (get_or_from_slice_get m.functions n f f is)

  sums_more : SumWithin m (take (n + 1) m.functions) (after - first)
  sums_more =
      let sum : (before - first) + (after - before) ≡ after - first = omega (arith, low, going.low) in
      let more = sum_more m (take n m.functions) (before - first) f (after - before) going.sums within in
      subst (λ (k : ℕ). SumWithin m (take (n + 1) m.functions) k) sum (subst (λ (fs : List Function). SumWithin m fs ((before - first) + (after - before))) (sym one_more) more)

  pub going_on : (new : List FunctionTable) → Passed m (n + 1) new → Going m (n + 1) new first after
  going_on new passed = record { passed = passed; low = omega (arith, going.low, low); sums = sums_more }

  pub ticks_within : SumWithin m m.functions (after - first)
  ticks_within = sum_all m m.functions (n + 1) (after - first) sums_more

pub ticks_ended : (m : Module) (n : ℕ) (tables : List FunctionTable) (first steps : ℕ) → Going m n tables first steps → SumWithin m m.functions (steps - first)
ticks_ended m n tables first steps going = sum_all m m.functions n (steps - first) going.sums
