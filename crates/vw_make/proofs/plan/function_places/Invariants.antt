use Rattle.std.proofs.Common.{◌≡◌, ℕ, ◌+◌, ◌<◌, length, take, get_or}
use Rattle.std.specs.List.{sum_by}
use Rattle.vw_make.specs.Layout.{function_space}
use Rattle.vw_make.proofs.plan.function_places.Given as goal

abbrev pub invariant-loop-func : goal.invariant-loop-func
invariant-loop-func l =
    record {
      at : l.at ≡ l.text + sum_by function_space (take l.func-index l.functions);
      count : length l.places.items ≡ l.func-index;
      places : (number : ℕ) → number < l.func-index → get_or l.places.items number 0 ≡ l.text + sum_by function_space (take number l.functions);
    }
