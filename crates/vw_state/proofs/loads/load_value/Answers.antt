use Rattle.std.proofs.Common.{ℕ, List, subst}
use Rattle.std.specs.Prelude.{Option, IfSome}
use Rattle.vw_values.specs.Values.{IsValue, IsAmong}
use Rattle.vw_values.specs.declared.value.Value.{Value}
use Rattle.vw_state.proofs.loads.load_value.Goals as goal

pub returns-clause-sound : goal.returns-clause-sound
returns-clause-sound c = λ next a e.
    subst (λ (k : Option Value). IfSome k (λ (v : Value). IsValue v × ((b : List ℕ) → IsAmong b v))) (c.known_value-told.ensures.is next) (c.known_value-told.ensures.valid a e)
