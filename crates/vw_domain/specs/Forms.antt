-- States and their abstract forms.
use Rattle.std.specs.Prelude.{◌≡◌, ◌↔◌}
use Rattle.vw_domain.specs.declared.parts.Parts.{Parts}
use Rattle.vw_domain.specs.State.{IsState, state_below}
use Rattle.vw_domain.specs.Abstract.{abstract_of, IsBelow}

-- the order of states is that of their abstract forms
abbrev pub OrderIsThatOfForms : Type 0
OrderIsThatOfForms = (s t : Parts) → IsState s → IsState t → state_below s t ↔ IsBelow (abstract_of s) (abstract_of t)

-- states with one abstract form are one state
abbrev pub FormsTellStates : Type 0
FormsTellStates = (s t : Parts) → IsState s → IsState t → abstract_of s ≡ abstract_of t → s ≡ t
