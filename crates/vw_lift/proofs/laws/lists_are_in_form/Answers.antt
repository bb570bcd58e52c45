use Rattle.vw_lift.proofs.Form.{in_form}
use Rattle.vw_lift.proofs.laws.lists_are_in_form.Goals as goal

pub returns : goal.returns
returns c = λ i is word. in_form i is word
