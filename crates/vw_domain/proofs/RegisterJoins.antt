-- What the join of two registers makes of the first where both are one.
use Rattle.std.proofs.Common.{◌≡◌, ℕ, List, subst}
use Rattle.vw_domain.specs.declared.registers.Register.{Register}
use Rattle.vw_domain.specs.Registers.{IsRegister, register_below, JoinsRegister}
use Rattle.vw_domain.specs.RegisterOrder.{register_reflexive}

pub stays_same : (bounds : List ℕ) (x y : Register) → IsRegister x → x ≡ y → JoinsRegister bounds x y x
stays_same bounds x y is same = record {
  register = is;
  kept = λ valid. valid;
  is_join = λ valid valid_other. record {
    valid = valid;
    above_left = register_reflexive bounds x valid;
    above_right = subst (λ (r : Register). register_below r x) same (register_reflexive bounds x valid);
    least = λ bound valid_bound over_left over_right. over_left;
  };
  least = λ bound valid_bound over_left over_right. over_left;
}
