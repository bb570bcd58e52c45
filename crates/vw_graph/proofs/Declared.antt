-- A function of a module by its number.
use Rattle.std.proofs.Common.{◌≡◌, ℕ, ◌<◌, ◌≤◌, List, length, get_or, Some, Result, Ok, Err, IfOk, refl, sym, ◌∙◌, ap, subst}
use Rattle.std.specs.Prelude.{Contains}
use Rattle.std.specs.List.{slice_get}
use Rattle.std.proofs.lemmas.Option.{get_or_from_slice_get, slice_get_read}
use Rattle.vw_layout.specs.declared.functions.Function.{Function}
use Rattle.vw_layout.specs.Layout.{IsModule, declared_functions}
use Rattle.vw_layout.specs.Laws.{IsCode}

module _ (functions : List Function) (number : ℕ) (f : Function) (xs : List Function) (same : xs ≡ functions) (is : f ≡ get_or xs number f) where
  it : get_or functions number f ≡ f
  it = ap (λ (ys : List Function). get_or ys number f) (sym same) ∙ sym is

  -- what the rules say of its size
  pub short : (file : List ℕ) → ((file : List ℕ) (f : Function) → IsModule file → Contains (declared_functions file) f → IsCode file f) → IsModule file → functions ≡ declared_functions file → number < length functions → f.size ≤ 1048576
  short file law is_module declared less =
      (law file f is_module (subst (λ (ys : List Function). Contains ys f) declared (number, less, it))).short

  -- it is the one with its number
  pub is_numbered : number < length functions → slice_get functions number ≡ Some f
  is_numbered less = slice_get_read functions (length functions) number f refl less (sym it)

  pub one_function : (g : Function) → slice_get functions number ≡ Some g → f ≡ g
  one_function g e = sym it ∙ get_or_from_slice_get functions number g f e

  pub of_each : {T E : Type 0} (Holds : Function → T → Type 0) (result : Result T E) → IfOk result (Holds f) → IfOk result (λ r. (g : Function) → slice_get functions number ≡ Some g → Holds g r)
  of_each Holds (Ok r) holds = λ g e. subst (λ (h : Function). Holds h r) (one_function g e) holds
  of_each Holds (Err e) holds = tt
