-- Functions by their entries.
use Rattle.std.proofs.Common.{◌≡◌, inl, inr, ℕ, ◌<◌, List, Some, sym, ◌∙◌, ap, arith}
use Rattle.std.specs.Prelude.{Contains, slice_get}
use Rattle.std.proofs.lemmas.Bool.{cases_lt}
use Rattle.std.proofs.lemmas.Option.{slice_get-get_or}
use Rattle.vw_layout.specs.declared.functions.Function.{Function}

-- functions stand by ascending entries
abbrev pub Ascending : List Function → Type 0
Ascending functions = (j k : ℕ) (f g : Function) → slice_get functions j ≡ Some f → slice_get functions k ≡ Some g → j < k → f.entry < g.entry

there : (functions : List Function) (f : Function) (c : Contains functions f) → slice_get functions c.0 ≡ Some f
there functions f c = slice_get-get_or functions c.0 f c.1 ∙ ap Some c.2

-- so one function begins at an address
pub one_function : (functions : List Function) → Ascending functions → (f g : Function) → Contains functions f → Contains functions g → f.entry ≡ g.entry → f ≡ g
one_function functions ascending f g one two same =
    elim (cases_lt one.0 two.0) [
      | inl before ↦ let less = ascending one.0 two.0 f g (there functions f one) (there functions g two) before in absurd (omega arith)
      | inr behind ↦ elim (cases_lt two.0 one.0) [
        | inl after ↦ let less = ascending two.0 one.0 g f (there functions g two) (there functions f one) after in absurd (omega arith)
        | inr equal ↦
            let places : one.0 ≡ two.0 = omega arith in
            let both : Some f ≡ Some g = sym (there functions f one) ∙ (ap (slice_get functions) places ∙ there functions g two) in
            cc
      ]
    ]
