-- The code of a module's functions has their sizes.
use Rattle.std.proofs.Common.{◌≡◌, ℕ, zero, suc, ◌+◌, ◌-◌, ◌≤◌, ◌<◌, Bool, true, false, List, [], ◌∷◌, length, drop, Option, Some, None, refl, sym, ◌∙◌, ap, subst, arith}
use Rattle.std.specs.Prelude.{Contains}
use Rattle.std.specs.List.{find, AllByRecursion}
use Rattle.std.specs.Option.{option_or}
use Rattle.std.proofs.lemmas.Bool.{false≢true}
use Rattle.std.proofs.lemmas.Bool.Decides.{nat_tests}
use Rattle.std.proofs.lemmas.List.{length-drop, length-take-le}
use Rattle.vw_bits.specs.Headers.{segments_of}
use Rattle.vw_bits.specs.HeaderRules.{header_fault}
use Rattle.vw_bits.specs.Places.{is_among, in_file_part, file_offset}
use Rattle.vw_dynamic.specs.Dynamic.{dynamic_fault}
use Rattle.vw_image.specs.Image.{image_of}
use Rattle.vw_image.specs.Words.{bytes_at}
use Rattle.vw_bits.specs.Bounds.{IsBounded, AreBounded}
use Rattle.vw_layout.specs.declared.functions.Function.{Function}
use Rattle.vw_layout.specs.Layout.{module_fault, layout_fault, IsModule, declared_functions}
use Rattle.vw_layout.specs.Laws.{IsCode}
use Rattle.vw_state.specs.Code.{code_at}

both_none : {A : Type 0} (a b : Option A) → option_or a b ≡ None → (a ≡ None) × (b ≡ None)
both_none None b none = (refl, none)
both_none (Some x) b none = cc

headers_hold : (file : List ℕ) → IsModule file → (header_fault file ≡ None) × (dynamic_fault file ≡ None)
unfolding module_fault
headers_hold file is =
    let first = both_none (header_fault file) (option_or (dynamic_fault file) (layout_fault file)) is in
    (first.0, (both_none (dynamic_fault file) (layout_fault file) first.1).0)

-- where one passes, one is found that passes
abbrev IsFound : {X : Type 0} → (X → Bool) → List X → Type 0
IsFound {X} p xs = (y : X) × Contains xs y × (p y ≡ true) × (find p xs ≡ Some y)

found_first : {X : Type 0} (p : X → Bool) (y : X) (xs : List X) (passes : Bool) → p y ≡ passes → (passes ≡ false → IsFound p xs) → IsFound p (y ∷ xs)
found_first p y xs true is later = (y, (0, omega arith, refl), is, rw is refl)
found_first p y xs false is later =
    let found = later refl in (found.0, (suc found.1.0, omega (arith, found.1.1), found.1.2), found.2, rw is found.3)

found_of : {X : Type 0} (p : X → Bool) (xs : List X) (x : X) → Contains xs x → p x ≡ true → IsFound p xs
found_of p [] x (k, inside, is) passes = absurd (omega arith)
found_of p (y ∷ xs) x (zero, inside, is) passes = found_first p y xs true (ap p is ∙ passes) (λ e. absurd (false≢true (sym e)))
found_of p (y ∷ xs) x (suc k, inside, is) passes = found_first p y xs (p y) refl (λ e. found_of p xs x (k, omega arith, is) passes)

among : (start size a n : ℕ) → is_among start size a n ≡ true → (start ≤ a) × (a < start + size) × (a + n ≤ start + size)
among start size a n h = (grind (arith, nat_tests, h), grind (arith, nat_tests, h), grind (arith, nat_tests, h))

all_of : {A : Type 0} (P : A → Type 0) (xs : List A) → AllByRecursion P xs → (x : A) → Contains xs x → P x
all_of P [] all x (k, inside, is) = absurd (omega arith)
all_of P (y ∷ ys) all x (zero, inside, is) = subst P is all.0
all_of P (y ∷ ys) all x (suc k, inside, is) = all_of P ys all.1 x (k, omega arith, is)

module _ (code_law : (file : List ℕ) (f : Function) → IsModule file → Contains (declared_functions file) f → IsCode file f)
    (bounded : (bytes : List ℕ) → header_fault bytes ≡ None → AreBounded (length bytes) (segments_of bytes))
    (file : List ℕ) (is : IsModule file) (f : Function) (listed : Contains (declared_functions file) f) where
  -- the segment in whose file part the code is found
  found : IsFound (in_file_part f.entry f.size) (segments_of file)
  found = let code = code_law file f is listed in found_of (in_file_part f.entry f.size) (segments_of file) code.segment code.listed code.inside

  abbrev place : ℕ
  place = found.0.offset + (f.entry - found.0.vaddr)

  placed : file_offset (segments_of file) f.entry f.size ≡ Some place
  unfolding file_offset
  placed = rw found.3 refl

  pub code_length : length (code_at (image_of file) f.entry f.size) ≡ f.size
  unfolding image_of bytes_at code_at
  code_length =
      let part = among found.0.vaddr found.0.filesz f.entry f.size found.2 in
      let bound = all_of (IsBounded (length file)) (segments_of file) (bounded file (headers_hold file is).0) found.0 found.1 in
      let low = part.0 in
      let high = part.2 in
      let inside = bound.inside in
      let rest = length-drop (found.0.offset + (f.entry - found.0.vaddr)) file in
      let fits : f.size ≤ length (drop (found.0.offset + (f.entry - found.0.vaddr)) file) = omega (arith, rest, low, high, inside) in
      rw placed (length-take-le f.size (drop (found.0.offset + (f.entry - found.0.vaddr)) file) fits)
