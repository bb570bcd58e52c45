-- The name of the function at an address.
use Rattle.std.proofs.Common.{◌≡◌, ℕ, ◌<◌, ◌==◌, ◌≤◌, Bool, true, false, cond, refl, Result, Ok, Err, IfOk, List, length, get_or, Some, None, ◌∙◌, ap, sym, subst, codes, arith}
use Rattle.std.specs.Prelude.{nat_lt}
use Rattle.std.specs.List.{slice_get, position, position_or_len}
use Rattle.std.proofs.lemmas.Bool.Decides.{nat_tests}
use Rattle.std.proofs.lemmas.List.Quantifiers.{position-Some}
use Rattle.std.proofs.lemmas.List.Sums.{fails_before_first}
use Rattle.std.proofs.lemmas.Option.{slice_get_within, slice_get-get_or, get_or_from_slice_get}
use Rattle.vw_layout.specs.declared.functions.Function.{Function}
use Rattle.vw_layout.specs.declared.layout.Module.{Module}
use Rattle.vw_bits.specs.declared.memory.OutOfMemory.{OutOfMemory}
use Rattle.vw_checks.specs.Modules.{IsNumbered}
use Rattle.vw_state.specs.declared.tables.Place.{Place}
use Rattle.vw_verdict.specs.Verdicts.{IsPlaceOf}
use Rattle.vw_app.specs.Check.{IsNameAt, IsPlaceLine, declared, undeclared}
use Rattle.vw_app.specs.Lines.{unsafe_line}

-- the entries ascend
abbrev pub Ascend : List Function → Type 0
Ascend functions = (j k : ℕ) (f g : Function) → slice_get functions j ≡ Some f → slice_get functions k ≡ Some g → j < k → f.entry < g.entry

pub by_order : (a b : ℕ) → (a < b → ⊥) → (b < a → ⊥) → a ≡ b
by_order a b not_less not_greater = equal (nat_lt a b) refl (nat_lt b a) refl
  where
    equal : (less : Bool) → nat_lt a b ≡ less → (greater : Bool) → nat_lt b a ≡ greater → a ≡ b
    equal true is greater also = absurd (not_less (grind (arith, nat_tests, is)))
    equal false is true also = absurd (not_greater (grind (arith, nat_tests, also)))
    equal false is false also = grind (arith, nat_tests, is, also)

cond_none : (b : Bool) (x : ℕ) → cond b (Some x) None ≡ None → b ≡ false
cond_none true x none = cc
cond_none false x none = refl

module _ (functions : List Function) (ascend : Ascend functions) (entry number : ℕ) (f : Function) (is : slice_get functions number ≡ Some f) (at : entry ≡ f.entry) where
  -- the first function at its entry is the one
  place_is : (k : ℕ) → position (λ (g : Function). g.entry == entry) functions ≡ Some k → k ≡ number
  place_is k found =
      let place = position-Some (λ (g : Function). g.entry == entry) functions k f found in
      let here : (get_or functions k f).entry ≡ f.entry = grind (arith, nat_tests, place.1, at) in
      let is_k = slice_get-get_or functions k f place.0 in
      by_order k number
      (λ less. let order = ascend k number (get_or functions k f) f is_k is less in omega (arith, order, here))
      (λ less. let order = ascend number k f (get_or functions k f) is is_k less in omega (arith, order, here))

  pub named : (lent : List Function) (k : ℕ) (read : Function) → lent ≡ functions → position (λ (g : Function). g.entry == entry) functions ≡ Some k → (get_or lent k read).name ≡ f.name
  named lent k read same found =
      ap (λ (fs : List Function). (get_or fs k read).name) same
      ∙ (ap (λ (n : ℕ). (get_or functions n read).name) (place_is k found) ∙ ap (λ (g : Function). g.name) (get_or_from_slice_get functions number f read is))

  -- some function is at its entry
  pub never : position (λ (g : Function). g.entry == entry) functions ≡ None → ⊥
  never none =
      let test : Function → Bool = λ g. g.entry == entry in
      let end = cond_none (nat_lt (position_or_len test functions) (length functions)) (position_or_len test functions) none in
      let past : length functions ≤ position_or_len test functions = grind (arith, nat_tests, end) in
      let fails = fails_before_first test functions number f (omega (arith, past, slice_get_within functions number f is)) in
      let here : (get_or functions number f).entry ≡ f.entry = ap (λ (g : Function). g.entry) (get_or_from_slice_get functions number f f is) in
      grind (arith, nat_tests, fails, here, at)

-- the name of a function that was found
pub found_name : (m : Module) (entry k : ℕ) (lent : List Function) (read : Function) (name : List ℕ) → lent ≡ m.functions → position (λ (g : Function). g.entry == entry) m.functions ≡ Some k → name ≡ (get_or lent k read).name → IsNameAt m entry name
found_name m entry k lent read name same found is =
    let place = position-Some (λ (g : Function). g.entry == entry) m.functions k read found in
    let f : Function = get_or m.functions k read in
    let there : slice_get m.functions k ≡ Some f = slice_get-get_or m.functions k read place.0 in
    let at : f.entry ≡ entry = grind (arith, nat_tests, place.1) in
    let named : name ≡ f.name = is ∙ ap (λ (fs : List Function). (get_or fs k read).name) same in
    subst (λ (n : List ℕ). IsNameAt m entry n) (sym named) (declared f (k, place.0, get_or_from_slice_get m.functions k f f there) at)

-- the name where none was found
pub no_name : (m : Module) (entry : ℕ) (name : List ℕ) → Ascend m.functions → position (λ (g : Function). g.entry == entry) m.functions ≡ None → name ≡ codes "?" → IsNameAt m entry name
no_name m entry name ascend none is =
    subst (λ (n : List ℕ). IsNameAt m entry n) (sym is)
    (undeclared (λ f listed at. never m.functions ascend entry listed.0 f (slice_get-get_or m.functions listed.0 f listed.1 ∙ ap Some listed.2) (sym at) none))

IfOk-map : {T E : Type 0} {P Q : T → Type 0} (r : Result T E) → ((x : T) → P x → Q x) → IfOk r P → IfOk r Q
IfOk-map (Ok x) f holds = f x holds
IfOk-map (Err e) f holds = tt

-- the line of a place, with the name that was found
module _ (m : Module) (place : Place) (name : List ℕ) (result : Result (List ℕ) OutOfMemory) where
  pub place_named : ((number : ℕ) (f : Function) → IsNumbered m number f → place.entry ≡ f.entry → name ≡ f.name) → IfOk result (λ text. text ≡ unsafe_line name place.at place.check)
      → IfOk result (λ text. (fails : IsPlaceOf m place) → text ≡ unsafe_line fails.function.name place.at place.check)
  place_named named made =
      IfOk-map result (λ text is fails. is ∙ ap (λ (n : List ℕ). unsafe_line n place.at place.check) (named fails.number fails.function fails.is fails.entry)) made

  pub place_line : IsNameAt m place.entry name → IfOk result (λ text. text ≡ unsafe_line name place.at place.check) → IfOk result (IsPlaceLine m place)
  place_line named made = IfOk-map result (λ text is. record { name = name; named = named; is = is }) made
