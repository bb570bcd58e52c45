-- What a call of an address enters.
use Rattle.std.proofs.Common.{◌≡◌, ℕ, ◌||◌, Bool, true, false, cond, List, Option, Some, None, IfSome, is_some, option_map, option_and_then, refl, subst, ◌==◌}
use Rattle.std.specs.Option.{option_map_or, option_or}
use Rattle.vw_image.specs.Image.{Contents}
use Rattle.vw_image.specs.Stubs.{stub_at, IsBound}
use Rattle.vw_image.specs.declared.stub.Stub.{Stub}
use Rattle.vw_image.specs.declared.stub.StubTo.{StubTo}
use Rattle.vw_image.specs.declared.stub.StubTo.TheVariants.{Import, Inside}
use Rattle.vw_layout.specs.Calls.{is_destination, is_probed, is_probe_stub, is_entry, number_at, module_stub, call_target}
use Rattle.vw_layout.specs.declared.functions.Function.{Function}
use Rattle.vw_layout.specs.declared.calls.CallTarget.{CallTarget}
use Rattle.vw_layout.specs.declared.calls.CallTarget.TheVariants as target
use Rattle.vw_layout.proofs.SearchLemmas.{position_some}

abbrev kept : List Function → Option Stub → Option Stub
kept functions stub = option_and_then (λ s. cond (is_destination functions s.to) (Some s) None) stub

kept_one : (count : ℕ) (s : Stub) (passes : Bool) → IsBound count s.to → IfSome (cond passes (Some s) None) (λ t. IsBound count t.to)
kept_one count s true bound = bound
kept_one count s false bound = tt

pub kept_bound : (count : ℕ) (functions : List Function) (stub : Option Stub) → IfSome stub (λ s. IsBound count s.to) → IfSome (kept functions stub) (λ s. IsBound count s.to)
kept_bound count functions None bound = tt
kept_bound count functions (Some s) bound = kept_one count s (is_destination functions s.to) bound

-- the probe is entered where its stub stands, and nowhere else
not_probe : (function : Option ℕ) (stub : Option Stub) → option_or (option_map target.Function function) (option_map target.Stub stub) ≡ Some target.Probe → ⊥
not_probe (Some k) stub is = cc
not_probe None (Some s) is = cc
not_probe None None is = cc

probe_of : (probed : Bool) (function : Option ℕ) (stub : Option Stub) → cond probed (Some target.Probe) (option_or (option_map target.Function function) (option_map target.Stub stub)) ≡ Some target.Probe → probed ≡ true
probe_of true function stub is = refl
probe_of false function stub is = absurd (not_probe function stub is)

of_probe : (probed : Bool) (other : Option CallTarget) → probed ≡ true → cond probed (Some target.Probe) other ≡ Some target.Probe
of_probe true other is = refl
of_probe false other is = cc

pub probe_is_stub : (image : Contents) (functions : List Function) (address : ℕ) → call_target image functions address ≡ Some target.Probe → is_probe_stub image address ≡ true
unfolding call_target
probe_is_stub image functions address is = probe_of (is_probe_stub image address) (number_at functions address) (module_stub image functions address) is

pub stub_is_probe : (image : Contents) (functions : List Function) (address : ℕ) → is_probe_stub image address ≡ true → call_target image functions address ≡ Some target.Probe
unfolding call_target
stub_is_probe image functions address is = of_probe (is_probe_stub image address) _ is

-- something is entered where a function begins or a stub stands
some_of : (probed found standing : Bool) (function : Option ℕ) (stub : Option Stub) → (probed ≡ true → is_some stub ≡ true) → is_some function ≡ found → is_some (cond probed (Some target.Probe) (option_or (option_map target.Function function) (option_map target.Stub stub))) ≡ (found || is_some stub)
some_of true true standing function stub has is = refl
some_of true false standing function stub has is = let there : is_some stub ≡ true = has refl in cc
some_of false found standing (Some k) stub has is = let there : found ≡ true = cc in rw there refl
some_of false found standing None None has is = let none : found ≡ false = cc in rw none refl
some_of false found standing None (Some s) has is = let none : found ≡ false = cc in rw none refl

import_stands : (imports : List (List ℕ)) (functions : List Function) (s : Stub) (to : StubTo) → s.to ≡ to → is_probed imports to ≡ true → is_some (cond (is_destination functions to) (Some s) None) ≡ true
import_stands imports functions s (Import number) is probed = refl
import_stands imports functions s (Inside address) is probed = cc

probe_stands : (imports : List (List ℕ)) (functions : List Function) (stub : Option Stub) → option_map_or (λ s. is_probed imports s.to) stub false ≡ true → is_some (kept functions stub) ≡ true
probe_stands imports functions None is = cc
probe_stands imports functions (Some s) is = import_stands imports functions s s.to refl is

pub some_target : (image : Contents) (functions : List Function) (address : ℕ) → is_some (call_target image functions address) ≡ (is_entry functions address || is_some (module_stub image functions address))
unfolding call_target module_stub is_probe_stub
some_target image functions address =
    some_of (is_probe_stub image address) (is_entry functions address) true (number_at functions address) (module_stub image functions address) (probe_stands image.imports functions (stub_at image address)) (position_some (λ f. f.entry == address) functions)

-- the stub of a module is one whose bytes stand there
stub_of : (functions : List Function) (found : Option Stub) (s : Stub) → kept functions found ≡ Some s → (found ≡ Some s) × (is_destination functions s.to ≡ true)
stub_of functions None s is = cc
stub_of functions (Some t) s is = one (is_destination functions t.to) refl is
  where
    one : (passes : Bool) → is_destination functions t.to ≡ passes → cond passes (Some t) None ≡ Some s → (Some t ≡ Some s) × (is_destination functions s.to ≡ true)
    one true passes is =
        let same : t ≡ s = cc in
        let P : Stub → Type 0 = λ u. is_destination functions u.to ≡ true in
        (is, subst P same passes)
    one false passes is = cc

pub stub_stands : (image : Contents) (functions : List Function) (address : ℕ) (s : Stub) → module_stub image functions address ≡ Some s → (stub_at image address ≡ Some s) × (is_destination functions s.to ≡ true)
unfolding module_stub
stub_stands image functions address s is = stub_of functions (stub_at image address) s is
