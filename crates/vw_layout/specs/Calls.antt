-- What a call of an address enters: a declared function, a stub, or the stub of the import that probes the
-- stack (x86-64 psABI, "Procedure Linkage Table", for the stubs).
use Rattle.std.specs.Prelude.{ℕ, Bool, true, false, ◌==◌, List, Option, Some, None, option_map, option_and_then, codes, slice_get, if◌then◌else◌}
use Rattle.std.specs.List.{list_any, position}
use Rattle.std.specs.Option.{option_map_or, option_or}
use Rattle.std.specs.Str.{bytes_eq}
use Rattle.vw_image.specs.Image.{Contents}
use Rattle.vw_image.specs.Stubs.{stub_at}
use Rattle.vw_image.specs.declared.stub.Stub.{Stub}
use Rattle.vw_image.specs.declared.stub.StubTo.{StubTo}
use Rattle.vw_image.specs.declared.stub.StubTo.TheVariants.{Import, Inside}
use Rattle.vw_layout.specs.declared.functions.Function.{Function}
use Rattle.vw_layout.specs.declared.calls.CallTarget.{CallTarget}
use Rattle.vw_layout.specs.declared.calls.CallTarget.TheVariants as target

-- the name of the import that probes the stack
abbrev pub probe_name : List ℕ
probe_name = codes "lucet_probestack"

-- The import with a number is the one that probes the stack. It is so by its name alone: a declared function of
-- that name is one like all others.
abbrev pub is_probe : List (List ℕ) → ℕ → Bool
is_probe imports number = option_map_or (bytes_eq probe_name) (slice_get imports number) false

-- a declared function begins at an address
abbrev pub is_entry : List Function → ℕ → Bool
is_entry functions address = list_any (λ f. f.entry == address) functions

-- the number of the function that begins at an address, counted from 0 by ascending address
abbrev pub number_at : List Function → ℕ → Option ℕ
number_at functions address = position (λ f. f.entry == address) functions

-- a stub may go to an import, and to an address of the image where a declared function begins there
abbrev pub is_destination : List Function → StubTo → Bool
is_destination functions (Import number) = true
is_destination functions (Inside address) = is_entry functions address

-- The stub of a module at an address: the bytes of one stand there, and the word through which they jump is
-- bound to an import, or based on a declared function.
unfoldable pub module_stub : Contents → List Function → ℕ → Option Stub
module_stub image functions address =
    option_and_then (λ stub. if is_destination functions stub.to then Some stub else None) (stub_at image address)

-- a stub goes to the import that probes the stack
abbrev pub is_probed : List (List ℕ) → StubTo → Bool
is_probed imports (Import number) = is_probe imports number
is_probed imports (Inside address) = false

-- the stub of the import that probes the stack stands at an address
unfoldable pub is_probe_stub : Contents → ℕ → Bool
is_probe_stub image address = option_map_or (λ stub. is_probed image.imports stub.to) (stub_at image address) false

-- What a call of an address enters: the probe where its stub stands there, also where a declared function begins
-- there; else the function that begins there, also where another stub stands there; else the stub.
unfoldable pub call_target : Contents → List Function → ℕ → Option CallTarget
call_target image functions address =
    if is_probe_stub image address then Some target.Probe
    else option_or (option_map target.Function (number_at functions address)) (option_map target.Stub (module_stub image functions address))

-- a declared function or a stub, but not the probe
abbrev pub is_ordinary : CallTarget → Bool
is_ordinary (target.Function number) = true
is_ordinary (target.Stub stub) = true
is_ordinary target.Probe = false
