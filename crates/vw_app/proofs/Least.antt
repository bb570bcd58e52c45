-- The least tables of a module's functions.
use Rattle.std.proofs.Common.{◌≡◌, inl, inr, ℕ, zero, suc, ◌+◌, ◌<◌, ◌≤◌, ◌^◌, List, [], ◌∷◌, length, take, drop, get_or, Option, Some, None, option_map, unwrap_or, refl, sym, ◌∙◌, ap, arith, lit<}
use Rattle.std.specs.Prelude.{Contains}
use Rattle.std.specs.List.{slice_get}
use Rattle.std.proofs.lemmas.List.{get_or-drop}
use Rattle.std.proofs.lemmas.Option.{slice_get_within, slice_get-get_or, get_or_from_slice_get}
use Rattle.vw_bits.specs.Places.{file_offset}
use Rattle.vw_rows.specs.Numbers.{IsBytes}
use Rattle.vw_image.specs.Image.{Contents}
use Rattle.vw_image.specs.Words.{bytes_at}
use Rattle.vw_layout.specs.declared.functions.Function.{Function}
use Rattle.vw_layout.specs.declared.layout.Module.{Module}
use Rattle.vw_layout.specs.Layout.{IsModule, IsWhole, declared_functions}
use Rattle.vw_state.specs.declared.tables.PointState.{PointState}
use Rattle.vw_state.specs.Checks.{StopsAt}
use Rattle.vw_state.specs.Code.{code_at}
use Rattle.vw_state.specs.Context.{Context, code_of, context_of}
use Rattle.vw_state.specs.Laws.{HasSites}
use Rattle.vw_state.specs.Rounds.{IsRound, IsStable, IsLeast}
use Rattle.vw_checks.specs.Modules.{IsNumbered}
use Rattle.vw_graph.specs.declared.all_rounds.Rounds.{Rounds}
use Rattle.vw_graph.specs.declared.all_rounds.Rounds.TheVariants.{Stable, Stopped}
use Rattle.vw_graph.specs.Rounds.{EndsAs, IsRounds, last_table}
use Rattle.vw_machine.specs.Module.{declared_module}

-- a function has one least table
abbrev pub OneLeast : Type 0
OneLeast = (f : Context) (table other : List PointState) → IsBytes (code_of f) → HasSites f → IsLeast f table → IsLeast f other → table ≡ other

-- what the equations of a module's functions read is in its ranges
abbrev pub SitesLaw : Type 0
SitesLaw = (m : Module) (f : Function) → IsWhole m → IsBytes m.image.bytes → Contains m.functions f → HasSites (context_of m f)

-- each function of a module has one least table
abbrev pub OneLeastIn : Module → Type 0
OneLeastIn m = (number : ℕ) (f : Function) → IsNumbered m number f → (table other : List PointState) → IsLeast (context_of m f) table → IsLeast (context_of m f) other → table ≡ other

IsBytes-take : (n : ℕ) (bytes : List ℕ) → IsBytes bytes → IsBytes (take n bytes)
IsBytes-take zero bytes are i = lit< tt
IsBytes-take (suc n) [] are i = are i
IsBytes-take (suc n) (b ∷ bytes) are zero = are 0
IsBytes-take (suc n) (b ∷ bytes) are (suc i) = IsBytes-take n bytes (λ k. are (suc k)) i

IsBytes-drop : (n : ℕ) (bytes : List ℕ) → IsBytes bytes → IsBytes (drop n bytes)
IsBytes-drop n bytes are i = rw (get_or-drop n bytes i 0) (are (n + i))

lent_bytes : (bytes : List ℕ) (n : ℕ) (offset : Option ℕ) → IsBytes bytes → IsBytes (unwrap_or (option_map (λ at. take n (drop at bytes)) offset) [])
lent_bytes bytes n None are = λ i. lit< tt
lent_bytes bytes n (Some at) are = IsBytes-take n (drop at bytes) (IsBytes-drop at bytes are)

code_bytes : (image : Contents) (entry size : ℕ) → IsBytes image.bytes → IsBytes (code_at image entry size)
unfolding code_at bytes_at
code_bytes image entry size are = lent_bytes image.bytes size (file_offset image.segments entry size) are

pub one_least_in : OneLeast → SitesLaw → (m : Module) → IsWhole m → IsBytes m.image.bytes → OneLeastIn m
one_least_in one sites m whole bytes number f is table other =
    let listed : Contains m.functions f = (number, slice_get_within m.functions number f is, get_or_from_slice_get m.functions number f f is) in
    one (context_of m f) table other (code_bytes m.image f.entry f.size bytes) (sites m f whole bytes listed)

-- the table of the last round is the least
pub least_stops : {f : Context} {number at check : ℕ} {pairs : List (ℕ × ℕ)} {table : List PointState} → IsRound f number pairs table → StopsAt f table at check → IsLeast f table
least_stops {f} {number} {at} {check} {pairs} {table} round stop = record { pairs = pairs; last = record { number = number; round = round; ends = inl (record { at = at; check = check; stops = stop }) } }

pub least_stable : {f : Context} {number : ℕ} {pairs : List (ℕ × ℕ)} {table : List PointState} → IsRound f number pairs table → IsStable f pairs table → IsLeast f table
least_stable {f} {number} {pairs} {table} round stable = record { pairs = pairs; last = record { number = number; round = round; ends = inr stable } }

least_by : (f : Context) (ends : Rounds) (number : ℕ) (pairs : List (ℕ × ℕ)) → IsRound f number pairs (last_table ends).states → EndsAs f pairs ends → IsLeast f (last_table ends).states
least_by f (Stable table) number pairs round stable = least_stable round stable
least_by f (Stopped table at check) number pairs round stop = least_stops round stop

pub least_of : (f : Context) (ends : Rounds) → IsRounds f ends → IsLeast f (last_table ends).states
least_of f ends rounds = least_by f ends rounds.number rounds.pairs rounds.round rounds.ends

-- a module that was read is the one that its file gives
pub declared_is : (m : Module) → IsWhole m → declared_module m.image.bytes ≡ m
declared_is m whole = rw (sym whole.functions, sym whole.tables, sym whole.image) refl

-- a function that was read from the list is the one with its number
pub read_is : (functions lent : List Function) (n : ℕ) (read f : Function) → lent ≡ functions → read ≡ get_or lent n read → slice_get functions n ≡ Some f → read ≡ f
read_is functions lent n read f same is is_f =
    is ∙ (ap (λ (fs : List Function). get_or fs n read) same ∙ get_or_from_slice_get functions n f read is_f)

-- the function with a number, of a list
pub numbered_at : (functions : List Function) (n : ℕ) → n < length functions → (f : Function) × (slice_get functions n ≡ Some f)
numbered_at functions n inside = (get_or functions n none, slice_get-get_or functions n none inside)
  where
    none : Function
    none = record { entry = 0; size = 0; name = [] }

-- numbers of functions have 32 bits
pub number_fits : (m : Module) (lent : List Function) (n : ℕ) → IsWhole m → ((file : List ℕ) → IsModule file → length (declared_functions file) ≤ 65536) → lent ≡ m.functions → n < length lent → n < 2 ^ 32
number_fits m lent n whole few same inside =
    omega (arith, inside, few m.image.bytes whole.rules, ap (λ (fs : List Function). length fs) (same ∙ whole.functions))
