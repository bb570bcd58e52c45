-- The least tables of a module are such as a report may hold, and the number of their states has 64 bits.
use Rattle.std.proofs.Common.{◌≡◌, ℕ, zero, suc, ◌+◌, ◌^◌, ◌≤◌, ◌<◌, List, [], ◌∷◌, length, Option, Some, None, refl, sym, ap, subst, arith}
use Rattle.std.specs.Prelude.{Contains}
use Rattle.std.specs.List.{All, AllByRecursion, slice_get}
use Rattle.std.specs.Option.{option_or}
use Rattle.std.proofs.lemmas.Bool.Decides.{nat_tests}
use Rattle.std.proofs.lemmas.List.Sums.{sum_by-le}
use Rattle.std.proofs.lemmas.Option.{slice_get_within, get_or_from_slice_get}
use Rattle.vw_bits.specs.Headers.{segments_of}
use Rattle.vw_bits.specs.HeaderRules.{header_fault}
use Rattle.vw_dynamic.specs.Dynamic.{dynamic_fault}
use Rattle.vw_bits.specs.Bounds.{IsBounded, AreBounded}
use Rattle.vw_layout.specs.declared.functions.Function.{Function}
use Rattle.vw_layout.specs.declared.layout.Module.{Module}
use Rattle.vw_layout.specs.Layout.{module_fault, layout_fault, IsModule, IsWhole, declared_functions}
use Rattle.vw_layout.specs.Laws.{IsCode}
use Rattle.vw_state.specs.declared.tables.FunctionTable.{FunctionTable}
use Rattle.vw_state.specs.declared.tables.PointState.{PointState}
use Rattle.vw_state.specs.Context.{context_of}
use Rattle.vw_state.specs.Rounds.{IsLeast}
use Rattle.vw_checks.specs.Modules.{TablesOf}
use Rattle.vw_report.specs.Least.{LeastTablesAreOfPoints}
use Rattle.vw_report.specs.Reports.{ArePoints, AreFunctions}
use Rattle.vw_app.specs.Selftest.{number_of_states}

-- ---- where functions lie

record IsNear (f : Function) : Type 0 where
  entry : f.entry < 2 ^ 64
  size : f.size < 2 ^ 32

headers_hold : (file : List ℕ) → IsModule file → header_fault file ≡ None
unfolding module_fault
headers_hold file is = first (header_fault file) (option_or (dynamic_fault file) (layout_fault file)) is
  where
    first : (a b : Option (ℕ × ℕ)) → option_or a b ≡ None → a ≡ None
    first None b none = refl
    first (Some x) b none = cc

each_of : {A : Type 0} (P : A → Type 0) (xs : List A) → AllByRecursion P xs → (x : A) → Contains xs x → P x
each_of P [] all x (k, inside, is) = absurd (omega arith)
each_of P (y ∷ ys) all x (zero, inside, is) = subst P is all.0
each_of P (y ∷ ys) all x (suc k, inside, is) = each_of P ys all.1 x (k, omega arith, is)

is_near : ((file : List ℕ) (f : Function) → IsModule file → Contains (declared_functions file) f → IsCode file f)
    → ((bytes : List ℕ) → header_fault bytes ≡ None → AreBounded (length bytes) (segments_of bytes))
    → (file : List ℕ) (f : Function) → IsModule file → Contains (declared_functions file) f → IsNear f
is_near code_law bounded file f is listed =
    let code = code_law file f is listed in
    let short = code.short in
    let bound = each_of (IsBounded (length file)) (segments_of file) (bounded file (headers_hold file is)) code.segment code.listed in
    let part = bound.part in
    let below = bound.below in
    let inside = code.inside in
    let less : f.entry < code.segment.vaddr + code.segment.filesz = grind (arith, nat_tests, inside) in
    record { entry = omega (arith, less, part, below); size = omega (arith, short) }

-- ---- functions that ascend

-- functions by ascending entries, none below `low`
abbrev AreNear : ℕ → List Function → Type 0
AreNear low [] = Unit {0}
AreNear low (f ∷ functions) = (low ≤ f.entry) × IsNear f × AreNear (suc f.entry) functions

abbrev Ascend : List Function → Type 0
Ascend functions = (j k : ℕ) (f g : Function) → slice_get functions j ≡ Some f → slice_get functions k ≡ Some g → j < k → f.entry < g.entry

are_near : (low : ℕ) (functions : List Function) → ((k : ℕ) (f : Function) → slice_get functions k ≡ Some f → low ≤ f.entry)
    → ((k : ℕ) (f : Function) → slice_get functions k ≡ Some f → IsNear f) → Ascend functions → AreNear low functions
are_near low [] from near ascend = tt
are_near low (f ∷ functions) from near ascend = (
  from 0 f refl,
  near 0 f refl,
  are_near (suc f.entry) functions
      (λ k g is. let less = ascend 0 (suc k) f g refl is (omega arith) in omega (arith, less))
      (λ k g is. near (suc k) g is)
      (λ j k g h first second less. ascend (suc j) (suc k) g h first second (omega (arith, less))),
)

-- ---- their least tables

functions_of : LeastTablesAreOfPoints → (m : Module) (low : ℕ) (functions : List Function) (tables : List FunctionTable) → AreNear low functions → TablesOf IsLeast m functions tables → AreFunctions low tables
functions_of points m low [] [] near least = tt
functions_of points m low [] (t ∷ tables) near least = absurd least
functions_of points m low (f ∷ functions) [] near least = absurd least
functions_of points m low (f ∷ functions) (t ∷ tables) near least =
    let same : t.entry ≡ f.entry = least.0 in
    let from = near.0 in
    let entry = near.1.entry in (
      omega (arith, same, from),
      omega (arith, same, entry),
      points (context_of m f) t.states near.1.size least.1,
      subst (λ (e : ℕ). AreFunctions (suc e) tables) (sym same) (functions_of points m (suc f.entry) functions tables near.2 least.2),
    )

as_many : (m : Module) (functions : List Function) (tables : List FunctionTable) → TablesOf IsLeast m functions tables → length tables ≡ length functions
as_many m [] [] least = refl
as_many m [] (t ∷ tables) least = absurd least
as_many m (f ∷ functions) [] least = absurd least
as_many m (f ∷ functions) (t ∷ tables) least = let others = as_many m functions tables least.2 in omega (arith, others)

few_points : (low : ℕ) (states : List PointState) → low ≤ 2 ^ 32 → ArePoints low states → low + length states ≤ 2 ^ 32
few_points low [] fits are = omega (arith, fits)
few_points low (p ∷ states) fits are =
    let from = are.0 in
    let within = are.1 in
    let others = few_points (suc p.at) states (omega (arith, within)) are.3 in
    omega (arith, from, others)

all_more : {X : Type 0} (P : X → Type 0) (x : X) (xs : List X) → P x → All P xs → All P (x ∷ xs)
all_more P x xs first others zero d within = first
all_more P x xs first others (suc k) d within = others k d (omega (arith, within))

short_tables : (low : ℕ) (tables : List FunctionTable) → AreFunctions low tables → All (λ table. length table.states ≤ 2 ^ 32) tables
short_tables low [] are = λ k d within. absurd (omega (arith, within))
short_tables low (t ∷ tables) are =
    let few : 0 + length t.states ≤ 2 ^ 32 = few_points 0 t.states (omega arith) are.2 in
    all_more (λ (table : FunctionTable). length table.states ≤ 2 ^ 32) t tables (omega (arith, few)) (short_tables (suc t.entry) tables are.3)

few_states : (tables : List FunctionTable) → AreFunctions 0 tables → length tables ≤ 65536 → number_of_states tables < 2 ^ 64
few_states tables are few =
    let sum = sum_by-le (λ (t : FunctionTable). length t.states) (2 ^ 32) tables (short_tables 0 tables are) in
    omega (arith, sum, few)

module _ (code_law : (file : List ℕ) (f : Function) → IsModule file → Contains (declared_functions file) f → IsCode file f)
    (bounded : (bytes : List ℕ) → header_fault bytes ≡ None → AreBounded (length bytes) (segments_of bytes))
    (ascend : (file : List ℕ) (j k : ℕ) (f g : Function) → IsModule file → slice_get (declared_functions file) j ≡ Some f → slice_get (declared_functions file) k ≡ Some g → j < k → f.entry < g.entry)
    (few : (file : List ℕ) → IsModule file → length (declared_functions file) ≤ 65536)
    (points : LeastTablesAreOfPoints)
    (m : Module) (whole : IsWhole m) (tables : List FunctionTable) (least : TablesOf IsLeast m m.functions tables) where
  near_at : (k : ℕ) (f : Function) → slice_get (declared_functions m.image.bytes) k ≡ Some f → IsNear f
  near_at k f is =
      let functions = declared_functions m.image.bytes in
      is_near code_law bounded m.image.bytes f whole.rules (k, slice_get_within functions k f is, get_or_from_slice_get functions k f f is)

  near : AreNear 0 m.functions
  near = subst (λ (functions : List Function). AreNear 0 functions) (sym whole.functions)
      (are_near 0 (declared_functions m.image.bytes) (λ k f is. omega arith) near_at (λ j k f g. ascend m.image.bytes j k f g whole.rules))

  pub are_functions : AreFunctions 0 tables
  are_functions = functions_of points m 0 m.functions tables near least

  pub states_fit : number_of_states tables < 2 ^ 64
  states_fit =
      let same = as_many m m.functions tables least in
      let same_functions = ap (λ (functions : List Function). length functions) whole.functions in
      let limit = few m.image.bytes whole.rules in
      few_states tables are_functions (omega (arith, same, same_functions, limit))
