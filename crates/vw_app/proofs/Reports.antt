-- A module has one report of its least tables.
use Rattle.std.proofs.Common.{◌≡◌, ℕ, zero, suc, List, [], ◌∷◌, get_or, Some, refl, sym, ◌∙◌, subst, arith}
use Rattle.std.specs.List.{All, slice_get}
use Rattle.std.proofs.lemmas.Option.{slice_get-get_or}
use Rattle.vw_domain.specs.State.{IsState}
use Rattle.vw_layout.specs.declared.functions.Function.{Function}
use Rattle.vw_layout.specs.declared.layout.Module.{Module}
use Rattle.vw_state.specs.declared.tables.FunctionTable.{FunctionTable}
use Rattle.vw_state.specs.declared.tables.PointState.{PointState}
use Rattle.vw_state.specs.declared.tables.Tables.{Tables}
use Rattle.vw_state.specs.Context.{Context, context_of}
use Rattle.vw_state.specs.Rounds.{IsRound, first_round, next_round, IsLeast}
use Rattle.vw_state.specs.Solution.{IsLeastWith, Lands}
use Rattle.vw_state.specs.Tables.{state_of}
use Rattle.vw_checks.specs.Modules.{TablesOf}
use Rattle.vw_verdict.proofs.Points.{state_there}
use Rattle.vw_report.specs.ReportText.{IsTextOf}
use Rattle.vw_report.specs.Reports.{AreStates, TablesHaveOneText}
use Rattle.vw_app.specs.Answer.{IsLeastReport}
use Rattle.vw_app.proofs.Least.{OneLeastIn}

-- ---- what least tables give points are states

least_with : {f : Context} {number : ℕ} {pairs : List (ℕ × ℕ)} {table : List PointState} → IsRound f number pairs table → IsLeastWith f pairs table
least_with (first_round table least) = least
least_with (next_round number pairs more before table at to round passes jumps distinct new fresh least) = least

some_is : {A : Type 0} {x y : A} → Some x ≡ Some y → x ≡ y
some_is e = cc

least_states : (f : Context) (table : List PointState) → IsLeast f table → All (λ p. IsState p.state) table
least_states f table is k d inside =
    let least = least_with is.last.round in
    let p = get_or table k d in
    let there : state_of table p.at ≡ Some p.state = state_there 0 f.size table least.solution.rises k p (slice_get-get_or table k d inside) in
    let lands : Lands f table (p.at, p.state) = least.least table least.solution p.at p.state there in
    subst IsState (some_is (sym lands.there ∙ there)) lands.fits.state

all_more : {X : Type 0} (P : X → Type 0) (x : X) (xs : List X) → P x → All P xs → All P (x ∷ xs)
all_more P x xs first others zero d inside = first
all_more P x xs first others (suc k) d inside = others k d (omega (arith, inside))

tables_states : (m : Module) (functions : List Function) (tables : List FunctionTable) → TablesOf IsLeast m functions tables → All AreStates tables
tables_states m [] [] are = λ k d inside. absurd (omega arith)
tables_states m [] (t ∷ tables) are = absurd are
tables_states m (f ∷ functions) [] are = absurd are
tables_states m (f ∷ functions) (t ∷ tables) are = all_more AreStates t tables (least_states (context_of m f) t.states are.1) (tables_states m functions tables are.2)

-- ---- least tables are one

table_is : (t u : FunctionTable) → t.entry ≡ u.entry → t.states ≡ u.states → t ≡ u
table_is t u e s = let h : record { entry = t.entry; states = t.states } ≡ record { entry = u.entry; states = u.states } = cc in h

-- each of these functions has one least table
abbrev EachOnce : Module → List Function → Type 0
EachOnce m functions = (k : ℕ) (f : Function) → slice_get functions k ≡ Some f → (a b : List PointState) → IsLeast (context_of m f) a → IsLeast (context_of m f) b → a ≡ b

tables_once : (m : Module) (functions : List Function) (ts us : List FunctionTable) → EachOnce m functions → TablesOf IsLeast m functions ts → TablesOf IsLeast m functions us → ts ≡ us
tables_once m [] [] [] each one two = refl
tables_once m [] [] (u ∷ us) each one two = absurd two
tables_once m [] (t ∷ ts) us each one two = absurd one
tables_once m (f ∷ functions) [] us each one two = absurd one
tables_once m (f ∷ functions) (t ∷ ts) [] each one two = absurd two
tables_once m (f ∷ functions) (t ∷ ts) (u ∷ us) each one two =
    let first : t ≡ u = table_is t u (one.0 ∙ sym two.0) (each 0 f refl t.states u.states one.1 two.1) in
    let others : ts ≡ us = tables_once m functions ts us (λ k g is. each (suc k) g is) one.2 two.2 in
    rw (first, others) refl

tables_is : (t u : Tables) → t.functions ≡ u.functions → t ≡ u
tables_is t u e = let h : record { functions = t.functions } ≡ record { functions = u.functions } = cc in h

pub reports_once : (m : Module) (text other : List ℕ) → OneLeastIn m → TablesHaveOneText → IsLeastReport m text → IsLeastReport m other → text ≡ other
reports_once m text other one_least one_text one two =
    let same : one.tables ≡ two.tables = tables_is one.tables two.tables (tables_once m m.functions one.tables.functions two.tables.functions one_least one.least two.least) in
    one_text one.tables text other (tables_states m m.functions one.tables.functions one.least) one.printed (subst (λ (t : Tables). IsTextOf t other) (sym same) two.printed)
