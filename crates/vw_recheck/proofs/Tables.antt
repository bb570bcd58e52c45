-- Given tables beside the functions of a module, by their numbers.
use Rattle.std.proofs.Common.{◌≡◌, ◌⊎◌, inl, inr, ℕ, zero, suc, ◌+◌, ◌≤◌, ◌<◌, List, [], ◌∷◌, length, get_or, Option, Some, None, refl, sym, ◌∙◌, ap, subst, arith}
use Rattle.std.specs.Prelude.{Contains, ◌↔◌}
use Rattle.std.specs.List.{slice_get}
use Rattle.std.proofs.lemmas.Option.{slice_get-get_or, slice_get_within}
use Rattle.vw_layout.specs.declared.functions.Function.{Function}
use Rattle.vw_layout.specs.declared.layout.Module.{Module}
use Rattle.vw_state.specs.declared.tables.FunctionTable.{FunctionTable}
use Rattle.vw_state.specs.declared.tables.PointState.{PointState}
use Rattle.vw_state.specs.declared.tables.Place.{Place}
use Rattle.vw_state.specs.declared.tables.Tables.{Tables}
use Rattle.vw_state.specs.Context.{context_of}
use Rattle.vw_checks.specs.Modules.{IsNumbered, TablesOf, AreSafe}
use Rattle.vw_checks.specs.Safe.{IsSafeTable}
use Rattle.vw_recheck.specs.Places.{EntriesAscend, FailsIn, IsLowestIn, FailsAt, undeclared, missing, inside, NotAbove, IsLowestPlace, IsPlaceOf, IsFirstLeft}
use Rattle.vw_recheck.proofs.Order.{some_is, none_some, by_order, same_item, is_listed, listed_is, in_order}

-- the table with this number
abbrev pub IsTable : List FunctionTable → ℕ → FunctionTable → Type 0
IsTable tables k t = slice_get tables k ≡ Some t

-- below a number each function stands beside a safe table of it
pub record MatchedTo (m : Module) (tables : List FunctionTable) (n : ℕ) : Type 0 where
  pub in_functions : n ≤ length m.functions
  pub in_tables : n ≤ length tables
  pub each : (k : ℕ) (f : Function) (t : FunctionTable) → k < n → IsNumbered m k f → IsTable tables k t → IsPlaceOf m f t None

pub matched_none : (m : Module) (tables : List FunctionTable) → MatchedTo m tables 0
matched_none m tables = record { in_functions = omega arith; in_tables = omega arith; each = λ k f t less. absurd (omega (arith, less)) }

pub matched_more : (m : Module) (tables : List FunctionTable) (n : ℕ) (f : Function) (t : FunctionTable) → IsNumbered m n f → IsTable tables n t → MatchedTo m tables n → IsPlaceOf m f t None → MatchedTo m tables (n + 1)
matched_more m tables n f t is_f is_t matched here = record {
  in_functions = let inside = slice_get_within m.functions n f is_f in omega (arith, inside);
  in_tables = let inside = slice_get_within tables n t is_t in omega (arith, inside);
  each = each;
}
  where
    each : (k : ℕ) (g : Function) (u : FunctionTable) → k < n + 1 → IsNumbered m k g → IsTable tables k u → IsPlaceOf m g u None
    each k g u less is_g is_u =
        elim (by_order k n) [
          | inl before ↦ matched.each k g u before is_g is_u
          | inr (inl same) ↦
              let moved = subst (λ (h : Function). IsPlaceOf m h t None) (same_item m.functions n k f g (sym same) is_f is_g) here in
              subst (λ (v : FunctionTable). IsPlaceOf m g v None) (same_item tables n k t u (sym same) is_t is_u) moved
          | inr (inr above) ↦ absurd (omega (arith, less, above))
        ]

-- ---- safe tables

tables_of : (m : Module) (functions : List Function) (tables : List FunctionTable) → length functions ≡ length tables
    → ((k : ℕ) (f : Function) (t : FunctionTable) → slice_get functions k ≡ Some f → IsTable tables k t → IsPlaceOf m f t None) → TablesOf IsSafeTable m functions tables
tables_of m [] [] same each = tt
tables_of m [] (t ∷ tables) same each = absurd (omega (arith, same))
tables_of m (f ∷ functions) [] same each = absurd (omega (arith, same))
tables_of m (f ∷ functions) (t ∷ tables) same each =
    let here = each 0 f t refl refl in
    (here.0, here.1, tables_of m functions tables (omega (arith, same)) (λ k g u is_g is_u. each (suc k) g u is_g is_u))

pub all_matched : (m : Module) (tables : Tables) (n : ℕ) → length m.functions ≤ n → length tables.functions ≤ n → MatchedTo m tables.functions n → AreSafe m tables
all_matched m tables n end_f end_t matched =
    tables_of m m.functions tables.functions (omega (arith, end_f, end_t, matched.in_functions, matched.in_tables))
    (λ k f t is_f is_t. let inside = slice_get_within m.functions k f is_f in matched.each k f t (omega (arith, inside, end_f)) is_f is_t)

pub same_number : (m : Module) (functions : List Function) (tables : List FunctionTable) → TablesOf IsSafeTable m functions tables → length functions ≡ length tables
same_number m [] [] so = refl
same_number m [] (t ∷ tables) so = absurd so
same_number m (f ∷ functions) [] so = absurd so
same_number m (f ∷ functions) (t ∷ tables) so = let rest = same_number m functions tables so.2 in omega (arith, rest)

one_of : (m : Module) (functions : List Function) (tables : List FunctionTable) → TablesOf IsSafeTable m functions tables
    → (k : ℕ) (f : Function) (t : FunctionTable) → slice_get functions k ≡ Some f → IsTable tables k t → IsPlaceOf m f t None
one_of m [] tables so k f t is_f is_t = absurd (none_some is_f)
one_of m (g ∷ functions) [] so k f t is_f is_t = absurd so
one_of m (g ∷ functions) (u ∷ tables) so zero f t is_f is_t =
    let moved = subst (λ (h : Function). IsPlaceOf m h u None) (some_is is_f) (so.0, so.1) in
    subst (λ (v : FunctionTable). IsPlaceOf m f v None) (some_is is_t) moved
one_of m (g ∷ functions) (u ∷ tables) so (suc k) f t is_f is_t = one_of m functions tables so.2 k f t is_f is_t

-- nothing fails in a safe table of a declared function
abbrev pub SafeFails : Module → Type 0
SafeFails m = (f : Function) (table : List PointState) → Contains m.functions f → IsSafeTable (context_of m f) table → (at number : ℕ) → FailsIn (context_of m f) table at number → ⊥

-- tables with a place at a function and its table are not safe
pub place_unsafe : (m : Module) (tables : Tables) → SafeFails m → (n : ℕ) (f : Function) (t : FunctionTable) (p : Place) → IsNumbered m n f → IsTable tables.functions n t → IsPlaceOf m f t (Some p) → AreSafe m tables → ⊥
place_unsafe m tables law n f t p is_f is_t place safe =
    let here = one_of m m.functions tables.functions safe n f t is_f is_t in
    elim place [
      | inl before ↦ omega (arith, before.2, here.0)
      | inr (inl before) ↦ omega (arith, before.2, here.0)
      | inr (inr fails) ↦ law f t.states (is_listed m.functions n f is_f) here.1 p.at p.check fails.2.0
    ]

-- ---- the lowest place

fails_moved : (m : Module) (tables : Tables) (e e' a a' c c' : ℕ) → e ≡ e' → a ≡ a' → c ≡ c' → FailsAt m tables e a c → FailsAt m tables e' a' c'
fails_moved m tables e e' a a' c c' se sa sc fails =
    subst (λ (x : ℕ). FailsAt m tables e' a' x) sc (subst (λ (x : ℕ). FailsAt m tables e' x c) sa (subst (λ (x : ℕ). FailsAt m tables x a c) se fails))

-- an entry of a function or of a table from a number on
pub data Behind (m : Module) (tables : List FunctionTable) (n : ℕ) : ℕ → Type 0 where
  function : (k : ℕ) (f : Function) → n ≤ k → IsNumbered m k f → Behind m tables n f.entry
  table : (k : ℕ) (t : FunctionTable) → n ≤ k → IsTable tables k t → Behind m tables n t.entry

-- functions stand by ascending entries
abbrev pub FunctionsAscend : Module → Type 0
FunctionsAscend m = (j k : ℕ) (f g : Function) → IsNumbered m j f → IsNumbered m k g → j < k → f.entry < g.entry

module _ (m : Module) (tables : Tables) (n : ℕ) (law : SafeFails m) (order : FunctionsAscend m) (ascend : EntriesAscend tables) (matched : MatchedTo m tables.functions n) where
  table_order : (j k : ℕ) (t u : FunctionTable) → IsTable tables.functions j t → IsTable tables.functions k u → j < k → t.entry < u.entry
  table_order j k t u is_t is_u less = in_order (λ (v : FunctionTable). v.entry) 0 tables.functions ascend j k t u less is_t is_u

  same_function : (j k : ℕ) (f g : Function) → IsNumbered m j f → IsNumbered m k g → f.entry ≡ g.entry → j ≡ k
  same_function j k f g is_f is_g same =
      elim (by_order j k) [
        | inl less ↦ absurd (omega (arith, order j k f g is_f is_g less, same))
        | inr (inl e) ↦ e
        | inr (inr above) ↦ absurd (omega (arith, order k j g f is_g is_f above, same))
      ]

  same_table : (j k : ℕ) (t u : FunctionTable) → IsTable tables.functions j t → IsTable tables.functions k u → t.entry ≡ u.entry → j ≡ k
  same_table j k t u is_t is_u same =
      elim (by_order j k) [
        | inl less ↦ absurd (omega (arith, table_order j k t u is_t is_u less, same))
        | inr (inl e) ↦ e
        | inr (inr above) ↦ absurd (omega (arith, table_order k j u t is_u is_t above, same))
      ]

  -- the function beside a table, and the table beside a function
  function_beside : (k : ℕ) (t : FunctionTable) → k < n → IsTable tables.functions k t → (f : Function) × IsNumbered m k f × IsPlaceOf m f t None
  function_beside k t less is_t =
      let is_f = slice_get-get_or m.functions k blank (omega (arith, less, matched.in_functions)) in
      (get_or m.functions k blank, is_f, matched.each k (get_or m.functions k blank) t less is_f is_t)
    where
      blank : Function
      blank = record { entry = 0; size = 0; name = [] }

  table_beside : (k : ℕ) (f : Function) → k < n → IsNumbered m k f → (t : FunctionTable) × IsTable tables.functions k t × IsPlaceOf m f t None
  table_beside k f less is_f =
      let is_t = slice_get-get_or tables.functions k blank (omega (arith, less, matched.in_tables)) in
      (get_or tables.functions k blank, is_t, matched.each k f (get_or tables.functions k blank) less is_f is_t)
    where
      blank : FunctionTable
      blank = record { entry = 0; states = [] }

  below_or : (k : ℕ) → (k < n) ⊎ (n ≤ k)
  below_or k =
      elim (by_order k n) [
        | inl less ↦ inl less
        | inr (inl same) ↦ inr (omega (arith, same))
        | inr (inr above) ↦ inr (omega (arith, above))
      ]

  -- what fails is not among what is matched
  behind : (entry at number : ℕ) → FailsAt m tables entry at number → Behind m tables.functions n entry
  behind _ _ _ (undeclared t has none) =
      let is_t = listed_is tables.functions t has in
      elim (below_or has.0) [
        | inl less ↦
            let f = function_beside has.0 t less is_t in
            absurd (none f.0 (is_listed m.functions has.0 f.0 f.1) (sym f.2.0))
        | inr from ↦ table has.0 t from is_t
      ]
  behind _ _ _ (missing f has none) =
      let is_f = listed_is m.functions f has in
      elim (below_or has.0) [
        | inl less ↦
            let t = table_beside has.0 f less is_f in
            absurd (none t.0 (is_listed tables.functions has.0 t.0 t.1) t.2.0)
        | inr from ↦ function has.0 f from is_f
      ]
  behind _ _ _ (inside f t at number has has_t same fails) =
      let is_f = listed_is m.functions f has in
      let is_t = listed_is tables.functions t has_t in
      elim (below_or has.0) [
        | inl less ↦
            let u = table_beside has.0 f less is_f in
            let one = same_item tables.functions has.0 has_t.0 u.0 t (same_table has.0 has_t.0 u.0 t u.1 is_t (u.2.0 ∙ sym same)) u.1 is_t in
            absurd (law f t.states has (subst (λ (v : FunctionTable). IsSafeTable (context_of m f) v.states) one u.2.1) at number fails)
        | inr from ↦ function has.0 f from is_f
      ]

  -- a place at offset 0 with number 0 is not above those of entries that are not below
  floor : (p : Place) → p.at ≡ 0 → p.check ≡ 0 → (entry at number : ℕ) → p.entry ≤ entry → NotAbove p entry at number
  floor p zero_at zero_check entry at number least =
      elim (by_order p.entry entry) [
        | inl less ↦ inl less
        | inr (inl same) ↦ inr (same, offset at)
        | inr (inr above) ↦ absurd (omega (arith, least, above))
      ]
    where
      offset : (a : ℕ) → (p.at < a) ⊎ ((p.at ≡ a) × (p.check ≤ number))
      offset zero = inr (zero_at, omega (arith, zero_check))
      offset (suc a) = inl (omega (arith, zero_at))

  -- from a number on the functions' entries are not below the first of them
  functions_from : (f : Function) → IsNumbered m n f → (k : ℕ) (g : Function) → n ≤ k → IsNumbered m k g → f.entry ≤ g.entry
  functions_from f is_f k g from is_g =
      elim (by_order n k) [
        | inl less ↦ let o = order n k f g is_f is_g less in omega (arith, o)
        | inr (inl same) ↦ let one = ap (λ (h : Function). h.entry) (same_item m.functions n k f g same is_f is_g) in omega (arith, one)
        | inr (inr above) ↦ absurd (omega (arith, from, above))
      ]

  tables_from : (t : FunctionTable) → IsTable tables.functions n t → (k : ℕ) (u : FunctionTable) → n ≤ k → IsTable tables.functions k u → t.entry ≤ u.entry
  tables_from t is_t k u from is_u =
      elim (by_order n k) [
        | inl less ↦ let o = table_order n k t u is_t is_u less in omega (arith, o)
        | inr (inl same) ↦ let one = ap (λ (v : FunctionTable). v.entry) (same_item tables.functions n k t u same is_t is_u) in omega (arith, one)
        | inr (inr above) ↦ absurd (omega (arith, from, above))
      ]

  -- where no entry of a table from the number on is that of the function with it, the function has no table
  has_no_table : (f : Function) → IsNumbered m n f → ((k : ℕ) (u : FunctionTable) → n ≤ k → IsTable tables.functions k u → u.entry ≡ f.entry → ⊥)
      → (p : Place) → p.entry ≡ f.entry → p.at ≡ 0 → p.check ≡ 0 → FailsAt m tables p.entry p.at p.check
  has_no_table f is_f none p entry at check =
      fails_moved m tables f.entry p.entry 0 p.at 0 p.check (sym entry) (sym at) (sym check) (missing f (is_listed m.functions n f is_f) other)
    where
      other : (u : FunctionTable) → Contains tables.functions u → u.entry ≡ f.entry → ⊥
      other u has same =
          let is_u = listed_is tables.functions u has in
          elim (below_or has.0) [
            | inl less ↦
                let g = function_beside has.0 u less is_u in
                let o = order has.0 n g.0 f g.1 is_f less in
                omega (arith, o, same, g.2.0)
            | inr from ↦ none has.0 u from is_u same
          ]

  is_undeclared : (t : FunctionTable) → IsTable tables.functions n t → ((k : ℕ) (g : Function) → n ≤ k → IsNumbered m k g → g.entry ≡ t.entry → ⊥)
      → (p : Place) → p.entry ≡ t.entry → p.at ≡ 0 → p.check ≡ 0 → FailsAt m tables p.entry p.at p.check
  is_undeclared t is_t none p entry at check =
      fails_moved m tables t.entry p.entry 0 p.at 0 p.check (sym entry) (sym at) (sym check) (undeclared t (is_listed tables.functions n t is_t) other)
    where
      other : (g : Function) → Contains m.functions g → g.entry ≡ t.entry → ⊥
      other g has same =
          let is_g = listed_is m.functions g has in
          elim (below_or has.0) [
            | inl less ↦
                let u = table_beside has.0 g less is_g in
                let o = table_order has.0 n u.0 t u.1 is_t less in
                omega (arith, o, same, u.2.0)
            | inr from ↦ none has.0 g from is_g same
          ]

  -- a function that is left without a table
  pub left_function : (f : Function) → IsNumbered m n f → length tables.functions ≤ n → (p : Place) → p.entry ≡ f.entry → p.at ≡ 0 → p.check ≡ 0 → IsLowestPlace m tables (Some p)
  left_function f is_f end p entry at check =
      (has_no_table f is_f (λ k u from is_u same. no_more k u from is_u) p entry at check, λ e a c fails. least e a c (behind e a c fails))
    where
      no_more : (k : ℕ) (u : FunctionTable) → n ≤ k → IsTable tables.functions k u → ⊥
      no_more k u from is_u = let inside = slice_get_within tables.functions k u is_u in omega (arith, inside, end, from)

      least : (e a c : ℕ) → Behind m tables.functions n e → NotAbove p e a c
      least _ a c (function k g from is_g) = let o = functions_from f is_f k g from is_g in floor p at check g.entry a c (omega (arith, o, entry))
      least _ a c (table k u from is_u) = absurd (no_more k u from is_u)

  -- a table that is left without a function
  pub left_table : (t : FunctionTable) → IsTable tables.functions n t → length m.functions ≤ n → (p : Place) → p.entry ≡ t.entry → p.at ≡ 0 → p.check ≡ 0 → IsLowestPlace m tables (Some p)
  left_table t is_t end p entry at check =
      (is_undeclared t is_t (λ k g from is_g same. no_more k g from is_g) p entry at check, λ e a c fails. least e a c (behind e a c fails))
    where
      no_more : (k : ℕ) (g : Function) → n ≤ k → IsNumbered m k g → ⊥
      no_more k g from is_g = let inside = slice_get_within m.functions k g is_g in omega (arith, inside, end, from)

      least : (e a c : ℕ) → Behind m tables.functions n e → NotAbove p e a c
      least _ a c (function k g from is_g) = absurd (no_more k g from is_g)
      least _ a c (table k u from is_u) = let o = tables_from t is_t k u from is_u in floor p at check u.entry a c (omega (arith, o, entry))

  module _ (f : Function) (t : FunctionTable) (is_f : IsNumbered m n f) (is_t : IsTable tables.functions n t) (p : Place) where
    function_first : p.entry ≡ f.entry → p.at ≡ 0 → p.check ≡ 0 → f.entry < t.entry → IsLowestPlace m tables (Some p)
    function_first entry at check less =
        (has_no_table f is_f (λ k u from is_u same. let o = tables_from t is_t k u from is_u in omega (arith, o, same, less)) p entry at check, λ e a c fails. least e a c (behind e a c fails))
      where
        least : (e a c : ℕ) → Behind m tables.functions n e → NotAbove p e a c
        least _ a c (function k g from is_g) = let o = functions_from f is_f k g from is_g in floor p at check g.entry a c (omega (arith, o, entry))
        least _ a c (table k u from is_u) = let o = tables_from t is_t k u from is_u in floor p at check u.entry a c (omega (arith, o, entry, less))

    table_first : p.entry ≡ t.entry → p.at ≡ 0 → p.check ≡ 0 → t.entry < f.entry → IsLowestPlace m tables (Some p)
    table_first entry at check less =
        (is_undeclared t is_t (λ k g from is_g same. let o = functions_from f is_f k g from is_g in omega (arith, o, same, less)) p entry at check, λ e a c fails. least e a c (behind e a c fails))
      where
        least : (e a c : ℕ) → Behind m tables.functions n e → NotAbove p e a c
        least _ a c (function k g from is_g) = let o = functions_from f is_f k g from is_g in floor p at check g.entry a c (omega (arith, o, entry, less))
        least _ a c (table k u from is_u) = let o = tables_from t is_t k u from is_u in floor p at check u.entry a c (omega (arith, o, entry))

    in_table : p.entry ≡ f.entry → t.entry ≡ f.entry → IsLowestIn (context_of m f) t.states (Some (p.at, p.check)) → IsLowestPlace m tables (Some p)
    in_table entry beside lowest = (
      fails_moved m tables f.entry p.entry p.at p.at p.check p.check (sym entry) refl refl (inside f t p.at p.check (is_listed m.functions n f is_f) (is_listed tables.functions n t is_t) beside lowest.0),
      λ e a c fails. decide e a c fails (least e (behind e a c fails)),
    )
      where
        least : (e : ℕ) → Behind m tables.functions n e → p.entry ≤ e
        least _ (function k g from is_g) = let o = functions_from f is_f k g from is_g in omega (arith, o, entry)
        least _ (table k u from is_u) = let o = tables_from t is_t k u from is_u in omega (arith, o, entry, beside)

        here : (e a c : ℕ) → FailsAt m tables e a c → p.entry ≡ e → (p.at < a) ⊎ ((p.at ≡ a) × (p.check ≤ c))
        here _ _ _ (undeclared u has none) same = absurd (none f (is_listed m.functions n f is_f) (sym entry ∙ same))
        here _ _ _ (missing g has none) same = absurd (none t (is_listed tables.functions n t is_t) (beside ∙ (sym entry ∙ same)))
        here _ _ _ (inside g u a c has has_u beside_u fails) same =
            let is_g = listed_is m.functions g has in
            let is_u = listed_is tables.functions u has_u in
            let one_f = same_item m.functions has.0 n g f (same_function has.0 n g f is_g is_f (sym same ∙ entry)) is_g is_f in
            let one_t = same_item tables.functions has_u.0 n u t (same_table has_u.0 n u t is_u is_t (beside_u ∙ (sym same ∙ (entry ∙ sym beside)))) is_u is_t in
            let moved = subst (λ (h : Function). FailsIn (context_of m h) u.states a c) one_f fails in
            lowest.1 a c (subst (λ (v : FunctionTable). FailsIn (context_of m f) v.states a c) one_t moved)

        decide : (e a c : ℕ) → FailsAt m tables e a c → p.entry ≤ e → NotAbove p e a c
        decide e a c fails least_e =
            elim (by_order p.entry e) [
              | inl less ↦ inl less
              | inr (inl same) ↦ inr (same, here e a c fails same)
              | inr (inr above) ↦ absurd (omega (arith, least_e, above))
            ]

    -- the place at a function and its table is the lowest of all
    pub place_lowest : IsPlaceOf m f t (Some p) → IsLowestPlace m tables (Some p)
    place_lowest place =
        elim place [
          | inl before ↦ function_first before.0 before.1.0 before.1.1 before.2
          | inr (inl before) ↦ table_first before.0 before.1.0 before.1.1 before.2
          | inr (inr fails) ↦ in_table fails.0 fails.1 fails.2
        ]

-- ---- at the end

-- what an answer says of tables
abbrev pub Answers : Module → Tables → Option Place → Type 0
Answers m tables found = (found ≡ None) ↔ AreSafe m tables

no_place : {p : Place} → Some p ≡ None → ⊥
no_place e = cc

pub unsafe_answer : (m : Module) (tables : Tables) (p : Place) → (AreSafe m tables → ⊥) → Answers m tables (Some p)
unsafe_answer m tables p out = (λ e. absurd (no_place e), λ safe. absurd (out safe))

-- what is left makes tables unsafe
pub left_answers : (m : Module) (tables : Tables) (n : ℕ) (found : Option Place) → MatchedTo m tables.functions n → IsFirstLeft m.functions tables.functions n found
    → (length m.functions ≤ n) ⊎ (length tables.functions ≤ n) → Answers m tables found
left_answers m tables n None matched left end = (λ e. all_matched m tables n left.0 left.1 matched, λ safe. refl)
left_answers m tables n (Some p) matched left end = unsafe_answer m tables p (λ safe. out (same_number m m.functions tables.functions safe))
  where
    out : length m.functions ≡ length tables.functions → ⊥
    out same =
        elim left.1 [
          | inl f ↦
              let inside = slice_get_within m.functions n f.0 f.1 in
              elim end [ inl e ↦ omega (arith, e, inside) | inr e ↦ omega (arith, e, inside, same) ]
          | inr t ↦ let inside = slice_get_within tables.functions n t.1.0 t.1.1 in omega (arith, inside, same, t.0)
        ]

pub left_lowest : (m : Module) (tables : Tables) (n : ℕ) (found : Option Place) → SafeFails m → FunctionsAscend m → EntriesAscend tables → MatchedTo m tables.functions n → IsFirstLeft m.functions tables.functions n found
    → (length m.functions ≤ n) ⊎ (length tables.functions ≤ n) → IsLowestPlace m tables found
left_lowest m tables n None law order ascend matched left end = all_matched m tables n left.0 left.1 matched
left_lowest m tables n (Some p) law order ascend matched left end =
    elim left.1 [
      | inl f ↦
          let inside = slice_get_within m.functions n f.0 f.1 in
          elim end [
            | inl e ↦ absurd (omega (arith, e, inside))
            | inr e ↦ left_function m tables n law order ascend matched f.0 f.1 e p f.2 left.0.0 left.0.1
          ]
      | inr t ↦ left_table m tables n law order ascend matched t.1.0 t.1.1 t.0 p t.1.2 left.0.0 left.0.1
    ]

-- functions of a module that is at hand stand by ascending entries
pub functions_rise : (m : Module) (declared : List Function) → m.functions ≡ declared → ((j k : ℕ) (f g : Function) → slice_get declared j ≡ Some f → slice_get declared k ≡ Some g → j < k → f.entry < g.entry) → FunctionsAscend m
functions_rise m declared same order j k f g is_f is_g less =
    let moved : (fs : List Function) → fs ≡ declared → slice_get fs j ≡ Some f → slice_get declared j ≡ Some f = λ fs e is. subst (λ (gs : List Function). slice_get gs j ≡ Some f) e is in
    let moved_g : (fs : List Function) → fs ≡ declared → slice_get fs k ≡ Some g → slice_get declared k ≡ Some g = λ fs e is. subst (λ (gs : List Function). slice_get gs k ≡ Some g) e is in
    order j k f g (moved m.functions same is_f) (moved_g m.functions same is_g) less

-- the item that is read
pub read_is : {A : Type 0} (xs lent : List A) (n : ℕ) (x : A) → lent ≡ xs → n < length lent → x ≡ get_or lent n x → slice_get xs n ≡ Some x
read_is xs lent n x same within is = subst (λ ys. slice_get ys n ≡ Some x) same (slice_get-get_or lent n x within ∙ ap Some (sym is))
