-- What is found of a function whose rounds are known.
use Rattle.std.proofs.Common.{◌≡◌, ◌∙◌, ℕ, ap, sym, subst, inr, List, map, get_or, Some, None}
use Rattle.std.specs.Prelude.{Contains}
use Rattle.std.specs.List.{slice_get}
use Rattle.std.proofs.lemmas.Option.{get_or_from_slice_get, slice_get_within}
use Rattle.vw_layout.specs.declared.functions.Function.{Function}
use Rattle.vw_state.specs.declared.tables.FunctionTable.{FunctionTable}
use Rattle.vw_state.specs.declared.tables.PointState.{PointState}
use Rattle.vw_layout.specs.declared.layout.Module.{Module}
use Rattle.vw_state.specs.declared.site.Site.{Site}
use Rattle.vw_state.specs.Bounds.{bounds_of}
use Rattle.vw_state.specs.Code.{code_at}
use Rattle.vw_state.specs.Context.{Context, context_of, extent_of, lengths_of, IsSite}
use Rattle.vw_state.specs.Solution.{IsLeastWith}
use Rattle.vw_state.specs.Rounds.{IsRound, first_round, next_round, IsStable, IsLeast}
use Rattle.vw_checks.specs.Safe.{NoneFails, IsSafeTable}
use Rattle.vw_verdict.specs.declared.function.Finding.TheVariants as finding
use Rattle.vw_verdict.specs.Places.{fails}
use Rattle.vw_verdict.specs.search.Findings.{EndsStable, Found, FirstFailing}

pub same_function : (functions lent : List Function) (n : ℕ) (read f : Function) → lent ≡ functions → read ≡ get_or lent n read → slice_get functions n ≡ Some f → read ≡ f
same_function functions lent n read f same is is_f =
    is ∙ (ap (λ (fs : List Function). get_or fs n read) same ∙ get_or_from_slice_get functions n f read is_f)

-- a site that is made of the parts of a function that was read is the function's
pub site_is : (m : Module) (read f : Function) (site : Site) (code lengths : List ℕ) → read ≡ f → site.image.now ≡ m.image → site.tables.now ≡ map extent_of m.tables → site.entry ≡ read.entry → site.size ≡ read.size
    → code ≡ code_at m.image read.entry read.size → lengths ≡ lengths_of m.tables → site.bounds.now ≡ bounds_of code lengths → IsSite (context_of m f) site
site_is m read f site code lengths same image tables entry size is_code are_lengths bounds =
    let code_is : code ≡ code_at m.image f.entry f.size = is_code ∙ ap (λ (g : Function). code_at m.image g.entry g.size) same in
    record {
      image = sym image;
      tables = sym tables;
      entry = sym (entry ∙ ap (λ (g : Function). g.entry) same);
      size = sym (size ∙ ap (λ (g : Function). g.size) same);
      bounds = sym (bounds ∙ (ap (λ (bytes : List ℕ). bounds_of bytes lengths) code_is ∙ ap (λ (counts : List ℕ). bounds_of (code_at m.image f.entry f.size) counts) are_lengths));
    }

pub listed_at : (functions : List Function) (n : ℕ) (f : Function) → slice_get functions n ≡ Some f → Contains functions f
listed_at functions n f is = (n, slice_get_within functions n f is, get_or_from_slice_get functions n f f is)

-- the table of a round is the least solution with its pairs
pub least_with : {f : Context} {number : ℕ} {pairs : List (ℕ × ℕ)} {table : List PointState} → IsRound f number pairs table → IsLeastWith f pairs table
least_with (first_round table least) = least
least_with (next_round number pairs more before table at to round passes jumps distinct new old least) = least

-- a stable round at whose points no check fails is a safe table
abbrev pub StableIsSafe : Context → Type 0
StableIsSafe f = (number : ℕ) (pairs : List (ℕ × ℕ)) (table : List PointState) → IsRound f number pairs table → IsStable f pairs table → NoneFails f table → IsSafeTable f table

module _ (f : Context) (table : FunctionTable) (states : List PointState) (same : states ≡ table.states) (stable : EndsStable f table) where
  pub found_failing : (at check : ℕ) → FirstFailing f states (Some (at, check)) → Found f (finding.Unsafe (record { entry = table.entry; at = at; check = check }))
  found_failing at check first =
      (stable.entry, fails stable.number stable.pairs table.states stable.round stable.stable (subst (λ (ps : List PointState). FirstFailing f ps (Some (at, check))) same first))

  is_least : IsLeast f table.states
  is_least = record { pairs = stable.pairs; last = record { number = stable.number; round = stable.round; ends = inr stable.stable } }

  pub found_passing : StableIsSafe f → FirstFailing f states None → Found f (finding.Safe table)
  found_passing law none =
      let passes : NoneFails f table.states = subst (λ (ps : List PointState). FirstFailing f ps None) same none in
      (stable.entry, is_least, law stable.number stable.pairs table.states stable.round stable.stable passes)
