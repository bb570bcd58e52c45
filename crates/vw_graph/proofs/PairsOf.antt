-- The pairs that tables of jumps by point give.
use Rattle.std.proofs.Common.{◌≡◌, ◌≢◌, ℕ, zero, suc, ◌+◌, ◌<◌, ◌==◌, Bool, true, false, List, [], ◌∷◌, ◌++◌, Option, if◌then◌else◌, refl, sym, ap, subst, ◌∙◌, arith}
use Rattle.std.specs.List.{Contains}
use Rattle.std.proofs.lemmas.Bool.Decides.{nat_tests}
use Rattle.std.proofs.lemmas.List.{append-nil}
use Rattle.vw_state.specs.declared.jumps.JumpTable.{JumpTable}
use Rattle.vw_state.specs.Context.{Context}
use Rattle.vw_state.specs.Post.{seconds, table_targets}
use Rattle.vw_graph.specs.search.Jumps.{slot_at, pairs_to, pairs_from, pairs_of, LeadsTo}
use Rattle.vw_graph.proofs.Members.{seconds_has, seconds_from}

seconds_both : (at : ℕ) (xs ys : List (ℕ × ℕ)) → seconds at (xs ++ ys) ≡ seconds at xs ++ seconds at ys
seconds_both at [] ys = refl
seconds_both at (x ∷ xs) ys = from (x.0 == at) (seconds_both at xs ys)
  where
    from : (t : Bool) → seconds at (xs ++ ys) ≡ seconds at xs ++ seconds at ys → (if t then x.1 ∷ seconds at (xs ++ ys) else seconds at (xs ++ ys)) ≡ (if t then x.1 ∷ seconds at xs else seconds at xs) ++ seconds at ys
    from true e = ap (λ (zs : List ℕ). x.1 ∷ zs) e
    from false e = e

seconds_here : (at p : ℕ) (points : List ℕ) → p ≡ at → seconds at (pairs_to p points) ≡ points
seconds_here at p [] same = refl
seconds_here at p (x ∷ points) same = let is : (p == at) ≡ true = grind (arith, nat_tests, same) in rw is (ap (λ (zs : List ℕ). x ∷ zs) (seconds_here at p points same))

seconds_apart : (at p : ℕ) (points : List ℕ) → p ≢ at → seconds at (pairs_to p points) ≡ []
seconds_apart at p [] apart = refl
seconds_apart at p (x ∷ points) apart = let is : (p == at) ≡ false = grind (arith, nat_tests, apart) in rw is (seconds_apart at p points apart)

seconds_below : (f : Context) (from : ℕ) (slots : List (Option JumpTable)) (at : ℕ) → at < from → seconds at (pairs_from f from slots) ≡ []
seconds_below f from [] at less = refl
seconds_below f from (slot ∷ rest) at less =
    seconds_both at (pairs_to from (table_targets f slot)) (pairs_from f (suc from) rest)
    ∙ (ap (λ (zs : List ℕ). zs ++ seconds at (pairs_from f (suc from) rest)) (seconds_apart at from (table_targets f slot) (omega (arith, less)))
    ∙ seconds_below f (suc from) rest at (omega (arith, less)))

seconds_on : (f : Context) (from : ℕ) (slots : List (Option JumpTable)) (k at : ℕ) → at ≡ from + k → seconds at (pairs_from f from slots) ≡ table_targets f (slot_at slots k)
seconds_on f from [] k at e = refl
seconds_on f from (slot ∷ rest) zero at e =
    let same : from ≡ at = omega (arith, e) in
    seconds_both at (pairs_to from (table_targets f slot)) (pairs_from f (suc from) rest)
    ∙ (ap (λ (zs : List ℕ). zs ++ seconds at (pairs_from f (suc from) rest)) (seconds_here at from (table_targets f slot) same)
    ∙ (ap (λ (zs : List ℕ). table_targets f slot ++ zs) (seconds_below f (suc from) rest at (omega (arith, e))) ∙ append-nil (table_targets f slot)))
seconds_on f from (slot ∷ rest) (suc k) at e =
    seconds_both at (pairs_to from (table_targets f slot)) (pairs_from f (suc from) rest)
    ∙ (ap (λ (zs : List ℕ). zs ++ seconds at (pairs_from f (suc from) rest)) (seconds_apart at from (table_targets f slot) (omega (arith, e)))
    ∙ seconds_on f (suc from) rest k at (omega (arith, e)))

-- the second points of the pairs of a point are those to which its table leads
pub seconds_are : (f : Context) (slots : List (Option JumpTable)) (at : ℕ) → seconds at (pairs_of f slots) ≡ table_targets f (slot_at slots at)
seconds_are f slots at = seconds_on f 0 slots at at (omega arith)

pub leads_from_pair : (f : Context) (slots : List (Option JumpTable)) (at to : ℕ) → Contains (pairs_of f slots) (at, to) → LeadsTo f (slot_at slots at) to
leads_from_pair f slots at to c = let C : List ℕ → Type 0 = λ zs. Contains zs to in subst C (seconds_are f slots at) (seconds_has at to (pairs_of f slots) c)

pub pair_from_leads : (f : Context) (slots : List (Option JumpTable)) (at to : ℕ) → LeadsTo f (slot_at slots at) to → Contains (pairs_of f slots) (at, to)
pair_from_leads f slots at to c = let C : List ℕ → Type 0 = λ zs. Contains zs to in seconds_from at to (pairs_of f slots) (subst C (sym (seconds_are f slots at)) c)
