-- A loop over a table that keeps what is made of the items that pass, when one item more is read.
use Rattle.std.proofs.Common.{◌≡◌, ℕ, ◌+◌, ◌*◌, Bool, true, false, cond, List, [], ◌∷◌, ◌++◌, map, Some, None, refl, ap, ◌∙◌}
use Rattle.std.specs.List.{filter}
use Rattle.vw_bits.specs.Headers.{table}
use Rattle.vw_bits.proofs.Tables.{kept_push, kept_skip}

made : {X : Type 0} (item y : X) (passes : Bool) → Some item ≡ cond passes (Some y) None → (passes ≡ true) × (item ≡ y)
made item y true is = (refl, cc)
made item y false is = cc

unmade : {X : Type 0} (y : X) (passes : Bool) → None ≡ cond passes (Some y) None → passes ≡ false
unmade y true is = cc
unmade y false is = refl

pub kept_some : {X : Type 0} (f : ℕ → X) (p : ℕ → Bool) (at size n x : ℕ) (item : X) (kept longer : List X) → x ≡ at + size * n → kept ≡ map f (filter p (table at size n)) → Some item ≡ cond (p x) (Some (f x)) None → longer ≡ kept ++ item ∷ [] → longer ≡ map f (filter p (table at size (n + 1)))
kept_some f p at size n x item kept longer is before found pushed =
    let both = made item (f x) (p x) found in
    kept_push f p at size n x kept longer is before both.0 (pushed ∙ ap (λ (i : _). kept ++ i ∷ []) both.1)

pub kept_none : {X : Type 0} (f : ℕ → X) (p : ℕ → Bool) (at size n x : ℕ) (kept : List X) → x ≡ at + size * n → kept ≡ map f (filter p (table at size n)) → None ≡ cond (p x) (Some (f x)) None → kept ≡ map f (filter p (table at size (n + 1)))
kept_none f p at size n x kept is before found = kept_skip f p at size n x kept is before (unmade (f x) (p x) found)
