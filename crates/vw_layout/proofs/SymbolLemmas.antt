-- Symbols of a role, section by section and one by one.
use Rattle.std.proofs.Common.{◌≡◌, ℕ, ◌+◌, ◌*◌, ◌<◌, List, [], ◌∷◌, ◌++◌, length, get_or, take, map, Bool, true, false, cond, refl, append_assoc}
use Rattle.std.specs.List.{filter, flat_map}
use Rattle.std.proofs.lemmas.List.{map-append, take_more, flat_map_more, append-nil}
use Rattle.std.proofs.lemmas.List.Elements.{filter-append}
use Rattle.vw_bits.specs.Headers.{table}
use Rattle.vw_bits.proofs.Tables.{table-more}

-- what passes of what is read at a table's items, at one more item
pub read_more : {X : Type 0} (f : ℕ → X) (p : X → Bool) (at size n : ℕ) → filter p (map f (table at size (n + 1))) ≡ filter p (map f (table at size n)) ++ cond (p (f (at + size * n))) (f (at + size * n) ∷ []) []
read_more f p at size n = rw (table-more, map-append, filter-append) refl

pub read_push : {X : Type 0} (f : ℕ → X) (p : X → Bool) (at size n : ℕ) (x : X) (before kept longer : List X) → x ≡ f (at + size * n) → kept ≡ before ++ filter p (map f (table at size n)) → p x ≡ true → longer ≡ kept ++ x ∷ [] → longer ≡ before ++ filter p (map f (table at size (n + 1)))
read_push f p at size n x before kept longer is so_far here pushed =
    let passes : p (f (at + size * n)) ≡ true = rw (← is) here in
    rw (read_more f p at size n, passes, ← is, pushed, so_far, append_assoc) refl

pub read_skip : {X : Type 0} (f : ℕ → X) (p : X → Bool) (at size n : ℕ) (x : X) (before kept : List X) → x ≡ f (at + size * n) → kept ≡ before ++ filter p (map f (table at size n)) → p x ≡ false → kept ≡ before ++ filter p (map f (table at size (n + 1)))
read_skip f p at size n x before kept is so_far here =
    let fails : p (f (at + size * n)) ≡ false = rw (← is) here in
    rw (read_more f p at size n, fails, append-nil) so_far

-- one more section
pub sections_more : {X Y : Type 0} (f : Y → List X) (p : X → Bool) (ys : List Y) (i : ℕ) (d : Y) → i < length ys → filter p (flat_map f (take (i + 1) ys)) ≡ filter p (flat_map f (take i ys)) ++ filter p (f (get_or ys i d))
sections_more f p ys i d inside =
    let step : take (i + 1) ys ≡ take i ys ++ get_or ys i d ∷ [] = take_more ys i d inside in
    let joined : flat_map f (take i ys) ++ f (get_or ys i d) ≡ flat_map f (take i ys ++ get_or ys i d ∷ []) = flat_map_more f [] (take i ys) (get_or ys i d) in
    rw (step, ← joined, filter-append) refl
