-- Where the entries of a table of jumps lead.
use Rattle.std.proofs.Common.{◌≡◌, ℕ, zero, suc, ◌+◌, List, [], ◌∷◌, ◌++◌, map, append_assoc, Option, Some, None, refl, sym, ◌∙◌, ap, arith}
use Rattle.std.proofs.lemmas.List.{map-append}
use Rattle.vw_image.specs.Image.{Contents}
use Rattle.vw_switch.specs.Targets.{target}
use Rattle.vw_domain.specs.declared.parts.Parts.{Parts}
use Rattle.vw_domain.specs.Abstract.{Abstract}
use Rattle.vw_state.specs.declared.jumps.JumpTable.{JumpTable}
use Rattle.vw_state.specs.declared.site.Site.{Site}
use Rattle.vw_state.specs.Context.{Context, IsSite}
use Rattle.vw_state.specs.Post.{entry_target, with_target, targets_from, carry, with_state}

-- at a site of the function an entry leads to the same point
pub same_target : (f : Context) (site : Site) (table : JumpTable) (i : ℕ) → IsSite f site → target site.image.now table.base i site.entry site.size ≡ entry_target f table i
same_target f site table i is =
    ap (λ (image : Contents). target image table.base i site.entry site.size) (sym is.image)
    ∙ (ap (λ (entry : ℕ). target f.image table.base i entry site.size) (sym is.entry)
    ∙ ap (λ (size : ℕ). target f.image table.base i f.entry size) (sym is.size))

with_more : (point : Option ℕ) (xs ys : List ℕ) → with_target point (xs ++ ys) ≡ with_target point xs ++ ys
with_more None xs ys = refl
with_more (Some point) xs ys = refl

-- one entry more leads to one point more at the end, or to none
pub targets_end : (f : Context) (table : JumpTable) (i n j : ℕ) → j ≡ i + n → targets_from f table i (suc n) ≡ targets_from f table i n ++ with_target (entry_target f table j) []
targets_end f table i zero j is =
    let same : i ≡ j = omega arith in
    ap (λ (k : ℕ). with_target (entry_target f table k) []) same
targets_end f table i (suc n) j is =
    let here = entry_target f table i in
    let behind = targets_end f table (suc i) n j (omega arith) in
    ap (with_target here) behind ∙ with_more here (targets_from f table (suc i) n) (with_target (entry_target f table j) [])

pub carry-append : (xs ys : List ℕ) (st : Abstract) → carry (xs ++ ys) st ≡ carry xs st ++ carry ys st
carry-append [] ys st = refl
carry-append (x ∷ xs) ys st = ap (λ (edges : List (ℕ × Abstract)). (x, st) ∷ edges) (carry-append xs ys st)

-- once the edges of so many entries and then that of the next were appended, those of one entry more were
pub one_more : (f : Context) (table : JumpTable) (n : ℕ) (st : Abstract) (before mid after : List (ℕ × Parts))
    → mid ≡ before ++ map with_state (carry (targets_from f table 0 n) st)
    → after ≡ mid ++ map with_state (carry (with_target (entry_target f table n) []) st)
    → after ≡ before ++ map with_state (carry (targets_from f table 0 (n + 1)) st)
one_more f table n st before mid after first second =
    let xs = targets_from f table 0 n in
    let ys = with_target (entry_target f table n) [] in
    let more : suc n ≡ n + 1 = omega arith in
    let targets = sym (targets_end f table 0 n n (omega arith)) ∙ ap (targets_from f table 0) more in
    second
    ∙ (ap (λ (list : List (ℕ × Parts)). list ++ map with_state (carry ys st)) first
    ∙ (append_assoc before (map with_state (carry xs st)) (map with_state (carry ys st))
    ∙ ap (λ (list : List (ℕ × Parts)). before ++ list)
    (sym (map-append with_state (carry xs st) (carry ys st))
    ∙ ap (map with_state) (sym (carry-append xs ys st) ∙ ap (λ (points : List ℕ). carry points st) targets))))
