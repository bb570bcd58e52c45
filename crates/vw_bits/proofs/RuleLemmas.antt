-- The lowest broken rule, rule by rule.
use Rattle.std.proofs.Common.{◌≡◌, ℕ, ◌+◌, ◌<◌, ◌≤◌, ◌*◌, Bool, true, false, List, [], ◌∷◌, ◌++◌, length, Option, Some, None, arith, refl, nat_le, cond, ap, subst, suc, zero, get_or, ◌-◌}
use Rattle.std.specs.List.{find}
use Rattle.std.proofs.lemmas.Bool.Decides.{nat_tests}
use Rattle.vw_bits.specs.Headers.{e_phoff, e_phnum, e_shnum, sh_link, table}
use Rattle.vw_bits.specs.Rules.{unless, lowest_broken, AllHold}
use Rattle.vw_bits.specs.HeaderRules.{header_rules, section_table_rule, symbol_section_fits, has_strings, SectionsInside}
use Rattle.vw_bits.proofs.Tables.{table_split_at}

pub lowest-next : (n : ℕ) (rule : Option ℕ) (rules : List (Option ℕ)) (w : Option (ℕ × ℕ)) → rule ≡ None → lowest_broken (n + 1) rules ≡ w → lowest_broken n (rule ∷ rules) ≡ w
lowest-next n rule rules w holds rest = rw holds rest

pub lowest-here : (n at : ℕ) (rule : Option ℕ) (rules : List (Option ℕ)) → rule ≡ Some at → lowest_broken n (rule ∷ rules) ≡ Some (n, at)
lowest-here n at rule rules broken = rw broken refl

-- rules that all hold, one by one, by their places
pub lowest-each : (n : ℕ) (rules : List (Option ℕ)) → lowest_broken n rules ≡ None → (k : ℕ) → get_or rules k None ≡ None
lowest-each n [] holds k = refl
lowest-each n (None ∷ rules) holds zero = refl
lowest-each n (None ∷ rules) holds (suc k) = lowest-each (n + 1) rules holds k
lowest-each n (Some at ∷ rules) holds k = cc

pub unless-holds : (holds : Bool) (at : ℕ) → unless holds at ≡ None → holds ≡ true
unless-holds true at none = refl
unless-holds false at none = cc

-- rules that hold, and more rules
pub lowest-append : (n : ℕ) (front rules : List (Option ℕ)) → lowest_broken n front ≡ None → lowest_broken n (front ++ rules) ≡ lowest_broken (n + length front) rules
lowest-append n [] rules holds = let e : n ≡ n + 0 = omega arith in ap (λ (k : ℕ). lowest_broken k rules) e
lowest-append n (None ∷ front) rules holds =
    let e : n + suc (length front) ≡ (n + 1) + length front = omega arith in
    rw e (lowest-append (n + 1) front rules holds)
lowest-append n (Some at ∷ front) rules holds = cc

-- rules that are broken, and more rules
pub lowest-front : (n : ℕ) (front rules : List (Option ℕ)) (w : ℕ × ℕ) → lowest_broken n front ≡ Some w → lowest_broken n (front ++ rules) ≡ Some w
lowest-front n [] rules w broken = cc
lowest-front n (None ∷ front) rules w broken = lowest-front (n + 1) front rules w broken
lowest-front n (Some at ∷ front) rules w broken = broken

-- whether rules hold does not depend on their numbers
pub lowest-shift : (n m : ℕ) (rules : List (Option ℕ)) → lowest_broken n rules ≡ None → lowest_broken m rules ≡ None
lowest-shift n m [] holds = refl
lowest-shift n m (None ∷ rules) holds = lowest-shift (n + 1) (m + 1) rules holds
lowest-shift n m (Some at ∷ rules) holds = cc

pub SectionsInside-from_rule : (bytes : List ℕ) → section_table_rule bytes ≡ None → SectionsInside bytes
unfolding section_table_rule
SectionsInside-from_rule bytes holds some = grind (arith, nat_tests)

find_none_append : {X : Type 0} (p : X → Bool) (xs : List X) (y : X) (ys : List X) → find p (xs ++ y ∷ ys) ≡ None → p y ≡ false
find_none_append p [] y ys none = unpassed y _ (p y) none
  where
    unpassed : {X : Type 0} (y : X) (rest : Option X) (passes : Bool) → cond passes (Some y) rest ≡ None → passes ≡ false
    unpassed y rest true none = cc
    unpassed y rest false none = refl
find_none_append p (x ∷ xs) y ys none = find_none_append p xs y ys (passed x _ (p x) none)
  where
    passed : {X : Type 0} (x : X) (rest : Option X) (passes : Bool) → cond passes (Some x) rest ≡ None → rest ≡ None
    passed x rest true none = cc
    passed x rest false none = none

find_none_within : (p : ℕ → Bool) (at size n more : ℕ) → find p (table at size ((n + 1) + more)) ≡ None → p (at + size * n) ≡ false
find_none_within p at size n more none =
    find_none_append p (table at size n) (at + size * n) (table (at + size * (n + 1)) size more) (rw (table_split_at at size n more) at none)

-- no item of a table passes a test that finds none
pub find_none_at : (p : ℕ → Bool) (at size count n : ℕ) → find p (table at size count) ≡ None → n < count → p (at + size * n) ≡ false
find_none_at p at size count n none inside =
    let whole : count ≡ (n + 1) + (count - (n + 1)) = omega arith in
    let P : ℕ → Type 0 = λ k. find p (table at size k) ≡ None in
    find_none_within p at size n (count - (n + 1)) (subst P whole none)

pub has_strings-link : (bytes : List ℕ) (header : ℕ) → has_strings bytes header ≡ true → sh_link bytes header < e_shnum bytes
unfolding has_strings
has_strings-link bytes header holds = grind (arith, nat_tests)

pub has_strings-from_fits : (bytes : List ℕ) (header : ℕ) → symbol_section_fits bytes header ≡ true → has_strings bytes header ≡ true
unfolding symbol_section_fits
has_strings-from_fits bytes header fits = grind (arith, nat_tests)

-- what rules 2 and 9 give: the header and the program headers lie in the file
pub header-inside : (bytes : List ℕ) → AllHold (header_rules bytes) → 64 ≤ length bytes
unfolding header_rules
header-inside bytes holds =
    let rule : unless (nat_le 64 (length bytes)) (length bytes) ≡ None = lowest-each 1 (header_rules bytes) holds 1 in
    let test = unless-holds (nat_le 64 (length bytes)) (length bytes) rule in
    grind (arith, nat_tests, test)

pub program_headers-inside : (bytes : List ℕ) → AllHold (header_rules bytes) → e_phoff bytes + 56 * e_phnum bytes ≤ length bytes
unfolding header_rules
program_headers-inside bytes holds =
    let rule : unless (nat_le (e_phoff bytes + 56 * e_phnum bytes) (length bytes)) 32 ≡ None = lowest-each 1 (header_rules bytes) holds 8 in
    let test = unless-holds (nat_le (e_phoff bytes + 56 * e_phnum bytes) (length bytes)) 32 rule in
    grind (arith, nat_tests, test)
