-- Where the entries of a table of jumps lead.
use Rattle.std.proofs.Common.{◌≡◌, ℕ, zero, suc, ◌+◌, ◌-◌, ◌*◌, ◌%◌, ◌^◌, ◌<◌, ◌≤◌, Bool, true, false, if◌then◌else◌, ℤ, pos, negsuc, List, [], ◌∷◌, Option, Some, None, refl, ap, ◌∙◌, subst, arith}
use Rattle.std.specs.Prelude.{nat_lt, ◌+ℤ◌, ◌-ℤ◌}
use Rattle.std.specs.List.{AllByRecursion}
use Rattle.std.proofs.lemmas.Bool.Decides.{nat_tests}
use Rattle.std.proofs.lemmas.Int.{ints}
use Rattle.std.proofs.Math.Nat.{mod-eq_of_lt}
use Rattle.vw_bits.specs.Places.{is_among}
use Rattle.vw_bits.specs.Words.{sign_extended}
use Rattle.vw_image.specs.declared.word.Word.{Word}
use Rattle.vw_image.specs.declared.word.Word.TheVariants as word
use Rattle.vw_image.specs.Image.{Contents}
use Rattle.vw_image.specs.Words.{word_at}
use Rattle.vw_switch.specs.Targets.{signed, offset_in, leads_to, target}
use Rattle.vw_values.specs.declared.value.Value.{Value}
use Rattle.vw_values.specs.declared.value.Value.TheVariants as value
use Rattle.vw_domain.specs.Abstract.{Abstract}
use Rattle.vw_domain.specs.Checks.{IsTableFn}
use Rattle.vw_domain.specs.Sites.{Plain}
use Rattle.vw_state.specs.declared.jumps.JumpTable.{JumpTable}
use Rattle.vw_state.specs.Checks.{AllInside, StaysInside}
use Rattle.vw_state.specs.Context.{Context}
use Rattle.vw_state.specs.Laws.{HasSites}
use Rattle.vw_state.specs.Post.{jump_table, entry_target, with_target, targets_from, carry}
use Rattle.vw_state.specs.Sites.{site_word}

-- ---- addresses

-- the address is that of the byte at the offset
offset_is : (entry size : ℕ) (a : ℤ) (to : ℕ) → offset_in entry size a ≡ Some to → (a ≡ pos (entry + to)) × (to < size)
offset_is entry size (pos a) to is = by_test (is_among entry size a 1) refl is
  where
    by_test : (b : Bool) → is_among entry size a 1 ≡ b → (if b then Some (a - entry) else None) ≡ Some to → (pos a ≡ pos (entry + to)) × (to < size)
    by_test true e is =
        let same : a - entry ≡ to = cc in
        let low : entry ≤ a = grind (arith, nat_tests, e) in
        let high : a < entry + size = grind (arith, nat_tests, e) in
        (ap pos (omega arith), omega arith)
    by_test false e is = absurd (cc)
offset_is entry size (negsuc a) to is = absurd (cc)

-- a sum with the signed number is, modulo 2^64, the one with the number whose sign is extended
sum_is : (base n at : ℕ) → n < 2 ^ 32 → at < 2 ^ 64 → (pos base +ℤ signed n) ≡ pos at → (base + sign_extended n 4) % 2 ^ 64 ≡ at
sum_is base n at word low is = by_sign (nat_lt n (2 ^ 31)) refl is
  where
    extended : (b : Bool) → nat_lt n (2 ^ 31) ≡ b → sign_extended n 4 ≡ (if b then n else n + (2 ^ 64 - 2 ^ 32))
    extended b e = let whole : n % 2 ^ 32 ≡ n = mod-eq_of_lt word in rw (whole, e) refl

    by_sign : (b : Bool) → nat_lt n (2 ^ 31) ≡ b → (pos base +ℤ (if b then pos n else (pos n -ℤ pos (2 ^ 32)))) ≡ pos at → (base + sign_extended n 4) % 2 ^ 64 ≡ at
    by_sign true e is =
        let sum : base + n ≡ at = omega (arith, ints, is) in
        rw (extended true e, sum) (mod-eq_of_lt low)
    by_sign false e is =
        let high : 2 ^ 31 ≤ n = grind (arith, nat_tests, e) in
        let sum : base + n ≡ at + 2 ^ 32 = omega (arith, ints, is) in
        rw (extended false e) (omega (arith, sum, high, low))

-- ---- one entry

-- an entry that leads to a point holds a plain word: the distance of the point's address from the table
plain_of : (w : Word) (base entry size to : ℕ) → leads_to base entry size w ≡ Some to
    → (n : ℕ) × (w ≡ word.Plain n) × ((pos base +ℤ signed n) ≡ pos (entry + to)) × (to < size)
plain_of (word.Plain n) base entry size to is = let at = offset_is entry size (pos base +ℤ signed n) to is in (n, refl, at.0, at.1)
plain_of (word.Based a) base entry size to is = absurd (cc)
plain_of (word.Bound n) base entry size to is = absurd (cc)
plain_of word.Mixed base entry size to is = absurd (cc)
plain_of word.Outside base entry size to is = absurd (cc)

plain_at : (image : Contents) (base i entry size to : ℕ) → target image base i entry size ≡ Some to
    → (n : ℕ) × (word_at image (base + 4 * i) 4 ≡ word.Plain n) × ((pos base +ℤ signed n) ≡ pos (entry + to)) × (to < size)
unfolding target
plain_at image base i entry size to is = plain_of (word_at image (base + 4 * i) 4) base entry size to is

-- What the equations read of an entry that leads to a point: a word that gives the point's address, modulo 2^64, where it
-- is added to the table's with its sign extended.
pub record LeadsTo (c : Context) (table : JumpTable) (i to : ℕ) : Type 0 where
  pub x : ℕ
  pub plain : word_at c.image (table.base + 4 * i) 4 ≡ word.Plain x
  pub inside : to < c.size
  pub at_site : site_word c.image (table.base + 4 * i) 4 ≡ Plain x
  pub sum : (table.base + sign_extended x 4) % 2 ^ 64 ≡ c.entry + to

pub entry_leads : (c : Context) (table : JumpTable) (i to : ℕ) → HasSites c → c.entry + c.size ≤ 2 ^ 64 → entry_target c table i ≡ Some to → LeadsTo c table i to
entry_leads c table i to sites ends is =
    let at = plain_at c.image table.base i c.entry c.size to is in
    let read : site_word c.image (table.base + 4 * i) 4 ≡ Plain at.0 = rw at.1 refl in
    let half : at.0 < 2 ^ 32 = (sites 0).half (table.base + 4 * i) at.0 read in
    let inside = at.3 in
    record { x = at.0; plain = at.1; inside = inside; at_site = read; sum = sum_is table.base at.0 (c.entry + to) half (omega (arith, inside, ends)) at.2 }

-- ---- the entries of a table

first_target : (P : ℕ → Type 0) (o : Option ℕ) (points : List ℕ) (to : ℕ) → AllByRecursion P (with_target o points) → o ≡ Some to → P to
first_target P None points to all e = absurd (cc)
first_target P (Some point) points to all e = let same : point ≡ to = cc in subst P same all.0

more_targets : (P : ℕ → Type 0) (o : Option ℕ) (points : List ℕ) → AllByRecursion P (with_target o points) → AllByRecursion P points
more_targets P None points all = all
more_targets P (Some point) points all = all.1

-- what holds of each point to which these entries lead, holds of that of each entry
pub each_target : (P : ℕ → Type 0) (c : Context) (table : JumpTable) (first more : ℕ) → AllByRecursion P (targets_from c table first more)
    → (i to : ℕ) → i < more → entry_target c table (first + i) ≡ Some to → P to
each_target P c table first zero all i to less is = absurd (omega arith)
each_target P c table first (suc more) all zero to less is =
    first_target P (entry_target c table first) (targets_from c table (suc first) more) to all (ap (entry_target c table) (omega arith) ∙ is)
each_target P c table first (suc more) all (suc i) to less is =
    each_target P c table (suc first) more (more_targets P (entry_target c table first) (targets_from c table (suc first) more) all) i to (omega arith)
    (ap (entry_target c table) (omega arith) ∙ is)

-- edges to points, all with the same state
pub each_edge : (P : ℕ × Abstract → Type 0) (points : List ℕ) (st : Abstract) → AllByRecursion P (carry points st) → AllByRecursion (λ to. P (to, st)) points
each_edge P [] st all = tt
each_edge P (point ∷ points) st all = (all.0, each_edge P points st all.1)

-- ---- values

-- a value that tells of a table of jumps is the destination that one of its entries names
pub told_by : (v : Value) (table : JumpTable) → jump_table v ≡ Some table → v ≡ value.JumpDest table.base table.count
told_by (value.JumpDest a k) table is = let same : record { base = a; count = k } ≡ table = cc in subst (λ (t : JumpTable). value.JumpDest a k ≡ value.JumpDest t.base t.count) same refl
told_by value.Any table is = absurd (cc)
told_by value.Num table is = absurd (cc)
told_by (value.Const c) table is = absurd (cc)
told_by (value.Below k) table is = absurd (cc)
told_by (value.Low k) table is = absurd (cc)
told_by (value.Both k) table is = absurd (cc)
told_by value.HeapBase table is = absurd (cc)
told_by value.HeapAddr table is = absurd (cc)
told_by value.Globals table is = absurd (cc)
told_by (value.Entry r) table is = absurd (cc)
told_by (value.Image a) table is = absurd (cc)
told_by (value.Index16 k mark) table is = absurd (cc)
told_by (value.EntryPtr t) table is = absurd (cc)
told_by (value.EntryTyped t g) table is = absurd (cc)
told_by (value.TagOf t via) table is = absurd (cc)
told_by (value.TableFn t g) table is = absurd (cc)
told_by (value.JumpOff a k) table is = absurd (cc)

-- a table that does not fail to stay inside does: there is one, and each of its entries leads to a point
pub stays : (c : Context) (o : Option JumpTable) → ((StaysInside c o → ⊥) → ⊥) → (table : JumpTable) × (o ≡ Some table) × AllInside c table
stays c None not = absurd (not (λ never. never))
stays c (Some table) not = (table, refl, λ i less none. not (λ all. all i less none))

-- the function of an entry with a known tag
pub function_told : (v : Value) → IsTableFn v → (t : ℕ) × (g : ℕ) × (v ≡ value.TableFn t g)
function_told (value.TableFn t g) is = (t, g, refl)
function_told value.Any is = absurd is
function_told value.Num is = absurd is
function_told (value.Const c) is = absurd is
function_told (value.Below k) is = absurd is
function_told (value.Low k) is = absurd is
function_told (value.Both k) is = absurd is
function_told value.HeapBase is = absurd is
function_told value.HeapAddr is = absurd is
function_told value.Globals is = absurd is
function_told (value.Entry r) is = absurd is
function_told (value.Image a) is = absurd is
function_told (value.Index16 k mark) is = absurd is
function_told (value.EntryPtr t) is = absurd is
function_told (value.EntryTyped t g) is = absurd is
function_told (value.TagOf t via) is = absurd is
function_told (value.JumpOff a k) is = absurd is
function_told (value.JumpDest a k) is = absurd is
