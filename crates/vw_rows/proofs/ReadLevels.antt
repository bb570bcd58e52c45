-- What the levels give is the row.
use Rattle.std.proofs.Common.{◌≡◌, ℕ, zero, suc, ◌+◌, ◌-◌, ◌*◌, ◌%◌, ◌<◌, ◌≤◌, Bool, true, false, ltb, ◌&&◌, ◌==◌, List, [], ◌∷◌, length, get_or, Option, Some, None, IfSome, find, filter, refl, sym, ap, subst, ◌∙◌, rules, arith, inl, inr}
use Rattle.std.proofs.lemmas.Bool.{and_parts, cases_Bool, le-ltb, ne_eqb, eqb-true, eqb-false, eq-eqb, ltb-true, false≢true}
use Rattle.std.specs.Prelude.{slice_get}
use Rattle.std.specs.List.{list_all}
use Rattle.vw_rows.specs.declared.patterns.Prefix.{Prefix}
use Rattle.vw_rows.specs.declared.patterns.Prefix.TheVariants.{Plain, P66, PF2, PF3}
use Rattle.vw_rows.specs.declared.patterns.Map.{Map}
use Rattle.vw_rows.specs.declared.patterns.Key.{Key}
use Rattle.vw_rows.specs.declared.forms.Row.{Row}
use Rattle.vw_rows.specs.declared.levels.Level.{Level}
use Rattle.vw_rows.specs.Rows.{rows}
use Rattle.vw_rows.specs.Lookup.{IsIn, matches, key, same_map, takes_prefix, has_opcode, has_digit, has_form}
use Rattle.vw_rows.specs.Levels.{numbered, Slot, slot, owners, same_prefix, same_slot, rows_at, fits, is_entry, is_entry_below, is_owner, opcode_agrees, opcodes_agree_from, opcodes_agree, digits_agree, owners_agree, bit, with_digit}
use Rattle.vw_rows.proofs.Matching.{tests-of, of-tests, same_map-≡}
use Rattle.vw_rows.proofs.Uniqueness.{find_is, find_row, rows_all}

-- ---- a row stands at its number

unfoldable in_place : ℕ → List Row → Bool
in_place n [] = true
in_place n (r ∷ rs) = r.number == n && in_place (n + 1) rs

rows-in_place : in_place 0 rows ≡ true
unfolding rows in_place
rows-in_place = refl

some_row : Row → Option Row
some_row r = Some r

in_place-get : (n : ℕ) (rs : List Row) → in_place n rs ≡ true → (r : Row) → IsIn r rs → (k : ℕ) × (r.number ≡ n + k) × (slice_get rs k ≡ Some r)
unfolding in_place
in_place-get n [] h r i = absurd i
in_place-get n (x ∷ xs) h r i =
    let parts = and_parts (x.number == n) (in_place (n + 1) xs) h in
    elim i [
      | inl e ↦ (let is : x.number ≡ n = eqb-true x.number n parts.0 in let same : n + 0 ≡ n = omega arith in (0, ap (λ (y : Row). y.number) (sym e) ∙ is ∙ sym same, ap (λ (y : Row). Some y) e))
      | inr more ↦ (let rest = in_place-get (n + 1) xs parts.1 r more in let at : r.number ≡ n + 1 + rest.0 = rest.1 in (suc rest.0, omega arith, rest.2))
    ]

placed_at : (n : ℕ) (rs : List Row) → in_place n rs ≡ true → (k : ℕ) (r : Row) → slice_get rs k ≡ Some r → IsIn r rs × (r.number ≡ n + k)
unfolding in_place
placed_at n [] h k r e = absurd cc
placed_at n (x ∷ xs) h zero r e =
    let parts = and_parts (x.number == n) (in_place (n + 1) xs) h in
    let is : x ≡ r = cc in
    let own : x.number ≡ n = eqb-true x.number n parts.0 in
    let same : n + 0 ≡ n = omega arith in
    (inl is, ap (λ (y : Row). y.number) (sym is) ∙ own ∙ sym same)
placed_at n (x ∷ xs) h (suc k) r e =
    let parts = and_parts (x.number == n) (in_place (n + 1) xs) h in
    let rest = placed_at (n + 1) xs parts.1 k r e in
    let at : r.number ≡ n + 1 + k = rest.1 in
    (inr rest.0, omega arith)

-- the row at a place is the one of that number
pub placed_found : (n : ℕ) (o : Option Row) → o ≡ slice_get rows n → IfSome o (λ r. IsIn r rows × (r.number ≡ n))
placed_found n None e = tt
placed_found n (Some r) e = (let at = placed_at 0 rows rows-in_place n r (sym e) in let is : r.number ≡ 0 + n = at.1 in (at.0, omega arith))

pub placed_only : (n : ℕ) (o : Option Row) → o ≡ slice_get rows n → (r : Row) → IsIn r rows → r.number ≡ n → o ≡ Some r
placed_only n o e r listed is =
    let at = in_place-get 0 rows rows-in_place r listed in
    let own : r.number ≡ 0 + at.0 = at.1 in
    let k : at.0 ≡ n = omega arith in
    e ∙ subst (λ (j : ℕ). slice_get rows j ≡ Some r) k at.2

-- the entry that stands for what was found
is_entry-numbered : (n : ℕ) (o : Option Row) → IfSome o (λ r. IsIn r rows) → is_entry n o ≡ true → numbered n ≡ o
unfolding is_entry numbered
is_entry-numbered n None found h = rw h refl
is_entry-numbered n (Some r) found h =
    let is : n ≡ r.number + 1 = eqb-true n (r.number + 1) h in
    let at = in_place-get 0 rows rows-in_place r found in
    let k : n - 1 ≡ at.0 = omega (arith, at.1) in
    let some : (n == 0) ≡ false = ne_eqb n 0 (λ e. omega arith) in
    rw (some, k) at.2

-- ---- a search among the rows of an opcode

abbrev slot_test : Slot → Row → Bool
slot_test a r = has_opcode r.pattern a.opcode && (takes_prefix r.pattern.prefixes a.prefix && same_map r.pattern.map a.map)

and-assoc : (a b c d e : Bool) → (a && (b && (c && (d && e)))) ≡ ((a && (b && c)) && (d && e))
and-assoc true true c d e = refl
and-assoc true false c d e = refl
and-assoc false b c d e = refl

find-filter : (p q t : Row → Bool) → ((r : Row) → t r ≡ (q r && p r)) → (xs : List Row) → find p (filter q xs) ≡ find t xs
find-filter p q t h [] = refl
find-filter p q t h (x ∷ xs) =
    elim (cases_Bool (q x)) [
      | inl kept ↦ let same : t x ≡ p x = h x ∙ rw kept refl in rw (kept, same) (elim (cases_Bool (p x)) [
        | inl hit ↦ rw hit refl
        | inr miss ↦ rw miss (find-filter p q t h xs)
      ])
      | inr dropped ↦ let none : t x ≡ false = h x ∙ rw dropped refl in rw (dropped, none) (find-filter p q t h xs)
    ]

find-at : (p : Prefix) (m : Map) (o d : ℕ) (f : Bool) → find (fits d f) (rows_at (slot m p o)) ≡ find (λ r. matches r (key p m o d f)) rows
unfolding rows_at fits
find-at p m o d f = find-filter (λ r. has_digit r.pattern.digit d && has_form r.pattern.form f) (slot_test (slot m p o)) (λ r. matches r (key p m o d f)) (λ r. and-assoc (has_opcode r.pattern o) (takes_prefix r.pattern.prefixes p) (same_map r.pattern.map m) (has_digit r.pattern.digit d) (has_form r.pattern.form f)) rows

find-in : (k : Key) (o : Option Row) → find (λ r. matches r k) rows ≡ o → IfSome o (λ r. IsIn r rows)
find-in k None e = tt
find-in k (Some r) e = (find_is k r e).0

-- what an entry says of an opcode, a digit and a form
said : (p : Prefix) (m : Map) (o d : ℕ) (f : Bool) (n : ℕ) → is_entry n (find (fits d f) (rows_at (slot m p o))) ≡ true → numbered n ≡ find (λ r. matches r (key p m o d f)) rows
said p m o d f n h =
    let k = key p m o d f in
    is_entry-numbered n (find (λ r. matches r k) rows) (find-in k (find (λ r. matches r k) rows) refl) (subst (λ (x : Option Row). is_entry n x ≡ true) (find-at p m o d f) h)

-- ---- the levels, entry by entry

entries-at : (m : Map) (p : Prefix) (o : ℕ) (ns : List ℕ) → opcodes_agree_from m p o ns ≡ true → (k : ℕ) → k < length ns → opcode_agrees (slot m p (o + k)) (get_or ns k 0) ≡ true
unfolding opcodes_agree_from
entries-at m p o [] h k lt = absurd (omega arith)
entries-at m p o (n ∷ ns) h zero lt =
    let same : o + 0 ≡ o = omega arith in
    subst (λ (j : ℕ). opcode_agrees (slot m p j) n ≡ true) (sym same) (and_parts (opcode_agrees (slot m p o) n) (opcodes_agree_from m p (o + 1) ns) h).0
entries-at m p o (n ∷ ns) h (suc k) lt =
    let rest = entries-at m p (o + 1) ns (and_parts (opcode_agrees (slot m p o) n) (opcodes_agree_from m p (o + 1) ns) h).1 k (omega arith) in
    let same : o + 1 + k ≡ o + suc k = omega arith in
    subst (λ (j : ℕ). opcode_agrees (slot m p j) (get_or ns k 0) ≡ true) same rest

pub first-at : (m : Map) (p : Prefix) (ns : List ℕ) → opcodes_agree m p ns ≡ true → (o : ℕ) → o < length ns → opcode_agrees (slot m p o) (get_or ns o 0) ≡ true
unfolding opcodes_agree
first-at m p ns h o lt =
    let same : 0 + o ≡ o = omega arith in
    subst (λ (j : ℕ). opcode_agrees (slot m p j) (get_or ns o 0) ≡ true) same (entries-at m p 0 ns h o lt)

entries-length : (m : Map) (p : Prefix) (o : ℕ) (ns : List ℕ) → opcodes_agree_from m p o ns ≡ true → o + length ns ≡ 256
unfolding opcodes_agree_from
entries-length m p o [] h = let e : o ≡ 256 = eqb-true o 256 h in omega arith
entries-length m p o (n ∷ ns) h = let rest = entries-length m p (o + 1) ns (and_parts (opcode_agrees (slot m p o) n) (opcodes_agree_from m p (o + 1) ns) h).1 in omega arith

pub first-length : (m : Map) (p : Prefix) (ns : List ℕ) → opcodes_agree m p ns ≡ true → length ns ≡ 256
unfolding opcodes_agree
first-length m p ns h = let e = entries-length m p 0 ns h in omega arith

below-at : (n c : ℕ) (rs : List Row) → is_entry_below n c rs ≡ true → (d : ℕ) (f : Bool) → d < c → is_entry n (find (fits d f) rs) ≡ true
unfolding is_entry_below
below-at n zero rs h d f lt = absurd (omega arith)
below-at n (suc c) rs h d f lt =
    let a = and_parts (is_entry n (find (fits c false) rs)) (is_entry n (find (fits c true) rs) && is_entry_below n c rs) h in
    let b = and_parts (is_entry n (find (fits c true) rs)) (is_entry_below n c rs) a.1 in
    elim (cases_Bool (d == c)) [
      | inl hit ↦ let e : d ≡ c = eqb-true d c hit in subst (λ (k : ℕ). is_entry n (find (fits k f) rs) ≡ true) (sym e) (either f a.0 b.0)
      | inr miss ↦ let ne : d ≡ c → ⊥ = eqb-false d c miss in below-at n c rs b.1 d f (omega arith)
    ]
  where
    either : (g : Bool) → is_entry n (find (fits c false) rs) ≡ true → is_entry n (find (fits c true) rs) ≡ true → is_entry n (find (fits c g) rs) ≡ true
    either true x y = y
    either false x y = x

-- an entry below 32768 is the row's
pub small-entry : (m : Map) (p : Prefix) (o n d : ℕ) (f : Bool) → n < 32768 → d < 8 → opcode_agrees (slot m p o) n ≡ true → numbered n ≡ find (λ r. matches r (key p m o d f)) rows
unfolding opcode_agrees
small-entry m p o n d f lt small h =
    let is : ltb n 32768 ≡ true = search rules in
    said p m o d f n (below-at n 8 (rows_at (slot m p o)) (rw is at h) d f small)

-- ---- second levels

pairs-at : (rs : List Row) (d : ℕ) (ns : List ℕ) → digits_agree rs d ns ≡ true → (j : ℕ) (f : Bool) → d + j < 8 → is_entry (get_or ns (j * 2 + bit f) 0) (find (fits (d + j) f) rs) ≡ true
unfolding digits_agree
pairs-at rs d [] h j f lt = let e : d ≡ 8 = eqb-true d 8 h in absurd (omega arith)
pairs-at rs d (n ∷ []) h j f lt = absurd cc
pairs-at rs d (n ∷ m ∷ ns) h zero f lt =
    let a = and_parts (is_entry n (find (fits d false) rs)) (is_entry m (find (fits d true) rs) && digits_agree rs (d + 1) ns) h in
    let b = and_parts (is_entry m (find (fits d true) rs)) (digits_agree rs (d + 1) ns) a.1 in
    let same : d + 0 ≡ d = omega arith in
    subst (λ (k : ℕ). is_entry (get_or (n ∷ m ∷ ns) (0 * 2 + bit f) 0) (find (fits k f) rs) ≡ true) (sym same) (either f a.0 b.0)
  where
    either : (g : Bool) → is_entry n (find (fits d false) rs) ≡ true → is_entry m (find (fits d true) rs) ≡ true → is_entry (get_or (n ∷ m ∷ ns) (0 * 2 + bit g) 0) (find (fits d g) rs) ≡ true
    either true x y = y
    either false x y = x
pairs-at rs d (n ∷ m ∷ ns) h (suc j) f lt =
    let a = and_parts (is_entry n (find (fits d false) rs)) (is_entry m (find (fits d true) rs) && digits_agree rs (d + 1) ns) h in
    let b = and_parts (is_entry m (find (fits d true) rs)) (digits_agree rs (d + 1) ns) a.1 in
    let rest = pairs-at rs (d + 1) ns b.1 j f (omega arith) in
    let at : d + 1 + j ≡ d + suc j = omega arith in
    let index : suc j * 2 + bit f ≡ suc (suc (j * 2 + bit f)) = omega arith in
    subst (λ (k : ℕ). is_entry (get_or (n ∷ m ∷ ns) k 0) (find (fits (d + suc j) f) rs) ≡ true) (sym index)
    (subst (λ (k : ℕ). is_entry (get_or ns (j * 2 + bit f) 0) (find (fits k f) rs) ≡ true) at rest)

pub digits-length : (rs : List Row) (d : ℕ) (ns : List ℕ) → digits_agree rs d ns ≡ true → d * 2 + length ns ≡ 16
unfolding digits_agree
digits-length rs d [] h = let e : d ≡ 8 = eqb-true d 8 h in omega arith
digits-length rs d (n ∷ []) h = absurd cc
digits-length rs d (n ∷ m ∷ ns) h =
    let a = and_parts (is_entry n (find (fits d false) rs)) (is_entry m (find (fits d true) rs) && digits_agree rs (d + 1) ns) h in
    let b = and_parts (is_entry m (find (fits d true) rs)) (digits_agree rs (d + 1) ns) a.1 in
    let rest = digits-length rs (d + 1) ns b.1 in
    omega arith

pub owners-length : (ps : List Slot) (ls : List (Level 16)) → owners_agree ps ls ≡ true → length ps ≡ length ls
unfolding owners_agree
owners-length [] [] h = refl
owners-length [] (l ∷ ls) h = absurd cc
owners-length (a ∷ ps) [] h = absurd cc
owners-length (a ∷ ps) (l ∷ ls) h = ap suc (owners-length ps ls (and_parts (digits_agree (rows_at a) 0 l.entries) (owners_agree ps ls) h).1)

owners-at : (ps : List Slot) (ls : List (Level 16)) → owners_agree ps ls ≡ true → (k : ℕ) (a : Slot) (l : Level 16) → slice_get ps k ≡ Some a → k < length ls → digits_agree (rows_at a) 0 (get_or ls k l).entries ≡ true
unfolding owners_agree
owners-at [] [] h k a l e lt = absurd (omega arith)
owners-at [] (x ∷ ls) h k a l e lt = absurd cc
owners-at (b ∷ ps) [] h k a l e lt = absurd cc
owners-at (b ∷ ps) (x ∷ ls) h zero a l e lt =
    let is : b ≡ a = cc in subst (λ (c : Slot). digits_agree (rows_at c) 0 x.entries ≡ true) is (and_parts (digits_agree (rows_at b) 0 x.entries) (owners_agree ps ls) h).0
owners-at (b ∷ ps) (x ∷ ls) h (suc k) a l e lt = owners-at ps ls (and_parts (digits_agree (rows_at b) 0 x.entries) (owners_agree ps ls) h).1 k a l e (omega arith)

same_prefix-is : (a b : Prefix) → same_prefix a b ≡ true → a ≡ b
unfolding same_prefix
same_prefix-is Plain Plain h = refl
same_prefix-is P66 P66 h = refl
same_prefix-is PF2 PF2 h = refl
same_prefix-is PF3 PF3 h = refl
same_prefix-is _ _ h = absurd (false≢true h)

same_slot-is : (a b : Slot) → same_slot a b ≡ true → a ≡ b
unfolding same_slot
same_slot-is a b h =
    let x = and_parts (same_map a.map b.map) (same_prefix a.prefix b.prefix && a.opcode == b.opcode) h in
    let y = and_parts (same_prefix a.prefix b.prefix) (a.opcode == b.opcode) x.1 in
    let m = same_map-≡ a.map b.map x.0 in
    let p = same_prefix-is a.prefix b.prefix y.0 in
    let o : a.opcode ≡ b.opcode = eqb-true a.opcode b.opcode y.1 in
    ap (λ (v : Map). slot v a.prefix a.opcode) m ∙ ap (λ (v : Prefix). slot b.map v a.opcode) p ∙ ap (λ v. slot b.map b.prefix v) o

is_owner-found : (a : Slot) (o : Option Slot) → is_owner a o ≡ true → o ≡ Some a
unfolding is_owner
is_owner-found a None h = absurd cc
is_owner-found a (Some b) h = let e = same_slot-is a b h in ap (λ (x : Slot). some x) (sym e)
  where
    some : Slot → Option Slot
    some x = Some x

slice_get-length : (ps : List Slot) (k : ℕ) (a : Slot) → slice_get ps k ≡ Some a → k < length ps
slice_get-length [] k a e = absurd cc
slice_get-length (p ∷ ps) zero a e = omega arith
slice_get-length (p ∷ ps) (suc k) a e = let rest = slice_get-length ps k a e in omega arith

-- an entry from 32768 on leads to the level of the opcode
pub large-entry : (m : Map) (p : Prefix) (o n : ℕ) → 32768 ≤ n → opcode_agrees (slot m p o) n ≡ true → (slice_get owners (n - 32768) ≡ Some (slot m p o)) × (n - 32768 < length owners)
unfolding opcode_agrees
large-entry m p o n le h =
    let is : ltb n 32768 ≡ false = le-ltb n 32768 le in
    let found = is_owner-found (slot m p o) (slice_get owners (n - 32768)) (rw is at h) in
    (found, slice_get-length owners (n - 32768) (slot m p o) found)

pub second-entry : (m : Map) (p : Prefix) (o k d : ℕ) (f : Bool) (ls : List (Level 16)) (l : Level 16) → owners_agree owners ls ≡ true → slice_get owners k ≡ Some (slot m p o) → k < length ls → d < 8 → numbered (get_or (get_or ls k l).entries (d * 2 + bit f) 0) ≡ find (λ r. matches r (key p m o d f)) rows
second-entry m p o k d f ls l ok is lt small =
    let pairs = owners-at owners ls ok k (slot m p o) l is lt in
    let zero-add : 0 + d ≡ d = omega arith in
    let h = pairs-at (rows_at (slot m p o)) 0 (get_or ls k l).entries pairs d f (omega arith) in
    said p m o d f (get_or (get_or ls k l).entries (d * 2 + bit f) 0) (subst (λ (j : ℕ). is_entry (get_or (get_or ls k l).entries (d * 2 + bit f) 0) (find (fits j f) (rows_at (slot m p o))) ≡ true) zero-add h)

-- ---- digits above 7

abbrev octal : Option ℕ → Bool
octal None = true
octal (Some n) = ltb n 8

all_octal : list_all (λ r. octal r.pattern.digit) rows ≡ true
unfolding rows
all_octal = refl

lower_digit : (o : Option ℕ) (d : ℕ) → octal o ≡ true → has_digit o d ≡ true → has_digit o (d % 8) ≡ true
lower_digit None d h e = refl
lower_digit (Some n) d h e = (let is : d ≡ n = eqb-true d n e in let lt : n < 8 = ltb-true n 8 h in eq-eqb (d % 8) n (omega arith))

-- a row of the key has the key with the digit below 8
lower : (p : Prefix) (m : Map) (o d : ℕ) (f : Bool) (r : Row) → IsIn r rows → matches r (key p m o d f) ≡ true → matches r (key p m o (d % 8) f) ≡ true
lower p m o d f r listed h =
    let t = tests-of r (key p m o d f) h in
    of-tests r (key p m o (d % 8) f) (record { prefix = t.prefix; map = t.map; opcode = t.opcode; digit = lower_digit r.pattern.digit d (rows_all (λ x. octal x.pattern.digit) all_octal r listed) t.digit; form = t.form })

higher : (p : Prefix) (m : Map) (o d : ℕ) (f : Bool) (r : Row) → matches r (key p m o (d % 8) f) ≡ true → has_digit r.pattern.digit d ≡ true → matches r (key p m o d f) ≡ true
higher p m o d f r h e =
    let t = tests-of r (key p m o (d % 8) f) h in
    of-tests r (key p m o d f) (record { prefix = t.prefix; map = t.map; opcode = t.opcode; digit = e; form = t.form })

has_it : (p : Prefix) (m : Map) (o d : ℕ) (f : Bool) (r : Row) → matches r (key p m o d f) ≡ true → has_digit r.pattern.digit d ≡ true
has_it p m o d f r h = (tests-of r (key p m o d f) h).digit

pub any_digit : (p : Prefix) (m : Map) (o d : ℕ) (f : Bool) → with_digit (find (λ r. matches r (key p m o (d % 8) f)) rows) d ≡ find (λ r. matches r (key p m o d f)) rows
any_digit p m o d f = decide (find (λ r. matches r (key p m o d f)) rows) (find (λ r. matches r (key p m o (d % 8) f)) rows) refl refl
  where
    decide : (whole low : Option Row) → find (λ r. matches r (key p m o d f)) rows ≡ whole → find (λ r. matches r (key p m o (d % 8) f)) rows ≡ low → with_digit low d ≡ whole
    decide (Some r) low e g =
        let is = find_is (key p m o d f) r e in
        let there : find (λ s. matches s (key p m o (d % 8) f)) rows ≡ Some r = find_row (key p m o (d % 8) f) r is.0 (lower p m o d f r is.0 is.1) in
        let same : low ≡ Some r = sym g ∙ there in
        rw (same, has_it p m o d f r is.1) refl
    decide None None e g = refl
    decide None (Some r) e g =
        let is = find_is (key p m o (d % 8) f) r g in
        elim (cases_Bool (has_digit r.pattern.digit d)) [
          | inl hit ↦ let there = find_row (key p m o d f) r is.0 (higher p m o d f r is.1 hit) in absurd cc
          | inr miss ↦ rw miss refl
        ]

-- what is read is what is searched
pub read_is : (p : Prefix) (m : Map) (o d : ℕ) (f : Bool) (n : ℕ) (row answer : Option Row) → numbered n ≡ find (λ r. matches r (key p m o (d % 8) f)) rows → row ≡ numbered n → answer ≡ with_digit row d → answer ≡ find (λ r. matches r (key p m o d f)) rows
read_is p m o d f n row answer h e g = g ∙ (ap (λ (x : Option Row). with_digit x d) (e ∙ h) ∙ any_digit p m o d f)

pub searched : (k : Key) (table : List Row) (answer : Option Row) → table ≡ rows → answer ≡ find (λ (r : Row). matches r k) table → answer ≡ find (λ (r : Row). matches r k) rows
searched k table answer h e = e ∙ ap (λ (t : List Row). find (λ (r : Row). matches r k) t) h
