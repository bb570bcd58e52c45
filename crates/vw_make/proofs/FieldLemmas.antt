-- Fields that are written over bytes, one by one.
use Rattle.std.proofs.Common.{◌≡◌, ◌∙◌, ℕ, suc, ◌+◌, ◌-◌, ◌<◌, ◌≤◌, ◌⊎◌, inl, inr, Bool, true, false, cond, List, [], ◌∷◌, ◌++◌, length, take, drop, get_or, Option, Some, None, length-append, refl, sym, ap, subst, arith}
use Rattle.std.specs.List.{find, AllPairs}
use Rattle.std.specs.Option.{option_map_or, option_or}
use Rattle.std.proofs.lemmas.List.{length-drop, length-take-le, get_or-take, get_or-drop, get_or_append_left, get_or-append_right, get_or_default, take_more}
use Rattle.std.proofs.lemmas.List.FromFn.{fill_by_all, length-map-range_with_len, get_or-map-range_with_len}
use Rattle.std.proofs.lemmas.List.Folds.{find-append}
use Rattle.std.proofs.lemmas.Bool.{cases_lt}
use Rattle.std.proofs.lemmas.Bool.Decides.{nat_tests}
use Rattle.vw_make.specs.Bounds.{AreApart}
use Rattle.vw_make.specs.Bytes.{is_within, byte_with, with_fields, put_at}

-- with no field the bytes are as before
pub with_fields_none : {X : Type 0} (field : ℕ × X → List ℕ) (size : ℕ) (bytes : List ℕ) → with_fields field size [] bytes ≡ bytes
unfolding with_fields
with_fields_none field size bytes = sym (fill_by_all (byte_with field size [] bytes) bytes (length bytes) 0 refl (λ k h. refl))

pub length-with_fields : {X : Type 0} (field : ℕ × X → List ℕ) (size : ℕ) (items : List (ℕ × X)) (bytes : List ℕ) → length (with_fields field size items bytes) ≡ length bytes
unfolding with_fields
length-with_fields field size items bytes = length-map-range_with_len (byte_with field size items bytes) 0 (length bytes)

byte_there : {X : Type 0} (field : ℕ × X → List ℕ) (size : ℕ) (items : List (ℕ × X)) (bytes : List ℕ) (k : ℕ) → k < length bytes → get_or (with_fields field size items bytes) k 0 ≡ byte_with field size items bytes k
unfolding with_fields
byte_there field size items bytes k inside = get_or-map-range_with_len (byte_with field size items bytes) 0 (length bytes) k k 0 inside (let e : 0 + k ≡ k = omega arith in e)

-- the bytes of put_at
below : (at : ℕ) (field bytes : List ℕ) (k : ℕ) → at + length field ≤ length bytes → k < at → get_or (put_at at field bytes) k 0 ≡ get_or bytes k 0
below at field bytes k fits h =
    let front = length-take-le at bytes (omega arith) in
    let joined = length-append (take at bytes) field in
    get_or_append_left (take at bytes ++ field) (drop (at + length field) bytes) 0 k (omega arith)
    ∙ (get_or_append_left (take at bytes) field 0 k (omega arith) ∙ get_or-take at bytes k 0 h)

at_field : (at : ℕ) (field bytes : List ℕ) (k : ℕ) → at + length field ≤ length bytes → at ≤ k → k < at + length field → get_or (put_at at field bytes) k 0 ≡ get_or field (k - at) 0
at_field at field bytes k fits h g =
    let front = length-take-le at bytes (omega arith) in
    let joined = length-append (take at bytes) field in
    get_or_append_left (take at bytes ++ field) (drop (at + length field) bytes) 0 k (omega arith)
    ∙ get_or-append_right (take at bytes) field at k 0 front h

behind : (at : ℕ) (field bytes : List ℕ) (k : ℕ) → at + length field ≤ length bytes → at + length field ≤ k → get_or (put_at at field bytes) k 0 ≡ get_or bytes k 0
behind at field bytes k fits h =
    let front = length-take-le at bytes (omega arith) in
    let joined : length (take at bytes ++ field) ≡ at + length field = omega (arith, length-append (take at bytes) field) in
    get_or-append_right (take at bytes ++ field) (drop (at + length field) bytes) (at + length field) k 0 joined h
    ∙ (get_or-drop (at + length field) bytes (k - (at + length field)) 0
    ∙ ap (λ (i : ℕ). get_or bytes i 0) (let e : at + length field + (k - (at + length field)) ≡ k = omega arith in e))

pub length-put_at : (at : ℕ) (field bytes : List ℕ) → at + length field ≤ length bytes → length (put_at at field bytes) ≡ length bytes
length-put_at at field bytes fits =
    let front = length-take-le at bytes (omega arith) in
    omega (arith, length-append (take at bytes ++ field) (drop (at + length field) bytes), length-append (take at bytes) field, length-drop (at + length field) bytes)

within : (at size k : ℕ) → at ≤ k → k < at + size → is_within at size k ≡ true
within at size k h g = grind (arith, nat_tests)

outside : (at size k : ℕ) → (k < at) ⊎ (at + size ≤ k) → is_within at size k ≡ false
outside at size k h = grind (arith, nat_tests)

-- no field but one that is apart from the others has a byte there
none_there : {X : Type 0} (size : ℕ) (items : List (ℕ × X)) (item : ℕ × X) (k : ℕ) → item.0 ≤ k → k < item.0 + size
    → ((j : ℕ) (d : ℕ × X) → j < length items → AreApart size (get_or items j d) item) → find (λ (i : ℕ × X). is_within i.0 size k) items ≡ None
none_there {X} size [] item k h g apart = refl
none_there {X} size (x ∷ items) item k h g apart =
    let out : is_within x.0 size k ≡ false = outside x.0 size k (elim (apart 0 x (omega arith)) [ inl a ↦ inr (omega arith) | inr b ↦ inl (omega arith) ]) in
    ap (λ (b : Bool). cond b (Some x) (find (λ (i : ℕ × X). is_within i.0 size k) items)) out
    ∙ none_there size items item k h g (λ j d inside. apart (suc j) d (omega arith))

or_none : {X : Type 0} (o : Option X) → option_or o None ≡ o
or_none None = refl
or_none (Some x) = refl

-- the byte, where the last field does not have it
more_outside : {X : Type 0} (field : ℕ × X → List ℕ) (size : ℕ) (items : List (ℕ × X)) (item : ℕ × X) (bytes : List ℕ) (k : ℕ) → is_within item.0 size k ≡ false
    → byte_with field size (items ++ item ∷ []) bytes k ≡ byte_with field size items bytes k
more_outside {X} field size items item bytes k out =
    let test : ℕ × X → Bool = λ i. is_within i.0 size k in
    ap (λ (o : Option (ℕ × X)). option_map_or (λ i. get_or (field i) (k - i.0) 0) o (get_or bytes k 0))
    (find-append test items (item ∷ []) ∙ (ap (λ (b : Bool). option_or (find test items) (cond b (Some item) None)) out ∙ or_none (find test items)))

-- the byte, where the last field has it
more_inside : {X : Type 0} (field : ℕ × X → List ℕ) (size : ℕ) (items : List (ℕ × X)) (item : ℕ × X) (bytes : List ℕ) (k : ℕ) → is_within item.0 size k ≡ true
    → find (λ (i : ℕ × X). is_within i.0 size k) items ≡ None → byte_with field size (items ++ item ∷ []) bytes k ≡ get_or (field item) (k - item.0) 0
more_inside {X} field size items item bytes k inside none =
    let test : ℕ × X → Bool = λ i. is_within i.0 size k in
    ap (λ (o : Option (ℕ × X)). option_map_or (λ i. get_or (field i) (k - i.0) 0) o (get_or bytes k 0))
    (find-append test items (item ∷ []) ∙ (ap (λ (o : Option (ℕ × X)). option_or o (cond (test item) (Some item) None)) none ∙ ap (λ (b : Bool). cond b (Some item) None) inside))

is_with_fields : {X : Type 0} (field : ℕ × X → List ℕ) (size : ℕ) (items : List (ℕ × X)) (bytes xs : List ℕ) → length xs ≡ length bytes
    → ((k : ℕ) → k < length bytes → get_or xs k 0 ≡ byte_with field size items bytes k) → xs ≡ with_fields field size items bytes
unfolding with_fields
is_with_fields field size items bytes xs same each = fill_by_all (byte_with field size items bytes) xs (length bytes) 0 same each

byte_more : {X : Type 0} (field : ℕ × X → List ℕ) (size : ℕ) (items : List (ℕ × X)) (item : ℕ × X) (bytes : List ℕ) → length (field item) ≡ size → item.0 + size ≤ length bytes
    → ((j : ℕ) (d : ℕ × X) → j < length items → AreApart size (get_or items j d) item) → (k : ℕ) → k < length bytes
    → get_or (put_at item.0 (field item) (with_fields field size items bytes)) k 0 ≡ byte_with field size (items ++ item ∷ []) bytes k
byte_more field size items item bytes sized fits apart k inside =
    let same = length-with_fields field size items bytes in
    let fits' : item.0 + length (field item) ≤ length (with_fields field size items bytes) = omega arith in
    let old = byte_there field size items bytes k inside in
    elim (cases_lt k item.0) [
      | inl h ↦
          below item.0 (field item) (with_fields field size items bytes) k fits' h
          ∙ (old ∙ sym (more_outside field size items item bytes k (outside item.0 size k (inl h))))
      | inr h ↦
          elim (cases_lt k (item.0 + size)) [
            | inl g ↦
                at_field item.0 (field item) (with_fields field size items bytes) k fits' h (omega arith)
                ∙ sym (more_inside field size items item bytes k (within item.0 size k h g) (none_there size items item k h g apart))
            | inr g ↦
                behind item.0 (field item) (with_fields field size items bytes) k fits' (omega arith)
                ∙ (old ∙ sym (more_outside field size items item bytes k (outside item.0 size k (inr g))))
          ]
    ]

-- one more field
pub with_fields_more : {X : Type 0} (field : ℕ × X → List ℕ) (size : ℕ) (items : List (ℕ × X)) (item : ℕ × X) (bytes : List ℕ) → length (field item) ≡ size → item.0 + size ≤ length bytes
    → ((j : ℕ) (d : ℕ × X) → j < length items → AreApart size (get_or items j d) item)
    → put_at item.0 (field item) (with_fields field size items bytes) ≡ with_fields field size (items ++ item ∷ []) bytes
with_fields_more field size items item bytes sized fits apart =
    let same = length-with_fields field size items bytes in
    is_with_fields field size (items ++ item ∷ []) bytes (put_at item.0 (field item) (with_fields field size items bytes))
    (length-put_at item.0 (field item) (with_fields field size items bytes) (omega arith) ∙ same)
    (byte_more field size items item bytes sized fits apart)

-- one turn of a loop that writes the fields of a list
pub fields_step : {X : Type 0} (field : ℕ × X → List ℕ) (size : ℕ) (items : List (ℕ × X)) (i : ℕ) (d : ℕ × X) (bytes now new piece : List ℕ) → i < length items → length piece ≡ size → (get_or items i d).0 + size ≤ length bytes → AllPairs (AreApart size) items
    → now ≡ with_fields field size (take i items) bytes → piece ≡ field (get_or items i d) → new ≡ put_at (get_or items i d).0 piece now → new ≡ with_fields field size (take (i + 1) items) bytes
fields_step {X} field size items i d bytes now new piece inside sized fits apart before same written =
    let front : length (take i items) ≡ i = length-take-le i items (omega arith) in
    let others : (j : ℕ) (e : ℕ × X) → j < length (take i items) → AreApart size (get_or (take i items) j e) (get_or items i d) =
    λ j e below.
    subst (λ (x : ℕ × X). AreApart size (get_or (take i items) j e) x) (get_or_default items i e d inside)
    (subst (λ (x : ℕ × X). AreApart size x (get_or items i e)) (sym (get_or-take i items j e (omega arith))) (apart j i e (omega arith) inside))
    in
    written
    ∙ (ap (λ (p : List ℕ). put_at (get_or items i d).0 p now) same
    ∙ (ap (λ (n : List ℕ). put_at (get_or items i d).0 (field (get_or items i d)) n) before
    ∙ (with_fields_more field size (take i items) (get_or items i d) bytes (ap length (sym same) ∙ sized) fits others
    ∙ ap (λ (taken : List (ℕ × X)). with_fields field size taken bytes) (sym (take_more items i d inside)))))
