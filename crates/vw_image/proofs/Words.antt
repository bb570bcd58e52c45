-- What words, ranges and stubs are, from what an index finds.
use Rattle.std.proofs.Common.{◌≡◌, ◌≢◌, ℕ, ◌==◌, Bool, true, false, cond, List, length, Option, Some, None, IfSome, option_map, refl, ap, subst, arith}
use Rattle.std.specs.List.{find, list_any}
use Rattle.std.specs.Option.{option_map_or}
use Rattle.std.proofs.lemmas.Bool.Decides.{nat_tests}
use Rattle.vw_bits.specs.Fields.{load}
use Rattle.vw_dynamic.specs.declared.dynamic.Relocation.{Relocation}
use Rattle.vw_dynamic.specs.declared.dynamic.RelKind.{RelKind}
use Rattle.vw_dynamic.specs.declared.dynamic.RelKind.TheVariants.{Based as BasedKind, Bound as BoundKind}
use Rattle.vw_image.specs.declared.word.Word.{Word}
use Rattle.vw_image.specs.declared.word.Word.TheVariants.{Plain, Mixed, Outside}
use Rattle.vw_image.specs.Image.{Contents, IsImage, memory_byte, touches}
use Rattle.vw_image.specs.Index.{kind_at}
use Rattle.vw_image.specs.Words.{in_readable, word_of_kind, word_at}
use Rattle.vw_image.specs.Laws.{IsNumbered}
use Rattle.vw_bits.proofs.ListLemmas.{find-holds}
use Rattle.vw_image.proofs.Rules.{IsNumberedKind, image-numbered}

-- the relocation of just these bytes, where there is one
abbrev pub exact : Contents → ℕ → ℕ → Option RelKind
exact image a size = cond (size == 8) (kind_at image.relocations a) None

eight : (size : ℕ) → size ≡ 8 → (size == 8) ≡ true
eight size is = grind (arith, nat_tests)

pub exact-other : (image : Contents) (a size : ℕ) → size ≢ 8 → exact image a size ≡ None
exact-other image a size is =
    let test : (size == 8) ≡ false = grind (arith, nat_tests) in
    rw test refl

pub exact-none : (image : Contents) (a size : ℕ) → kind_at image.relocations a ≡ None → exact image a size ≡ None
exact-none image a size none = at (size == 8)
  where
    at : (b : Bool) → cond b (kind_at image.relocations a) None ≡ None
    at true = none
    at false = refl

pub exact-some : (image : Contents) (a size : ℕ) (kind : RelKind) → size ≡ 8 → kind_at image.relocations a ≡ Some kind → exact image a size ≡ Some kind
exact-some image a size kind is found =
    let test : (size == 8) ≡ true = eight size is in
    rw (test, found) refl

pub word_at-exact : (image : Contents) (a size : ℕ) (kind : RelKind) → exact image a size ≡ Some kind → word_of_kind kind ≡ word_at image a size
unfolding word_at
word_at-exact image a size kind is = rw is refl

pub word_at-mixed : (image : Contents) (a size : ℕ) → exact image a size ≡ None → list_any (touches a size) image.relocations ≡ true → Mixed ≡ word_at image a size
unfolding word_at
word_at-mixed image a size none touched = rw (none, touched) refl

plain : (inside : Bool) (number n : ℕ) → Some number ≡ cond inside (Some n) None → Plain number ≡ cond inside (Plain n) Outside
plain true number n is = let e : number ≡ n = cc in ap Plain e
plain false number n is = cc

outside : (inside : Bool) (n : ℕ) → None ≡ cond inside (Some n) None → Outside ≡ cond inside (Plain n) Outside
outside true n is = cc
outside false n is = refl

pub word_at-plain : (image : Contents) (a size number : ℕ) → exact image a size ≡ None → list_any (touches a size) image.relocations ≡ false
    → Some number ≡ cond (in_readable image.segments a size) (Some (load (memory_byte image.bytes image.segments) a size)) None → Plain number ≡ word_at image a size
unfolding word_at
word_at-plain image a size number none untouched is = rw (none, untouched) (plain _ _ _ is)

pub word_at-outside : (image : Contents) (a size : ℕ) → exact image a size ≡ None → list_any (touches a size) image.relocations ≡ false
    → None ≡ cond (in_readable image.segments a size) (Some (load (memory_byte image.bytes image.segments) a size)) None → Outside ≡ word_at image a size
unfolding word_at
word_at-outside image a size none untouched is = rw (none, untouched) (outside _ _ is)

numbered_word : (count : ℕ) (kind : RelKind) → IsNumberedKind count kind → IsNumbered count (word_of_kind kind)
numbered_word count (BasedKind addend) is = tt
numbered_word count (BoundKind number) is = is

found_kind : (found : Option Relocation) (kind : RelKind) → option_map (λ r. r.kind) found ≡ Some kind → (r : Relocation) × (found ≡ Some r) × (r.kind ≡ kind)
found_kind None kind is = cc
found_kind (Some r) kind is = (r, refl, cc)

-- the relocation that stands at an address
pub relocation_at : (xs : List Relocation) (a : ℕ) (kind : RelKind) → kind_at xs a ≡ Some kind → (r : Relocation) × (find (λ s. s.place == a) xs ≡ Some r) × (r.kind ≡ kind)
unfolding kind_at
relocation_at xs a kind is = found_kind (find (λ s. s.place == a) xs) kind is

pub word_of_kind-numbered : (image : Contents) (a : ℕ) (kind : RelKind) → IsImage image → kind_at image.relocations a ≡ Some kind → IsNumbered (length image.imports) (word_of_kind kind)
word_of_kind-numbered image a kind is found =
    let r = relocation_at image.relocations a kind found in
    let below : IsNumberedKind (length image.imports) r.0.kind = find-holds (λ s. IsNumberedKind (length image.imports) s.kind) (λ s. s.place == a) image.relocations r.0 (image-numbered image is) r.1 in
    numbered_word (length image.imports) kind (subst (IsNumberedKind (length image.imports)) r.2 below)

-- no number of a word is past those of the imports
numbered_found : (image : Contents) (a : ℕ) (eight : Bool) (found : Option RelKind) → IsImage image → kind_at image.relocations a ≡ found → IfSome (cond eight found None) (λ kind. IsNumbered (length image.imports) (word_of_kind kind))
numbered_found image a false found is at = tt
numbered_found image a true None is at = tt
numbered_found image a true (Some kind) is at = word_of_kind-numbered image a kind is at

numbered_rest : (count number : ℕ) (touched inside : Bool) → IsNumbered count (cond touched Mixed (cond inside (Plain number) Outside))
numbered_rest count number true inside = tt
numbered_rest count number false true = tt
numbered_rest count number false false = tt

numbered_either : (count : ℕ) (found : Option RelKind) (rest : Word) → IfSome found (λ kind. IsNumbered count (word_of_kind kind)) → IsNumbered count rest → IsNumbered count (option_map_or word_of_kind found rest)
numbered_either count None rest found behind = behind
numbered_either count (Some kind) rest found behind = found

pub word_at-numbered : (image : Contents) → IsImage image → (a size : ℕ) → IsNumbered (length image.imports) (word_at image a size)
unfolding word_at
word_at-numbered image is a size =
    numbered_either (length image.imports) (exact image a size) _ (numbered_found image a (size == 8) (kind_at image.relocations a) is refl)
    (numbered_rest (length image.imports) _ (list_any (touches a size) image.relocations) (in_readable image.segments a size))
