use Rattle.std.proofs.Common.{◌≡◌, ◌++◌, [], ◌∷◌, ◌||◌, ℕ, List, Bool, true, false, cond, length, map, Some, None, Vec, Global, refl, sym, ap, ◌∙◌}
use Rattle.std.specs.List.{list_any, position, position_or_len}
use Rattle.std.specs.Str.{bytes_eq}
use Rattle.std.proofs.lemmas.List.{map-append, length-map}
use Rattle.vw_dynamic.specs.Names.{with_name}
use Rattle.vw_dynamic.proofs.ImportLemmas.{any_from_position, none_from_position, position_last, same_bytes}
use Rattle.vw_dynamic.proofs.imports.Imports.add.Goals as goal

abbrev names : List (Vec ℕ Global) → List (List ℕ)
names keys = map (λ v. v.items) keys

any_view : (name : List ℕ) (keys : List (Vec ℕ Global)) → list_any (λ k. bytes_eq name k.items) keys ≡ list_any (bytes_eq name) (names keys)
any_view name [] = refl
any_view name (k ∷ ks) = ap (λ (t : Bool). bytes_eq name k.items || t) (any_view name ks)

place_view : (name : List ℕ) (keys : List (Vec ℕ Global)) → position_or_len (λ k. bytes_eq name k.items) keys ≡ position_or_len (bytes_eq name) (names keys)
place_view name [] = refl
place_view name (k ∷ ks) = rw (place_view name ks) refl

place : (name : List ℕ) (keys : List (Vec ℕ Global)) (old : List (List ℕ)) → names keys ≡ old → position (λ k. bytes_eq name k.items) keys ≡ position (bytes_eq name) old
place name keys old is =
    let same : position (λ k. bytes_eq name k.items) keys ≡ position (bytes_eq name) (names keys) = rw (place_view name keys, length-map) refl in
    same ∙ ap (position (bytes_eq name)) is

present : (name : List ℕ) (old : List (List ℕ)) (number : ℕ) → position (bytes_eq name) old ≡ Some number → old ≡ with_name old name
present name old number at =
    let there : list_any (bytes_eq name) old ≡ true = any_from_position (bytes_eq name) old number at in
    rw there refl

grown : (keys : List (Vec ℕ Global)) (v : Vec ℕ Global) (name : List ℕ) (old : List (List ℕ)) (found : Bool) → names keys ≡ old → v.items ≡ name → found ≡ false → names (cond found keys (keys ++ v ∷ [])) ≡ old ++ name ∷ []
grown keys v name old found is item none = rw (none, map-append, is, item) refl

module _ (keys keys' : List (Vec ℕ Global)) (v : Vec ℕ Global) (name : List ℕ) (old : List (List ℕ)) (is : names keys ≡ old) (item : v.items ≡ name) (at : position (λ k. bytes_eq name k.items) keys ≡ None) (put : keys' ≡ cond (list_any (λ k. bytes_eq v.items k.items) keys) keys (keys ++ v ∷ [])) where
  absent : list_any (bytes_eq name) old ≡ false
  absent = none_from_position (bytes_eq name) old (sym (place name keys old is) ∙ at)

  longer : names keys' ≡ old ++ name ∷ []
  longer =
      let same : list_any (λ k. bytes_eq v.items k.items) keys ≡ false =
      ap (λ (n : List ℕ). list_any (λ k. bytes_eq n k.items) keys) item ∙ any_view name keys ∙ ap (list_any (bytes_eq name)) is ∙ absent in
      ap names put ∙ grown keys v name old _ is item same

  added : names keys' ≡ with_name old name
  added = rw absent longer

  last : position (bytes_eq name) (names keys') ≡ Some (length keys)
  last =
      let count : length old ≡ length keys = rw (← is, length-map) refl in
      ap (position (bytes_eq name)) longer ∙ position_last (bytes_eq name) old name absent (same_bytes name) ∙ ap Some count

pub returns-in-Some-clause-names : goal.returns-in-Some-clause-names
returns-in-Some-clause-names c =
    present c.args.name.now c.args.self.now c.in-Some.number (sym (place c.args.name.now c.self.inside.names.keys c.args.self.now c.self.view_is) ∙ sym c.in-Some.ensures.index)

pub returns-in-Some-clause-number : goal.returns-in-Some-clause-number
returns-in-Some-clause-number c = sym (place c.args.name.now c.self.inside.names.keys c.args.self.now c.self.view_is) ∙ sym c.in-Some.ensures.index

pub returns-clause-names : goal.returns-clause-names
returns-clause-names c =
    added c.self.inside.names.keys c.insert.new.self.keys c.in_ok-from_slice.field-0 c.args.name.now c.args.self.now c.self.view_is c.in_ok-from_slice.ensures.items (sym c.in_default.ensures.index) c.in_ok-insert.ensures.keys

pub returns-clause-number : goal.returns-clause-number
returns-clause-number c =
    last c.self.inside.names.keys c.insert.new.self.keys c.in_ok-from_slice.field-0 c.args.name.now c.args.self.now c.self.view_is c.in_ok-from_slice.ensures.items (sym c.in_default.ensures.index) c.in_ok-insert.ensures.keys ∙ ap Some (sym c.len-number.ensures.len)
