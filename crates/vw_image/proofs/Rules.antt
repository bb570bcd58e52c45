-- What rules 15 to 26 give of the relocations, and all of them of an image.
use Rattle.std.proofs.Common.{◌≡◌, ℕ, ◌+◌, ◌<◌, ◌≤◌, ◌++◌, ◌&&◌, ◌||◌, Bool, true, false, not, cond, List, [], ◌∷◌, length, fold, Option, Some, None, option_map, unwrap_or, refl, sym, ap, subst, arith, length-append}
use Rattle.std.proofs.lemmas.Bool.{false≢true}
use Rattle.std.specs.List.{find, filter_map, cons_option, list_any, position, AllByRecursion}
use Rattle.std.specs.Option.{IsSome, option_map_or}
use Rattle.std.specs.Str.{bytes_eq}
use Rattle.std.proofs.lemmas.List.Folds.{list_any-append}
use Rattle.std.proofs.lemmas.List.Quantifiers.{position-Some}
use Rattle.vw_bits.specs.Headers.{segments_of, dynamics_of}
use Rattle.vw_bits.specs.HeaderRules.{header_fault}
use Rattle.vw_bits.specs.Rules.{lowest_broken}
use Rattle.vw_bits.specs.declared.records.Segment.{Segment}
use Rattle.vw_bits.specs.declared.records.DynHeader.{DynHeader}
use Rattle.vw_bits.proofs.RuleLemmas.{lowest-each}
use Rattle.vw_dynamic.specs.declared.relas.RelaEntry.{RelaEntry}
use Rattle.vw_dynamic.specs.declared.dynamic.Relocation.{Relocation}
use Rattle.vw_dynamic.specs.declared.dynamic.RelKind.{RelKind}
use Rattle.vw_dynamic.specs.declared.dynamic.RelKind.TheVariants.{Based, Bound}
use Rattle.vw_dynamic.specs.Directory.{value_of, directory_of, relocation_offsets}
use Rattle.vw_dynamic.specs.Names.{with_name, distinct}
use Rattle.vw_dynamic.specs.Relas.{relas_of, rela_offset, is_none_kind, is_data, is_misplaced, share_byte, first_overlap}
use Rattle.vw_dynamic.specs.Targets.{import_of, imports_of, kind_of, relocation_of, relocations_of}
use Rattle.vw_dynamic.specs.Dynamic.{section_rules, entry_rules, rela_rules, dynamic_rules, dynamic_fault, entries_of, file_imports, file_relocations}
use Rattle.vw_bits.specs.Bounds.{AreBounded}
use Rattle.vw_image.specs.Bounds.{Pairwise, AreSeparate, AllSeparate, AllApart}
use Rattle.vw_image.specs.Image.{Contents, image_of, IsImage}
use Rattle.vw_bits.proofs.ListLemmas.{or_left, or_right, find_none-All, All-weaker}
use Rattle.vw_image.proofs.Lists.{All-map_filter, Pairwise-map_filter, Pairwise-from_earlier}
use Rattle.vw_bits.proofs.BoundLemmas.{AreBounded-from_rules}
use Rattle.vw_image.proofs.Segments.{AllApart-from_rules}

-- the relocations of a file with these dynamic sections, in their order
abbrev relas_in : List ℕ → List Segment → List DynHeader → List RelaEntry
relas_in bytes segments dynamics = relas_of bytes segments (directory_of (entries_of bytes segments dynamics))

unfound : (found : Option RelaEntry) → rela_offset found ≡ None → found ≡ None
unfound None none = refl
unfound (Some r) none = cc

no_relas : (bytes : List ℕ) (segments : List Segment) → relas_in bytes segments [] ≡ []
unfolding relas_of relocation_offsets directory_of value_of entries_of
no_relas bytes segments = refl

none_misplaced : (bytes : List ℕ) (segments : List Segment) (dynamics : List DynHeader) → lowest_broken 15 (dynamic_rules bytes segments dynamics) ≡ None → find (is_misplaced segments) (relas_in bytes segments dynamics) ≡ None
unfolding dynamic_rules section_rules entry_rules rela_rules entries_of
none_misplaced bytes segments [] holds = rw (no_relas bytes segments) refl
none_misplaced bytes segments (header ∷ more) holds = unfound _ (lowest-each 15 (dynamic_rules bytes segments (header ∷ more)) holds 9)

none_overlaps : (bytes : List ℕ) (segments : List Segment) (dynamics : List DynHeader) → lowest_broken 15 (dynamic_rules bytes segments dynamics) ≡ None → first_overlap (relas_in bytes segments dynamics) ≡ None
unfolding dynamic_rules section_rules entry_rules rela_rules entries_of first_overlap
none_overlaps bytes segments [] holds = rw (no_relas bytes segments) refl
none_overlaps bytes segments (header ∷ more) holds = unfound _ (lowest-each 15 (dynamic_rules bytes segments (header ∷ more)) holds 10)

-- two relocations with types share no byte
abbrev Shareless : RelaEntry → RelaEntry → Type 0
Shareless x y = is_none_kind x ≡ false → is_none_kind y ≡ false → share_byte x.place y.place ≡ false

abbrev overlaps : List RelaEntry × RelaEntry → Bool
overlaps p = not (is_none_kind p.1) && list_any (λ e. not (is_none_kind e) && share_byte e.place p.1.place) p.0

tells : (front back : List RelaEntry) (x y : RelaEntry) → overlaps (front ++ x ∷ back, y) ≡ false → Shareless x y
tells front back x y none x_is y_is =
    let f : RelaEntry → Bool = λ e. not (is_none_kind e) && share_byte e.place y.place in
    let any : list_any f (front ++ x ∷ back) ≡ false = rw y_is at none in
    let split : (list_any f front || (f x || list_any f back)) ≡ false = rw list_any-append at any in
    let here : f x ≡ false = or_left (f x) (list_any f back) (or_right (list_any f front) (f x || list_any f back) split) in
    rw x_is at here

unmapped : (found : Option (List RelaEntry × RelaEntry)) → option_map (λ p. p.1) found ≡ None → found ≡ None
unmapped None none = refl
unmapped (Some p) none = cc

all_shareless : (relas : List RelaEntry) → first_overlap relas ≡ None → Pairwise Shareless relas
unfolding first_overlap
all_shareless relas none = Pairwise-from_earlier overlaps Shareless tells relas (unmapped _ none)

typed : (none : Bool) → not none ≡ true → none ≡ false
typed true is = cc
typed false is = refl

module _ (bytes : List ℕ) (segments : List Segment) (strings : List ℕ) (symtab : Option ℕ) (relas : List RelaEntry) where
  abbrev names : List (List ℕ)
  names = imports_of bytes segments strings symtab relas

  abbrev relocations : List Relocation
  relocations = relocations_of bytes segments strings symtab names relas

  separate : first_overlap relas ≡ None → AllSeparate relocations
  unfolding relocations_of
  separate none =
      Pairwise-map_filter Shareless AreSeparate (relocation_of bytes segments strings symtab names) (λ r. not (is_none_kind r)) relas
      (λ x y apart x_is y_is. apart (typed (is_none_kind x) x_is) (typed (is_none_kind y) y_is))
      (all_shareless relas none)

  placed_one : (x : RelaEntry) → is_misplaced segments x ≡ false → not (is_none_kind x) ≡ true → list_any (λ s. is_data s x.place) segments ≡ true
  placed_one x fits some = at (list_any (λ s. is_data s x.place) segments) (rw some at fits)
    where
      at : (there : Bool) → not there ≡ false → there ≡ true
      at true is = refl
      at false is = cc

  placed : find (is_misplaced segments) relas ≡ None → AllByRecursion (λ r. list_any (λ s. is_data s r.place) segments ≡ true) relocations
  unfolding relocations_of
  placed none =
      All-map_filter (λ x. is_misplaced segments x ≡ false) (λ r. list_any (λ s. is_data s r.place) segments ≡ true) (relocation_of bytes segments strings symtab names) (λ r. not (is_none_kind r)) relas
      placed_one (find_none-All (is_misplaced segments) relas none)

-- the number of an import that a relocation binds is below `count`
abbrev pub IsNumberedKind : ℕ → RelKind → Type 0
IsNumberedKind count (Based addend) = Unit {0}
IsNumberedKind count (Bound number) = number < count

no_fewer : (names more : List (List ℕ)) → length names ≤ length (fold with_name names more)
no_fewer names [] = omega arith
no_fewer names (n ∷ more) = step (list_any (bytes_eq n) names) (no_fewer names more) (no_fewer (names ++ n ∷ []) more)
  where
    step : (there : Bool) → length names ≤ length (fold with_name names more) → length (names ++ n ∷ []) ≤ length (fold with_name (names ++ n ∷ []) more) → length names ≤ length (fold with_name (cond there names (names ++ n ∷ [])) more)
    step true same grown = same
    step false same grown =
        let one : length (names ++ n ∷ []) ≡ length names + 1 = length-append names (n ∷ []) in
        omega arith

some_distinct : (names : List (List ℕ)) → 0 < length names → 0 < length (distinct names)
unfolding distinct
some_distinct [] some = absurd (omega arith)
some_distinct (n ∷ names) some =
    let grown : 1 ≤ length (fold with_name (n ∷ []) names) = no_fewer (n ∷ []) names in
    omega arith

more_kept : (name : Option (List ℕ)) (rest : List (List ℕ)) → length rest ≤ length (cons_option name rest)
more_kept None rest = omega arith
more_kept (Some n) rest = omega arith

kept_one : (name : Option (List ℕ)) (rest : List (List ℕ)) → IsSome name → 0 < length (cons_option name rest)
kept_one None rest some = absurd (false≢true some)
kept_one (Some n) rest some = omega arith

-- where an item has a name, there are names
all_named : (g : RelaEntry → Option (List ℕ)) (xs : List RelaEntry) → AllByRecursion (λ x. IsSome (g x) → 0 < length (filter_map g xs)) xs
all_named g [] = tt
all_named g (x ∷ xs) = (
  kept_one (g x) (filter_map g xs),
  All-weaker (λ y. IsSome (g y) → 0 < length (filter_map g xs)) (λ y. IsSome (g y) → 0 < length (cons_option (g x) (filter_map g xs))) xs
      (λ y named some. let few : 0 < length (filter_map g xs) = named some in let kept = more_kept (g x) (filter_map g xs) in omega arith)
      (all_named g xs),
)

number_below : (name : List ℕ) (names : List (List ℕ)) (at : Option ℕ) → position (bytes_eq name) names ≡ at → 0 < length names → unwrap_or at 0 < length names
number_below name names None is some = some
number_below name names (Some i) is some = (position-Some (bytes_eq name) names i [] is).0

module _ (bytes : List ℕ) (segments : List Segment) (strings : List ℕ) (symtab : Option ℕ) (relas : List RelaEntry) where
  abbrev all_names : List (List ℕ)
  all_names = imports_of bytes segments strings symtab relas

  kind_numbered : (x : RelaEntry) (relative : Bool) (name : Option (List ℕ)) (word : ℕ) → (IsSome name → 0 < length all_names)
      → IsNumberedKind (length all_names) (cond relative (Based x.addend) (option_map_or (λ n. Bound (unwrap_or (position (bytes_eq n) all_names) 0)) name (Based word)))
  kind_numbered x true name word some = tt
  kind_numbered x false None word some = tt
  kind_numbered x false (Some n) word some = number_below n all_names (position (bytes_eq n) all_names) refl (some refl)

  some_names : AllByRecursion (λ x. IsSome (import_of bytes segments strings symtab x) → 0 < length all_names) relas
  unfolding imports_of
  some_names =
      let g = import_of bytes segments strings symtab in
      All-weaker (λ x. IsSome (g x) → 0 < length (filter_map g relas)) (λ x. IsSome (g x) → 0 < length (distinct (filter_map g relas))) relas
      (λ x named some. some_distinct (filter_map g relas) (named some)) (all_named g relas)

  numbered : AllByRecursion (λ r. IsNumberedKind (length all_names) r.kind) (relocations_of bytes segments strings symtab all_names relas)
  unfolding relocations_of kind_of
  numbered =
      All-map_filter (λ x. IsSome (import_of bytes segments strings symtab x) → 0 < length all_names) (λ r. IsNumberedKind (length all_names) r.kind) (relocation_of bytes segments strings symtab all_names) (λ r. not (is_none_kind r)) relas
      (λ x named some. kind_numbered x _ _ _ named) some_names

module _ (image : Contents) (is : IsImage image) where
  segments_are : image.segments ≡ segments_of image.bytes
  unfolding image_of
  segments_are = ap (λ (i : Contents). i.segments) is.whole

  relocations_are : image.relocations ≡ file_relocations image.bytes
  unfolding image_of
  relocations_are = ap (λ (i : Contents). i.relocations) is.whole

  imports_are : image.imports ≡ file_imports image.bytes
  unfolding image_of
  imports_are = ap (λ (i : Contents). i.imports) is.whole

  pub image-bounded : AreBounded (length image.bytes) image.segments
  image-bounded = subst (λ (s : List Segment). AreBounded (length image.bytes) s) (sym segments_are) (AreBounded-from_rules image.bytes is.headers)

  pub image-apart : AllApart image.segments
  image-apart = subst AllApart (sym segments_are) (AllApart-from_rules image.bytes is.headers)

  pub image-separate : AllSeparate image.relocations
  unfolding dynamic_fault file_relocations
  image-separate =
      subst AllSeparate (sym relocations_are)
      (separate image.bytes (segments_of image.bytes) _ _ _ (none_overlaps image.bytes (segments_of image.bytes) (dynamics_of image.bytes) is.dynamic))

  pub image-placed : AllByRecursion (λ r. list_any (λ s. is_data s r.place) image.segments ≡ true) image.relocations
  unfolding dynamic_fault file_relocations
  image-placed =
      let P : List Segment → List Relocation → Type 0 = λ ss rs. AllByRecursion (λ r. list_any (λ s. is_data s r.place) ss ≡ true) rs in
      subst (λ (ss : List Segment). P ss image.relocations) (sym segments_are)
      (subst (P (segments_of image.bytes)) (sym relocations_are)
      (placed image.bytes (segments_of image.bytes) _ _ _ (none_misplaced image.bytes (segments_of image.bytes) (dynamics_of image.bytes) is.dynamic)))

  pub image-numbered : AllByRecursion (λ r. IsNumberedKind (length image.imports) r.kind) image.relocations
  unfolding file_relocations file_imports
  image-numbered =
      let P : List (List ℕ) → List Relocation → Type 0 = λ names rs. AllByRecursion (λ r. IsNumberedKind (length names) r.kind) rs in
      subst (λ (names : List (List ℕ)). P names image.relocations) (sym imports_are)
      (subst (P (file_imports image.bytes)) (sym relocations_are)
      (numbered image.bytes (segments_of image.bytes) _ _ _))

-- the image of a file, from its parts
pub IsImage-from_rules : (bytes : List ℕ) (segments : List Segment) (relocations : List Relocation) (imports : List (List ℕ)) → header_fault bytes ≡ None → dynamic_fault bytes ≡ None
    → segments ≡ segments_of bytes → relocations ≡ file_relocations bytes → imports ≡ file_imports bytes → IsImage (record { bytes = bytes; segments = segments; relocations = relocations; imports = imports })
unfolding image_of
IsImage-from_rules bytes segments relocations imports headers dynamic s r i = record { headers = headers; dynamic = dynamic; whole = rw (s, r, i) refl }
