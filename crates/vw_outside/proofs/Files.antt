-- Files of a shelf in memory.
use Rattle.std.proofs.Common.{◌≡◌, ℕ, ◌<◌, inl, inr, Bool, cond, List, [], length, get_or, sym, ◌∙◌, ap, refl, arith}
use Rattle.std.specs.Prelude.{Option, Some, None, MatchOption, option_map, unwrap_or, slice_get, find, nat_lt}
use Rattle.std.specs.List.{position_or_len}
use Rattle.std.specs.Str.{bytes_eq}
use Rattle.std.proofs.lemmas.List.Folds.{find_at}
use Rattle.std.proofs.lemmas.Option.{slice_get_cases, slice_get_read}
use Rattle.vw_outside.specs.declared.memory_shelf.ShelfFile.{ShelfFile}
use Rattle.vw_outside.specs.Memory.{file_of, bytes_at}

abbrev pub IsIndexOf : List ShelfFile → List ℕ → Option ℕ → Type 0
IsIndexOf files name place = MatchOption place (file_of files name ≡ None) (λ at. (at < length files) × (file_of files name ≡ Some (bytes_at files at)))

abbrev named : List ℕ → ShelfFile → Bool
named name file = bytes_eq file.name name

placed_some : (files : List ShelfFile) (name : List ℕ) (at : ℕ) (file : ShelfFile) → at < length files → find (named name) files ≡ Some file → slice_get files at ≡ Some file → IsIndexOf files name (Some at)
placed_some files name at file l f s =
    (l, ap (option_map (λ (x : ShelfFile). x.bytes)) f ∙ ap Some (sym (ap (λ (o : Option ShelfFile). unwrap_or (option_map (λ (x : ShelfFile). x.bytes) o) []) s)))

pub index_of_first : (files : List ShelfFile) (name : List ℕ) (place : Option ℕ)
    → place ≡ cond (nat_lt (position_or_len (λ file. bytes_eq file.name name) files) (length files)) (Some (position_or_len (λ file. bytes_eq file.name name) files)) None
    → IsIndexOf files name place
index_of_first files name place e =
    let at : ℕ = position_or_len (named name) files in
    let found : find (named name) files ≡ slice_get files at = find_at (named name) files in
    elim ((slice_get_cases files at).1) [
      | inl (file, l, s, g) ↦ (
          let is : place ≡ Some at = grind arith in
          rw is (placed_some files name at file l (found ∙ s) s)
          )
      | inr (l, s) ↦ (
          let is : place ≡ None = grind arith in
          rw is (ap (option_map (λ (x : ShelfFile). x.bytes)) (found ∙ s))
          )
    ]

pub bytes_of_file : (files : List ShelfFile) (at : ℕ) (file : ShelfFile) → at < length files → file ≡ get_or files at file → bytes_at files at ≡ file.bytes
bytes_of_file files at file l e =
    ap (λ (o : Option ShelfFile). unwrap_or (option_map (λ (x : ShelfFile). x.bytes) o) []) (slice_get_read files (length files) at file refl l e)
