use Rattle.std.proofs.Common.{◌≡◌, ℕ, ◌++◌, ◌==◌, not, List, map, sym, subst}
use Rattle.std.specs.List.{filter, list_any}
use Rattle.std.proofs.lemmas.List.{map-append}
use Rattle.vw_dynamic.specs.Directory.{relocation_offsets}
use Rattle.vw_dynamic.specs.Relas.{rela_at, relas_of}
use Rattle.vw_dynamic.specs.declared.relas.RelaEntry.{RelaEntry}
use Rattle.vw_dynamic.proofs.relas.read_relas.Goals as goal

joined : (bytes first second : List ℕ) (relas whole : List RelaEntry) → relas ≡ map (rela_at bytes) first → whole ≡ relas ++ map (rela_at bytes) (filter (λ at. not (list_any (λ other. other == at) first)) second) → whole ≡ map (rela_at bytes) (first ++ filter (λ at. not (list_any (λ other. other == at) first)) second)
joined bytes first second relas whole is rest = rw (map-append, ← is) rest

at_places : (bytes first second first' second' : List ℕ) (whole : List RelaEntry) → first ≡ first' → second ≡ second' → whole ≡ map (rela_at bytes) (first' ++ filter (λ at. not (list_any (λ other. other == at) first')) second') → whole ≡ map (rela_at bytes) (first ++ filter (λ at. not (list_any (λ other. other == at) first)) second)
at_places bytes first second first' second' whole e f is =
    let P : List ℕ → Type 0 = λ s. whole ≡ map (rela_at bytes) (first' ++ filter (λ at. not (list_any (λ other. other == at) first')) s) in
    let Q : List ℕ → Type 0 = λ r. whole ≡ map (rela_at bytes) (r ++ filter (λ at. not (list_any (λ other. other == at) r)) second) in
    subst Q (sym e) (subst P (sym f) is)

pub returns : goal.returns
unfolding relas_of relocation_offsets
returns c = at_places _ _ _ _ _ _ c.table_at-first.ensures.items c.table_at-second.ensures.items (joined _ _ _ _ _ c.in_ok-relas.ensures c.in_ok-append_others.ensures)
