-- How many relocations a file has, whose tables are in its segments.
use Rattle.std.proofs.Common.{◌≡◌, ℕ, ◌+◌, ◌*◌, ◌≤◌, ◌==◌, [], ◌∷◌, Bool, true, false, not, cond, List, length, Option, Some, None, unwrap_or, refl, arith, length-append}
use Rattle.std.specs.List.{filter, list_any}
use Rattle.std.proofs.lemmas.List.{length-map}
use Rattle.std.proofs.lemmas.List.FromFn.{length-map-range_with_len}
use Rattle.vw_bits.specs.Headers.{table}
use Rattle.vw_bits.specs.Bounds.{AreBounded}
use Rattle.vw_bits.specs.declared.records.Segment.{Segment}
use Rattle.vw_bits.proofs.BoundLemmas.{file_offset-inside}
use Rattle.vw_dynamic.specs.Directory.{table_offset, items_at, relocation_offsets}
use Rattle.vw_dynamic.specs.Relas.{relas_of}
use Rattle.vw_dynamic.specs.declared.directory.Directory.{Directory}

pub table_offset-inside : (len : ℕ) (segments : List Segment) (address size : Option ℕ) (o : ℕ) → AreBounded len segments → table_offset segments address size ≡ Some o → o + unwrap_or size 0 ≤ len
table_offset-inside len segments None size o bounded at = cc
table_offset-inside len segments (Some address) None o bounded at = cc
table_offset-inside len segments (Some address) (Some size) o bounded at = file_offset-inside len segments address size o bounded at

length-table : (at size n : ℕ) → length (table at size n) ≡ n
unfolding table
length-table at size n = length-map-range_with_len (λ k. at + size * k) 0 n

items-few : (len : ℕ) (offset size : Option ℕ) → ((o : ℕ) → offset ≡ Some o → o + unwrap_or size 0 ≤ len) → 24 * length (items_at offset size) ≤ len
items-few len None size inside = omega arith
items-few len (Some o) size inside =
    let end : o + unwrap_or size 0 ≤ len = inside o refl in
    rw length-table (omega arith)

few_step : {X : Type 0} (x : X) (xs ys : List X) (passes : Bool) → length ys ≤ length xs → length (cond passes (x ∷ ys) ys) ≤ length (x ∷ xs)
few_step x xs ys true few = omega arith
few_step x xs ys false few = omega arith

filter-few : {X : Type 0} (p : X → Bool) (xs : List X) → length (filter p xs) ≤ length xs
filter-few p [] = omega arith
filter-few p (x ∷ xs) = few_step x xs (filter p xs) (p x) (filter-few p xs)

pub relas-few : (bytes : List ℕ) (segments : List Segment) (d : Directory) → AreBounded (length bytes) segments → 12 * length (relas_of bytes segments d) ≤ length bytes
unfolding relas_of relocation_offsets
relas-few bytes segments d all =
    let len = length bytes in
    let first = items_at (table_offset segments d.rela d.relasz) d.relasz in
    let second = items_at (table_offset segments d.jmprel d.pltrelsz) d.pltrelsz in
    let a : 24 * length first ≤ len = items-few len _ d.relasz (λ o at. table_offset-inside len segments d.rela d.relasz o all at) in
    let b : 24 * length second ≤ len = items-few len _ d.pltrelsz (λ o at. table_offset-inside len segments d.jmprel d.pltrelsz o all at) in
    let f = filter-few (λ at. not (list_any (λ other. other == at) first)) second in
    rw (length-map, length-append) (omega (arith, a, b, f))
