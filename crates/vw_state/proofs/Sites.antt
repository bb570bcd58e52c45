-- The bytes of a site.
use Rattle.std.proofs.Common.{◌≡◌, ℕ, ◌≤◌, ◌+◌, List, [], length, take, drop, Bor, Option, Some, None, Result, Ok, Err, OnOk, OnErr, unwrap_or, option_map, refl, sym, ◌∙◌, ap, arith}
use Rattle.std.specs.Prelude.{option_copied, ℤ, pos, ◌+ℤ◌, true, false}
use Rattle.std.specs.Option.{option_map_or}
use Rattle.std.proofs.lemmas.List.{length-take}
use Rattle.vw_bits.specs.Places.{file_offset}
use Rattle.vw_image.specs.Image.{Contents}
use Rattle.vw_image.specs.Words.{bytes_at}
use Rattle.vw_layout.specs.Calls.{is_probe_stub}
use Rattle.vw_state.specs.declared.site.Site.{Site}
use Rattle.vw_state.specs.Code.{code_at}
use Rattle.vw_domain.specs.Abstract.{Abstract}
use Rattle.vw_domain.specs.Calls.{after_call, after_probe}
use Rattle.vw_state.specs.Sites.{site_of}
use Rattle.vw_state.specs.Post.{address_in, calls_probe, after_direct}
use Rattle.vw_state.specs.Context.{Context, code_of, site_at, equation_site, IsSite}

pub copied_or : (found : Option (Bor (List ℕ))) (other : Bor (List ℕ)) → (unwrap_or found other).now ≡ unwrap_or (option_copied found) other.now
copied_or None other = refl
copied_or (Some b) other = refl

lent_size : (bytes : List ℕ) (n : ℕ) (offset : Option ℕ) → length (unwrap_or (option_map (λ at. take n (drop at bytes)) offset) []) ≤ n
lent_size bytes n None = omega arith
lent_size bytes n (Some at) = omega (arith, length-take n (drop at bytes))

pub code_size : (image : Contents) (entry size : ℕ) → length (code_at image entry size) ≤ size
unfolding code_at bytes_at
code_size image entry size = lent_size image.bytes size (file_offset image.segments entry size)

pub on_ok : {T E P : Type 0} (r : Result T E) → P → OnOk r P
on_ok (Ok x) p = p
on_ok (Err e) p = tt

pub on_err : {T E P : Type 0} (r : Result T E) → P → OnErr r P
on_err (Ok x) p = tt
on_err (Err e) p = p

-- the code of a site of a function
pub site_code : (f : Context) (site : Site) → IsSite f site → code_at site.image.now site.entry site.size ≡ code_of f
site_code f site is =
    ap (λ (image : Contents). code_at image site.entry site.size) (sym is.image)
    ∙ (ap (λ (entry : ℕ). code_at f.image entry site.size) (sym is.entry) ∙ ap (λ (size : ℕ). code_at f.image f.entry size) (sym is.size))

-- the equations read the same at a site of the function
pub same_site : (f : Context) (site : Site) (next : ℕ) → IsSite f site → equation_site site next ≡ site_at f next
same_site f site next is =
    ap (λ (image : Contents). site_of image site.tables.now site.bounds.now (site.entry + next)) (sym is.image)
    ∙ (ap (λ (tables : List (ℕ × ℕ)). site_of f.image tables site.bounds.now (site.entry + next)) (sym is.tables)
    ∙ (ap (λ (bounds : List ℕ). site_of f.image f.tables bounds (site.entry + next)) (sym is.bounds)
    ∙ ap (λ (entry : ℕ). site_of f.image f.tables f.bounds (entry + next)) (sym is.entry)))

-- a function at the site
abbrev pub function_of : Site → Context
function_of site = record {
  image = site.image.now;
  tables = site.tables.now;
  functions = [];
  entry = site.entry;
  size = site.size;
  bounds = site.bounds.now;
}

pub is_site_of : (site : Site) → IsSite (function_of site) site
is_site_of site = record { image = refl; tables = refl; entry = refl; size = refl; bounds = refl }

-- the same calls go to the probe
pub same_calls : (f : Context) (site : Site) (next : ℕ) (rel : ℤ) → IsSite f site
    → calls_probe f next rel ≡ option_map_or (is_probe_stub site.image.now) (address_in (pos (site.entry + next) +ℤ rel)) false
same_calls f site next rel is =
    ap (λ (image : Contents). option_map_or (is_probe_stub image) (address_in (pos (f.entry + next) +ℤ rel)) false) is.image
    ∙ ap (λ (entry : ℕ). option_map_or (is_probe_stub site.image.now) (address_in (pos (entry + next) +ℤ rel)) false) is.entry

pub by_probe : (f : Context) (next : ℕ) (rel : ℤ) (st : Abstract) → calls_probe f next rel ≡ true → after_direct f next rel st ≡ after_probe st
by_probe f next rel st e = rw e refl

pub by_function : (f : Context) (next : ℕ) (rel : ℤ) (st : Abstract) → calls_probe f next rel ≡ false → after_direct f next rel st ≡ after_call st
by_function f next rel st e = rw e refl
