-- A function in its module: all that its edges, its checks and its tables depend on.
use Rattle.std.specs.Prelude.{◌≡◌, ℕ, ◌+◌, List, length, map, Contains}
use Rattle.vw_image.specs.Image.{Contents}
use Rattle.vw_layout.specs.declared.functions.Function.{Function}
use Rattle.vw_layout.specs.declared.layout.Module.{Module}
use Rattle.vw_layout.specs.declared.tables.TableInfo.{TableInfo}
use Rattle.vw_domain.specs.Sites.{Site as EquationSite}
use Rattle.vw_state.specs.declared.site.Site.{Site}
use Rattle.vw_state.specs.Bounds.{bounds_of}
use Rattle.vw_state.specs.Code.{code_at}
use Rattle.vw_state.specs.Sites.{site_of}

-- A function in its module. Addresses count from the load address.
pub record Context : Type 0 where
  -- the image of the module's file
  pub image : Contents
  -- the address and the number of entries of each table, in their order
  pub tables : List (ℕ × ℕ)
  -- the declared functions, by ascending address
  pub functions : List Function
  -- the address of the function's first byte
  pub entry : ℕ
  -- its size in bytes
  pub size : ℕ
  -- the bounds that values of its states may have
  pub bounds : List ℕ

-- the bytes of the function
abbrev pub code_of : Context → List ℕ
code_of f = code_at f.image f.entry f.size

-- the site of an instruction of the function with the point `next` behind it
abbrev pub site_at : Context → ℕ → EquationSite
site_at f next = site_of f.image f.tables f.bounds (f.entry + next)

-- a table by its address and its number of entries
abbrev pub extent_of : TableInfo → ℕ × ℕ
extent_of t = (t.address, length t.entries)

-- the number of entries of each table
abbrev pub lengths_of : List TableInfo → List ℕ
lengths_of tables = map (λ t. length t.entries) tables

-- a declared function of a module
abbrev pub context_of : Module → Function → Context
context_of m f =
    record {
      image = m.image;
      tables = map extent_of m.tables;
      functions = m.functions;
      entry = f.entry;
      size = f.size;
      bounds = bounds_of (code_at m.image f.entry f.size) (lengths_of m.tables);
    }

-- what the equations read at a site of the program, for an instruction with the point `next` behind it
abbrev pub equation_site : Site → ℕ → EquationSite
equation_site site next = site_of site.image.now site.tables.now site.bounds.now (site.entry + next)

-- A site of the program is that of the function: it has the same image, tables, entry, size and bounds.
pub record IsSite (f : Context) (site : Site) : Type 0 where
  pub image : f.image ≡ site.image.now
  pub tables : f.tables ≡ site.tables.now
  pub entry : f.entry ≡ site.entry
  pub size : f.size ≡ site.size
  pub bounds : f.bounds ≡ site.bounds.now

-- the site is that of a declared function of the module
pub record IsSiteOf (m : Module) (site : Site) : Type 0 where
  pub function : Function
  pub declared : Contains m.functions function
  pub is : IsSite (context_of m function) site
