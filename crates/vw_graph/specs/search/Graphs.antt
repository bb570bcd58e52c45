-- What the equations of a round over a function hold at hand.
use Rattle.std.specs.Prelude.{◌≡◌, ℕ, ◌+◌, ◌≤◌, List, length}
use Rattle.vw_rows.specs.Numbers.{IsBytes}
use Rattle.vw_state.specs.declared.site.Site.{Site}
use Rattle.vw_state.specs.Code.{code_at}
use Rattle.vw_state.specs.Context.{Context, IsSite}

-- the function's site, its code and the number of its points
pub record IsGraph (f : Context) (site : Site) (code : List ℕ) (points : ℕ) : Type 0 where
  pub is_site : IsSite f site
  pub few : length site.tables.now ≤ 64
  pub code_is : code ≡ code_at site.image.now site.entry site.size
  pub bytes : IsBytes code
  pub short : length code ≤ f.size
  pub size : points ≡ f.size + 1
