-- What the crate of abstract states says of its equations.
use Rattle.std.specs.Prelude.{◌≡◌, ℕ, ℤ, pos, ◌<ℤ◌, true}
use Rattle.vw_domain.specs.Abstract.{Abstract, IsBelow}
use Rattle.vw_domain.specs.EquationLaws.{StatementsStand, AccessesArePermitted, StatementsKeepForms, ListsKeepForms, EndsStand, EndsKeepForms, BranchesStand, CallsStand, CallsKeepForms, ProbesStand}
use Rattle.vw_domain.specs.FormRanges.{IsForm}
use Rattle.vw_domain.specs.Sites.{Site, IsSite}
use Rattle.vw_domain.specs.Soundness.{IsPlaced}
use Rattle.vw_domain.specs.Stands.{Machine, StandsWith, WritesItsFrame}

-- The bytes that the form has as written are in the frame.
abbrev pub WritesInFrame : Abstract → Type 0
WritesInFrame s = (o : ℤ) → s.written o ≡ true → o <ℤ pos 0

-- a form below one in its ranges stands for less
abbrev pub LowersStandForLess : Type 0
LowersStandForLess =
    (site : Site) (m : Machine) (next : ℕ) (s t : Abstract) (compared : ℕ)
    → IsPlaced m site next → IsSite site → WritesInFrame s → IsForm site.bounds t → WritesItsFrame m
    → IsBelow s t → StandsWith s m compared → StandsWith t m compared

pub record DomainLaws : Type 0 where
  pub stand : StatementsStand
  pub accesses : AccessesArePermitted
  pub forms : StatementsKeepForms
  pub lists : ListsKeepForms
  pub ends : EndsStand
  pub end_forms : EndsKeepForms
  pub lower : LowersStandForLess
  pub branches : BranchesStand
  pub calls : CallsStand
  pub call_forms : CallsKeepForms
  pub probes : ProbesStand
