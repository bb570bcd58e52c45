use Rattle.vw_names.specs.Division.{IsDivision}
use Rattle.vw_domain.specs.PartRanges.{Joins}
use Rattle.vw_domain.proofs.state_of.joined_classes.Given as goal

abbrev pub invariant-loop-at : goal.invariant-loop-at
invariant-loop-at l = record {
  joins : Joins l.names l.at 0 l.classes;
  division : IsDivision l.classes;
}
