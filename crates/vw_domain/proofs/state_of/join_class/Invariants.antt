use Rattle.vw_names.specs.Division.{IsDivision}
use Rattle.vw_domain.specs.PartRanges.{Joins}
use Rattle.vw_domain.proofs.state_of.join_class.Given as goal

abbrev pub invariant-loop-i : goal.invariant-loop-i
invariant-loop-i l = record {
  joins : Joins l.names l.at 0 l.initial.classes → Joins l.names l.at l.i l.classes;
  division : IsDivision l.initial.classes → IsDivision l.classes;
}
