use Rattle.std.proofs.Common.{rules, arith, ◌≡◌, ◌<◌, List, length, get_or, subst, ◌∙◌}
use Rattle.vw_names.specs.declared.spot.Spot.{Spot}
use Rattle.vw_names.specs.declared.spot.Spot.TheVariants.{Reg}
use Rattle.vw_names.specs.Division.{Follows}
use Rattle.vw_names.specs.Spot.{number}
use Rattle.vw_domain.proofs.JoinedClasses.{joins_first, joins_step}
use Rattle.vw_domain.proofs.state_of.join_class.Goals as goal

pub loop-i-init : goal.loop-i-init
loop-i-init c = record {
  joins = joins_first c.args.names.now c.args.at c.args.classes.now c.requires;
  division = λ division. division;
}

pub loop-i-preserved : goal.loop-i-preserved
loop-i-preserved c =
    let names : List (List Spot) = c.args.names.now in
    let g : List Spot = c.index-names-at.result in
    let read : List Spot = c.as_slice-class.result.now in
    let same : read ≡ get_or names c.args.at g = c.as_slice-class.ensures ∙ c.index-names-at.is in
    let inside_read : c.loop-i.i < length c.as_slice-class.result.now = search rules in
    let inside : c.loop-i.i < length (get_or names c.args.at g) = subst (λ (xs : List Spot). c.loop-i.i < length xs) same inside_read in
    let follows : Follows (number (get_or (get_or names c.args.at g) c.loop-i.i (Reg 0))) (number (get_or (get_or names c.args.at g) 0 (Reg 0))) c.loop-i.classes c.follow.new.self =
    subst (λ (xs : List Spot). Follows (number (get_or xs c.loop-i.i (Reg 0))) (number (get_or xs 0 (Reg 0))) c.loop-i.classes c.follow.new.self) same c.in_ok-follow.ensures.ok in
    record {
      joins = λ before. joins_step names c.args.at c.loop-i.i c.loop-i.classes c.follow.new.self (Reg 0) g c.requires (omega arith) inside follows (c.loop-i.invariant.joins before);
      division = λ division. c.in_ok-follow.ensures.division;
    }
