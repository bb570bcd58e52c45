use Rattle.std.proofs.Common.{◌≡◌, ◌-◌, ◌<◌, arith, true}
use Rattle.std.specs.Prelude.{nat_lt}
use Rattle.std.proofs.lemmas.Bool.{false≢true}
use Rattle.std.proofs.lemmas.Bool.Decides.{nat_tests}
use Rattle.vw_machine.proofs.FunctionLemmas.{Ascending, one_function}
use Rattle.vw_machine.proofs.judging.stays_inside.Goals as goal

pub returns-then-top-to : goal.returns-then-top-to
returns-then-top-to c =
    let m = c.args.module.now in
    let f = c.in-Some.function.now in
    let some = c.in-Some.ensures.some in
    let at = some.1 in
    let ascending : Ascending m.functions = rw c.requires.functions (λ j k g h. c.functions_ascend.ensures.ascend m.image.bytes j k g h c.requires.rules) in (
      (λ (t : nat_lt (c.args.to - c.args.top.now.entry) f.size ≡ true). let less : c.args.to - c.args.top.now.entry < f.size = grind (arith, nat_tests) in (f, some, (omega arith, omega arith))),
      (λ inside.
          let e = inside.1.1 in
          let high = inside.2.1 in
          let same = one_function m.functions ascending inside.0 f inside.1.0 some.0 (omega arith) in
          let less : c.args.to - c.args.top.now.entry < inside.0.size = omega arith in
          let test : nat_lt (c.args.to - c.args.top.now.entry) inside.0.size ≡ true = grind (arith, nat_tests) in
          rw same at test),
    )

pub returns-in-None : goal.returns-in-None
returns-in-None c = ((λ t. absurd (false≢true t)), (λ inside. absurd (c.in-None.ensures.none inside.0 inside.1.0 inside.1.1)))
