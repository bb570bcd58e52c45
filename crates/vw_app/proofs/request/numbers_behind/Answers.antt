use Rattle.std.proofs.Common.{◌≡◌, ◌≤◌, length, sym, ◌∙◌, arith}
use Rattle.std.specs.Prelude.{string_bytes}
use Rattle.std.proofs.lemmas.Slice.Eq.{slice_eq-Decides}
use Rattle.std.proofs.lemmas.Bool.Decides.{Decides-eqb, not_from_Decides}
use Rattle.vw_app.proofs.Requests.{numbers_asked, another_word}
use Rattle.vw_app.proofs.request.numbers_behind.Goals as goal

pub returns-in-len3-clause-asks : goal.returns-in-len3-clause-asks
returns-in-len3-clause-asks c =
    let same : string_bytes c.command-item.result ≡ c.args.first.now =
    sym c.as_str.ensures.value ∙ (slice_eq-Decides Decides-eqb c.as_str.result.now c.args.first.now c.eq.result c.eq.ensures).0 c.if-eq.true in
    let three : length c.args.words.now ≡ 3 = omega (arith, c.in-len3.len_at_least, c.in-len3.len_below) in
    numbers_asked string_bytes c.args.words.now c.args.first.now c.command-item.result c.functions-item.result c.number-item.result c.numbers_of.result three
    c.command-item.is c.functions-item.is c.number-item.is same c.numbers_of.ensures.are

pub returns-in_default-2-clause-none : goal.returns-in_default-2-clause-none
returns-in_default-2-clause-none c functions number asks =
    let some : 1 ≤ length c.args.words.now = omega (arith, c.in-len3.len_at_least) in
    another_word string_bytes c.args.words.now c.args.first.now c.command-item.result functions number c.command-item.is some
    (λ same. not_from_Decides c.eq.result (slice_eq-Decides Decides-eqb c.as_str.result.now c.args.first.now c.eq.result c.eq.ensures) c.if-eq.false (c.as_str.ensures.value ∙ same)) asks
