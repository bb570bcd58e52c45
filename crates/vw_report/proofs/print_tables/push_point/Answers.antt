use Rattle.std.proofs.Common.{refl}
use Rattle.std.proofs.lemmas.Result.{on_ok_weaker}
use Rattle.vw_report.proofs.Pieces.{pieces4}
use Rattle.vw_report.proofs.print_tables.push_point.Goals as goal

pub returns : goal.returns
returns c =
    on_ok_weaker c.push-2.result (λ last. record {
      listed = record { at = c.args.point.now.at; parts = c.in_ok-parts.parts };
      is = record { at = refl; parts = c.in_ok-parts.ensures };
      text_is = pieces4 c.args.text.now c.push.new.self c.hex.new.self c.push_state.new.text c.push-2.new.self _ _ _ _ c.in_ok-push.ensures.ok c.in_ok-hex.ensures.ok c.in_ok-push_state.ensures last;
    }) c.push-2.ensures.ok
