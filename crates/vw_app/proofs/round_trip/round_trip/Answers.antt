use Rattle.std.proofs.Common.{take}
use Rattle.vw_app.proofs.RoundTrips.{decoded_back, goes_back, never_none, made_of}
use Rattle.vw_app.proofs.round_trip.round_trip.Goals as goal

pub returns-clause-back : goal.returns-clause-back
returns-clause-back c =
    let front = take c.in-Ok.spelled.len c.in-Ok.spelled.bytes in
    let made = made_of c.new-bytes.result c.push.new.self c.push-2.new.self c.as_slice.result.now front c.args.behind.now c.new-bytes.ensures c.in_ok-push.ensures.ok c.in_ok-push-2.ensures.ok c.as_slice.ensures in
    goes_back front c.args.insn.now c.decode.result c.in-Ok.ensures.first (decoded_back front c.args.behind.now c.as_slice.result.now c.args.insn.now c.decode.result made c.in-Ok.ensures.spelled c.decode.ensures.only)

pub returns-clause-none : goal.returns-clause-none
returns-clause-none c none =
    let front = take c.in-Ok.spelled.len c.in-Ok.spelled.bytes in
    let made = made_of c.new-bytes.result c.push.new.self c.push-2.new.self c.as_slice.result.now front c.args.behind.now c.new-bytes.ensures c.in_ok-push.ensures.ok c.in_ok-push-2.ensures.ok c.as_slice.ensures in
    never_none front c.args.insn.now c.decode.result (decoded_back front c.args.behind.now c.as_slice.result.now c.args.insn.now c.decode.result made c.in-Ok.ensures.spelled c.decode.ensures.only) none
