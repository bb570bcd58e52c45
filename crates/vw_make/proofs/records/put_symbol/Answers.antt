use Rattle.vw_make.specs.Records.{symbol}
use Rattle.vw_make.proofs.Pieces.{joined_five}
use Rattle.vw_make.proofs.records.put_symbol.Goals as goal

pub returns : goal.returns
unfolding symbol
returns c =
    joined_five c.args.out.now.items c.put_u32.new.out.items c.put.new.out.items c.put_u16.new.out.items c.put_u64.new.out.items c.put_u64-2.new.out.items _ _ _ _ _
    c.in_ok-put_u32.ensures c.in_ok-put.ensures c.in_ok-put_u16.ensures c.in_ok-put_u64.ensures c.in_ok-put_u64-2.ensures
