use Rattle.vw_make.specs.Records.{program_header}
use Rattle.vw_make.proofs.Pieces.{joined_eight}
use Rattle.vw_make.proofs.records.put_program_header.Goals as goal

pub returns : goal.returns
unfolding program_header
returns c =
    joined_eight c.args.out.now.items c.put_u32.new.out.items c.put_u32-2.new.out.items c.put_u64.new.out.items c.put_u64-2.new.out.items c.put_u64-3.new.out.items c.put_u64-4.new.out.items c.put_u64-5.new.out.items c.put_u64-6.new.out.items _ _ _ _ _ _ _ _
    c.in_ok-put_u32.ensures c.in_ok-put_u32-2.ensures c.in_ok-put_u64.ensures c.in_ok-put_u64-2.ensures c.in_ok-put_u64-3.ensures c.in_ok-put_u64-4.ensures c.in_ok-put_u64-5.ensures c.in_ok-put_u64-6.ensures
