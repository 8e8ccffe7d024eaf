use Rattle.encode.proofs.PhaseLaws.{count_asks, data_asks, part_put}
use Rattle.encode.proofs.bytes.put_part.Goals as goal

pub put_byte_if-n-requires : goal.put_byte_if-n-requires
put_byte_if-n-requires c =
    count_asks c.args.out.now c.args.s.now c.args.at c.args.a _ _ c.is_counted.ensures c.count_of.ensures c.requires

pub put_acked-requires : goal.put_acked-requires
put_acked-requires c =
    data_asks c.args.out.now c.args.s.now c.args.at c.args.a _ _ c.is_counted.ensures c.count_of.ensures c.requires _ _ c.put_byte_if-n.ensures.0 c.put_byte_if-n.ensures.1 c.put_byte_if-n.auto.out

pub returns : goal.returns
returns c =
    part_put c.args.out.now c.args.s.now c.args.at c.args.a _ _ c.is_counted.ensures c.count_of.ensures c.requires _ _ c.put_byte_if-n.ensures.0 c.put_byte_if-n.ensures.1 c.put_byte_if-n.auto.out _ _ c.put_acked.ensures.0 c.put_acked.ensures.1
