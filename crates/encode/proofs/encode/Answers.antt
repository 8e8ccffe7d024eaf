use Rattle.encode.specs.Encode.{message}
use Rattle.encode.proofs.EntryLaws.{sane_shape, wrote_at_table}
use Rattle.encode.proofs.encode.Goals as goal

pub encode_by-requires : goal.encode_by-requires
encode_by-requires c = sane_shape c.args.protocol c.args.pec _ c.shape_of-sh.ensures

pub returns : goal.returns
returns c =
    let a = c.args in
    wrote_at_table a.protocol a.pec _ c.shape_of-sh.ensures _ c.is_forbidden-forbidden.ensures (message a.address.0 a.direction a.command a.sent.now a.received.now) a.out.now _ _ c.encode_by.ensures
