use Rattle.decode.specs.EntryLaws.{sane_shape, outcome_at_table}
use Rattle.decode.proofs.decode.Goals as goal

pub decode_into-requires : goal.decode_into-requires
decode_into-requires c = sane_shape c.args.protocol c.args.pec _ c.shape_of-sh.ensures

pub returns : goal.returns
returns c =
    let a = c.args in
    outcome_at_table a.protocol a.pec _ c.shape_of-sh.ensures _ c.is_forbidden-forbidden.ensures a.trace.now a.sent.now a.received.now _ _ _ c.decode_into.ensures
