use Rattle.std.proofs.Common.{sym, ◌∙◌}
use Rattle.encode.proofs.PecLaws.{read_pec, no_read_pec}
use Rattle.encode.proofs.trace_pec.read_pec.Goals as goal

pub returns-then-not-has_read : goal.returns-then-not-has_read
returns-then-not-has_read c =
    no_read_pec c.args.sh c.args.second.0 c.args.received.now c.args.c (sym c.has_read.ensures ∙ c.if-not-has_read.true)

pub returns : goal.returns
returns c =
    read_pec c.args.sh c.args.second.0 c.args.received.now c.args.c _ _ _ (sym c.has_read.ensures ∙ c.if-not-has_read.false) c.has_write.ensures c.add_byte_if.ensures c.add_part.ensures
