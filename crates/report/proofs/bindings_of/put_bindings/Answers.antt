use Rattle.std.proofs.Common.{sym, ◌∙◌, arith}
use Rattle.report.specs.BufferEndLaws.{too_short, long_enough}
use Rattle.report.proofs.bindings_of.put_bindings.Goals as goal

pub returns-then-out-lt-BUFFER : goal.returns-then-out-lt-BUFFER
returns-then-out-lt-BUFFER c = sym (too_short c.args.slots c.args.out.now (omega arith))

pub returns : goal.returns
returns c = c.put_rows.ensures ∙ sym (long_enough c.args.slots c.args.out.now (omega arith))
