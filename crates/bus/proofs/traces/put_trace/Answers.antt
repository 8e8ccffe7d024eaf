use Rattle.std.proofs.Common.{sym, ap, arith}
use Rattle.targets.specs.Records.{targets_of}
use Rattle.rule.specs.Acknowledge.{sent_part}
use Rattle.rule.specs.AcknowledgeLaws.{nothing_on_bus}
use Rattle.bus.proofs.traces.put_trace.Goals as goal

pub returns-in-Wait : goal.returns-in-Wait
returns-in-Wait c = let s = c.args in (omega arith, sym (nothing_on_bus s.k (targets_of s.records.now) (ap sent_part c.in-Wait.is)))
