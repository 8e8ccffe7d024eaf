use Rattle.std.proofs.Common.{sym, arith, ◌*◌}
use Rattle.targets.specs.FieldLaws.{udid_past_end}
use Rattle.targets.proofs.fields.Record.udid.Goals as goal

pub returns-then-self : goal.returns-then-self
returns-then-self c = sym (udid_past_end c.args.self.records.now (c.args.self.i * 18) (omega arith))
