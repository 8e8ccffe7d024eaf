use Rattle.std.proofs.Common.{◌*◌, sym, ap, arith}
use Rattle.udid.specs.declared.Udid.{Udid}
use Rattle.targets.specs.FieldLaws.{udid_past_end}
use Rattle.targets.proofs.fields.Record.high.Goals as goal

pub returns-then-self : goal.returns-then-self
returns-then-self c = ap (λ (u : Udid). u.high) (sym (udid_past_end c.args.self.records.now (c.args.self.i * 18) (omega arith)))
