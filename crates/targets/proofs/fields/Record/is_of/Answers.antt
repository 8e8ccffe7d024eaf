use Rattle.std.proofs.Common.{◌*◌, sym, ap, ◌∙◌, arith}
use Rattle.udid.specs.Udids.{same_udid}
use Rattle.udid.specs.declared.Udid.{Udid}
use Rattle.targets.specs.FieldLaws.{udid_past_end}
use Rattle.targets.proofs.fields.Record.is_of.Goals as goal

pub returns-then-self : goal.returns-then-self
returns-then-self c = c.is_same.ensures ∙ ap (λ (v : Udid). same_udid v c.args.u) (sym (udid_past_end c.args.self.records.now (c.args.self.i * 18) (omega arith)))
