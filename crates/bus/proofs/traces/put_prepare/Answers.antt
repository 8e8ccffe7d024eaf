use Rattle.std.proofs.Common.{sym, ◌∙◌, [], arith}
use Rattle.commands.specs.SendingLaws.{prepare_sent}
use Rattle.bus.specs.TurnLaws.{prepare_nobody, prepare_all, prepare_length}
use Rattle.bus.proofs.traces.put_prepare.Goals as goal

pub returns-then-count-eq0 : goal.returns-then-count-eq0
returns-then-count-eq0 c = (omega (arith, c.put_front.ensures.0), c.put_front.ensures.1 ∙ sym (prepare_nobody c.args.records.now (sym c.count.ensures ∙ c.if-count-eq0.true)))

pub put_whole-requires : goal.put_whole-requires
put_whole-requires c = λ r after w. prepare_sent [] c.args.out.now r after w (omega (arith, prepare_length, c.requires))

pub returns : goal.returns
returns c = (omega (arith, c.put_whole.ensures.0, prepare_length), c.put_whole.ensures.1 ∙ sym (prepare_all c.args.records.now (λ e. c.if-count-eq0.false (c.count.ensures ∙ e))))
