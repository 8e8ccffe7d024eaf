use Rattle.std.proofs.Common.{sym, ap, ℕ, ◌∙◌, ◌+◌, ◌-◌, length, arith}
use Rattle.requests.specs.Lists.{numbers_end}
use Rattle.requests.specs.ListLaws.{end_on, end_over, end_full}
use Rattle.requests.proofs.list.numbers_end.Goals as goal

pub loop-init : goal.loop-init
loop-init c = ap (λ (k : ℕ). numbers_end c.args.limit k c.args.line.now c.args.from) (omega arith)

pub loop-preserved : goal.loop-preserved
loop-preserved c =
    c.loop.invariant
    ∙ end_on c.args.limit (length c.args.line.now - c.loop.counter) (length c.args.line.now - (c.loop.counter + 1)) c.args.line.now c.loop.at _ (omega arith) c.in-Ok.ensures.is

pub returns-in-Err : goal.returns-in-Err
returns-in-Err c =
    sym (c.loop.invariant ∙ end_over c.args.limit (length c.args.line.now - c.loop.counter) (length c.args.line.now - (c.loop.counter + 1)) c.args.line.now c.loop.at _ (omega arith) c.in-Err.ensures.is)

pub returns : goal.returns
returns c = sym (c.loop.invariant ∙ end_full c.args.limit (length c.args.line.now - c.loop.counter) c.args.line.now c.loop.at (omega arith))
