use Rattle.std.proofs.Common.{sym, ◌∙◌}
use Rattle.digits.specs.NumberLaws.{quarter_length, no_quarter, all_quarter}
use Rattle.digits.proofs.number.read_quarter.Goals as goal

pub returns-then-s-ne8 : goal.returns-then-s-ne8
returns-then-s-ne8 c = sym (quarter_length c.args.s.now c.if-s-ne8.true)

pub returns-in_err-hex_value : goal.returns-in_err-hex_value
returns-in_err-hex_value c = c.from_residual.ensures ∙ no_quarter c.args.s.now c.if-s-ne8.false (c.in_err-hex_value.ensures.said)

pub returns : goal.returns
returns c = all_quarter c.args.s.now c.if-s-ne8.false _ (c.in_ok-hex_value.ensures.said)
