use Rattle.std.proofs.Common.{sym, ◌∙◌}
use Rattle.digits.specs.NumberLaws.{halves_length, no_high_half, no_low_half, both_halves}
use Rattle.digits.proofs.number.read_halves.Goals as goal

pub returns-then-s-ne32 : goal.returns-then-s-ne32
returns-then-s-ne32 c = sym (halves_length c.args.s.now c.if-s-ne32.true)

pub returns-in_err-hex_value : goal.returns-in_err-hex_value
returns-in_err-hex_value c = c.from_residual.ensures ∙ no_high_half c.args.s.now c.if-s-ne32.false (c.in_err-hex_value.ensures.said)

pub returns-in_err-hex_value-2 : goal.returns-in_err-hex_value-2
returns-in_err-hex_value-2 c =
    c.from_residual-in_err-hex_value-2.ensures
    ∙ no_low_half c.args.s.now c.if-s-ne32.false _ (c.in_ok-hex_value.ensures.said) (c.in_err-hex_value-2.ensures.said)

pub returns : goal.returns
returns c = both_halves c.args.s.now c.if-s-ne32.false _ _ (c.in_ok-hex_value.ensures.said) (c.in_ok-hex_value-2.ensures.said)
