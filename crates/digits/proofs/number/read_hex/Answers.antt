use Rattle.std.proofs.Common.{sym, ◌∙◌, ap}
use Rattle.digits.specs.Numbers.{digits_of}
use Rattle.digits.specs.NumberLaws.{hex_mark, marked_hex, plain_hex}
use Rattle.digits.proofs.number.read_hex.Goals as goal

pub returns-in-Some : goal.returns-in-Some
returns-in-Some c = c.number_from.ensures ∙ ap (digits_of 16) c.in-Some.ensures.cases.1 ∙ sym (marked_hex c.args.s.now (hex_mark c.args.s.now ∙ c.in-Some.ensures.cases.0))

pub returns-in-None : goal.returns-in-None
returns-in-None c = c.number_from-in-None.ensures ∙ sym (plain_hex c.args.s.now (hex_mark c.args.s.now ∙ c.in-None.ensures.cases))
