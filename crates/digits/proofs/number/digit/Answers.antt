use Rattle.std.proofs.Common.{sym, arith}
use Rattle.digits.specs.NumberLaws.{digit_before, digit_decimal, digit_between, digit_upper, digit_behind, digit_lower, digit_after, digit_is, digit_none}
use Rattle.digits.proofs.number.digit.Goals as goal

pub returns-in-48-to-57 : goal.returns-in-48-to-57
returns-in-48-to-57 c = digit_is c.args.c _ (sym (digit_decimal c.args.c (omega arith) (omega arith))) (omega arith)

pub returns-in-65-to-70 : goal.returns-in-65-to-70
returns-in-65-to-70 c = digit_is c.args.c _ (omega (arith, digit_upper c.args.c (omega arith) (omega arith))) (omega arith)

pub returns-in-97-to-102 : goal.returns-in-97-to-102
returns-in-97-to-102 c = digit_is c.args.c _ (omega (arith, digit_lower c.args.c (omega arith) (omega arith))) (omega arith)

pub returns-in_default : goal.returns-in_default
returns-in_default c = digit_none c.args.c (digit_before c.args.c (omega arith))

pub returns-in_default-2 : goal.returns-in_default-2
returns-in_default-2 c = digit_none c.args.c (digit_between c.args.c (omega arith) (omega arith))

pub returns-in_default-3 : goal.returns-in_default-3
returns-in_default-3 c = digit_none c.args.c (digit_behind c.args.c (omega arith) (omega arith))

pub returns-in_default-4 : goal.returns-in_default-4
returns-in_default-4 c = digit_none c.args.c (digit_after c.args.c (omega arith))
