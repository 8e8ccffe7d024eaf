use Rattle.std.proofs.Common.{sym, ◌∙◌, ◌≡◌, ◌<◌, get_or, arith}
use Rattle.digits.specs.Numbers.{digit_of}
use Rattle.digits.specs.NumberLaws.{said_value, said_none, digits_not, digits_on, digits_over, value_on, value_over, hex_none, hex_some, hex_bound, hex_fits}
use Rattle.digits.proofs.number.hex_value.Goals as goal

pub overflow_mul-v : goal.overflow_mul-v
overflow_mul-v c = record { fits = (omega (arith, hex_fits c.loop-c.v 0 c.loop-c.c-index (omega arith) c.loop-c.invariant.below (omega arith))) }

pub returns-in_err-digit-clause-said : goal.returns-in_err-digit-clause-said
returns-in_err-digit-clause-said c =
    c.from_residual.ensures
    ∙ hex_none c.args.digits.now (c.loop-c.invariant.digits ∙ digits_not 16 c.args.digits.now c.loop-c.c-index (omega arith) (said_none 16 _ (c.in_err-digit.ensures)))

pub overflow_add-v : goal.overflow_add-v
overflow_add-v c =
    let d = said_value 16 _ _ (c.in_ok-digit.ensures) in
    record { fits = hex_fits c.loop-c.v c.from.result c.loop-c.c-index (omega arith) c.loop-c.invariant.below (omega (arith, d.1, c.from.ensures)) }

pub loop-c-preserved : goal.loop-c-preserved
loop-c-preserved c =
    let d = said_value 16 _ _ (c.in_ok-digit.ensures) in
    let e : digit_of (get_or c.args.digits.now c.loop-c.c-index 0) ≡ c.from.result = sym (c.from.ensures ∙ d.0) in
    let h : c.from.result < 16 = omega (arith, d.1, c.from.ensures) in
    record {
      below = hex_bound c.loop-c.v c.from.result c.loop-c.c-index c.loop-c.invariant.below h;
      digits = c.loop-c.invariant.digits ∙ digits_on 16 c.args.digits.now c.loop-c.c-index (omega arith) (omega (arith, e, h));
      value = c.loop-c.invariant.value ∙ value_on 16 c.loop-c.v c.args.digits.now c.loop-c.c-index (omega arith) ∙ rw e;
    }

pub returns-clause-said : goal.returns-clause-said
returns-clause-said c =
    hex_some c.args.digits.now c.loop-c.v (c.loop-c.invariant.digits ∙ digits_over 16 c.args.digits.now c.loop-c.c-index (omega arith))
    (c.loop-c.invariant.value ∙ value_over 16 c.loop-c.v c.args.digits.now c.loop-c.c-index (omega arith))
