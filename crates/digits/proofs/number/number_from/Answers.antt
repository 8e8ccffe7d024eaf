use Rattle.std.proofs.Common.{sym, ◌∙◌, ap, ◌≡◌, ◌<◌, ◌+◌, ◌*◌, get_or, length, arith, Ok}
use Rattle.std.proofs.lemmas.Result.{err_from_is_err_and}
use Rattle.digits.specs.Numbers.{digit_of, value_of, capped}
use Rattle.digits.specs.NumberLaws.{said_value, said_none, digits_not, digits_on, digits_over, value_over, capped_on, capped_min, capped_within, no_digits_no_number, other_characters_no_number, digits_say_number, digits_too_large, below_cap, at_cap}
use Rattle.digits.proofs.number.number_from.Goals as goal

pub returns-then-is_empty : goal.returns-then-is_empty
returns-then-is_empty c = sym (no_digits_no_number c.args.base c.args.digits.now 0 (grind arith))

pub returns-in_err-d : goal.returns-in_err-d
returns-in_err-d c =
    let p = err_from_is_err_and c.from_residual.result c.from_residual.ensures.1 in
    let e = other_characters_no_number c.args.base c.args.digits.now (c.loop-c.invariant.digits ∙ digits_not c.args.base c.args.digits.now c.loop-c.c-index (omega arith) (said_none c.args.base _ (sym c.in_err-d.ensures.ok_part ∙ c.digit_in.ensures))) in
    rw (p.1, p.2, c.in_err-d.ensures.value, c.in_err-d.ensures.ok_part, e)

pub loop-c-preserved : goal.loop-c-preserved
loop-c-preserved c =
    let d = said_value c.args.base _ _ (sym c.in_ok-d.ensures.ok_part ∙ c.digit_in.ensures) in
    let h : c.loop-c.c-index < length c.args.digits.now = omega arith in
    let e : c.min-v.result ≡ capped (c.loop-c.v * c.args.base + digit_of (get_or c.args.digits.now c.loop-c.c-index 0)) =
    c.min-v.ensures ∙ rw (c.from.ensures, c.from-in-loop-c.ensures, d.0) (capped_min _) in
    record {
      low = omega arith;
      digits = c.loop-c.invariant.digits ∙ digits_on c.args.base c.args.digits.now c.loop-c.c-index h (omega (arith, d.0, d.1));
      value = c.loop-c.invariant.value ∙ capped_on c.args.base c.loop-c.v c.args.digits.now c.loop-c.c-index c.requires.low h ∙ rw (sym e);
    }

pub returns-then-v-lt65536 : goal.returns-then-v-lt65536
returns-then-v-lt65536 c =
    let d = c.loop-c.invariant.digits ∙ digits_over c.args.base c.args.digits.now c.loop-c.c-index (omega arith) in
    let w = capped_within c.loop-c.v c.loop-c.invariant.low in
    let e : c.loop-c.v ≡ capped (value_of c.args.base c.args.digits.now) =
    sym (c.loop-c.invariant.value ∙ ap capped (value_over c.args.base c.loop-c.v c.args.digits.now c.loop-c.c-index (omega arith)) ∙ w) in
    let f : value_of c.args.base c.args.digits.now ≡ c.loop-c.v = below_cap _ _ e (omega arith) in
    sym (digits_say_number c.args.base c.args.digits.now (grind arith) d (omega (arith, f)) ∙ ap Ok f)

pub returns-else-v-lt65536 : goal.returns-else-v-lt65536
returns-else-v-lt65536 c =
    let d = c.loop-c.invariant.digits ∙ digits_over c.args.base c.args.digits.now c.loop-c.c-index (omega arith) in
    let w = capped_within c.loop-c.v c.loop-c.invariant.low in
    let e : c.loop-c.v ≡ capped (value_of c.args.base c.args.digits.now) =
    sym (c.loop-c.invariant.value ∙ ap capped (value_over c.args.base c.loop-c.v c.args.digits.now c.loop-c.c-index (omega arith)) ∙ w) in
    sym (digits_too_large c.args.base c.args.digits.now (grind arith) d (at_cap _ _ e (omega arith)))
