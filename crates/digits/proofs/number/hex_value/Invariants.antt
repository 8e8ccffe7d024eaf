use Rattle.std.proofs.Common.{◌≡◌, ◌*◌, ◌^◌, ◌<◌, drop}
use Rattle.digits.specs.Numbers.{are_digits, value_from}
use Rattle.digits.proofs.number.hex_value.Given as goal

abbrev pub invariant-loop-c : goal.invariant-loop-c
invariant-loop-c l = record {
  below : l.v < 2 ^ (4 * l.c-index);
  digits : are_digits 16 l.digits ≡ are_digits 16 (drop l.c-index l.digits);
  value : value_from 16 0 l.digits ≡ value_from 16 l.v (drop l.c-index l.digits);
}
