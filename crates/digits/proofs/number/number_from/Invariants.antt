use Rattle.std.proofs.Common.{◌≡◌, ◌≤◌, drop}
use Rattle.digits.specs.Numbers.{are_digits, value_from, capped}
use Rattle.digits.proofs.number.number_from.Given as goal

abbrev pub invariant-loop-c : goal.invariant-loop-c
invariant-loop-c l = record {
  low : l.v ≤ 65536;
  digits : are_digits l.base l.digits ≡ are_digits l.base (drop l.c-index l.digits);
  value : capped (value_from l.base 0 l.digits) ≡ capped (value_from l.base l.v (drop l.c-index l.digits));
}
