-- Numbers: what a word of digits says.
use Rattle.std.specs.Prelude.{ℕ, ◌+◌, ◌-◌, ◌*◌, Bool, true, List, [], ◌∷◌, eqb, leb, ltb, length, take, drop, get_or, Option, Some, None, Result, Ok, Err}
use Rattle.lists.specs.Choice.{pick, and}
use Rattle.digits.specs.declared.number.NumberError.{NumberError}
use Rattle.digits.specs.declared.number.NumberError.TheVariants.{NoNumber, TooLarge}

-- a character from one to another
abbrev pub from_to : ℕ → ℕ → ℕ → Bool
from_to a b c = and (leb a c) (leb c b)

-- the value of a digit, `0` to `9`, `A` to `F` or `a` to `f`; 16 for any other character
unfoldable pub digit_of : ℕ → ℕ
digit_of c = pick (from_to 48 57 c) (c - 48) (pick (from_to 65 70 c) (c - 55) (pick (from_to 97 102 c) (c - 87) 16))

-- a digit in the base has a value, and no other character
abbrev pub digit_in : ℕ → ℕ → Option ℕ
digit_in base c = pick (ltb (digit_of c) base) (Some (digit_of c)) None

abbrev pub digit_said : ℕ → Option ℕ
digit_said c = digit_in 16 c

-- every character is a digit in the base
unfoldable pub are_digits : ℕ → List ℕ → Bool
are_digits base [] = true
are_digits base (c ∷ cs) = and (ltb (digit_of c) base) (are_digits base cs)

-- the value of digits, after those of value v
unfoldable pub value_from : ℕ → ℕ → List ℕ → ℕ
value_from base v [] = v
value_from base v (c ∷ cs) = value_from base (v * base + digit_of c) cs

abbrev pub value_of : ℕ → List ℕ → ℕ
value_of base cs = value_from base 0 cs

-- the number, or 65,536 where it is larger
abbrev pub capped : ℕ → ℕ
capped n = pick (ltb n 65536) n 65536

-- the number that digits say: at least one, all of them digits, and at most 65,535
unfoldable pub digits_of : ℕ → List ℕ → Result ℕ NumberError
digits_of base [] = Err NoNumber
digits_of base (c ∷ cs) =
    pick (are_digits base (c ∷ cs)) (pick (ltb (value_of base (c ∷ cs)) 65536) (Ok (value_of base (c ∷ cs))) (Err TooLarge)) (Err NoNumber)

-- `0x` at the front
unfoldable pub is_hex : List ℕ → Bool
is_hex s = and (leb 2 (length s)) (and (eqb (get_or s 0 0) 48) (eqb (get_or s 1 0) 120))

-- the number that a word says
unfoldable pub number_of : List ℕ → Result ℕ NumberError
number_of s = pick (is_hex s) (digits_of 16 (drop 2 s)) (digits_of 10 s)

-- the number that a word says whose digits are hexadecimal, with `0x` before them or without
unfoldable pub hex_of : List ℕ → Result ℕ NumberError
hex_of s = pick (is_hex s) (digits_of 16 (drop 2 s)) (digits_of 16 s)

-- the value of hexadecimal digits, all of them digits
abbrev pub hex_said : List ℕ → Option ℕ
hex_said s = pick (are_digits 16 s) (Some (value_of 16 s)) None

-- the two halves that 32 hexadecimal digits say
unfoldable pub halves_of : List ℕ → Option (ℕ × ℕ)
halves_of s =
    pick (and (eqb (length s) 32) (are_digits 16 s)) (Some (value_of 16 (take 16 s), value_of 16 (take 16 (drop 16 s)))) None

-- the number that 8 hexadecimal digits say
unfoldable pub quarter_of : List ℕ → Option ℕ
quarter_of s = pick (and (eqb (length s) 8) (are_digits 16 s)) (Some (value_of 16 (take 8 s))) None
