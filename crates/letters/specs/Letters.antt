-- Symbols as letters: S, P, A and N, a byte as two upper-case hexadecimal digits, and a number that is no symbol in decimal.
use Rattle.std.specs.Prelude.{ℕ, ◌/◌, ◌%◌, List, [], ◌∷◌, ◌++◌, ltb, eqb, length, get_or}
use Rattle.lists.specs.Choice.{pick}
use Rattle.wire.specs.Symbols.{START, STOP, ACK, NACK}
use Rattle.encode.specs.Encode.{Encoded}
use Rattle.std.specs.Prelude.{Ok, Err}
use Rattle.encode.specs.declared.EncodeError.TheVariants.{Forbidden, OutputTooShort}
use Rattle.text.specs.Chars.{chars}
use Rattle.writing.specs.Written.{decimal_of}
use Rattle.writing.specs.Pages.{capital}
use Rattle.pieces.specs.Pieces.{newline, front, below}

-- a byte as two digits
abbrev pub capitals : ℕ → List ℕ
capitals b = capital (b / 16) ∷ capital (b % 16) ∷ []

-- a symbol that is no byte
unfoldable pub sign_text : ℕ → List ℕ
sign_text x = pick (eqb x START) (chars "S") (pick (eqb x STOP) (chars "P") (pick (eqb x ACK) (chars "A") (pick (eqb x NACK) (chars "N") (decimal_of x))))

unfoldable pub letter_text : ℕ → List ℕ
letter_text x = pick (ltb x 256) (capitals x) (sign_text x)

-- symbols, each after a blank
abbrev pub letter_at : List ℕ → ℕ → List ℕ
letter_at s i = chars " " ++ letter_text (get_or s i 0)

abbrev pub letters_text : List ℕ → List ℕ
letters_text s = below (letter_at s) 0 (length s)

-- a trace, and what the encoder answered
abbrev pub trace_letters : List ℕ → List ℕ
trace_letters s = (chars "0 trace" ++ letters_text s) ++ newline

abbrev pub encoded_letters : Encoded → List ℕ → List ℕ
encoded_letters (Ok n) trace = trace_letters (front n trace)
encoded_letters (Err Forbidden) trace = chars "1\n"
encoded_letters (Err OutputTooShort) trace = chars "2\n"
