-- What the next word of a line says, where one thing or another is due.
use Rattle.std.specs.Prelude.{ℕ, List, Bool, true, false, ltb, length, Option, Some, None, Result, Ok, Err}
use Rattle.lists.specs.Choice.{pick}
use Rattle.udid.specs.declared.Udid.{Udid}
use Rattle.text.specs.declared.word.LineWord.{LineWord}
use Rattle.digits.specs.declared.number.NumberError.{NumberError}
use Rattle.text.specs.Chars.{chars}
use Rattle.text.specs.Words.{word_from, part_of, same_text}
use Rattle.digits.specs.Numbers.{number_of, halves_of, quarter_of}
use Rattle.names.specs.Names.{protocol_named}
use Rattle.words.specs.declared.word.Word.{Word}
use Rattle.words.specs.declared.word.MarkWord.{MarkWord}
use Rattle.words.specs.declared.word.MarkWord.TheVariants.{Mark, Over, Another}

-- the characters of a word
abbrev pub word_in : List ℕ → LineWord → List ℕ
word_in line w = part_of line w.from w.to

-- a word with the value that it says, or the place of a word that says none
abbrev pub said : {A : Type 0} → LineWord → Option A → Result (Word A) ℕ
said w (Some v) = Ok (record { value = v; from = w.from; to = w.to })
said w None = Err w.from

-- a number below a limit
abbrev pub below : ℕ → Result ℕ NumberError → Option ℕ
below limit (Ok n) = pick (ltb n limit) (Some n) None
below limit (Err e) = None

unfoldable pub number_at : ℕ → List ℕ → ℕ → Result (Word ℕ) ℕ
number_at limit line at = said (word_from line at) (below limit (number_of (word_in line (word_from line at))))

-- a byte: a number below 256
abbrev pub byte_at : List ℕ → ℕ → Result (Word ℕ) ℕ
byte_at line at = number_at 256 line at

-- a symbol: a number below 65,536
abbrev pub symbol_at : List ℕ → ℕ → Result (Word ℕ) ℕ
symbol_at line at = number_at 65536 line at

-- an identifier: 32 hexadecimal digits
abbrev pub udid_said : Option (ℕ × ℕ) → Option Udid
udid_said (Some h) = Some (record { high = h.0; low = h.1 })
udid_said None = None

unfoldable pub udid_at : List ℕ → ℕ → Result (Word Udid) ℕ
udid_at line at = said (word_from line at) (udid_said (halves_of (word_in line (word_from line at))))

-- the last four bytes of an identifier: 8 hexadecimal digits
unfoldable pub fresh_at : List ℕ → ℕ → Result (Word ℕ) ℕ
fresh_at line at = said (word_from line at) (quarter_of (word_in line (word_from line at)))

-- a protocol: its name, or a byte
abbrev pub protocol_on : List ℕ → ℕ → Option ℕ → Result (Word ℕ) ℕ
protocol_on line at (Some p) = said (word_from line at) (Some p)
protocol_on line at None = byte_at line at

unfoldable pub protocol_at : List ℕ → ℕ → Result (Word ℕ) ℕ
protocol_at line at = protocol_on line at (protocol_named (word_in line (word_from line at)))

-- p, with PEC, or -, without
abbrev pub pec_said : List ℕ → Option Bool
pec_said s = pick (same_text s (chars "p")) (Some true) (pick (same_text s (chars "-")) (Some false) None)

unfoldable pub pec_at : List ℕ → ℕ → Result (Word Bool) ℕ
pec_at line at = said (word_from line at) (pec_said (word_in line (word_from line at)))

-- a mark, the end of the line, or another word
unfoldable pub mark_at : List ℕ → ℕ → List ℕ → MarkWord
mark_at line at mark =
    pick (same_text (word_in line (word_from line at)) mark) (Mark (word_from line at).to)
    (pick (ltb (word_from line at).from (length line)) (Another (word_from line at).from)
    (Over (word_from line at).from))

-- the place of another word, or the end of the line
unfoldable pub rest_at : List ℕ → ℕ → Option ℕ
rest_at line at = pick (ltb (word_from line at).from (length line)) (Some (word_from line at).from) None
