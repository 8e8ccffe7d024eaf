-- What is printed for what is no request, and for the error code and the encoder: a line each.
use Rattle.std.specs.Prelude.{ℕ, ◌+◌, ◌%◌, ◌^◌, List, ◌++◌}
use Rattle.text.specs.Chars.{chars}
use Rattle.writing.specs.Written.{decimal_of, pair_of}
use Rattle.requests.specs.declared.expected.Expected.{Expected}
use Rattle.requests.specs.declared.expected.Expected.TheVariants.{Verb, Byte, Symbol, Protocol, Pec, Sent, Received, Udid, End, Targets, OddByte, Flag, Fresh, Event, Module, Line}
use Rattle.encode.specs.Encode.{Encoded}
use Rattle.std.specs.Prelude.{Ok, Err}
use Rattle.encode.specs.declared.EncodeError.TheVariants.{Forbidden, OutputTooShort}
use Rattle.pieces.specs.Pieces.{newline, front, symbols_text}

-- ---- what is no request

abbrev pub expected_text : Expected → List ℕ
expected_text Verb = chars " expected a verb\n"
expected_text Byte = chars " expected a byte, 0 to 255\n"
expected_text Symbol = chars " expected a symbol, 0 to 65535\n"
expected_text Protocol = chars " expected a protocol, by number or name\n"
expected_text Pec = chars " expected p or -\n"
expected_text Sent = chars " expected w\n"
expected_text Received = chars " expected a byte, 0 to 255, or r\n"
expected_text Udid = chars " expected a UDID of 32 hexadecimal digits\n"
expected_text End = chars " expected the end of the line\n"
expected_text Targets = chars " expected at most 120 targets\n"
expected_text OddByte = chars " expected an odd byte, below 255 for a fixed module\n"
expected_text Flag = chars " expected 0 or 1\n"
expected_text Fresh = chars " expected 8 hexadecimal digits\n"
expected_text Event = chars " expected start, byte, supply, lost, stop or state\n"
expected_text Module = chars " expected a module, which the verb module makes\n"
expected_text Line = chars " expected a line of at most 16384 characters\n"

-- the column of a place, in 64 bits
abbrev pub column : ℕ → ℕ
column place = (place + 1) % 2 ^ 64

unfoldable pub unclear_text : Expected → ℕ → List ℕ
unclear_text e place = (chars "? " ++ decimal_of (column place)) ++ expected_text e

-- ---- pec and encode

abbrev pub pec_text : ℕ → List ℕ
pec_text b = (chars "0 pec 0x" ++ pair_of b) ++ newline

abbrev pub trace_text : List ℕ → List ℕ
trace_text s = (chars "0 trace" ++ symbols_text s) ++ newline

abbrev pub encoded_text : Encoded → List ℕ → List ℕ
encoded_text (Ok n) trace = trace_text (front n trace)
encoded_text (Err Forbidden) trace = chars "1\n"
encoded_text (Err OutputTooShort) trace = chars "2\n"
