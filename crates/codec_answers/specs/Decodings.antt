-- The answers of decode.
use Rattle.std.specs.Prelude.{ℕ, List, ◌++◌, Ok, Err}
use Rattle.text.specs.Chars.{chars}
use Rattle.writing.specs.Written.{decimal_of, pair_of}
use Rattle.trace.specs.declared.transaction.Transaction.{Transaction}
use Rattle.scan.specs.Decoded.{Decoded}
use Rattle.pieces.specs.Pieces.{newline, front, bytes_text}
use Rattle.codec_answers.specs.Refusals.{refusal_text}

-- the fields of a transaction
abbrev pub fields_text : Transaction → List ℕ
fields_text t = ((chars "0 address 0x" ++ pair_of t.address.0) ++ (chars " direction " ++ decimal_of t.direction)) ++ (chars " command 0x" ++ pair_of t.command)

-- its data stand at the front of two buffers
abbrev pub transaction_text : Transaction → List ℕ → List ℕ → List ℕ
transaction_text t sent received =
    ((fields_text t ++ (chars " w" ++ bytes_text (front t.sent sent))) ++ (chars " r" ++ bytes_text (front t.received received))) ++ newline

-- what the decoder answered
abbrev pub decoded_text : Decoded → List ℕ → List ℕ → List ℕ
decoded_text (Ok t) sent received = transaction_text t sent received
decoded_text (Err e) sent received = refusal_text e.why e.place ++ newline
