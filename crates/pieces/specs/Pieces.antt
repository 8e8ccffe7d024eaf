-- Pieces of answers: identifiers, lists, and what stands at the front of a buffer.
use Rattle.std.specs.Prelude.{ℕ, zero, suc, ◌-◌, List, [], ◌++◌, length, get_or}
use Rattle.udid.specs.declared.Udid.{Udid}
use Rattle.udid.specs.Bytes.{udid_bytes}
use Rattle.text.specs.Chars.{chars}
use Rattle.text.specs.Words.{part_of}
use Rattle.writing.specs.Written.{decimal_of, pair_of, pairs_of}

-- the end of a line
abbrev pub newline : List ℕ
newline = chars "\n"

-- an identifier: 32 digits, highest byte first
abbrev pub udid_text : Udid → List ℕ
udid_text u = pairs_of (udid_bytes u)

-- the first n numbers of a buffer; none where it has not so many
abbrev pub front : ℕ → List ℕ → List ℕ
front n s = part_of s 0 n

-- texts one after another: those of k numbers from i on
unfoldable pub texts : (ℕ → List ℕ) → ℕ → ℕ → List ℕ
texts f i zero = []
texts f i (suc k) = f i ++ texts f (suc i) k

-- those of the numbers from i on that are below n
unfoldable pub below : (ℕ → List ℕ) → ℕ → ℕ → List ℕ
below f i n = texts f i (n - i)

-- bytes, each after a blank and 0x, and symbols, each after a blank
abbrev pub byte_text : List ℕ → ℕ → List ℕ
byte_text s i = chars " 0x" ++ pair_of (get_or s i 0)

abbrev pub bytes_text : List ℕ → List ℕ
bytes_text s = below (byte_text s) 0 (length s)

abbrev pub symbol_text : List ℕ → ℕ → List ℕ
symbol_text s i = chars " " ++ decimal_of (get_or s i 0)

abbrev pub symbols_text : List ℕ → List ℕ
symbols_text s = below (symbol_text s) 0 (length s)
