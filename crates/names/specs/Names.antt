-- The names of the protocols: the words of a text, in the order of the table's rows.
use Rattle.std.specs.Prelude.{ℕ, zero, suc, ◌+◌, List, ltb, length, Option, Some, None}
use Rattle.lists.specs.Choice.{pick}
use Rattle.text.specs.Chars.{chars}
use Rattle.text.specs.Words.{word_from, part_of, same_text}

-- which word of a text s is, if it is one of the n from a place on, of which the first counts k
unfoldable pub place_in : ℕ → List ℕ → List ℕ → ℕ → ℕ → Option ℕ
place_in zero text s at k = None
place_in (suc n) text s at k =
    pick (ltb (word_from text at).from (length text))
    (pick (same_text (part_of text (word_from text at).from (word_from text at).to) s) (Some k) (place_in n text s (word_from text at).to (k + 1)))
    None

abbrev pub names : List ℕ
names = chars "quick send_byte receive_byte write_byte write_word read_byte read_word process_call block_write block_read block_process_call"

-- the number of the protocol of a name
unfoldable pub protocol_named : List ℕ → Option ℕ
protocol_named s = place_in 255 names s 0 0

-- how many words a text has from a place on, of which at most n are counted
unfoldable pub words_in : ℕ → List ℕ → ℕ → ℕ
words_in zero text at = 0
words_in (suc n) text at = pick (ltb (word_from text at).from (length text)) (suc (words_in n text (word_from text at).to)) 0
