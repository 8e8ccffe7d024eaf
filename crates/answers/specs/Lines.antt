-- What is printed for occupied, target and clear: a line each.
use Rattle.std.specs.Prelude.{ℕ, List, ◌++◌}
use Rattle.text.specs.Chars.{chars}
use Rattle.writing.specs.Written.{decimal_of}
use Rattle.pieces.specs.Pieces.{newline}

abbrev pub occupied_text : ℕ → List ℕ
occupied_text n = (chars "0 occupied " ++ decimal_of n) ++ newline

abbrev pub no_address_text : List ℕ
no_address_text = chars "1\n"

abbrev pub target_text : ℕ → List ℕ
target_text i = (chars "0 target " ++ decimal_of i) ++ newline

abbrev pub clear_text : List ℕ
clear_text = chars "0 clear\n"
