-- What is printed for what lookup finds, and for a report that a module is gone.
use Rattle.std.specs.Prelude.{List, ◌++◌, ℕ}
use Rattle.text.specs.Chars.{chars}
use Rattle.arp.specs.declared.lookup.Found.{Found}
use Rattle.arp.specs.declared.lookup.Found.TheVariants.{Bound, Nobody, Two, Left, NoAddress}
use Rattle.pieces.specs.Pieces.{newline, udid_text}

abbrev pub found_text : Found → List ℕ
found_text (Bound u) = (chars "0 udid " ++ udid_text u) ++ newline
found_text Nobody = chars "15\n"
found_text Two = chars "16\n"
found_text Left = chars "20\n"
found_text NoAddress = chars "1\n"

-- a report of a bound address is taken; any other is refused as lookup answers
abbrev pub gone_text : Found → List ℕ
gone_text (Bound u) = chars "0 gone\n"
gone_text Nobody = found_text Nobody
gone_text Two = found_text Two
gone_text Left = found_text Left
gone_text NoAddress = found_text NoAddress
