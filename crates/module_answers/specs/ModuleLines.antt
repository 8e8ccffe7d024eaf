-- What is printed for a module at its own end of the bus: a line each.
use Rattle.std.specs.Prelude.{ℕ, List, ◌++◌, is_some, unwrap_or}
use Rattle.lists.specs.Choice.{pick}
use Rattle.text.specs.Chars.{chars}
use Rattle.writing.specs.Written.{decimal_of, pair_of}
use Rattle.module.specs.Supply.{address_byte}
use Rattle.module.specs.declared.state.Lasting.{Lasting}
use Rattle.module.specs.declared.state.Supplied.{Supplied}
use Rattle.pieces.specs.Pieces.{newline, udid_text}

abbrev pub made_text : List ℕ
made_text = chars "0 module\n"

abbrev pub start_text : List ℕ
start_text = chars "0 start\n"

abbrev pub lost_text : List ℕ
lost_text = chars "0 lost\n"

abbrev pub stop_text : List ℕ
stop_text = chars "0 stop\n"

-- the next byte of a read, or none
abbrev pub supplied_text : Supplied → List ℕ
supplied_text s = pick (is_some s.byte) ((chars "0 byte 0x" ++ pair_of (unwrap_or s.byte 0xFF)) ++ newline) (chars "0 released\n")

-- the identifier, the address byte, and Address Resolved
abbrev pub state_text : Lasting → List ℕ
state_text o =
    ((chars "0 module " ++ udid_text o.udid) ++ (chars " 0x" ++ pair_of (address_byte o))) ++ ((chars " " ++ decimal_of (pick o.resolved 1 0)) ++ newline)
