-- A byte that the module supplies: steps 22 to 25, and 29.
use Rattle.std.specs.Prelude.{ℕ, ◌+◌, ◌-◌, ◌*◌, ◌%◌, Option, Some, None, unwrap_or, ltb, eqb, get_or}
use Rattle.lists.specs.Choice.{pick}
use Rattle.pec.specs.Pec.{pec_step}
use Rattle.udid.specs.Bytes.{udid_bytes}
use Rattle.module.specs.declared.state.Phase.{Phase}
use Rattle.module.specs.declared.state.Phase.TheVariants.{Silent, First, Command, Asked, Called, AskedAgain, CalledAgain, Count, Identifier, Given, PreparePec, ResetPec, AssignPec, Reply}
use Rattle.module.specs.declared.state.Lasting.{Lasting}
use Rattle.module.specs.declared.state.Module.{Module}
use Rattle.module.specs.declared.state.Supplied.{Supplied}
use Rattle.module.specs.State.{at, silent_in}

-- the device address byte: twice the address plus 1; FFh where AV is clear
unfoldable pub address_byte : Lasting → ℕ
address_byte o = pick o.valid (2 * (o.address % 128) + 1) 0xFF

-- byte k of the reply, c being PEC of the packet before it: the count, the identifier, the address byte, PEC
unfoldable pub reply_byte : Lasting → ℕ → ℕ → ℕ
reply_byte o c k =
    pick (eqb k 0) 17 (pick (ltb k 17) (get_or (udid_bytes o.udid) ((k - 1) % 16) 0) (pick (eqb k 17) (address_byte o) c))

-- nothing is said after PEC
abbrev pub after_byte : Lasting → ℕ → ℕ → ℕ → Module
after_byte o c k b = pick (ltb k 18) (at o Reply (k + 1) (pec_step c b) 0) (silent_in o)

abbrev pub said : Module → ℕ → Supplied
said m b = record { after = m; byte = Some b }

-- it holds nothing down, as FFh would not
abbrev pub unsaid : Module → Supplied
unsaid m = record { after = m; byte = None }

-- the byte for whoever wants one in any case: FFh where there is none, which holds nothing down
abbrev pub byte_out : Option ℕ → ℕ
byte_out b = unwrap_or b 0xFF

abbrev pub supplied_at : Lasting → ℕ → ℕ → Supplied
supplied_at o c k = said (after_byte o c k (reply_byte o c k)) (reply_byte o c k)

abbrev pub supplied_in : Phase → Module → Supplied
supplied_in Reply m = supplied_at m.own m.pec m.place
supplied_in Silent m = unsaid m
supplied_in First m = unsaid m
supplied_in Command m = unsaid m
supplied_in Asked m = unsaid m
supplied_in Called m = unsaid m
supplied_in AskedAgain m = unsaid m
supplied_in CalledAgain m = unsaid m
supplied_in Count m = unsaid m
supplied_in Identifier m = unsaid m
supplied_in Given m = unsaid m
supplied_in PreparePec m = unsaid m
supplied_in ResetPec m = unsaid m
supplied_in AssignPec m = unsaid m

unfoldable pub supplies : Module → Supplied
supplies m = supplied_in m.phase m
