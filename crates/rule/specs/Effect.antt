-- What a trace does to a target, by the symbols on the bus alone: which command the controller meant is not looked at.
use Rattle.std.specs.Prelude.{ℕ, ◌+◌, ◌*◌, ◌/◌, Bool, List, ltb, get_or}
use Rattle.lists.specs.Choice.{pick, and}
use Rattle.udid.specs.Bytes.{udid_bytes}
use Rattle.commands.specs.CommandTraces.{prepare_trace, assign_trace}
use Rattle.commands.specs.SameTrace.{same}
use Rattle.targets.specs.Target.{Target}

-- where the address byte of an Assign Address stands: behind START, 19 bytes and their ACKs
abbrev pub address_in : List ℕ → ℕ
address_in tr = get_or tr 39 0

-- the trace is an Assign Address with this target's own identifier, and a byte for the address
abbrev pub is_for_me : List ℕ → Target → Bool
is_for_me tr t = and (ltb (address_in tr) 256) (same tr (assign_trace (udid_bytes t.udid) (address_in tr)))

-- THE EFFECT OF A TRACE. Prepare To ARP clears the flag. Assign Address with its own identifier: it takes the address in the upper seven
-- bits of the address byte, its own byte then twice that plus 1, and sets the flag. Any other trace leaves it
unfoldable pub effect : List ℕ → Target → Target
effect tr t =
    pick (same tr prepare_trace) (record { udid = t.udid; address_byte = t.address_byte; flag = 0 })
    (pick (is_for_me tr t) (record { udid = t.udid; address_byte = 2 * (address_in tr / 2) + 1; flag = 1 })
    t)
