-- The controller's state by its parts, and with one of them changed. The definitions go through these, so each names only what it changes.
use Rattle.std.specs.Prelude.{ℕ}
use Rattle.pool.specs.declared.Pool.{Pool}
use Rattle.commands.specs.declared.command.Handed.{Handed}
use Rattle.slots.specs.declared.Slots.{Slots}
use Rattle.arp.specs.declared.state.Controller.{Controller}

-- the last pick, the occupied addresses, the pool, what each address is known for, the count of Get UDIDs, what was handed out last
abbrev pub state_of : ℕ → Pool → Pool → Slots → ℕ → Handed → Controller
state_of picked occupied pool slots gets last = record { occupied = occupied; pool = pool; slots = slots; gets = gets; last = last; picked = picked }

-- the addresses in use now
abbrev pub with_pool : Controller → Pool → Controller
with_pool s x = record { occupied = s.occupied; pool = x; slots = s.slots; gets = s.gets; last = s.last; picked = s.picked }

-- what each address is known for
abbrev pub with_slots : Controller → Slots → Controller
with_slots s x = record { occupied = s.occupied; pool = s.pool; slots = x; gets = s.gets; last = s.last; picked = s.picked }

-- how many Get UDIDs this pass has sent
abbrev pub with_gets : Controller → ℕ → Controller
with_gets s x = record { occupied = s.occupied; pool = s.pool; slots = s.slots; gets = x; last = s.last; picked = s.picked }

-- what was handed out last
abbrev pub with_last : Controller → Handed → Controller
with_last s x = record { occupied = s.occupied; pool = s.pool; slots = s.slots; gets = s.gets; last = x; picked = s.picked }

-- the address picked last
abbrev pub with_picked : Controller → ℕ → Controller
with_picked s x = record { occupied = s.occupied; pool = s.pool; slots = s.slots; gets = s.gets; last = s.last; picked = x }
