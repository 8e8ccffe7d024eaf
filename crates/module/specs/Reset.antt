-- What the commands do to what outlasts a packet: 6.6.3.2, 6.6.3.3, 6.6.3.5, 6.6.3.7, and Table 9 for power on.
use Rattle.std.specs.Prelude.{ℕ, ◌+◌, ◌*◌, ◌/◌, ◌^◌, Bool, true, false, ltb}
use Rattle.lists.specs.Choice.{pick}
use Rattle.udid.specs.declared.Udid.{Udid}
use Rattle.udid.specs.Udids.{top_bits, kind_of_bits}
use Rattle.udid.specs.declared.kind.AddressKind.{AddressKind}
use Rattle.udid.specs.declared.kind.AddressKind.TheVariants.{Fixed, Persistent, Volatile, Random}
use Rattle.module.specs.declared.state.Lasting.{Lasting}
use Rattle.module.specs.declared.state.Module.{Module}
use Rattle.module.specs.State.{silent_in}

-- the identifier, AV, the address and AR, all else as it was
abbrev pub having : Lasting → Udid → Bool → ℕ → Bool → Lasting
having o u av a ar = record { udid = u; valid = av; address = a; resolved = ar; home = o.home; fresh = o.fresh }

-- Prepare To ARP: AR clear, AV no change
abbrev pub prepared : Lasting → Lasting
prepared o = having o o.udid o.valid o.address false

-- Assign Address: the address, AV set, AR set
abbrev pub assigned : Lasting → ℕ → Lasting
assigned o a = having o o.udid true a true

-- the last four bytes of an identifier are vendor-specific
abbrev pub renewed : Udid → ℕ → Udid
renewed u f = record { high = u.high; low = u.low / 2 ^ 32 * 2 ^ 32 + f }

-- a fixed module at the address that it is fixed at. A number above 127 is no address: then it has none
abbrev pub at_home : Lasting → Lasting
at_home o = having o o.udid (ltb o.home 128) (pick (ltb o.home 128) o.home 0) false

-- no address
abbrev pub without_address : Lasting → Lasting
without_address o = having o o.udid false 0 false

-- Reset Device: AR clear in all. Fixed (00): AV set, the default address. Persistent (01): no change of address and AV. Neither (10): AV
-- clear. Random (11): AV clear, new random bytes
abbrev pub reset_as : AddressKind → Lasting → Lasting
reset_as Fixed o = at_home o
reset_as Persistent o = prepared o
reset_as Volatile o = without_address o
reset_as Random o = having o (renewed o.udid o.fresh) false 0 false

abbrev pub reset_kind : ℕ → Lasting → Lasting
reset_kind k o = reset_as (kind_of_bits k) o

unfoldable pub reset : Lasting → Lasting
reset o = reset_kind (top_bits o.udid) o

-- before power on: the address that non-volatile memory or ROM holds; a number above 127 is none
abbrev pub stored : Udid → ℕ → ℕ → Lasting
stored u a f = record { udid = u; valid = ltb a 128; address = pick (ltb a 128) a 0; resolved = false; home = a; fresh = f }

-- Table 9: power on is a reset of what is stored
unfoldable pub powered : Udid → ℕ → ℕ → Module
powered u a f = silent_in (reset (stored u a f))

-- other bytes for the next reset
abbrev pub refreshed : Module → ℕ → Module
refreshed m f = record {
  own = record { udid = m.own.udid; valid = m.own.valid; address = m.own.address; resolved = m.own.resolved; home = m.own.home; fresh = f };
  phase = m.phase;
  place = m.place;
  pec = m.pec;
  given = m.given;
}
