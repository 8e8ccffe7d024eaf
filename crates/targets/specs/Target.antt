-- A target, and what the ARP commands do to targets.
use Rattle.std.specs.Prelude.{ℕ, ◌+◌, ◌*◌, ◌%◌, ◌<◌, Bool, List, [], ◌∷◌, eqb}
use Rattle.lists.specs.Choice.{pick}
use Rattle.udid.specs.Udids.{Fits, same_udid}
use Rattle.udid.specs.declared.Udid.{Udid}

-- its identifier, its device address byte, and its resolved flag
pub record Target : Type 0 where
  pub udid : Udid
  pub address_byte : ℕ
  pub flag : ℕ

-- the numbers of a target fit their places
pub record Sized (t : Target) : Type 0 where
  pub udid : Fits t.udid
  pub address_byte : t.address_byte < 256

-- a resolved target does not answer Get UDID
abbrev pub is_resolved : Target → Bool
is_resolved t = eqb t.flag 1

-- Prepare To ARP clears the flag
abbrev pub prepared : Target → Target
prepared t = record { udid = t.udid; address_byte = t.address_byte; flag = 0 }

-- Assign Address: the target with that identifier takes the address, its byte twice the address plus 1, and sets the flag
abbrev pub assigned_to : Udid → ℕ → Target → Target
assigned_to u a t = pick (same_udid t.udid u) (record { udid = t.udid; address_byte = 2 * (a % 128) + 1; flag = 1 }) t

abbrev pub map_targets : (Target → Target) → List Target → List Target
map_targets f [] = []
map_targets f (t ∷ ts) = f t ∷ map_targets f ts

abbrev pub cleared : List Target → List Target
cleared ts = map_targets prepared ts

abbrev pub resolve : Udid → ℕ → List Target → List Target
resolve u a ts = map_targets (assigned_to u a) ts
