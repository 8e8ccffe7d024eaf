-- How the end of a pass reads: who is bound where, and what each target ends with.
use Rattle.std.specs.Prelude.{ℕ, ◌+◌, ◌*◌, ◌%◌, ◌≡◌, Bool, true, false, List, [], ◌∷◌, take, drop}
use Rattle.lists.specs.Each.{Each}
use Rattle.udid.specs.Bytes.{udid_bytes}
use Rattle.udid.specs.Udids.{same_udid}
use Rattle.udid.specs.declared.Udid.{Udid}
use Rattle.slots.specs.Finding.{bound_in}
use Rattle.slots.specs.Slots.{held_at}
use Rattle.slots.specs.declared.Binding.{Binding}
use Rattle.slots.specs.declared.Slots.{Slots}
use Rattle.targets.specs.Target.{Target, assigned_to}
use Rattle.rule.specs.PlainRule.{Given}

-- the 16 bytes of record i are the identifier of one who was given an address
abbrev pub RecordOf : List ℕ → ℕ → Given → Type 0
RecordOf s i g = take 16 (drop (18 * i) s) ≡ udid_bytes g.who.udid

abbrev pub some_of : List Udid → Bool
some_of [] = false
some_of (u ∷ us) = true

abbrev pub is_bound : Binding → Bool
is_bound h = some_of (bound_in h)

abbrev pub bound_at : Slots → ℕ → Bool
bound_at s a = is_bound (held_at s a)

-- one who was given this address has this identifier
abbrev pub GivenAt : ℕ → Udid → Given → Type 0
GivenAt a u g = (g.address ≡ a) × (g.who.udid ≡ u)

-- no two bindings of one identifier
abbrev pub OnePerUdid : List Given → Type 0
OnePerUdid [] = Unit
OnePerUdid (g ∷ gs) = Each (λ (h : Given). same_udid g.who.udid h.who.udid ≡ false) gs × OnePerUdid gs

-- ---- what each target ends with

-- the Assigns that reached it
abbrev pub served_by : List Given → Target → Target
served_by [] t = t
served_by (g ∷ gs) t = served_by gs (assigned_to g.who.udid g.address t)

-- a target with the identifier of a binding takes that address, its byte twice the address plus one, and sets the flag
abbrev pub taken : Target → ℕ → Target
taken t a = record { udid = t.udid; address_byte = 2 * (a % 128) + 1; flag = 1 }

abbrev pub TakenBy : List Given → Target → Given → Type 0
TakenBy gs t g = t.udid ≡ g.who.udid → served_by gs t ≡ taken t g.address
