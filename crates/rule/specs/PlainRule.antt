-- THE PLAIN RULE: the targets in ascending order of their identifiers, each served in turn, until one cannot be.
use Rattle.std.specs.Prelude.{ℕ, ◌/◌, ◌<◌, ◌≡◌, Bool, false, List, [], ◌∷◌, ltb, Option, Some, None}
use Rattle.lists.specs.Choice.{pick}
use Rattle.lists.specs.Each.{Each}
use Rattle.wire.specs.declared.address.Address.{Address}
use Rattle.pool.specs.NextFree.{next_free}
use Rattle.pool.specs.Pools.{member, with_address}
use Rattle.pool.specs.declared.Pool.{Pool}
use Rattle.udid.specs.Udids.{is_fixed, value}
use Rattle.udid.specs.declared.Udid.{Udid}
use Rattle.targets.specs.Target.{Target}

-- ---- ascending order

-- insertion by the 128-bit number
abbrev pub insert : Target → List Target → List Target
insert t [] = t ∷ []
insert t (x ∷ xs) = pick (ltb (value t.udid) (value x.udid)) (t ∷ x ∷ xs) (x ∷ insert t xs)

abbrev pub ascending : List Target → List Target
ascending [] = []
ascending (t ∷ ts) = insert t (ascending ts)

-- ---- whom it serves, and where

-- the address that a target holds; FFh, none, counts as 7Fh, which every starting pool has
abbrev pub held : Target → Address
held t = record { 0 = t.address_byte / 2 }

-- one is picked for a movable target whose address is not free; a fixed target keeps its own, a movable one keeps a free one that it holds
unfoldable pub is_picked_for : Pool → Target → Bool
is_picked_for p t = pick (is_fixed t.udid) false (member p (t.address_byte / 2))

-- picked is the first free address after the last pick, going from 7Fh round to 00h
unfoldable pub plain_choice : Pool → ℕ → Target → Option Address
plain_choice p last t = pick (is_picked_for p t) (next_free p last) (Some (held t))

-- the last pick once a target has the address a: a if it was picked, else as it was
abbrev pub pick_after : Pool → ℕ → Target → ℕ → ℕ
pick_after p last t a = pick (is_picked_for p t) a last

-- all are served, or none is free for this identifier
pub data Ending : Type 0 where
  served : Ending
  none_free : Udid → Ending

-- a target served, and the address that it is given
pub record Given : Type 0 where
  pub who : Target
  pub address : ℕ

-- the last pick at the end, too
pub record Ruled : Type 0 where
  pub given : List Given
  pub ending : Ending
  pub picked : ℕ

-- none free: the end; else this one at its address, and then the others
abbrev pub next : (Pool → ℕ → Ruled) → Target → Pool → ℕ → Option Address → Ruled
next others t p last None = record { given = []; ending = none_free t.udid; picked = last }
next others t p last (Some a) =
    let q = others (with_address p a.0) (pick_after p last t a.0) in
    record { given = record { who = t; address = a.0 } ∷ q.given; ending = q.ending; picked = q.picked }

-- the targets in ascending order, the pool, and the last pick
abbrev pub rule : List Target → Pool → ℕ → Ruled
rule [] p last = record { given = []; ending = served; picked = last }
rule (t ∷ rest) p last = next (λ q l. rule rest q l) t p last (plain_choice p last t)

-- what the rule gives these targets as they are lent, starting from this pool and this last pick: nobody's flag is looked at
abbrev pub ruled : Pool → ℕ → List Target → Ruled
ruled b last ts = rule (ascending ts) b last

-- ---- of what it gives

-- an address that a set does not have
abbrev pub FreeIn : Pool → Given → Type 0
FreeIn p g = (g.address < 128) × (member p g.address ≡ false)

-- an address that it does not have, where the target is movable
abbrev pub MovableFreeIn : Pool → Given → Type 0
MovableFreeIn p g = is_fixed g.who.udid ≡ false → member p g.address ≡ false

-- no two at one address
abbrev pub Distinct : List Given → Type 0
Distinct [] = Unit
Distinct (g ∷ gs) = Each (λ (h : Given). h.address ≡ g.address → ⊥) gs × Distinct gs
