-- What a module obeys and acknowledges, in the words of the bus: whole packets, and beginnings of them.
use Rattle.std.specs.Prelude.{ℕ, ◌+◌, ◌*◌, ◌/◌, ◌≤◌, ◌<◌, ◌≡◌, true, false, ◌⊎◌, List, [], ◌∷◌, ◌++◌, get_or, take}
use Rattle.udid.specs.Bytes.{bytes_of, udid_bytes}
use Rattle.udid.specs.declared.Udid.{Udid}
use Rattle.module.specs.declared.state.Lasting.{Lasting}
use Rattle.module.specs.Reset.{having}
use Rattle.module.specs.Obeys.{prepare_order, reset_order, directed_reset, assign_order}
use Rattle.module.specs.Acknowledges.{get_order}

-- the first list is a beginning of the second
abbrev pub Begins : List ℕ → List ℕ → Type 0
Begins xs bs = (rest : List ℕ) × (bs ≡ xs ++ rest)

-- a directed command can reach it: AV is set, and the address is one of 10h to 7Eh
abbrev pub Reachable : Lasting → Type 0
Reachable o = (o.valid ≡ true) × ((0x10 ≤ o.address) × (o.address ≤ 0x7E))

-- THE BYTES ARE THE BEGINNING OF A COMMAND THAT IT KNOWS: Prepare To ARP, Reset Device, Get UDID up to its repeated START, Assign Address with its
-- own identifier and any address byte, and Reset Device and Get UDID that are directed to it
abbrev pub Known : Lasting → List ℕ → Type 0
Known o bs =
    Begins bs prepare_order
    ⊎ (Begins bs reset_order
    ⊎ (Begins bs (get_order 0x03)
    ⊎ (((x : ℕ) × Begins bs (assign_order o.udid x))
    ⊎ (Reachable o × (Begins bs (directed_reset o.address) ⊎ Begins bs (get_order (2 * o.address + 1)))))))

-- the kind of a module, the top two bits of its identifier's first byte: 0 fixed, 1 persistent, 2 volatile, 3 random
abbrev pub kind_of : Udid → ℕ
kind_of u = get_or (udid_bytes u) 0 0 / 64

-- WHAT RESET DEVICE MAKES OF IT, kind by kind: AR is clear in all. A fixed one has the address that it is fixed at, if that is below 128; a persistent one
-- keeps address and AV; the others have none, and a random one takes four new bytes
abbrev pub Resets : Lasting → Lasting → Type 0
Resets o o' =
    (kind_of o.udid ≡ 0 → o.home < 128 → o' ≡ having o o.udid true o.home false)
    × ((kind_of o.udid ≡ 0 → 127 < o.home → o' ≡ having o o.udid false 0 false)
    × ((kind_of o.udid ≡ 1 → o' ≡ having o o.udid o.valid o.address false)
    × ((kind_of o.udid ≡ 2 → o' ≡ having o o.udid false 0 false)
    × (kind_of o.udid ≡ 3 → (o' ≡ having o o'.udid false 0 false) × (udid_bytes o'.udid ≡ take 12 (udid_bytes o.udid) ++ bytes_of 4 o.fresh)))))

-- WHAT POWER ON MAKES OF THE IDENTIFIER u, the stored address a and the fresh bytes f (Table 9): AR is clear. A fixed and a persistent module have the
-- stored address, if it is one; the others have none, and a random one takes the fresh bytes into its identifier
abbrev pub PowersOn : Udid → ℕ → ℕ → Lasting → Type 0
PowersOn u a f o =
    ((o.resolved ≡ false) × ((o.home ≡ a) × (o.fresh ≡ f)))
    × ((kind_of u ≤ 1 → a < 128 → (o.udid ≡ u) × ((o.valid ≡ true) × (o.address ≡ a)))
    × ((kind_of u ≤ 1 → 127 < a → (o.udid ≡ u) × ((o.valid ≡ false) × (o.address ≡ 0)))
    × ((kind_of u ≡ 2 → (o.udid ≡ u) × ((o.valid ≡ false) × (o.address ≡ 0)))
    × (kind_of u ≡ 3 → (udid_bytes o.udid ≡ take 12 (udid_bytes u) ++ bytes_of 4 f) × ((o.valid ≡ false) × (o.address ≡ 0))))))

-- A COMMAND WHOSE PEC IS DUE NEXT, of the three that take effect with it: all bytes before the PEC
abbrev pub PecDue : Lasting → List ℕ → Type 0
PecDue o xs =
    (xs ≡ 0xC2 ∷ 0x01 ∷ [])
    ⊎ ((xs ≡ 0xC2 ∷ 0x02 ∷ [])
    ⊎ ((Reachable o × (xs ≡ 0xC2 ∷ 2 * o.address ∷ []))
    ⊎ ((x : ℕ) × (xs ≡ 0xC2 ∷ 0x04 ∷ 17 ∷ (udid_bytes o.udid ++ (x ∷ []))))))
