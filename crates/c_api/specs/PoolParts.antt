-- Addresses and pools for C, in numbers.
use Rattle.std.specs.Prelude.{◌≡◌, ◌⊎◌, ℕ, ◌-◌, ◌/◌, ◌%◌, ◌^◌, ◌≤◌, ◌<◌}

-- the 21 addresses on which no target may stand
abbrev pub Reserved : ℕ → Type 0
Reserved a = (a ≤ 0x08) ⊎ ((a ≡ 0x0C) ⊎ ((a ≡ 0x28) ⊎ ((a ≡ 0x37) ⊎ ((a ≡ 0x61) ⊎ ((0x78 ≤ a) × (a ≤ 0x7F))))))

-- the 35 of Table 17, which are never picked, and never kept by a movable target: those, and 14 more
abbrev pub Listed : ℕ → Type 0
Listed a = Reserved a ⊎ (((0x09 ≤ a) × (a ≤ 0x0B)) ⊎ (((0x2C ≤ a) × (a ≤ 0x2D)) ⊎ (((0x40 ≤ a) × (a ≤ 0x44)) ⊎ ((0x48 ≤ a) × (a ≤ 0x4B)))))

-- bit a of the low half is address a, bit a of the high half is address 64 + a; no other number is in a pool
abbrev pub InPool : ℕ → ℕ → ℕ → Type 0
InPool low high a = ((a < 64) × (low / 2 ^ a % 2 ≡ 1)) ⊎ ((64 ≤ a) × (a < 128) × (high / 2 ^ (a - 64) % 2 ≡ 1))
