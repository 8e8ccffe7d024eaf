-- The fields of records by the bytes of the list: when two identifiers are equal, and which target is fixed. Past the end of the list
-- every byte counts as zero.
use Rattle.std.specs.Prelude.{ℕ, zero, suc, ◌+◌, ◌*◌, ◌/◌, ◌≤◌, ◌≡◌, refl, true, ◌↔◌, List, ◌∷◌, eqb, length, get_or, take, drop, replicate}
use Rattle.std.proofs.Common.{sym, ap, ap₂, ◌∙◌, inl, add-zero, arith, get_or-take, get_or-drop}
use Rattle.std.proofs.Math.ListN.{get_or-eq_default}
use Rattle.lists.specs.Each.{Bytes}
use Rattle.wire.specs.Addresses.{is_reserved}
use Rattle.pool.specs.Pools.{member}
use Rattle.pool.specs.Start.{barred_pool}
use Rattle.pool.proofs.StartLaws.{member_barred}
use Rattle.pool.specs.declared.Pool.{Pool}
use Rattle.udid.specs.Bytes.{number, number_from, bytes_from, udid_at}
use Rattle.udid.specs.Udids.{is_fixed}
use Rattle.udid.proofs.UdidLaws.{fits_at, bytes_back, same_bytes, top_of_first}
use Rattle.targets.specs.Records.{udid_of, address_byte}
use Rattle.targets.specs.Cases.{TakenAt}

-- ---- past the end

from_past : (n : ℕ) (s : List ℕ) (i : ℕ) → length s ≤ i → bytes_from s i n ≡ replicate n 0
unfolding bytes_from
from_past zero s i h = refl
from_past (suc n) s i h = ap₂ ◌∷◌ (get_or-eq_default s 0 h) (from_past n s (suc i) (omega arith))

zeros : number (replicate 8 0) ≡ 0
unfolding number_from
zeros = refl

pub udid_past_end : (s : List ℕ) (i : ℕ) → length s ≤ i → udid_at s i ≡ record { high = 0; low = 0 }
unfolding udid_at
udid_past_end s i h =
    let a : number (bytes_from s i 8) ≡ 0 = ap number (from_past 8 s i h) ∙ zeros in
    let b : number (bytes_from s (i + 8) 8) ≡ 0 = ap number (from_past 8 s (i + 8) (omega arith)) ∙ zeros in
    λ k. record { high = a k; low = b k }

-- ---- by the bytes

module _ (s : List ℕ) (b : Bytes s) where
  -- two records have equal identifiers if and only if their first 16 bytes are the same
  pub same_udid_bytes : (i j : ℕ) → i * 18 + 16 ≤ length s → j * 18 + 16 ≤ length s → (take 16 (drop (i * 18) s) ≡ take 16 (drop (j * 18) s)) ↔ (udid_of s i ≡ udid_of s j)
  same_udid_bytes i j h g =
      let r = same_bytes (udid_of s i) (udid_of s j) (fits_at s (i * 18) b) (fits_at s (j * 18) b) in
      let p = bytes_back s (i * 18) b h in
      let q = bytes_back s (j * 18) b g in (
        λ e. r.0 (p ∙ e ∙ sym q),
        λ e. sym p ∙ r.1 e ∙ q,
      )

  -- a target is fixed if and only if the top two bits of its first byte are zero
  pub fixed_by_first_byte : (i : ℕ) → i * 18 + 16 ≤ length s → is_fixed (udid_of s i) ≡ eqb (get_or s (i * 18) 0 / 64) 0
  fixed_by_first_byte i h =
      ap (λ (x : ℕ). eqb x 0)
      (top_of_first (udid_of s i) (fits_at s (i * 18) b)
      ∙ ap (λ (l : List ℕ). get_or l 0 0 / 64) (bytes_back s (i * 18) b h)
      ∙ ap (λ (x : ℕ). x / 64) (get_or-take 16 (drop (i * 18) s) 0 0 (omega arith) ∙ get_or-drop (i * 18) s 0 0 ∙ ap (λ (k : ℕ). get_or s k 0) (add-zero (i * 18))))

-- a fixed target with no address, FFh, counts as one at 7Fh, which is reserved: it is refused
pub fixed_without_address_taken : (occupied : Pool) (s : List ℕ) (i : ℕ) → is_fixed (udid_of s i) ≡ true → address_byte s i ≡ 0xFF → TakenAt (barred_pool occupied) s i
unfolding is_reserved
fixed_without_address_taken occupied s i f e =
    let k : address_byte s i / 2 ≡ 127 = omega arith in
    (f, inl (ap (member (barred_pool occupied)) k ∙ member_barred occupied 127))
