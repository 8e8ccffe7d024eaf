-- What the functions on identifiers answer for C: the first eight bytes on the wire are the high half, highest byte first.
use Rattle.std.specs.Prelude.{◌≡◌, List, [], ◌∷◌, ℕ, ◌+◌, ◌*◌, ◌/◌, ◌^◌, ◌≤◌, ◌<◌, eqb, length, replicate}
use Rattle.std.proofs.Common.{ap, ◌∙◌, arith}
use Rattle.std.proofs.Math.Logic.Iff.{trans as iff_trans}
use Rattle.lists.specs.TestLaws.{eqb_is, ltb_is, and_is}
use Rattle.udid.specs.Bytes.{number_from, bytes_of, bytes_from, udid_bytes, udid_at, put_at}
use Rattle.udid.proofs.UdidLaws.{put_back}
use Rattle.udid.specs.Udids.{same_udid, is_below, is_fixed}
use Rattle.c_arp.specs.declared.parts.HbUdid.{HbUdid}
use Rattle.c_codec.specs.Numbers.{bit, Says}
use Rattle.c_arp.specs.Parts.{udid_in, told_udid}
use Rattle.c_codec.specs.NumberLaws.{bit_says}

pub hb_udid_from_bytes : (r : HbUdid)
    → r ≡ told_udid (udid_at (0xEE ∷ 0x01 ∷ 0x02 ∷ 0x03 ∷ 0x04 ∷ 0x05 ∷ 0x06 ∷ 0x07 ∷ 0x08 ∷ 0x09 ∷ 0x0A ∷ 0x0B ∷ 0x0C ∷ 0x0D ∷ 0x0E ∷ 0x0F ∷ 0x10 ∷ 0xEE ∷ []) 1)
    → r ≡ record { high = 0x0102030405060708; low = 0x090A0B0C0D0E0F10 }
unfolding udid_at bytes_from number_from
hb_udid_from_bytes r e = e

pub hb_udid_put_bytes : (after : List ℕ)
    → after ≡ put_at (replicate 18 0xEE) 1 (udid_bytes (udid_in (record { high = 0x0102030405060708; low = 0x090A0B0C0D0E0F10 })))
    → after ≡ 0xEE ∷ 0x01 ∷ 0x02 ∷ 0x03 ∷ 0x04 ∷ 0x05 ∷ 0x06 ∷ 0x07 ∷ 0x08 ∷ 0x09 ∷ 0x0A ∷ 0x0B ∷ 0x0C ∷ 0x0D ∷ 0x0E ∷ 0x0F ∷ 0x10 ∷ 0xEE ∷ []
unfolding put_at udid_bytes bytes_of
hb_udid_put_bytes after e = e

-- written and read again at a place that has room: both halves come back
pub hb_udid_back : (udid : HbUdid) (at : ℕ) (before after : List ℕ) (r : HbUdid) → udid.high < 2 ^ 64 → udid.low < 2 ^ 64 → at + 16 ≤ length before
    → after ≡ put_at before at (udid_bytes (udid_in udid)) → r ≡ told_udid (udid_at after at) → (r.high ≡ udid.high) × (r.low ≡ udid.low)
hb_udid_back udid at before after r hh hl room e f =
    let q : r ≡ told_udid (udid_in udid) = f ∙ ap told_udid (ap (λ (l : List ℕ). udid_at l at) e ∙ put_back before at (udid_in udid) (record { high = hh; low = hl }) room) in
    (ap (λ (x : HbUdid). x.high) q, ap (λ (x : HbUdid). x.low) q)

pub hb_udid_is_same : (one other : HbUdid) (r : ℕ) → r ≡ bit (same_udid (udid_in one) (udid_in other)) → Says r ((one.high ≡ other.high) × (one.low ≡ other.low))
hb_udid_is_same one other r e =
    bit_says (same_udid (udid_in one) (udid_in other))
    (and_is (eqb one.high other.high) (eqb one.low other.low) (eqb_is one.high other.high) (eqb_is one.low other.low)) r e

pub hb_udid_is_below : (one other : HbUdid) (r : ℕ) → r ≡ bit (is_below (udid_in one) (udid_in other))
    → Says r (one.high * 2 ^ 64 + one.low < other.high * 2 ^ 64 + other.low)
hb_udid_is_below one other r e =
    bit_says (is_below (udid_in one) (udid_in other)) (ltb_is (one.high * 2 ^ 64 + one.low) (other.high * 2 ^ 64 + other.low)) r e

-- the top two bits are 00
pub hb_udid_is_fixed : (udid : HbUdid) (r : ℕ) → r ≡ bit (is_fixed (udid_in udid)) → Says r (udid.high < 2 ^ 62)
hb_udid_is_fixed udid r e =
    bit_says (is_fixed (udid_in udid)) (iff_trans (eqb_is (udid.high / 2 ^ 62) 0) (λ q. omega (arith, q), λ h. omega arith)) r e
