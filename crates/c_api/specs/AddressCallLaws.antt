-- What the questions on an address answer for C: 1 exactly where the case holds, and 0 exactly where it does not.
use Rattle.std.specs.Prelude.{◌≡◌, true, ◌↔◌, ℕ, ◌%◌, ◌<◌, ltb, eqb}
use Rattle.lists.specs.TestLaws.{eqb_is, ltb_is, or_is}
use Rattle.wire.specs.Addresses.{is_reserved, is_preassigned, is_listed}
use Rattle.wire.proofs.AddressLaws.{reserved_is, preassigned_is}
use Rattle.c_codec.specs.Numbers.{bit, Says}
use Rattle.c_api.specs.PoolParts.{Reserved, Listed}
use Rattle.c_codec.specs.NumberLaws.{bit_says}

pub hb_wire_is_read : (byte r : ℕ) → r ≡ bit (eqb (byte % 2) 1) → Says r (byte % 2 ≡ 1)
hb_wire_is_read byte r e = bit_says (eqb (byte % 2) 1) (eqb_is (byte % 2) 1) r e

pub hb_is_seven_bit : (address r : ℕ) → r ≡ bit (ltb address 128) → Says r (address < 128)
hb_is_seven_bit address r e = bit_says (ltb address 128) (ltb_is address 128) r e

pub hb_is_default : (address r : ℕ) → r ≡ bit (eqb address 0x61) → Says r (address ≡ 0x61)
hb_is_default address r e = bit_says (eqb address 0x61) (eqb_is address 0x61) r e

pub hb_is_host : (address r : ℕ) → r ≡ bit (eqb address 0x08) → Says r (address ≡ 0x08)
hb_is_host address r e = bit_says (eqb address 0x08) (eqb_is address 0x08) r e

pub hb_is_alert_response : (address r : ℕ) → r ≡ bit (eqb address 0x0C) → Says r (address ≡ 0x0C)
hb_is_alert_response address r e = bit_says (eqb address 0x0C) (eqb_is address 0x0C) r e

pub hb_is_reserved : (address r : ℕ) → r ≡ bit (is_reserved address) → Says r (Reserved address)
hb_is_reserved address r e = bit_says (is_reserved address) (reserved_is address) r e

pub listed_in_numbers : (a : ℕ) → (is_listed a ≡ true) ↔ Listed a
unfolding is_listed
listed_in_numbers a = or_is (is_reserved a) (is_preassigned a) (reserved_is a) (preassigned_is a)

pub hb_is_listed : (address r : ℕ) → r ≡ bit (is_listed address) → Says r (Listed address)
hb_is_listed address r e = bit_says (is_listed address) (listed_in_numbers address) r e
