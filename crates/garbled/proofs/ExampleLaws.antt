-- EXAMPLES, so that the promises on a changed trace speak of some. A Write Byte whose data byte came with its last bit flipped: answered with 7
-- at PEC's place. A Block Write of 12 bytes, 16 in all, whose very first and very last bit were flipped: answered with 0.
use Rattle.std.specs.Prelude.{◌≡◌, refl, Bool, true, false, List, [], ◌∷◌, ◌++◌, ◌⊎◌, ℕ, ◌<◌, eqb, length, get_or, replicate}
use Rattle.std.proofs.Common.{subst, sym, inl, inr, arith, eqb-true}
use Rattle.lists.specs.AllLaws.{at_below}
use Rattle.lists.specs.Choice.{or}
use Rattle.lists.specs.EachLaws.{zeros_bytes}
use Rattle.pec.specs.Pec.{bit_step, pec_step, pec_from}
use Rattle.trace.specs.Rows.{message}
use Rattle.trace.specs.Table.{TraceOf, write_byte, block_write}
use Rattle.trace.specs.Trace.{Message, acked}
use Rattle.scan.specs.BytesIn.{bytes_in}
use Rattle.scan.specs.Numbers.{decode_number}
use Rattle.scan.specs.Decoded.{Decoded}
use Rattle.decode.specs.NumberLaws.{decode_0}
use Rattle.decode.specs.Outcome.{Entered, Outcome}
use Rattle.catches.proofs.BurstLaws.{eight_bits_caught}
use Rattle.catches.specs.Changes.{Came, Within, TwoBits}
use Rattle.catches.proofs.FlipLaws.{one_bit_is, two_bits_are}
use Rattle.garbled.specs.Places.{MayDiffer, Changed}
use Rattle.garbled.proofs.StaysLaws.{stays}
use Rattle.garbled.specs.VerdictLaws.{bytes_are_bytes, sent_right, caught_is_seven}

-- ---- Write Byte: 55h came as 54h

abbrev written : Message
written = message 0x10 0 0x07 (0x55 ∷ []) []

abbrev pub byte_sent : List ℕ
byte_sent = 256 ∷ 0x20 ∷ 258 ∷ 0x07 ∷ 258 ∷ 0x55 ∷ 258 ∷ 0x84 ∷ 258 ∷ 257 ∷ []

abbrev pub byte_came : List ℕ
byte_came = 256 ∷ 0x20 ∷ 258 ∷ 0x07 ∷ 258 ∷ 0x54 ∷ 258 ∷ 0x84 ∷ 258 ∷ 257 ∷ []

byte_sent_lem : TraceOf 3 true written byte_sent
unfolding bit_step pec_step pec_from
byte_sent_lem = (_, write_byte 0x10 0x07 0x55 (omega arith) (omega arith) (omega arith) refl, refl, refl, refl)

byte_changed : Changed 3 written byte_sent byte_came
byte_changed = record { as_long = refl; places = λ k h. go k (eqb (get_or byte_came k 0) (get_or byte_sent k 0)) refl (at_below alike 10 refl k h) }
  where
    alike : ℕ → Bool
    alike k = or (eqb (get_or byte_came k 0) (get_or byte_sent k 0)) (eqb k 5)

    go : (k : ℕ) (b : Bool) → eqb (get_or byte_came k 0) (get_or byte_sent k 0) ≡ b → or b (eqb k 5) ≡ true
        → (get_or byte_came k 0 ≡ get_or byte_sent k 0) ⊎ (MayDiffer 3 written 10 k × (get_or byte_came k 0 < 256))
    go k true e t = inl (eqb-true (get_or byte_came k 0) (get_or byte_sent k 0) e)
    go k false e t = let p = eqb-true k 5 t in inr (inr (inl (0, omega arith, p)), subst (λ (n : ℕ). get_or byte_came n 0 < 256) (sym p) (omega arith))

-- bit 7 of byte 2
byte_flipped : Came (bytes_in byte_sent) (bytes_in byte_came) × Within 8 (bytes_in byte_sent) (bytes_in byte_came)
byte_flipped = one_bit_is (bytes_in byte_sent) (bytes_are_bytes byte_sent) (sent_right 3 written byte_sent byte_sent_lem) 2 7 (omega arith) (omega arith)

pub byte_is_seven : (sent₀ received₀ : List ℕ) (a : Decoded) (sent received : List ℕ) → Entered 3 true sent₀ received₀ → Outcome 3 true byte_came sent₀ received₀ a sent received
    → (decode_number a ≡ (7, 7)) × (sent ≡ sent₀) × (received ≡ received₀)
byte_is_seven sent₀ received₀ a sent received h o =
    caught_is_seven 3 byte_came sent₀ received₀ a sent received o h (stays 3 written byte_sent byte_sent_lem byte_came byte_changed).0
    (eight_bits_caught (bytes_in byte_sent) (bytes_in byte_came) byte_flipped.0 byte_flipped.1)

-- ---- Block Write of 12 bytes: the highest bit of the address and the lowest of the PEC

abbrev pub block_sent : List ℕ
block_sent = 256 ∷ 0x20 ∷ 258 ∷ 0x07 ∷ 258 ∷ 12 ∷ 258 ∷ (acked (replicate 12 0) ++ 0x95 ∷ 258 ∷ 257 ∷ [])

abbrev pub block_came : List ℕ
block_came = 256 ∷ 0xA0 ∷ 258 ∷ 0x07 ∷ 258 ∷ 12 ∷ 258 ∷ (acked (replicate 12 0) ++ 0x94 ∷ 258 ∷ 257 ∷ [])

block_sent_lem : TraceOf 8 true (message 0x10 0 0x07 (replicate 12 0) []) block_sent
unfolding bit_step pec_step pec_from
block_sent_lem = (_, block_write 0x10 0x07 (replicate 12 0) (omega arith) (omega arith) (zeros_bytes 12) (omega arith) refl, refl, refl, refl)

block_came_lem : TraceOf 8 true (message 0x50 0 0x07 (replicate 12 0) []) block_came
unfolding bit_step pec_step pec_from
block_came_lem = (_, block_write 0x50 0x07 (replicate 12 0) (omega arith) (omega arith) (zeros_bytes 12) (omega arith) refl, refl, refl, refl)

block_flipped : Came (bytes_in block_sent) (bytes_in block_came) × TwoBits (bytes_in block_sent) (bytes_in block_came) 0 0 15 7
block_flipped = two_bits_are (bytes_in block_sent) (bytes_are_bytes block_sent) (sent_right 8 _ block_sent block_sent_lem) 0 0 15 7 (omega arith) (omega arith) (omega arith) (omega arith)

-- 16 bytes in all, of which two bits were flipped, and it is a good message to 50h
pub block_escapes : (length (bytes_in block_sent) ≡ 16) × TwoBits (bytes_in block_sent) (bytes_in block_came) 0 0 15 7
    × ((sent₀ received₀ : List ℕ) (a : Decoded) (sent received : List ℕ) → Entered 8 true sent₀ received₀ → Outcome 8 true block_came sent₀ received₀ a sent received → decode_number a ≡ (0, 0))
block_escapes = (refl, block_flipped.1, λ sent₀ received₀ a sent received h o. (decode_0 8 true block_came sent₀ received₀ a sent received o).1 (h, (_, block_came_lem)))
