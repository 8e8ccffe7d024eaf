-- Changes that leave the shape of a trace as it is: its command, its data and its PEC come as other bytes, and its addresses and its counts as
-- they were.
use Rattle.std.specs.Prelude.{◌≡◌, List, [], ◌∷◌, ◌⊎◌, ℕ, ◌+◌, ◌*◌, ◌≤◌, ◌<◌, length, get_or}
use Rattle.trace.specs.Trace.{Message}

-- where the data sent begin, by the protocol: behind S, the address byte, the command and the count, each byte with its ACK. 0 where none is sent
abbrev pub sent_from : ℕ → ℕ
sent_from protocol = get_or (0 ∷ 3 ∷ 0 ∷ 5 ∷ 5 ∷ 0 ∷ 0 ∷ 5 ∷ 7 ∷ 0 ∷ 7 ∷ []) protocol 0

-- the place k in the trace of a message, of so many symbols: it has the command; or data byte i sent; or the byte that is i bytes before the
-- last one, which is the PEC for i = 0, and else received data
abbrev pub MayDiffer : ℕ → Message → ℕ → ℕ → Type 0
MayDiffer protocol m symbols k =
    ((2 < protocol) × (k ≡ 3)) ⊎ (((i : ℕ) × (i < length m.sent) × (k ≡ sent_from protocol + 2 * i)) ⊎ ((i : ℕ) × (i ≤ length m.received) × (k + 3 + 2 * i ≡ symbols)))

-- tr' has as many symbols as the trace tr of the message m, and at each place what tr has, or else a byte where it may differ
pub record Changed (protocol : ℕ) (m : Message) (tr tr' : List ℕ) : Type 0 where
  pub as_long : length tr' ≡ length tr
  pub places : (k : ℕ) → k < length tr → (get_or tr' k 0 ≡ get_or tr k 0) ⊎ (MayDiffer protocol m (length tr) k × (get_or tr' k 0 < 256))
