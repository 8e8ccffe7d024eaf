-- Bytes with their ACKs, place by place: byte i stands at place 2 i, and what it gets at place 2 i + 1. LengthLaws has the lengths,
-- which are twice those of the bytes.
use Rattle.std.specs.Prelude.{◌≡◌, refl, List, [], ◌∷◌, ℕ, zero, suc, ◌+◌, ◌*◌, ◌<◌, length, get_or}
use Rattle.std.proofs.Common.{ap, ◌∙◌, arith}
use Rattle.trace.specs.Trace.{acked, nacked}

pub double_suc : (i : ℕ) → 2 * suc i ≡ suc (suc (2 * i))
double_suc i = omega arith

pub double_suc_plus_one : (i : ℕ) → 2 * suc i + 1 ≡ suc (suc (2 * i + 1))
double_suc_plus_one i = omega arith

pub acked_byte : (bs : List ℕ) (i : ℕ) → i < length bs → get_or (acked bs) (2 * i) 0 ≡ get_or bs i 0
acked_byte [] i h = absurd (omega arith)
acked_byte (b ∷ bs) zero h = refl
acked_byte (b ∷ bs) (suc i) h = ap (λ (k : ℕ). get_or (acked (b ∷ bs)) k 0) (double_suc i) ∙ acked_byte bs i (omega arith)

-- each gets ACK
pub acked_ack : (bs : List ℕ) (i : ℕ) → i < length bs → get_or (acked bs) (2 * i + 1) 0 ≡ 258
acked_ack [] i h = absurd (omega arith)
acked_ack (b ∷ bs) zero h = refl
acked_ack (b ∷ bs) (suc i) h = ap (λ (k : ℕ). get_or (acked (b ∷ bs)) k 0) (double_suc_plus_one i) ∙ acked_ack bs i (omega arith)

pub nacked_byte : (bs : List ℕ) (i : ℕ) → i < length bs → get_or (nacked bs) (2 * i) 0 ≡ get_or bs i 0
nacked_byte [] i h = absurd (omega arith)
nacked_byte (b ∷ bs) zero h = refl
nacked_byte (b ∷ bs) (suc i) h = ap (λ (k : ℕ). get_or (nacked (b ∷ bs)) k 0) (double_suc i) ∙ nacked_byte bs i (omega arith)

-- the last received gets NACK, each before it ACK
pub nacked_ack : (bs : List ℕ) (i : ℕ) → i + 1 < length bs → get_or (nacked bs) (2 * i + 1) 0 ≡ 258
nacked_ack [] i h = absurd (omega arith)
nacked_ack (b ∷ []) i h = absurd (omega arith)
nacked_ack (b ∷ c ∷ bs) zero h = refl
nacked_ack (b ∷ c ∷ bs) (suc i) h = ap (λ (k : ℕ). get_or (nacked (b ∷ c ∷ bs)) k 0) (double_suc_plus_one i) ∙ nacked_ack (c ∷ bs) i (omega arith)

pub nacked_last : (bs : List ℕ) (i : ℕ) → i + 1 ≡ length bs → get_or (nacked bs) (2 * i + 1) 0 ≡ 259
nacked_last [] i h = absurd (omega arith)
nacked_last (b ∷ []) zero h = refl
nacked_last (b ∷ []) (suc i) h = absurd (omega arith)
nacked_last (b ∷ c ∷ bs) zero h = absurd (omega arith)
nacked_last (b ∷ c ∷ bs) (suc i) h = ap (λ (k : ℕ). get_or (nacked (b ∷ c ∷ bs)) k 0) (double_suc_plus_one i) ∙ nacked_last (c ∷ bs) i (omega arith)
