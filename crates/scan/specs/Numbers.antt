-- The scope's number of each answer, and the place, length or byte that comes with it; 0 where nothing comes.
use Rattle.std.specs.Prelude.{Bool, ℕ, eqb, Ok, Err}
use Rattle.scan.specs.Decoded.{Decoded}
use Rattle.scan.specs.declared.answer.Refusal.{Refusal}
use Rattle.scan.specs.declared.answer.Refusal.TheVariants.{Forbidden, BufferTooShort, NoSymbol, EndsEarly, Unexpected, NotAcknowledged, PecDiffers, AfterStop, WrongAck, WrongAddress, WrongCount}

abbrev pub refusal_number : Refusal → ℕ
refusal_number Forbidden = 1
refusal_number BufferTooShort = 2
refusal_number NoSymbol = 3
refusal_number EndsEarly = 4
refusal_number Unexpected = 5
refusal_number NotAcknowledged = 6
refusal_number PecDiffers = 7
refusal_number AfterStop = 8
refusal_number WrongAck = 17
refusal_number WrongAddress = 18
refusal_number WrongCount = 19

abbrev pub decode_number : Decoded → ℕ × ℕ
decode_number (Ok t) = (0, 0)
decode_number (Err e) = (refusal_number e.why, e.place)

-- a byte that the target did not acknowledge
abbrev pub is_nack : Refusal → Bool
is_nack w = eqb (refusal_number w) (refusal_number NotAcknowledged)
