-- The symbols of a trace that are no bytes.
use Rattle.std.specs.Prelude.{ℕ}

abbrev pub START : ℕ
START = 256

abbrev pub STOP : ℕ
STOP = 257

abbrev pub ACK : ℕ
ACK = 258

abbrev pub NACK : ℕ
NACK = 259
