-- What the decoder answers: the transaction, or the refusal with its place.
use Rattle.std.specs.Prelude.{ℕ, Result, Err}
use Rattle.trace.specs.declared.transaction.Transaction.{Transaction}
use Rattle.scan.specs.declared.answer.Refusal.{Refusal}
use Rattle.scan.specs.declared.answer.Refused.{Refused}

abbrev pub Decoded : Type 0
Decoded = Result Transaction Refused

abbrev pub refusal_at : Refusal → ℕ → Refused
refusal_at w k = record { why = w; place = k }

abbrev pub refused : Refusal → ℕ → Decoded
refused w k = Err (refusal_at w k)
