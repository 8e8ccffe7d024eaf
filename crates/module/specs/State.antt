-- A module in a phase, and its two answers to a byte.
use Rattle.std.specs.Prelude.{ℕ, true, false}
use Rattle.module.specs.declared.state.Phase.{Phase}
use Rattle.module.specs.declared.state.Phase.TheVariants.{Silent}
use Rattle.module.specs.declared.state.Lasting.{Lasting}
use Rattle.module.specs.declared.state.Module.{Module}
use Rattle.module.specs.declared.state.Heard.{Heard}

abbrev pub at : Lasting → Phase → ℕ → ℕ → ℕ → Module
at o ph k c g = record { own = o; phase = ph; place = k; pec = c; given = g }

abbrev pub silent_in : Lasting → Module
silent_in o = at o Silent 0 0 0

-- the byte fits: ACK
abbrev pub taken : Lasting → Phase → ℕ → ℕ → ℕ → Heard
taken o ph k c g = record { after = at o ph k c g; ack = true }

-- it does not: NACK, and for every byte up to the next START
abbrev pub refused : Lasting → Heard
refused o = record { after = silent_in o; ack = false }
