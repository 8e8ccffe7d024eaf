-- The decoder's state, made from its fields.
use Rattle.std.specs.Prelude.{Bool, true, ℕ}
use Rattle.step.specs.declared.next.Aim.{Aim}
use Rattle.step.specs.declared.state.Slot.{Slot}
use Rattle.step.specs.declared.state.Slot.TheVariants.{Start}
use Rattle.step.specs.declared.state.Due.{Due}
use Rattle.step.specs.declared.state.Due.TheVariants.{Nobody}
use Rattle.step.specs.declared.state.Decoder.{Decoder}

-- where to go next: the slot, and the data bytes that follow the next one there
abbrev pub to : Slot → ℕ → Aim
to s k = record { slot = s; left = k }

-- there, with what is due, PEC so far, the first address byte, the command, the two counts, and whether no PEC has come that differs
abbrev pub state : Aim → Due → ℕ → ℕ → ℕ → ℕ → ℕ → Bool → Decoder
state g a z f c m n ok = record { slot = g.slot; due = a; left = g.left; pec = z; first = f; command = c; sentcount = m; readcount = n; good = ok }

abbrev pub fresh : Decoder
fresh = state (to Start 0) Nobody 0 0 0 0 0 true
