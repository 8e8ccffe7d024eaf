-- The decoder's states on a whole trace: where the controller's ACKs begin, and at the end.
use Rattle.std.specs.Prelude.{Bool, true, ℕ, ◌+◌, eqb}
use Rattle.lists.specs.Choice.{pick}
use Rattle.pec.specs.Pec.{pec_step, pec_from}
use Rattle.trace.specs.declared.shape.Part.{Part}
use Rattle.trace.specs.declared.shape.Shape.{Shape}
use Rattle.trace.specs.Shapes.{writes, reads}
use Rattle.trace.specs.Trace.{Message, first_byte, front, pec_of, counted}
use Rattle.step.specs.declared.state.Slot.TheVariants.{Stop, End}
use Rattle.step.specs.declared.state.Due.TheVariants.{Nobody}
use Rattle.step.specs.declared.state.Decoder.{Decoder}
use Rattle.step.specs.State.{to, state}
use Rattle.step.specs.Next.{to_read}

-- with w and r for a write phase and a read phase, a the part received, z the PEC so far, f the first address byte, c the command, m and n
-- the counts sent and received, y the byte in PEC's place
abbrev pub turned : Bool → Bool → Bool → Part → ℕ → ℕ → ℕ → ℕ → ℕ → Decoder
turned p w r a z f c m y =
    pick r (state (to_read a p) Nobody (pick w (pec_step z (f + 1)) z) f c m 0 true) (state (to Stop 0) Nobody z f c m 0 (pick p (eqb y z) true))

abbrev pub ended_at : Bool → ℕ → ℕ → ℕ → ℕ → ℕ → ℕ → Decoder
ended_at p z f c m n y = state (to End 0) Nobody z f c m n (pick p (eqb y z) true)

-- of the message t, with y in PEC's place
abbrev pub turn_state : Shape → Bool → Message → ℕ → Decoder
turn_state sh p t y = turned p (writes sh) (reads sh) sh.received (pec_from 0 (front sh t)) (first_byte sh t) t.command (counted sh.sent t.sent) y

abbrev pub end_state : Shape → Bool → Message → ℕ → Decoder
end_state sh p t y = ended_at p (pec_of sh t) (first_byte sh t) t.command (counted sh.sent t.sent) (counted sh.received t.received) y
