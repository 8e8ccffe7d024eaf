-- The reply of a target as a trace: a Block Read of command 03h from 61h with PEC, whose received bytes are those that the target sends.
use Rattle.std.specs.Prelude.{ℕ, ◌≡◌, true, List, [], ◌∷◌, ◌++◌}
use Rattle.std.proofs.Common.{ap}
use Rattle.wire.specs.Symbols.{START, STOP, ACK}
use Rattle.pec.specs.Pec.{pec_of}
use Rattle.trace.specs.Shapes.{shape_of}
use Rattle.trace.specs.Trace.{trace, nacked}
use Rattle.targets.specs.Target.{Target}
use Rattle.targets.specs.Reply.{reply_data, covered_bytes, reply_pec, reply_bytes, got_udid}
use Rattle.targets.specs.ReplyLaws.{length_reply_data}

counted : List ℕ → ℕ → ℕ → List ℕ
counted ds n c = START ∷ 0xC2 ∷ ACK ∷ 0x03 ∷ ACK ∷ START ∷ 0xC3 ∷ ACK ∷ (nacked (n ∷ (ds ++ c ∷ [])) ++ STOP ∷ [])

pub reply_trace_lem : (t : Target) → trace (shape_of 9) true (got_udid (reply_data t))
    ≡ START ∷ 0xC2 ∷ ACK ∷ 0x03 ∷ ACK ∷ START ∷ 0xC3 ∷ ACK ∷ (nacked (reply_bytes t) ++ STOP ∷ [])
unfolding reply_bytes reply_pec covered_bytes counted
reply_trace_lem t = ap (λ (n : ℕ). counted (reply_data t) n (pec_of (0xC2 ∷ 0x03 ∷ 0xC3 ∷ n ∷ reply_data t))) (length_reply_data t)
