-- One possible answer, and one content of each buffer alone. Only the decoder needs a proof of its own, as its contract names an outcome.
-- The other contracts of this crate are equations for each part, and leave one by themselves.
use Rattle.std.specs.Prelude.{◌≡◌, Bool, List, ℕ}
use Rattle.std.proofs.Common.{sym, ◌∙◌, ap}
use Rattle.trace.specs.Trace.{Message}
use Rattle.c_codec.specs.declared.answer.HbDecoded.{HbDecoded}
use Rattle.c_codec.specs.declared.codec.HbWritten.{HbWritten}
use Rattle.c_codec.specs.declared.last_data.HbPart.{HbPart}
use Rattle.decode.specs.OutcomeLaws.{one_outcome}
use Rattle.c_codec.specs.Codec.{told_decoded, WrotePairs, WroteSymbols, ReadSymbols}
use Rattle.c_codec.specs.LastData.{Copied}

-- the encoder, over byte pairs
pub one_written : (protocol : ℕ) (pec : Bool) (t : Message) (before : List ℕ) (r r' : HbWritten) (after after' : List ℕ) → WrotePairs protocol pec t before r after
    → WrotePairs protocol pec t before r' after' → (r ≡ r') × (after ≡ after')
one_written protocol pec t before r r' after after' x y = (x.answer ∙ sym y.answer, x.output ∙ sym y.output)

-- the encoder, over symbols
pub one_written_symbols : (protocol : ℕ) (pec : Bool) (t : Message) (before : List ℕ) (r r' : HbWritten) (after after' : List ℕ)
    → WroteSymbols protocol pec t before r after → WroteSymbols protocol pec t before r' after' → (r ≡ r') × (after ≡ after')
one_written_symbols protocol pec t before r r' after after' x y = (x.answer ∙ sym y.answer, x.output ∙ sym y.output)

-- the decoder
pub one_read : (protocol : ℕ) (pec : Bool) (tr sent₀ received₀ : List ℕ) (h k : HbDecoded) (s t r q : List ℕ) → ReadSymbols protocol pec tr sent₀ received₀ h s r
    → ReadSymbols protocol pec tr sent₀ received₀ k t q → (h ≡ k) × (s ≡ t) × (r ≡ q)
one_read protocol pec tr sent₀ received₀ h k s t r q v w =
    let o = one_outcome protocol pec tr sent₀ received₀ v.answer w.answer s t r q v.outcome w.outcome in
    (v.is_told ∙ ap told_decoded o.0 ∙ sym w.is_told, o.1, o.2)

-- the last data phase
pub one_copy : (bytes before : List ℕ) (r r' : HbPart) (after after' : List ℕ) → Copied bytes before r after → Copied bytes before r' after'
    → (r ≡ r') × (after ≡ after')
one_copy bytes before r r' after after' x y = (x.answer ∙ sym y.answer, x.output ∙ sym y.output)
