-- The three commands of a pass as symbols: 256 S, 257 P, 258 A, 259 N; 194 and 195 are C2h and C3h, the two bytes of 61h.
use Rattle.std.specs.Prelude.{ℕ, ◌≤◌, ◌<◌, List, [], ◌∷◌, ◌++◌, ◌≡◌, length}
use Rattle.lists.specs.Each.{Bytes}
use Rattle.pec.specs.Pec.{pec_of}
use Rattle.trace.specs.Trace.{acked}
use Rattle.udid.specs.Bytes.{udid_bytes}
use Rattle.udid.specs.declared.Udid.{Udid}

-- Prepare To ARP, acknowledged whole: S C2 A 01 A PEC A P
abbrev pub prepare_trace : List ℕ
prepare_trace = 256 ∷ 194 ∷ 258 ∷ 1 ∷ 258 ∷ 192 ∷ 258 ∷ 257 ∷ []

-- Get UDID with the bytes of a reply: S C2 A 03 A S C3 A, the count A, each byte with A, PEC N P
abbrev pub reply_trace : List ℕ → List ℕ
reply_trace xs =
    256 ∷ 194 ∷ 258 ∷ 3 ∷ 258 ∷ 256 ∷ 195 ∷ 258 ∷ length xs ∷ 258 ∷ (acked xs ++ pec_of (194 ∷ 3 ∷ 195 ∷ length xs ∷ xs) ∷ 259 ∷ 257 ∷ [])

-- Assign Address with the bytes of an identifier and an address byte, acknowledged whole: S C2 A 04 A 11 A, each byte of the identifier with A,
-- the address byte A, PEC A P
abbrev pub assign_trace : List ℕ → ℕ → List ℕ
assign_trace id b = 256 ∷ 194 ∷ 258 ∷ 4 ∷ 258 ∷ 17 ∷ 258 ∷ (acked id ++ b ∷ 258 ∷ pec_of (194 ∷ 4 ∷ 17 ∷ (id ++ b ∷ [])) ∷ 258 ∷ 257 ∷ [])

-- ---- which traces are replies

-- a trace is Get UDID with the bytes of some reply
abbrev pub Reply : List ℕ → Type 0
Reply tr = (xs : List ℕ) × Bytes xs × (length xs ≤ 255) × (tr ≡ reply_trace xs)

-- a trace is a reply of 17 bytes with this identifier
abbrev pub ReplyOf : Udid → List ℕ → Type 0
ReplyOf u tr = (b : ℕ) × (b < 256) × (tr ≡ reply_trace (udid_bytes u ++ b ∷ []))
