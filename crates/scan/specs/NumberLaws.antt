-- Each refusal has a number of its own, and none is 0: a number and its place tell the answer.
use Rattle.std.specs.Prelude.{◌≡◌, refl, true, List, [], ◌∷◌, ℕ, ◌-◌, ◌≤◌, get_or, Ok, Err}
use Rattle.std.proofs.Common.{sym, ap, ◌∙◌, arith, eqb-true}
use Rattle.trace.specs.declared.transaction.Transaction.{Transaction}
use Rattle.scan.specs.Decoded.{Decoded, refused}
use Rattle.scan.specs.declared.answer.Refusal.{Refusal}
use Rattle.scan.specs.declared.answer.Refusal.TheVariants.{Forbidden, BufferTooShort, NoSymbol, EndsEarly, Unexpected, NotAcknowledged, PecDiffers, AfterStop, WrongAck, WrongAddress, WrongCount}
use Rattle.scan.specs.Numbers.{refusal_number, decode_number, is_nack}

-- the refusals from 1 on, and those from 17 on
abbrev low : List Refusal
low = Forbidden ∷ Forbidden ∷ BufferTooShort ∷ NoSymbol ∷ EndsEarly ∷ Unexpected ∷ NotAcknowledged ∷ PecDiffers ∷ AfterStop ∷ []

abbrev high : List Refusal
high = WrongAck ∷ WrongAddress ∷ WrongCount ∷ []

-- the refusal of a number
abbrev numbered : ℕ → Refusal
numbered n = get_or low n (get_or high (n - 17) Forbidden)

numbered_is : (w : Refusal) → (w ≡ numbered (refusal_number w)) × (1 ≤ refusal_number w)
numbered_is Forbidden = (refl, omega arith)
numbered_is BufferTooShort = (refl, omega arith)
numbered_is NoSymbol = (refl, omega arith)
numbered_is EndsEarly = (refl, omega arith)
numbered_is Unexpected = (refl, omega arith)
numbered_is NotAcknowledged = (refl, omega arith)
numbered_is PecDiffers = (refl, omega arith)
numbered_is AfterStop = (refl, omega arith)
numbered_is WrongAck = (refl, omega arith)
numbered_is WrongAddress = (refl, omega arith)
numbered_is WrongCount = (refl, omega arith)

-- a refusal's number is not 0, the number of Done
pub refusal_is_not_0 : (w : Refusal) → 1 ≤ refusal_number w
refusal_is_not_0 w = (numbered_is w).1

-- two refusals with the same number are one
pub one_refusal : (w v : Refusal) → refusal_number w ≡ refusal_number v → w ≡ v
one_refusal w v e = (numbered_is w).0 ∙ ap numbered e ∙ sym (numbered_is v).0

pub nack_is : (w : Refusal) → is_nack w ≡ true → w ≡ NotAcknowledged
nack_is w e = one_refusal w NotAcknowledged (eqb-true (refusal_number w) 6 e)

-- the answer, from its number
pub done_of : (a : Decoded) → (decode_number a).0 ≡ 0 → (t : Transaction) × (a ≡ Ok t)
done_of (Ok t) e = (t, refl)
done_of (Err r) e = absurd (omega (arith, refusal_is_not_0 r.why))

pub refused_of : (a : Decoded) (w : Refusal) (k : ℕ) → decode_number a ≡ (refusal_number w, k) → a ≡ refused w k
refused_of (Ok t) w k e = absurd (let z : 0 ≡ refusal_number w = ap (λ (q : ℕ × ℕ). q.0) e in omega (arith, refusal_is_not_0 w))
refused_of (Err r) w k e =
    ap (λ (x : Refusal). refused x r.place) (one_refusal r.why w (ap (λ (q : ℕ × ℕ). q.0) e)) ∙ ap (refused w) (ap (λ (q : ℕ × ℕ). q.1) e)
