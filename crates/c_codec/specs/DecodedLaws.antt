-- What the decoder's answer for C says: the scope's number of an outcome of decode, the transaction with 0, and zeros with a refusal.
use Rattle.std.specs.Prelude.{◌≡◌, refl, Bool, List, ◌↔◌, ℕ, Ok, Err}
use Rattle.std.proofs.Common.{sym, ap, ◌∙◌, subst, arith}
use Rattle.trace.specs.declared.transaction.Transaction.{Transaction}
use Rattle.scan.specs.Decoded.{Decoded}
use Rattle.scan.specs.NumberLaws.{refusal_is_not_0}
use Rattle.scan.specs.Numbers.{decode_number}
use Rattle.decode.specs.Outcome.{Outcome}
use Rattle.c_codec.specs.declared.answer.HbDecoded.{HbDecoded}
use Rattle.c_codec.specs.Codec.{told_decoded, ReadSymbols}
use Rattle.c_codec.specs.DecodeParts.{OthersZero}

-- the answer and the value are the scope's
pub told_decoded_number : (a : Decoded) → ((told_decoded a).answer, (told_decoded a).value) ≡ decode_number a
told_decoded_number (Ok t) = refl
told_decoded_number (Err e) = refl

refusal_zeros : (a : Decoded) → ((told_decoded a).answer ≡ 0 → ⊥) → OthersZero (told_decoded a)
refusal_zeros (Ok t) z = absurd (z refl)
refusal_zeros (Err e) z = record { address = refl; direction = refl; command = refl; sent = refl; received = refl }

answer_0_done : (a : Decoded) → (told_decoded a).answer ≡ 0 → (u : Transaction) × (a ≡ Ok u)
answer_0_done (Ok u) e = (u, refl)
answer_0_done (Err r) e = absurd (omega (arith, refusal_is_not_0 r.why))

-- a pair, part by part
pub pair_parts : (a b n v : ℕ) → (◌≡◌ {A = ℕ × ℕ} (a, b) (n, v)) ↔ ((a ≡ n) × (b ≡ v))
pair_parts a b n v = (λ e. (ap (λ (p : ℕ × ℕ). p.0) e, ap (λ (p : ℕ × ℕ). p.1) e), λ h i. (h.0 i, h.1 i))

module _ (protocol : ℕ) (pec : Bool) (tr sent₀ received₀ : List ℕ) (h : HbDecoded) (sent received : List ℕ) (d : ReadSymbols protocol pec tr sent₀ received₀ h sent received) where
  answer_is : h.answer ≡ (told_decoded d.answer).answer
  answer_is = ap (λ (x : HbDecoded). x.answer) d.is_told

  -- the number and what comes with it are those of the outcome: what holds of its number holds of these
  pub read_carries : (n v : ℕ) → ((h.answer ≡ n) × (h.value ≡ v)) ↔ (decode_number d.answer ≡ (n, v))
  read_carries n v =
      let k = pair_parts h.answer h.value n v in
      let e : ◌≡◌ {A = ℕ × ℕ} (h.answer, h.value) (decode_number d.answer) = ap (λ (x : HbDecoded). (x.answer, x.value)) d.is_told ∙ told_decoded_number d.answer in
      (λ q. sym e ∙ k.1 q, λ q. k.0 (e ∙ q))

  pub read_number : h.answer ≡ (decode_number d.answer).0
  read_number = answer_is ∙ ap (λ (x : ℕ × ℕ). x.0) (told_decoded_number d.answer)

  -- a refusal's other parts
  pub read_zeros : (h.answer ≡ 0 → ⊥) → OthersZero h
  read_zeros z = subst OthersZero (sym d.is_told) (refusal_zeros d.answer (λ q. z (answer_is ∙ q)))

  -- with 0 the outcome is a transaction, and it is told
  pub read_done : h.answer ≡ 0 → (u : Transaction) × (h ≡ told_decoded (Ok u)) × Outcome protocol pec tr sent₀ received₀ (Ok u) sent received
  read_done q =
      let k = answer_0_done d.answer (sym answer_is ∙ q) in
      (k.0, d.is_told ∙ ap told_decoded k.1, subst (λ (x : Decoded). Outcome protocol pec tr sent₀ received₀ x sent received) k.1 d.outcome)
