-- What a call of hb_decode and of hb_decode_symbols gives, in the scope's numbers and in the parts of the struct of include/headboarded.h.
use Rattle.std.specs.Prelude.{◌≡◌, refl, Bool, true, false, List, ◌++◌, ◌⊎◌, ◌↔◌, ℕ, ◌/◌, ◌<◌, length, drop, Ok}
use Rattle.std.proofs.Common.{ap, ◌∙◌, subst, inl, inr, arith}
use Rattle.std.proofs.Math.Logic.Iff.{rfl as iff_rfl, trans as iff_trans}
use Rattle.trace.specs.Table.{last_protocol}
use Rattle.trace.specs.Shapes.{forbidden}
use Rattle.trace.specs.Table.{TraceOf}
use Rattle.trace.specs.Trace.{Message}
use Rattle.scan.specs.Answers.{summary}
use Rattle.scan.specs.declared.answer.Refusal.{Refusal}
use Rattle.scan.specs.Because.{Because}
use Rattle.scan.specs.Fitting.{table_cases}
use Rattle.scan.specs.Numbers.{refusal_number, decode_number}
use Rattle.decode.specs.NumberLaws.{short_cases, decode_0, decode_1, decode_refused, decode_hands_over, decode_refusal}
use Rattle.decode.specs.Outcome.{short, Entered, Outcome}
use Rattle.c_codec.specs.declared.answer.HbDecoded.{HbDecoded}
use Rattle.c_codec.specs.Numbers.{truth}
use Rattle.pairs.specs.Pairs.{symbols_in}
use Rattle.pairs.specs.PairLaws.{symbols_are}
use Rattle.c_codec.specs.Codec.{told_decoded, ReadSymbols}
use Rattle.c_codec.specs.DecodedLaws.{read_carries, read_number, read_zeros, read_done}
use Rattle.c_codec.specs.DecodeParts.{OthersZero, Pairs, GivesBack}
use Rattle.c_codec.specs.NumberLaws.{truth_is}
use Rattle.decode.specs.OutcomeLaws as decode

-- hb_decode on bytes answers and leaves what hb_decode_symbols does on their symbols: what follows holds of both
pub hb_decode : (protocol pec : ℕ) (bytes tr sent₀ received₀ : List ℕ) (h : HbDecoded) (sent received : List ℕ) → Pairs bytes tr
    → ReadSymbols protocol (truth pec) (symbols_in (length bytes / 2) bytes) sent₀ received₀ h sent received
    → ReadSymbols protocol (truth pec) tr sent₀ received₀ h sent received
hb_decode protocol pec bytes tr sent₀ received₀ h sent received p d =
    subst (λ (l : List ℕ). ReadSymbols protocol (truth pec) l sent₀ received₀ h sent received) (symbols_are (length bytes / 2) bytes tr p.count p.each) d

-- a transaction that is told, part by part
pub gives_back : (protocol : ℕ) (m : Message) (sent₀ received₀ : List ℕ) (h : HbDecoded) (sent₁ received₁ : List ℕ) → h ≡ told_decoded (Ok (summary protocol m))
    → sent₁ ≡ m.sent ++ drop (length m.sent) sent₀ → received₁ ≡ m.received ++ drop (length m.received) received₀
    → GivesBack m.address m.direction m.command m.sent m.received sent₀ received₀ h sent₁ received₁
gives_back protocol m sent₀ received₀ h sent₁ received₁ e s r = record {
  answer = ap (λ (x : HbDecoded). x.answer) e;
  value = ap (λ (x : HbDecoded). x.value) e;
  address_is = ap (λ (x : HbDecoded). x.address) e;
  direction_is_lem = ap (λ (x : HbDecoded). x.direction) e;
  command_is_lem = ap (λ (x : HbDecoded). x.command) e;
  sent_length_lem = ap (λ (x : HbDecoded). x.sent) e;
  received_length_lem = ap (λ (x : HbDecoded). x.received) e;
  sent_data = s;
  received_data = r;
}

module _ (protocol pec : ℕ) (tr sent₀ received₀ : List ℕ) (h : HbDecoded) (sent received : List ℕ)
    (d : ReadSymbols protocol (truth pec) tr sent₀ received₀ h sent received) where
  -- THE NUMBER and what comes with it are those of an outcome of decode, so that each number is given exactly in its case P
  pub hb_decode_outcome : Outcome protocol (truth pec) tr sent₀ received₀ d.answer sent received
  hb_decode_outcome = d.outcome

  pub hb_decode_number : (n v : ℕ) {P : Type 0} → (decode_number d.answer ≡ (n, v)) ↔ P → ((h.answer ≡ n) × (h.value ≡ v)) ↔ P
  hb_decode_number n v e = iff_trans (read_carries protocol (truth pec) tr sent₀ received₀ h sent received d n v) e

  -- 1: a protocol above the last, or Quick with PEC
  pub hb_decode_1 : ((h.answer ≡ 1) × (h.value ≡ 0)) ↔ ((last_protocol < protocol) ⊎ ((protocol ≡ 0) × (pec ≡ 0 → ⊥)))
  hb_decode_1 = hb_decode_number 1 0 (iff_trans (decode_1 protocol (truth pec) tr sent₀ received₀ d.answer sent received d.outcome) (there, back))
    where
      there : (last_protocol < protocol) ⊎ ((protocol ≡ 0) × (truth pec ≡ true)) → (last_protocol < protocol) ⊎ ((protocol ≡ 0) × (pec ≡ 0 → ⊥))
      there (inl x) = inl x
      there (inr (x, y)) = inr (x, (truth_is pec).0 y)

      back : (last_protocol < protocol) ⊎ ((protocol ≡ 0) × (pec ≡ 0 → ⊥)) → (last_protocol < protocol) ⊎ ((protocol ≡ 0) × (truth pec ≡ true))
      back (inl x) = inl x
      back (inr (x, y)) = inr (x, (truth_is pec).1 y)

  -- 2: none of these, and a buffer of under 255 bytes
  pub hb_decode_2 : ((h.answer ≡ 2) × (h.value ≡ 0))
      ↔ (((last_protocol < protocol) ⊎ ((protocol ≡ 0) × (pec ≡ 0 → ⊥)) → ⊥) × ((length sent₀ < 255) ⊎ (length received₀ < 255)))
  hb_decode_2 = hb_decode_number 2 0 (there, back)
    where
      one : (decode_number d.answer ≡ (1, 0)) ↔ (forbidden protocol (truth pec) ≡ true)
      one = decode.number_1 protocol (truth pec) tr sent₀ received₀ d.answer sent received d.outcome

      two : (decode_number d.answer ≡ (2, 0)) ↔ ((forbidden protocol (truth pec) ≡ false) × (short (length sent₀) (length received₀) ≡ true))
      two = decode.number_2 protocol (truth pec) tr sent₀ received₀ d.answer sent received d.outcome

      there : decode_number d.answer ≡ (2, 0) → ((last_protocol < protocol) ⊎ ((protocol ≡ 0) × (pec ≡ 0 → ⊥)) → ⊥) × ((length sent₀ < 255) ⊎ (length received₀ < 255))
      there e = (λ c. omega (arith, (hb_decode_1.1 c).0, ((hb_decode_number 2 0 iff_rfl).1 e).0), (short_cases (length sent₀) (length received₀)).0 (two.0 e).1)

      allowed : ((last_protocol < protocol) ⊎ ((protocol ≡ 0) × (pec ≡ 0 → ⊥)) → ⊥) → (b : Bool) → forbidden protocol (truth pec) ≡ b → b ≡ false
      allowed n true e = absurd (n (hb_decode_1.0 ((hb_decode_number 1 0 one).1 e)))
      allowed n false e = refl

      back : ((last_protocol < protocol) ⊎ ((protocol ≡ 0) × (pec ≡ 0 → ⊥)) → ⊥) × ((length sent₀ < 255) ⊎ (length received₀ < 255)) → decode_number d.answer ≡ (2, 0)
      back (n, c) = two.1 (allowed n (forbidden protocol (truth pec)) refl, (short_cases (length sent₀) (length received₀)).1 c)

  -- a refusal of the trace by its number (scan/specs/Numbers): the trace is read, and this is why it is refused (scan/specs/Because)
  pub hb_decode_refused : (w : Refusal) (k : ℕ) → 2 < refusal_number w
      → ((h.answer ≡ refusal_number w) × (h.value ≡ k)) ↔ (Entered protocol (truth pec) sent₀ received₀ × Because (table_cases protocol (truth pec) tr) tr w k)
  hb_decode_refused w k n = hb_decode_number (refusal_number w) k (decode_refused protocol (truth pec) tr sent₀ received₀ d.answer sent received d.outcome w k n)

  -- 0: the trace of a message of one of the rows
  pub hb_decode_whole : ((h.answer ≡ 0) × (h.value ≡ 0)) ↔ (Entered protocol (truth pec) sent₀ received₀ × ((m : Message) × TraceOf protocol (truth pec) m tr))
  hb_decode_whole = hb_decode_number 0 0 (decode_0 protocol (truth pec) tr sent₀ received₀ d.answer sent received d.outcome)

  -- a refusal: both buffers as they were, and every other part zero
  pub hb_decode_refusal : (h.answer ≡ 0 → ⊥) → (sent ≡ sent₀) × (received ≡ received₀) × OthersZero h
  hb_decode_refusal z =
      let k = decode_refusal protocol (truth pec) tr sent₀ received₀ d.answer sent received d.outcome
      (λ q. z (read_number protocol (truth pec) tr sent₀ received₀ h sent received d ∙ q)) in
      (k.0, k.1, read_zeros protocol (truth pec) tr sent₀ received₀ h sent received d z)

  -- 0: the parts are those of a message, whose trace this is
  pub hb_decode_0 : h.answer ≡ 0
      → (m : Message) × TraceOf protocol (truth pec) m tr × GivesBack m.address m.direction m.command m.sent m.received sent₀ received₀ h sent received
  hb_decode_0 q =
      let k = read_done protocol (truth pec) tr sent₀ received₀ h sent received d q in
      let n = (decode_0 protocol (truth pec) tr sent₀ received₀ (Ok k.0) sent received k.2).0 refl in
      let m = n.1.0 in
      let g = decode_hands_over protocol (truth pec) tr sent₀ received₀ (Ok k.0) sent received k.2 n.0 m n.1.1 in
      (m, n.1.1, gives_back protocol m sent₀ received₀ h sent received (k.1 ∙ ap told_decoded g.0) g.1 g.2)
