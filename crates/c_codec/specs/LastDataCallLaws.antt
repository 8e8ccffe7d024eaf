-- What a call of hb_last_data gives: which bytes, and what the buffer holds then.
use Rattle.std.specs.Prelude.{◌≡◌, refl, Bool, true, false, List, [], ℕ, ltb, length, take, drop}
use Rattle.std.proofs.Common.{ap, ◌∙◌, inl, inr, arith, take_at, drop_at, ltb-true, ltb-false}
use Rattle.lists.specs.Choice.{pick}
use Rattle.lists.specs.Onto.{onto}
use Rattle.trace.specs.Shapes.{reads, shape_of}
use Rattle.last.specs.Last.{Whole}
use Rattle.last.specs.LastLaws.{gives_received, gives_sent, gives_empty}
use Rattle.c_codec.specs.declared.last_data.HbPart.{HbPart}
use Rattle.c_codec.specs.LastData.{part_of, phase_of, Copied}
use Rattle.c_codec.specs.LastDataParts.{CopiesOut, Receives, Sends, having}

pub hb_last_data : (bytes before : List ℕ) (r : HbPart) (after : List ℕ) → Copied bytes before r after → CopiesOut bytes before r after
hb_last_data bytes before r after c = go (ltb (length before) (length bytes)) refl c.answer c.output
  where
    go : (b : Bool) → ltb (length before) (length bytes) ≡ b → r ≡ pick b (part_of 2 0) (part_of 0 (length bytes)) → after ≡ pick b before (onto bytes before)
        → CopiesOut bytes before r after
    go true t e o = record {
      answer_2 = (λ q. ltb-true (length before) (length bytes) t, λ h. ap (λ (x : HbPart). x.answer) e);
      answer_0 = (λ q. absurd (omega (arith, ap (λ (x : HbPart). x.answer) e)), λ h. absurd (omega (arith, ltb-true (length before) (length bytes) t)));
      with_2 = λ q. (ap (λ (x : HbPart). x.length) e, o);
      with_0 = λ q. absurd (omega (arith, ap (λ (x : HbPart). x.answer) e));
    }
    go false t e o = record {
      answer_2 = (λ q. absurd (omega (arith, ap (λ (x : HbPart). x.answer) e)), λ h. absurd (omega (arith, ltb-false (length before) (length bytes) t)));
      answer_0 = (λ q. ltb-false (length before) (length bytes) t, λ h. ap (λ (x : HbPart). x.answer) e);
      with_2 = λ q. absurd (omega (arith, ap (λ (x : HbPart). x.answer) e));
      with_0 = λ q. (
        ap (λ (x : HbPart). x.length) e,
        ap (take (length bytes)) o ∙ take_at bytes (drop (length bytes) before) (length bytes) refl,
        ap (drop (length bytes)) o ∙ drop_at bytes (drop (length bytes) before) (length bytes) refl,
      );
    }

receives_reads : (p : ℕ) → Receives p → reads (shape_of p) ≡ true
receives_reads p (inl e) = ap (λ (k : ℕ). reads (shape_of k)) e
receives_reads p (inr (inl e)) = ap (λ (k : ℕ). reads (shape_of k)) e
receives_reads p (inr (inr (inl e))) = ap (λ (k : ℕ). reads (shape_of k)) e
receives_reads p (inr (inr (inr (inl e)))) = ap (λ (k : ℕ). reads (shape_of k)) e
receives_reads p (inr (inr (inr (inr (inl e))))) = ap (λ (k : ℕ). reads (shape_of k)) e
receives_reads p (inr (inr (inr (inr (inr e))))) = ap (λ (k : ℕ). reads (shape_of k)) e

sends_reads : (p : ℕ) → Sends p → reads (shape_of p) ≡ false
sends_reads p (inl e) = ap (λ (k : ℕ). reads (shape_of k)) e
sends_reads p (inr (inl e)) = ap (λ (k : ℕ). reads (shape_of k)) e
sends_reads p (inr (inr (inl e))) = ap (λ (k : ℕ). reads (shape_of k)) e
sends_reads p (inr (inr (inr (inl e)))) = ap (λ (k : ℕ). reads (shape_of k)) e
sends_reads p (inr (inr (inr (inr e)))) = ap (λ (k : ℕ). reads (shape_of k)) e

module _ (protocol m n : ℕ) (sent received : List ℕ) where
  pub hb_last_received : Whole (having protocol m n) (length sent) (length received) → Receives protocol → phase_of protocol m n sent received ≡ take n received
  hb_last_received w p = (gives_received (having protocol m n) sent received (0, 0) (0, 0) w (receives_reads protocol p)).0

  pub hb_last_sent : Whole (having protocol m n) (length sent) (length received) → Sends protocol → phase_of protocol m n sent received ≡ take m sent
  hb_last_sent w p = (gives_sent (having protocol m n) sent received (0, 0) (0, 0) w (sends_reads protocol p)).0

  pub hb_last_none : (Whole (having protocol m n) (length sent) (length received) → ⊥) → phase_of protocol m n sent received ≡ []
  hb_last_none z = (gives_empty (having protocol m n) sent received (0, 0) (0, 0) z).0
