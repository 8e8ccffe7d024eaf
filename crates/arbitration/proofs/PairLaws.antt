-- Two targets on the wire: both send the same first bits, then their identifiers, then what follows those. The one that beats the other
-- is heard to the end, and the other sends up to its drop-out bit and no further.
use Rattle.std.specs.Prelude.{ℕ, ◌+◌, ◌≤◌, ◌≡◌, refl, Bool, true, List, [], ◌∷◌, ◌++◌, leb, length, drop}
use Rattle.std.proofs.Common.{ap, ◌∙◌, inl, arith, length-append, le-leb, ltb-true}
use Rattle.lists.specs.Choice.{pick}
use Rattle.lists.specs.Each.{Each}
use Rattle.udid.specs.Udids.{Fits, value, is_below}
use Rattle.udid.specs.declared.Udid.{Udid}
use Rattle.arbitration.specs.Bits.{udid_bits, sent}
use Rattle.arbitration.specs.BitLaws.{length_udid_bits}
use Rattle.arbitration.specs.Wire.{heard, sending}
use Rattle.arbitration.specs.DropOut.{shared, no_later, Stays}
use Rattle.arbitration.proofs.OrderLaws.{no_later_refl, no_later_same_front}
use Rattle.arbitration.proofs.WinLaws.{udid_order, drop_out_within}
use Rattle.arbitration.proofs.WireLaws.{heard_who_stays, sending_who_share, shared_with_itself}

pub length_sent : (p : List Bool) (u : Udid) (x : List Bool) → length (sent p u x) ≡ length p + (128 + length x)
length_sent p u x = length-append p (udid_bits u ++ x) ∙ ap (λ (n : ℕ). length p + n) (length-append (udid_bits u) x ∙ ap (λ (n : ℕ). n + length x) (length_udid_bits u))

module _ (a b : Udid) (f : Fits a) (g : Fits b) (p x y : List Bool) where
  pub sent_order : (a ≡ b → ⊥) → no_later (sent p a x) (sent p b y) ≡ is_below a b
  sent_order n = no_later_same_front p (udid_bits a ++ x) (udid_bits b ++ y) ∙ udid_order a b f g x y n

  -- a beats b
  module _ (e : is_below a b ≡ true) (l : length x ≡ length y) where
    differ : a ≡ b → ⊥
    differ q = let v : value a ≡ value b = ap value q in omega (arith, ltb-true (value a) (value b) e)

    both : Each (Stays (sent p a x)) (sent p a x ∷ sent p b y ∷ [])
    both = ((no_later_refl (sent p a x), refl), ((sent_order differ ∙ e, omega (arith, length_sent p a x, length_sent p b y)), tt))

    -- what stands on the wire is what a sends
    pub pair_heard : heard (length (sent p a x)) (sent p a x ∷ sent p b y ∷ []) ≡ sent p a x
    pair_heard = heard_who_stays (sent p a x) (sent p a x ∷ sent p b y ∷ []) both (inl refl)

    -- and b sends as long as the bits are those before and at the drop-out bit, which comes after the p that both send
    pub pair_sending : (n : ℕ) → n ≤ length (sent p a x) → sending n (sent p a x ∷ sent p b y ∷ [])
        ≡ drop n (sent p a x) ∷ pick (leb n (length p + shared (udid_bits a) (udid_bits b))) (drop n (sent p b y) ∷ []) []
    pair_sending n h =
        sending_who_share n (sent p a x) (sent p a x ∷ sent p b y ∷ []) both (inl refl) h
        ∙ rw (le-leb n (shared (sent p a x) (sent p a x)) (omega (arith, shared_with_itself (sent p a x))), drop_out_within a b f g p x y differ)
