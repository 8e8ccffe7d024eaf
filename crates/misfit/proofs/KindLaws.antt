-- The kind that is worked out from the state is the kind that Cases means, for every symbol that does not fit where some other does.
use Rattle.std.specs.Prelude.{◌≡◌, refl, Bool, true, false, ◌⊎◌, ℕ, ◌+◌, ◌-◌, ◌≤◌, ◌<◌, ◌%◌, ltb, leb, eqb}
use Rattle.std.proofs.Common.{sym, ap, ◌∙◌, inl, inr, arith, ltb-true, ltb-false, leb-true, eqb-true, eq-eqb, lt-ltb}
use Rattle.std.proofs.lemmas.Bool.{eqb-false}
use Rattle.lists.specs.AbsurdLaws.{zero_is_one}
use Rattle.lists.specs.Choice.{pick, or, and}
use Rattle.lists.specs.ChoiceLaws.{false_not_true, not_both, both_true, neither}
use Rattle.wire.specs.Symbols.{ACK, NACK}
use Rattle.trace.specs.declared.shape.Shape.{Shape}
use Rattle.trace.specs.Sane.{Sane}
use Rattle.trace.specs.Shapes.{least_of}
use Rattle.step.specs.declared.state.Slot.{Slot}
use Rattle.step.specs.declared.state.Slot.TheVariants.{Start, First, Command, Count, Data, Pec, Restart, Second, ReadCount, ReadData, ReadPec, Stop, End}
use Rattle.step.specs.declared.state.Due.{Due}
use Rattle.step.specs.declared.state.Due.TheVariants.{Nobody, Target, Controller, Halted, Cut}
use Rattle.step.specs.declared.state.Decoder.{Decoder}
use Rattle.step.specs.Fits.{ack_at, count_fits, fits_slot, fits_due, fits}
use Rattle.misfit.specs.declared.kind.Kind.{Kind}
use Rattle.misfit.specs.declared.kind.Kind.TheVariants.{Swapped, Misaddressed, Miscounted, Other}
use Rattle.misfit.specs.Cases.{IsSwapped, IsOther, Means}
use Rattle.misfit.specs.Kinds.{is_address, is_count, kind_of_byte, kind_at, kind_due, kind_of, address_next}

-- the controller's bit is ACK or NACK
pub ack_or_nack : (s : Slot) → (ack_at s ≡ 258) ⊎ (ack_at s ≡ 259)
ack_or_nack Stop = inr refl
ack_or_nack Start = inl refl
ack_or_nack First = inl refl
ack_or_nack Command = inl refl
ack_or_nack Count = inl refl
ack_or_nack Data = inl refl
ack_or_nack Pec = inl refl
ack_or_nack Restart = inl refl
ack_or_nack Second = inl refl
ack_or_nack ReadCount = inl refl
ack_or_nack ReadData = inl refl
ack_or_nack ReadPec = inl refl
ack_or_nack End = inl refl

-- neither kind of byte, and nothing swapped
plain : (fit : ℕ → Type 0) (start host : Type 0) (x : ℕ) → (IsSwapped fit x → ⊥) → (x < 256 → ⊥) → IsOther fit start host x
plain fit start host x n b = (n, λ a. b a.0, λ a. b a.0)

pub either : (a b : Bool) → or a b ≡ true → (a ≡ true) ⊎ (b ≡ true)
either true b h = inl refl
either false b h = inr h

module _ (sh : Shape) (hs : Sane sh) (d : Decoder) where
  pub count_is_byte : (k y : ℕ) → count_fits sh k y ≡ true → y < 256
  count_is_byte k y h = omega (arith, leb-true y (sh.most - k) (both_true (leb sh.least y) _ h).1, hs.most_byte)

  -- where no ACK is due neither ACK nor NACK fits
  pub no_ack_fits : (s : Slot) (y : ℕ) → fits_slot sh s d y ≡ true → y < 258
  no_ack_fits Start y h = omega (arith, eqb-true y 256 h)
  no_ack_fits First y h = omega (arith, ltb-true y 256 (both_true (ltb y 256) _ h).0)
  no_ack_fits Command y h = omega (arith, ltb-true y 256 (both_true (ltb y 256) _ h).0)
  no_ack_fits Count y h = omega (arith, count_is_byte (least_of sh.received sh.least) y h)
  no_ack_fits Data y h = omega (arith, ltb-true y 256 h)
  no_ack_fits Pec y h = omega (arith, ltb-true y 256 h)
  no_ack_fits Restart y h = omega (arith, eqb-true y 256 h)
  no_ack_fits Second y h = omega (arith, eqb-true y ((d.first + 1) % 256) h)
  no_ack_fits ReadCount y h = omega (arith, count_is_byte d.sentcount y h)
  no_ack_fits ReadData y h = omega (arith, ltb-true y 256 h)
  no_ack_fits ReadPec y h = omega (arith, ltb-true y 256 h)
  no_ack_fits Stop y h = omega (arith, eqb-true y 257 h)
  no_ack_fits End y h = false_not_true h

  module _ (x : ℕ) where
    abbrev At : Slot → Kind → Type 0
    At s k = Means (λ y. fits_slot sh s d y ≡ true) (is_address s ≡ true) (sh.tohost ≡ true) x k

    none_swapped : (s : Slot) → IsSwapped (λ y. fits_slot sh s d y ≡ true) x → ⊥
    none_swapped s (inl (e, f)) = omega (arith, no_ack_fits s 259 f)
    none_swapped s (inr (e, f)) = omega (arith, no_ack_fits s 258 f)

    -- a byte where no byte fits
    no_byte_due : (s : Slot) → is_address s ≡ false → ((y : ℕ) → fits_slot sh s d y ≡ true → 256 ≤ y) → At s Other
    no_byte_due s a n = (none_swapped s, λ m. not_both a m.1, λ m. omega (arith, m.3.1, n m.3.0 m.3.2))

    -- a byte, where the protocol does not go to the host alone
    byte_means : (s : Slot) → sh.tohost ≡ false → x < 256 → fits_slot sh s d x ≡ false → (y : ℕ) → fits_slot sh s d y ≡ true → At s (kind_of_byte false s)
    byte_means First t b f y g = (b, refl, λ h. not_both t h)
    byte_means Second t b f y g = (b, refl, λ h. not_both t h)
    byte_means Count t b f y g = (b, λ a. false_not_true a, λ h. not_both t h, (y, count_is_byte (least_of sh.received sh.least) y g, g))
    byte_means ReadCount t b f y g = (b, λ a. false_not_true a, λ h. not_both t h, (y, count_is_byte d.sentcount y g, g))
    byte_means Start t b f y g = no_byte_due Start refl (λ z h. omega (arith, eqb-true z 256 h))
    byte_means Restart t b f y g = no_byte_due Restart refl (λ z h. omega (arith, eqb-true z 256 h))
    byte_means Stop t b f y g = no_byte_due Stop refl (λ z h. omega (arith, eqb-true z 257 h))
    byte_means End t b f y g = false_not_true g
    byte_means Command t b f y g = not_both f (ap (λ (k : Bool). and k (pick sh.tohost (eqb (x % 2) 0) true)) (lt-ltb x 256 b) ∙ ap (λ (k : Bool). pick k (eqb (x % 2) 0) true) t)
    byte_means Data t b f y g = not_both f (lt-ltb x 256 b)
    byte_means Pec t b f y g = not_both f (lt-ltb x 256 b)
    byte_means ReadData t b f y g = not_both f (lt-ltb x 256 b)
    byte_means ReadPec t b f y g = not_both f (lt-ltb x 256 b)

    slot_means : (s : Slot) → fits_slot sh s d x ≡ false → (y : ℕ) → fits_slot sh s d y ≡ true → At s (kind_at sh.tohost s x)
    slot_means s f y g = by_byte (ltb x 256) refl
      where
        by_host : (h : Bool) → sh.tohost ≡ h → x < 256 → At s (kind_of_byte h s)
        by_host true t b = (none_swapped s, λ m. m.2 t, λ m. m.2 t)
        by_host false t b = byte_means s t b f y g

        by_byte : (b : Bool) → ltb x 256 ≡ b → At s (pick b (kind_of_byte sh.tohost s) Other)
        by_byte true e = by_host sh.tohost refl (ltb-true x 256 e)
        by_byte false e = plain _ _ _ x (none_swapped s) (λ b. omega (arith, ltb-false x 256 e, b))

    abbrev Owed : Due → Kind → Type 0
    Owed a k = Means (λ y. fits_due sh a d y ≡ true) (address_next a d.slot ≡ true) (sh.tohost ≡ true) x k

    -- where no byte fits, and no address byte is next, ACK and NACK alone can be told
    no_byte_fits : (a : Due) → address_next a d.slot ≡ false → ((y : ℕ) → fits_due sh a d y ≡ true → 256 ≤ y) → (IsSwapped (λ y. fits_due sh a d y ≡ true) x → ⊥) → Owed a Other
    no_byte_fits a q n s = (s, λ m. not_both q m.1, λ m. omega (arith, m.3.1, n m.3.0 m.3.2))

    -- the controller's bit
    own_bit : (w : ℕ) → (w ≡ 258) ⊎ (w ≡ 259) → eqb x w ≡ false → (b : Bool) → or (eqb x ACK) (eqb x NACK) ≡ b
        → Means (λ y. eqb y w ≡ true) (false ≡ true) (sh.tohost ≡ true) x (pick b Swapped Other)
    own_bit w (inl e) f true h = go (either (eqb x ACK) (eqb x NACK) h)
      where
        go : (eqb x ACK ≡ true) ⊎ (eqb x NACK ≡ true) → IsSwapped (λ y. eqb y w ≡ true) x
        go (inl q) = not_both f (eq-eqb x w (omega (arith, e, eqb-true x 258 q)))
        go (inr q) = inr (eqb-true x 259 q, eq-eqb 258 w (sym e))
    own_bit w (inr e) f true h = go (either (eqb x ACK) (eqb x NACK) h)
      where
        go : (eqb x ACK ≡ true) ⊎ (eqb x NACK ≡ true) → IsSwapped (λ y. eqb y w ≡ true) x
        go (inl q) = inl (eqb-true x 258 q, eq-eqb 259 w (sym e))
        go (inr q) = not_both f (eq-eqb x w (omega (arith, e, eqb-true x 259 q)))
    own_bit w o f false h = (no_swap, λ m. false_not_true m.1, λ m. none m.3.0 m.3.1 o (eqb-true m.3.0 w m.3.2))
      where
        no_swap : IsSwapped (λ y. eqb y w ≡ true) x → ⊥
        no_swap (inl (e, q)) = eqb-false x 258 (neither (eqb x ACK) (eqb x NACK) h).0 e
        no_swap (inr (e, q)) = eqb-false x 259 (neither (eqb x ACK) (eqb x NACK) h).1 e

        none : (y : ℕ) → y < 256 → (w ≡ 258) ⊎ (w ≡ 259) → y ≡ w → ⊥
        none y b (inl e) q = omega (arith, b, e, q)
        none y b (inr e) q = omega (arith, b, e, q)

    due_means : (a : Due) → fits_due sh a d x ≡ false → (y : ℕ) → fits_due sh a d y ≡ true → Owed a (kind_due sh.tohost a d.slot x)
    due_means Nobody f y g = slot_means d.slot f y g
    due_means Controller f y g = own_bit (ack_at d.slot) (ack_or_nack d.slot) f (or (eqb x ACK) (eqb x NACK)) refl
    due_means Target f y g = no_byte_fits Target refl (λ z h. above z (either (eqb z ACK) (eqb z NACK) h)) no_swap
      where
        above : (z : ℕ) → (eqb z ACK ≡ true) ⊎ (eqb z NACK ≡ true) → 256 ≤ z
        above z (inl q) = omega (arith, eqb-true z 258 q)
        above z (inr q) = omega (arith, eqb-true z 259 q)

        no_swap : IsSwapped (λ y. fits_due sh Target d y ≡ true) x → ⊥
        no_swap (inl (e, q)) = eqb-false x 258 (neither (eqb x ACK) (eqb x NACK) f).0 e
        no_swap (inr (e, q)) = eqb-false x 259 (neither (eqb x ACK) (eqb x NACK) f).1 e
    due_means Halted f y g = no_byte_fits Halted refl (λ z h. omega (arith, eqb-true z 257 h)) no_swap
      where
        no_swap : IsSwapped (λ y. fits_due sh Halted d y ≡ true) x → ⊥
        no_swap (inl (e, q)) = false_not_true q
        no_swap (inr (e, q)) = false_not_true q
    due_means Cut f y g = false_not_true g

    pub kind_means : fits sh d x ≡ false → (y : ℕ) → fits sh d y ≡ true
        → Means (λ y. fits sh d y ≡ true) (address_next d.due d.slot ≡ true) (sh.tohost ≡ true) x (kind_of sh d x)
    kind_means f y g = due_means d.due f y g

-- a byte that is a wrong count stands where a count does, with no ACK due
pub count_slot : (sh : Shape) (d : Decoder) (x : ℕ) → kind_of sh d x ≡ Miscounted → (d.due ≡ Nobody) × (is_count d.slot ≡ true)
count_slot sh d x e = by_due d.due refl e
  where
    by_slot : (b h a c : Bool) → is_count d.slot ≡ c → pick b (pick h Other (pick a Misaddressed (pick c Miscounted Other))) Other ≡ Miscounted → is_count d.slot ≡ true
    by_slot b h a true q e = q
    by_slot true true a false q e = zero_is_one cc
    by_slot true false true false q e = zero_is_one cc
    by_slot true false false false q e = zero_is_one cc
    by_slot false h a false q e = zero_is_one cc

    by_ack : (b : Bool) → pick b Swapped Other ≡ Miscounted → ⊥
    by_ack true e = zero_is_one cc
    by_ack false e = zero_is_one cc

    by_due : (a : Due) → d.due ≡ a → kind_due sh.tohost a d.slot x ≡ Miscounted → (d.due ≡ Nobody) × (is_count d.slot ≡ true)
    by_due Nobody q e = (q, by_slot (ltb x 256) sh.tohost (is_address d.slot) (is_count d.slot) refl e)
    by_due Controller q e = absurd (by_ack (or (eqb x ACK) (eqb x NACK)) e)
    by_due Target q e = zero_is_one cc
    by_due Halted q e = zero_is_one cc
    by_due Cut q e = zero_is_one cc

-- an ACK or a NACK is told to be swapped only where the controller's bit is due
pub swapped_due : (sh : Shape) (d : Decoder) (x : ℕ) → kind_of sh d x ≡ Swapped → d.due ≡ Controller
swapped_due sh d x e = by_due d.due refl e
  where
    no_byte : (b h a c : Bool) → pick b (pick h Other (pick a Misaddressed (pick c Miscounted Other))) Other ≡ Swapped → ⊥
    no_byte true true a c e = zero_is_one cc
    no_byte true false true c e = zero_is_one cc
    no_byte true false false true e = zero_is_one cc
    no_byte true false false false e = zero_is_one cc
    no_byte false h a c e = zero_is_one cc

    by_due : (a : Due) → d.due ≡ a → kind_due sh.tohost a d.slot x ≡ Swapped → d.due ≡ Controller
    by_due Controller q e = q
    by_due Nobody q e = absurd (no_byte (ltb x 256) sh.tohost (is_address d.slot) (is_count d.slot) e)
    by_due Target q e = zero_is_one cc
    by_due Halted q e = zero_is_one cc
    by_due Cut q e = zero_is_one cc
