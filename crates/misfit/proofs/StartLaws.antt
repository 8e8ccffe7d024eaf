-- An address byte is next exactly after a START, in every state that is Steady; and the step keeps a state Steady.
use Rattle.std.specs.Prelude.{◌≡◌, refl, Bool, true, false, ◌⊎◌, ℕ, ◌+◌, ◌-◌, ◌<◌, ◌%◌, ltb, eqb}
use Rattle.std.proofs.Common.{sym, ◌∙◌, inl, inr, arith, ltb-true, eqb-true, ne_eqb}
use Rattle.lists.specs.Choice.{pick}
use Rattle.lists.specs.ChoiceLaws.{false_not_true, not_both, both_true}
use Rattle.wire.specs.Symbols.{START, ACK, NACK}
use Rattle.trace.specs.declared.shape.Part.{Part}
use Rattle.trace.specs.declared.shape.Part.TheVariants.{Nothing, Fixed, Counted}
use Rattle.trace.specs.declared.shape.Shape.{Shape}
use Rattle.trace.specs.Sane.{Sane}
use Rattle.trace.specs.Shapes.{writes, reads, least_of}
use Rattle.step.specs.declared.state.Slot.{Slot}
use Rattle.step.specs.declared.state.Slot.TheVariants.{Start, First, Command, Count, Data, Pec, Restart, Second, ReadCount, ReadData, ReadPec, Stop, End}
use Rattle.step.specs.declared.state.Due.{Due}
use Rattle.step.specs.declared.state.Due.TheVariants.{Nobody, Target, Controller, Halted, Cut}
use Rattle.step.specs.declared.state.Decoder.{Decoder}
use Rattle.step.specs.State.{to, fresh}
use Rattle.step.specs.Next.{after_read, to_read_data, to_read, after_write, to_data, to_sent, after_first}
use Rattle.step.specs.Fits.{ack_at, fits_slot, fits_due, fits}
use Rattle.step.specs.Move.{move_slot, move_due, move}
use Rattle.misfit.proofs.KindLaws.{ack_or_nack, either, count_is_byte}
use Rattle.misfit.specs.Kinds.{is_address, address_next}

-- no ACK is due before an address byte
abbrev pub Steady : Decoder → Type 0
Steady d = is_address d.slot ≡ true → address_next d.due d.slot ≡ true

pub fresh_steady : Steady fresh
fresh_steady h = h

-- no byte leads to an address byte
module _ (p : Bool) where
  read_end_on : is_address (after_read p).slot ≡ false
  read_end_on = go p
    where
      go : (b : Bool) → is_address (pick b ReadPec Stop) ≡ false
      go true = refl
      go false = refl

  read_data_on : (k : ℕ) → is_address (to_read_data p k).slot ≡ false
  read_data_on k = go (eqb k 0)
    where
      go : (b : Bool) → is_address (pick b (after_read p) (to ReadData (k - 1))).slot ≡ false
      go true = read_end_on
      go false = refl

  read_on : (a : Part) → is_address (to_read a p).slot ≡ false
  read_on Nothing = read_end_on
  read_on (Fixed k) = read_data_on k
  read_on Counted = refl

module _ (sh : Shape) (p : Bool) where
  write_end_on : is_address (after_write sh p).slot ≡ false
  write_end_on = go (reads sh) (writes sh) p
    where
      go : (r w q : Bool) → is_address (pick r (pick w (to Restart 0) (to_read sh.received p)) (to (pick q Pec Stop) 0)).slot ≡ false
      go true true q = refl
      go true false q = read_on p sh.received
      go false w true = refl
      go false w false = refl

  data_on : (k : ℕ) → is_address (to_data sh p k).slot ≡ false
  data_on k = go (eqb k 0)
    where
      go : (b : Bool) → is_address (pick b (after_write sh p) (to Data (k - 1))).slot ≡ false
      go true = write_end_on
      go false = refl

  sent_on : (a : Part) → is_address (to_sent sh p a).slot ≡ false
  sent_on Nothing = write_end_on
  sent_on (Fixed k) = data_on k
  sent_on Counted = refl

  first_on : is_address (after_first sh p).slot ≡ false
  first_on = go sh.command
    where
      go : (b : Bool) → is_address (pick b (to Command 0) (to_sent sh p sh.sent)).slot ≡ false
      go true = refl
      go false = sent_on sh.sent

no_start : (x : ℕ) → x < 256 → false ≡ eqb x START
no_start x h = sym (ne_eqb x 256 (λ e. omega (arith, e, h)))

-- a test that can't pass
never : (b : Bool) → (b ≡ true → false ≡ true) → b ≡ false
never true h = false_not_true (h refl)
never false h = refl

module _ (sh : Shape) (hs : Sane sh) (p : Bool) (d : Decoder) (x : ℕ) where
  slot_start : (s : Slot) → fits_slot sh s d x ≡ true → address_next (move_slot sh p s d (x % 256)).due (move_slot sh p s d (x % 256)).slot ≡ eqb x START
  slot_start Start h = sym h
  slot_start First h = no_start x (ltb-true x 256 (both_true (ltb x 256) _ h).0)
  slot_start Command h = no_start x (ltb-true x 256 (both_true (ltb x 256) _ h).0)
  slot_start Count h = no_start x (count_is_byte sh hs d (least_of sh.received sh.least) x h)
  slot_start Data h = no_start x (ltb-true x 256 h)
  slot_start Pec h = no_start x (ltb-true x 256 h)
  slot_start Restart h = sym h
  slot_start Second h = no_start x (omega (arith, eqb-true x ((d.first + 1) % 256) h))
  slot_start ReadCount h = no_start x (count_is_byte sh hs d d.sentcount x h)
  slot_start ReadData h = no_start x (ltb-true x 256 h)
  slot_start ReadPec h = no_start x (ltb-true x 256 h)
  slot_start Stop h = sym (ne_eqb x 256 (λ e. omega (arith, e, eqb-true x 257 h)))
  slot_start End h = false_not_true h

  slot_steady : (s : Slot) → Steady (move_slot sh p s d (x % 256))
  slot_steady Start h = h
  slot_steady First h = not_both (first_on sh p) h
  slot_steady Command h = not_both (sent_on sh p sh.sent) h
  slot_steady Count h = not_both (data_on sh p (x % 256)) h
  slot_steady Data h = not_both (data_on sh p d.left) h
  slot_steady Pec h = h
  slot_steady Restart h = h
  slot_steady Second h = not_both (read_on p sh.received) h
  slot_steady ReadCount h = not_both (read_data_on p (x % 256)) h
  slot_steady ReadData h = not_both (read_data_on p d.left) h
  slot_steady ReadPec h = h
  slot_steady Stop h = h
  slot_steady End h = h

  due_start : (a : Due) → (is_address d.slot ≡ true → address_next a d.slot ≡ true) → fits_due sh a d x ≡ true
      → address_next (move_due sh p a d x).due (move_due sh p a d x).slot ≡ eqb x START
  due_start Nobody k h = slot_start d.slot h
  due_start Target k h = go (eqb x ACK) ∙ sym (ne_eqb x 256 (other (either (eqb x ACK) (eqb x NACK) h)))
    where
      other : (eqb x ACK ≡ true) ⊎ (eqb x NACK ≡ true) → x ≡ 256 → ⊥
      other (inl q) e = omega (arith, e, eqb-true x 258 q)
      other (inr q) e = omega (arith, e, eqb-true x 259 q)

      go : (b : Bool) → address_next (pick b Nobody Halted) d.slot ≡ false
      go true = never (is_address d.slot) k
      go false = refl
  due_start Controller k h = never (is_address d.slot) k ∙ sym (ne_eqb x 256 (other (ack_or_nack d.slot)))
    where
      other : (ack_at d.slot ≡ 258) ⊎ (ack_at d.slot ≡ 259) → x ≡ 256 → ⊥
      other (inl q) e = omega (arith, q, e, eqb-true x (ack_at d.slot) h)
      other (inr q) e = omega (arith, q, e, eqb-true x (ack_at d.slot) h)
  due_start Halted k h = sym (ne_eqb x 256 (λ e. omega (arith, e, eqb-true x 257 h)))
  due_start Cut k h = false_not_true h

  due_steady : (a : Due) → (is_address d.slot ≡ true → address_next a d.slot ≡ true) → Steady (move_due sh p a d x)
  due_steady Nobody k h = slot_steady d.slot h
  due_steady Target k h = false_not_true (k h)
  due_steady Controller k h = false_not_true (k h)
  due_steady Halted k h = k h
  due_steady Cut k h = k h

  -- after a START, and after nothing else, an address byte is next
  pub address_after_start : Steady d → fits sh d x ≡ true → address_next (move sh p d x).due (move sh p d x).slot ≡ eqb x START
  address_after_start k h = due_start d.due k h

  pub stays_steady : Steady d → Steady (move sh p d x)
  stays_steady k = due_steady d.due k
