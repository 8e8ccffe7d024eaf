-- The room that the encoder needs, in the numbers of the scope's last two columns: it is none exactly where the protocol, the PEC or a
-- length is refused, and else the length of the trace.
use Rattle.std.specs.Option.{unwrap_or}
use Rattle.lists.specs.AbsurdLaws.{zero_is_one}
use Rattle.std.specs.Prelude.{◌≡◌, refl, Bool, true, false, Option, Some, None, ◌⊎◌, ◌↔◌, ℕ, ◌≤◌, ◌<◌, length}
use Rattle.std.proofs.Common.{sym, ◌∙◌, inl, inr, le-leb}
use Rattle.std.proofs.Math.Path.{ap}
use native.Mathlib.Omega.{arith}
use Rattle.lists.specs.Choice.{pick}
use Rattle.lists.specs.ChoiceLaws.{false_not_true}
use Rattle.trace.specs.declared.shape.Shape.{Shape}
use Rattle.trace.specs.Shapes.{protocols, shape_of, forbidden}
use Rattle.trace.specs.Allowed.{lengths_fit}
use Rattle.trace.specs.DataFits.{DataFits}
use Rattle.trace.proofs.DataFitsLaws.{listed_lengths_fit, fitting_lengths_listed}
use Rattle.trace.proofs.FieldLaws.{lengths_exactly}
use Rattle.trace.proofs.ForbiddenLaws.{forbidden_cases, taken_cases}
use Rattle.trace.specs.Lengths.{trace_length, room_by, room_for}
use Rattle.trace.proofs.LengthLaws.{trace_length_lem, pec_symbols}
use Rattle.trace.specs.Columns.{Room}
use Rattle.trace.specs.Trace.{Message, Valid, trace}
use Rattle.trace.proofs.ValidLaws.{lengths_of_valid}

-- ---- over a shape: by its two tests

module _ (sh : Shape) (barred pec : Bool) (m n : ℕ) where
  pub room_by_lem : (b h : Bool) → barred ≡ b → lengths_fit sh m n ≡ h → room_by sh barred pec m n ≡ pick b None (pick h (Some (trace_length sh pec m n)) None)
  unfolding room_by
  room_by_lem b h eb eh = rw (eb, eh)

  -- a trace has at least four symbols
  pub some_length : 4 ≤ trace_length sh pec m n
  unfolding trace_length
  some_length = omega arith

  -- some room: nothing is forbidden, the lengths fit, and it is the length of the trace
  pub some_room : (k : ℕ) → room_by sh barred pec m n ≡ Some k → (barred ≡ false) × (lengths_fit sh m n ≡ true) × (k ≡ trace_length sh pec m n)
  some_room k z = go barred (lengths_fit sh m n) refl refl
    where
      go : (b h : Bool) → barred ≡ b → lengths_fit sh m n ≡ h → (barred ≡ false) × (lengths_fit sh m n ≡ true) × (k ≡ trace_length sh pec m n)
      go true h eb eh = let e = room_by_lem true h eb eh in zero_is_one (cc (z, e))
      go false false eb eh = let e = room_by_lem false false eb eh in zero_is_one (cc (z, e))
      go false true eb eh = let e = room_by_lem false true eb eh in (eb, eh, cc (z, e))

-- ---- over the table

room_for_lem : (protocol : ℕ) (pec : Bool) (m n : ℕ) (b h : Bool) → forbidden protocol pec ≡ b → lengths_fit (shape_of protocol) m n ≡ h
    → room_for protocol pec m n ≡ pick b 0 (pick h (trace_length (shape_of protocol) pec m n) 0)
room_for_lem protocol pec m n b h eb eh = ap (λ (o : Option ℕ). unwrap_or o 0) (room_by_lem (shape_of protocol) (forbidden protocol pec) pec m n b h eb eh) ∙ go b h
  where
    go : (x y : Bool) → unwrap_or (pick x None (pick y (Some (trace_length (shape_of protocol) pec m n)) None)) 0 ≡ pick x 0 (pick y (trace_length (shape_of protocol) pec m n) 0)
    go true y = refl
    go false true = refl
    go false false = refl

-- none: a protocol that the table lacks, Quick with PEC, or lengths that the protocol does not allow
pub no_room : (protocol : ℕ) (pec : Bool) (m n : ℕ)
    → (room_for protocol pec m n ≡ 0) ↔ (((protocols ≤ protocol) ⊎ ((protocol ≡ 0) × (pec ≡ true))) ⊎ (DataFits protocol m n → ⊥))
no_room protocol pec m n = (λ e. there (forbidden protocol pec) (lengths_fit (shape_of protocol) m n) refl refl e, back)
  where
    there : (b h : Bool) → forbidden protocol pec ≡ b → lengths_fit (shape_of protocol) m n ≡ h → room_for protocol pec m n ≡ 0
        → ((protocols ≤ protocol) ⊎ ((protocol ≡ 0) × (pec ≡ true))) ⊎ (DataFits protocol m n → ⊥)
    there true h eb eh e = inl ((forbidden_cases protocol pec).0 eb)
    there false true eb eh e = absurd (omega (arith, some_length (shape_of protocol) (forbidden protocol pec) pec m n, sym (room_for_lem protocol pec m n false true eb eh) ∙ e))
    there false false eb eh e = inr (λ d. false_not_true (sym eh ∙ listed_lengths_fit protocol m n d))

    unfit : (b h : Bool) → forbidden protocol pec ≡ b → lengths_fit (shape_of protocol) m n ≡ h → (DataFits protocol m n → ⊥) → room_for protocol pec m n ≡ 0
    unfit true h eb eh z = room_for_lem protocol pec m n true h eb eh
    unfit false false eb eh z = room_for_lem protocol pec m n false false eb eh
    unfit false true eb eh z = absurd (z (fitting_lengths_listed protocol ((taken_cases protocol pec).0 eb).0 m n eh))

    back : ((protocols ≤ protocol) ⊎ ((protocol ≡ 0) × (pec ≡ true))) ⊎ (DataFits protocol m n → ⊥) → room_for protocol pec m n ≡ 0
    back (inl f) = room_for_lem protocol pec m n true _ ((forbidden_cases protocol pec).1 f) refl
    back (inr z) = unfit (forbidden protocol pec) (lengths_fit (shape_of protocol) m n) refl refl z

-- else, that of the trace
room_fits : (protocol : ℕ) (pec : Bool) (m n : ℕ) → forbidden protocol pec ≡ false → lengths_fit (shape_of protocol) m n ≡ true → room_for protocol pec m n ≡ trace_length (shape_of protocol) pec m n
room_fits protocol pec m n f d = room_for_lem protocol pec m n false true f d

-- with or without PEC
not_forbidden : (k : ℕ) (p : Bool) → 0 < k → k < protocols → forbidden k p ≡ false
not_forbidden k p l h = (taken_cases k p).1 (h, λ z. absurd (omega arith))

-- the room is what the last two columns say
pub room_as_listed : Room
unfolding trace_length lengths_fit
room_as_listed =
    record {
      quick_room = room_fits 0 false 0 0 refl refl;
      send_byte_room = λ p. omega (arith, room_fits 1 p 1 0 (not_forbidden 1 p (omega arith) (omega arith)) refl, pec_symbols p);
      receive_byte_room = λ p. omega (arith, room_fits 2 p 0 1 (not_forbidden 2 p (omega arith) (omega arith)) refl, pec_symbols p);
      write_byte_room = λ p. omega (arith, room_fits 3 p 1 0 (not_forbidden 3 p (omega arith) (omega arith)) refl, pec_symbols p);
      write_word_room = λ p. omega (arith, room_fits 4 p 2 0 (not_forbidden 4 p (omega arith) (omega arith)) refl, pec_symbols p);
      read_byte_room = λ p. omega (arith, room_fits 5 p 0 1 (not_forbidden 5 p (omega arith) (omega arith)) refl, pec_symbols p);
      read_word_room = λ p. omega (arith, room_fits 6 p 0 2 (not_forbidden 6 p (omega arith) (omega arith)) refl, pec_symbols p);
      process_call_room = λ p. omega (arith, room_fits 7 p 2 2 (not_forbidden 7 p (omega arith) (omega arith)) refl, pec_symbols p);
      block_write_room = λ p m h. omega (arith, room_fits 8 p m 0 (not_forbidden 8 p (omega arith) (omega arith)) ((lengths_exactly (shape_of 8) m 0).1 (le-leb 0 m (omega arith), refl, omega arith)), pec_symbols p);
      block_read_room = λ p n h. omega (arith, room_fits 9 p 0 n (not_forbidden 9 p (omega arith) (omega arith)) ((lengths_exactly (shape_of 9) 0 n).1 (refl, le-leb 0 n (omega arith), omega arith)), pec_symbols p);
      block_process_call_room = λ p m n h. omega (arith, room_fits 10 p m n (not_forbidden 10 p (omega arith) (omega arith)) ((lengths_exactly (shape_of 10) m n).1 (le-leb 0 m (omega arith), le-leb 0 n (omega arith), h)), pec_symbols p);
    }

-- for a valid message it is the length of its trace
pub room_of_valid : (protocol : ℕ) (pec : Bool) (t : Message) → protocol < protocols → (protocol ≡ 0 → pec ≡ false) → Valid (shape_of protocol) t
    → room_for protocol pec (length t.sent) (length t.received) ≡ length (trace (shape_of protocol) pec t)
room_of_valid protocol pec t h q v =
    room_for_lem protocol pec (length t.sent) (length t.received) false true ((taken_cases protocol pec).1 (h, q)) (lengths_of_valid (shape_of protocol) t v)
    ∙ sym (trace_length_lem (shape_of protocol) pec t)
