-- The entry of the encoder over a shape: from its tests to its answer. Then the entry at the table of the protocols.
use mathlib.Core.Path.{◌≡◌, refl, sym, ap, ◌∙◌, subst}
use mathlib.Core.Bool.{Bool, true, false}
use mathlib.Core.List.{List}
use Prim.Native.Nat.{ℕ, ◌≤◌, ◌<◌}
use native.Mathlib.Omega.{arith}
use lib.ListN.{length}
use borrow.Author.Tests.{lt-ltb, le-ltb}
use Rattle.lists.specs.Choice.{or, and, not}
use Rattle.lists.specs.Each.{Bytes}
use Rattle.lists.specs.Onto.{onto}
use Rattle.trace.specs.declared.shape.Shape.{Shape}
use Rattle.trace.specs.Shapes.{shape_of, forbidden}
use Rattle.trace.specs.Sane.{Sane}
use Rattle.trace.specs.Trace.{Message, trace}
use Rattle.trace.specs.Allowed.{address_fits, direction_fits, command_fits, lengths_fit, allowed}
use Rattle.trace.specs.Lengths.{trace_length, room_by}
use Rattle.trace.proofs.LengthLaws.{trace_length_lem}
use Rattle.trace.proofs.RoomLaws.{room_by_lem, some_room}
use Rattle.trace.proofs.ShapeLaws.{sane}
use Rattle.trace.proofs.ValidLaws.{allowed_valid}
use Rattle.encode.specs.Encode.{Encoded}
use Rattle.std.specs.Prelude.{Ok, Err, Option, Some, None}
use Rattle.lists.specs.AbsurdLaws.{zero_is_one}
use Rattle.encode.specs.declared.EncodeError.TheVariants.{Forbidden, OutputTooShort}
use Rattle.encode.specs.Encode.{refused_by, encoded_by, WroteBy, Wrote}
use Rattle.encode.specs.Pieces.{fields_fit, Ready}

-- the tests in the order in which the code makes them
all_tests : (sh : Shape) (a d c m n : ℕ) → allowed sh a d c m n ≡ and (fields_fit sh a d c) (lengths_fit sh m n)
unfolding allowed
all_tests sh a d c m n = go (address_fits sh a) (direction_fits sh d) (command_fits sh c)
  where
    go : (x y z : Bool) → and x (and y (and z (lengths_fit sh m n))) ≡ and (and x (and y z)) (lengths_fit sh m n)
    go true true z = refl
    go true false z = refl
    go false y z = refl

module _ (sh : Shape) (barred pec : Bool) (t : Message) where
  abbrev fields : Bool
  fields = fields_fit sh t.address t.direction t.command

  abbrev lengths : Bool
  lengths = lengths_fit sh (length t.sent) (length t.received)

  abbrev room : Option ℕ
  room = room_by sh barred pec (length t.sent) (length t.received)

  tested : (b f h : Bool) → barred ≡ b → fields ≡ f → lengths ≡ h → refused_by sh barred t ≡ or b (not (and f h))
  unfolding refused_by
  tested b f h eb ef eh =
      ap (λ (x : Bool). or x (not (allowed sh t.address t.direction t.command (length t.sent) (length t.received)))) eb
      ∙ ap (λ (x : Bool). or b (not x)) (all_tests sh t.address t.direction t.command (length t.sent) (length t.received))
      ∙ ap (λ (x : Bool). or b (not (and x lengths))) ef
      ∙ ap (λ (x : Bool). or b (not (and f x))) eh

  -- no room is a refusal of the protocol, the PEC or a length
  pub room_none : room ≡ None → refused_by sh barred t ≡ true
  room_none z = go barred fields lengths refl refl refl
    where
      go : (b f h : Bool) → barred ≡ b → fields ≡ f → lengths ≡ h → refused_by sh barred t ≡ true
      go true f h eb ef eh = tested true f h eb ef eh
      go false true false eb ef eh = tested false true false eb ef eh
      go false false h eb ef eh = tested false false h eb ef eh
      go false true true eb ef eh =
          let e = room_by_lem sh barred pec (length t.sent) (length t.received) false true eb eh in zero_is_one (cc (z, e))

  -- a refusal leaves the output as it was
  pub refused_wrote : (l : List ℕ) → refused_by sh barred t ≡ true → WroteBy sh barred pec t l (Err Forbidden) l
  unfolding encoded_by
  refused_wrote l e = record { answer = rw e; output = refl }

  -- any other room is the length of the trace
  module _ (n : ℕ) (en : room ≡ Some n) where
    given : (barred ≡ false) × (lengths ≡ true) × (n ≡ trace_length sh pec (length t.sent) (length t.received))
    given = some_room sh barred pec (length t.sent) (length t.received) n en

    pub fields_refused : fields ≡ false → refused_by sh barred t ≡ true
    fields_refused e = tested false false true given.0 e given.1

    module _ (ef : fields ≡ true) where
      not_refused : refused_by sh barred t ≡ false
      not_refused = tested false true true given.0 ef given.1

      length_is : n ≡ length (trace sh pec t)
      length_is = given.2 ∙ sym (trace_length_lem sh pec t)

      pub short_wrote : (l : List ℕ) → length l < n → WroteBy sh barred pec t l (Err OutputTooShort) l
      unfolding encoded_by
      short_wrote l h = record { answer = rw (not_refused, lt-ltb (length l) (length (trace sh pec t)) (omega (arith, length_is))); output = refl }

      pub done_wrote : (l x : List ℕ) → n ≤ length l → x ≡ onto (trace sh pec t) l → WroteBy sh barred pec t l (Ok n) x
      unfolding encoded_by
      done_wrote l x h e =
          record {
            answer = ap Ok length_is ∙ sym (rw (not_refused, le-ltb (length l) (length (trace sh pec t)) (omega (arith, length_is))));
            output = e;
          }

      pub is_ready : Sane sh → t.command < 256 → Bytes t.sent → Bytes t.received → (k : ℕ) → n ≤ k → Ready sh pec t k
      is_ready s c bs br k h =
          let ok : allowed sh t.address t.direction t.command (length t.sent) (length t.received) ≡ true =
          all_tests sh t.address t.direction t.command (length t.sent) (length t.received) ∙ rw (ef, given.1) in
          record { sane = s; valid = allowed_valid sh t c bs br ok; fits = omega (arith, length_is) }

-- ---- at the table of the protocols

module _ (protocol : ℕ) (pec : Bool) (sh : Shape) (es : sh ≡ shape_of protocol) where
  pub sane_shape : Sane sh
  sane_shape = subst Sane (sym es) (sane protocol)

  pub wrote_at_table : (barred : Bool) → barred ≡ forbidden protocol pec → (t : Message) (l : List ℕ) (r : Encoded) (x : List ℕ) → WroteBy sh barred pec t l r x → Wrote protocol pec t l r x
  wrote_at_table barred en t l r x w =
      subst (λ (b : Bool). WroteBy (shape_of protocol) b pec t l r x) en (subst (λ (u : Shape). WroteBy u barred pec t l r x) es w)
