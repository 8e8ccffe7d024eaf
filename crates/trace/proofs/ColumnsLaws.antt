-- The traces have as many symbols as the last two columns of the scope's table say. None is longer than a
-- shape's longest, which is 525 symbols at most, and one has so many.
use Rattle.std.specs.Prelude.{◌≡◌, refl, Bool, true, false, ℕ, ◌≤◌, leb, length, replicate}
use Rattle.std.proofs.Common.{◌∙◌, arith, leb-true}
use Rattle.std.proofs.lemmas.List.{length-replicate}
use Rattle.lists.specs.Choice.{pick}
use Rattle.lists.specs.All.{all}
use Rattle.lists.specs.EachLaws.{zeros_bytes}
use Rattle.trace.specs.declared.shape.Part.{Part}
use Rattle.trace.specs.declared.shape.Part.TheVariants.{Nothing, Fixed, Counted}
use Rattle.trace.specs.declared.shape.Shape.{Shape}
use Rattle.trace.specs.Protocols.{longest_trace}
use Rattle.trace.proofs.ShapeLaws.{at_every_number}
use Rattle.trace.specs.Shapes.{shapes, no_row, shape_of}
use Rattle.trace.specs.Trace.{Message, Valid, trace}
use Rattle.trace.specs.Lengths.{trace_length, longest_of}
use Rattle.trace.proofs.LengthLaws.{trace_length_lem, pec_symbols}
use Rattle.trace.specs.Columns.{Columns, AtMost}

pub columns : Columns
unfolding trace_length
columns =
    record {
      quick = λ p t v. omega (arith, trace_length_lem (shape_of 0) p t, pec_symbols p, v.sent_length_lem);
      send_byte = λ p t v. omega (arith, trace_length_lem (shape_of 1) p t, pec_symbols p, v.sent_length_lem);
      receive_byte = λ p t v. omega (arith, trace_length_lem (shape_of 2) p t, pec_symbols p, v.sent_length_lem, v.received_length_lem);
      write_byte = λ p t v. omega (arith, trace_length_lem (shape_of 3) p t, pec_symbols p, v.sent_length_lem);
      write_word = λ p t v. omega (arith, trace_length_lem (shape_of 4) p t, pec_symbols p, v.sent_length_lem);
      read_byte = λ p t v. omega (arith, trace_length_lem (shape_of 5) p t, pec_symbols p, v.sent_length_lem, v.received_length_lem);
      read_word = λ p t v. omega (arith, trace_length_lem (shape_of 6) p t, pec_symbols p, v.sent_length_lem, v.received_length_lem);
      process_call = λ p t v. omega (arith, trace_length_lem (shape_of 7) p t, pec_symbols p, v.sent_length_lem, v.received_length_lem);
      block_write = λ p t v. omega (arith, trace_length_lem (shape_of 8) p t, pec_symbols p);
      block_read = λ p t v. omega (arith, trace_length_lem (shape_of 9) p t, pec_symbols p, v.sent_length_lem);
      block_process_call = λ p t v. omega (arith, trace_length_lem (shape_of 10) p t, pec_symbols p);
    }

pec_at_most_one : (p : Bool) → pick p 1 0 ≤ 1
pec_at_most_one true = omega arith
pec_at_most_one false = omega arith

-- a trace of a shape is at most as long as the shape's longest
abbrev shape : Bool → Part → Part → Bool → Bool → ℕ → ℕ → Shape
shape c s r k h l u = record { command = c; sent = s; received = r; checked = k; tohost = h; least = l; most = u }

at_most_longest : (c : Bool) (s r : Part) (k h : Bool) (l u : ℕ) (p : Bool) (t : Message) → Valid (shape c s r k h l u) t
    → trace_length (shape c s r k h l u) p (length t.sent) (length t.received) ≤ longest_of (shape c s r k h l u)
unfolding trace_length longest_of
at_most_longest c Nothing Nothing k h l u p t v = omega (arith, v.sent_length_lem, v.received_length_lem, pec_at_most_one p)
at_most_longest c Nothing (Fixed n) k h l u p t v = omega (arith, v.sent_length_lem, v.received_length_lem, pec_at_most_one p)
at_most_longest c Nothing Counted k h l u p t v = omega (arith, v.sent_length_lem, v.counts, pec_at_most_one p)
at_most_longest c (Fixed m) Nothing k h l u p t v = omega (arith, v.sent_length_lem, v.received_length_lem, pec_at_most_one p)
at_most_longest c (Fixed m) (Fixed n) k h l u p t v = omega (arith, v.sent_length_lem, v.received_length_lem, pec_at_most_one p)
at_most_longest c (Fixed m) Counted k h l u p t v = omega (arith, v.sent_length_lem, v.counts, pec_at_most_one p)
at_most_longest c Counted Nothing k h l u p t v = omega (arith, v.received_length_lem, v.counts, pec_at_most_one p)
at_most_longest c Counted (Fixed n) k h l u p t v = omega (arith, v.received_length_lem, v.counts, pec_at_most_one p)
at_most_longest c Counted Counted k h l u p t v = omega (arith, v.counts, pec_at_most_one p)

pub longest_of_shape : (sh : Shape) (p : Bool) (t : Message) → Valid sh t → length (trace sh p t) ≤ longest_of sh
longest_of_shape sh p t v =
    omega (arith, trace_length_lem sh p t, at_most_longest sh.command sh.sent sh.received sh.checked sh.tohost sh.least sh.most p t v)

-- and no row's longest is longer than the table's
rows_at_most : all (λ (sh : Shape). leb (longest_of sh) longest_trace) shapes ≡ true
unfolding trace_length longest_of
rows_at_most = refl

no_row_at_most : leb (longest_of no_row) longest_trace ≡ true
unfolding trace_length longest_of
no_row_at_most = refl

pub longest : (protocol : ℕ) → AtMost (shape_of protocol)
longest protocol p t v =
    let h = leb-true (longest_of (shape_of protocol)) longest_trace (at_every_number (λ (sh : Shape). leb (longest_of sh) longest_trace) rows_at_most no_row_at_most protocol) in
    omega (arith, longest_of_shape (shape_of protocol) p t v, h)

-- and one is that long: Block Process Call with 200 bytes sent, 55 received and a PEC
abbrev so_many : Message
so_many = record { address = 0x10; direction = 0; command = 7; sent = replicate 200 0; received = replicate 55 0 }

sent_length_lem : length so_many.sent ≡ 200
sent_length_lem = length-replicate {A = ℕ} 200 0

received_length_lem : length so_many.received ≡ 55
received_length_lem = length-replicate {A = ℕ} 55 0

pub one_so_long : (t : Message) × Valid (shape_of 10) t × (length (trace (shape_of 10) true t) ≡ longest_trace)
one_so_long =
    let v : Valid (shape_of 10) so_many =
    record {
      address = omega arith;
      direction = refl;
      command = (omega arith, tt);
      sent_length_lem = omega arith;
      sent_bytes = zeros_bytes 200;
      received_length_lem = omega arith;
      received_bytes = zeros_bytes 55;
      counts = omega (arith, sent_length_lem, received_length_lem);
    }
    in
    (so_many, v, columns.block_process_call true so_many v ∙ omega (arith, sent_length_lem, received_length_lem))
