-- The bytes of a whole trace with PEC are those that the PEC covers, and the one in PEC's place.
use Rattle.std.specs.Prelude.{◌≡◌, refl, Bool, true, false, List, [], ◌∷◌, ◌++◌, ℕ, ◌+◌, ◌<◌}
use Rattle.std.proofs.Common.{sym, ap, ap₂, ◌∙◌, append_assoc, append-nil, arith}
use Rattle.lists.specs.Choice.{pick}
use Rattle.lists.specs.Each.{Bytes}
use Rattle.lists.specs.EachLaws.{append_bytes}
use Rattle.trace.specs.Sane.{Sane}
use Rattle.trace.proofs.ShapeLaws.{sane}
use Rattle.trace.specs.Shapes.{shape_of, writes, reads}
use Rattle.trace.specs.Table.{Line, InTable, symbols}
use Rattle.trace.proofs.TableLaws.{row_means}
use Rattle.trace.specs.Trace.{Message, laid, acked, ack_of, nacked, first_byte, front, bytes, by_target, by_controller, trace_at, Valid}
use Rattle.trace.specs.declared.shape.Shape.{Shape}
use Rattle.scan.specs.BytesIn.{bytes_in}
use Rattle.scan.proofs.BytesInLaws.{byte_more, no_byte_more, bytes_append, bytes_acked}
use Rattle.scan.proofs.ForwardLaws.{first_byte_fits}
use Rattle.scan.proofs.PecByteLaws.{laid_bytes, front_bytes}

-- what a received byte gets is no byte
ack_is_none : (bs l : List ℕ) → bytes_in (ack_of bs ∷ l) ≡ bytes_in l
ack_is_none [] l = no_byte_more 259 l (omega arith)
ack_is_none (b ∷ bs) l = no_byte_more 258 l (omega arith)

bytes_nacked : (bs : List ℕ) → Bytes bs → bytes_in (nacked bs) ≡ bs
bytes_nacked [] h = refl
bytes_nacked (b ∷ bs) h = byte_more b (ack_of bs ∷ nacked bs) h.0 ∙ ap (λ (l : List ℕ). b ∷ l) (ack_is_none bs (nacked bs) ∙ bytes_nacked bs h.1)

-- the address byte after a repeated START
turn_byte : (f : ℕ) → f < 255 → bytes_in (256 ∷ (f + 1) ∷ 258 ∷ []) ≡ (f + 1) ∷ []
turn_byte f h = no_byte_more 256 ((f + 1) ∷ 258 ∷ []) (omega arith) ∙ byte_more (f + 1) (258 ∷ []) (omega arith)

-- what follows the bytes sent, with q in PEC's place
rest_bytes : (r w : Bool) (f : ℕ) (xs q : List ℕ) → (w ≡ true → f < 255) → Bytes xs → Bytes q
    → bytes_in (pick r (pick w (256 ∷ (f + 1) ∷ 258 ∷ []) []) (acked q)) ++ bytes_in (pick r (nacked (xs ++ q)) [] ++ 257 ∷ []) ≡ pick r (pick w ((f + 1) ∷ []) [] ++ xs) [] ++ q
rest_bytes true w f xs q h b g =
    ap₂ (λ (x y : List ℕ). x ++ y) (turn w h) (bytes_append (nacked (xs ++ q)) (257 ∷ []) ∙ ap (λ (l : List ℕ). l ++ []) (bytes_nacked (xs ++ q) (append_bytes xs q b g)) ∙ append-nil (xs ++ q))
    ∙ sym (append_assoc (pick w ((f + 1) ∷ []) []) xs q)
  where
    turn : (w : Bool) → (w ≡ true → f < 255) → bytes_in (pick w (256 ∷ (f + 1) ∷ 258 ∷ []) []) ≡ pick w ((f + 1) ∷ []) []
    turn true h = turn_byte f (h refl)
    turn false h = refl
rest_bytes false w f xs q h b g = append-nil (bytes_in (acked q)) ∙ bytes_acked q g

-- over a shape
pub bytes_of_trace : (sh : Shape) → Sane sh → (t : Message) → Valid sh t → (y : ℕ) → y < 256 → bytes_in (trace_at sh t (y ∷ [])) ≡ bytes sh t ++ y ∷ []
bytes_of_trace sh hs t v y h =
    let q = y ∷ [] in
    let z = pick (reads sh) (pick (writes sh) (256 ∷ (first_byte sh t + 1) ∷ 258 ∷ []) []) (acked q) in
    bytes_append (by_target sh t q) (by_controller sh t q)
    ∙ ap (λ (l : List ℕ). l ++ bytes_in (by_controller sh t q)) (bytes_append (256 ∷ acked (front sh t)) z ∙ ap (λ (l : List ℕ). l ++ bytes_in z) (bytes_acked (front sh t) (front_bytes sh hs t v)))
    ∙ append_assoc (front sh t) (bytes_in z) (bytes_in (by_controller sh t q))
    ∙ ap (λ (l : List ℕ). front sh t ++ l) (rest_bytes (reads sh) (writes sh) (first_byte sh t) (laid sh.received t.received) q (first_byte_fits sh t v).2 (laid_bytes sh.received t.received v.received_bytes (omega (arith, v.counts, hs.most_byte))) (h, tt))
    ∙ sym (append_assoc (front sh t) _ q)

-- over the table
pub bytes_of_line : (protocol y : ℕ) (x : Line) → InTable protocol true y x → bytes_in (symbols x) ≡ x.covered ++ y ∷ []
bytes_of_line protocol y x (r, e, h) =
    let m = row_means (y ∷ []) x r in
    let sh = shape_of x.protocol in
    ap₂ (λ (a b : List ℕ). bytes_in (a ++ b)) m.target m.controller
    ∙ bytes_of_trace sh (sane x.protocol) x.message m.valid y h
    ∙ ap (λ (l : List ℕ). l ++ y ∷ []) (sym m.covers)
