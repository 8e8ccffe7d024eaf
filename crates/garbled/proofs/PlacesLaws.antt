-- The places that may differ have the command, the data and the PEC, all of them.
use Rattle.std.specs.Prelude.{◌≡◌, refl, true, List, [], ◌∷◌, ℕ, ◌+◌, ◌-◌, ◌*◌, ◌<◌, length, get_or, set}
use Rattle.std.proofs.Common.{sym, ap, ap₂, ◌∙◌, inl, inr, arith, length-append, get_or-set_same, lt-ltb}
use Rattle.std.proofs.lemmas.List.{set-get_or}
use Rattle.trace.proofs.PecPlaceLaws.{pec_third}
use Rattle.trace.proofs.ShapeLaws.{row_is}
use Rattle.trace.specs.Shapes.{shape_of, reads}
use Rattle.trace.specs.Table.{TraceOf}
use Rattle.trace.proofs.TableLaws.{listed_trace}
use Rattle.trace.specs.Trace.{Message, trace_at, pec_of}
use Rattle.trace.specs.declared.shape.Shape.{Shape}
use Rattle.garbled.specs.Places.{sent_from, MayDiffer}
use Rattle.garbled.proofs.StaysLaws.{reads_some, sent_from_lem}
use Rattle.garbled.specs.TraceSetLaws.{with_sent, with_received, head_bytes, front_length, front_inside, command_inside, set_command_byte, set_sent_byte, set_received_byte}

-- where putting a number changes nothing, it stands
stands : (l : List ℕ) (k v : ℕ) → k < length l → set l k v ≡ l → get_or l k 0 ≡ v
stands l k v h e = ap (λ (z : List ℕ). get_or z k 0) (sym e) ∙ get_or-set_same l k v 0 h

module _ (sh : Shape) (t : Message) (y : ℕ) where
  at_command : sh.command ≡ true → get_or (trace_at sh t (y ∷ [])) 3 0 ≡ t.command
  at_command c = stands (trace_at sh t (y ∷ [])) 3 t.command (front_inside sh t (y ∷ []) 1 (command_inside sh t c)) (set_command_byte sh t (y ∷ []) t.command c)

  at_sent : (i : ℕ) → i < length t.sent → get_or (trace_at sh t (y ∷ [])) (1 + 2 * (head_bytes sh + i)) 0 ≡ get_or t.sent i 0
  at_sent i l =
      let e = set_sent_byte sh t (y ∷ []) i (get_or t.sent i 0) l ∙ ap (λ (s : List ℕ). trace_at sh (with_sent t s) (y ∷ [])) (set-get_or t.sent i 0) in
      stands (trace_at sh t (y ∷ [])) (1 + 2 * (head_bytes sh + i)) (get_or t.sent i 0) (front_inside sh t (y ∷ []) (head_bytes sh + i) (omega (arith, l, front_length sh t))) e

  at_received : (i k : ℕ) → reads sh ≡ true → i < length t.received → k + 3 + 2 * (length t.received - i) ≡ length (trace_at sh t (y ∷ [])) → get_or (trace_at sh t (y ∷ [])) k 0 ≡ get_or t.received i 0
  at_received i k r l n =
      let e = set_received_byte sh t y i (get_or t.received i 0) k r l n ∙ ap (λ (r : List ℕ). trace_at sh (with_received t r) (y ∷ [])) (set-get_or t.received i 0) in
      stands (trace_at sh t (y ∷ [])) k (get_or t.received i 0) (omega (arith, n)) e

-- the command, data byte i sent, data byte i received
module _ (protocol : ℕ) (t : Message) (tr : List ℕ) (w : TraceOf protocol true t tr) where
  pub has_command : 2 < protocol → MayDiffer protocol t (length tr) 3 × (get_or tr 3 0 ≡ t.command)
  has_command h =
      let (k, v, e) = listed_trace protocol true t tr w in
      (inl (h, refl), ap (λ (l : List ℕ). get_or l 3 0) e ∙ at_command (shape_of protocol) t _ ((row_is protocol k).1 ∙ lt-ltb 2 protocol h))

  pub has_sent : (i : ℕ) → i < length t.sent → MayDiffer protocol t (length tr) (sent_from protocol + 2 * i) × (get_or tr (sent_from protocol + 2 * i) 0 ≡ get_or t.sent i 0)
  has_sent i l =
      let (k, v, e) = listed_trace protocol true t tr w in
      let s = sent_from_lem protocol k (reads_some (shape_of protocol).least (shape_of protocol).sent t.sent v.sent_length_lem (omega (arith, l))) in
      let p : sent_from protocol + 2 * i ≡ 1 + 2 * (head_bytes (shape_of protocol) + i) = omega (arith, s) in
      (inr (inl (i, l, refl)), ap₂ (λ (l : List ℕ) (n : ℕ). get_or l n 0) e p ∙ at_sent (shape_of protocol) t _ i l)

  pub has_received : (i k : ℕ) → i < length t.received → k + 3 + 2 * (length t.received - i) ≡ length tr → MayDiffer protocol t (length tr) k × (get_or tr k 0 ≡ get_or t.received i 0)
  has_received i k l n =
      let (known, v, e) = listed_trace protocol true t tr w in (
        inr (inr (length t.received - i, omega arith, n)),
        ap (λ (l : List ℕ). get_or l k 0) e
            ∙ at_received (shape_of protocol) t _ i k (reads_some (shape_of protocol).least (shape_of protocol).received t.received v.received_length_lem (omega (arith, l))) l (n ∙ ap length e),
      )

  pub has_pec : MayDiffer protocol t (length tr) (length tr - 3)
  has_pec =
      let (known, v, e) = listed_trace protocol true t tr w in
      let z = pec_third (shape_of protocol) t (pec_of (shape_of protocol) t) in
      inr (inr (0, omega arith, (let n = ap length (e ∙ z.is) in omega (arith, n, length-append z.before (pec_of (shape_of protocol) t ∷ z.gets ∷ 257 ∷ [])))))
