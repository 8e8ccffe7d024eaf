-- The decoder's verdict on a whole trace with PEC is the PEC's: 0 if the bytes on the wire end with their right PEC, else 7 at PEC's place.
-- So a change that the PEC catches is answered with 7, and no buffer changes.
use Rattle.std.specs.Prelude.{◌≡◌, refl, Bool, true, false, List, [], ◌∷◌, ◌++◌, ◌↔◌, ℕ, ◌+◌, ◌-◌, ◌<◌, ltb, length, get_or, take}
use Rattle.std.proofs.Common.{sym, ap, ap₂, ◌∙◌, subst, arith, length-append, take_at, ltb-true}
use Rattle.std.proofs.lemmas.List.{get_or_at}
use Rattle.lists.specs.Choice.{pick}
use Rattle.lists.specs.Each.{Bytes}
use Rattle.pec.specs.Pec.{pec_of}
use Rattle.trace.proofs.PecPlaceLaws.{pec_third}
use Rattle.trace.proofs.ShapeLaws.{sane}
use Rattle.trace.specs.Shapes.{shape_of}
use Rattle.trace.specs.Table.{Line, Row, InTable, symbols, TraceOf}
use Rattle.trace.proofs.TableLaws.{row_means}
use Rattle.trace.specs.Trace.{Message}
use Rattle.scan.specs.BytesIn.{bytes_in}
use Rattle.scan.specs.Fitting.{Whole}
use Rattle.scan.specs.Numbers.{decode_number}
use Rattle.scan.proofs.PecByteLaws.{pec_lt}
use Rattle.scan.specs.Decoded.{Decoded}
use Rattle.scan.specs.declared.answer.Refusal.TheVariants.{PecDiffers}
use Rattle.decode.specs.NumberLaws.{decode_0, decode_refused, decode_refusal}
use Rattle.decode.specs.Outcome.{Entered, Outcome}
use Rattle.catches.specs.Changes.{RightPec, Came}
use Rattle.garbled.specs.WireBytesLaws.{bytes_of_line}

-- ---- lists

-- two lists that are equal with a last number are equal, and so are the numbers
same_last : (xs ys : List ℕ) (x y : ℕ) → xs ++ x ∷ [] ≡ ys ++ y ∷ [] → (xs ≡ ys) × (x ≡ y)
same_last xs ys x y e =
    let n : length ys ≡ length xs = omega (arith, ap length e, length-append xs (x ∷ []), length-append ys (y ∷ [])) in (
      sym (take_at xs (x ∷ []) (length xs) refl) ∙ ap (take (length xs)) e ∙ take_at ys (y ∷ []) (length xs) n,
      sym (get_or_at xs x [] 0 (length xs) refl) ∙ ap (λ (l : List ℕ). get_or l (length xs) 0) e ∙ get_or_at ys y [] 0 (length xs) n,
    )

pub bytes_are_bytes : (l : List ℕ) → Bytes (bytes_in l)
bytes_are_bytes [] = tt
bytes_are_bytes (x ∷ l) = go (ltb x 256) refl (bytes_are_bytes l)
  where
    go : (b : Bool) → ltb x 256 ≡ b → Bytes (bytes_in l) → Bytes (pick b (x ∷ bytes_in l) (bytes_in l))
    go true e h = (ltb-true x 256 e, h)
    go false e h = h

-- ---- a trace that was sent, and one that came

-- the PEC of what a line covers is a byte
covered_pec : (q : List ℕ) (x : Line) → Row q x → pec_of x.covered < 256
covered_pec q x r = let m = row_means q x r in subst (λ (l : List ℕ). pec_of l < 256) (sym m.covers) (pec_lt (shape_of x.protocol) (sane x.protocol) x.message m.valid)

-- the bytes of a message's trace are those covered, and their PEC
pub sent_covered : (protocol : ℕ) (t : Message) (tr : List ℕ) (w : TraceOf protocol true t tr) → bytes_in tr ≡ w.0.covered ++ pec_of w.0.covered ∷ []
sent_covered protocol t tr w = let x = w.0 in ap bytes_in w.4 ∙ bytes_of_line protocol (pec_of x.covered) x (w.1, w.2, covered_pec _ x w.1)

pub sent_right : (protocol : ℕ) (t : Message) (tr : List ℕ) → TraceOf protocol true t tr → RightPec (bytes_in tr)
sent_right protocol t tr w = (w.0.covered, sent_covered protocol t tr w)

pub came : (protocol : ℕ) (t : Message) (tr tr' : List ℕ) → TraceOf protocol true t tr → length (bytes_in tr') ≡ length (bytes_in tr) → Came (bytes_in tr) (bytes_in tr')
came protocol t tr tr' w e = record { sent = bytes_are_bytes tr; right = sent_right protocol t tr w; came = bytes_are_bytes tr'; as_many = e }

-- PEC's place
pub three_symbols : (protocol : ℕ) (tr : List ℕ) → Whole protocol true tr → 3 + (length tr - 3) ≡ length tr
three_symbols protocol tr (y, x, (r, e, h), f) =
    let m = row_means (y ∷ []) x r in
    let t = pec_third (shape_of x.protocol) x.message y in
    let n : length tr ≡ length (t.before ++ y ∷ t.gets ∷ 257 ∷ []) = ap length (f ∙ ap₂ (λ (k l : List ℕ). k ++ l) m.target m.controller ∙ t.is) in
    omega (arith, n, length-append t.before (y ∷ t.gets ∷ 257 ∷ []))

-- ---- the verdict

module _ (protocol : ℕ) (tr sent₀ received₀ : List ℕ) (a : Decoded) (sent received : List ℕ) (o : Outcome protocol true tr sent₀ received₀ a sent received) (h : Entered protocol true sent₀ received₀) (w : Whole protocol true tr) where
  -- the byte in PEC's place is the PEC of those before it exactly if the bytes on the wire end with their right PEC
  right_in_place : (y : ℕ) (x : Line) → InTable protocol true y x → tr ≡ symbols x → RightPec (bytes_in tr) ↔ (y ≡ pec_of x.covered)
  right_in_place y x i e =
      let b = ap bytes_in e ∙ bytes_of_line protocol y x i in (
        λ r. (let s = same_last x.covered r.0 y (pec_of r.0) (sym b ∙ r.1) in s.1 ∙ ap pec_of (sym s.0)),
        λ p. (x.covered, b ∙ ap (λ (n : ℕ). x.covered ++ n ∷ []) p),
      )

  pub verdict_0 : (decode_number a ≡ (0, 0)) ↔ RightPec (bytes_in tr)
  verdict_0 =
      let d = decode_0 protocol true tr sent₀ received₀ a sent received o in (
        λ e. (let (m, z) = (d.0 e).1 in sent_right protocol m tr z),
        λ r. (let (y, x, i, f) = w in let p = (right_in_place y x i f).0 r in d.1 (h, (x.message, (x, subst (λ (n : ℕ). Row (n ∷ []) x) p i.0, i.1, refl, f)))),
      )

  pub verdict_7 : (decode_number a ≡ (7, length tr - 3)) ↔ (RightPec (bytes_in tr) → ⊥)
  verdict_7 =
      let d = decode_refused protocol true tr sent₀ received₀ a sent received o PecDiffers (length tr - 3) (omega arith) in (
        λ e r. (let (u, (y, x, i, f, n), l) = (d.0 e).1 in n ((right_in_place y x i f).0 r)),
        λ n. (let (y, x, i, f) = w in d.1 (h, (refl, (y, x, i, f, λ p. n ((right_in_place y x i f).1 p)), (let z = three_symbols protocol tr w in omega (arith, z))))),
      )

  -- a change that is caught: 7 at PEC's place, and both buffers as they were
  pub caught_is_seven : (RightPec (bytes_in tr) → ⊥) → (decode_number a ≡ (7, length tr - 3)) × (sent ≡ sent₀) × (received ≡ received₀)
  caught_is_seven n =
      let e = verdict_7.1 n in
      let u = decode_refusal protocol true tr sent₀ received₀ a sent received o (λ z. omega (arith, sym (ap (λ (p : ℕ × ℕ). p.0) e) ∙ z)) in
      (e, u.0, u.1)
