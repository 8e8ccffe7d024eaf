-- The pieces of a valid message are its trace, and the writers write it.
use mathlib.Core.Path.{◌≡◌, refl, sym, ap, ap₂, ◌∙◌}
use mathlib.Core.Bool.{Bool, true, false}
use mathlib.Core.List.{List, [], ◌∷◌, ◌++◌, append_assoc}
use Prim.Native.Nat.{ℕ, ◌+◌, ◌-◌, ◌*◌, ◌%◌, ◌≤◌, ◌<◌}
use native.Mathlib.Nat.{mod-eq_of_lt}
use native.Mathlib.Omega.{arith}
use lib.Dec.{eqb}
use lib.ListN.{length, take, drop, length-append, length-take, length-drop}
use borrow.Author.Tests.{eqb-true, eqb-false}
use borrow.Rule.Slice.PartMut.{put_mid}
use Rattle.lists.specs.Choice.{pick, or}
use Rattle.lists.specs.ChoiceLaws.{false_not_true}
use Rattle.lists.specs.Onto.{onto}
use Rattle.lists.specs.OntoLaws.{onto_lent}
use Rattle.wire.specs.Symbols.{START, STOP, ACK}
use Rattle.pec.specs.Pec as Pec
use Rattle.pec.proofs.PecLaws.{pec_append}
use Rattle.trace.specs.declared.shape.Part.{Part}
use Rattle.trace.specs.declared.shape.Part.TheVariants.{Nothing, Fixed, Counted}
use Rattle.trace.specs.declared.shape.Shape.{Shape}
use Rattle.trace.specs.Shapes.{some, writes, reads}
use Rattle.trace.specs.Sane.{Small}
use Rattle.trace.specs.Trace.{Message, W, R, laid, acked, nacked, LengthOf, counted, first_byte, front, bytes, pec_of, in_place, by_controller, trace}
use Rattle.trace.proofs.LengthLaws.{length_acked}
use Rattle.trace.proofs.ValidLaws.{address_below_128}
use Rattle.encode.specs.Pieces.{part_bytes, first_of, write_bytes, write_phase, repeated_start, read_bytes, read_phase, rest, bytes_after, pec_of_phases, Ready}

-- nothing is cut: a count of at most 255, an address of seven bits, a direction of one
laid_is : (a : Part) (s : List ℕ) → counted a s ≤ 255 → part_bytes a s ≡ laid a s
laid_is Nothing s h = refl
laid_is (Fixed k) s h = refl
laid_is Counted s h = let e : length s % 256 ≡ length s = omega arith in ap (λ (n : ℕ). n ∷ s) e

quick_is : (a d : ℕ) → d ≤ 1 → pick (eqb d 0) (W a) (R a) ≡ 2 * a + d
quick_is a d h = go (eqb d 0) refl
  where
    go : (b : Bool) → eqb d 0 ≡ b → pick b (W a) (R a) ≡ 2 * a + d
    go true e = let k = eqb-true d 0 e in omega arith
    go false e = let k = eqb-false d 0 e in omega arith

first_is : (w r : Bool) (a d : ℕ) → pick (or w r) (d ≡ 0) (d ≤ 1) → pick w (W a) (pick r (R a) (pick (eqb d 0) (W a) (R a))) ≡ pick w (W a) (pick r (R a) (2 * a + d))
first_is true r a d h = refl
first_is false true a d h = refl
first_is false false a d h = quick_is a d h

-- what follows the write phase, and its bytes
rest_is : (d w : Bool) (g h : ℕ) (a b q o : List ℕ) → (w ≡ true → g ≡ h) → a ≡ b → q ≡ o
    → pick d (repeated_start w g ++ read_phase (a ++ q)) (acked q ++ STOP ∷ []) ≡ pick d (repeated_start w h) (acked o) ++ (pick d (nacked (b ++ o)) [] ++ STOP ∷ [])
rest_is true true g h a b q o eg ea eq = ap₂ (λ (n : ℕ) (zs : List ℕ). START ∷ n ∷ ACK ∷ read_phase zs) (eg refl) (ap₂ (λ (x y : List ℕ). x ++ y) ea eq)
rest_is true false g h a b q o eg ea eq = ap read_phase (ap₂ (λ (x y : List ℕ). x ++ y) ea eq)
rest_is false w g h a b q o eg ea eq = ap (λ (x : List ℕ). acked x ++ STOP ∷ []) eq

turn_is : (d w : Bool) (g h : ℕ) (a b : List ℕ) → (w ≡ true → g ≡ h) → a ≡ b → pick d (in_place w g ++ a) [] ≡ pick d (pick w (h ∷ []) [] ++ b) []
turn_is true true g h a b eg ea = ap₂ (λ (n : ℕ) (x : List ℕ). n ∷ x) (eg refl) ea
turn_is true false g h a b eg ea = ea
turn_is false w g h a b eg ea = refl

place_is : (p : Bool) (y x z : ℕ) → y ≡ pick p x 0 → x ≡ z → in_place p y ≡ in_place p z
place_is true y x z e g = ap (λ (n : ℕ). n ∷ []) (e ∙ g)
place_is false y x z e g = refl

-- a read phase has a byte, which the NACK is for
read_some : (a : Part) (r : List ℕ) (p : Bool) (y least : ℕ) → Small a → LengthOf least a r → some a ≡ true → 0 < length (read_bytes a r p y)
read_some Nothing r p y least h l e = false_not_true e
read_some (Fixed k) r p y least h l e = omega (arith, h, l, length-append r (in_place p y))
read_some Counted r p y least h l e = omega arith

module _ (sh : Shape) (p : Bool) (t : Message) (l : List ℕ) (ready : Ready sh p t (length l)) (f g y : ℕ) (ef : f ≡ first_of sh t.address t.direction) (eg : g ≡ R (t.address % 128))
    (ey : y ≡ pick p (pec_of_phases sh f g t.command t.sent t.received) 0) where
  address_is_lem : t.address % 128 ≡ t.address
  address_is_lem = mod-eq_of_lt (address_below_128 sh.tohost t.address ready.valid.address)

  the_first : f ≡ first_byte sh t
  the_first = ef ∙ ap (λ (a : ℕ). pick (writes sh) (W a) (pick (reads sh) (R a) (pick (eqb t.direction 0) (W a) (R a)))) address_is_lem ∙ first_is (writes sh) (reads sh) t.address t.direction ready.valid.direction

  the_second : writes sh ≡ true → g ≡ first_byte sh t + 1
  the_second w = eg ∙ ap R address_is_lem ∙ rw w

  sent_is_lem : part_bytes sh.sent t.sent ≡ laid sh.sent t.sent
  sent_is_lem = laid_is sh.sent t.sent (omega (arith, ready.valid.counts, ready.sane.most_byte))

  received_is_lem : part_bytes sh.received t.received ≡ laid sh.received t.received
  received_is_lem = laid_is sh.received t.received (omega (arith, ready.valid.counts, ready.sane.most_byte))

  front_is : write_bytes sh f t.command t.sent ≡ front sh t
  front_is = ap₂ (λ (n : ℕ) (a : List ℕ). n ∷ (in_place sh.command t.command ++ a)) the_first sent_is_lem

  bytes_are : write_bytes sh f t.command t.sent ++ bytes_after sh g t.received ≡ bytes sh t
  bytes_are = ap₂ (λ (a b : List ℕ). a ++ b) front_is (turn_is (reads sh) (writes sh) g (first_byte sh t + 1) _ _ the_second received_is_lem)

  pec_is_lem : pec_of_phases sh f g t.command t.sent t.received ≡ pec_of sh t
  pec_is_lem = sym (pec_append 0 (write_bytes sh f t.command t.sent) (bytes_after sh g t.received)) ∙ ap Pec.pec_of bytes_are

  pieces : write_phase sh f t.command t.sent ++ rest sh g t.received p y ≡ trace sh p t
  pieces =
      let o : List ℕ = in_place p (pec_of sh t) in
      let x : List ℕ = pick (reads sh) (repeated_start (writes sh) (first_byte sh t + 1)) (acked o) in
      ap₂ (λ (a b : List ℕ). START ∷ acked a ++ b) front_is
      (rest_is (reads sh) (writes sh) g (first_byte sh t + 1) _ _ (in_place p y) o the_second received_is_lem (place_is p y _ (pec_of sh t) ey pec_is_lem))
      ∙ sym (append_assoc (START ∷ acked (front sh t)) x (by_controller sh t o))

  phase_length : length (write_phase sh f t.command t.sent) ≡ 1 + 2 * length (write_bytes sh f t.command t.sent)
  phase_length = omega (arith, length_acked (write_bytes sh f t.command t.sent))

  whole_length : length (trace sh p t) ≡ length (write_phase sh f t.command t.sent) + length (rest sh g t.received p y)
  whole_length = sym (ap length pieces) ∙ length-append (write_phase sh f t.command t.sent) (rest sh g t.received p y)

  pub write_asks : 1 + 2 * length (write_bytes sh f t.command t.sent) ≤ length l
  write_asks = omega (arith, ready.fits, whole_length, phase_length)

  module _ (n : ℕ) (l₁ : List ℕ) (en : n ≡ 1 + 2 * length (write_bytes sh f t.command t.sent)) (e₁ : l₁ ≡ onto (write_phase sh f t.command t.sent) l) (kept : length l₁ ≡ length l) where
    pub place_fits : n ≤ length l₁
    place_fits = omega (arith, write_asks)

    pub rest_asks : (length (rest sh g t.received p y) ≤ length (take (length l₁ - n) (drop n l₁))) × (reads sh ≡ true → 0 < length (read_bytes sh.received t.received p y))
    rest_asks = (
      simp (length-take, length-drop) (omega (arith, ready.fits, whole_length, phase_length)),
      λ e. read_some sh.received t.received p y sh.least ready.sane.received_small ready.valid.received_length_lem e,
    )

    pub trace_put : (ys : List ℕ) → ys ≡ onto (rest sh g t.received p y) (take (length l₁ - n) (drop n l₁)) → put_mid n (length l₁ - n) l₁ ys ≡ onto (trace sh p t) l
    trace_put ys e =
        onto_lent (write_phase sh f t.command t.sent) (rest sh g t.received p y) l l₁ ys n e₁ (phase_length ∙ sym en) (omega (arith, write_asks)) e
        ∙ ap (λ (a : List ℕ). onto a l) pieces
