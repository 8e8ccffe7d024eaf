-- The length of a trace is the one that trace_length adds up, whatever stands in PEC's place.
use Rattle.std.specs.Prelude.{◌≡◌, refl, Bool, true, false, List, [], ◌∷◌, ◌++◌, ℕ, ◌+◌, ◌*◌, length}
use Rattle.std.proofs.Common.{ap, ◌∙◌, arith, length-append}
use Rattle.lists.specs.Choice.{pick}
use Rattle.wire.specs.Symbols.{START, STOP, ACK}
use Rattle.trace.specs.declared.shape.Part.{Part}
use Rattle.trace.specs.declared.shape.Part.TheVariants.{Nothing, Fixed, Counted}
use Rattle.trace.specs.declared.shape.Shape.{Shape}
use Rattle.trace.specs.Shapes.{is_counted, writes, reads}
use Rattle.trace.specs.Trace.{Message, laid, acked, nacked, in_place, front, first_byte, by_target, by_controller, trace_at, trace, pec_of}
use Rattle.trace.specs.Lengths.{trace_length}

pub length_acked : (xs : List ℕ) → length (acked xs) ≡ 2 * length xs
length_acked [] = refl
length_acked (x ∷ xs) = let ih = length_acked xs in omega arith

pub length_nacked : (xs : List ℕ) → length (nacked xs) ≡ 2 * length xs
length_nacked [] = refl
length_nacked (x ∷ xs) = let ih = length_nacked xs in omega arith

pub length_place : (p : Bool) (y : ℕ) → length (in_place p y) ≡ pick p 1 0
length_place true y = refl
length_place false y = refl

-- two symbols more with PEC
pub pec_symbols : (p : Bool) → 2 * pick p 1 0 ≡ pick p 2 0
pec_symbols true = refl
pec_symbols false = refl

pub laid_length : (a : Part) (s : List ℕ) → length (laid a s) ≡ pick (is_counted a) 1 0 + length s
laid_length Nothing s = omega arith
laid_length (Fixed k) s = omega arith
laid_length Counted s = omega arith

front_length : (b : Bool) (c : ℕ) (xs : List ℕ) → length (pick b (c ∷ []) [] ++ xs) ≡ pick b 1 0 + length xs
front_length true c xs = omega arith
front_length false c xs = omega arith

turn_length : (r w p : Bool) (f y : ℕ) → length (pick r (pick w (START ∷ f ∷ ACK ∷ []) []) (acked (in_place p y))) ≡ pick r (pick w 3 0) (2 * pick p 1 0)
turn_length true true p f y = refl
turn_length true false p f y = refl
turn_length false w p f y = length_acked (in_place p y) ∙ ap (λ (n : ℕ). 2 * n) (length_place p y)

back_length : (b p : Bool) (xs : List ℕ) (y : ℕ) → length (pick b (nacked (xs ++ in_place p y)) [] ++ STOP ∷ []) ≡ pick b (2 * (length xs + pick p 1 0)) 0 + 1
back_length true p xs y =
    length-append (nacked (xs ++ in_place p y)) (STOP ∷ [])
    ∙ ap (λ (n : ℕ). n + 1) (length_nacked (xs ++ in_place p y) ∙ ap (λ (n : ℕ). 2 * n) (length-append xs (in_place p y) ∙ ap (λ (n : ℕ). length xs + n) (length_place p y)))
back_length false p xs y = refl

lengths_add_up : (r w : Bool) (q k n m : ℕ) → 1 + 2 * (1 + m) + pick r (pick w 3 0) (2 * q) + (pick r (2 * (k + n + q)) 0 + 1) ≡ 4 + 2 * m + pick r (pick w 3 0 + 2 * (k + n)) 0 + 2 * q
lengths_add_up true true q k n m = omega arith
lengths_add_up true false q k n m = omega arith
lengths_add_up false w q k n m = omega arith

-- whatever byte stands in PEC's place
pub length_at : (sh : Shape) (p : Bool) (t : Message) (y : ℕ) → length (trace_at sh t (in_place p y)) ≡ trace_length sh p (length t.sent) (length t.received)
unfolding trace_length
length_at sh p t y =
    let fr : length (acked (front sh t)) ≡ 2 * (1 + (pick sh.command 1 0 + (pick (is_counted sh.sent) 1 0 + length t.sent))) =
    length_acked (front sh t) ∙ omega (arith, front_length sh.command t.command (laid sh.sent t.sent), laid_length sh.sent t.sent) in
    let mid = turn_length (reads sh) (writes sh) p (first_byte sh t + 1) y in
    let whole = length-append (by_target sh t (in_place p y)) (by_controller sh t (in_place p y)) in
    let first = length-append (START ∷ acked (front sh t)) (pick (reads sh) (pick (writes sh) (START ∷ (first_byte sh t + 1) ∷ ACK ∷ []) []) (acked (in_place p y))) in
    let back : length (by_controller sh t (in_place p y)) ≡ pick (reads sh) (2 * (pick (is_counted sh.received) 1 0 + length t.received + pick p 1 0)) 0 + 1 =
    back_length (reads sh) p (laid sh.received t.received) y ∙ ap (λ (n : ℕ). pick (reads sh) (2 * (n + pick p 1 0)) 0 + 1) (laid_length sh.received t.received) in
    let s = lengths_add_up (reads sh) (writes sh) (pick p 1 0) (pick (is_counted sh.received) 1 0) (length t.received) (pick sh.command 1 0 + pick (is_counted sh.sent) 1 0 + length t.sent) in
    omega (arith, fr, mid, whole, first, back, s)

pub trace_length_lem : (sh : Shape) (p : Bool) (t : Message) → length (trace sh p t) ≡ trace_length sh p (length t.sent) (length t.received)
trace_length_lem sh p t = length_at sh p t (pec_of sh t)
