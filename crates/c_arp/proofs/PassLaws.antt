-- A pass over a list: an entry as the code reads it, a report, a turn of the loop, and a step or its first half on the front of a long trace.
use Prim.Native.Nat.{ℕ, zero, suc, ◌+◌, ◌*◌, ◌-◌, ◌/◌, ◌≤◌, ◌<◌}
use mathlib.Core.Path.{◌≡◌, refl, sym, ap, ap₂, ◌∙◌}
use mathlib.Core.Bool.{Bool, true, false}
use mathlib.Core.List.{List, [], ◌∷◌}
use native.Mathlib.Omega.{arith}
use lib.Dec.{ltb, leb}
use borrow.Author.Tests.{lt-ltb, le-ltb, le-leb, leb-true, ltb-false}
use lib.ListN.{length, take, drop, length-drop}
use lib.Seq.{drop-drop, length-take-le}
use Rattle.std.proofs.Common.{Option, Some, None}
use Rattle.std.proofs.lemmas.Option.{none-some, same_Some}
use Rattle.lists.specs.Choice.{pick, and}
use Rattle.lists.specs.ChoiceLaws.{both_true, false_not_true}
use Rattle.pool.specs.declared.Pool.{Pool}
use Rattle.slots.proofs.SlotsLaws.{held_above_is_open}
use Rattle.hearing.specs.LongTraceLaws.{same_told}
use Rattle.arp.specs.Choosing.{decided_on, first_half}
use Rattle.arp.specs.Controller.{new_controller, started}
use Rattle.arp.proofs.GoneLaws.{nothing_reported}
use Rattle.arp.specs.History.{By, Step, Choose, Event, Received, Gone, heard}
use Rattle.arp.specs.Replay.{is_bound}
use Rattle.arp.specs.declared.state.Controller.{Controller}
use Rattle.arp.specs.declared.state.Stepped.{Stepped}
use Rattle.arp.proofs.ChangedLaws.{step_of_front}
use Rattle.pairs.specs.Pairs.{symbols_in}
use Rattle.pairs.specs.PairLaws.{length_symbols, symbols_of_part, fewer_symbols_front}
use Rattle.c_arp.specs.Pass.{said, head_of, half_size, size_by, size_of, is_whole, entry_by, entry_of, entries_in, after_event, steps_over, pass_over, Begins}
use Rattle.c_arp.specs.declared.entry.Head.{Head}
use Rattle.c_arp.specs.declared.entry.Head.TheVariants as head

-- ---- the size of an entry, as the code reads it

-- the bytes begin an entry of this size, which is there
module _ (m : List ℕ) (k : Head) (is : head_of (said m) ≡ k) (size : ℕ) (e : size_by k (said m) (said (drop 2 m)) ≡ size) where
  size_is : size_of m ≡ size
  size_is = ap (λ (h : Head). size_by h (said m) (said (drop 2 m))) is ∙ e

  pub begins : 0 < size → size ≤ length m → (x : Event) → x ≡ entry_by k m → (rest : List ℕ) → rest ≡ drop size m → Begins m x rest
  begins p h x f rest g = record {
    whole = ap (λ (n : ℕ). and (ltb 0 n) (leb n (length m))) size_is ∙ ap₂ and (lt-ltb 0 size p) (le-leb size (length m) h);
    entry = f ∙ ap (λ (h : Head). entry_by h m) (sym is);
    rest_is = g ∙ ap (λ (n : ℕ). drop n m) (sym size_is);
  }

-- an entry has two bytes at least
size_two : (h : Head) (n m : ℕ) → ltb 0 (size_by h n m) ≡ true → 2 ≤ size_by h n m
size_two head.Count n m e = omega arith
size_two head.Gone n m e = omega arith
size_two head.Issue n m e = omega arith
size_two head.Decline n m e = omega arith
size_two head.Choose n m e = go (ltb 65531 m) e
  where
    go : (b : Bool) → ltb 0 (pick b 0 (4 + 2 * m)) ≡ true → 2 ≤ pick b 0 (4 + 2 * m)
    go true f = false_not_true f
    go false f = omega arith

-- and no more than there are
whole_fits : (m : List ℕ) → is_whole m ≡ true → (2 ≤ size_of m) × (size_of m ≤ length m)
whole_fits m e =
    let b = both_true (ltb 0 (size_of m)) (leb (size_of m) (length m)) e in
    (size_two (head_of (said m)) (said m) (said (drop 2 m)) b.0, leb-true (size_of m) (length m) b.1)

-- the symbols of a trace whose bytes are the front of what is left
pub front_symbols : (n : ℕ) (t l : List ℕ) → t ≡ take (2 * n) l → 2 * n ≤ length l → symbols_in (length t / 2) t ≡ symbols_in n l
front_symbols n t l e h =
    let c : length t / 2 ≡ n = omega (arith, ap length e, length-take-le (2 * n) l h) in
    ap₂ symbols_in c e ∙ symbols_of_part n l

-- a trace for a step, and one for the first half of a step
pub begins_step : (m : List ℕ) (n : ℕ) (r t u : List ℕ) → (2 ≤ length m) × (n ≡ said m) × (r ≡ drop 2 m) → head.Count ≡ head_of n
    → (2 * n ≤ length r) × (t ≡ take (2 * n) r) × (u ≡ drop (2 * n) r) → Begins m (Received Step (symbols_in (length t / 2) t)) u
begins_step m n r t u p h q =
    let long : length r ≡ length m - 2 = ap length p.2 ∙ length-drop 2 m in
    let size : 2 + 2 * said m ≡ 2 + 2 * n = ap (λ (k : ℕ). 2 + 2 * k) (sym p.1) in
    let whole : 2 + 2 * n ≤ length m = omega (arith, long, p.0, q.0) in
    let e : symbols_in (length t / 2) t ≡ symbols_in (said m) (drop 2 m) = front_symbols n t r q.1 q.0 ∙ ap₂ symbols_in p.1 p.2 in
    let d : drop (2 * n) (drop 2 m) ≡ drop (2 + 2 * n) m = drop-drop (2 * n) 2 m in
    begins m head.Count (ap head_of (sym p.1) ∙ sym h) (2 + 2 * n) size (omega arith) whole _ (ap (Received Step) e) u (q.2 ∙ ap (drop (2 * n)) p.2 ∙ d)

pub begins_half : (m : List ℕ) (n k : ℕ) (r q t u : List ℕ) → (2 ≤ length m) × (n ≡ said m) × (r ≡ drop 2 m) → head.Choose ≡ head_of n
    → (2 ≤ length r) × (k ≡ said r) × (q ≡ drop 2 r) → k ≤ 65531 → (2 * k ≤ length q) × (t ≡ take (2 * k) q) × (u ≡ drop (2 * k) q)
    → Begins m (Received Choose (symbols_in (length t / 2) t)) u
begins_half m n k r q t u p h x few y =
    let count : said (drop 2 m) ≡ k = sym (x.1 ∙ ap said p.2) in
    let rest : q ≡ drop 4 m = x.2 ∙ ap (drop 2) p.2 ∙ drop-drop 2 2 m in
    let long : length q ≡ length m - 4 = ap length rest ∙ length-drop 4 m in
    let size : half_size (said (drop 2 m)) ≡ 4 + 2 * k = ap half_size count ∙ ap (λ (b : Bool). pick b 0 (4 + 2 * k)) (le-ltb 65531 k few) in
    let whole : 4 + 2 * k ≤ length m = omega (arith, long, p.0, x.0, ap length p.2, length-drop 2 m, y.0) in
    let e : symbols_in (length t / 2) t ≡ symbols_in (said (drop 2 m)) (drop 4 m) = front_symbols k t q y.1 y.0 ∙ ap₂ symbols_in (sym count) rest in
    let d : drop (2 * k) (drop 4 m) ≡ drop (4 + 2 * k) m = drop-drop (2 * k) 4 m in
    begins m head.Choose (ap head_of (sym p.1) ∙ sym h) (4 + 2 * k) size (omega arith) whole _ (ap (Received Choose) e) u (y.2 ∙ ap (drop (2 * k)) rest ∙ d)

-- ---- a report

pub reported_nowhere : (st : Stepped) (a : ℕ) → 127 < a → st ≡ after_event st (Gone a)
reported_nowhere st a h =
    ap (λ (s : Controller). record { state = s; command = st.command })
    (sym (nothing_reported st.state a (ap is_bound (held_above_is_open st.state.slots a (omega arith)))))

-- ---- the loop

none_left : (k : ℕ) (l : List ℕ) → is_whole l ≡ false → entries_in k l ≡ []
unfolding entries_in
none_left zero l e = refl
none_left (suc k) l e = rw e

one_more : (k : ℕ) (l : List ℕ) → is_whole l ≡ true → entries_in (suc k) l ≡ entry_of l ∷ entries_in k (drop (size_of l) l)
unfolding entries_in
one_more k l e = rw e

steps_none : (st : Stepped) → steps_over st [] ≡ st
unfolding steps_over
steps_none st = refl

steps_one : (st : Stepped) (e : Event) (es : List Event) → steps_over st (e ∷ es) ≡ steps_over (after_event st e) es
unfolding steps_over
steps_one st e es = refl

-- what is left to do leads to the end e
pub record Leads (l : List ℕ) (e st : Stepped) : Type 0 where
  pub fuel : ℕ
  pub enough : length l ≤ fuel
  pub leads : steps_over st (entries_in fuel l) ≡ e

-- no whole entry is left
pub leads_end : (l : List ℕ) (e st : Stepped) → Leads l e st → is_whole l ≡ false → st ≡ e
leads_end l e st v w = sym (ap (steps_over st) (none_left v.fuel l w) ∙ steps_none st) ∙ v.leads

-- so the loop comes to its end
pub turn_less : (l : List ℕ) (x : Event) (rest : List ℕ) → Begins l x rest → length rest < length l
turn_less l x rest b = let f = whole_fits l b.whole in omega (arith, ap length b.rest_is, length-drop (size_of l) l, f.0, f.1)

turn_by : (l : List ℕ) (e st : Stepped) (f : ℕ) → length l ≤ f → steps_over st (entries_in f l) ≡ e
    → (x : Event) (rest : List ℕ) → Begins l x rest → (after : Stepped) → after ≡ after_event st x → Leads rest e after
turn_by l e st zero g v x rest b after r = absurd (omega (arith, (whole_fits l b.whole).0, (whole_fits l b.whole).1))
turn_by l e st (suc f) g v x rest b after r = record {
  fuel = f;
  enough = let k = turn_less l x rest b in omega arith;
  leads =
      sym
      (ap (steps_over st) (one_more f l b.whole)
      ∙ steps_one st (entry_of l) (entries_in f (drop (size_of l) l))
      ∙ ap₂ (λ (y : Stepped) (m : List ℕ). steps_over y (entries_in f m)) (sym (r ∙ ap (after_event st) b.entry)) (sym b.rest_is))
      ∙ v;
}

pub leads_turn : (l : List ℕ) (e st : Stepped) → Leads l e st → (x : Event) (rest : List ℕ) → Begins l x rest → (after : Stepped)
    → after ≡ after_event st x → Leads rest e after
leads_turn l e st v x rest b after r = turn_by l e st v.fuel v.enough v.leads x rest b after r

-- ---- a step, and its first half, on the first 526 symbols of a trace

heard_of_front : (w : By) (s : Controller) (tr : List ℕ) → 526 ≤ length tr → heard w s (take 526 tr) ≡ heard w s tr
unfolding first_half
heard_of_front Step s tr long = step_of_front s tr long
heard_of_front Choose s tr long = ap (decided_on s) (same_told tr long s.last)

module _ (w : By) (s : Controller) (bytes : List ℕ) (room : ℕ) (z : room ≡ 526) where
  abbrev whole : List ℕ
  whole = symbols_in (length bytes / 2) bytes

  pub heard_on_front : heard w s (symbols_in (pick (ltb (length bytes / 2) room) (length bytes / 2) room) bytes) ≡ heard w s whole
  heard_on_front = ap (λ (k : ℕ). heard w s (symbols_in (pick (ltb (length bytes / 2) k) (length bytes / 2) k) bytes)) z ∙ go (ltb (length bytes / 2) 526) refl
    where
      go : (b : Bool) → ltb (length bytes / 2) 526 ≡ b → heard w s (symbols_in (pick (ltb (length bytes / 2) 526) (length bytes / 2) 526) bytes) ≡ heard w s whole
      go true h = ap (λ (b : Bool). heard w s (symbols_in (pick b (length bytes / 2) 526) bytes)) h
      go false h =
          let l : 526 ≤ length bytes / 2 = ltb-false (length bytes / 2) 526 h in
          ap (λ (b : Bool). heard w s (symbols_in (pick b (length bytes / 2) 526) bytes)) h
          ∙ ap (heard w s) (sym (fewer_symbols_front 526 (length bytes / 2) bytes l))
          ∙ heard_of_front w s whole (omega (arith, length_symbols (length bytes / 2) bytes))

-- the loop began where a pass does
pub from_start : (occupied : Pool) (last : ℕ) (l : List ℕ) (c : Controller) (first st : Stepped) → c ≡ new_controller occupied last → first ≡ started c
    → st ≡ steps_over first (entries_in (length l) l) → st ≡ pass_over occupied last l
from_start occupied last l c first st e f g = g ∙ ap (λ (x : Stepped). steps_over x (entries_in (length l) l)) (f ∙ ap started e)

-- a pass that there is, and one that there is not
pub pass_done : (b : Bool) (o : Option Stepped) (v st : Stepped) → o ≡ pick b None (Some v) → o ≡ Some st → (b ≡ false) × (v ≡ st)
pass_done true o v st e f = absurd (none-some st (sym e ∙ f))
pass_done false o v st e f = (refl, same_Some v st (sym e ∙ f))

pub pass_refused : (b : Bool) (o : Option Stepped) (v : Stepped) → o ≡ pick b None (Some v) → o ≡ None → b ≡ true
pass_refused true o v e f = refl
pass_refused false o v e f = absurd (none-some v (sym f ∙ e))
