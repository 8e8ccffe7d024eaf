-- In every state that the decoder reaches, the counts so far leave room for the least that may be received.
use Rattle.std.specs.Prelude.{◌≡◌, Bool, ℕ, suc, ◌+◌, ◌-◌, ◌≤◌, ◌%◌, eqb, Ok, Err}
use Rattle.std.proofs.Math.Path.{refl, subst}
use Rattle.std.proofs.Math.Bool.{true, false}
use mathlib.Core.List.{List, [], ◌∷◌}
use Rattle.std.proofs.Common.{arith}
use Rattle.lists.specs.Choice.{pick}
use Rattle.trace.specs.declared.shape.Part.{Part}
use Rattle.trace.specs.declared.shape.Part.TheVariants.{Nothing, Fixed, Counted}
use Rattle.trace.specs.declared.shape.Shape.{Shape}
use Rattle.trace.specs.Shapes.{writes, reads, least_of}
use Rattle.trace.specs.Sane.{Sane}
use Rattle.step.specs.declared.state.Slot.{Slot}
use Rattle.step.specs.declared.state.Slot.TheVariants.{Start, First, Command, Count, Data, Pec, Restart, Second, ReadCount, ReadData, ReadPec, Stop, End}
use Rattle.step.specs.declared.state.Due.{Due}
use Rattle.step.specs.declared.state.Due.TheVariants.{Nobody, Target, Controller, Halted, Cut}
use Rattle.step.specs.declared.state.Decoder.{Decoder}
use Rattle.step.specs.State.{to, fresh}
use Rattle.step.specs.Next.{after_read, to_read_data, to_read, after_write, to_data, to_sent, after_first}
use Rattle.step.specs.Fits.{fits_slot, fits_due, fits}
use Rattle.step.specs.Move.{move_slot, move_due, move}
use Rattle.scan.specs.Refusal.{why}
use Rattle.scan.specs.Run.{run}
use Rattle.scan.specs.Roomy.{AtCount, Roomy}
use Rattle.scan.proofs.RunLaws.{refused_not_reading, same_state}
use Rattle.scan.proofs.ReverseLaws.{count_back}

pub least_of_le : (a : Part) (k : ℕ) → least_of a k ≤ k
least_of_le Nothing k = omega arith
least_of_le (Fixed j) k = omega arith
least_of_le Counted k = omega arith

pub fresh_roomy : (sh : Shape) → Sane sh → Roomy sh fresh
fresh_roomy sh hs = record { room = omega (arith, hs.least_twice, least_of_le sh.received sh.least); ahead = tt }

-- the aims
ahead_end : (sh : Shape) (p : Bool) (m : ℕ) → AtCount sh (after_read p).slot m
ahead_end sh true m = tt
ahead_end sh false m = tt

ahead_data : (sh : Shape) (p : Bool) (k m : ℕ) → AtCount sh (to_read_data p k).slot m
ahead_data sh p k m = go (eqb k 0)
  where
    go : (b : Bool) → AtCount sh (pick b (after_read p) (to ReadData (k - 1))).slot m
    go true = ahead_end sh p m
    go false = tt

module _ (sh : Shape) (p : Bool) (m : ℕ) where
  ahead_read : (a : Part) → m + least_of a sh.least ≤ sh.most → AtCount sh (to_read a p).slot m
  ahead_read Nothing h = ahead_end sh p m
  ahead_read (Fixed k) h = ahead_data sh p k m
  ahead_read Counted h = h

  module _ (h : m + least_of sh.received sh.least ≤ sh.most) where
    ahead_after : AtCount sh (after_write sh p).slot m
    ahead_after = go (reads sh) (writes sh) p
      where
        go : (r w q : Bool) → AtCount sh (pick r (pick w (to Restart 0) (to_read sh.received p)) (to (pick q Pec Stop) 0)).slot m
        go true true q = tt
        go true false q = ahead_read sh.received h
        go false w true = tt
        go false w false = tt

    ahead_sending : (k : ℕ) → AtCount sh (to_data sh p k).slot m
    ahead_sending k = go (eqb k 0)
      where
        go : (b : Bool) → AtCount sh (pick b (after_write sh p) (to Data (k - 1))).slot m
        go true = ahead_after
        go false = tt

    ahead_sent : (a : Part) → AtCount sh (to_sent sh p a).slot m
    ahead_sent Nothing = ahead_after
    ahead_sent (Fixed k) = ahead_sending k
    ahead_sent Counted = tt

    ahead_first : AtCount sh (after_first sh p).slot m
    ahead_first = go sh.command
      where
        go : (b : Bool) → AtCount sh (pick b (to Command 0) (to_sent sh p sh.sent)).slot m
        go true = tt
        go false = ahead_sent sh.sent

-- every symbol that fits keeps it
module _ (sh : Shape) (hs : Sane sh) (p : Bool) where
  count_room : (x : ℕ) → x ≤ sh.most - least_of sh.received sh.least → x % 256 + least_of sh.received sh.least ≤ sh.most
  count_room x h = omega (arith, hs.least_twice, least_of_le sh.received sh.least)

  slot_keeps : (d : Decoder) (x : ℕ) (s : Slot) → d.sentcount + least_of sh.received sh.least ≤ sh.most → fits_slot sh s d x ≡ true → Roomy sh (move_slot sh p s d (x % 256))
  slot_keeps d x Start h f = record { room = h; ahead = tt }
  slot_keeps d x First h f = record { room = h; ahead = ahead_first sh p d.sentcount h }
  slot_keeps d x Command h f = record { room = h; ahead = ahead_sent sh p d.sentcount h sh.sent }
  slot_keeps d x Count h f =
      let r = count_room x (count_back sh (least_of sh.received sh.least) x f).1 in
      record { room = r; ahead = ahead_sending sh p (x % 256) r (x % 256) }
  slot_keeps d x Data h f = record { room = h; ahead = ahead_sending sh p d.sentcount h d.left }
  slot_keeps d x Pec h f = record { room = h; ahead = tt }
  slot_keeps d x Restart h f = record { room = h; ahead = tt }
  slot_keeps d x Second h f = record { room = h; ahead = ahead_read sh p d.sentcount sh.received h }
  slot_keeps d x ReadCount h f = record { room = h; ahead = ahead_data sh p (x % 256) d.sentcount }
  slot_keeps d x ReadData h f = record { room = h; ahead = ahead_data sh p d.left d.sentcount }
  slot_keeps d x ReadPec h f = record { room = h; ahead = tt }
  slot_keeps d x Stop h f = record { room = h; ahead = tt }
  slot_keeps d x End h f = record { room = h; ahead = tt }

  due_keeps : (d : Decoder) (x : ℕ) (a : Due) → Roomy sh d → fits_due sh a d x ≡ true → Roomy sh (move_due sh p a d x)
  due_keeps d x Nobody h f = slot_keeps d x d.slot h.room f
  due_keeps d x Target h f = record { room = h.room; ahead = h.ahead }
  due_keeps d x Controller h f = record { room = h.room; ahead = h.ahead }
  due_keeps d x Halted h f = record { room = h.room; ahead = h.ahead }
  due_keeps d x Cut h f = record { room = h.room; ahead = h.ahead }

  run_keeps : (tr : List ℕ) (d e : Decoder) (i : ℕ) → Roomy sh d → run sh p d i tr ≡ Ok e → Roomy sh e
  unfolding run
  run_keeps [] d e i h q = subst (Roomy sh) (same_state q) h
  run_keeps (x ∷ xs) d e i h q = go (fits sh d x) refl q (λ g k. run_keeps xs (move sh p d x) e (suc i) g k)
    where
      go : (b : Bool) → fits sh d x ≡ b → pick b (run sh p (move sh p d x) (suc i) xs) (Err (why sh d i x)) ≡ Ok e
          → (Roomy sh (move sh p d x) → run sh p (move sh p d x) (suc i) xs ≡ Ok e → Roomy sh e) → Roomy sh e
      go true f q ih = ih (due_keeps d x d.due h f) q
      go false f q ih = absurd (refused_not_reading q)

  pub reached_roomy : (tr : List ℕ) (e : Decoder) → run sh p fresh 0 tr ≡ Ok e → Roomy sh e
  reached_roomy tr e q = run_keeps tr fresh e 0 (fresh_roomy sh hs) q
