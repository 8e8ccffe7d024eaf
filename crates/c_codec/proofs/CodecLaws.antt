-- The encoder into a buffer for the longest trace: what it answers there is what it answers for any room that has the trace.
use mathlib.Core.Path.{◌≡◌, refl, sym, ap, ◌∙◌, subst}
use mathlib.Core.Bool.{Bool, true, false}
use mathlib.Core.List.{List, [], ◌∷◌}
use Prim.Native.Nat.{ℕ, ◌/◌, ◌≤◌, ◌<◌}
use native.Mathlib.Omega.{arith}
use lib.Dec.{ltb}
use borrow.Author.Tests.{lt-ltb, le-ltb}
use lib.ListN.{length, take, drop}
use lib.Seq.{take_at}
use Rattle.lists.specs.AbsurdLaws.{zero_is_one}
use Rattle.lists.specs.Choice.{pick}
use Rattle.lists.specs.Each.{Bytes}
use Rattle.lists.specs.Onto.{onto}
use Rattle.trace.specs.Shapes.{shape_of, forbidden}
use Rattle.trace.specs.Trace.{Message, trace}
use Rattle.trace.proofs.ColumnsLaws.{longest}
use Rattle.encode.specs.Encode.{Encoded}
use Rattle.std.specs.Prelude.{Ok, Err}
use Rattle.encode.specs.declared.EncodeError.{EncodeError}
use Rattle.encode.specs.declared.EncodeError.TheVariants.{Forbidden, OutputTooShort}
use Rattle.encode.specs.EncodeByLaws.{taken_exactly}
use Rattle.encode.specs.Encode.{encoded_by, refused, encoded, symbols_of, Wrote}
use Rattle.c_codec.specs.declared.codec.HbWritten.{HbWritten}
use Rattle.pairs.specs.Pairs.{pairs_of, Put}
use Rattle.pairs.specs.PairLaws.{put_true, put_false}
use Rattle.c_codec.specs.Codec.{answer_of, told, WrotePairs, WroteSymbols}

module _ (protocol : ℕ) (pec : Bool) (t : Message) (command : t.command < 256) (sent : Bytes t.sent) (received : Bytes t.received) where
  abbrev tr : List ℕ
  tr = trace (shape_of protocol) pec t

  at_most : refused protocol pec t ≡ false → length tr ≤ 525
  at_most h = longest protocol pec t ((taken_exactly (shape_of protocol) (forbidden protocol pec) t command sent received).0 h).1

  -- the answer at a room, by the test of refusal 1 and of the room
  by_tests : (room : ℕ) (b c : Bool) → refused protocol pec t ≡ b → ltb room (length tr) ≡ c
      → encoded protocol pec t room ≡ pick b (Err Forbidden) (pick c (Err OutputTooShort) (Ok (length tr)))
  unfolding encoded_by
  by_tests room b c e f = rw (e, f)

  module _ (buffer : List ℕ) (long : length buffer ≡ 525) (r : Encoded) (after : List ℕ) (w : Wrote protocol pec t buffer r after) where
    fits : refused protocol pec t ≡ false → ltb (length buffer) (length tr) ≡ false
    fits h = le-ltb (length buffer) (length tr) (omega (arith, at_most h))

    -- no trace was written: refusal 1, whatever the room
    not_written : (why : EncodeError) → r ≡ Err why → refused protocol pec t ≡ true
    not_written why k = go (refused protocol pec t) refl
      where
        go : (b : Bool) → refused protocol pec t ≡ b → b ≡ true
        go true e = refl
        go false e = let z : Err why ≡ Ok (length tr) = sym k ∙ w.answer ∙ by_tests (length buffer) false false e (fits e) in zero_is_one cc

    pub refused_pairs : (out : List ℕ) (why : EncodeError) → r ≡ Err why → (h : HbWritten) → h ≡ answer_of 1 0 → WrotePairs protocol pec t out h out
    unfolding pairs_of
    refused_pairs out why k h e =
        let a = by_tests (length out / 2) true _ (not_written why k) refl in
        record { answer = rw a e; output = rw a }

    -- a trace was written: all tests passed, and its length is told
    passed : (n : ℕ) → r ≡ Ok n → (refused protocol pec t ≡ false) × (n ≡ length tr)
    passed n e = go (refused protocol pec t) refl
      where
        go : (b : Bool) → refused protocol pec t ≡ b → (b ≡ false) × (n ≡ length tr)
        go true f = let z : Ok n ≡ Err Forbidden = sym e ∙ w.answer ∙ by_tests (length buffer) true _ f refl in zero_is_one cc
        go false f = let z : Ok n ≡ Ok (length tr) = sym e ∙ w.answer ∙ by_tests (length buffer) false false f (fits f) in (refl, cc)

    pub small : (n : ℕ) → r ≡ Ok n → n ≤ 525
    small n e = let p = passed n e in omega (arith, at_most p.0, p.1)

    -- its symbols are what was lent
    lent_trace : (n : ℕ) → r ≡ Ok n → take n after ≡ tr
    lent_trace n e =
        ap (take n) (w.output ∙ ap (λ (q : Encoded). onto (symbols_of q tr) buffer) e) ∙ take_at tr (drop (length tr) buffer) n (sym (passed n e).1)

    lent_put : (out : List ℕ) (n : ℕ) → r ≡ Ok n → (b : Bool) (last : List ℕ) → Put (take n after) out b last → Put tr out b last
    lent_put out n e b last p = subst (λ (l : List ℕ). Put l out b last) (lent_trace n e) p

    pub short_pairs : (out : List ℕ) (n : ℕ) → r ≡ Ok n → (b : Bool) (last : List ℕ) → Put (take n after) out b last → b ≡ false
        → (h : HbWritten) → h ≡ answer_of 2 0 → WrotePairs protocol pec t out h last
    unfolding pairs_of
    short_pairs out n e b last p f h g =
        let q = put_false tr out b last (lent_put out n e b last p) f in
        let a = by_tests (length out / 2) false true (passed n e).0 (lt-ltb (length out / 2) (length tr) q.0) in
        record { answer = rw a g; output = rw a q.1 }

    pub done_pairs : (out : List ℕ) (n : ℕ) → r ≡ Ok n → (b : Bool) (last : List ℕ) → Put (take n after) out b last → b ≡ true
        → (h : HbWritten) → h ≡ answer_of 0 n → WrotePairs protocol pec t out h last
    done_pairs out n e b last p f h g =
        let q = put_true tr out b last (lent_put out n e b last p) f in
        let k = passed n e in
        let a = by_tests (length out / 2) false false k.0 (le-ltb (length out / 2) (length tr) q.0) in
        record { answer = rw a (g ∙ ap (answer_of 0) k.1); output = rw a q.1 }

  -- on symbols as they are: the length of what was written is small, and the answer is told
  pub small_symbols : (buffer : List ℕ) (r : Encoded) (after : List ℕ) → Wrote protocol pec t buffer r after → (n : ℕ) → r ≡ Ok n → n ≤ 525
  small_symbols buffer r after w n e = go (refused protocol pec t) refl (ltb (length buffer) (length tr)) refl
    where
      go : (b : Bool) → refused protocol pec t ≡ b → (c : Bool) → ltb (length buffer) (length tr) ≡ c → n ≤ 525
      go true f c g = let z : Ok n ≡ Err Forbidden = sym e ∙ w.answer ∙ by_tests (length buffer) true c f g in zero_is_one cc
      go false f true g = let z : Ok n ≡ Err OutputTooShort = sym e ∙ w.answer ∙ by_tests (length buffer) false true f g in zero_is_one cc
      go false f false g =
          let z : Ok n ≡ Ok (length tr) = sym e ∙ w.answer ∙ by_tests (length buffer) false false f g in
          let k : n ≡ length tr = cc in omega (arith, at_most f)

  pub wrote_symbols : (buffer : List ℕ) (r : Encoded) (after : List ℕ) → Wrote protocol pec t buffer r after → (h : HbWritten) → h ≡ told r → WroteSymbols protocol pec t buffer h after
  wrote_symbols buffer r after w h e =
      record { answer = e ∙ ap told w.answer; output = w.output ∙ ap (λ (q : Encoded). onto (symbols_of q tr) buffer) w.answer }
