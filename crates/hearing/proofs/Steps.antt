-- What the step's functions cite: the decoder's answer on buffers of zeros, and each case of an answer in turn.
use Prim.Native.Nat.{ℕ, zero, suc, ◌+◌, ◌-◌, ◌<◌}
use mathlib.Core.Path.{◌≡◌, refl, sym, ap, ap₂, subst, ◌∙◌}
use mathlib.Core.Bool.{Bool, true, false}
use mathlib.Core.List.{List, ◌∷◌}
use native.Mathlib.Decide.{dec_lt}
use native.Mathlib.Omega.{arith}
use lib.Dec.{ltb, eqb}
use lib.ListN.{length, get_or, drop, replicate, get_or-replicate, length-replicate, get_or-append, get_or-eq_default}
use lib.Seq.{get_or-append-add, get_or-drop}
use borrow.Author.Tests.{eq-eqb, ne_eqb}
use Rattle.lists.specs.AbsurdLaws.{zero_is_one}
use Rattle.lists.specs.Choice.{pick, and}
use Rattle.lists.specs.Onto.{onto}
use Rattle.decode.specs.Outcome.{answered_by, Outcome}
use Rattle.scan.specs.Handed.{sent_data, received_data}
use Rattle.scan.specs.Numbers.{is_nack}
use Rattle.std.specs.Prelude.{Ok, Err}
use Rattle.scan.specs.Decoded.{Decoded, refused}
use Rattle.scan.specs.declared.answer.Refusal.{Refusal}
use Rattle.trace.specs.Shapes.{shape_of}
use Rattle.trace.specs.declared.transaction.Transaction.{Transaction}
use Rattle.udid.specs.Bytes.{number, bytes_from, udid_at}
use Rattle.udid.specs.declared.Udid.{Udid}
use Rattle.wire.specs.declared.address.Address.{Address}
use Rattle.hearing.specs.Told.{protocol_of, told_prepare, told_get, told_assign, told_by, tells}
use Rattle.hearing.specs.Heard.{answer, sent_in, received_in, is_get}
use Rattle.commands.specs.Codes.{send_byte, block_read, block_write}
use Rattle.commands.specs.declared.command.Command.{Command}
use Rattle.commands.specs.declared.command.Command.TheVariants.{Prepare, GetUdid, Assign}
use Rattle.commands.specs.declared.command.Handed.TheVariants.{Send}
use Rattle.hearing.specs.declared.told.Told.TheVariants.{Again, Over, GivenUp, Reply, Took}

-- ---- a buffer of zeros with the data at its front reads as the data

abbrev pub zeros : List ℕ
zeros = replicate 255 0

zero_at : (i : ℕ) → get_or zeros i 0 ≡ 0
zero_at i = go (dec_lt i 255)
  where
    go : Dec (i < 255) → get_or zeros i 0 ≡ 0
    go (yes h) = get_or-replicate 255 i 0 0 h
    go (no h) = get_or-eq_default zeros 0 {n = i} (omega (arith, length-replicate {A = ℕ} 255 0))

onto_at : (xs : List ℕ) (i : ℕ) → get_or (onto xs zeros) i 0 ≡ get_or xs i 0
onto_at xs i = go (dec_lt i (length xs))
  where
    go : Dec (i < length xs) → get_or (onto xs zeros) i 0 ≡ get_or xs i 0
    go (yes h) = get_or-append xs (drop (length xs) zeros) 0 i h
    go (no h) =
        let e : i ≡ length xs + (i - length xs) = omega arith in
        ap (λ (j : ℕ). get_or (onto xs zeros) j 0) e
        ∙ get_or-append-add xs (drop (length xs) zeros) (i - length xs) 0
        ∙ get_or-drop (length xs) zeros (i - length xs) 0
        ∙ zero_at (length xs + (i - length xs))
        ∙ sym (get_or-eq_default xs 0 {n = i} (omega arith))

window : (xs : List ℕ) (i n : ℕ) → bytes_from (onto xs zeros) i n ≡ bytes_from xs i n
unfolding bytes_from
window xs i zero = refl
window xs i (suc n) = ap₂ (λ (b : ℕ) (bs : List ℕ). b ∷ bs) (onto_at xs i) (window xs (suc i) n)

onto_udid : (xs : List ℕ) → udid_at (onto xs zeros) 0 ≡ udid_at xs 0
unfolding udid_at
onto_udid xs = λ i. record { high = number (window xs 0 8 i); low = number (window xs (0 + 8) 8 i) }

-- ---- what is told by the answer and two such buffers is told by the data alone

prepare_on : (a : Decoded) (xs : List ℕ) → told_prepare a (onto xs zeros) ≡ told_prepare a xs
prepare_on (Ok t) xs = rw (onto_at xs 0)
prepare_on (Err e) xs = refl

get_on : (a : Decoded) (xs : List ℕ) → told_get a (onto xs zeros) ≡ told_get a xs
get_on (Ok t) xs = ap₂ (λ (u : Udid) (b : ℕ). pick (is_get t) (pick (eqb t.received 17) (Reply u b) Over) Again) (onto_udid xs) (onto_at xs 16)
get_on (Err e) xs = refl

assign_on : (u : Udid) (n : Address) (a : Decoded) (xs : List ℕ) → told_assign u n a (onto xs zeros) ≡ told_assign u n a xs
assign_on u n (Ok t) xs = rw (onto_udid xs, onto_at xs 16)
assign_on u n (Err e) xs = refl

told_on : (k : Command) (a : Decoded) (xs ys : List ℕ) → told_by k a (onto xs zeros) (onto ys zeros) ≡ told_by k a xs ys
told_on Prepare a xs ys = prepare_on a xs
told_on GetUdid a xs ys = get_on a ys
told_on (Assign u n) a xs ys = assign_on u n a xs

-- ---- and so by the trace

heard : (k : Command) (tr : List ℕ) (a : Decoded) (sent received : List ℕ) → Outcome (protocol_of k) true tr zeros zeros a sent received → a ≡ answer (protocol_of k) tr
unfolding answered_by
heard Prepare tr a sent received o = o.answer
heard GetUdid tr a sent received o = o.answer
heard (Assign u n) tr a sent received o = o.answer

told_in : (k : Command) (tr : List ℕ) → told_by k (answer (protocol_of k) tr) (sent_in (protocol_of k) tr) (received_in (protocol_of k) tr) ≡ tells (Send k) tr
told_in Prepare tr = refl
told_in GetUdid tr = refl
told_in (Assign u n) tr = refl

told_at : (k : Command) (tr : List ℕ) (a : Decoded) (sent received : List ℕ) → Outcome (protocol_of k) true tr zeros zeros a sent received → told_by k a sent received ≡ tells (Send k) tr
told_at k tr a sent received o =
    ap₂ (λ (x y : List ℕ). told_by k a x y) o.data_sent o.data_received
    ∙ told_on k a (sent_data (shape_of (protocol_of k)) tr a) (received_data true tr a)
    ∙ ap (λ (x : Decoded). told_by k x (sent_data (shape_of (protocol_of k)) tr x) (received_data true tr x)) (heard k tr a sent received o)
    ∙ told_in k tr

pub told_is : (k : Command) (tr : List ℕ) (p : ℕ) (a : Decoded) (sent received : List ℕ) → p ≡ protocol_of k → Outcome p true tr zeros zeros a sent received → told_by k a sent received ≡ tells (Send k) tr
told_is k tr p a sent received e o = told_at k tr a sent received (subst (λ (n : ℕ). Outcome n true tr zeros zeros a sent received) e o)
