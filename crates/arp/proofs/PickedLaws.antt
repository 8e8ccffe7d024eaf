-- The last pick after a step: the address of the Assign that it hands out, if that was picked, else what it was before. It is told by the trace
-- and the command alone (specs/RunPicks.antt).
use Rattle.std.specs.Prelude.{ℕ, ◌≡◌, Bool, true, false, List, ltb, leb, eqb, length, get_or, Option, Some, None, Ok, Err}
use Rattle.std.proofs.Math.Path.{refl, ap, ap₂}
use Rattle.std.proofs.Common.{sym, ◌∙◌, arith}
use Rattle.std.proofs.Math.ListN.{get_or-append}
use Rattle.lists.specs.AbsurdLaws.{zero_is_one}
use Rattle.lists.specs.Choice.{pick}
use Rattle.wire.specs.declared.address.Address.{Address}
use Rattle.trace.proofs.AckedLaws.{acked_byte}
use Rattle.trace.proofs.LengthLaws.{length_acked}
use Rattle.trace.specs.Trace.{acked}
use Rattle.trace.specs.declared.transaction.Transaction.{Transaction}
use Rattle.scan.specs.Numbers.{is_nack}
use Rattle.scan.specs.Decoded.{Decoded}
use Rattle.udid.specs.Bytes.{udid_at}
use Rattle.udid.specs.declared.Udid.{Udid}
use Rattle.commands.specs.Codes.{send_byte, block_write}
use Rattle.commands.specs.CommandTraces.{reply_trace}
use Rattle.commands.specs.RequestLaws.{reply_symbols}
use Rattle.commands.specs.declared.command.Command.TheVariants.{Prepare, GetUdid, Assign}
use Rattle.commands.specs.declared.command.End.TheVariants.{Abandoned}
use Rattle.commands.specs.declared.command.Handed.{Handed}
use Rattle.commands.specs.declared.command.Handed.TheVariants.{Send, Wait}
use Rattle.hearing.specs.Heard.{answer, sent_in, received_in, is_prepare, is_get, is_assign, nobody}
use Rattle.hearing.specs.Told.{told_prepare, told_get, told_assign, tells}
use Rattle.hearing.specs.declared.told.Told.{Told}
use Rattle.hearing.specs.declared.told.Told.TheVariants.{Again, Over, GivenUp, Reply, Took, Unasked}
use Rattle.slots.specs.Finding.{find_from}
use Rattle.arp.specs.Bindings.{freed_at, freed, bound_at, bound}
use Rattle.arp.proofs.ChosenLaws.{picked_by_wire}
use Rattle.arp.specs.Controller.{handed, counted, asked, issued, replied, changed, stepped}
use Rattle.picking.specs.Picking.{has_to_pick, chosen}
use Rattle.arp.proofs.ReadingLaws.{read_as_reply_is_get_udid}
use Rattle.arp.specs.Replay.{Replied, Other, reply_in}
use Rattle.arp.specs.RunPicks.{is_picked, picked_then}
use Rattle.arp.specs.declared.state.Controller.{Controller}

-- ---- what leaves it as it is

pub freed_keeps_picked : (s : Controller) (u : Udid) → (freed s u).picked ≡ s.picked
unfolding freed
freed_keeps_picked s u = go (ltb 127 (find_from u s.slots 128 0))
  where
    go : (t : Bool) → (pick t s (freed_at s (find_from u s.slots 128 0))).picked ≡ s.picked
    go true = refl
    go false = refl

pub bound_keeps_picked : (s : Controller) (u : Udid) (a : ℕ) → (bound s u a).picked ≡ s.picked
unfolding bound
bound_keeps_picked s u a = go (ltb 127 a)
  where
    go : (t : Bool) → (pick t s (bound_at s u a)).picked ≡ s.picked
    go true = refl
    go false = refl

-- Get UDID, or 14: no pick
asked_picked : (s : Controller) (tr : List ℕ) → (asked s).state.picked ≡ picked_then s.picked tr (asked s).command
unfolding asked
asked_picked s tr = go (leb 128 s.gets)
  where
    go : (t : Bool) → (pick t (handed s (Wait Abandoned)) (handed (counted s) (Send GetUdid))).state.picked
        ≡ picked_then s.picked tr (pick t (handed s (Wait Abandoned)) (handed (counted s) (Send GetUdid))).command
    go true = refl
    go false = refl

-- ---- a reply

-- a reply's address byte stands at place 42 of its trace
pub byte_at_42 : (xs : List ℕ) → length xs ≡ 17 → get_or (reply_trace xs) 42 0 ≡ get_or xs 16 0
byte_at_42 xs h =
    get_or-append (acked xs) _ 0 32 (omega (arith, length_acked xs))
    ∙ acked_byte xs 16 (omega arith)

-- and is the one that is told
told_byte_at_42 : (tr : List ℕ) (u : Udid) (b : ℕ) → tells (Send GetUdid) tr ≡ Reply u b → get_or tr 42 0 ≡ b
told_byte_at_42 tr u b e = go (answer 9 tr) refl e
  where
    at : tr ≡ reply_trace (received_in 9 tr) → length (received_in 9 tr) ≡ 17 → get_or (received_in 9 tr) 16 0 ≡ b → get_or tr 42 0 ≡ b
    at q n k = ap (λ (l : List ℕ). get_or l 42 0) q ∙ byte_at_42 (received_in 9 tr) n ∙ k

    same : {v : Udid} {c : ℕ} → Reply v c ≡ Reply u b → c ≡ b
    same k = cc k

    done : (t : Transaction) → answer 9 tr ≡ Ok t → (p : Bool) → is_get t ≡ p → (q : Bool) → eqb t.received 17 ≡ q
        → pick p (pick q (Reply (udid_at (received_in 9 tr) 0) (get_or (received_in 9 tr) 16 0)) Over) Again ≡ Reply u b → get_or tr 42 0 ≡ b
    done t e true g true n k =
        let r = read_as_reply_is_get_udid tr (udid_at (received_in 9 tr) 0)
        (ap (λ (d : Decoded). reply_in d (received_in 9 tr)) e ∙ ap₂ (λ (p q : Bool). pick p (pick q (Replied (udid_at (received_in 9 tr) 0)) Other) Other) g n) in
        at (r.0 ∙ reply_symbols (received_in 9 tr)) r.2 (same k)
    done t e true g false n k = zero_is_one (cc k)
    done t e false g q n k = zero_is_one (cc k)

    nack : (q : Bool) → pick q Over Again ≡ Reply u b → get_or tr 42 0 ≡ b
    nack true k = zero_is_one (cc k)
    nack false k = zero_is_one (cc k)

    go : (d : Decoded) → answer 9 tr ≡ d → told_get d (received_in 9 tr) ≡ Reply u b → get_or tr 42 0 ≡ b
    go (Ok t) e k = done t e (is_get t) refl (eqb t.received 17) refl k
    go (Err r) e k = nack (nobody (Err r)) k

-- after Prepare and after an Assign no reply is told
prepare_no_reply : (d : Decoded) (xs : List ℕ) (u : Udid) (b : ℕ) → told_prepare d xs ≡ Reply u b → ⊥
prepare_no_reply (Ok t) xs u b e = go (is_prepare t xs) e
  where
    go : (q : Bool) → pick q Again GivenUp ≡ Reply u b → ⊥
    go true k = zero_is_one (cc k)
    go false k = zero_is_one (cc k)
prepare_no_reply (Err r) xs u b e = go (is_nack r.why) e
  where
    go : (q : Bool) → pick q Over GivenUp ≡ Reply u b → ⊥
    go true k = zero_is_one (cc k)
    go false k = zero_is_one (cc k)

assign_no_reply : (v : Udid) (a : Address) (d : Decoded) (xs : List ℕ) (u : Udid) (b : ℕ) → told_assign v a d xs ≡ Reply u b → ⊥
assign_no_reply v a (Ok t) xs u b e = go (is_assign v a.0 t xs) e
  where
    go : (q : Bool) → pick q (Took v a) Again ≡ Reply u b → ⊥
    go true k = zero_is_one (cc k)
    go false k = zero_is_one (cc k)
assign_no_reply v a (Err r) xs u b e = zero_is_one (cc e)

-- whatever is outstanding, the byte that is told is that of the trace
pub told_byte : (k : Handed) (tr : List ℕ) (u : Udid) (b : ℕ) → tells k tr ≡ Reply u b → get_or tr 42 0 ≡ b
told_byte (Send Prepare) tr u b e = absurd (prepare_no_reply (answer send_byte tr) (sent_in send_byte tr) u b e)
told_byte (Send GetUdid) tr u b e = told_byte_at_42 tr u b e
told_byte (Send (Assign v a)) tr u b e = absurd (assign_no_reply v a (answer block_write tr) (sent_in block_write tr) u b e)
told_byte (Wait x) tr u b e = zero_is_one (cc e)

module _ (s : Controller) (u : Udid) (b : ℕ) (tr : List ℕ) (byte : get_or tr 42 0 ≡ b) where
  replied_picked : (replied s u b).state.picked ≡ picked_then s.picked tr (replied s u b).command
  unfolding replied
  replied_picked = go (chosen (freed s u).pool (freed s u).picked u b) refl
    where
      go : (k : Option Address) → chosen (freed s u).pool (freed s u).picked u b ≡ k
          → (issued (freed s u) u (has_to_pick (freed s u).pool u b) k).state.picked ≡ picked_then s.picked tr (issued (freed s u) u (has_to_pick (freed s u).pool u b) k).command
      go None e = freed_keeps_picked s u
      go (Some a) e =
          ap₂ (λ (t : Bool) (l : ℕ). pick t a.0 l)
          (picked_by_wire (freed s u).pool (freed s u).picked u b a e ∙ ap (λ (x : ℕ). is_picked x a.0) (sym byte)) (freed_keeps_picked s u)

-- ---- EVERY STEP

pub step_picked : (s : Controller) (tr : List ℕ) → (stepped s tr).state.picked ≡ picked_then s.picked tr (stepped s tr).command
unfolding stepped
step_picked s tr = go (tells s.last tr) (λ u b e. told_byte s.last tr u b e)
  where
    go : (t : Told) → ((u : Udid) (b : ℕ) → t ≡ Reply u b → get_or tr 42 0 ≡ b) → (changed s t).state.picked ≡ picked_then s.picked tr (changed s t).command
    go Again h = asked_picked s tr
    go Over h = refl
    go GivenUp h = refl
    go (Reply u b) h = replied_picked s u b tr (h u b refl)
    go (Took u a) h =
        asked_picked (bound s u a.0) tr ∙ ap (λ (l : ℕ). picked_then l tr (asked (bound s u a.0)).command) (bound_keeps_picked s u a.0)
    go Unasked h = refl
