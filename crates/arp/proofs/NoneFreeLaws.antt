-- 13 is handed out with an identifier exactly at its reply, if with what it was bound to freed there is no address to pick.
use Rattle.std.specs.Prelude.{ℕ, ◌<◌, ◌≡◌, refl, Bool, true, false, List, [], ◌∷◌, ◌++◌, ◌↔◌, ltb, leb, eqb, get_or, Option, Some, None, Ok, Err}
use Rattle.std.proofs.Common.{sym, ap, ◌∙◌, subst, arith}
use Rattle.lists.specs.AbsurdLaws.{zero_is_one}
use Rattle.lists.specs.Choice.{pick, and}
use Rattle.scan.specs.Numbers.{is_nack}
use Rattle.scan.specs.Decoded.{Decoded}
use Rattle.pool.specs.declared.Pool.{Pool}
use Rattle.udid.specs.Bytes.{udid_at, udid_bytes}
use Rattle.udid.specs.Udids.{Fits}
use Rattle.udid.specs.declared.Udid.{Udid}
use Rattle.arp.proofs.ChosenLaws.{none_given_exactly}
use Rattle.arp.proofs.HandedOutLaws.{handed_out_by_table, table_is_story}
use Rattle.arp.proofs.ReadingLaws.{replied_exactly, reply_byte_received}
use Rattle.arp.specs.Story.{Story, story, Full}
use Rattle.arp.specs.Controller.{stepped}
use Rattle.hearing.specs.Heard.{answer, sent_in, received_in}
use Rattle.arp.specs.History.{Event, run, gets_sent}
use Rattle.arp.specs.Numbers.{end_number, command_number}
use Rattle.arp.specs.Replay.{Happened, Replied, Assigned, Other, Table, released, reply_in, assigns, assign_in, read_as, handed_out, table, again, given_to, NoneToPick, assigning, next_prepare, next_reply, next_command}
use Rattle.commands.specs.CommandTraces.{reply_trace}
use Rattle.commands.specs.declared.command.Command.TheVariants.{Prepare, GetUdid, Assign}
use Rattle.commands.specs.declared.command.End.{End}
use Rattle.commands.specs.declared.command.End.TheVariants.{Nothing, Ended, NoneFree, Abandoned, NotOutstanding, Chosen}
use Rattle.commands.specs.declared.command.Handed.{Handed}
use Rattle.commands.specs.declared.command.Handed.TheVariants.{Send, Wait}
use Rattle.wire.specs.declared.address.Address.{Address}

module _ (occupied : Pool) (t : Table) (last n : ℕ) (u : Udid) where
  again_none : again n ≡ Wait (NoneFree u) → ⊥
  again_none e = go (leb 128 n) e
    where
      go : (b : Bool) → pick b (Wait Abandoned) (Send GetUdid) ≡ Wait (NoneFree u) → ⊥
      go true k = zero_is_one (cc k)
      go false k = zero_is_one (cc k)

  prepare_none : (d : Decoded) (xs : List ℕ) → next_prepare n d xs ≡ Wait (NoneFree u) → ⊥
  prepare_none (Ok x) xs e = go (and (eqb x.address.0 0x61) (eqb (get_or xs 0 0) 0x01)) e
    where
      go : (b : Bool) → pick b (again n) (Wait Abandoned) ≡ Wait (NoneFree u) → ⊥
      go true k = again_none k
      go false k = zero_is_one (cc k)
  prepare_none (Err r) xs e = go (is_nack r.why) e
    where
      go : (b : Bool) → pick b (Wait Ended) (Wait Abandoned) ≡ Wait (NoneFree u) → ⊥
      go true k = zero_is_one (cc k)
      go false k = zero_is_one (cc k)

  abbrev Unserved : Happened → List ℕ → Type 0
  Unserved x xs = (x ≡ Replied u) × (given_to (released occupied u t).used last u (get_or xs 16 0) ≡ None)

  not_reply : (xs : List ℕ) → Unserved Other xs → ⊥
  not_reply xs h = zero_is_one (cc h.0)

  assigning_none : (w : Udid) (f : Option Address) → assigning w f ≡ Wait (NoneFree u) → (w ≡ u) × (f ≡ None)
  assigning_none w (Some a) e = zero_is_one (cc e)
  assigning_none w None e = (cc e, refl)

  done_none : (p q : Bool) (w : Udid) (xs : List ℕ)
      → (pick p (pick q (assigning w (given_to (released occupied w t).used last w (get_or xs 16 0))) (Wait Ended)) (again n) ≡ Wait (NoneFree u)) ↔ Unserved (pick p (pick q (Replied w) Other) Other) xs
  done_none true true w xs = (forth, back_to)
    where
      forth : assigning w (given_to (released occupied w t).used last w (get_or xs 16 0)) ≡ Wait (NoneFree u) → Unserved (Replied w) xs
      forth e =
          let h = assigning_none w (given_to (released occupied w t).used last w (get_or xs 16 0)) e in
          (ap Replied h.0, sym (ap (λ (v : Udid). given_to (released occupied v t).used last v (get_or xs 16 0)) h.0) ∙ h.1)

      back_to : Unserved (Replied w) xs → assigning w (given_to (released occupied w t).used last w (get_or xs 16 0)) ≡ Wait (NoneFree u)
      back_to h =
          let k : w ≡ u = cc h.0 in
          ap (λ (v : Udid). assigning v (given_to (released occupied v t).used last v (get_or xs 16 0))) k ∙ ap (assigning u) h.1
  done_none true false w xs = (λ e. zero_is_one (cc e), λ h. absurd (not_reply xs h))
  done_none false q w xs = (λ e. absurd (again_none e), λ h. absurd (not_reply xs h))

  neither : (xs : List ℕ) → (again n ≡ Wait (NoneFree u)) ↔ Unserved Other xs
  neither xs = (λ e. absurd (again_none e), λ h. absurd (not_reply xs h))

  reply_none_free : (d : Decoded) (xs : List ℕ) → (next_reply occupied t last n d xs ≡ Wait (NoneFree u)) ↔ Unserved (reply_in d xs) xs
  reply_none_free (Ok x) xs = done_none (and (eqb x.address.0 0x61) (eqb x.command 0x03)) (eqb x.received 17) (udid_at xs 0) xs
  reply_none_free (Err r) xs = (λ e. absurd (go (and (is_nack r.why) (ltb r.place 3)) e), λ h. absurd (not_reply xs h))
    where
      go : (q : Bool) → pick q (Wait Ended) (again n) ≡ Wait (NoneFree u) → ⊥
      go true k = zero_is_one (cc k)
      go false k = again_none k

  assign_asks : (w : Udid) (a : ℕ) (d : Decoded) (xs ys : List ℕ) → Unserved (assign_in w a d xs) ys → ⊥
  assign_asks w a (Ok x) xs ys h = go (and (and (eqb x.address.0 0x61) (eqb x.command 0x04)) (and (eqb x.sent 17) (assigns w a xs))) h.0
    where
      go : (q : Bool) → pick q (Assigned w a) Other ≡ Replied u → ⊥
      go true k = zero_is_one (cc k)
      go false k = zero_is_one (cc k)
  assign_asks w a (Err e) xs ys h = not_reply ys h

  idle_none : (xs : List ℕ) → ((Wait NotOutstanding) ≡ Wait (NoneFree u)) ↔ Unserved Other xs
  idle_none xs = (λ e. zero_is_one (cc e), λ h. absurd (not_reply xs h))

  next_none : (k : Handed) (tr : List ℕ) → (next_command occupied t last n k tr ≡ Wait (NoneFree u)) ↔ Unserved (read_as k tr) (received_in 9 tr)
  next_none (Send Prepare) tr = (λ e. absurd (prepare_none (answer 1 tr) (sent_in 1 tr) e), λ h. absurd (not_reply (received_in 9 tr) h))
  next_none (Send GetUdid) tr = reply_none_free (answer 9 tr) (received_in 9 tr)
  next_none (Send (Assign w a)) tr = (λ e. absurd (again_none e), λ h. absurd (assign_asks w a.0 (answer 8 tr) (sent_in 8 tr) (received_in 9 tr) h))
  next_none (Wait e) tr = idle_none (received_in 9 tr)

-- A STEP GIVES 13 exactly at a reply for which, with what its identifier was bound to freed, there is no address to pick
pub step_13_by_table : (occupied : Pool) (last : ℕ) (es : List Event) (tr : List ℕ) (u : Udid)
    → ((stepped (run occupied last es) tr).command ≡ Wait (NoneFree u))
    ↔ ((read_as (handed_out occupied last es) tr ≡ Replied u) × NoneToPick (released occupied u (table occupied last es)).used u (get_or (received_in 9 tr) 16 0))
step_13_by_table occupied last es tr u = (forth, back_to)
  where
    both : (next_command occupied (table occupied last es) (run occupied last es).picked (gets_sent occupied last es) (handed_out occupied last es) tr ≡ Wait (NoneFree u))
        ↔ ((read_as (handed_out occupied last es) tr ≡ Replied u) × (given_to (released occupied u (table occupied last es)).used (run occupied last es).picked u (get_or (received_in 9 tr) 16 0) ≡ None))
    both = next_none occupied (table occupied last es) (run occupied last es).picked (gets_sent occupied last es) u (handed_out occupied last es) tr

    forth : (stepped (run occupied last es) tr).command ≡ Wait (NoneFree u)
        → (read_as (handed_out occupied last es) tr ≡ Replied u) × NoneToPick (released occupied u (table occupied last es)).used u (get_or (received_in 9 tr) 16 0)
    forth e =
        let h = both.0 (sym (handed_out_by_table occupied last es tr) ∙ e) in
        (h.0, (none_given_exactly (released occupied u (table occupied last es)).used (run occupied last es).picked u (get_or (received_in 9 tr) 16 0)).0 h.1)

    back_to : (read_as (handed_out occupied last es) tr ≡ Replied u) × NoneToPick (released occupied u (table occupied last es)).used u (get_or (received_in 9 tr) 16 0)
        → (stepped (run occupied last es) tr).command ≡ Wait (NoneFree u)
    back_to h =
        handed_out_by_table occupied last es tr
        ∙ both.1 (h.0, (none_given_exactly (released occupied u (table occupied last es)).used (run occupied last es).picked u (get_or (received_in 9 tr) 16 0)).1 h.1)

module _ (occupied : Pool) (last : ℕ) (es : List Event) (tr : List ℕ) where
  -- and by the story of the events alone
  pub step_13_by_story : (u : Udid) → Fits u → ((stepped (run occupied last es) tr).command ≡ Wait (NoneFree u)) ↔ Full occupied last es tr u
  step_13_by_story u f = (λ e. there (in_story.0 e), λ w. in_story.1 (back_to w))
    where
      in_story : ((stepped (run occupied last es) tr).command ≡ Wait (NoneFree u))
          ↔ ((read_as (story occupied last es).command tr ≡ Replied u) × NoneToPick (released occupied u (story occupied last es).known).used u (get_or (received_in 9 tr) 16 0))
      in_story =
          subst (λ (w : Story). ((stepped (run occupied last es) tr).command ≡ Wait (NoneFree u))
          ↔ ((read_as w.command tr ≡ Replied u) × NoneToPick (released occupied u w.known).used u (get_or (received_in 9 tr) 16 0))) (table_is_story occupied last es)
          (step_13_by_table occupied last es tr u)

      byte : (b : ℕ) → b < 256 → tr ≡ reply_trace (udid_bytes u ++ b ∷ []) → get_or (received_in 9 tr) 16 0 ≡ b
      byte b h q = ap (λ (l : List ℕ). get_or (received_in 9 l) 16 0) q ∙ reply_byte_received u b f h

      there : (read_as (story occupied last es).command tr ≡ Replied u) × NoneToPick (released occupied u (story occupied last es).known).used u (get_or (received_in 9 tr) 16 0) → Full occupied last es tr u
      there w =
          let r = (replied_exactly (story occupied last es).command tr u f).0 w.0 in
          (r.0, (r.1.0, r.1.1, r.1.2, subst (NoneToPick (released occupied u (story occupied last es).known).used u) (byte r.1.0 r.1.1 r.1.2) w.1))

      back_to : Full occupied last es tr u → (read_as (story occupied last es).command tr ≡ Replied u) × NoneToPick (released occupied u (story occupied last es).known).used u (get_or (received_in 9 tr) 16 0)
      back_to (k, (b, h, q, n)) = (
        (replied_exactly (story occupied last es).command tr u f).1 (k, (b, h, q)),
        subst (NoneToPick (released occupied u (story occupied last es).known).used u) (sym (byte b h q)) n,
      )

abbrev first : List (ℕ × List Udid) → ℕ × List Udid
first [] = (0, [])
first (x ∷ xs) = x

-- 13 with an identifier is given by one end alone
number_13_end : (x : End) (u : Udid) → end_number x ≡ (13, u ∷ []) ∷ [] → x ≡ NoneFree u
number_13_end (NoneFree v) u e = ap NoneFree (same (ap (λ (l : List (ℕ × List Udid)). (first l).1) e))
  where
    same : v ∷ [] ≡ u ∷ [] → v ≡ u
    same q = cc q
number_13_end Nothing u e = zero_is_one (cc e)
number_13_end (Chosen v a r) u e = zero_is_one (cc e)
number_13_end Ended u e = absurd (let z : ◌≡◌ {A = ℕ} 0 13 = ap (λ (l : List (ℕ × List Udid)). (first l).0) e in omega arith)
number_13_end Abandoned u e = absurd (let z : ◌≡◌ {A = ℕ} 14 13 = ap (λ (l : List (ℕ × List Udid)). (first l).0) e in omega arith)
number_13_end NotOutstanding u e = absurd (let z : ◌≡◌ {A = ℕ} 21 13 = ap (λ (l : List (ℕ × List Udid)). (first l).0) e in omega arith)

pub number_13_is_none_free : (k : Handed) (u : Udid) → command_number k ≡ (13, u ∷ []) ∷ [] → k ≡ Wait (NoneFree u)
number_13_is_none_free (Send k) u e = zero_is_one (cc e)
number_13_is_none_free (Wait x) u e = ap Wait (number_13_end x u e)
