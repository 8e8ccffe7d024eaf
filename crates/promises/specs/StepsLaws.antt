-- A step of the controller is as the sentences of the page say (Steps). For every trace one of them speaks, and they leave one result. The
-- numbers 0, 13, 14 and 21 of a step are given exactly in their cases (StepNumbers).
use Rattle.std.specs.Prelude.{ℕ, ◌*◌, ◌/◌, ◌≤◌, ◌<◌, ◌≡◌, refl, Bool, true, false, List, [], ◌∷◌, ◌++◌, ◌⊎◌, ◌↔◌, length, get_or, Option, Some, None}
use Rattle.std.proofs.Common.{sym, ap, ◌∙◌, subst, inl, inr, arith}
use Rattle.std.proofs.Math.Decide.{ℕ_discrete, dec_lt}
use Rattle.lists.specs.ChoiceLaws.{false_not_true}
use Rattle.lists.specs.Each.{Bytes}
use Rattle.wire.specs.declared.address.Address.{Address}
use Rattle.trace.specs.Shapes.{protocols, forbidden}
use Rattle.scan.specs.Fitting.{CutAt}
use Rattle.scan.proofs.FittingLaws.{cut_shaped}
use Rattle.pool.specs.NextFree.{next_free}
use Rattle.pool.specs.NextFreeLaws.{next_is, next_none}
use Rattle.pool.specs.Pools.{member}
use Rattle.pool.specs.declared.Pool.{Pool}
use Rattle.udid.specs.Bytes.{udid_bytes, udid_at}
use Rattle.udid.specs.Udids.{Fits}
use Rattle.udid.specs.declared.Udid.{Udid}
use Rattle.slots.specs.Slots.{Sized128, held_at}
use Rattle.commands.specs.CommandTraces.{prepare_trace, reply_trace, assign_trace, Reply}
use Rattle.arp.specs.Controller.{stepped}
use Rattle.arp.proofs.HeardLaws.{six_exactly}
use Rattle.arp.proofs.NoneFreeLaws.{number_13_is_none_free}
use Rattle.arp.specs.Numbers.{command_number}
use Rattle.arp.proofs.OneResultLaws.{same_trace_or_not, six_or_not, six_once, reply_or_not, continues_alike, ends_alike, binds_alike, replies_alike, chooses_address_or_none}
use Rattle.arp.specs.OneStep.{Gives, Asks, Chooses, Continues, Replies, Alike}
use Rattle.arp.proofs.OneStepLaws as arp
use Rattle.hearing.specs.Told.{no_command}
use Rattle.commands.specs.RequestLaws.{seventeen_bytes_are_udid_and_byte}
use Rattle.commands.specs.declared.command.Command.TheVariants.{Prepare, GetUdid, Assign}
use Rattle.commands.specs.declared.command.End.TheVariants.{Ended, NoneFree, Abandoned, NotOutstanding}
use Rattle.commands.specs.declared.command.Handed.{Handed}
use Rattle.commands.specs.declared.command.Handed.TheVariants.{Send, Wait}
use Rattle.arp.specs.declared.state.Controller.{Controller}
use Rattle.arp.specs.declared.state.Stepped.{Stepped}
use Rattle.promises.specs.Demands.{Idle, NoReply, NobodyLeft, Steps, StepNumbers}

-- ---- the words of the page and those of arp

-- answer 6 for a trace is the trace cut at that byte
six_is_cut : (protocol : ℕ) (tr : List ℕ) (b : ℕ) → forbidden protocol true ≡ false → protocol < protocols → (protocol ≡ 0 → ⊥) → Gives protocol tr 6 b ↔ CutAt protocol true tr b
six_is_cut protocol tr b f k z =
    let e = six_exactly protocol tr b f in
    let c = cut_shaped protocol true k (λ q. absurd (z q)) tr b in
    (λ g. c.1 (e.0 g), λ g. e.1 (c.0 g))

six_1 : (tr : List ℕ) (b : ℕ) → Gives 1 tr 6 b ↔ CutAt 1 true tr b
six_1 tr b = six_is_cut 1 tr b refl (omega arith) (λ e. omega (arith, e))

six_9 : (tr : List ℕ) (b : ℕ) → Gives 9 tr 6 b ↔ CutAt 9 true tr b
six_9 tr b = six_is_cut 9 tr b refl (omega arith) (λ e. omega (arith, e))

-- no command is outstanding
idle_no_command : (s : Controller) → Idle s → no_command s.last ≡ true
idle_no_command s i = go s.last refl
  where
    go : (k : Handed) → s.last ≡ k → no_command k ≡ true
    go (Send Prepare) e = absurd (i.0 e)
    go (Send GetUdid) e = absurd (i.1 e)
    go (Send (Assign u a)) e = absurd (i.2 u a e)
    go (Wait i) e = refl

-- ---- every step is as the sentences say

pub sentences : (s : Controller) (tr : List ℕ) → Sized128 s.slots → s.picked < 128 → Steps s tr (stepped s tr)
sentences s tr size small = record {
  prepare_accepted = arp.prepare_accepted s tr;
  prepare_nobody = λ e b w. arp.prepare_nobody s tr e b ((six_1 tr b).1 w);
  prepare_other = λ e n m. arp.prepare_other s tr e n (λ b w. m b ((six_1 tr b).0 w));
  get_reply = arp.get_reply s tr size small;
  get_count = arp.get_count s tr;
  get_nobody = λ e w. arp.get_nobody s tr e w.0 w.1 ((six_9 tr w.0).1 w.2);
  get_again = λ e n m. arp.get_again s tr e n (λ b l w. m (b, l, (six_9 tr b).0 w));
  assign_whole = arp.assign_whole s tr size;
  assign_other = λ u a e n. other u a e n (dec_lt a.0 128);
  none_outstanding = λ i. arp.none_outstanding s tr (idle_no_command s i);
}
  where
    other : (u : Udid) (a : Address) → s.last ≡ Send (Assign u a) → (a.0 < 128 → tr ≡ assign_trace (udid_bytes u) (2 * a.0) → ⊥) → Dec (a.0 < 128) → Continues s (stepped s tr)
    other u a e n (yes l) = arp.assign_other s tr u a e l (n l)
    other u a e n (no l) = arp.assign_no_address s tr u a e (omega arith)

-- ---- every trace falls under one of the sentences

data Case (s : Controller) (tr : List ℕ) : Type 0 where
  Accepted : s.last ≡ Send Prepare → tr ≡ prepare_trace → Case s tr
  Nobody : s.last ≡ Send Prepare → (b : ℕ) → CutAt 1 true tr b → Case s tr
  Refused : s.last ≡ Send Prepare → (tr ≡ prepare_trace → ⊥) → ((b : ℕ) → CutAt 1 true tr b → ⊥) → Case s tr
  Replied : s.last ≡ Send GetUdid → (u : Udid) (b : ℕ) → Fits u → b < 256 → tr ≡ reply_trace (udid_bytes u ++ b ∷ []) → Case s tr
  Counted : s.last ≡ Send GetUdid → (xs : List ℕ) → Bytes xs → length xs ≤ 255 → (length xs ≡ 17 → ⊥) → tr ≡ reply_trace xs → Case s tr
  Left : s.last ≡ Send GetUdid → NobodyLeft tr → Case s tr
  Again : s.last ≡ Send GetUdid → NoReply tr → (NobodyLeft tr → ⊥) → Case s tr
  Whole : (u : Udid) (a : Address) → s.last ≡ Send (Assign u a) → Fits u → a.0 < 128 → tr ≡ assign_trace (udid_bytes u) (2 * a.0) → Case s tr
  Other : (u : Udid) (a : Address) → s.last ≡ Send (Assign u a) → (a.0 < 128 → tr ≡ assign_trace (udid_bytes u) (2 * a.0) → ⊥) → Case s tr
  Unprompted : Idle s → Case s tr

-- the identifier of an outstanding Assign has 128 bits
abbrev FitsLast : Controller → Type 0
FitsLast s = (u : Udid) (a : Address) → s.last ≡ Send (Assign u a) → Fits u

every_case : (s : Controller) (tr : List ℕ) → FitsLast s → Case s tr
every_case s tr f = go s.last refl
  where
    prepare : s.last ≡ Send Prepare → Dec (tr ≡ prepare_trace) → ((b : ℕ) × Gives 1 tr 6 b) ⊎ ((b : ℕ) → Gives 1 tr 6 b → ⊥) → Case s tr
    prepare e (yes t) w = Accepted e t
    prepare e (no t) (inl w) = Nobody e w.0 ((six_1 tr w.0).0 w.1)
    prepare e (no t) (inr w) = Refused e t (λ b c. w b ((six_1 tr b).1 c))

    reply : s.last ≡ Send GetUdid → (xs : List ℕ) → Bytes xs → length xs ≤ 255 → tr ≡ reply_trace xs → Dec (length xs ≡ 17) → Case s tr
    reply e xs d l t (no n) = Counted e xs d l n t
    reply e xs d l t (yes n) = let k = seventeen_bytes_are_udid_and_byte xs d n in Replied e (udid_at xs 0) (get_or xs 16 0) k.0 k.1 (t ∙ ap reply_trace k.2)

    six : s.last ≡ Send GetUdid → NoReply tr → (b : ℕ) → Gives 9 tr 6 b → Dec (b < 3) → Case s tr
    six e n b w (yes l) = Left e (b, l, (six_9 tr b).0 w)
    six e n b w (no l) = Again e n (λ x. let z = six_once 9 tr b x.0 refl w ((six_9 tr x.0).1 x.2) in let y = x.1 in omega arith)

    get : s.last ≡ Send GetUdid → Reply tr ⊎ ((xs : List ℕ) → Bytes xs → length xs ≤ 255 → tr ≡ reply_trace xs → ⊥)
        → ((b : ℕ) × Gives 9 tr 6 b) ⊎ ((b : ℕ) → Gives 9 tr 6 b → ⊥) → Case s tr
    get e (inl (xs, d, l, t)) w = reply e xs d l t (ℕ_discrete (length xs) 17)
    get e (inr n) (inl (b, w)) = six e n b w (dec_lt b 3)
    get e (inr n) (inr m) = Again e n (λ x. m x.0 ((six_9 tr x.0).1 x.2))

    assign : (u : Udid) (a : Address) → s.last ≡ Send (Assign u a) → Dec (a.0 < 128) → Dec (tr ≡ assign_trace (udid_bytes u) (2 * a.0)) → Case s tr
    assign u a e (no l) d = Other u a e (λ k. absurd (l k))
    assign u a e (yes l) (yes t) = Whole u a e (f u a e) l t
    assign u a e (yes l) (no t) = Other u a e (λ k. t)

    idle : (k : Handed) → s.last ≡ k → (k ≡ Send Prepare → ⊥) → (k ≡ Send GetUdid → ⊥) → ((u : Udid) (a : Address) → k ≡ Send (Assign u a) → ⊥) → Case s tr
    idle k e p g a = Unprompted (λ q. p (sym e ∙ q), λ q. g (sym e ∙ q), λ u x q. a u x (sym e ∙ q))

    go : (k : Handed) → s.last ≡ k → Case s tr
    go (Send Prepare) e = prepare e (same_trace_or_not tr prepare_trace) (six_or_not 1 tr refl)
    go (Send GetUdid) e = get e (reply_or_not s tr) (six_or_not 9 tr refl)
    go (Send (Assign u a)) e = assign u a e (dec_lt a.0 128) (same_trace_or_not tr (assign_trace (udid_bytes u) (2 * a.0)))
    go (Wait i) e = idle (Wait i) e (λ q. false_not_true (sym (ap no_command q))) (λ q. false_not_true (sym (ap no_command q))) (λ u a q. false_not_true (sym (ap no_command q)))

-- ---- and the sentences leave one result: what is handed out, and what is known of each address

idle_both : (s : Controller) (tr : List ℕ) (r q : Stepped) → (r.state ≡ s) × (r.command ≡ Wait NotOutstanding) → (q.state ≡ s) × (q.command ≡ Wait NotOutstanding) → Alike r q
idle_both s tr r q h g =
    let m : r.state ≡ q.state = h.0 ∙ sym g.0 in
    record {
      command = h.1 ∙ sym g.1;
      last = ap (λ (x : Controller). x.last) m;
      gets = ap (λ (x : Controller). x.gets) m;
      occupied = ap (λ (x : Controller). x.occupied) m;
      picked = ap (λ (x : Controller). x.picked) m;
      same = λ a. (ap (λ (x : Controller). held_at x.slots a) m, ap (λ (x : Controller). member x.pool a) m);
    }

-- ONE RESULT: two results that the sentences allow are the same
pub one_step : (s : Controller) (tr : List ℕ) (r q : Stepped) → FitsLast s → s.picked < 128 → Steps s tr r → Steps s tr q → Alike r q
one_step s tr r q f small h g = go (every_case s tr f)
  where
    go : Case s tr → Alike r q
    go (Accepted e t) = continues_alike s r q (h.prepare_accepted e t) (g.prepare_accepted e t)
    go (Nobody e b w) = ends_alike s r q (Wait Ended) (h.prepare_nobody e b w) (g.prepare_nobody e b w)
    go (Refused e n m) = ends_alike s r q (Wait Abandoned) (h.prepare_other e n m) (g.prepare_other e n m)
    go (Replied e u b k l t) = replies_alike s u b r q small (h.get_reply e u b k l t) (g.get_reply e u b k l t)
    go (Counted e xs d l n t) = ends_alike s r q (Wait Ended) (h.get_count e xs d l n t) (g.get_count e xs d l n t)
    go (Left e w) = ends_alike s r q (Wait Ended) (h.get_nobody e w) (g.get_nobody e w)
    go (Again e n m) = continues_alike s r q (h.get_again e n m) (g.get_again e n m)
    go (Whole u a e k l t) = binds_alike u a.0 s r q (h.assign_whole u a e k l t) (g.assign_whole u a e k l t)
    go (Other u a e n) = continues_alike s r q (h.assign_other u a e n) (g.assign_other u a e n)
    go (Unprompted i) = idle_both s tr r q (h.none_outstanding i) (g.none_outstanding i)

-- ---- the numbers of a step, each exactly in its case

-- the number alone; a command to send has none
abbrev tag : List (ℕ × List Udid) → ℕ
tag [] = 99
tag (n ∷ ns) = n.0

-- the identifier that comes with it
abbrev asked : List (ℕ × List Udid) → List Udid
asked [] = []
asked (n ∷ ns) = n.1

-- no address is chosen exactly where one has to be picked and none is free
none_chosen : (p : Pool) (last : ℕ) (u : Udid) (b : ℕ) (k : Handed) (m : ℕ) → last < 128 → Chooses p last u b k m → k ≡ Wait (NoneFree u)
    → ((b ≡ 0xFF) ⊎ ((64 ≤ get_or (udid_bytes u) 0 0) × (member p (b / 2) ≡ true))) × ((a : ℕ) → a < 128 → member p a ≡ true)
none_chosen p last u b k m small c e = go (ℕ_discrete b 0xFF) (dec_lt (get_or (udid_bytes u) 0 0) 64) (member p (b / 2)) refl
  where
    assigned : (a : Address) → k ≡ Send (Assign u a) → ⊥
    assigned a q = let z : ◌≡◌ {A = ℕ} 99 13 = ap (λ (x : Handed). tag (command_number x)) (sym q ∙ e) in omega arith

    picked : (b ≡ 0xFF) ⊎ ((64 ≤ get_or (udid_bytes u) 0 0) × (member p (b / 2) ≡ true)) → (f : Option Address) → next_free p last ≡ f
        → ((b ≡ 0xFF) ⊎ ((64 ≤ get_or (udid_bytes u) 0 0) × (member p (b / 2) ≡ true))) × ((a : ℕ) → a < 128 → member p a ≡ true)
    picked w (Some a) q = absurd (assigned _ (c.picked w a.0 ((next_is p last a.0 small).0 q)).0)
    picked w None q = (w, (next_none p last).0 q)

    go : Dec (b ≡ 0xFF) → Dec (get_or (udid_bytes u) 0 0 < 64) → (t : Bool) → member p (b / 2) ≡ t
        → ((b ≡ 0xFF) ⊎ ((64 ≤ get_or (udid_bytes u) 0 0) × (member p (b / 2) ≡ true))) × ((a : ℕ) → a < 128 → member p a ≡ true)
    go (yes q) d t z = picked (inl q) (next_free p last) refl
    go (no n) (yes l) t z = absurd (assigned _ (c.fixed n l).0)
    go (no n) (no l) false z = absurd (assigned _ (c.own n (omega arith) z).0)
    go (no n) (no l) true z = picked (inr (omega arith, z)) (next_free p last) refl

-- an Assign
abbrev is_assign : Handed → Bool
is_assign (Send Prepare) = false
is_assign (Send GetUdid) = false
is_assign (Send (Assign u a)) = true
is_assign (Wait e) = false

module _ (s : Controller) (tr : List ℕ) (f : FitsLast s) (small : s.picked < 128) (r : Stepped) (h : Steps s tr r) where
  -- a command has its own number and no other
  apart : (k : Handed) (n : ℕ) (us : List Udid) → r.command ≡ k → (tag (command_number k) ≡ n → ⊥) → command_number r.command ≡ (n, us) ∷ [] → ⊥
  apart k n us e d q = d (ap (λ (x : Handed). tag (command_number x)) (sym e) ∙ ap tag q)

  -- Get UDID, or 14 at the limit
  asks_not : (n : ℕ) (us : List Udid) → n < 99 → (n ≡ 14 → ⊥) → Asks s r → command_number r.command ≡ (n, us) ∷ [] → ⊥
  asks_not n us l d a q = go (dec_lt s.gets 128)
    where
      go : Dec (s.gets < 128) → ⊥
      go (yes k) = apart (Send GetUdid) n us (a.again k).command (λ e. omega (arith, e)) q
      go (no k) = apart (Wait Abandoned) n us (a.limit (omega arith)).command (λ e. d (sym e)) q

  asks_14 : Asks s r → command_number r.command ≡ (14, []) ∷ [] → 128 ≤ s.gets
  asks_14 a q = go (dec_lt s.gets 128)
    where
      go : Dec (s.gets < 128) → 128 ≤ s.gets
      go (yes l) = absurd (apart (Send GetUdid) 14 [] (a.again l).command (λ e. omega (arith, e)) q)
      go (no l) = omega arith

  -- Assign Address, or 13
  replies_not : (u : Udid) (b n : ℕ) (us : List Udid) → n < 99 → (n ≡ 13 → ⊥) → Replies s u b r → command_number r.command ≡ (n, us) ∷ [] → ⊥
  replies_not u b n us l d w q = go (chooses_address_or_none r.state.pool s.picked u b r.command r.state.picked small w.chooses)
    where
      go : ((a : Address) × (r.command ≡ Send (Assign u a))) ⊎ (r.command ≡ Wait (NoneFree u)) → ⊥
      go (inl (a, e)) = apart (Send (Assign u a)) n us e (λ z. omega (arith, z)) q
      go (inr e) = apart (Wait (NoneFree u)) n us e (λ z. d (sym z)) q

  -- 0: the pass ends
  abbrev EndDue : Type 0
  EndDue =
      ((s.last ≡ Send Prepare) × ((b : ℕ) × CutAt 1 true tr b))
      ⊎ ((s.last ≡ Send GetUdid) × (NobodyLeft tr ⊎ ((xs : List ℕ) × Bytes xs × (length xs ≤ 255) × (length xs ≡ 17 → ⊥) × (tr ≡ reply_trace xs))))

  ends_exactly : (command_number r.command ≡ (0, []) ∷ []) ↔ EndDue
  ends_exactly = (λ q. there q (every_case s tr f), back)
    where
      there : command_number r.command ≡ (0, []) ∷ [] → Case s tr → EndDue
      there q (Accepted e t) = absurd (asks_not 0 [] (omega arith) (λ z. omega (arith, z)) (h.prepare_accepted e t).0 q)
      there q (Nobody e b w) = inl (e, (b, w))
      there q (Refused e n m) = absurd (apart (Wait Abandoned) 0 [] (h.prepare_other e n m).0.command (λ z. omega (arith, z)) q)
      there q (Replied e u b k l t) = absurd (replies_not u b 0 [] (omega arith) (λ z. omega (arith, z)) (h.get_reply e u b k l t) q)
      there q (Counted e xs d l n t) = inr (e, inr (xs, d, l, n, t))
      there q (Left e w) = inr (e, inl w)
      there q (Again e n m) = absurd (asks_not 0 [] (omega arith) (λ z. omega (arith, z)) (h.get_again e n m).0 q)
      there q (Whole u a e k l t) = absurd (asks_not 0 [] (omega arith) (λ z. omega (arith, z)) (h.assign_whole u a e k l t).0 q)
      there q (Other u a e n) = absurd (asks_not 0 [] (omega arith) (λ z. omega (arith, z)) (h.assign_other u a e n).0 q)
      there q (Unprompted i) = absurd (apart (Wait NotOutstanding) 0 [] (h.none_outstanding i).1 (λ z. omega (arith, z)) q)

      back : EndDue → command_number r.command ≡ (0, []) ∷ []
      back (inl (e, (b, w))) = ap command_number (h.prepare_nobody e b w).0.command
      back (inr (e, inl w)) = ap command_number (h.get_nobody e w).0.command
      back (inr (e, inr (xs, d, l, n, t))) = ap command_number (h.get_count e xs d l n t).0.command

  -- 13: no address for who replied
  abbrev NoneDue : Udid → Type 0
  NoneDue u =
      (s.last ≡ Send GetUdid)
      × ((b : ℕ)
      × Fits u
      × (b < 256)
      × (tr ≡ reply_trace (udid_bytes u ++ b ∷ []))
      × ((b ≡ 0xFF) ⊎ ((64 ≤ get_or (udid_bytes u) 0 0) × (member r.state.pool (b / 2) ≡ true)))
      × ((a : ℕ) → a < 128 → member r.state.pool a ≡ true))

  none_exactly : (u : Udid) → (command_number r.command ≡ (13, u ∷ []) ∷ []) ↔ NoneDue u
  none_exactly u = (λ q. there q (every_case s tr f), back)
    where
      replied : command_number r.command ≡ (13, u ∷ []) ∷ [] → s.last ≡ Send GetUdid → (v : Udid) (b : ℕ) → Fits v → b < 256 → tr ≡ reply_trace (udid_bytes v ++ b ∷ [])
          → ((a : Address) × (r.command ≡ Send (Assign v a))) ⊎ (r.command ≡ Wait (NoneFree v)) → Chooses r.state.pool s.picked v b r.command r.state.picked → NoneDue u
      replied q e v b k l t (inl (a, z)) c = absurd (apart (Send (Assign v a)) 13 (u ∷ []) z (λ y. omega (arith, y)) q)
      replied q e v b k l t (inr z) c =
          let m : v ≡ u = same (sym (ap command_number z) ∙ q) in
          let n = none_chosen r.state.pool s.picked u b r.command r.state.picked small (subst (λ (x : Udid). Chooses r.state.pool s.picked x b r.command r.state.picked) m c) (number_13_is_none_free r.command u q) in
          (e, (b, subst Fits m k, l, t ∙ ap (λ (x : Udid). reply_trace (udid_bytes x ++ b ∷ [])) m, n.0, n.1))
        where
          same : ◌≡◌ {A = List (ℕ × List Udid)} ((13, v ∷ []) ∷ []) ((13, u ∷ []) ∷ []) → v ≡ u
          same y = one (ap asked y)
            where
              one : v ∷ [] ≡ u ∷ [] → v ≡ u
              one z = cc z

      there : command_number r.command ≡ (13, u ∷ []) ∷ [] → Case s tr → NoneDue u
      there q (Accepted e t) = absurd (asks_not 13 _ (omega arith) (λ z. omega (arith, z)) (h.prepare_accepted e t).0 q)
      there q (Nobody e b w) = absurd (apart (Wait Ended) 13 _ (h.prepare_nobody e b w).0.command (λ z. omega (arith, z)) q)
      there q (Refused e n m) = absurd (apart (Wait Abandoned) 13 _ (h.prepare_other e n m).0.command (λ z. omega (arith, z)) q)
      there q (Replied e v b k l t) =
          let w = h.get_reply e v b k l t in
          replied q e v b k l t (chooses_address_or_none r.state.pool s.picked v b r.command r.state.picked small w.chooses) w.chooses
      there q (Counted e xs d l n t) = absurd (apart (Wait Ended) 13 _ (h.get_count e xs d l n t).0.command (λ z. omega (arith, z)) q)
      there q (Left e w) = absurd (apart (Wait Ended) 13 _ (h.get_nobody e w).0.command (λ z. omega (arith, z)) q)
      there q (Again e n m) = absurd (asks_not 13 _ (omega arith) (λ z. omega (arith, z)) (h.get_again e n m).0 q)
      there q (Whole v a e k l t) = absurd (asks_not 13 _ (omega arith) (λ z. omega (arith, z)) (h.assign_whole v a e k l t).0 q)
      there q (Other v a e n) = absurd (asks_not 13 _ (omega arith) (λ z. omega (arith, z)) (h.assign_other v a e n).0 q)
      there q (Unprompted i) = absurd (apart (Wait NotOutstanding) 13 _ (h.none_outstanding i).1 (λ z. omega (arith, z)) q)

      back : NoneDue u → command_number r.command ≡ (13, u ∷ []) ∷ []
      back (e, (b, k, l, t, w, a)) = ap command_number ((h.get_reply e u b k l t).chooses.none_free w a).0

  -- 14: the pass is abandoned
  abbrev AbandonDue : Type 0
  AbandonDue =
      ((s.last ≡ Send Prepare) × (tr ≡ prepare_trace → ⊥) × ((b : ℕ) → CutAt 1 true tr b → ⊥))
      ⊎ ((128 ≤ s.gets)
      × (((s.last ≡ Send Prepare) × (tr ≡ prepare_trace))
      ⊎ (((s.last ≡ Send GetUdid) × NoReply tr × (NobodyLeft tr → ⊥)) ⊎ ((u : Udid) × (a : Address) × (s.last ≡ Send (Assign u a))))))

  abandons_exactly : (command_number r.command ≡ (14, []) ∷ []) ↔ AbandonDue
  abandons_exactly = (λ q. there q (every_case s tr f), back)
    where
      there : command_number r.command ≡ (14, []) ∷ [] → Case s tr → AbandonDue
      there q (Accepted e t) = inr (asks_14 (h.prepare_accepted e t).0 q, inl (e, t))
      there q (Nobody e b w) = absurd (apart (Wait Ended) 14 [] (h.prepare_nobody e b w).0.command (λ z. omega (arith, z)) q)
      there q (Refused e n m) = inl (e, n, m)
      there q (Replied e u b k l t) = absurd (replies_not u b 14 [] (omega arith) (λ z. omega (arith, z)) (h.get_reply e u b k l t) q)
      there q (Counted e xs d l n t) = absurd (apart (Wait Ended) 14 [] (h.get_count e xs d l n t).0.command (λ z. omega (arith, z)) q)
      there q (Left e w) = absurd (apart (Wait Ended) 14 [] (h.get_nobody e w).0.command (λ z. omega (arith, z)) q)
      there q (Again e n m) = inr (asks_14 (h.get_again e n m).0 q, inr (inl (e, n, m)))
      there q (Whole u a e k l t) = inr (asks_14 (h.assign_whole u a e k l t).0 q, inr (inr (u, a, e)))
      there q (Other u a e n) = inr (asks_14 (h.assign_other u a e n).0 q, inr (inr (u, a, e)))
      there q (Unprompted i) = absurd (apart (Wait NotOutstanding) 14 [] (h.none_outstanding i).1 (λ z. omega (arith, z)) q)

      limit : Asks s r → 128 ≤ s.gets → command_number r.command ≡ (14, []) ∷ []
      limit a l = ap command_number (a.limit l).command

      assigned : (u : Udid) (a : Address) → s.last ≡ Send (Assign u a) → Dec (a.0 < 128) → Dec (tr ≡ assign_trace (udid_bytes u) (2 * a.0)) → Asks s r
      assigned u a e (no l) d = (h.assign_other u a e (λ k. absurd (l k))).0
      assigned u a e (yes l) (yes t) = (h.assign_whole u a e (f u a e) l t).0
      assigned u a e (yes l) (no t) = (h.assign_other u a e (λ k. t)).0

      back : AbandonDue → command_number r.command ≡ (14, []) ∷ []
      back (inl (e, n, m)) = ap command_number (h.prepare_other e n m).0.command
      back (inr (l, inl (e, t))) = limit (h.prepare_accepted e t).0 l
      back (inr (l, inr (inl (e, n, m)))) = limit (h.get_again e n m).0 l
      back (inr (l, inr (inr (u, a, e)))) = limit (assigned u a e (dec_lt a.0 128) (same_trace_or_not tr (assign_trace (udid_bytes u) (2 * a.0)))) l

  -- 21: no command of a pass is outstanding
  refuses_exactly : (command_number r.command ≡ (21, []) ∷ []) ↔ Idle s
  refuses_exactly = (λ q. there q (every_case s tr f), λ i. ap command_number (h.none_outstanding i).1)
    where
      there : command_number r.command ≡ (21, []) ∷ [] → Case s tr → Idle s
      there q (Accepted e t) = absurd (asks_not 21 [] (omega arith) (λ z. omega (arith, z)) (h.prepare_accepted e t).0 q)
      there q (Nobody e b w) = absurd (apart (Wait Ended) 21 [] (h.prepare_nobody e b w).0.command (λ z. omega (arith, z)) q)
      there q (Refused e n m) = absurd (apart (Wait Abandoned) 21 [] (h.prepare_other e n m).0.command (λ z. omega (arith, z)) q)
      there q (Replied e u b k l t) = absurd (replies_not u b 21 [] (omega arith) (λ z. omega (arith, z)) (h.get_reply e u b k l t) q)
      there q (Counted e xs d l n t) = absurd (apart (Wait Ended) 21 [] (h.get_count e xs d l n t).0.command (λ z. omega (arith, z)) q)
      there q (Left e w) = absurd (apart (Wait Ended) 21 [] (h.get_nobody e w).0.command (λ z. omega (arith, z)) q)
      there q (Again e n m) = absurd (asks_not 21 [] (omega arith) (λ z. omega (arith, z)) (h.get_again e n m).0 q)
      there q (Whole u a e k l t) = absurd (asks_not 21 [] (omega arith) (λ z. omega (arith, z)) (h.assign_whole u a e k l t).0 q)
      there q (Other u a e n) = absurd (asks_not 21 [] (omega arith) (λ z. omega (arith, z)) (h.assign_other u a e n).0 q)
      there q (Unprompted i) = i

  pub each_number_exactly : StepNumbers s tr r
  each_number_exactly = record { step_0 = ends_exactly; step_13 = none_exactly; step_14 = abandons_exactly; step_21 = refuses_exactly }

  -- AN ASSIGN is sent on a reply alone
  pub assigns_on_reply : (u : Udid) (a : Address) → r.command ≡ Send (Assign u a)
      → (s.last ≡ Send GetUdid) × ((v : Udid) × (b : ℕ) × Fits v × (b < 256) × (tr ≡ reply_trace (udid_bytes v ++ b ∷ [])))
  assigns_on_reply u a q = go (every_case s tr f)
    where
      no_assign : (k : Handed) → r.command ≡ k → is_assign k ≡ false → ⊥
      no_assign k e n = false_not_true (sym n ∙ ap is_assign (sym e ∙ q))

      asks_none : Asks s r → ⊥
      asks_none w = at (dec_lt s.gets 128)
        where
          at : Dec (s.gets < 128) → ⊥
          at (yes k) = no_assign (Send GetUdid) (w.again k).command refl
          at (no k) = no_assign (Wait Abandoned) (w.limit (omega arith)).command refl

      go : Case s tr → (s.last ≡ Send GetUdid) × ((v : Udid) × (b : ℕ) × Fits v × (b < 256) × (tr ≡ reply_trace (udid_bytes v ++ b ∷ [])))
      go (Accepted e t) = absurd (asks_none (h.prepare_accepted e t).0)
      go (Nobody e b w) = absurd (no_assign (Wait Ended) (h.prepare_nobody e b w).0.command refl)
      go (Refused e n m) = absurd (no_assign (Wait Abandoned) (h.prepare_other e n m).0.command refl)
      go (Replied e v b k l t) = (e, (v, b, k, l, t))
      go (Counted e xs d l n t) = absurd (no_assign (Wait Ended) (h.get_count e xs d l n t).0.command refl)
      go (Left e w) = absurd (no_assign (Wait Ended) (h.get_nobody e w).0.command refl)
      go (Again e n m) = absurd (asks_none (h.get_again e n m).0)
      go (Whole v c e k l t) = absurd (asks_none (h.assign_whole v c e k l t).0)
      go (Other v c e n) = absurd (asks_none (h.assign_other v c e n).0)
      go (Unprompted i) = absurd (no_assign (Wait NotOutstanding) (h.none_outstanding i).1 refl)
