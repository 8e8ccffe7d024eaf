-- The account of the addresses in use holds over every run (specs/Account.antt).
use Rattle.std.specs.Prelude.{ℕ, suc, ◌+◌, ◌*◌, ◌<◌, ◌≡◌, Bool, List, [], ◌∷◌, ◌++◌, ◌⊎◌, ◌↔◌, ltb, eqb, length, get_or}
use Rattle.std.proofs.Math.Path.{refl, sym, ap, fun_ext}
use Rattle.std.proofs.Common.{ap₂, ◌∙◌, subst, inl, inr, arith, length-append, eq-eqb, ne_eqb, lt-ltb, ltb-true}
use Rattle.std.proofs.Math.Bool.{true, false}
use Rattle.std.proofs.Math.Decide.{ℕ_discrete}
use Rattle.std.proofs.lemmas.List.{get_or_at}
use Rattle.lists.specs.AbsurdLaws.{zero_is_one}
use Rattle.lists.specs.Choice.{pick, and, not, or}
use Rattle.lists.specs.ChoiceLaws.{both_true, or_last, or_none, and_last, and_none}
use Rattle.wire.specs.declared.address.Address.{Address}
use Rattle.pool.specs.CountLaws.{count_cong, count_more, count_split}
use Rattle.pool.specs.Counts.{one, count}
use Rattle.pool.specs.Free.{used}
use Rattle.pool.specs.FreeLaws.{used_without}
use Rattle.pool.specs.Pools.{member, without_address}
use Rattle.pool.specs.Start.{starting_pool}
use Rattle.pool.specs.declared.Pool.{Pool}
use Rattle.udid.specs.Bytes.{udid_at, udid_bytes}
use Rattle.udid.proofs.UdidLaws.{length_udid, same_equal, same_refl}
use Rattle.udid.specs.Udids.{Fits, same_udid}
use Rattle.udid.specs.declared.Udid.{Udid}
use Rattle.slots.specs.Slots.{held_at}
use Rattle.slots.specs.declared.Binding.{Binding}
use Rattle.slots.specs.declared.Binding.TheVariants.{Open, Bound, Claimed, Left}
use Rattle.commands.specs.CommandTraces.{reply_trace, assign_trace, ReplyOf}
use Rattle.commands.specs.SameTrace.{same}
use Rattle.commands.specs.SameTraceLaws.{same_self, same_true}
use Rattle.commands.specs.declared.command.Command.TheVariants.{Prepare, GetUdid, Assign}
use Rattle.commands.specs.declared.command.Handed.{Handed}
use Rattle.commands.specs.declared.command.Handed.TheVariants.{Send, Wait}
use Rattle.hearing.specs.Heard.{answer, sent_in, received_in}
use Rattle.arp.specs.Account.{known_in, bind_in, replies_from, unbind_in, remove_in, binds, unbindings, removals}
use Rattle.arp.specs.Gone.{reported}
use Rattle.arp.proofs.GoneLaws.{which_bound, bound_small, nothing_reported, removed}
use Rattle.arp.proofs.HandedOutLaws.{table_is_story}
use Rattle.arp.proofs.HandingLaws.{issue_rest, decline_rest}
use Rattle.arp.specs.History.{By, Event, Start, Received, Gone, Issue, Decline, run}
use Rattle.arp.proofs.HistoryLaws.{reached_good, reached_invariant}
use Rattle.arp.proofs.OutstandingLaws.{handed_out_is_last}
use Rattle.arp.proofs.PickedLaws.{byte_at_42}
use Rattle.arp.proofs.ReadingLaws.{replied_exactly, reply_cases, assign_cases}
use Rattle.arp.specs.Replay.{Happened, Replied, Assigned, Other, Table, holds, is_bound, after, read_as, handed_out, happened, view}
use Rattle.arp.proofs.SinceStartLaws.{completes_is_read}
use Rattle.arp.specs.Sound.{PendingIn}
use Rattle.arp.specs.Story.{Story, story}
use Rattle.arp.proofs.TableLaws.{event_view, view_is_table}
use Rattle.arp.specs.declared.gone.Reported.{Reported}
use Rattle.arp.specs.declared.state.Controller.{Controller}

-- ---- a reply

-- the trace is a reply of u exactly if it is read so
replies_is_read : (tr : List ℕ) (u : Udid) → Fits u → (replies_from tr (Bound u) ≡ true) ↔ (read_as (Send GetUdid) tr ≡ Replied u)
replies_is_read tr u f = (there, λ e. back ((replied_exactly (Send GetUdid) tr u f).0 e).1)
  where
    there : replies_from tr (Bound u) ≡ true → read_as (Send GetUdid) tr ≡ Replied u
    there e =
        let b = both_true (ltb (get_or tr 42 0) 256) (same tr (reply_trace (udid_bytes u ++ get_or tr 42 0 ∷ []))) e in
        (replied_exactly (Send GetUdid) tr u f).1 (refl, (get_or tr 42 0, ltb-true (get_or tr 42 0) 256 b.0, same_true tr (reply_trace (udid_bytes u ++ get_or tr 42 0 ∷ [])) b.1))

    back : ReplyOf u tr → replies_from tr (Bound u) ≡ true
    back (b, h, q) =
        let n : length (udid_bytes u ++ b ∷ []) ≡ 17 = omega (arith, length-append (udid_bytes u) (b ∷ []), length_udid u) in
        let k : get_or tr 42 0 ≡ b = ap (λ (l : List ℕ). get_or l 42 0) q ∙ byte_at_42 (udid_bytes u ++ b ∷ []) n ∙ get_or_at (udid_bytes u) b [] 0 16 (length_udid u) in
        ap (λ (x : ℕ). and (ltb x 256) (same tr (reply_trace (udid_bytes u ++ x ∷ [])))) k
        ∙ ap₂ and (lt-ltb b 256 h) (ap (λ (l : List ℕ). same l (reply_trace (udid_bytes u ++ b ∷ []))) q ∙ same_self (reply_trace (udid_bytes u ++ b ∷ [])))

module _ (occupied : Pool) (last : ℕ) (es : List Event) where
  abbrev before : Controller
  before = run occupied last es

  -- an address is in use after an event
  used_after : (e : Event) (a : ℕ) → member (run occupied last (e ∷ es)).pool a ≡ (after occupied (happened occupied last es e) (view before)).used a
  used_after e a = ap (λ (t : Table). t.used a) (event_view occupied last es e)

  -- what is bound is in use
  bound_used : (a : ℕ) (u : Udid) → held_at before.slots a ≡ Bound u → member before.pool a ≡ true
  bound_used a u e = (reached_invariant occupied last es).bound_used a u e

  -- an address of the starting pool
  abbrev starts : ℕ → Bool
  starts = member (starting_pool occupied)

  module _ (by : By) (tr : List ℕ) where
    abbrev later : Pool
    later = (run occupied last (Received by tr ∷ es)).pool

    -- what a trace that is read as nothing leaves
    same_used : read_as (handed_out occupied last es) tr ≡ Other → used later ≡ used before.pool
    unfolding used
    same_used e = count_cong (member later) (member before.pool) 128 (λ a h. used_after (Received by tr) a ∙ ap (λ (x : Happened). (after occupied x (view before)).used a) e)

    -- ---- Get UDID is outstanding

    module _ (k : handed_out occupied last es ≡ Send GetUdid) where
      abbrev rep : ℕ → Bool
      rep a = replies_from tr (held_at before.slots a)

      -- whose binding is released
      released_then : (x : Happened) → (x ≡ Other) ⊎ ((w : Udid) × (x ≡ Replied w)) → read_as (Send GetUdid) tr ≡ x → (a : ℕ) (h : Binding) → held_at before.slots a ≡ h
          → (after occupied x (view before)).used a ≡ pick (replies_from tr h) (and (starts a) (member before.pool a)) (member before.pool a)
      released_then x (inl q) r a h e = ap (λ (y : Happened). (after occupied y (view before)).used a) q ∙ ap (λ (t : Bool). pick t (and (starts a) (member before.pool a)) (member before.pool a)) (sym (none h e))
        where
          other : (u : Udid) → held_at before.slots a ≡ Bound u → (t : Bool) → replies_from tr (Bound u) ≡ t → replies_from tr (Bound u) ≡ false
          other u e true z = let m : Other ≡ Replied u = sym q ∙ sym r ∙ (replies_is_read tr u ((reached_good occupied last es).0.sound.fits a u e)).0 z in zero_is_one (cc m)
          other u e false z = z

          none : (h : Binding) → held_at before.slots a ≡ h → replies_from tr h ≡ false
          none Open e = refl
          none (Bound u) e = other u e (replies_from tr (Bound u)) refl
          none Claimed e = refl
          none Left e = refl
      released_then x (inr (w, q)) r a h e =
          ap (λ (y : Happened). (after occupied y (view before)).used a) q
          ∙ ap (λ (t : Bool). pick t (and (starts a) (member before.pool a)) (member before.pool a)) (ap (holds w) e ∙ alike h e)
        where
          test : (u : Udid) → held_at before.slots a ≡ Bound u → (s t : Bool) → same_udid u w ≡ s → replies_from tr (Bound u) ≡ t → s ≡ t
          test u e true true y z = refl
          test u e true false y z =
              let v : u ≡ w = same_equal u w y in
              let m : replies_from tr (Bound u) ≡ true = (replies_is_read tr u ((reached_good occupied last es).0.sound.fits a u e)).1 (r ∙ q ∙ ap Replied (sym v)) in
              zero_is_one (cc (m, z))
          test u e false true y z =
              let m : Replied w ≡ Replied u = sym q ∙ sym r ∙ (replies_is_read tr u ((reached_good occupied last es).0.sound.fits a u e)).0 z in
              let v : w ≡ u = cc m in
              zero_is_one (cc (y, ap (same_udid u) v, same_refl u))
          test u e false false y z = refl

          alike : (h : Binding) → held_at before.slots a ≡ h → holds w h ≡ replies_from tr h
          alike Open e = refl
          alike (Bound u) e = test u e (same_udid u w) (replies_from tr (Bound u)) refl refl
          alike Claimed e = refl
          alike Left e = refl

      used_then : (a : ℕ) → member later a ≡ pick (rep a) (and (starts a) (member before.pool a)) (member before.pool a)
      used_then a =
          used_after (Received by tr) a
          ∙ ap (λ (y : Handed). (after occupied (read_as y tr) (view before)).used a) k
          ∙ released_then (read_as (Send GetUdid) tr) (cases (reply_cases (answer 9 tr) (received_in 9 tr))) refl a (held_at before.slots a) refl
        where
          cases : (read_as (Send GetUdid) tr ≡ Other) ⊎ (read_as (Send GetUdid) tr ≡ Replied (udid_at (received_in 9 tr) 0)) → (read_as (Send GetUdid) tr ≡ Other) ⊎ ((w : Udid) × (read_as (Send GetUdid) tr ≡ Replied w))
          cases (inl q) = inl q
          cases (inr q) = inr (udid_at (received_in 9 tr) 0, q)

      -- whoever replies is bound, and so in use
      replier : (a : ℕ) → rep a ≡ true → member before.pool a ≡ true
      replier a e = go (held_at before.slots a) refl e
        where
          go : (h : Binding) → held_at before.slots a ≡ h → replies_from tr h ≡ true → member before.pool a ≡ true
          go Open q z = zero_is_one (cc z)
          go (Bound u) q z = bound_used a u q
          go Claimed q z = zero_is_one (cc z)
          go Left q z = zero_is_one (cc z)

      -- its address is in use then exactly if the starting pool has it
      stays_if_starting : (a : ℕ) → rep a ≡ true → member later a ≡ starts a
      stays_if_starting a e =
          used_then a ∙ ap (λ (t : Bool). pick t (and (starts a) (member before.pool a)) (member before.pool a)) e ∙ ap (and (starts a)) (replier a e) ∙ and_last (starts a)

      reply_counted : used later + count (λ a. and (not (starts a)) (rep a)) 128 ≡ used before.pool
      unfolding used
      reply_counted =
          ap (λ (n : ℕ). count (member later) 128 + n) (count_cong (λ a. and (not (starts a)) (rep a)) (λ a. and (not (member later a)) (rep a)) 128 (λ a h. each a (rep a) refl))
          ∙ sym (count_split (member later) rep (member before.pool) 128 (λ a h. whole a (rep a) refl))
        where
          each : (a : ℕ) (t : Bool) → rep a ≡ t → and (not (starts a)) t ≡ and (not (member later a)) t
          each a true e = ap (λ (b : Bool). and (not b) true) (sym (stays_if_starting a e))
          each a false e = and_none (not (starts a)) ∙ sym (and_none (not (member later a)))

          whole : (a : ℕ) (t : Bool) → rep a ≡ t → member before.pool a ≡ or (member later a) t
          whole a true e = replier a e ∙ sym (or_last (member later a))
          whole a false e = sym (or_none (member later a) ∙ used_then a ∙ ap (λ (t : Bool). pick t (and (starts a) (member before.pool a)) (member before.pool a)) e)

    -- ---- an Assign is outstanding

    module _ (u : Udid) (c : Address) (k : handed_out occupied last es ≡ Send (Assign u c)) where
      abbrev whole_assign : List ℕ
      whole_assign = assign_trace (udid_bytes u) (2 * c.0)

      read_whole : tr ≡ whole_assign → read_as (handed_out occupied last es) tr ≡ Assigned u c.0
      read_whole q = (completes_is_read occupied last es tr u c.0).0 (k, q)

      read_cut : (tr ≡ whole_assign → ⊥) → read_as (handed_out occupied last es) tr ≡ Other
      read_cut n = ap (λ (x : Handed). read_as x tr) k ∙ go (assign_cases u c.0 (answer 8 tr) (sent_in 8 tr))
        where
          go : (read_as (Send (Assign u c)) tr ≡ Other) ⊎ (read_as (Send (Assign u c)) tr ≡ Assigned u c.0) → read_as (Send (Assign u c)) tr ≡ Other
          go (inl q) = q
          go (inr q) = absurd (n ((completes_is_read occupied last es tr u c.0).1 (ap (λ (x : Handed). read_as x tr) k ∙ q)).1)

      small : c.0 < 128
      small = (subst (PendingIn before) (handed_out_is_last occupied last es (Assign u c) k) (reached_good occupied last es).1).small

      used_whole : tr ≡ whole_assign → (a : ℕ) → member later a ≡ pick (eqb a c.0) true (member before.pool a)
      used_whole q a = used_after (Received by tr) a ∙ ap (λ (x : Happened). (after occupied x (view before)).used a) (read_whole q)

      -- one more, where it was not in the pool
      assign_counted : used later ≡ used before.pool + one (and (same tr whole_assign) (not (member before.pool c.0)))
      unfolding used
      assign_counted = go (same tr whole_assign) refl (member before.pool c.0) refl
        where
          elsewhere : tr ≡ whole_assign → (a : ℕ) → (a ≡ c.0 → ⊥) → member later a ≡ member before.pool a
          elsewhere q a n = used_whole q a ∙ ap (λ (t : Bool). pick t true (member before.pool a)) (ne_eqb a c.0 n)

          here : tr ≡ whole_assign → (a : ℕ) → a ≡ c.0 → member later a ≡ true
          here q a e = used_whole q a ∙ ap (λ (t : Bool). pick t true (member before.pool a)) (eq-eqb a c.0 e)

          more : tr ≡ whole_assign → member before.pool c.0 ≡ false → used later ≡ suc (used before.pool)
          more q e = count_more (member before.pool) (member later) 128 c.0 small e (here q c.0 refl) (λ j h n. elsewhere q j n)

          as_many : tr ≡ whole_assign → member before.pool c.0 ≡ true → used later ≡ used before.pool
          as_many q e = count_cong (member later) (member before.pool) 128 (λ a h. either a (ℕ_discrete a c.0))
            where
              either : (a : ℕ) → Dec (a ≡ c.0) → member later a ≡ member before.pool a
              either a (yes d) = here q a d ∙ sym (ap (member before.pool) d ∙ e)
              either a (no d) = elsewhere q a d

          go : (s : Bool) → same tr whole_assign ≡ s → (t : Bool) → member before.pool c.0 ≡ t → used later ≡ used before.pool + one (and s (not t))
          go true q true e = let m = as_many (same_true tr whole_assign q) e in omega arith
          go true q false e = let m = more (same_true tr whole_assign q) e in omega arith
          go false q t e = let m = same_used (read_cut (λ z. zero_is_one (cc (q, ap (λ (l : List ℕ). same l whole_assign) z, same_self whole_assign)))) in omega arith

    -- ---- each trace

    trace_counted : used later + unbind_in (member (starting_pool occupied)) (view before) (handed_out occupied last es) tr ≡ used before.pool + bind_in (view before) (handed_out occupied last es) tr
    trace_counted = go (handed_out occupied last es) refl
      where
        go : (k : Handed) → handed_out occupied last es ≡ k → used later + unbind_in (member (starting_pool occupied)) (view before) k tr ≡ used before.pool + bind_in (view before) k tr
        go (Send Prepare) e = let m = same_used (ap (λ (x : Handed). read_as x tr) e) in omega arith
        go (Send GetUdid) e = let m = reply_counted e in omega arith
        go (Send (Assign u c)) e = let m = assign_counted u c e in omega arith
        go (Wait w) e = let m = same_used (ap (λ (x : Handed). read_as x tr) e) in omega arith

  -- ---- a report

  report_counted : (b : ℕ) → used (run occupied last (Gone b ∷ es)).pool + remove_in (member (starting_pool occupied)) (view before) b ≡ used before.pool
  unfolding run
  report_counted b = go (is_bound (held_at before.slots b)) refl
    where
      taken : (u : Udid) → held_at before.slots b ≡ Bound u → (t : Bool) → starts b ≡ t → (reported before b).state.pool ≡ pick t before.pool (without_address before.pool b)
      taken u e t k =
          ap (λ (r : Reported). r.state.pool) (removed before b u e)
          ∙ ap (λ (x : Bool). pick x before.pool (without_address before.pool b)) (ap (λ (o : Pool). member (starting_pool o) b) (reached_good occupied last es).0.occupies ∙ k)

      -- an address of the starting pool stays in use, any other leaves
      by_starting : (u : Udid) → held_at before.slots b ≡ Bound u → (t : Bool) → starts b ≡ t → used (reported before b).state.pool + one (and (not t) true) ≡ used before.pool
      by_starting u e true k = let m : used (reported before b).state.pool ≡ used before.pool = ap used (taken u e true k) in omega (arith, m)
      by_starting u e false k =
          let m = used_without before.pool b (bound_small before.slots b u e) (bound_used b u e) in
          let n : used (reported before b).state.pool ≡ used (without_address before.pool b) = ap used (taken u e false k) in
          omega (arith, m, n)

      at : (u : Udid) × (held_at before.slots b ≡ Bound u) → used (reported before b).state.pool + one (and (not (starts b)) true) ≡ used before.pool
      at (u, e) = by_starting u e (starts b) refl

      go : (t : Bool) → is_bound (held_at before.slots b) ≡ t → used (reported before b).state.pool + one (and (not (starts b)) (is_bound (held_at before.slots b))) ≡ used before.pool
      go true e = ap (λ (t : Bool). used (reported before b).state.pool + one (and (not (starts b)) t)) e ∙ at (which_bound (held_at before.slots b) e)
      go false e =
          let n : one (and (not (starts b)) (is_bound (held_at before.slots b))) ≡ 0 = ap (λ (t : Bool). one (and (not (starts b)) t)) e ∙ ap one (and_none (not (starts b))) in
          let m : used (reported before b).state.pool ≡ used before.pool = ap (λ (s : Controller). used s.pool) (nothing_reported before b e) in
          omega (arith, n, m)

-- ---- THE ACCOUNT

-- the two sides, by what was known and what was handed out
abbrev Balanced : Pool → ℕ → (List Event → Table) → (List Event → Handed) → List Event → Type 0
Balanced occupied last known handed es =
    let starting = member (starting_pool occupied) in
    used (run occupied last es).pool + (removals starting known es + unbindings starting known handed es) ≡ used (starting_pool occupied) + binds known handed es

pub account : (occupied : Pool) (last : ℕ) (es : List Event) → let starting = member (starting_pool occupied) in let known = known_in occupied last in let handed = handed_out occupied last in
    used (run occupied last es).pool + (removals starting known es + unbindings starting known handed es) ≡ used (starting_pool occupied) + binds known handed es
unfolding run removals unbindings binds
account occupied last [] = omega arith
account occupied last (Start ∷ es) = ap (λ (o : Pool). used (starting_pool o) + 0) (reached_good occupied last es).0.occupies
account occupied last (Received by tr ∷ es) = let m = account occupied last es in let n = trace_counted occupied last es by tr in omega arith
account occupied last (Issue ∷ es) =
    ap (λ (p : Pool). used p + (removals (member (starting_pool occupied)) (known_in occupied last) es + unbindings (member (starting_pool occupied)) (known_in occupied last) (handed_out occupied last) es))
    (issue_rest (run occupied last es)).pool ∙ account occupied last es
account occupied last (Decline ∷ es) =
    ap (λ (p : Pool). used p + (removals (member (starting_pool occupied)) (known_in occupied last) es + unbindings (member (starting_pool occupied)) (known_in occupied last) (handed_out occupied last) es))
    (decline_rest (run occupied last es)).pool ∙ account occupied last es
account occupied last (Gone b ∷ es) = let m = account occupied last es in let n = report_counted occupied last es b in omega arith

-- what the events alone say was known, and handed out, is the same
known_by_story : (occupied : Pool) (last : ℕ) → known_in occupied last ≡ (λ es. (story occupied last es).known)
known_by_story occupied last = fun_ext (λ es. view_is_table occupied last es ∙ ap (λ (w : Story). w.known) (table_is_story occupied last es))

handed_by_story : (occupied : Pool) (last : ℕ) → handed_out occupied last ≡ (λ es. (story occupied last es).command)
handed_by_story occupied last = fun_ext (λ es. ap (λ (w : Story). w.command) (table_is_story occupied last es))

-- THE ACCOUNT BY THE EVENTS ALONE: no state of the controller, and no step of it, tells what is counted
pub account_by_story : (occupied : Pool) (last : ℕ) (es : List Event)
    → let starting = member (starting_pool occupied) in let known : List Event → Table = λ es. (story occupied last es).known in let handed : List Event → Handed = λ es. (story occupied last es).command in
    used (run occupied last es).pool + (removals starting known es + unbindings starting known handed es) ≡ used (starting_pool occupied) + binds known handed es
account_by_story occupied last es =
    subst (λ (handed : List Event → Handed). Balanced occupied last (λ es. (story occupied last es).known) handed es) (handed_by_story occupied last)
    (subst (λ (known : List Event → Table). Balanced occupied last known (handed_out occupied last) es) (known_by_story occupied last) (account occupied last es))
