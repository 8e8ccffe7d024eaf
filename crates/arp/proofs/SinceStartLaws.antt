-- What lookup answers, told by what happened since the start of the pass: 0 with u, and 20, each exactly then (specs/SinceStart.antt).
use Rattle.std.specs.Prelude.{ℕ, ◌≡◌, refl, Bool, true, List, [], ◌∷◌, ◌++◌, ◌⊎◌, ◌↔◌, eqb}
use Rattle.std.proofs.Common.{sym, ap, ap₂, ◌∙◌, subst, inl, eq-eqb, ne_eqb}
use Rattle.std.proofs.Math.Bool.{false}
use Rattle.std.proofs.Math.Logic.{inr}
use Rattle.std.proofs.Math.Decide.{ℕ_discrete}
use Rattle.lists.specs.AbsurdLaws.{zero_is_one}
use Rattle.lists.specs.Choice.{pick, or, and}
use Rattle.lists.specs.ChoiceLaws.{neither, or_last}
use Rattle.pool.specs.Pools.{member}
use Rattle.pool.specs.Start.{starting_pool, barred_pool}
use Rattle.pool.specs.declared.Pool.{Pool}
use Rattle.udid.proofs.UdidLaws.{same_refl}
use Rattle.udid.specs.Udids.{same_udid, Fits}
use Rattle.udid.specs.declared.Udid.{Udid}
use Rattle.slots.specs.Finding.{bound_to}
use Rattle.slots.specs.Slots.{held_at}
use Rattle.slots.proofs.SlotsLaws.{open_all}
use Rattle.slots.specs.declared.Binding.{Binding}
use Rattle.slots.specs.declared.Binding.TheVariants.{Open, Bound, Claimed, Left}
use Rattle.commands.specs.declared.command.Command.TheVariants.{Assign}
use Rattle.commands.specs.declared.command.Handed.TheVariants.{Send}
use Rattle.arp.specs.BindingLaws.{unheld_is_open_or_left}
use Rattle.picking.proofs.ClaimLaws.{barred_makes_claim, held_makes_claim}
use Rattle.picking.specs.Claims.{is_held, makes_claim}
use Rattle.arp.proofs.GoneLaws.{which_bound, bound_small, left_small, answered_0}
use Rattle.arp.specs.History.{By, Event, Start, Received, Gone, Issue, Decline, NoStart, run}
use Rattle.arp.proofs.HistoryLaws.{reached_good, reached_invariant}
use Rattle.arp.specs.Lookup.{looked_up}
use Rattle.arp.proofs.LookupLaws.{lookup_0, lookup_20}
use Rattle.arp.specs.Numbers.{lookup_number}
use Rattle.arp.proofs.OutstandingLaws.{handed_out_is_last}
use Rattle.arp.specs.Reading.{OfTrace}
use Rattle.arp.proofs.ReadingLaws.{read_of_trace, replied_exactly, assigned_exactly, read_assign_is_outstanding}
use Rattle.arp.specs.Replay.{Happened, Started, Replied, Assigned, Pulled, Other, Table, holds, is_bound, after, read_as, handed_out, happened, view}
use Rattle.arp.specs.SinceStart.{Completes, RepliedBy, Removed, Untaken, BoundSince, LeftSince}
use Rattle.arp.specs.Sound.{Unbound, Pending, PendingIn}
use Rattle.arp.proofs.SoundLaws.{bound_to_is_bound}
use Rattle.arp.proofs.TableLaws.{holds_is, event_view}
use Rattle.arp.specs.declared.state.Controller.{Controller}

holder : (u : Udid) (h : Binding) → holds u h ≡ true → h ≡ Bound u
holder u h e = bound_to_is_bound u h (sym (holds_is u h) ∙ e)

same_bound : {u v : Udid} → Bound u ≡ Bound v → u ≡ v
same_bound e = cc e

same_assign : {u v : Udid} {a : ℕ} → Send (Assign u (record { 0 = a })) ≡ Send (Assign v (record { 0 = a })) → u ≡ v
same_assign e = cc e

module _ (occupied : Pool) (last : ℕ) (es : List Event) where
  -- what the controller has before the event
  abbrev before : Controller
  before = run occupied last es

  -- an Assign of the address would make a claim of it
  abbrev taken : ℕ → Bool
  taken a = makes_claim occupied (held_at before.slots a) a

  untaken_is : (a : ℕ) → (taken a ≡ false) ↔ Untaken occupied last es a
  untaken_is a = (λ e. (let n = neither (member (barred_pool occupied) a) (is_held (held_at before.slots a)) e in (n.0, unheld_is_open_or_left (held_at before.slots a) n.1)), λ w. empty w.0 w.1)
    where
      empty : member (barred_pool occupied) a ≡ false → (held_at before.slots a ≡ Open) ⊎ (held_at before.slots a ≡ Left) → taken a ≡ false
      empty e (inl k) = ap₂ (λ (t : Bool) (x : Binding). or t (is_held x)) e k
      empty e (inr k) = ap₂ (λ (t : Bool) (x : Binding). or t (is_held x)) e k

  -- what an address is known for after it
  held_after : (e : Event) (a : ℕ) → held_at (run occupied last (e ∷ es)).slots a ≡ (after occupied (happened occupied last es e) (view before)).held a
  held_after e a = ap (λ (t : Table). t.held a) (event_view occupied last es e)

  module _ (tr : List ℕ) where
    pending : (u : Udid) (a : ℕ) → handed_out occupied last es ≡ Send (Assign u (record { 0 = a })) → Pending before u a
    pending u a e = subst (PendingIn before) (handed_out_is_last occupied last es (Assign u (record { 0 = a })) e) (reached_good occupied last es).1

    -- an Assign completes exactly where the trace is read so
    pub completes_is_read : (u : Udid) (a : ℕ) → Completes occupied last es tr u a ↔ (read_as (handed_out occupied last es) tr ≡ Assigned u a)
    completes_is_read u a = (
      λ c. (let p = pending u a c.0 in (assigned_exactly (handed_out occupied last es) tr u (record { 0 = a }) p.fits p.small).1 c),
      λ r. (let p = pending u a (read_assign_is_outstanding (handed_out occupied last es) tr u a r) in (assigned_exactly (handed_out occupied last es) tr u (record { 0 = a }) p.fits p.small).0 r),
    )

    -- a reply of an identifier of 128 bits likewise
    pub replied_is_read : (u : Udid) → Fits u → RepliedBy occupied last es tr u ↔ (read_as (handed_out occupied last es) tr ≡ Replied u)
    replied_is_read u f = let r = replied_exactly (handed_out occupied last es) tr u f in (r.1, r.0)

  module _ (by : By) (tr : List ℕ) where
    -- ---- what becomes of an address at a trace

    abbrev later : ℕ → Binding
    later a = held_at (run occupied last (Received by tr ∷ es)).slots a

    -- an Assign of it completes; or none does, and the target that is bound there replies, and is unbound; or neither, and it is as it was
    abbrev Fate : ℕ → Type 0
    Fate a =
        ((w : Udid) × Completes occupied last es tr w a × (later a ≡ pick (taken a) Claimed (Bound w)))
        ⊎ (((w : Udid) → Completes occupied last es tr w a → ⊥)
        × (((u : Udid) × (held_at before.slots a ≡ Bound u) × RepliedBy occupied last es tr u × (later a ≡ Open))
        ⊎ (((u : Udid) → held_at before.slots a ≡ Bound u → RepliedBy occupied last es tr u → ⊥) × (later a ≡ held_at before.slots a))))

    fate : (a : ℕ) → Fate a
    fate a = go (read_as (handed_out occupied last es) tr) refl (read_of_trace (handed_out occupied last es) tr)
      where
        fits : (u : Udid) → held_at before.slots a ≡ Bound u → Fits u
        fits u k = (reached_good occupied last es).0.sound.fits a u k

        -- what is known of it then, where the trace is read as x
        read : (x : Happened) → read_as (handed_out occupied last es) tr ≡ x → later a ≡ (after occupied x (view before)).held a
        read x q = held_after (Received by tr) a ∙ ap (λ (y : Happened). (after occupied y (view before)).held a) q

        no_assign : (x : Happened) → read_as (handed_out occupied last es) tr ≡ x → ((w : Udid) → x ≡ Assigned w a → ⊥) → (w : Udid) → Completes occupied last es tr w a → ⊥
        no_assign x q n w c = n w (sym q ∙ (completes_is_read tr w a).0 c)

        no_reply : (x : Happened) → read_as (handed_out occupied last es) tr ≡ x → (u : Udid) → held_at before.slots a ≡ Bound u → (x ≡ Replied u → ⊥) → RepliedBy occupied last es tr u → ⊥
        no_reply x q u k n r = n (sym q ∙ (replied_is_read tr u (fits u k)).0 r)

        reply : (w : Udid) → read_as (handed_out occupied last es) tr ≡ Replied w → (t : Bool) → holds w (held_at before.slots a) ≡ t → Fate a
        reply w q true h =
            let k : held_at before.slots a ≡ Bound w = holder w (held_at before.slots a) h in
            inr (no_assign (Replied w) q (λ v m. zero_is_one (cc m)), inl (w, k, (replied_is_read tr w (fits w k)).1 q, read (Replied w) q ∙ ap (λ (t : Bool). pick t Open (held_at before.slots a)) h))
        reply w q false h =
            inr (
              no_assign (Replied w) q (λ v m. zero_is_one (cc m)),
              inr (
                λ u k. no_reply (Replied w) q u k (λ m. (let v : w ≡ u = cc m in zero_is_one (cc (h, ap (holds w) k, ap (same_udid u) v, same_refl u)))),
                read (Replied w) q ∙ ap (λ (t : Bool). pick t Open (held_at before.slots a)) h,
              ),
            )

        assign : (w : Udid) (b : ℕ) → read_as (handed_out occupied last es) tr ≡ Assigned w b → Dec (a ≡ b) → Fate a
        assign w b q (yes d) =
            let e : read_as (handed_out occupied last es) tr ≡ Assigned w a = q ∙ ap (Assigned w) (sym d) in
            inl (w, (completes_is_read tr w a).1 e, read (Assigned w a) e ∙ ap (λ (t : Bool). pick t (pick (taken a) Claimed (Bound w)) (held_at before.slots a)) (eq-eqb a a refl))
        assign w b q (no d) =
            inr (
              no_assign (Assigned w b) q (λ v m. d (sym (second m))),
              inr (
                λ u k. no_reply (Assigned w b) q u k (λ m. zero_is_one (cc m)),
                read (Assigned w b) q ∙ ap (λ (t : Bool). pick t (pick (taken b) Claimed (Bound w)) (held_at before.slots a)) (ne_eqb a b d),
              ),
            )
          where
            second : {v : Udid} {c : ℕ} → Assigned w b ≡ Assigned v c → b ≡ c
            second m = cc m

        go : (x : Happened) → read_as (handed_out occupied last es) tr ≡ x → OfTrace x → Fate a
        go Started q o = absurd o
        go (Replied w) q o = reply w q (holds w (held_at before.slots a)) refl
        go (Assigned w b) q o = assign w b q (ℕ_discrete a b)
        go (Pulled b) q o = absurd o
        go Other q o = inr (no_assign Other q (λ v m. zero_is_one (cc m)), inr (λ u k. no_reply Other q u k (λ m. zero_is_one (cc m)), read Other q))

    -- ---- an address that is bound after it

    -- an Assign of it completed, and it was untaken; or it was bound before, and neither its identifier replied nor an Assign of it completed
    abbrev Either : Udid → ℕ → Type 0
    Either u a =
        (Completes occupied last es tr u a × Untaken occupied last es a)
        ⊎ ((held_at before.slots a ≡ Bound u) × (RepliedBy occupied last es tr u → ⊥) × ((w : Udid) → Completes occupied last es tr w a → ⊥))

    bound_then : (a : ℕ) (u : Udid) → later a ≡ Bound u → Either u a
    bound_then a u e = go (fate a)
      where
        assigned : (w : Udid) → Completes occupied last es tr w a → (t : Bool) → taken a ≡ t → pick t Claimed (Bound w) ≡ Bound u → Either u a
        assigned w c true m z = zero_is_one (cc z)
        assigned w c false m z = let v : w ≡ u = cc z in inl (subst (λ (x : Udid). Completes occupied last es tr x a) v c, (untaken_is a).0 m)

        go : Fate a → Either u a
        go (inl (w, c, q)) = assigned w c (taken a) refl (sym q ∙ e)
        go (inr (n, inl (w, k, r, q))) = zero_is_one (cc (q, e))
        go (inr (n, inr (m, q))) = let k : held_at before.slots a ≡ Bound u = sym q ∙ e in inr (k, m u k, n)

    pub bound_either : (a : ℕ) (u : Udid) → Either u a → later a ≡ Bound u
    bound_either a u (inl (c, f)) = go (fate a)
      where
        go : Fate a → later a ≡ Bound u
        go (inl (w, d, q)) =
            let v : w ≡ u = same_assign (sym d.0 ∙ c.0) in
            q ∙ ap (λ (t : Bool). pick t Claimed (Bound w)) ((untaken_is a).1 f) ∙ ap Bound v
        go (inr (n, x)) = absurd (n u c)
    bound_either a u (inr (k, r, n)) = go (fate a)
      where
        go : Fate a → later a ≡ Bound u
        go (inl (w, c, q)) = absurd (n w c)
        go (inr (m, inl (w, l, p, q))) = let v : w ≡ u = same_bound (sym l ∙ k) in absurd (r (subst (λ (x : Udid). RepliedBy occupied last es tr x) v p))
        go (inr (m, inr (l, q))) = q ∙ k

    -- ---- an address of which an Assign completes

    -- barred, or another target was bound there, or two claimed it already
    abbrev Contested : Udid → ℕ → Type 0
    Contested u a = (member (barred_pool occupied) a ≡ true) ⊎ (((w : Udid) × (w ≡ u → ⊥) × (held_at before.slots a ≡ Bound w)) ⊎ (held_at before.slots a ≡ Claimed))

    contested_makes_claim : (u : Udid) (a : ℕ) → Contested u a → taken a ≡ true
    contested_makes_claim u a (inl e) = barred_makes_claim occupied (held_at before.slots a) a e
    contested_makes_claim u a (inr (inl (w, n, k))) = held_makes_claim occupied (held_at before.slots a) a (ap is_held k)
    contested_makes_claim u a (inr (inr k)) = held_makes_claim occupied (held_at before.slots a) a (ap is_held k)

    taken_is_contested : (u : Udid) (a : ℕ) → Unbound u before.slots → taken a ≡ true → Contested u a
    taken_is_contested u a n e = go (member (barred_pool occupied) a) refl (held_at before.slots a) refl e
      where
        other : (w : Udid) → held_at before.slots a ≡ Bound w → w ≡ u → ⊥
        other w k q = zero_is_one (cc (n a, ap (bound_to u) (k ∙ ap Bound q), same_refl u))

        go : (t : Bool) → member (barred_pool occupied) a ≡ t → (x : Binding) → held_at before.slots a ≡ x → or t (is_held x) ≡ true → Contested u a
        go true m x k z = inl m
        go false m Open k z = zero_is_one (cc z)
        go false m (Bound w) k z = inr (inl (w, other w k, k))
        go false m Claimed k z = inr (inr k)
        go false m Left k z = zero_is_one (cc z)

    -- IT LEAVES A CLAIM exactly if the address is barred, or another was bound there, or two claimed it already
    pub claims_exactly : (u : Udid) (a : ℕ) → Completes occupied last es tr u a → (later a ≡ Claimed) ↔ Contested u a
    claims_exactly u a c = (λ e. taken_is_contested u a (pending tr u a c.0).unbound (there (fate a) e), λ w. back (fate a) (contested_makes_claim u a w))
      where
        was : (w : Udid) (t : Bool) → taken a ≡ t → pick t Claimed (Bound w) ≡ Claimed → taken a ≡ true
        was w true m z = m
        was w false m z = zero_is_one (cc z)

        there : Fate a → later a ≡ Claimed → taken a ≡ true
        there (inl (w, d, q)) e = was w (taken a) refl (sym q ∙ e)
        there (inr (n, x)) e = absurd (n u c)

        back : Fate a → taken a ≡ true → later a ≡ Claimed
        back (inl (w, d, q)) t = q ∙ ap (λ (b : Bool). pick b Claimed (Bound w)) t
        back (inr (n, x)) t = absurd (n u c)

    -- two claim it still
    claimed_then : (a : ℕ) → held_at before.slots a ≡ Claimed → later a ≡ Claimed
    claimed_then a e = go (fate a)
      where
        go : Fate a → later a ≡ Claimed
        go (inl (w, c, q)) = q ∙ ap (λ (t : Bool). pick t Claimed (Bound w)) (ap (λ (x : Binding). or (member (barred_pool occupied) a) (is_held x)) e ∙ or_last (member (barred_pool occupied) a))
        go (inr (n, inl (u, k, r, q))) = zero_is_one (cc (k, e))
        go (inr (n, inr (m, q))) = q ∙ e

    -- ---- an address that is left

    left_then : (a : ℕ) → later a ≡ Left → (held_at before.slots a ≡ Left) × ((w : Udid) → Completes occupied last es tr w a → ⊥)
    left_then a e = go (fate a)
      where
        assigned : (w : Udid) (t : Bool) → pick t Claimed (Bound w) ≡ Left → (held_at before.slots a ≡ Left) × ((w : Udid) → Completes occupied last es tr w a → ⊥)
        assigned w true z = zero_is_one (cc z)
        assigned w false z = zero_is_one (cc z)

        go : Fate a → (held_at before.slots a ≡ Left) × ((w : Udid) → Completes occupied last es tr w a → ⊥)
        go (inl (w, c, q)) = assigned w (taken a) (sym q ∙ e)
        go (inr (n, inl (w, k, r, q))) = zero_is_one (cc (q, e))
        go (inr (n, inr (m, q))) = (sym q ∙ e, n)

    left_stays : (a : ℕ) → held_at before.slots a ≡ Left → ((w : Udid) → Completes occupied last es tr w a → ⊥) → later a ≡ Left
    left_stays a l n = go (fate a)
      where
        go : Fate a → later a ≡ Left
        go (inl (w, c, q)) = absurd (n w c)
        go (inr (m, inl (w, k, r, q))) = zero_is_one (cc (l, k))
        go (inr (m, inr (k, q))) = q ∙ l

  -- ---- a report

  module _ (b a : ℕ) where
    -- what the address a is known for after the report of b: left where b is a, and a target is bound there
    held_reported : held_at (run occupied last (Gone b ∷ es)).slots a ≡ pick (and (eqb a b) (is_bound (held_at before.slots a))) Left (held_at before.slots a)
    held_reported = held_after (Gone b) a

    -- the report of a was answered 0
    abbrev Taken : Type 0
    Taken = (b ≡ a) × Removed occupied last es b

    taken_test : Dec (a ≡ b) → (t : Bool) → is_bound (held_at before.slots a) ≡ t → (Taken × (and (eqb a b) (is_bound (held_at before.slots a)) ≡ true)) ⊎ ((Taken → ⊥) × (and (eqb a b) (is_bound (held_at before.slots a)) ≡ false))
    taken_test (yes d) true k =
        inl ((sym d, (answered_0 before b).1 (ap (λ (x : ℕ). is_bound (held_at before.slots x)) (sym d) ∙ k)), ap₂ and (eq-eqb a b d) k)
    taken_test (yes d) false k =
        inr (
          λ t. zero_is_one (cc ((answered_0 before b).0 t.1, ap (λ (x : ℕ). is_bound (held_at before.slots x)) t.0, k)),
          ap₂ and (eq-eqb a b d) k,
        )
    taken_test (no d) t k = inr (λ z. d (sym z.0), ap (λ (x : Bool). and x (is_bound (held_at before.slots a))) (ne_eqb a b d))

    abbrev TakenOrNot : Type 0
    TakenOrNot = (Taken × (held_at (run occupied last (Gone b ∷ es)).slots a ≡ Left)) ⊎ ((Taken → ⊥) × (held_at (run occupied last (Gone b ∷ es)).slots a ≡ held_at before.slots a))

    taken_or_not : TakenOrNot
    taken_or_not = go (taken_test (ℕ_discrete a b) (is_bound (held_at before.slots a)) refl)
      where
        go : (Taken × (and (eqb a b) (is_bound (held_at before.slots a)) ≡ true)) ⊎ ((Taken → ⊥) × (and (eqb a b) (is_bound (held_at before.slots a)) ≡ false)) → TakenOrNot
        go (inl (t, q)) = inl (t, held_reported ∙ ap (λ (x : Bool). pick x Left (held_at before.slots a)) q)
        go (inr (n, q)) = inr (n, held_reported ∙ ap (λ (x : Bool). pick x Left (held_at before.slots a)) q)

-- ---- EVERY RUN of starts, traces, reports, issues and declines

none_held : (occupied : Pool) (last a : ℕ) → held_at (run occupied last []).slots a ≡ Open
unfolding run
none_held occupied last a = open_all a

none_held_at_start : (occupied : Pool) (last : ℕ) (es : List Event) (a : ℕ) → held_at (run occupied last (Start ∷ es)).slots a ≡ Open
unfolding run
none_held_at_start occupied last es a = open_all a

-- an event that changes no address
unchanged : (occupied : Pool) (last : ℕ) (es : List Event) (e : Event) (x : Binding) (a : ℕ) → happened occupied last es e ≡ Other → {P : Type 0} → (held_at (run occupied last es).slots a ≡ x) ↔ P
    → (held_at (run occupied last (e ∷ es)).slots a ≡ x) ↔ P
unchanged occupied last es e x a o ih =
    let q : held_at (run occupied last (e ∷ es)).slots a ≡ held_at (run occupied last es).slots a =
    held_after occupied last es e a ∙ ap (λ (y : Happened). (after occupied y (view (run occupied last es))).held a) o in
    (λ k. ih.0 (sym q ∙ k), λ p. q ∙ ih.1 p)

-- A CLAIM STAYS for the rest of the pass, whatever is received, reported, issued and declined
pub claim_stays : (occupied : Pool) (last : ℕ) (es later : List Event) → NoStart later → (a : ℕ) → held_at (run occupied last es).slots a ≡ Claimed
    → held_at (run occupied last (later ++ es)).slots a ≡ Claimed
claim_stays occupied last es [] n a e = e
claim_stays occupied last es (Start ∷ later) n a e = absurd n
claim_stays occupied last es (Received by tr ∷ later) n a e = claimed_then occupied last (later ++ es) by tr a (claim_stays occupied last es later n a e)
claim_stays occupied last es (Issue ∷ later) n a e = held_after occupied last (later ++ es) Issue a ∙ claim_stays occupied last es later n a e
claim_stays occupied last es (Decline ∷ later) n a e = held_after occupied last (later ++ es) Decline a ∙ claim_stays occupied last es later n a e
claim_stays occupied last es (Gone b ∷ later) n a e = go (taken_or_not occupied last (later ++ es) b a) (claim_stays occupied last es later n a e)
  where
    go : TakenOrNot occupied last (later ++ es) b a → held_at (run occupied last (later ++ es)).slots a ≡ Claimed → held_at (run occupied last (Gone b ∷ (later ++ es))).slots a ≡ Claimed
    go (inl (t, l)) k = zero_is_one (cc ((answered_0 (run occupied last (later ++ es)) b).0 t.1, ap (λ (x : ℕ). is_bound (held_at (run occupied last (later ++ es)).slots x)) t.0, ap is_bound k))
    go (inr (n, l)) k = l ∙ k

-- a target is bound there exactly if an Assign completed, and nothing that unbinds it came since
pub bound_since : (occupied : Pool) (last : ℕ) (es : List Event) (u : Udid) (a : ℕ) → (held_at (run occupied last es).slots a ≡ Bound u) ↔ BoundSince occupied last es u a
unfolding BoundSince
bound_since occupied last [] u a = (λ e. zero_is_one (cc (none_held occupied last a, e)), λ b. absurd b)
bound_since occupied last (Start ∷ es) u a = (λ e. zero_is_one (cc (none_held_at_start occupied last es a, e)), λ b. absurd b)
bound_since occupied last (Issue ∷ es) u a = unchanged occupied last es Issue (Bound u) a refl (bound_since occupied last es u a)
bound_since occupied last (Decline ∷ es) u a = unchanged occupied last es Decline (Bound u) a refl (bound_since occupied last es u a)
bound_since occupied last (Received by tr ∷ es) u a = (
  λ e. there (bound_since occupied last es u a).0 (bound_then occupied last es by tr a u e),
  λ b. bound_either occupied last es by tr a u (back (bound_since occupied last es u a).1 b),
)
  where
    Now : Type 0
    Now = Completes occupied last es tr u a × Untaken occupied last es a

    there : (held_at (run occupied last es).slots a ≡ Bound u → BoundSince occupied last es u a) → Either occupied last es by tr u a
        → Now ⊎ (BoundSince occupied last es u a × (RepliedBy occupied last es tr u → ⊥) × ((w : Udid) → Completes occupied last es tr w a → ⊥))
    there ih (inl c) = inl c
    there ih (inr (k, r, n)) = inr (ih k, r, n)

    back : (BoundSince occupied last es u a → held_at (run occupied last es).slots a ≡ Bound u)
        → Now ⊎ (BoundSince occupied last es u a × (RepliedBy occupied last es tr u → ⊥) × ((w : Udid) → Completes occupied last es tr w a → ⊥)) → Either occupied last es by tr u a
    back ih (inl c) = inl c
    back ih (inr (k, r, n)) = inr (ih k, r, n)
bound_since occupied last (Gone b ∷ es) u a = go (bound_since occupied last es u a) (taken_or_not occupied last es b a)
  where
    go : (held_at (run occupied last es).slots a ≡ Bound u) ↔ BoundSince occupied last es u a → TakenOrNot occupied last es b a
        → (held_at (run occupied last (Gone b ∷ es)).slots a ≡ Bound u) ↔ (BoundSince occupied last es u a × (Taken occupied last es b a → ⊥))
    go ih (inl (t, l)) = (λ e. zero_is_one (cc (l, e)), λ s. absurd (s.1 t))
    go ih (inr (n, l)) = (λ e. (ih.0 (sym l ∙ e), n), λ s. l ∙ ih.1 s.0)

-- an address is left exactly if a report of it was answered 0, and no Assign of it completed since
pub left_since : (occupied : Pool) (last : ℕ) (es : List Event) (a : ℕ) → (held_at (run occupied last es).slots a ≡ Left) ↔ LeftSince occupied last es a
unfolding LeftSince
left_since occupied last [] a = (λ e. zero_is_one (cc (none_held occupied last a, e)), λ b. absurd b)
left_since occupied last (Start ∷ es) a = (λ e. zero_is_one (cc (none_held_at_start occupied last es a, e)), λ b. absurd b)
left_since occupied last (Issue ∷ es) a = unchanged occupied last es Issue Left a refl (left_since occupied last es a)
left_since occupied last (Decline ∷ es) a = unchanged occupied last es Decline Left a refl (left_since occupied last es a)
left_since occupied last (Received by tr ∷ es) a = (
  λ e. (let w = left_then occupied last es by tr a e in ((left_since occupied last es a).0 w.0, w.1)),
  λ s. left_stays occupied last es by tr a ((left_since occupied last es a).1 s.0) s.1,
)
left_since occupied last (Gone b ∷ es) a = go (left_since occupied last es a) (taken_or_not occupied last es b a)
  where
    other : (Taken occupied last es b a → ⊥) → Taken occupied last es b a ⊎ LeftSince occupied last es a → LeftSince occupied last es a
    other n (inl t) = absurd (n t)
    other n (inr s) = s

    go : (held_at (run occupied last es).slots a ≡ Left) ↔ LeftSince occupied last es a → TakenOrNot occupied last es b a
        → (held_at (run occupied last (Gone b ∷ es)).slots a ≡ Left) ↔ (Taken occupied last es b a ⊎ LeftSince occupied last es a)
    go ih (inl (t, l)) = (λ e. inl t, λ s. l)
    go ih (inr (n, l)) = (λ e. inr (ih.0 (sym l ∙ e)), λ s. l ∙ ih.1 (other n s))

-- LOOKUP'S 0 WITH u, over any run
pub lookup_0_since : (occupied : Pool) (last : ℕ) (es : List Event) (u : Udid) (a : ℕ) → (lookup_number (looked_up (run occupied last es) a) ≡ (0, u ∷ [])) ↔ BoundSince occupied last es u a
lookup_0_since occupied last es u a = (
  λ e. (bound_since occupied last es u a).0 ((lookup_0 (run occupied last es) a u).0 e).1,
  λ s. (let k = (bound_since occupied last es u a).1 s in (lookup_0 (run occupied last es) a u).1 (bound_small (run occupied last es).slots a u k, k)),
)

-- LOOKUP'S 20, over any run
pub lookup_20_since : (occupied : Pool) (last : ℕ) (es : List Event) (a : ℕ) → (lookup_number (looked_up (run occupied last es) a) ≡ (20, [])) ↔ LeftSince occupied last es a
lookup_20_since occupied last es a = (
  λ e. (left_since occupied last es a).0 ((lookup_20 (run occupied last es) a).0 e).1,
  λ s. (let k = (left_since occupied last es a).1 s in (lookup_20 (run occupied last es) a).1 (left_small (run occupied last es).slots a k, k)),
)

-- ---- an address that was taken back

module _ (occupied : Pool) (last : ℕ) (es : List Event) (a : ℕ) (r : Removed occupied last es a) where
  left_now : held_at (run occupied last (Gone a ∷ es)).slots a ≡ Left
  unfolding LeftSince
  left_now = (left_since occupied last (Gone a ∷ es) a).1 (inl (refl, r))

  -- IT IS FREE, so it can be picked again, unless the starting pool has it
  pub free_after_report : member (run occupied last (Gone a ∷ es)).pool a ≡ member (starting_pool occupied) a
  free_after_report = (reached_invariant occupied last (Gone a ∷ es)).left_free a left_now

  -- AN ASSIGN OF IT THAT WAS OUTSTANDING GOES ON: when it completes its target is bound there, and nobody claims it
  pub bound_after_report : (by : By) (tr : List ℕ) (u : Udid) → Completes occupied last (Gone a ∷ es) tr u a → lookup_number (looked_up (run occupied last (Received by tr ∷ Gone a ∷ es)) a) ≡ (0, u ∷ [])
  unfolding BoundSince
  bound_after_report by tr u c = (lookup_0_since occupied last (Received by tr ∷ Gone a ∷ es) u a).1 (inl (c, (unbarred (which_bound (held_at (run occupied last es).slots a) ((answered_0 (run occupied last es) a).0 r)), inr left_now)))
    where
      unbarred : (w : Udid) × (held_at (run occupied last es).slots a ≡ Bound w) → member (barred_pool occupied) a ≡ false
      unbarred (w, k) = (reached_invariant occupied last es).bound_unbarred a w k
