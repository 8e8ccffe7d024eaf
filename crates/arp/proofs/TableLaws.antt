-- Each step changes what is bound and what the pool has as its event says. So in every state that is reached these are what the table of the
-- events says (specs/Replay.antt).
use Rattle.std.specs.Prelude.{ℕ, ◌<◌, ◌≡◌, Bool, true, false, List, [], ◌∷◌, ◌⊎◌, ltb, leb, eqb, get_or, Option, Some, None, Ok, Err}
use Rattle.std.proofs.Math.Path.{refl, ap, fun_ext}
use Rattle.std.proofs.Common.{sym, ap₂, ◌∙◌, inl, inr, arith, lt-ltb, le-ltb, eq-eqb, ne_eqb}
use Rattle.std.proofs.Math.Decide.{ℕ_discrete, dec_lt}
use Rattle.lists.specs.Choice.{pick, and}
use Rattle.lists.specs.ChoiceLaws.{and_none}
use Rattle.trace.specs.declared.transaction.Transaction.{Transaction}
use Rattle.scan.specs.Numbers.{is_nack}
use Rattle.scan.specs.Decoded.{Decoded}
use Rattle.pool.specs.MemberLaws.{has_with_same, has_with_other, has_without_same, has_without_other}
use Rattle.pool.specs.Pools.{member, with_address, without_address}
use Rattle.pool.specs.Start.{starting_pool}
use Rattle.pool.specs.declared.Pool.{Pool}
use Rattle.udid.specs.Bytes.{udid_at}
use Rattle.udid.specs.declared.Udid.{Udid}
use Rattle.arp.specs.Gone.{left_at, reported}
use Rattle.arp.proofs.GoneLaws.{which_bound, bound_small, nothing_reported, removed}
use Rattle.arp.proofs.HistoryLaws.{reached_good}
use Rattle.arp.specs.declared.gone.Reported.{Reported}
use Rattle.arp.proofs.LookupLaws.{lookup_number_lem}
use Rattle.arp.proofs.OutstandingLaws.{last_is_handed_out}
use Rattle.arp.proofs.ReadingLaws.{is_assign_below_128}
use Rattle.arp.proofs.SoundLaws.{bound_to_is_bound, find_cases}
use Rattle.slots.proofs.SlotsLaws.{held_above_is_open, held_same, held_other, open_all}
use Rattle.arp.specs.Sound.{SoundIn, Nowhere, PendingIn}
use Rattle.arp.specs.Bindings.{vacated, freed_at, freed, bound_at, bound}
use Rattle.picking.specs.Claims.{makes_claim, binding_for}
use Rattle.slots.specs.Finding.{bound_to, find_from}
use Rattle.slots.specs.Slots.{Sized128, held_at, with_binding}
use Rattle.arp.specs.Controller.{new_controller, started, handed, counted, asked, issued, replied, stepped, changed}
use Rattle.picking.specs.Picking.{has_to_pick, chosen}
use Rattle.hearing.specs.Heard.{answer, sent_in, received_in, is_prepare, is_get, is_assign}
use Rattle.commands.specs.Codes.{send_byte, block_read, block_write}
use Rattle.arp.specs.Choosing.{issuing, declining}
use Rattle.arp.proofs.ChoosingLaws.{same_but_last}
use Rattle.arp.proofs.HandingLaws.{Settles, issue_rest, decline_rest}
use Rattle.arp.specs.History.{Step, Event, Start, Received, Gone, Issue, Decline, run}
use Rattle.arp.specs.Lookup.{looked_up}
use Rattle.arp.specs.Numbers.{lookup_number}
use Rattle.arp.specs.Replay.{Replied, Assigned, Pulled, Other, Table, holds, is_bound, emptied, after, reply_in, assign_in, read_as, handed_out, happened, table, number_of, view}
use Rattle.commands.specs.declared.command.Command.TheVariants.{Prepare, GetUdid, Assign}
use Rattle.commands.specs.declared.command.End.TheVariants.{Abandoned}
use Rattle.commands.specs.declared.command.Handed.{Handed}
use Rattle.commands.specs.declared.command.Handed.TheVariants.{Send, Wait}
use Rattle.slots.specs.declared.Binding.{Binding}
use Rattle.slots.specs.declared.Slots.{Slots}
use Rattle.slots.specs.declared.Binding.TheVariants.{Open, Bound, Claimed, Left}
use Rattle.arp.specs.declared.state.Controller.{Controller}
use Rattle.hearing.specs.Told.{told_prepare, told_reply, told_get, told_assign, tells}
use Rattle.hearing.specs.declared.told.Told.TheVariants.{Again, Over, GivenUp, Reply, Took}
use Rattle.wire.specs.declared.address.Address.{Address}

tables : (t r : Table) → ((a : ℕ) → t.held a ≡ r.held a) → ((a : ℕ) → t.used a ≡ r.used a) → t ≡ r
tables t r h u = ap₂ (λ (x : ℕ → Binding) (y : ℕ → Bool). record { held = x; used = y }) (fun_ext h) (fun_ext u)

pub holds_is : (u : Udid) (h : Binding) → holds u h ≡ bound_to u h
holds_is u Open = refl
holds_is u (Bound v) = refl
holds_is u Claimed = refl
holds_is u Left = refl

-- ---- what leaves the table as it is

asked_view : (s : Controller) → view (asked s).state ≡ view s
unfolding asked
asked_view s = go (leb 128 s.gets)
  where
    go : (b : Bool) → view (pick b (handed s (Wait Abandoned)) (handed (counted s) (Send GetUdid))).state ≡ view s
    go true = refl
    go false = refl

issued_view : (s : Controller) (u : Udid) (picks : Bool) (k : Option Address) → view (issued s u picks k).state ≡ view s
issued_view s u picks (Some a) = refl
issued_view s u picks None = refl

-- ---- an address to which nobody is bound any more

-- it alone passes the test
module _ (s : Controller) (l : Sized128 s.slots) (f : ℕ) (h : f < 128) (test : ℕ → Bool) (there : test f ≡ true) (elsewhere : (a : ℕ) → (a ≡ f → ⊥) → test a ≡ false) (x : Binding) where
  at_f : (a : ℕ) → a ≡ f → test a ≡ true
  at_f a q = ap test q ∙ there

  vacated_held : (a : ℕ) → Dec (a ≡ f) → held_at (with_binding s.slots f x) a ≡ pick (test a) x (held_at s.slots a)
  vacated_held a (yes q) =
      ap (held_at (with_binding s.slots f x)) q ∙ held_same s.slots f x l h
      ∙ ap (λ (b : Bool). pick b x (held_at s.slots a)) (sym (at_f a q))
  vacated_held a (no n) = held_other s.slots f a x n ∙ ap (λ (b : Bool). pick b x (held_at s.slots a)) (sym (elsewhere a n))

  -- what the pool has then, by the test
  abbrev then : ℕ → Bool → Bool
  then a b = pick b (and (member (starting_pool s.occupied) a) (member s.pool a)) (member s.pool a)

  vacated_used : (a : ℕ) → Dec (a ≡ f) → (t : Bool) → member (starting_pool s.occupied) f ≡ t → member (pick t s.pool (without_address s.pool f)) a ≡ then a (test a)
  vacated_used a (yes q) true k = sym (ap (then a) (at_f a q) ∙ ap (λ (b : Bool). and b (member s.pool a)) (ap (member (starting_pool s.occupied)) q ∙ k))
  vacated_used a (yes q) false k =
      ap (member (without_address s.pool f)) q ∙ has_without_same s.pool f
      ∙ sym (ap (then a) (at_f a q) ∙ ap (λ (b : Bool). and b (member s.pool a)) (ap (member (starting_pool s.occupied)) q ∙ k))
  vacated_used a (no n) true k = sym (ap (then a) (elsewhere a n))
  vacated_used a (no n) false k = has_without_other s.pool f a n ∙ sym (ap (then a) (elsewhere a n))

  vacated_view : view (vacated s f x) ≡ record { held = λ a. pick (test a) x (held_at s.slots a); used = λ a. then a (test a) }
  vacated_view =
      tables (view (vacated s f x)) (record { held = λ a. pick (test a) x (held_at s.slots a); used = λ a. then a (test a) })
      (λ a. vacated_held a (ℕ_discrete a f)) (λ a. vacated_used a (ℕ_discrete a f) (member (starting_pool s.occupied) f) refl)

-- ---- a reply

module _ (s : Controller) (v : SoundIn s) (u : Udid) where
  -- bound nowhere: nothing changes
  none_held : Nowhere u s.slots 0 → (a : ℕ) → holds u (held_at s.slots a) ≡ false
  none_held n a = holds_is u (held_at s.slots a) ∙ go (dec_lt a 128)
    where
      go : Dec (a < 128) → bound_to u (held_at s.slots a) ≡ false
      go (yes h) = n a (omega arith) h
      go (no h) = ap (bound_to u) (held_above_is_open s.slots a (omega arith))

  reply_none : Nowhere u s.slots 0 → view s ≡ after s.occupied (Replied u) (view s)
  reply_none n = tables (view s) (after s.occupied (Replied u) (view s))
      (λ a. ap (λ (b : Bool). pick b Open (held_at s.slots a)) (sym (none_held n a)))
      (λ a. ap (λ (b : Bool). pick b (and (member (starting_pool s.occupied) a) (member s.pool a)) (member s.pool a)) (sym (none_held n a)))

  module _ (f : ℕ) (h : f < 128) (e : bound_to u (held_at s.slots f) ≡ true) where
    here : held_at s.slots f ≡ Bound u
    here = bound_to_is_bound u (held_at s.slots f) e

    there : (a : ℕ) → (a ≡ f → ⊥) → holds u (held_at s.slots a) ≡ false
    there a n = go (holds u (held_at s.slots a)) refl
      where
        go : (b : Bool) → holds u (held_at s.slots a) ≡ b → holds u (held_at s.slots a) ≡ false
        go false q = q
        go true q = absurd (n (v.once a f u (bound_to_is_bound u (held_at s.slots a) (sym (holds_is u (held_at s.slots a)) ∙ q)) here))

    reply_there : view (freed_at s f) ≡ after s.occupied (Replied u) (view s)
    reply_there = vacated_view s v.size f h (λ a. holds u (held_at s.slots a)) (holds_is u (held_at s.slots f) ∙ e) there Open

  pub freed_as_replied : view (freed s u) ≡ after s.occupied (Replied u) (view s)
  unfolding freed
  freed_as_replied = go (find_from u s.slots 128 0) (find_cases u s.slots 128 0 (omega arith))
    where
      go : (f : ℕ) → ((f ≡ 128) × Nowhere u s.slots 0) ⊎ ((f < 128) × (bound_to u (held_at s.slots f) ≡ true))
          → view (pick (ltb 127 f) s (freed_at s f)) ≡ after s.occupied (Replied u) (view s)
      go f (inl r) = ap (λ (b : Bool). view (pick b s (freed_at s f))) (lt-ltb 127 f (omega (arith, r.0))) ∙ reply_none r.1
      go f (inr r) = ap (λ (b : Bool). view (pick b s (freed_at s f))) (le-ltb 127 f (omega (arith, r.0))) ∙ reply_there f r.0 r.1

  replied_view : (b : ℕ) → view (replied s u b).state ≡ after s.occupied (Replied u) (view s)
  unfolding replied
  replied_view b = issued_view (freed s u) u (has_to_pick (freed s u).pool u b) (chosen (freed s u).pool (freed s u).picked u b) ∙ freed_as_replied

-- ---- a complete Assign

module _ (s : Controller) (u : Udid) (b : ℕ) (l : Sized128 s.slots) (h : b < 128) where
  abbrev taken : Bool
  taken = makes_claim s.occupied (held_at s.slots b) b

  held_bound : (a : ℕ) → Dec (a ≡ b) → held_at (with_binding s.slots b (binding_for taken u)) a ≡ pick (eqb a b) (pick taken Claimed (Bound u)) (held_at s.slots a)
  held_bound a (yes q) =
      ap (held_at (with_binding s.slots b (binding_for taken u))) q
      ∙ held_same s.slots b (binding_for taken u) l h
      ∙ ap (λ (x : Bool). pick x (pick taken Claimed (Bound u)) (held_at s.slots a)) (sym (eq-eqb a b q))
  held_bound a (no n) =
      held_other s.slots b a (binding_for taken u) n
      ∙ ap (λ (x : Bool). pick x (pick taken Claimed (Bound u)) (held_at s.slots a)) (sym (ne_eqb a b n))

  used_bound : (a : ℕ) → Dec (a ≡ b) → member (with_address s.pool b) a ≡ pick (eqb a b) true (member s.pool a)
  used_bound a (yes q) =
      ap (member (with_address s.pool b)) q ∙ has_with_same s.pool b h
      ∙ ap (λ (x : Bool). pick x true (member s.pool a)) (sym (eq-eqb a b q))
  used_bound a (no n) = has_with_other s.pool b a n ∙ ap (λ (x : Bool). pick x true (member s.pool a)) (sym (ne_eqb a b n))

  bound_view : view (bound s u b) ≡ after s.occupied (Assigned u b) (view s)
  unfolding bound
  bound_view =
      ap (λ (x : Bool). view (pick x s (bound_at s u b))) (le-ltb 127 b (omega arith))
      ∙ tables (view (bound_at s u b)) (after s.occupied (Assigned u b) (view s)) (λ a. held_bound a (ℕ_discrete a b)) (λ a. used_bound a (ℕ_discrete a b))

-- ---- each trace

module _ (s : Controller) (v : SoundIn s) where
  prepare_view : (d : Decoded) (xs : List ℕ) → view (changed s (told_prepare d xs)).state ≡ view s
  prepare_view (Ok t) xs = go (is_prepare t xs)
    where
      go : (q : Bool) → view (changed s (pick q Again GivenUp)).state ≡ view s
      go true = asked_view s
      go false = refl
  prepare_view (Err e) xs = go (is_nack e.why)
    where
      go : (q : Bool) → view (changed s (pick q Over GivenUp)).state ≡ view s
      go true = refl
      go false = refl

  reply_view : (t : Transaction) (xs : List ℕ) → view (changed s (told_reply t xs)).state ≡ after s.occupied (reply_in (Ok t) xs) (view s)
  reply_view t xs = go (is_get t) (eqb t.received 17)
    where
      go : (p q : Bool) → view (changed s (pick p (pick q (Reply (udid_at xs 0) (get_or xs 16 0)) Over) Again)).state
          ≡ after s.occupied (pick p (pick q (Replied (udid_at xs 0)) Other) Other) (view s)
      go true true = replied_view s v (udid_at xs 0) (get_or xs 16 0)
      go true false = refl
      go false q = asked_view s

  get_view : (d : Decoded) (xs : List ℕ) → view (changed s (told_get d xs)).state ≡ after s.occupied (reply_in d xs) (view s)
  get_view (Ok t) xs = reply_view t xs
  get_view (Err e) xs = go (and (is_nack e.why) (ltb e.place 3))
    where
      go : (q : Bool) → view (changed s (pick q Over Again)).state ≡ view s
      go true = refl
      go false = asked_view s

  module _ (u : Udid) (n : ℕ) (h : n < 128) where
    assign_view : (d : Decoded) (xs : List ℕ) → view (changed s (told_assign u (record { 0 = n }) d xs)).state ≡ after s.occupied (assign_in u n d xs) (view s)
    assign_view (Ok t) xs =
        go (is_assign u n t xs) ∙ ap (λ (q : Bool). after s.occupied (pick q (Assigned u n) Other) (view s)) (is_assign_below_128 u n h t xs)
      where
        go : (q : Bool) → view (changed s (pick q (Took u (record { 0 = n })) Again)).state ≡ after s.occupied (pick q (Assigned u n) Other) (view s)
        go true = asked_view (bound s u n) ∙ bound_view s u n v.size h
        go false = asked_view s
    assign_view (Err e) xs = asked_view s

  step_view : PendingIn s s.last → (tr : List ℕ) → view (stepped s tr).state ≡ after s.occupied (read_as s.last tr) (view s)
  unfolding stepped
  step_view p tr = go s.last p
    where
      go : (k : Handed) → PendingIn s k → view (changed s (tells k tr)).state ≡ after s.occupied (read_as k tr) (view s)
      go (Send Prepare) q = prepare_view (answer send_byte tr) (sent_in send_byte tr)
      go (Send GetUdid) q = get_view (answer block_read tr) (received_in block_read tr)
      go (Send (Assign u a)) q = assign_view u a.0 q.small (answer block_write tr) (sent_in block_write tr)
      go (Wait e) q = refl

-- ---- a report

module _ (s : Controller) (b : ℕ) where
  -- the address that is reported, and a target is bound to it
  abbrev leaves : ℕ → Bool
  leaves a = and (eqb a b) (is_bound (held_at s.slots a))

  -- no target is bound there: nothing changes
  unbound_view : is_bound (held_at s.slots b) ≡ false → view s ≡ after s.occupied (Pulled b) (view s)
  unbound_view e = tables (view s) (after s.occupied (Pulled b) (view s))
      (λ a. ap (λ (t : Bool). pick t Left (held_at s.slots a)) (sym (not_there a (ℕ_discrete a b))))
      (λ a. ap (λ (t : Bool). pick t (and (member (starting_pool s.occupied) a) (member s.pool a)) (member s.pool a)) (sym (not_there a (ℕ_discrete a b))))
    where
      not_there : (a : ℕ) → Dec (a ≡ b) → leaves a ≡ false
      not_there a (yes q) = ap (and (eqb a b)) (ap (λ (x : ℕ). is_bound (held_at s.slots x)) q ∙ e) ∙ and_none (eqb a b)
      not_there a (no q) = ap (λ (t : Bool). and t (is_bound (held_at s.slots a))) (ne_eqb a b q)

  module _ (u : Udid) (e : held_at s.slots b ≡ Bound u) (l : Sized128 s.slots) where
    leaves_there : (a : ℕ) → a ≡ b → leaves a ≡ true
    leaves_there a q = ap₂ and (eq-eqb a b q) (ap (λ (x : ℕ). is_bound (held_at s.slots x)) q ∙ ap is_bound e)

    leaves_elsewhere : (a : ℕ) → (a ≡ b → ⊥) → leaves a ≡ false
    leaves_elsewhere a q = ap (λ (t : Bool). and t (is_bound (held_at s.slots a))) (ne_eqb a b q)

    left_view : view (left_at s b) ≡ after s.occupied (Pulled b) (view s)
    left_view = vacated_view s l b (bound_small s.slots b u e) leaves (leaves_there b refl) leaves_elsewhere Left

  report_view : Sized128 s.slots → view (reported s b).state ≡ after s.occupied (Pulled b) (view s)
  report_view l = go (is_bound (held_at s.slots b)) refl
    where
      at : (u : Udid) × (held_at s.slots b ≡ Bound u) → view (reported s b).state ≡ after s.occupied (Pulled b) (view s)
      at (u, e) = ap (λ (r : Reported). view r.state) (removed s b u e) ∙ left_view u e l

      go : (t : Bool) → is_bound (held_at s.slots b) ≡ t → view (reported s b).state ≡ after s.occupied (Pulled b) (view s)
      go true e = at (which_bound (held_at s.slots b) e)
      go false e = ap view (nothing_reported s b e) ∙ unbound_view e

-- ---- EVERY STATE

settled_view : (s t : Controller) → Settles s t → view t ≡ view s
settled_view s t r = ap₂ (λ (x : Slots) (p : Pool). record { held = held_at x; used = member p }) r.slots r.pool

-- each event changes what an address is known for, and the pool, as it says
pub event_view : (occupied : Pool) (last : ℕ) (es : List Event) (e : Event)
    → view (run occupied last (e ∷ es)) ≡ after occupied (happened occupied last es e) (view (run occupied last es))
unfolding run
event_view occupied last es Start =
    tables (view (started (run occupied last es)).state) (emptied occupied) open_all
    (λ a. ap (λ (o : Pool). member (starting_pool o) a) (reached_good occupied last es).0.occupies)
event_view occupied last es (Received w tr) =
    ap view (same_but_last w (run occupied last es) tr)
    ∙ step_view (run occupied last es) (reached_good occupied last es).0.sound (reached_good occupied last es).1 tr
    ∙ ap₂ (λ (o : Pool) (k : Handed). after o (read_as k tr) (view (run occupied last es))) (reached_good occupied last es).0.occupies (last_is_handed_out occupied last es)
event_view occupied last es Issue = settled_view (run occupied last es) (issuing (run occupied last es)).state (issue_rest (run occupied last es))
event_view occupied last es Decline = settled_view (run occupied last es) (declining (run occupied last es)).state (decline_rest (run occupied last es))
event_view occupied last es (Gone a) =
    report_view (run occupied last es) a (reached_good occupied last es).0.sound.size
    ∙ ap (λ (o : Pool). after o (Pulled a) (view (run occupied last es))) (reached_good occupied last es).0.occupies

-- by the whole step or by its first half, a trace changes what the whole step does
pub trace_view : (occupied : Pool) (last : ℕ) (es : List Event) (tr : List ℕ)
    → view (stepped (run occupied last es) tr).state ≡ after occupied (read_as (handed_out occupied last es) tr) (view (run occupied last es))
unfolding run
trace_view occupied last es tr = event_view occupied last es (Received Step tr)

pub view_is_table : (occupied : Pool) (last : ℕ) (es : List Event) → view (run occupied last es) ≡ table occupied last es
unfolding run table
view_is_table occupied last [] = tables (view (new_controller occupied last)) (emptied occupied) open_all (λ a. refl)
view_is_table occupied last (e ∷ es) = event_view occupied last es e ∙ ap (after occupied (happened occupied last es e)) (view_is_table occupied last es)

-- THE CONTROLLER BY ITS HISTORY: what each address is known for, and whether the pool has it, is what the events give
pub addresses_by_table : (occupied : Pool) (last : ℕ) (es : List Event) (a : ℕ)
    → (held_at (run occupied last es).slots a ≡ (table occupied last es).held a) × (member (run occupied last es).pool a ≡ (table occupied last es).used a)
addresses_by_table occupied last es a = (ap (λ (t : Table). t.held a) (view_is_table occupied last es), ap (λ (t : Table). t.used a) (view_is_table occupied last es))

-- in the scope's numbers: lookup answers 0 with the identifier, 15, 16 or 20 as the events give it
pub lookup_by_table : (occupied : Pool) (last : ℕ) (es : List Event) (a : ℕ) → a < 128 → lookup_number (looked_up (run occupied last es) a) ≡ number_of ((table occupied last es).held a)
lookup_by_table occupied last es a h = lookup_number_lem (run occupied last es) a h ∙ ap number_of (addresses_by_table occupied last es a).0
