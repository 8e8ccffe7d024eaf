-- Every state that starts, received traces, reports, issues and declines reach is sound, so the invariant of specs/History.antt holds in it; and what a new controller is.
use Rattle.std.specs.Prelude.{ℕ, ◌<◌, ◌≡◌, Bool, ltb, Option, Some, None}
use Rattle.std.proofs.Common.{inl, inr, sym, ap, ◌∙◌, subst, arith}
use Rattle.std.proofs.Math.Path.{refl}
use Rattle.std.proofs.Math.Bool.{true, false}
use mathlib.Core.List.{List, [], ◌∷◌}
use Rattle.std.proofs.Math.Dec.{leb}
use borrow.Author.Tests.{leb-false}
use Rattle.lists.specs.ChoiceLaws.{or_last, or_none}
use Rattle.arp.specs.Gone.{left_at, reported}
use Rattle.arp.proofs.GoneLaws.{which_bound, bound_small, nothing_reported, removed, sound_left, pending_left}
use Rattle.arp.specs.Replay.{is_bound}
use Rattle.lists.specs.AbsurdLaws.{zero_is_one}
use Rattle.lists.specs.Choice.{pick, or}
use Rattle.pool.specs.CountLaws.{count_split}
use Rattle.pool.specs.Free.{used}
use Rattle.pool.specs.Pools.{member}
use Rattle.pool.specs.Start.{starting_pool, barred_pool}
use Rattle.pool.specs.declared.Pool.{Pool}
use Rattle.udid.specs.Udids.{Fits, is_fixed}
use Rattle.udid.specs.declared.Udid.{Udid}
use Rattle.arp.specs.Choosing.{issued_for, issuing, declined_for, declining}
use Rattle.commands.specs.Choices.{choice_in}
use Rattle.arp.proofs.ChoosingLaws.{Halved, heard_halved}
use Rattle.picking.proofs.PickingLaws.{chosen_small_and_free}
use Rattle.arp.proofs.LastPickLaws.{last_pick_is, last_pick_above, last_pick_small}
use Rattle.arp.proofs.SoundLaws.{sound_open, sound_freed, sound_bound}
use Rattle.slots.proofs.SlotsLaws.{open_all}
use Rattle.arp.proofs.ChangedLaws.{by_told}
use Rattle.hearing.specs.ToldLaws.{Known}
use Rattle.arp.specs.Sound.{SoundIn, Good, Pending, PendingIn, GoodState}
use Rattle.arp.specs.Bindings.{freed_at, freed, bound_at, bound}
use Rattle.picking.specs.Claims.{is_held}
use Rattle.slots.specs.Finding.{find_from}
use Rattle.slots.specs.Slots.{held_at}
use Rattle.arp.specs.Controller.{new_controller, handed, counted, asked, issued, replied, changed, stepped}
use Rattle.picking.specs.Picking.{has_to_pick, chosen}
use Rattle.arp.specs.History.{By, Event, Start, Received, Gone, Issue, Decline, heard, run, Invariant, New}
use Rattle.commands.specs.declared.command.Command.TheVariants.{Prepare, GetUdid, Assign}
use Rattle.commands.specs.declared.command.End.TheVariants.{Nothing, Ended, NoneFree, Abandoned, NotOutstanding, Chosen}
use Rattle.commands.specs.declared.command.Handed.{Handed}
use Rattle.commands.specs.declared.command.Handed.TheVariants.{Send, Wait}
use Rattle.slots.specs.declared.Binding.{Binding}
use Rattle.slots.specs.declared.Binding.TheVariants.{Bound, Claimed}
use Rattle.arp.specs.declared.gone.Reported.{Reported}
use Rattle.arp.specs.State.{with_last}
use Rattle.arp.specs.declared.state.Controller.{Controller}
use Rattle.arp.specs.declared.state.Stepped.{Stepped}
use Rattle.hearing.specs.declared.told.Told.{Told}
use Rattle.hearing.specs.declared.told.Told.TheVariants.{Again, Over, GivenUp, Reply, Took, Unasked}
use Rattle.wire.specs.declared.address.Address.{Address}

-- ---- each function of the step keeps the state good

-- what is outstanding can be bound whatever is kept as the last
pending_kept : (s : Controller) (k : Handed) → PendingIn s k → PendingIn (with_last s k) k
pending_kept s (Send Prepare) p = tt
pending_kept s (Send GetUdid) p = tt
pending_kept s (Send (Assign u a)) p = record { small = p.small; unbound = p.unbound; fits = p.fits; free = p.free }
pending_kept s (Wait Nothing) p = tt
pending_kept s (Wait Ended) p = tt
pending_kept s (Wait (NoneFree u)) p = tt
pending_kept s (Wait Abandoned) p = tt
pending_kept s (Wait NotOutstanding) p = tt
pending_kept s (Wait (Chosen u a r)) p = record { small = p.small; unbound = p.unbound; fits = p.fits; free = p.free }

module _ (occupied : Pool) where
  good_asked : (s : Controller) → Good occupied s → GoodState occupied (asked s).state
  unfolding asked
  good_asked s g = go (leb 128 s.gets) refl
    where
      go : (t : Bool) → leb 128 s.gets ≡ t → GoodState occupied (pick t (handed s (Wait Abandoned)) (handed (counted s) (Send GetUdid))).state
      go true e = (record { sound = g.sound; gets = g.gets; occupies = g.occupies; picked = g.picked }, tt)
      go false e = (record { sound = g.sound; gets = (let l = leb-false 128 s.gets e in omega arith); occupies = g.occupies; picked = g.picked }, tt)

  good_ended : (s : Controller) → Good occupied s → GoodState occupied (handed s (Wait Ended)).state
  good_ended s g = (record { sound = g.sound; gets = g.gets; occupies = g.occupies; picked = g.picked }, tt)

  good_abandoned : (s : Controller) → Good occupied s → GoodState occupied (handed s (Wait Abandoned)).state
  good_abandoned s g = (record { sound = g.sound; gets = g.gets; occupies = g.occupies; picked = g.picked }, tt)

  -- unbinding and binding change the pool and the slots alone
  good_freed : (s : Controller) (u : Udid) → Good occupied s → Good occupied (freed s u)
  unfolding freed
  good_freed s u g = go (ltb 127 (find_from u s.slots 128 0)) (sound_freed s u g.sound).0
    where
      go : (t : Bool) → SoundIn (pick t s (freed_at s (find_from u s.slots 128 0))) → Good occupied (pick t s (freed_at s (find_from u s.slots 128 0)))
      go true v = g
      go false v = record { sound = v; gets = g.gets; occupies = g.occupies; picked = g.picked }

  good_bound : (s : Controller) (u : Udid) (a : ℕ) → Good occupied s → Pending s u a → Good occupied (bound s u a)
  unfolding bound
  good_bound s u a g p = go (ltb 127 a) (sound_bound s u a g.sound p.unbound p.fits p.small p.free)
    where
      go : (t : Bool) → SoundIn (pick t s (bound_at s u a)) → Good occupied (pick t s (bound_at s u a))
      go true v = g
      go false v = record { sound = v; gets = g.gets; occupies = g.occupies; picked = g.picked }

  good_replied : (s : Controller) (u : Udid) (b : ℕ) → Good occupied s → Fits u → b < 256 → GoodState occupied (replied s u b).state
  unfolding replied
  good_replied s u b g f h = go (chosen (freed s u).pool (freed s u).picked u b) refl
    where
      v : Good occupied (freed s u)
      v = good_freed s u g

      picks : Bool
      picks = has_to_pick (freed s u).pool u b

      either : (t : Bool) (a : ℕ) → a < 128 → pick t a (freed s u).picked < 128
      either true a l = l
      either false a l = v.picked

      go : (k : Option Address) → chosen (freed s u).pool (freed s u).picked u b ≡ k → GoodState occupied (issued (freed s u) u picks k).state
      go (Some a) e =
          let c = chosen_small_and_free (freed s u).pool (freed s u).picked u b a h e in
          (record { sound = v.sound; gets = v.gets; occupies = v.occupies; picked = either picks a.0 c.0 }, record { small = c.0; unbound = (sound_freed s u g.sound).1; fits = f; free = c.1 })
      go None e = (record { sound = v.sound; gets = v.gets; occupies = v.occupies; picked = v.picked }, tt)

  pub step_keeps_good : (s : Controller) (tr : List ℕ) → GoodState occupied s → GoodState occupied (stepped s tr).state
  unfolding stepped
  step_keeps_good s tr g = by_told (λ (t : Told). GoodState occupied (changed s t).state) s tr go
    where
      go : (t : Told) → Known s.last tr t → GoodState occupied (changed s t).state
      go Again h = good_asked s g.0
      go Over h = good_ended s g.0
      go GivenUp h = good_abandoned s g.0
      go (Reply u b) h = good_replied s u b g.0 h.0 h.1
      go (Took u a) h = good_asked (bound s u a.0) (good_bound s u a.0 g.0 (subst (PendingIn s) h.0 g.1))
      go Unasked h = g

  -- the first half alone keeps it good: an Assign that waits can be bound as one that is out
  half_good : (r q : Stepped) → Halved r q → GoodState occupied q.state → GoodState occupied r.state
  half_good r q (inl (e, n)) g = subst (λ (x : Stepped). GoodState occupied x.state) (sym e) g
  half_good r q (inr (u, a, x, e, f)) g =
      let p : Pending q.state u a.0 = subst (PendingIn q.state) (ap (λ (y : Stepped). y.state.last) f) g.1 in
      subst (λ (y : Stepped). GoodState occupied y.state) (sym e)
      (record { sound = g.0.sound; gets = g.0.gets; occupies = g.0.occupies; picked = g.0.picked }, record { small = p.small; unbound = p.unbound; fits = p.fits; free = p.free })

  pub heard_keeps_good : (w : By) (s : Controller) (tr : List ℕ) → GoodState occupied s → GoodState occupied (heard w s tr).state
  heard_keeps_good w s tr g = half_good (heard w s tr) (stepped s tr) (heard_halved w s tr) (step_keeps_good s tr g)

  -- a choice that waits is issued, or declined
  pub issue_keeps_good : (s : Controller) → GoodState occupied s → GoodState occupied (issuing s).state
  unfolding issuing
  issue_keeps_good s g = go s.last refl g.1
    where
      good : (k : Handed) → PendingIn s k → GoodState occupied (handed s k).state
      good k p = (record { sound = g.0.sound; gets = g.0.gets; occupies = g.0.occupies; picked = g.0.picked }, pending_kept s k p)

      go : (k : Handed) → s.last ≡ k → PendingIn s k → GoodState occupied (issued_for s (choice_in k)).state
      go (Send k) e p = g
      go (Wait Nothing) e p = g
      go (Wait Ended) e p = g
      go (Wait (NoneFree u)) e p = g
      go (Wait Abandoned) e p = g
      go (Wait NotOutstanding) e p = g
      go (Wait (Chosen u a r)) e p = good (Send (Assign u a)) p

  pub decline_keeps_good : (s : Controller) → GoodState occupied s → GoodState occupied (declining s).state
  unfolding declining
  decline_keeps_good s g = go (choice_in s.last)
    where
      go : (c : Option (Udid × Address)) → GoodState occupied (declined_for s c).state
      go (Some (u, a)) = good_abandoned s g.0
      go None = g

  -- a report changes an address alone, and what is outstanding stays so
  pending_then : (s : Controller) (w : Udid) (a : ℕ) → SoundIn s → held_at s.slots a ≡ Bound w → (k : Handed) → PendingIn s k → PendingIn (left_at s a) k
  pending_then s w a v e (Send Prepare) p = tt
  pending_then s w a v e (Send GetUdid) p = tt
  pending_then s w a v e (Send (Assign u n)) p = pending_left s u w n.0 a v e p
  pending_then s w a v e (Wait Nothing) p = tt
  pending_then s w a v e (Wait Ended) p = tt
  pending_then s w a v e (Wait (NoneFree u)) p = tt
  pending_then s w a v e (Wait Abandoned) p = tt
  pending_then s w a v e (Wait NotOutstanding) p = tt
  pending_then s w a v e (Wait (Chosen u n r)) p = pending_left s u w n.0 a v e p

  pub report_keeps_good : (s : Controller) (a : ℕ) → GoodState occupied s → GoodState occupied (reported s a).state
  report_keeps_good s a g = go (is_bound (held_at s.slots a)) refl
    where
      at : (w : Udid) × (held_at s.slots a ≡ Bound w) → GoodState occupied (reported s a).state
      at (w, e) =
          subst (λ (x : Controller). GoodState occupied x) (sym (ap (λ (r : Reported). r.state) (removed s a w e)))
          (record { sound = sound_left s a g.0.sound (bound_small s.slots a w e); gets = g.0.gets; occupies = g.0.occupies; picked = g.0.picked }, pending_then s w a g.0.sound e s.last g.1)

      go : (t : Bool) → is_bound (held_at s.slots a) ≡ t → GoodState occupied (reported s a).state
      go true e = at (which_bound (held_at s.slots a) e)
      go false e = subst (GoodState occupied) (sym (nothing_reported s a e)) g

  -- EVERY STATE
  pub reached_good : (last : ℕ) (es : List Event) → GoodState occupied (run occupied last es)
  unfolding run
  reached_good last [] = (record { sound = sound_open occupied; gets = omega arith; occupies = refl; picked = last_pick_small last }, tt)
  reached_good last (Start ∷ es) =
      let g = (reached_good last es).0 in
      (record { sound = sound_open (run occupied last es).occupied; gets = omega arith; occupies = g.occupies; picked = g.picked }, tt)
  reached_good last (Received w tr ∷ es) = heard_keeps_good w (run occupied last es) tr (reached_good last es)
  reached_good last (Gone a ∷ es) = report_keeps_good (run occupied last es) a (reached_good last es)
  reached_good last (Issue ∷ es) = issue_keeps_good (run occupied last es) (reached_good last es)
  reached_good last (Decline ∷ es) = decline_keeps_good (run occupied last es) (reached_good last es)

-- ---- the invariant, as specs/History.antt has it

-- the pool is the starting pool and what is bound or claimed
pub reached_pool : (occupied : Pool) (last : ℕ) (es : List Event) (a : ℕ) → member (run occupied last es).pool a ≡ or (member (starting_pool occupied) a) (is_held (held_at (run occupied last es).slots a))
reached_pool occupied last es a =
    subst (λ (o : Pool). member (run occupied last es).pool a ≡ or (member (starting_pool o) a) (is_held (held_at (run occupied last es).slots a)))
    (reached_good occupied last es).0.occupies ((reached_good occupied last es).0.sound.exact a)

-- EVERY STATE that is reached
pub reached_invariant : (occupied : Pool) (last : ℕ) (es : List Event) → Invariant occupied (run occupied last es)
unfolding used
reached_invariant occupied last es = record {
  occupies = (reached_good occupied last es).0.occupies;
  contains = λ a e. exact a ∙ ap (λ (b : Bool). or b (is_held (held_at s.slots a))) e;
  bound_used = λ a u e. held_used a (Bound u) e refl;
  bound_unbarred = λ a u e. subst (λ (o : Pool). member (barred_pool o) a ≡ false) (reached_good occupied last es).0.occupies (v.unbarred a u e);
  starting_fixed = λ a u e. subst (λ (o : Pool). member (starting_pool o) a ≡ true → is_fixed u ≡ true) (reached_good occupied last es).0.occupies (v.starting_fixed a u e);
  bound_one = λ a u w e f. same (sym e ∙ f);
  bound_unclaimed = λ a u e f. zero_is_one (cc (e, f));
  bound_once = λ a b u e f. v.once a b u e f;
  claimed_used = λ a e. held_used a Claimed e refl;
  left_free = λ a e. exact a ∙ ap (λ (x : Binding). or (member (starting_pool occupied) a) (is_held x)) e ∙ or_none (member (starting_pool occupied) a);
  number = count_split (member (starting_pool occupied)) (λ a. is_held (held_at s.slots a)) (member s.pool) 128 (λ a h. exact a);
  size = v.size;
  gets = (reached_good occupied last es).0.gets;
  picked = (reached_good occupied last es).0.picked;
}
  where
    s : Controller
    s = run occupied last es

    v : SoundIn (run occupied last es)
    v = (reached_good occupied last es).0.sound

    exact : (a : ℕ) → member (run occupied last es).pool a ≡ or (member (starting_pool occupied) a) (is_held (held_at (run occupied last es).slots a))
    exact = reached_pool occupied last es

    held_used : (a : ℕ) (x : Binding) → held_at (run occupied last es).slots a ≡ x → is_held x ≡ true → member (run occupied last es).pool a ≡ true
    held_used a x e f = exact a ∙ ap (λ (b : Binding). or (member (starting_pool occupied) a) (is_held b)) e ∙ ap (or (member (starting_pool occupied) a)) f ∙ or_last (member (starting_pool occupied) a)

    same : {u w : Udid} → Bound u ≡ Bound w → u ≡ w
    same e = cc e

-- ---- a new controller

pub new_controller_is_new : (occupied : Pool) (last : ℕ) → New occupied last (new_controller occupied last)
new_controller_is_new occupied last = record {
  occupies = refl;
  pool = refl;
  held = open_all;
  gets = refl;
  last = refl;
  picked = last_pick_is last;
  never = last_pick_above last;
}
