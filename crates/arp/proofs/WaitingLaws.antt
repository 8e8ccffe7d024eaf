-- A choice over a run: its target is bound nowhere while it waits, and stays so when it is declined; it is told as claimed by two exactly if the
-- Assign, completed now, would mark the address; and only a fixed target's own address is.
use Rattle.std.specs.Prelude.{ℕ, ◌*◌, ◌<◌, ◌≡◌, refl, Bool, true, false, List, [], ◌∷◌, ◌++◌, ◌⊎◌, ◌↔◌, get_or}
use Rattle.std.proofs.Common.{sym, ap, ◌∙◌, subst, inl, inr}
use Rattle.lists.specs.AbsurdLaws.{zero_is_one}
use Rattle.wire.specs.declared.address.Address.{Address}
use Rattle.pool.specs.Pools.{member}
use Rattle.pool.specs.Start.{barred_pool}
use Rattle.pool.proofs.StartLaws.{barred_starting}
use Rattle.pool.specs.declared.Pool.{Pool}
use Rattle.udid.specs.Bytes.{udid_bytes}
use Rattle.udid.proofs.UdidLaws.{same_refl, fixed_first}
use Rattle.udid.specs.Udids.{Fits, is_fixed}
use Rattle.udid.specs.declared.Udid.{Udid}
use Rattle.slots.specs.Finding.{bound_to}
use Rattle.slots.specs.Slots.{Sized128, held_at}
use Rattle.slots.specs.declared.Binding.{Binding}
use Rattle.slots.specs.declared.Binding.TheVariants.{Open, Bound, Claimed, Left}
use Rattle.commands.specs.CommandTraces.{reply_trace, assign_trace}
use Rattle.commands.specs.declared.command.Command.TheVariants.{GetUdid, Assign}
use Rattle.commands.specs.declared.command.End.TheVariants.{Chosen}
use Rattle.commands.specs.declared.command.Handed.TheVariants.{Send, Wait}
use Rattle.commands.specs.declared.command.Reason.{Reason}
use Rattle.commands.specs.declared.command.Reason.TheVariants as reason
use Rattle.arp.specs.Choosing.{first_half, issuing, declining}
use Rattle.arp.specs.Controller.{stepped}
use Rattle.arp.proofs.HandingLaws.{decline_rest}
use Rattle.arp.specs.History.{Step, Choose, Event, Received, Issue, run, Invariant}
use Rattle.arp.proofs.HistoryLaws.{reached_good, reached_invariant}
use Rattle.arp.specs.Lookup.{looked_up}
use Rattle.arp.proofs.LookupLaws.{lookup_16}
use Rattle.arp.specs.Numbers.{lookup_number}
use Rattle.arp.specs.OneStep.{Binds}
use Rattle.arp.proofs.OneStepLaws.{assign_whole}
use Rattle.arp.proofs.ReasonLaws.{reasons_given}
use Rattle.arp.specs.Reasons.{Contested, Reasons}
use Rattle.arp.proofs.SettleLaws.{issue_is, waits_in_its_state}
use Rattle.arp.specs.Sound.{Pending, PendingIn}
use Rattle.arp.specs.State.{with_last}
use Rattle.arp.specs.declared.state.Controller.{Controller}
use Rattle.arp.specs.declared.state.Stepped.{Stepped}

module _ (occupied : Pool) (last : ℕ) (es : List Event) (u : Udid) (a : Address) (x : Reason) (e : (run occupied last es).last ≡ Wait (Chosen u a x)) where
  waiting_pending : Pending (run occupied last es) u a.0
  waiting_pending = subst (PendingIn (run occupied last es)) e (reached_good occupied last es).1

  -- ITS TARGET IS BOUND NOWHERE
  pub waiting_unbound : (i : ℕ) → held_at (run occupied last es).slots i ≡ Bound u → ⊥
  waiting_unbound i k = zero_is_one (cc (waiting_pending.unbound i, ap (bound_to u) k, same_refl u))

  -- and is left so when the choice is declined
  pub declined_unbound : (i : ℕ) → held_at (declining (run occupied last es)).state.slots i ≡ Bound u → ⊥
  declined_unbound i k = waiting_unbound i (ap (λ s. held_at s i) (sym (decline_rest (run occupied last es)).slots) ∙ k)

-- ---- claimed by two

-- an Assign that completes marks the address exactly if it is contested
pub marked_exactly : (t : Controller) (u : Udid) (a : Address) → Sized128 t.slots → Fits u → a.0 < 128 → t.last ≡ Send (Assign u a)
    → Contested t a.0 ↔ (lookup_number (looked_up (stepped t (assign_trace (udid_bytes u) (2 * a.0))).state a.0) ≡ (16, []))
marked_exactly t u a size f h e = (λ c. (lookup_16 after a.0).1 (h, marks c), λ q. contests ((lookup_16 after a.0).0 q).1)
  where
    after : Controller
    after = (stepped t (assign_trace (udid_bytes u) (2 * a.0))).state

    b : Binds u a.0 t after
    b = (assign_whole t (assign_trace (udid_bytes u) (2 * a.0)) size u a e f h refl).1

    marks : Contested t a.0 → held_at after.slots a.0 ≡ Claimed
    marks (inl k) = b.barred k
    marks (inr (inl (w, k))) = b.another w k
    marks (inr (inr k)) = b.marked k

    free : member (barred_pool t.occupied) a.0 ≡ false → (held_at t.slots a.0 ≡ Open) ⊎ (held_at t.slots a.0 ≡ Left) → held_at after.slots a.0 ≡ Claimed → Contested t a.0
    free k w q = zero_is_one (cc (b.free k w, q))

    contests : held_at after.slots a.0 ≡ Claimed → Contested t a.0
    contests q = go (member (barred_pool t.occupied) a.0) refl (held_at t.slots a.0) refl
      where
        go : (y : Bool) → member (barred_pool t.occupied) a.0 ≡ y → (v : Binding) → held_at t.slots a.0 ≡ v → Contested t a.0
        go true k v m = inl k
        go false k Open m = free k (inl m) q
        go false k (Bound w) m = inr (inl (w, m))
        go false k Claimed m = inr (inr m)
        go false k Left m = free k (inr m) q

-- ONLY A FIXED TARGET'S OWN ADDRESS is told as claimed by two
pub claimed_is_own : (occupied : Pool) (last : ℕ) (es : List Event) (tr : List ℕ) → (run occupied last es).last ≡ Send GetUdid → (u : Udid) (b : ℕ) → Fits u → b < 256 → tr ≡ reply_trace (udid_bytes u ++ b ∷ [])
    → (a : Address) → (first_half (run occupied last es) tr).command ≡ Wait (Chosen u a reason.Claimed) → (get_or (udid_bytes u) 0 0 < 64) × (b ≡ 0xFF → ⊥)
unfolding run
claimed_is_own occupied last es tr l u b f h q a c = ((fixed_first u f).0 (fixed (is_fixed u) refl), λ k. zero_is_one (cc (in_use, (r.next (inl k)).free)))
  where
    s : Controller
    s = run occupied last es

    t : Controller
    t = (first_half (run occupied last es) tr).state

    r : Reasons s t u b a.0 reason.Claimed
    r = (reasons_given (run occupied last es) tr (reached_good occupied last es).0.picked l u b f h q u a reason.Claimed c).1

    last_is : t.last ≡ Wait (Chosen u a reason.Claimed)
    last_is = ap (λ (x : Controller). x.last) (waits_in_its_state (run occupied last es) tr u a reason.Claimed c)

    p : Pending t u a.0
    p = subst (PendingIn t) last_is (reached_good occupied last (Received Choose tr ∷ es)).1

    in_use : member t.pool a.0 ≡ true
    in_use = go (r.claimed.0 refl)
      where
        i : Invariant occupied (run occupied last (Received Choose tr ∷ es))
        i = reached_invariant occupied last (Received Choose tr ∷ es)

        go : Contested t a.0 → member t.pool a.0 ≡ true
        go (inl k) = i.contains a.0 (barred_starting occupied a.0 (ap (λ (o : Pool). member (barred_pool o) a.0) (sym i.occupies) ∙ k))
        go (inr (inl (w, k))) = i.bound_used a.0 w k
        go (inr (inr k)) = i.claimed_used a.0 k

    fixed : (y : Bool) → is_fixed u ≡ y → is_fixed u ≡ true
    fixed true e = e
    fixed false e = zero_is_one (cc (in_use, p.free e))

-- IT IS TOLD AS CLAIMED BY TWO exactly if the Assign, issued and completed at once, marks the address
pub claimed_marks : (occupied : Pool) (last : ℕ) (es : List Event) (tr : List ℕ) → (run occupied last es).last ≡ Send GetUdid → (u : Udid) (b : ℕ) → Fits u → b < 256 → tr ≡ reply_trace (udid_bytes u ++ b ∷ [])
    → (a : Address) (x : Reason) → (first_half (run occupied last es) tr).command ≡ Wait (Chosen u a x)
    → (x ≡ reason.Claimed) ↔ (lookup_number (looked_up (run occupied last (Received Step (assign_trace (udid_bytes u) (2 * a.0)) ∷ Issue ∷ Received Choose tr ∷ es)) a.0) ≡ (16, []))
unfolding run
claimed_marks occupied last es tr l u b f h q a x c = (λ e. there.0 (r.claimed.0 e), λ e. r.claimed.1 (there.1 e))
  where
    t : Controller
    t = (first_half (run occupied last es) tr).state

    r : Reasons (run occupied last es) t u b a.0 x
    r = (reasons_given (run occupied last es) tr (reached_good occupied last es).0.picked l u b f h q u a x c).1

    last_is : t.last ≡ Wait (Chosen u a x)
    last_is = ap (λ (y : Controller). y.last) (waits_in_its_state (run occupied last es) tr u a x c)

    p : Pending t u a.0
    p = subst (PendingIn t) last_is (reached_good occupied last (Received Choose tr ∷ es)).1

    there : Contested t a.0 ↔ (lookup_number (looked_up (stepped (issuing t).state (assign_trace (udid_bytes u) (2 * a.0))).state a.0) ≡ (16, []))
    there =
        subst (λ (y : Stepped). Contested t a.0 ↔ (lookup_number (looked_up (stepped y.state (assign_trace (udid_bytes u) (2 * a.0))).state a.0) ≡ (16, []))) (sym (issue_is t u a x last_is))
        (marked_exactly (with_last t (Send (Assign u a))) u a (reached_good occupied last (Received Choose tr ∷ es)).0.sound.size f p.small refl)
