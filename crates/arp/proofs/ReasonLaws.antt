-- Each reason is given exactly in its case, and the address is chosen by its rule (specs/Reasons.antt).
use Rattle.std.specs.Prelude.{ℕ, ◌/◌, ◌<◌, ◌≡◌, refl, Bool, true, false, List, [], ◌∷◌, ◌++◌, ◌↔◌, Option, Some, None}
use Rattle.std.proofs.Common.{sym, ap, ◌∙◌, subst, inl, inr}
use Rattle.std.proofs.Math.Decide.{ℕ_discrete}
use Rattle.lists.specs.AbsurdLaws.{zero_is_one}
use Rattle.lists.specs.Choice.{or}
use Rattle.wire.specs.declared.address.Address.{Address}
use Rattle.pool.specs.NextFreeLaws.{next_is}
use Rattle.pool.specs.Pools.{member}
use Rattle.pool.specs.Start.{barred_pool}
use Rattle.pool.specs.declared.Pool.{Pool}
use Rattle.udid.specs.Bytes.{udid_bytes}
use Rattle.udid.proofs.UdidLaws.{fixed_first, movable_first}
use Rattle.udid.specs.Udids.{Fits, is_fixed}
use Rattle.udid.specs.declared.Udid.{Udid}
use Rattle.slots.specs.Slots.{held_at}
use Rattle.slots.specs.declared.Binding.{Binding}
use Rattle.slots.specs.declared.Binding.TheVariants as binding
use Rattle.commands.specs.CommandTraces.{reply_trace}
use Rattle.commands.specs.declared.command.Command.TheVariants.{GetUdid}
use Rattle.commands.specs.declared.command.End.TheVariants.{Chosen}
use Rattle.commands.specs.declared.command.Handed.{Handed}
use Rattle.commands.specs.declared.command.Handed.TheVariants.{Send, Wait}
use Rattle.commands.specs.declared.command.Reason.{Reason}
use Rattle.commands.specs.declared.command.Reason.TheVariants.{Fixed, Kept, Picked, Claimed}
use Rattle.hearing.specs.Told.{tells}
use Rattle.arp.specs.Bindings.{freed}
use Rattle.picking.proofs.ClaimLaws.{barred_makes_claim, held_makes_claim}
use Rattle.picking.specs.Claims.{is_held, makes_claim}
use Rattle.arp.specs.Choosing.{reason_for, waiting_with, decided, decided_on, first_half}
use Rattle.picking.proofs.PickingLaws.{ff_picks, fixed_picks_none, movable_picks, picks_is_taken, chosen_picked, chosen_own, is_claimed, is_picked_lem, is_fixed_lem, is_kept}
use Rattle.picking.specs.Picking.{has_to_pick, chosen}
use Rattle.arp.proofs.OneStepLaws.{told_reply_lem}
use Rattle.arp.proofs.PickedLaws.{freed_keeps_picked}
use Rattle.arp.specs.Reasons.{MustPick, Contested, Reasons}
use Rattle.arp.specs.declared.state.Controller.{Controller}
use Rattle.arp.specs.declared.state.Stepped.{Stepped}

-- ---- in the scope's words

module _ (t : Controller) (a : ℕ) where
  abbrev taken : Bool
  taken = makes_claim t.occupied (held_at t.slots a) a

  contested_makes_claim : Contested t a → taken ≡ true
  contested_makes_claim (inl e) = barred_makes_claim t.occupied (held_at t.slots a) a e
  contested_makes_claim (inr (inl (w, k))) = held_makes_claim t.occupied (held_at t.slots a) a (ap is_held k)
  contested_makes_claim (inr (inr k)) = held_makes_claim t.occupied (held_at t.slots a) a (ap is_held k)

  claim_is_contested : taken ≡ true → Contested t a
  claim_is_contested e = go (member (barred_pool t.occupied) a) refl (held_at t.slots a) refl e
    where
      go : (q : Bool) → member (barred_pool t.occupied) a ≡ q → (x : Binding) → held_at t.slots a ≡ x → or q (is_held x) ≡ true → Contested t a
      go true m x k z = inl m
      go false m binding.Open k z = zero_is_one (cc z)
      go false m (binding.Bound w) k z = inr (inl (w, k))
      go false m binding.Claimed k z = inr (inr k)
      go false m binding.Left k z = zero_is_one (cc z)

  uncontested : (taken ≡ false) ↔ (Contested t a → ⊥)
  uncontested = (λ e c. zero_is_one (cc (contested_makes_claim c, e)), λ n. go taken refl n)
    where
      go : (b : Bool) → taken ≡ b → (Contested t a → ⊥) → taken ≡ false
      go true e n = absurd (n (claim_is_contested e))
      go false e n = e

module _ (p : Pool) (u : Udid) (b : ℕ) (f : Fits u) where
  must_pick : MustPick p u b → has_to_pick p u b ≡ true
  must_pick (inl e) = ap (has_to_pick p u) e ∙ ff_picks p u
  must_pick (inr w) = go (ℕ_discrete b 0xFF)
    where
      go : Dec (b ≡ 0xFF) → has_to_pick p u b ≡ true
      go (yes e) = ap (has_to_pick p u) e ∙ ff_picks p u
      go (no n) = movable_picks p u b n ((movable_first u f).1 w.0) ∙ w.1

  picks_as_it_must : has_to_pick p u b ≡ true → MustPick p u b
  picks_as_it_must e = go (ℕ_discrete b 0xFF)
    where
      go : Dec (b ≡ 0xFF) → MustPick p u b
      go (yes q) = inl q
      go (no n) = let w = picks_is_taken p u b n e in inr ((movable_first u f).0 w.0, w.1)

  no_pick : has_to_pick p u b ≡ false → MustPick p u b → ⊥
  no_pick e w = zero_is_one (cc (must_pick w, e))

  not_ff : has_to_pick p u b ≡ false → b ≡ 0xFF → ⊥
  not_ff e q = no_pick e (inl q)

  need_not : (MustPick p u b → ⊥) → has_to_pick p u b ≡ false
  need_not n = go (has_to_pick p u b) refl
    where
      go : (x : Bool) → has_to_pick p u b ≡ x → has_to_pick p u b ≡ false
      go true e = absurd (n (picks_as_it_must e))
      go false e = e

-- ---- a choice that waits

module _ (s : Controller) (u : Udid) (b : ℕ) (a : Address) (small : s.picked < 128) (f : Fits u) (e : chosen (freed s u).pool (freed s u).picked u b ≡ Some a) where
  abbrev then : Controller
  then = (waiting_with (freed s u) u (has_to_pick (freed s u).pool u b) (Some a)).state

  abbrev p : Pool
  p = (freed s u).pool

  abbrev picks : Bool
  picks = has_to_pick (freed s u).pool u b

  reasons_of : Reasons s then u b a.0 (reason_for (freed s u) u picks a.0)
  reasons_of = record {
    claimed = let k = is_claimed (taken then a.0) picks (is_fixed u) in (λ q. claim_is_contested then a.0 (k.0 q), λ c. k.1 (contested_makes_claim then a.0 c));
    picked = let k = is_picked_lem (taken then a.0) picks (is_fixed u) in (
      λ q. ((uncontested then a.0).0 (k.0 q).0, picks_as_it_must p u b f (k.0 q).1),
      λ w. k.1 ((uncontested then a.0).1 w.0, must_pick p u b f w.1),
    );
    fixed = let k = is_fixed_lem (taken then a.0) picks (is_fixed u) in (
      λ q. ((uncontested then a.0).0 (k.0 q).0, not_ff p u b f (k.0 q).1, (fixed_first u f).0 (k.0 q).2),
      λ w. k.1 ((uncontested then a.0).1 w.0, fixed_picks_none p u b w.1 ((fixed_first u f).1 w.2), (fixed_first u f).1 w.2),
    );
    kept = let k = is_kept (taken then a.0) picks (is_fixed u) in (
      λ q. ((uncontested then a.0).0 (k.0 q).0, not_ff p u b f (k.0 q).1, (movable_first u f).0 (k.0 q).2, sym (movable_picks p u b (not_ff p u b f (k.0 q).1) (k.0 q).2) ∙ (k.0 q).1),
      λ w. k.1 ((uncontested then a.0).1 w.0, movable_picks p u b w.1 ((movable_first u f).1 w.2) ∙ w.3, (movable_first u f).1 w.2),
    );
    next = λ w. (next_is p s.picked a.0 small).0 (sym (chosen_picked p s.picked u b (must_pick p u b f w)) ∙ at_picked);
    own = λ n. address_of (sym (chosen_own p s.picked u b (need_not p u b f n)) ∙ at_picked);
  }
    where
      at_picked : chosen (freed s u).pool s.picked u b ≡ Some a
      at_picked = ap (λ (l : ℕ). chosen (freed s u).pool l u b) (sym (freed_keeps_picked s u)) ∙ e

      address_of : Some (record { 0 = b / 2 }) ≡ Some a → a.0 ≡ b / 2
      address_of q = let z : record { 0 = b / 2 } ≡ a = cc q in sym (ap (λ (x : Address). x.0) z)

same_choice : {v u : Udid} {a c : Address} {x y : Reason} → Wait (Chosen v a x) ≡ Wait (Chosen u c y) → (v ≡ u) × (a ≡ c) × (x ≡ y)
same_choice e = (cc e, cc e, cc e)

decides : (s : Controller) (tr : List ℕ) → s.last ≡ Send GetUdid → (u : Udid) (b : ℕ) → Fits u → b < 256 → tr ≡ reply_trace (udid_bytes u ++ b ∷ []) → first_half s tr ≡ decided s u b
unfolding first_half
decides s tr l u b f h q = ap (λ (k : Handed). decided_on s (tells k tr)) l ∙ ap (decided_on s) (told_reply_lem tr u b f h q)

decided_reasons : (s : Controller) → s.picked < 128 → (u : Udid) (b : ℕ) → Fits u → (v : Udid) (a : Address) (x : Reason) → (decided s u b).command ≡ Wait (Chosen v a x)
    → (v ≡ u) × Reasons s (decided s u b).state u b a.0 x
unfolding decided
decided_reasons s small u b f v a x c = go (chosen (freed s u).pool (freed s u).picked u b) refl c
  where
    go : (k : Option Address) → chosen (freed s u).pool (freed s u).picked u b ≡ k → (waiting_with (freed s u) u (has_to_pick (freed s u).pool u b) k).command ≡ Wait (Chosen v a x)
        → (v ≡ u) × Reasons s (waiting_with (freed s u) u (has_to_pick (freed s u).pool u b) k).state u b a.0 x
    go None e z = zero_is_one (cc z)
    go (Some c) e z =
        let w = same_choice z in (
          sym w.0,
          subst (λ (y : Address). Reasons s (waiting_with (freed s u) u (has_to_pick (freed s u).pool u b) (Some c)).state u b y.0 x) w.1
              (subst (Reasons s (waiting_with (freed s u) u (has_to_pick (freed s u).pool u b) (Some c)).state u b c.0) w.2 (reasons_of s u b c small f e)),
        )

-- WHY AN ADDRESS IS CHOSEN at a reply of 17 bytes
pub reasons_given : (s : Controller) (tr : List ℕ) → s.picked < 128 → s.last ≡ Send GetUdid → (u : Udid) (b : ℕ) → Fits u → b < 256 → tr ≡ reply_trace (udid_bytes u ++ b ∷ [])
    → (v : Udid) (a : Address) (x : Reason) → (first_half s tr).command ≡ Wait (Chosen v a x) → (v ≡ u) × Reasons s (first_half s tr).state u b a.0 x
reasons_given s tr small l u b f h q v a x c =
    subst (λ (r : Stepped). (v ≡ u) × Reasons s r.state u b a.0 x) (sym (decides s tr l u b f h q))
    (decided_reasons s small u b f v a x (ap (λ (r : Stepped). r.command) (sym (decides s tr l u b f h q)) ∙ c))

-- ONE REASON is left
pub one_reason : (s t : Controller) (u : Udid) (b a : ℕ) (x y : Reason) → Reasons s t u b a x → Reasons s t u b a y → x ≡ y
one_reason s t u b a Fixed y h g = sym (g.fixed.1 (h.fixed.0 refl))
one_reason s t u b a Kept y h g = sym (g.kept.1 (h.kept.0 refl))
one_reason s t u b a Picked y h g = sym (g.picked.1 (h.picked.0 refl))
one_reason s t u b a Claimed y h g = sym (g.claimed.1 (h.claimed.0 refl))
