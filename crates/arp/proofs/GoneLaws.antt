-- The report of a module gone: it changes nothing but the address to which a target is bound, and keeps a sound state sound (specs/Gone.antt).
use Rattle.std.specs.Prelude.{ℕ, ◌<◌, ◌≡◌, Bool, ◌↔◌, ltb}
use Rattle.std.proofs.Math.Path.{refl, ap}
use Rattle.std.proofs.Common.{sym, ◌∙◌, subst, arith, le-ltb}
use Rattle.std.proofs.Math.Bool.{true, false}
use Rattle.std.proofs.Math.Decide.{ℕ_discrete, dec_lt}
use Rattle.lists.specs.AbsurdLaws.{zero_is_one}
use Rattle.lists.specs.Choice.{pick}
use Rattle.pool.specs.MemberLaws.{has_without_same, has_without_other}
use Rattle.pool.specs.Pools.{member, without_address}
use Rattle.pool.specs.Start.{starting_pool}
use Rattle.udid.specs.declared.Udid.{Udid}
use Rattle.slots.specs.Finding.{bound_to}
use Rattle.slots.specs.Slots.{Sized128, held_at, with_binding}
use Rattle.slots.proofs.SlotsLaws.{held_above_is_open, held_same, held_other}
use Rattle.slots.specs.declared.Binding.{Binding}
use Rattle.slots.specs.declared.Binding.TheVariants.{Open, Bound, Claimed, Left}
use Rattle.slots.specs.declared.Slots.{Slots}
use Rattle.arp.specs.Gone.{left_at, is_bound_target, reported}
use Rattle.arp.specs.Lookup.{seen, looked_up}
use Rattle.arp.specs.Numbers.{lookup_number}
use Rattle.arp.specs.OneStep.{Rest, Removes}
use Rattle.arp.specs.Replay.{is_bound}
use Rattle.arp.specs.Sound.{SoundIn, Unbound, Pending}
use Rattle.arp.proofs.SoundLaws.{sound_vacated}
use Rattle.arp.specs.declared.gone.Reported.{Reported}
use Rattle.arp.specs.declared.lookup.Found.{Found}
use Rattle.arp.specs.declared.lookup.Found.TheVariants as found
use Rattle.arp.specs.declared.state.Controller.{Controller}

-- ---- which addresses

pub which_bound : (h : Binding) → is_bound h ≡ true → (u : Udid) × (h ≡ Bound u)
which_bound Open e = zero_is_one (cc e)
which_bound (Bound u) e = (u, refl)
which_bound Claimed e = zero_is_one (cc e)
which_bound Left e = zero_is_one (cc e)

-- what is known for something is an address
known_small : (s : Slots) (a : ℕ) → (held_at s a ≡ Open → ⊥) → a < 128
known_small s a n = go (dec_lt a 128)
  where
    go : Dec (a < 128) → a < 128
    go (yes h) = h
    go (no h) = absurd (n (held_above_is_open s a (omega arith)))

pub bound_small : (s : Slots) (a : ℕ) (u : Udid) → held_at s a ≡ Bound u → a < 128
bound_small s a u e = known_small s a (λ q. zero_is_one (cc (q, e)))

pub left_small : (s : Slots) (a : ℕ) → held_at s a ≡ Left → a < 128
left_small s a e = known_small s a (λ q. zero_is_one (cc (q, e)))

module _ (s : Controller) (a : ℕ) where
  -- WHERE NO TARGET IS BOUND nothing changes
  pub nothing_reported : is_bound (held_at s.slots a) ≡ false → (reported s a).state ≡ s
  unfolding reported
  nothing_reported e = go (ltb 127 a) (held_at s.slots a) e
    where
      go : (t : Bool) (h : Binding) → is_bound h ≡ false → pick (is_bound_target (pick t found.NoAddress (seen h))) (left_at s a) s ≡ s
      go true h e = refl
      go false Open e = refl
      go false (Bound u) e = zero_is_one (cc e)
      go false Claimed e = refl
      go false Left e = refl

  -- WHERE ONE IS the address is left
  pub removed : (u : Udid) → held_at s.slots a ≡ Bound u → reported s a ≡ record { state = left_at s a; found = found.Bound u }
  unfolding reported
  removed u e =
      ap (λ (f : Found). record { state = pick (is_bound_target f) (left_at s a) s; found = f })
      (ap (λ (t : Bool). pick t found.NoAddress (seen (held_at s.slots a))) (le-ltb 127 a (let h = bound_small s.slots a u e in omega arith)) ∙ ap seen e)

  -- by what a lookup finds, and whether that is a bound target
  pub reported_is : (f : Found) (t : Bool) → f ≡ looked_up s a → is_bound_target f ≡ t → record { state = pick t (left_at s a) s; found = f } ≡ reported s a
  unfolding reported
  reported_is f t e q =
      ap (λ (x : Bool). record { state = pick x (left_at s a) s; found = f }) (sym q)
      ∙ ap (λ (x : Found). record { state = pick (is_bound_target x) (left_at s a) s; found = x }) e

  -- whatever is answered, nothing changes but the addresses
  pub report_rest : Rest s (reported s a).state
  unfolding reported
  report_rest = go (is_bound_target (looked_up s a))
    where
      go : (t : Bool) → Rest s (pick t (left_at s a) s)
      go true = record { occupied = refl; gets = refl; last = refl; picked = refl }
      go false = record { occupied = refl; gets = refl; last = refl; picked = refl }

  -- 0 exactly where a target is bound
  pub answered_0 : ((lookup_number (reported s a).found).0 ≡ 0) ↔ (is_bound (held_at s.slots a) ≡ true)
  unfolding reported
  answered_0 = (λ r. there (ltb 127 a) (held_at s.slots a) r, λ e. back (which_bound (held_at s.slots a) e))
    where
      there : (t : Bool) (h : Binding) → (lookup_number (pick t found.NoAddress (seen h))).0 ≡ 0 → is_bound h ≡ true
      there true h r = absurd (omega (arith, r))
      there false Open r = absurd (omega (arith, r))
      there false (Bound u) r = refl
      there false Claimed r = absurd (omega (arith, r))
      there false Left r = absurd (omega (arith, r))

      back : (u : Udid) × (held_at s.slots a ≡ Bound u) → (lookup_number (reported s a).found).0 ≡ 0
      back (u, e) = ap (λ (r : Reported). (lookup_number r.found).0) (removed u e)

  -- THE ADDRESS IS LEFT, out of the pool unless the starting pool has it, and every other address is as it was
  pub report_removes : (u : Udid) → Sized128 s.slots → held_at s.slots a ≡ Bound u → Removes a s (reported s a).state
  report_removes u l e = subst (Removes a s) (sym (ap (λ (r : Reported). r.state) (removed u e))) (record {
    left = held_same s.slots a Left l (bound_small s.slots a u e);
    out = λ q. ap (λ (t : Bool). member (pick t s.pool (without_address s.pool a)) a) q ∙ has_without_same s.pool a;
    stays = λ q. ap (λ (t : Bool). member (pick t s.pool (without_address s.pool a)) a) q;
    elsewhere = λ b n. (held_other s.slots a b Left n, pool_elsewhere b n (member (starting_pool s.occupied) a));
  })
    where
      pool_elsewhere : (b : ℕ) → (b ≡ a → ⊥) → (t : Bool) → member (pick t s.pool (without_address s.pool a)) b ≡ member s.pool b
      pool_elsewhere b n true = refl
      pool_elsewhere b n false = has_without_other s.pool a b n

-- ---- it keeps a sound state sound

pub sound_left : (s : Controller) (a : ℕ) → SoundIn s → a < 128 → SoundIn (left_at s a)
sound_left s a v h = sound_vacated s.occupied s.pool s.slots v a h Left refl

-- ---- and an Assign that is outstanding stays so

left_is_unbound : (s : Controller) (u w : Udid) (a : ℕ) → SoundIn s → held_at s.slots a ≡ Bound w → Unbound u s.slots → Unbound u (left_at s a).slots
left_is_unbound s u w a v e n i = go (ℕ_discrete i a)
  where
    go : Dec (i ≡ a) → bound_to u (held_at (with_binding s.slots a Left) i) ≡ false
    go (yes q) = ap (λ (x : ℕ). bound_to u (held_at (with_binding s.slots a Left) x)) q ∙ ap (bound_to u) (held_same s.slots a Left v.size (bound_small s.slots a w e))
    go (no q) = ap (bound_to u) (held_other s.slots a i Left q) ∙ n i

-- what is free stays free
left_frees : (s : Controller) (a n : ℕ) → member s.pool n ≡ false → member (left_at s a).pool n ≡ false
left_frees s a n e = go (member (starting_pool s.occupied) a) (ℕ_discrete n a)
  where
    go : (t : Bool) → Dec (n ≡ a) → member (pick t s.pool (without_address s.pool a)) n ≡ false
    go true d = e
    go false (yes q) = ap (member (without_address s.pool a)) q ∙ has_without_same s.pool a
    go false (no q) = has_without_other s.pool a n q ∙ e

pub pending_left : (s : Controller) (u w : Udid) (n a : ℕ) → SoundIn s → held_at s.slots a ≡ Bound w → Pending s u n → Pending (left_at s a) u n
pending_left s u w n a v e p = record {
  small = p.small;
  unbound = left_is_unbound s u w a v e p.unbound;
  fits = p.fits;
  free = λ f. left_frees s a n (p.free f);
}
