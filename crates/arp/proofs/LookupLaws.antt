-- The number of a lookup: 0 with the identifier that is bound there, 15 where nobody is, 16 where two claim the address, 20 where its target was
-- reported gone, 1 above 127; each exactly in its case.
use Rattle.std.specs.Prelude.{ℕ, ◌<◌, ◌≡◌, refl, List, [], ◌∷◌, ◌⊎◌, ◌↔◌, eqb}
use Rattle.std.proofs.Common.{sym, ap, ◌∙◌, inl, inr, arith, lt-ltb, le-ltb}
use Rattle.std.proofs.Math.Decide.{dec_lt}
use Rattle.lists.specs.AbsurdLaws.{zero_is_one}
use Rattle.lists.specs.Choice.{pick}
use Rattle.udid.specs.declared.Udid.{Udid}
use Rattle.slots.specs.Slots.{held_at}
use Rattle.arp.specs.Lookup.{seen, looked_up}
use Rattle.arp.specs.Numbers.{lookup_number}
use Rattle.arp.specs.Replay.{number_of}
use Rattle.arp.specs.declared.lookup.Found.{Found}
use Rattle.arp.specs.declared.lookup.Found.TheVariants as found
use Rattle.slots.specs.declared.Binding.{Binding}
use Rattle.slots.specs.declared.Binding.TheVariants.{Open, Bound, Claimed, Left}
use Rattle.arp.specs.declared.state.Controller.{Controller}

-- what is held where a lookup gives this answer
abbrev HeldFor : Found → Binding → Type 0
HeldFor (found.Bound u) h = h ≡ Bound u
HeldFor found.Nobody h = h ≡ Open
HeldFor found.Two h = h ≡ Claimed
HeldFor found.Left h = h ≡ Left
HeldFor found.NoAddress h = ⊥

-- the answer of a number
abbrev numbered : ℕ × List Udid → Found
numbered (n, []) = pick (eqb n 15) found.Nobody (pick (eqb n 16) found.Two (pick (eqb n 20) found.Left found.NoAddress))
numbered (n, u ∷ us) = found.Bound u

numbered_is : (x : Found) → x ≡ numbered (lookup_number x)
numbered_is (found.Bound u) = refl
numbered_is found.Nobody = refl
numbered_is found.Two = refl
numbered_is found.Left = refl
numbered_is found.NoAddress = refl

number_tells : (x y : Found) → lookup_number x ≡ lookup_number y → x ≡ y
number_tells x y e = numbered_is x ∙ ap numbered e ∙ sym (numbered_is y)

-- what an address is known for is seen, and is never seen as no address
abbrev unseen : Found → Binding
unseen (found.Bound u) = Bound u
unseen found.Nobody = Open
unseen found.Two = Claimed
unseen found.Left = Left
unseen found.NoAddress = Open

unseen_is : (h : Binding) → h ≡ unseen (seen h)
unseen_is Open = refl
unseen_is (Bound u) = refl
unseen_is Claimed = refl
unseen_is Left = refl

seen_some : (h : Binding) → seen h ≡ found.NoAddress → ⊥
seen_some Open e = zero_is_one (cc e)
seen_some (Bound u) e = zero_is_one (cc e)
seen_some Claimed e = zero_is_one (cc e)
seen_some Left e = zero_is_one (cc e)

seen_is : (x : Found) (h : Binding) → (seen h ≡ x) ↔ HeldFor x h
seen_is (found.Bound u) h = (λ e. unseen_is h ∙ ap unseen e, λ e. ap seen e)
seen_is found.Nobody h = (λ e. unseen_is h ∙ ap unseen e, λ e. ap seen e)
seen_is found.Two h = (λ e. unseen_is h ∙ ap unseen e, λ e. ap seen e)
seen_is found.Left h = (λ e. unseen_is h ∙ ap unseen e, λ e. ap seen e)
seen_is found.NoAddress h = (λ e. seen_some h e, λ e. absurd e)

module _ (s : Controller) (a : ℕ) where
  small : a < 128 → looked_up s a ≡ seen (held_at s.slots a)
  small h = rw (le-ltb 127 a (omega arith))

  above : 127 < a → looked_up s a ≡ found.NoAddress
  above h = rw (lt-ltb 127 a h)

  answers : (x : Found) → (lookup_number (looked_up s a) ≡ lookup_number x) ↔ (((x ≡ found.NoAddress) × (127 < a)) ⊎ ((a < 128) × HeldFor x (held_at s.slots a)))
  answers x = (λ e. there (number_tells (looked_up s a) x e) (dec_lt 127 a), back)
    where
      there : looked_up s a ≡ x → Dec (127 < a) → ((x ≡ found.NoAddress) × (127 < a)) ⊎ ((a < 128) × HeldFor x (held_at s.slots a))
      there e (yes h) = inl (sym e ∙ above h, h)
      there e (no h) = inr (omega arith, (seen_is x (held_at s.slots a)).0 (sym (small (omega arith)) ∙ e))

      back : ((x ≡ found.NoAddress) × (127 < a)) ⊎ ((a < 128) × HeldFor x (held_at s.slots a)) → lookup_number (looked_up s a) ≡ lookup_number x
      back (inl (q, h)) = ap lookup_number (above h ∙ sym q)
      back (inr (h, q)) = ap lookup_number (small h ∙ (seen_is x (held_at s.slots a)).1 q)

  only_small : (x : Found) → (x ≡ found.NoAddress → ⊥) → (lookup_number (looked_up s a) ≡ lookup_number x) ↔ ((a < 128) × HeldFor x (held_at s.slots a))
  only_small x n = (λ e. go ((answers x).0 e), λ h. (answers x).1 (inr h))
    where
      go : ((x ≡ found.NoAddress) × (127 < a)) ⊎ ((a < 128) × HeldFor x (held_at s.slots a)) → (a < 128) × HeldFor x (held_at s.slots a)
      go (inl q) = absurd (n q.0)
      go (inr q) = q

  -- 0 WITH THE IDENTIFIER: it is bound there
  pub lookup_0 : (u : Udid) → (lookup_number (looked_up s a) ≡ (0, u ∷ [])) ↔ ((a < 128) × (held_at s.slots a ≡ Bound u))
  lookup_0 u = only_small (found.Bound u) (λ e. zero_is_one (cc e))

  -- 15: nobody is bound
  pub lookup_15 : (lookup_number (looked_up s a) ≡ (15, [])) ↔ ((a < 128) × (held_at s.slots a ≡ Open))
  lookup_15 = only_small found.Nobody (λ e. zero_is_one (cc e))

  -- 16: two claim it
  pub lookup_16 : (lookup_number (looked_up s a) ≡ (16, [])) ↔ ((a < 128) × (held_at s.slots a ≡ Claimed))
  lookup_16 = only_small found.Two (λ e. zero_is_one (cc e))

  -- 20: its target was reported gone
  pub lookup_20 : (lookup_number (looked_up s a) ≡ (20, [])) ↔ ((a < 128) × (held_at s.slots a ≡ Left))
  lookup_20 = only_small found.Left (λ e. zero_is_one (cc e))

  -- 1: an address above 127
  pub lookup_1 : (lookup_number (looked_up s a) ≡ (1, [])) ↔ (127 < a)
  lookup_1 = (λ e. go ((answers found.NoAddress).0 e), λ h. ap lookup_number (above h))
    where
      go : ((found.NoAddress ≡ found.NoAddress) × (127 < a)) ⊎ ((a < 128) × ⊥) → 127 < a
      go (inl q) = q.1
      go (inr q) = absurd q.1

-- ---- the number by what the address is known for

seen_number : (h : Binding) → lookup_number (seen h) ≡ number_of h
seen_number Open = refl
seen_number (Bound u) = refl
seen_number Claimed = refl
seen_number Left = refl

pub lookup_number_lem : (s : Controller) (a : ℕ) → a < 128 → lookup_number (looked_up s a) ≡ number_of (held_at s.slots a)
lookup_number_lem s a h = ap lookup_number (small s a h) ∙ seen_number (held_at s.slots a)
