-- What a call of hb_pass_lookup gives, in the scope's numbers and in the parts of the struct of include/headboarded.h.
use Rattle.std.specs.Prelude.{◌≡◌, refl, List, ◌⊎◌, ◌↔◌, ℕ, ◌<◌}
use Rattle.std.proofs.Common.{sym, ap, ◌∙◌, subst, inl, inr, arith}
use Rattle.std.proofs.Math.Logic.Iff.{trans as iff_trans}
use Rattle.std.proofs.Math.Decide.{dec_lt}
use Rattle.udid.specs.declared.Udid.{Udid}
use Rattle.slots.specs.Slots.{held_at}
use Rattle.arp.specs.Lookup.{looked_up}
use Rattle.arp.specs.Numbers.{lookup_number}
use Rattle.arp.specs.declared.lookup.Found.{Found}
use Rattle.slots.specs.declared.Binding.TheVariants.{Open, Bound, Claimed, Left}
use Rattle.arp.specs.declared.state.Controller.{Controller}
use Rattle.report.specs.Report.{first_of}
use Rattle.c_arp.specs.declared.pass.HbFound.{HbFound}
use Rattle.c_arp.specs.declared.parts.HbPool.{HbPool}
use Rattle.c_arp.specs.Parts.{pool_in}
use Rattle.c_arp.specs.PassCallLaws.{found_forbidden, found_told}
use Rattle.c_arp.specs.Pass.{pass_over, found_of, told_found, pass_found}
use Rattle.arp.proofs.LookupLaws.{lookup_0, lookup_15, lookup_16, lookup_20, lookup_1}
use Rattle.c_arp.specs.FoundParts.{FoundParts, FoundIs}
use Rattle.arp.specs.declared.lookup.Found.TheVariants as found

pub found_parts : (f : Found) (r : HbFound) → r ≡ told_found f → FoundIs f r
found_parts f r e = subst (FoundIs f) (sym e) (go f)
  where
    go : (f : Found) → FoundIs f (told_found f)
    go (found.Bound u) = record { answer_is = refl; high_is = refl; low_is = refl }
    go found.Nobody = record { answer_is = refl; high_is = refl; low_is = refl }
    go found.Two = record { answer_is = refl; high_is = refl; low_is = refl }
    go found.Left = record { answer_is = refl; high_is = refl; low_is = refl }
    go found.NoAddress = record { answer_is = refl; high_is = refl; low_is = refl }

-- in any state of the controller
module _ (s : Controller) (a : ℕ) (r : HbFound) (e : r ≡ told_found (looked_up s a)) where
  one_found : (f : Found) → FoundIs f r → (g : Found) → FoundIs g r → f ≡ g
  one_found (found.Bound u) p (found.Bound v) q = ap found.Bound (λ i. record { high = (sym p.high_is ∙ q.high_is) i; low = (sym p.low_is ∙ q.low_is) i })
  one_found (found.Bound u) p found.Nobody q = absurd (omega (arith, p.answer_is, q.answer_is))
  one_found (found.Bound u) p found.Two q = absurd (omega (arith, p.answer_is, q.answer_is))
  one_found (found.Bound u) p found.Left q = absurd (omega (arith, p.answer_is, q.answer_is))
  one_found (found.Bound u) p found.NoAddress q = absurd (omega (arith, p.answer_is, q.answer_is))
  one_found found.Nobody p (found.Bound v) q = absurd (omega (arith, p.answer_is, q.answer_is))
  one_found found.Nobody p found.Nobody q = refl
  one_found found.Nobody p found.Two q = absurd (omega (arith, p.answer_is, q.answer_is))
  one_found found.Nobody p found.Left q = absurd (omega (arith, p.answer_is, q.answer_is))
  one_found found.Nobody p found.NoAddress q = absurd (omega (arith, p.answer_is, q.answer_is))
  one_found found.Two p (found.Bound v) q = absurd (omega (arith, p.answer_is, q.answer_is))
  one_found found.Two p found.Nobody q = absurd (omega (arith, p.answer_is, q.answer_is))
  one_found found.Two p found.Two q = refl
  one_found found.Two p found.Left q = absurd (omega (arith, p.answer_is, q.answer_is))
  one_found found.Two p found.NoAddress q = absurd (omega (arith, p.answer_is, q.answer_is))
  one_found found.Left p (found.Bound v) q = absurd (omega (arith, p.answer_is, q.answer_is))
  one_found found.Left p found.Nobody q = absurd (omega (arith, p.answer_is, q.answer_is))
  one_found found.Left p found.Two q = absurd (omega (arith, p.answer_is, q.answer_is))
  one_found found.Left p found.Left q = refl
  one_found found.Left p found.NoAddress q = absurd (omega (arith, p.answer_is, q.answer_is))
  one_found found.NoAddress p (found.Bound v) q = absurd (omega (arith, p.answer_is, q.answer_is))
  one_found found.NoAddress p found.Nobody q = absurd (omega (arith, p.answer_is, q.answer_is))
  one_found found.NoAddress p found.Two q = absurd (omega (arith, p.answer_is, q.answer_is))
  one_found found.NoAddress p found.Left q = absurd (omega (arith, p.answer_is, q.answer_is))
  one_found found.NoAddress p found.NoAddress q = refl

  found_is : (f : Found) → FoundIs f r ↔ (lookup_number (looked_up s a) ≡ lookup_number f)
  found_is f = (
    λ p. ap lookup_number (one_found (looked_up s a) (found_parts (looked_up s a) r e) f p),
    λ q. found_parts f r (e ∙ ap (λ (n : ℕ × List Udid). found_of n.0 (first_of n.1)) q),
  )

-- a call after a pass over the bytes l, with addresses that are given as occupied and a last pick; the slots are those at the end of the pass
module _ (given : HbPool) (last : ℕ) (l : List ℕ) (a : ℕ) (r : HbFound) (e : r ≡ pass_found (pool_in given) last l a) where
  after : Controller
  after = (pass_over (pool_in given) last l).state

  forbidden : 127 < last → FoundParts r 1 0 0
  forbidden h = found_parts found.NoAddress r (e ∙ found_forbidden (pool_in given) last l a h)

  told : last < 128 → r ≡ told_found (looked_up after a)
  unfolding after
  told h = e ∙ found_told (pool_in given) last l a h

  -- a number other than 1 is that of the lookup in the pass's state, and the last pick is let in
  let_in : (n high low : ℕ) (P : Type 0) → (n ≡ 1 → ⊥) → (last < 128 → FoundParts r n high low ↔ P) → FoundParts r n high low ↔ ((last < 128) × P)
  let_in n high low P z f = (λ p. go p (dec_lt 127 last), λ q. (f q.0).1 q.1)
    where
      go : FoundParts r n high low → Dec (127 < last) → (last < 128) × P
      go p (yes h) = absurd (z (sym p.answer_is ∙ (forbidden h).answer_is))
      go p (no h) = let k : last < 128 = omega arith in (k, (f k).0 p)

  -- 0 with the identifier that is bound there; 15 where nobody is; 16 where two claim it; 20 where its target was reported gone; 1 for a last pick or an address above 127; no identifier with these
  pub hb_lookup_0 : (u : Udid) → FoundParts r 0 u.high u.low ↔ ((last < 128) × ((a < 128) × (held_at (pass_over (pool_in given) last l).state.slots a ≡ Bound u)))
  unfolding after
  hb_lookup_0 u = let_in 0 u.high u.low _ (λ z. omega (arith, z)) (λ h. iff_trans (found_is after a r (told h) (found.Bound u)) (lookup_0 after a u))

  pub hb_lookup_15 : FoundParts r 15 0 0 ↔ ((last < 128) × ((a < 128) × (held_at (pass_over (pool_in given) last l).state.slots a ≡ Open)))
  unfolding after
  hb_lookup_15 = let_in 15 0 0 _ (λ z. omega (arith, z)) (λ h. iff_trans (found_is after a r (told h) found.Nobody) (lookup_15 after a))

  pub hb_lookup_16 : FoundParts r 16 0 0 ↔ ((last < 128) × ((a < 128) × (held_at (pass_over (pool_in given) last l).state.slots a ≡ Claimed)))
  unfolding after
  hb_lookup_16 = let_in 16 0 0 _ (λ z. omega (arith, z)) (λ h. iff_trans (found_is after a r (told h) found.Two) (lookup_16 after a))

  pub hb_lookup_20 : FoundParts r 20 0 0 ↔ ((last < 128) × ((a < 128) × (held_at (pass_over (pool_in given) last l).state.slots a ≡ Left)))
  unfolding after
  hb_lookup_20 = let_in 20 0 0 _ (λ z. omega (arith, z)) (λ h. iff_trans (found_is after a r (told h) found.Left) (lookup_20 after a))

  pub hb_lookup_1 : FoundParts r 1 0 0 ↔ ((127 < last) ⊎ (127 < a))
  hb_lookup_1 = (λ p. go p (dec_lt 127 last), λ q. back (dec_lt 127 last) q)
    where
      in_pass : last < 128 → FoundParts r 1 0 0 ↔ (127 < a)
      in_pass h = iff_trans (found_is after a r (told h) found.NoAddress) (lookup_1 after a)

      go : FoundParts r 1 0 0 → Dec (127 < last) → (127 < last) ⊎ (127 < a)
      go p (yes h) = inl h
      go p (no h) = inr ((in_pass (omega arith)).0 p)

      back : Dec (127 < last) → (127 < last) ⊎ (127 < a) → FoundParts r 1 0 0
      back (yes h) q = forbidden h
      back (no h) (inl q) = forbidden q
      back (no h) (inr q) = (in_pass (omega arith)).1 q
