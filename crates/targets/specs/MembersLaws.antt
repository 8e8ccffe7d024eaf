-- What a resolve leaves unresolved.
use Rattle.std.specs.Prelude.{[], ℕ, ◌+◌, ◌*◌, ◌%◌, ◌<◌, ◌≡◌, refl, Bool, true, false, List, ◌∷◌, eqb}
use Rattle.std.proofs.Common.{sym, ap, ◌∙◌, inl, inr, arith}
use Rattle.lists.specs.AbsurdLaws.{zero_is_one}
use Rattle.lists.specs.Choice.{pick}
use Rattle.udid.specs.Udids.{same_udid, value}
use Rattle.udid.proofs.UdidLaws.{same_refl, other_udid}
use Rattle.udid.specs.declared.Udid.{Udid}
use Rattle.arbitration.specs.Among.{Among}
use Rattle.targets.specs.Members.{Waits}
use Rattle.targets.specs.Target.{Target, is_resolved, resolve}

-- who is unresolved after a resolve was so before, and has another identifier
unresolved_before : (u : Udid) (a : ℕ) (ts : List Target) (t : Target) → Among t (resolve u a ts) → is_resolved t ≡ false → Among t ts × (same_udid t.udid u ≡ false)
unresolved_before u a [] t x'' e = elim x'' [ ]
unresolved_before u a (x ∷ ts) t (inr h) e = let r = unresolved_before u a ts t h e in (inr r.0, r.1)
unresolved_before u a (x ∷ ts) t (inl h) e = go (same_udid x.udid u) refl h
  where
    go : (b : Bool) → same_udid x.udid u ≡ b → pick b (record { udid = x.udid; address_byte = 2 * (a % 128) + 1; flag = 1 }) x ≡ t
        → Among t (x ∷ ts) × (same_udid t.udid u ≡ false)
    go true p q = zero_is_one (cc (ap (λ (y : Target). eqb y.flag 1) q, e))
    go false p q = (inl q, ap (λ (y : Target). same_udid y.udid u) (sym q) ∙ p)

-- who has another identifier is left as it was
others_kept : (u : Udid) (a : ℕ) (ts : List Target) (t : Target) → Among t ts → same_udid t.udid u ≡ false → Among t (resolve u a ts)
others_kept u a [] t x'' e = elim x'' [ ]
others_kept u a (x ∷ ts) t (inr h) e = inr (others_kept u a ts t h e)
others_kept u a (x ∷ ts) t (inl h) e =
    let f : same_udid x.udid u ≡ false = ap (λ (y : Target). same_udid y.udid u) h ∙ e in
    inl (simp f h)

-- the lowest of those that wait is resolved: the others wait on
pub waits_next : (ts rest : List Target) (r : Target) (a : ℕ) → Waits ts (r ∷ rest) → ((x : Target) → Among x rest → value r.udid < value x.udid)
    → Waits (resolve r.udid a ts) rest
waits_next ts rest r a w lt = record {
  known = λ t m e. let b = unresolved_before r.udid a ts t m e in at t b.1 (w.known t b.0 e);
  there = λ t m. others_kept r.udid a ts t (w.there t (inr m)) (other_udid t.udid r.udid (λ q. above t (lt t m) (ap value q)));
  unresolved = λ t m. w.unresolved t (inr m);
}
  where
    above : (t : Target) → value r.udid < value t.udid → value t.udid ≡ value r.udid → ⊥
    above t l e = omega arith

    at : (t : Target) → same_udid t.udid r.udid ≡ false → Among t (r ∷ rest) → Among t rest
    at t e (inl h) = zero_is_one (cc (e, ap (λ (y : Target). same_udid y.udid r.udid) h, same_refl r.udid))
    at t e (inr h) = h
