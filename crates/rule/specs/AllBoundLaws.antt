-- When all targets are bound: if and only if the movable ones do not outnumber the addresses that the fixed ones leave free.
use Rattle.std.specs.Prelude.{ℕ, suc, ◌+◌, ◌/◌, ◌≤◌, ◌<◌, ◌≡◌, refl, Bool, true, false, ◌↔◌, List, [], ◌∷◌, eqb, ltb, length, Option, Some, None}
use Rattle.std.proofs.Common.{sym, ap, ◌∙◌, inl, inr, arith}
use Rattle.lists.specs.AbsurdLaws.{zero_is_one}
use Rattle.lists.specs.Choice.{pick, or, and}
use Rattle.wire.specs.declared.address.Address.{Address}
use Rattle.pool.specs.CountLaws.{count_cong}
use Rattle.pool.specs.Free.{used}
use Rattle.pool.specs.FreeLaws.{used_le, used_with_new}
use Rattle.pool.specs.Pools.{member, with_address}
use Rattle.pool.specs.MemberLaws.{member_with}
use Rattle.pool.specs.Start.{starting_pool, barred_pool}
use Rattle.pool.specs.declared.Pool.{Pool}
use Rattle.udid.specs.Udids.{is_fixed, value}
use Rattle.arbitration.specs.Among.{Among}
use Rattle.targets.specs.Target.{Target}
use Rattle.targets.specs.Admission.{AdmittedTargets}
use Rattle.rule.specs.PlainRule.{insert, ascending, plain_choice, pick_after, served, next, rule, ruled}
use Rattle.rule.specs.Ready.{Ready}
use Rattle.rule.specs.RuleLaws.{fixed_choice_own, movable_choice_free, ready_choice_free, movable_after, ready_next, choice_none, all_given_served}
use Rattle.rule.specs.SortLaws.{length_ascending}
use Rattle.rule.specs.PassEndLaws.{ready_first}
use Rattle.rule.specs.AllBound.{movable, with_fixed, left_free}

-- ---- in ascending order: take the addresses used, with those of the fixed targets, and the movable targets. Together they are as many
-- after one target is served

none_fixed : (ts : List Target) (p : Pool) → ((t : Target) → Among t ts → is_fixed t.udid ≡ false) → with_fixed p ts ≡ p
none_fixed [] p h = refl
none_fixed (t ∷ ts) p h = let e : is_fixed t.udid ≡ false = h t (inl refl) in rw e (none_fixed ts p (λ x m. h x (inr m)))

module _ (p shut : Pool) (last : ℕ) (t : Target) (rest : List Target) (v : Ready p shut (t ∷ rest)) where
  -- after a movable target there is no fixed one
  movable_rest : is_fixed t.udid ≡ false → (q : Pool) → with_fixed q rest ≡ q
  movable_rest f q = none_fixed rest q (λ x m. movable_after t x (v.sized t (inl refl)) (v.sized x (inr m)) (v.apart.0 x m).lower f)

  as_many_after : (a : Address) → plain_choice p last t ≡ Some a
      → used (with_fixed p (t ∷ rest)) + movable (t ∷ rest) ≡ used (with_fixed (with_address p a.0) rest) + movable rest
  as_many_after a e = go (is_fixed t.udid) refl
    where
      go : (b : Bool) → is_fixed t.udid ≡ b
          → used (pick b (with_fixed (with_address p (t.address_byte / 2)) rest) (with_fixed p rest)) + pick b (movable rest) (suc (movable rest))
          ≡ used (with_fixed (with_address p a.0) rest) + movable rest
      go true f = ap (λ (n : ℕ). used (with_fixed (with_address p n) rest) + movable rest) (sym (fixed_choice_own p last t a f e))
      go false f =
          let n = used_with_new p a.0 (ready_choice_free p shut last t rest a v e).0 (movable_choice_free p last t a f e) in
          omega (arith, n, ap used (movable_rest f p), ap used (movable_rest f (with_address p a.0)))

  -- nothing is chosen only where these are more than 128
  no_room : plain_choice p last t ≡ None → 128 < used (with_fixed p (t ∷ rest)) + movable (t ∷ rest)
  no_room e = let c = choice_none p last t e in rw c.0 (omega (arith, c.1, ap used (movable_rest c.0 p)))

-- all are served if and only if the addresses used, with those of the fixed targets, and the movable targets are no more than 128 together;
-- and then each is given one
room_serves_all : (rest : List Target) (p shut : Pool) (last : ℕ) → Ready p shut rest → used (with_fixed p rest) + movable rest ≤ 128
    → ((rule rest p last).ending ≡ served) × (length (rule rest p last).given ≡ length rest)
room_serves_all [] p shut last v h = (refl, refl)
room_serves_all (t ∷ rest) p shut last v h =
    go (plain_choice p last t) refl (λ a e l. room_serves_all rest (with_address p a.0) (with_address shut a.0) (pick_after p last t a.0) (ready_next p shut last t rest a v e) l)
  where
    go : (c : Option Address) → plain_choice p last t ≡ c
        → ((a : Address) → plain_choice p last t ≡ Some a → used (with_fixed (with_address p a.0) rest) + movable rest ≤ 128
        → ((rule rest (with_address p a.0) (pick_after p last t a.0)).ending ≡ served) × (length (rule rest (with_address p a.0) (pick_after p last t a.0)).given ≡ length rest))
        → ((next (λ q l. rule rest q l) t p last c).ending ≡ served) × (length (next (λ q l. rule rest q l) t p last c).given ≡ suc (length rest))
    go None e ih = absurd (omega (arith, h, no_room p shut last t rest v e))
    go (Some a) e ih =
        let r = ih a e (omega (arith, h, as_many_after p shut last t rest v a e)) in
        (r.0, ap suc r.1)

served_has_room : (rest : List Target) (p shut : Pool) (last : ℕ) → Ready p shut rest → (rule rest p last).ending ≡ served → used (with_fixed p rest) + movable rest ≤ 128
served_has_room [] p shut last v h = omega (arith, used_le p)
served_has_room (t ∷ rest) p shut last v h =
    go (plain_choice p last t) refl h (λ a e l. served_has_room rest (with_address p a.0) (with_address shut a.0) (pick_after p last t a.0) (ready_next p shut last t rest a v e) l)
  where
    go : (c : Option Address) → plain_choice p last t ≡ c → (next (λ q l. rule rest q l) t p last c).ending ≡ served
        → ((a : Address) → plain_choice p last t ≡ Some a → (rule rest (with_address p a.0) (pick_after p last t a.0)).ending ≡ served → used (with_fixed (with_address p a.0) rest) + movable rest ≤ 128)
        → used (with_fixed p (t ∷ rest)) + movable (t ∷ rest) ≤ 128
    go None e k ih = zero_is_one (cc k)
    go (Some a) e k ih = omega (arith, as_many_after p shut last t rest v a e, ih a e k)

-- ---- the order does not matter

movable_insert : (t : Target) (xs : List Target) → movable (insert t xs) ≡ movable (t ∷ xs)
movable_insert t [] = refl
movable_insert t (x ∷ xs) = go (ltb (value t.udid) (value x.udid)) (movable_insert t xs)
  where
    swap : (a b : Bool) (n : ℕ) → pick a (pick b n (suc n)) (suc (pick b n (suc n))) ≡ pick b (pick a n (suc n)) (suc (pick a n (suc n)))
    swap true true n = refl
    swap true false n = refl
    swap false true n = refl
    swap false false n = refl

    go : (b : Bool) → movable (insert t xs) ≡ movable (t ∷ xs) → movable (pick b (t ∷ x ∷ xs) (x ∷ insert t xs)) ≡ movable (t ∷ x ∷ xs)
    go true e = refl
    go false e = ap (λ (n : ℕ). pick (is_fixed x.udid) n (suc n)) e ∙ swap (is_fixed x.udid) (is_fixed t.udid) (movable xs)

movable_ascending : (ts : List Target) → movable (ascending ts) ≡ movable ts
movable_ascending [] = refl
movable_ascending (t ∷ ts) = movable_insert t (ascending ts) ∙ ap (λ (n : ℕ). pick (is_fixed t.udid) n (suc n)) (movable_ascending ts)

-- a fixed target stands at this address
abbrev fixed_at : List Target → ℕ → Bool
fixed_at [] a = false
fixed_at (t ∷ ts) a = or (and (is_fixed t.udid) (eqb a (t.address_byte / 2))) (fixed_at ts a)

fixed_at_insert : (t : Target) (xs : List Target) (a : ℕ) → fixed_at (insert t xs) a ≡ fixed_at (t ∷ xs) a
fixed_at_insert t [] a = refl
fixed_at_insert t (x ∷ xs) a = go (ltb (value t.udid) (value x.udid)) (fixed_at_insert t xs a)
  where
    here : Target → Bool
    here y = and (is_fixed y.udid) (eqb a (y.address_byte / 2))

    swap : (b c d : Bool) → or b (or c d) ≡ or c (or b d)
    swap true true d = refl
    swap true false d = refl
    swap false c d = refl

    go : (b : Bool) → fixed_at (insert t xs) a ≡ fixed_at (t ∷ xs) a → fixed_at (pick b (t ∷ x ∷ xs) (x ∷ insert t xs)) a ≡ fixed_at (t ∷ x ∷ xs) a
    go true e = refl
    go false e = ap (or (here x)) e ∙ swap (here x) (here t) (fixed_at xs a)

fixed_at_ascending : (ts : List Target) (a : ℕ) → fixed_at (ascending ts) a ≡ fixed_at ts a
fixed_at_ascending [] a = refl
fixed_at_ascending (t ∷ ts) a = fixed_at_insert t (ascending ts) a ∙ ap (or (and (is_fixed t.udid) (eqb a (t.address_byte / 2)))) (fixed_at_ascending ts a)

-- of the 128 addresses, the pool with the fixed targets has theirs and those that it had
member_with_fixed : (ts : List Target) (p : Pool) (a : ℕ) → a < 128 → member (with_fixed p ts) a ≡ or (fixed_at ts a) (member p a)
member_with_fixed [] p a l = refl
member_with_fixed (t ∷ ts) p a l = go (is_fixed t.udid) (λ q. member_with_fixed ts q a l)
  where
    turned : (b c d : Bool) → or c (or b d) ≡ or (or b c) d
    turned true true d = refl
    turned true false d = refl
    turned false c d = refl

    go : (b : Bool) → ((q : Pool) → member (with_fixed q ts) a ≡ or (fixed_at ts a) (member q a))
        → member (pick b (with_fixed (with_address p (t.address_byte / 2)) ts) (with_fixed p ts)) a ≡ or (or (and b (eqb a (t.address_byte / 2))) (fixed_at ts a)) (member p a)
    go true ih = ih (with_address p (t.address_byte / 2)) ∙ ap (or (fixed_at ts a)) (member_with p (t.address_byte / 2) a l) ∙ turned (eqb a (t.address_byte / 2)) (fixed_at ts a) (member p a)
    go false ih = ih p

used_ascending : (ts : List Target) (p : Pool) → used (with_fixed p (ascending ts)) ≡ used (with_fixed p ts)
unfolding used
used_ascending ts p =
    count_cong (member (with_fixed p (ascending ts))) (member (with_fixed p ts)) 128
    (λ a l. member_with_fixed (ascending ts) p a l ∙ ap (λ (b : Bool). or b (member p a)) (fixed_at_ascending ts a) ∙ sym (member_with_fixed ts p a l))

-- ---- for the targets as they are lent

module _ (occupied : Pool) (last : ℕ) (ts : List Target) (v : AdmittedTargets (barred_pool occupied) ts) where
  room_exactly : (movable ts ≤ left_free (starting_pool occupied) ts) ↔ (used (with_fixed (starting_pool occupied) (ascending ts)) + movable (ascending ts) ≤ 128)
  room_exactly =
      let u = used_ascending ts (starting_pool occupied) in
      let m = movable_ascending ts in
      let l = used_le (with_fixed (starting_pool occupied) ts) in
      (λ h. omega (arith, u, m, l, h), λ h. omega (arith, u, m, l, h))

  -- ALL ARE SERVED IF AND ONLY IF the movable ones do not outnumber the addresses left free
  pub all_served : ((ruled (starting_pool occupied) last ts).ending ≡ served) ↔ (movable ts ≤ left_free (starting_pool occupied) ts)
  all_served = (
    λ e. room_exactly.1 (served_has_room (ascending ts) (starting_pool occupied) (barred_pool occupied) last (ready_first occupied ts v) e),
    λ h. (room_serves_all (ascending ts) (starting_pool occupied) (barred_pool occupied) last (ready_first occupied ts v) (room_exactly.0 h)).0,
  )

  -- AND THEN, AND ONLY THEN, each is given an address
  pub all_given : (length (ruled (starting_pool occupied) last ts).given ≡ length ts) ↔ (movable ts ≤ left_free (starting_pool occupied) ts)
  all_given = (
    λ e. all_served.0 (all_given_served (ascending ts) (starting_pool occupied) last (e ∙ sym (length_ascending ts))),
    λ h. (room_serves_all (ascending ts) (starting_pool occupied) (barred_pool occupied) last (ready_first occupied ts v) (room_exactly.0 h)).1 ∙ length_ascending ts,
  )
