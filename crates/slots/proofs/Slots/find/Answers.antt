use Rattle.std.proofs.Common.{ℕ, suc, ◌+◌, ◌-◌, ◌<◌, ◌≤◌, ◌≡◌, refl, sym, ap, ◌∙◌, Bool, true, false, Option, Some, None, add-one, arith, le-ltb}
use Rattle.lists.specs.Choice.{and}
use Rattle.pool.specs.Pools.{member}
use Rattle.wire.specs.declared.address.Address.{Address}
use Rattle.udid.specs.Udids.{same_udid}
use Rattle.udid.specs.declared.Udid.{Udid}
use Rattle.slots.specs.Finding.{bound_to, find_from, address_found}
use Rattle.slots.specs.Slots.{kept_udid, held_at}
use Rattle.slots.proofs.FindingLaws.{bound_by_udid}
use Rattle.slots.specs.declared.Slots.{Slots}
use Rattle.slots.proofs.Slots.find.Goals as goal
use Rattle.slots.proofs.Slots.find.Goals.{else-is_same-via-then-is_same+else-has, else-is_same-via-else-is_same}

and_false : (x : Bool) → and x false ≡ false
and_false true = refl
and_false false = refl

here : (u : Udid) (s : Slots) (a : ℕ) → a < 128 → bound_to u (held_at s a) ≡ true → ◌≡◌ {A = Option Address} (address_found (find_from u s (128 - a) a)) (Some (record { 0 = a }))
unfolding find_from
here u s a h e = let n : 128 - a ≡ suc (127 - a) = omega arith in rw n (simp (e, le-ltb 127 a (omega arith)))

onward : (u : Udid) (s : Slots) (a : ℕ) → a < 128 → bound_to u (held_at s a) ≡ false → find_from u s (128 - a) a ≡ find_from u s (128 - (a + 1)) (a + 1)
unfolding find_from
onward u s a h e = let n : 128 - a ≡ suc (128 - (a + 1)) = omega arith in rw (n, add-one a) (simp e)

nowhere : (u : Udid) (s : Slots) (a : ℕ) → 128 ≤ a → ◌≡◌ {A = Option Address} (address_found (find_from u s (128 - a) a)) None
unfolding find_from
nowhere u s a h = let e : 128 - a ≡ 0 = omega arith in rw e

pub returns-then-has : goal.returns-then-has
returns-then-has c =
    let l = c.loop-n in
    let s = c.args in
    let e : same_udid (kept_udid s.self l.n) s.u ≡ true = sym c.is_same.ensures ∙ c.if-is_same.true in
    let m : member s.self.bound l.n ≡ true = sym c.has.ensures ∙ c.if-has.true in
    sym (ap address_found l.invariant ∙ here s.u s.self l.n c.loop-n-test.true (bound_by_udid s.self l.n s.u ∙ rw (m, e)))

pub loop-n-preserved : goal.loop-n-preserved
loop-n-preserved c =
    let l = c.loop-n in
    let s = c.args in
    let other : bound_to s.u (held_at s.self l.n) ≡ false = bound_by_udid s.self l.n s.u ∙ elim c.else-is_same.branch [
      | else-is_same-via-then-is_same+else-has w ↦ (let m : member s.self.bound l.n ≡ false = sym w.has.ensures ∙ w.if-has.false in rw m)
      | else-is_same-via-else-is_same w ↦ (let e : same_udid (kept_udid s.self l.n) s.u ≡ false = sym c.is_same.ensures ∙ w.if-is_same.false in rw e (and_false (member s.self.bound l.n)))
    ] in
    l.invariant ∙ onward s.u s.self l.n c.loop-n-test.true other

pub returns : goal.returns
returns c = let l = c.loop-n in let s = c.args in sym (ap address_found l.invariant ∙ nowhere s.u s.self l.n c.loop-n-test.false)
