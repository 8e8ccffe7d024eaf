use Rattle.std.proofs.Common.{ℕ, suc, ◌+◌, ◌-◌, ◌<◌, ◌≡◌, sym, ap, ◌∙◌, add-one, arith}
use Rattle.std.specs.Prelude.{Option}
use Rattle.std.specs.Option.{option_or}
use Rattle.wire.specs.declared.address.Address.{Address}
use Rattle.pool.specs.Free.{free_from, lowest_free}
use Rattle.pool.specs.NextFree.{next_free}
use Rattle.pool.specs.NextFreeLaws.{next_above}
use Rattle.pool.specs.declared.Pool.{Pool}
use Rattle.pool.proofs.Pool.next_free.Goals as goal

-- the answer of the search above the last one, or else the lowest
next : (p : Pool) (n : ℕ) (f : Option Address) → n < 127 → f ≡ free_from p (128 - (n + 1)) (n + 1) → next_free p n ≡ option_or f (lowest_free p)
unfolding next_free
next p n f h e =
    let k : 128 - (n + 1) ≡ 127 - n = omega arith in
    let m : free_from p (127 - n) (suc n) ≡ f = sym (e ∙ rw (k, add-one n)) in
    ap (λ (x : Option Address). option_or x (lowest_free p)) m

pub returns-then-last-ge127 : goal.returns-then-last-ge127
returns-then-last-ge127 c = let a = c.args in c.lowest_free.ensures ∙ sym (next_above a.self a.last c.if-last-ge127.true)

pub returns-in-Some : goal.returns-in-Some
returns-in-Some c =
    let a = c.args in
    let f = c.free_from in
    sym (next a.self a.last f.result (omega (arith, c.if-last-ge127.false)) f.ensures ∙ ap (λ (x : Option Address). option_or x (lowest_free a.self)) c.in-Some.is)

pub returns-in-None : goal.returns-in-None
returns-in-None c =
    let a = c.args in
    let f = c.free_from in
    c.free_from-in-None.ensures
    ∙ sym (next a.self a.last f.result (omega (arith, c.if-last-ge127.false)) f.ensures ∙ ap (λ (x : Option Address). option_or x (lowest_free a.self)) c.in-None.is)
