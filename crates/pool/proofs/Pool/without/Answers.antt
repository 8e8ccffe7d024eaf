use Rattle.std.proofs.Common.{◌≡◌, sym, ◌∙◌, true, false, lt-ltb, le-ltb}
use Rattle.pool.specs.Pools.{member, without_address}
use Rattle.pool.proofs.Pool.without.Goals as goal

pub returns-then-not-has : goal.returns-then-not-has
unfolding without_address
returns-then-not-has c =
    let s = c.args in
    let h : member s.self s.a.0 ≡ false = sym c.has.ensures ∙ c.if-not-has.true in
    simp h

pub returns-then-n-lt64 : goal.returns-then-n-lt64
unfolding without_address
returns-then-n-lt64 c =
    let s = c.args in
    let h : member s.self s.a.0 ≡ true = sym c.has.ensures ∙ c.if-not-has.false in
    simp (h, lt-ltb _ _ c.if-n-lt64.true, c.turned.ensures)

pub returns-else-n-lt64 : goal.returns-else-n-lt64
unfolding without_address
returns-else-n-lt64 c =
    let s = c.args in
    let h : member s.self s.a.0 ≡ true = sym c.has.ensures ∙ c.if-not-has.false in
    simp (h, le-ltb _ _ c.if-n-lt64.false, c.turned-else-n-lt64.ensures)
