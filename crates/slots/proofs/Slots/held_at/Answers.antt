use Rattle.std.proofs.Common.{sym, ◌∙◌, arith}
use Rattle.slots.proofs.SlotsLaws.{held_bound, held_claimed, held_left, held_open, held_above_is_open}
use Rattle.slots.proofs.Slots.held_at.Goals as goal

pub returns-then-a-gt127 : goal.returns-then-a-gt127
returns-then-a-gt127 c = let s = c.args in sym (held_above_is_open s.self s.a.0 (omega arith))

pub returns-then-has : goal.returns-then-has
returns-then-has c = let s = c.args in sym (held_bound s.self s.a.0 (sym c.has.ensures ∙ c.if-has.true))

pub returns-then-has-2 : goal.returns-then-has-2
returns-then-has-2 c = let s = c.args in sym (held_claimed s.self s.a.0 (sym c.has.ensures ∙ c.if-has.false) (sym c.has-2.ensures ∙ c.if-has-2.true))

pub returns-then-has-3 : goal.returns-then-has-3
returns-then-has-3 c = let s = c.args in sym (held_left s.self s.a.0 (sym c.has.ensures ∙ c.if-has.false) (sym c.has-2.ensures ∙ c.if-has-2.false) (sym c.has-3.ensures ∙ c.if-has-3.true))

pub returns : goal.returns
returns c = let s = c.args in sym (held_open s.self s.a.0 (sym c.has.ensures ∙ c.if-has.false) (sym c.has-2.ensures ∙ c.if-has-2.false) (sym c.has-3.ensures ∙ c.if-has-3.false))
