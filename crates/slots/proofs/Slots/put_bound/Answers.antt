use Rattle.std.proofs.Common.{sym, arith, rules}
use Rattle.slots.specs.Slots.{with_binding}
use Rattle.slots.proofs.SlotsLaws.{put_above}
use Rattle.slots.specs.declared.Binding.TheVariants.{Bound}
use Rattle.slots.proofs.Slots.put_bound.Goals as goal

pub returns-then-a-gt127 : goal.returns-then-a-gt127
returns-then-a-gt127 c =
    let s = c.args.self in sym (put_above s c.args.a.0 (Bound c.args.u) (record { udids = search rules }) (omega arith))

pub returns : goal.returns
unfolding with_binding
returns c = simp c.with-self.ensures
