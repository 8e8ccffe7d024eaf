use Rattle.std.proofs.Common.{refl}
use Rattle.text.specs.WordLaws.{part_got}
use Rattle.text.proofs.word.part.Goals as goal

pub returns : goal.returns
returns g c = rw c.unwrap_or.ensures (part_got c.args.s.now c.args.from c.args.to c.get.result _ refl c.get.ensures.lookup.0)
