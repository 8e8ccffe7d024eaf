use Rattle.udid.proofs.WindowLaws.{number_halves}
use Rattle.udid.proofs.read.whole.Goals as goal

pub returns : goal.returns
returns c = rw (c.from.ensures, c.from-2.ensures, c.half.ensures, c.half-2.ensures) (number_halves c.args.s.now c.args.at)
