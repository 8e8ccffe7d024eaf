use Rattle.std.proofs.Common.{refl}
use Rattle.pec.specs.Fold.{folded}
use Rattle.pec.proofs.folded.Goals as goal

pub returns : goal.returns
unfolding folded
returns c = refl
