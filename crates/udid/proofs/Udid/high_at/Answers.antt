use Rattle.udid.specs.Bytes.{udid_at}
use Rattle.udid.proofs.Udid.high_at.Goals as goal

pub returns : goal.returns
unfolding udid_at
returns c = c.whole.ensures
