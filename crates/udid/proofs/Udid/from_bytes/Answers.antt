use Rattle.udid.specs.Bytes.{udid_at}
use Rattle.udid.proofs.Udid.from_bytes.Goals as goal

pub returns : goal.returns
unfolding udid_at
returns c = rw (c.whole.ensures, c.whole-2.ensures)
