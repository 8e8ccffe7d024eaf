use Rattle.std.proofs.Common.{rules}
use Rattle.scan.proofs.BytesInLaws.{byte_counted}
use Rattle.scan.proofs.ending.count_bytes.Goals as goal

pub returns : goal.returns
returns c = rw (byte_counted c.args.tr.now) (search rules)
