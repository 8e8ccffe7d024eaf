use Rattle.c_arp.proofs.PassLaws.{reported_nowhere}
use Rattle.c_arp.proofs.pass.report_on.Goals as goal

pub returns-then-address-gt127 : goal.returns-then-address-gt127
returns-then-address-gt127 c = reported_nowhere _ _ c.if-address-gt127.true
