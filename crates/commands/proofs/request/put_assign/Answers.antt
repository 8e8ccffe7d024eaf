use Rattle.std.proofs.Common.{arith}
use Rattle.commands.proofs.Requests.{assign_data_written, no_address_refused}
use Rattle.commands.proofs.request.put_assign.Goals as goal

pub returns-then-a-gt127 : goal.returns-then-a-gt127
returns-then-a-gt127 c = no_address_refused _ _ _ (omega (arith, c.if-a-gt127.true))

pub returns : goal.returns
returns c = let s = c.args in assign_data_written s.u s.a _ s.out.now c.encode.result _ (omega (arith, c.if-a-gt127.false)) c.assign_data-sent.ensures c.encode.ensures
