use Rattle.commands.proofs.Requests.{wrote_same_command, end_refused}
use Rattle.commands.proofs.request.put_command.Goals as goal

pub returns-in-Send : goal.returns-in-Send
returns-in-Send c = let s = c.args in wrote_same_command s.k _ s.reply.now _ _ _ c.in-Send.is c.put_sent.ensures

pub returns-in-Wait : goal.returns-in-Wait
returns-in-Wait c = let s = c.args in end_refused s.k _ s.reply.now s.out.now c.in-Wait.is
