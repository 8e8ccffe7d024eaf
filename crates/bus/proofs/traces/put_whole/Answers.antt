use Rattle.bus.proofs.Laws.{sent_front}
use Rattle.bus.proofs.traces.put_whole.Goals as goal

pub unwrap-requires : goal.unwrap-requires
unwrap-requires c = rw (c.requires c.put_command.result _ c.put_command.ensures).0

pub returns : goal.returns
returns c = sent_front c.args.k c.args.reply.now c.args.out.now c.put_command.result _ _ (c.requires c.put_command.result _ c.put_command.ensures) c.unwrap.ensures
