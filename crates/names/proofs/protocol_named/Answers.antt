use Rattle.std.proofs.Common.{rules}
use Rattle.names.specs.Names.{protocol_named}
use Rattle.names.proofs.protocol_named.Goals as goal

pub returns : goal.returns
unfolding protocol_named
returns c = search rules
