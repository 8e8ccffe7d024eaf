use Rattle.pairs.specs.PairLaws.{put_none, put_all}
use Rattle.pairs.proofs.put_pairs.Goals as goal

pub returns-then-out-symbols : goal.returns-then-out-symbols
returns-then-out-symbols c = put_none _ _ c.if-out-symbols.true

pub returns : goal.returns
returns c = put_all _ _ _ c.if-out-symbols.false c.write_pairs.ensures
