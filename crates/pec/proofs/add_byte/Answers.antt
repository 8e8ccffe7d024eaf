use Rattle.std.proofs.Common.{arith}
use Rattle.std.proofs.lemmas.Nat.{xor_lt}
use Rattle.pec.proofs.FoldLaws.{two_folds}
use Rattle.pec.proofs.add_byte.Goals as goal

pub overflow_cast-c : goal.overflow_cast-c
overflow_cast-c c = record { fits = (let h = xor_lt 8 c.args.c c.args.b (omega arith) (omega arith) in omega arith) }

pub folded-y-requires : goal.folded-y-requires
folded-y-requires c = xor_lt 8 c.args.c c.args.b (omega arith) (omega arith)

pub returns : goal.returns
returns c =
    let a = c.args in
    rw (c.folded-z.ensures, c.folded-y.ensures) (two_folds a.c a.b (omega arith) (omega arith))
