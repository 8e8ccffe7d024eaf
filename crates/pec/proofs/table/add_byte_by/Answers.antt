use Rattle.std.proofs.Common.{refl, arith}
use Rattle.std.proofs.lemmas.Nat.{xor_lt}
use Rattle.pec.specs.Table.{step_by}
use Rattle.pec.proofs.table.add_byte_by.Goals as goal

pub overflow_cast-result : goal.overflow_cast-result
overflow_cast-result c = record { fits = (let h = xor_lt 8 c.args.c c.args.b (omega arith) (omega arith) in omega arith) }

pub bounds-t-c : goal.bounds-t-c
bounds-t-c c = xor_lt 8 c.args.c c.args.b (omega arith) (omega arith)

pub returns : goal.returns
unfolding step_by
returns c = refl
