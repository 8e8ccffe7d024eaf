use Rattle.std.proofs.Common.{refl}
use Rattle.pec.specs.Pec.{bit_step, pec_step}
use Rattle.pec.specs.Table.{is_remainder}
use Rattle.pec.specs.declared.remainders.TheConstants.{REMAINDERS}
use Rattle.pec.proofs.TableLaws.{all_entries}
use Rattle.pec.proofs.table.Table.new.Goals as goal

-- the test over the whole table, which antt computes
pub invariant_of-result : goal.invariant_of-result
unfolding is_remainder pec_step bit_step
invariant_of-result c = record { remainders = all_entries REMAINDERS refl refl }
