use Rattle.std.proofs.Common.{sym, ◌∙◌, ap, List, ℕ, length}
use Rattle.lists.specs.Onto.{onto}
use Rattle.encode.proofs.PhaseLaws.{read_asks, end_asks, read_rest, end_rest}
use Rattle.encode.proofs.read.put_rest.Goals as goal

pub put_read_phase-requires : goal.put_read_phase-requires
put_read_phase-requires c =
    (read_asks c.args.sh c.args.second.0 c.args.received.now c.args.pec c.args.pecbyte (length c.args.out.now) c.requires.0 _ (sym c.has_read.ensures ∙ c.if-has_read.true) c.has_write.ensures, c.requires.1 (sym c.has_read.ensures ∙ c.if-has_read.true))

pub put_end-requires : goal.put_end-requires
put_end-requires c =
    end_asks c.args.sh c.args.second.0 c.args.received.now c.args.pec c.args.pecbyte (length c.args.out.now) c.requires.0 (sym c.has_read.ensures ∙ c.if-has_read.false)

pub returns-then-has_read : goal.returns-then-has_read
returns-then-has_read c =
    c.put_read_phase.ensures ∙ ap (λ (t : List ℕ). onto t c.args.out.now) (read_rest c.args.sh c.args.second.0 c.args.received.now c.args.pec c.args.pecbyte _ (sym c.has_read.ensures ∙ c.if-has_read.true) c.has_write.ensures)

pub returns-else-has_read : goal.returns-else-has_read
returns-else-has_read c =
    c.put_end.ensures ∙ ap (λ (t : List ℕ). onto t c.args.out.now) (end_rest c.args.sh c.args.second.0 c.args.received.now c.args.pec c.args.pecbyte (sym c.has_read.ensures ∙ c.if-has_read.false))
