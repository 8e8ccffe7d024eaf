use Rattle.std.proofs.Common.{sym, ◌∙◌, length, length-take-le}
use Rattle.last.specs.LastLaws.{belongs_exactly}
use Rattle.last.proofs.last_data.Goals as goal

pub slice_bounds-result-end-then-has_read : goal.slice_bounds-result-end-then-has_read
slice_bounds-result-end-then-has_read c =
    let w = (belongs_exactly c.args.t (length c.args.sent.now) (length c.args.received.now)).0 (sym c.is_whole.ensures ∙ c.if-not-is_whole.false) in
    sym (length-take-le _ c.args.received.now w.received)

pub slice_bounds-result-end-else-has_read : goal.slice_bounds-result-end-else-has_read
slice_bounds-result-end-else-has_read c =
    let w = (belongs_exactly c.args.t (length c.args.sent.now) (length c.args.received.now)).0 (sym c.is_whole.ensures ∙ c.if-not-is_whole.false) in
    sym (length-take-le _ c.args.sent.now w.sent)
