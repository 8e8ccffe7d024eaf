use Rattle.std.proofs.Common.{sym, ◌∙◌, ap}
use Rattle.std.proofs.lemmas.Result.{err_from_is_err_and}
use Rattle.scan.specs.Run.{decoded_by, concluded}
use Rattle.scan.proofs.whole.decode_by.Goals as goal

pub returns-in_err-d : goal.returns-in_err-d
unfolding decoded_by
returns-in_err-d c =
    let a = c.args in
    let p = err_from_is_err_and c.from_residual.result c.from_residual.ensures.1 in
    rw (p.1, p.2) (sym (ap (concluded a.protocol a.rules.shape a.tr.now) (sym c.read_by.ensures ∙ c.in_err-d.was)))

pub returns : goal.returns
unfolding decoded_by
returns c =
    let a = c.args in
    rw c.finished.ensures (sym (ap (concluded a.protocol a.rules.shape a.tr.now) (sym c.read_by.ensures ∙ c.in_ok-d.was)))
