use Rattle.std.proofs.Common.{◌∙◌, ap, ℕ}
use Rattle.std.proofs.lemmas.Bool.{not-true, not-false}
use Rattle.pec.specs.Pec.{pec_from}
use Rattle.encode.specs.Pieces.{bytes_after}
use Rattle.encode.proofs.trace_pec.pec_of.Goals as goal

pub returns-then-not-pec : goal.returns-then-not-pec
returns-then-not-pec c = rw (not-true c.args.pec c.if-not-pec.true-raw)

pub returns : goal.returns
returns c =
    let a = c.args in
    rw (not-false a.pec c.if-not-pec.false-raw) (c.read_pec.ensures ∙ ap (λ (x : ℕ). pec_from x (bytes_after a.sh a.second.0 a.received.now)) c.write_pec-c.ensures)
