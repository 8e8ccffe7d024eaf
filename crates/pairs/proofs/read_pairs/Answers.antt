use Rattle.std.proofs.Common.{rules, ◌≡◌, arith, get_or, ◌+◌, ◌*◌}
use Rattle.pairs.specs.Pairs.{symbols_in}
use Rattle.pairs.proofs.TurnLaws.{symbols_turn}
use Rattle.pairs.proofs.read_pairs.Goals as goal

pub loop-i-init : goal.loop-i-init
unfolding symbols_in
loop-i-init c = search rules

pub loop-i-preserved : goal.loop-i-preserved
loop-i-preserved c =
    let l = c.loop-i in
    let a = c.args in
    let e : c.from_le_bytes.result ≡ get_or a.bytes.now (2 * l.i) 0 + 256 * get_or a.bytes.now (2 * l.i + 1) 0 = omega (arith, c.from_le_bytes.ensures) in
    rw (e, l.invariant) (symbols_turn a.symbols.now a.bytes.now l.i (omega arith))
