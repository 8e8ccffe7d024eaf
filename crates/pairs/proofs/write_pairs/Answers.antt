use Rattle.std.proofs.Common.{rules, ◌≡◌, arith, get_or, ◌%◌, ◌/◌}
use Rattle.pairs.specs.Pairs.{pairs_of}
use Rattle.pairs.proofs.TurnLaws.{pairs_turn}
use Rattle.pairs.proofs.write_pairs.Goals as goal

pub loop-i-init : goal.loop-i-init
unfolding pairs_of
loop-i-init c = search rules

pub loop-i-preserved : goal.loop-i-preserved
loop-i-preserved c =
    let l = c.loop-i in
    let s = c.args.symbols.now in
    let high : get_or s l.i 0 / 256 % 256 ≡ get_or s l.i 0 / 256 = omega (arith, c.type_inv.symbols l.i) in
    rw (c.to_le_bytes.ensures, high, l.invariant) (pairs_turn c.args.out.now s l.i c.loop-i-test.true c.requires)
