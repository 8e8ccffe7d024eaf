use Rattle.std.proofs.Common.{ℕ, ◌+◌, ◌-◌, refl, sym, ap, ◌∙◌, arith}
use Rattle.names.specs.Names.{place_in}
use Rattle.names.proofs.NamesLaws.{place_over, place_here, place_on, place_full}
use Rattle.names.proofs.place_in.Goals as goal

pub returns-then-w-names : goal.returns-then-w-names
returns-then-w-names c = sym (c.loop-k.invariant ∙ place_over c.args.names.now c.args.s.now c.loop-k.at c.loop-k.k (255 - c.loop-k.k) (254 - c.loop-k.k) (omega arith) _ c.next_word-w.ensures (omega arith))

pub returns-then-same : goal.returns-then-same
returns-then-same c = sym (c.loop-k.invariant ∙ place_here c.args.names.now c.args.s.now c.loop-k.at c.loop-k.k (255 - c.loop-k.k) (254 - c.loop-k.k) (omega arith) _ c.next_word-w.ensures (omega arith) _ c.part.ensures _ c.same.ensures c.if-same.true)

pub loop-k-preserved : goal.loop-k-preserved
loop-k-preserved c =
    c.loop-k.invariant ∙ place_on c.args.names.now c.args.s.now c.loop-k.at c.loop-k.k (255 - c.loop-k.k) (254 - c.loop-k.k) (omega arith) _ c.next_word-w.ensures (omega arith) _ c.part.ensures _ c.same.ensures c.if-same.false
    ∙ ap (λ (n : ℕ). place_in n c.args.names.now c.args.s.now c.next_word-w.result.to (c.loop-k.k + 1)) (omega arith)

pub returns : goal.returns
returns c = sym (c.loop-k.invariant ∙ place_full c.args.names.now c.args.s.now c.loop-k.at c.loop-k.k (255 - c.loop-k.k) (omega arith))
