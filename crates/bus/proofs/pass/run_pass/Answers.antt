use Rattle.std.proofs.Common.{suc, ◌+◌, ◌-◌, ◌≡◌, sym, ap, ◌∙◌, arith}
use Rattle.arp.specs.Controller.{started}
use Rattle.lists.specs.EachLaws.{all_bytes}
use Rattle.bus.specs.TurnLaws.{sent_matches}
use Rattle.bus.specs.GoingLaws.{running_first, running_next, running_last, running_still}
use Rattle.bus.proofs.pass.run_pass.Goals as goal

pub loop-init : goal.loop-init
loop-init c = running_first c.args.occupied c.args.last c.start-st.result c.args.records.now (c.start-st.ensures ∙ ap started c.new.ensures) (all_bytes c.args.records.now (λ j. omega (arith, c.type_inv.records j))) c.requires

pub returns-then-not-is_sent : goal.returns-then-not-is_sent
returns-then-not-is_sent c = let l = c.loop in running_still c.args.occupied c.args.last c.args.records.now c.start-st.result (c.start-st.ensures ∙ ap started c.new.ensures) (300 - l.counter) l.st l.records (sym c.is_sent.ensures ∙ c.if-not-is_sent.true) l.invariant

pub loop-preserved : goal.loop-preserved
loop-preserved c =
    let l = c.loop in
    let after = c.send-n.new.records in
    let e : 300 - l.counter ≡ suc (300 - (l.counter + 1)) = omega arith in
    running_next _ c.args.records.now (300 - (l.counter + 1)) l.st c.step-st.result l.records after (rw e at l.invariant)
    (all_bytes after (λ j. omega (arith, c.type_inv.records j)))
    (sym c.is_sent.ensures ∙ c.if-not-is_sent.false)
    (sent_matches l.st c.step-st.result l.records after _ l.invariant.bytes l.invariant.fit l.invariant.going c.send-n.ensures.1 c.step-st.ensures c.send-n.ensures.2)

pub returns : goal.returns
returns c =
    let l = c.loop in
    running_last c.args.occupied c.args.last c.args.records.now c.start-st.result (c.start-st.ensures ∙ ap started c.new.ensures) (300 - l.counter) l.st l.records (omega arith) l.invariant
