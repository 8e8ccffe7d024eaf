use Rattle.arp.proofs.Steps.{choice_settled}
use Rattle.arp.proofs.state.Controller.settle.Goals as goal

pub returns : goal.returns
returns c =
    let s = c.args in
    let h = c.held_at in
    let m = c.makes_claim-taken in
    let x = c.is_fixed in
    let r = c.reason_for-reason in
    let l = c.pick_after in
    let k = c.choice_for in
    choice_settled s.direct s.self s.u s.picks s.a h.result m.result x.result r.result l.result k.result _ h.ensures m.ensures x.ensures r.ensures l.ensures k.ensures c.hand.ensures
