use Rattle.arp.proofs.Steps.{reply_none, reply_at}
use Rattle.arp.proofs.state.Controller.on_reply.Goals as goal

pub returns-in_default : goal.returns-in_default
returns-in_default c =
    let s = c.args in
    let n = c.free-next in
    let k = c.choose in
    reply_none s.direct s.self s.u s.b n.result k.result _ n.ensures k.ensures c.in_default.is c.hand.ensures

pub returns : goal.returns
returns c =
    let s = c.args in
    let n = c.free-next in
    let k = c.choose in
    let t = c.has_to_pick in
    reply_at s.direct s.self s.u s.b n.result k.result _ n.ensures k.ensures _ t.result c.in-Some.is t.ensures c.settle.ensures
