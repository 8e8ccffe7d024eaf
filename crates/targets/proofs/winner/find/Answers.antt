use Rattle.std.proofs.Common.{◌≡◌, ap, ◌∙◌, rules}
use Rattle.targets.specs.Search.{place_of}
use Rattle.targets.specs.Winner.{least_of, winner_of}
use Rattle.targets.proofs.winner.find.Goals as goal

pub returns : goal.returns
unfolding winner_of
returns c =
    let e : c.map.result ≡ place_of c.least.result = search rules in
    e ∙ c.least.ensures ∙ ap (least_of c.args.records.now) c.count.ensures
