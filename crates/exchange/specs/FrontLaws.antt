-- START and C2h: every module acknowledges, as its record does, and the command is due.
use Rattle.std.specs.Prelude.{ℕ, ◌≡◌, refl, true, List, [], ◌∷◌}
use Rattle.pec.specs.Pec.{pec_step}
use Rattle.targets.specs.Target.{Target}
use Rattle.rule.specs.Acknowledge.{begins, acknowledges}
use Rattle.module.specs.declared.state.Module.{Module}
use Rattle.module.specs.declared.state.Phase.TheVariants.{Command}
use Rattle.module.specs.Receive.{for_write, starts}
use Rattle.module.specs.State.{at}
use Rattle.module.proofs.SupplyLaws.{start_write}
use Rattle.exchange.specs.Exchange.{record_of}
use Rattle.exchange.specs.WalkLaws.{Follows, follows_ack}

-- PEC after C2h
abbrev pub first : ℕ
first = pec_step 0 for_write

pub first_ack : (t : Target) → acknowledges (256 ∷ 194 ∷ []) t ≡ true
unfolding acknowledges begins
first_ack t = refl

pub front_follows : (m : Module) (t' : Target) (bs : List ℕ) → Follows (256 ∷ 194 ∷ []) (record_of m) t' bs (at m.own Command 0 first 0)
    → Follows (256 ∷ []) (record_of m) t' (194 ∷ bs) (starts m)
front_follows m t' bs h = follows_ack (256 ∷ []) (record_of m) t' 194 bs (starts m) (at m.own Command 0 first 0) (start_write m) (first_ack (record_of m)) h
