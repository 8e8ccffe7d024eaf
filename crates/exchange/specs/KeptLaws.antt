-- Reading changes no record.
use Rattle.std.specs.Prelude.{ℕ, zero, suc, ◌≡◌, refl, Bool, true, false, List, [], ◌∷◌, map}
use Rattle.std.proofs.Common.{ap, ap₂, ◌∙◌}
use Rattle.lists.specs.Choice.{pick, and, not}
use Rattle.arbitration.specs.Wire.{next, later}
use Rattle.targets.specs.Target.{Target}
use Rattle.module.specs.declared.state.Lasting.{Lasting}
use Rattle.module.specs.declared.state.Module.{Module}
use Rattle.module.specs.Receive.{loses}
use Rattle.module.specs.Supply.{address_byte}
use Rattle.module.proofs.SupplyLaws.{supplied_own}
use Rattle.exchange.specs.Exchange.{record_of, records_of, Sender, asked, line, sees, after, after_byte, after_bytes}

sees_record : (w : Bool) (s : Sender) → record_of (sees w s).who ≡ record_of s.who
sees_record w s = go (and s.sends (and (next s.left) (not w)))
  where
    go : (z : Bool)
        → record_of (pick {A = Sender} z (record { who = loses s.who; sends = false; left = [] }) (record { who = s.who; sends = s.sends; left = later s.left })).who
        ≡ record_of s.who
    go true = refl
    go false = refl

abbrev records : List Sender → List Target
records ss = records_of (map (λ (s : Sender). s.who) ss)

sees_records : (w : Bool) (ss : List Sender) → records (map (sees w) ss) ≡ records ss
sees_records w [] = refl
sees_records w (s ∷ ss) = ap₂ ◌∷◌ (sees_record w s) (sees_records w ss)

after_records : (j : ℕ) (ss : List Sender) → records (after j ss) ≡ records ss
unfolding after
after_records zero ss = refl
after_records (suc j) ss = after_records j (map (sees (line ss)) ss) ∙ sees_records (line ss) ss

asked_records : (ms : List Module) → records (map asked ms) ≡ records_of ms
asked_records [] = refl
asked_records (m ∷ ms) =
    ap₂ ◌∷◌ (ap (λ (o : Lasting). record { udid = o.udid; address_byte = address_byte o; flag = pick o.resolved 1 0 }) (supplied_own m)) (asked_records ms)

pub bytes_records : (n : ℕ) (ms : List Module) → records_of (after_bytes n ms) ≡ records_of ms
unfolding after_bytes
bytes_records zero ms = refl
bytes_records (suc n) ms = bytes_records n (after_byte ms) ∙ after_records 8 (map asked ms) ∙ asked_records ms
