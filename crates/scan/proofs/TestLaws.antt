-- What the code puts together is what the definitions have: the fields of a transaction, the answer at the end.
-- What is tested stands apart, so that nothing else is rewritten.
use Rattle.std.specs.Prelude.{◌≡◌, Bool, List, ℕ, ◌-◌, ◌/◌, length, Ok}
use Rattle.std.proofs.Common.{sym, ap}
use Rattle.lists.specs.Choice.{pick}
use Rattle.wire.specs.declared.address.Address.{Address}
use Rattle.trace.specs.declared.shape.Shape.{Shape}
use Rattle.trace.specs.declared.transaction.Transaction.{Transaction}
use Rattle.scan.specs.Decoded.{refused}
use Rattle.scan.specs.declared.answer.Refusal.TheVariants.{EndsEarly, NotAcknowledged, PecDiffers}
use Rattle.step.specs.declared.state.Decoder.{Decoder}
use Rattle.scan.specs.Refusal.{over}
use Rattle.scan.specs.Run.{byte_count, data_length, direction_of, transaction, is_cut, finish}

-- the fields of what was read
pub transaction_is : (protocol : ℕ) (sh : Shape) (d : Decoder) (a : Address) (w s r : ℕ) → a.0 ≡ d.first / 2 → w ≡ direction_of sh d.first
    → s ≡ data_length sh.sent d.sentcount → r ≡ data_length sh.received d.readcount
    → record { protocol = protocol; address = a; direction = w; command = d.command; sent = s; received = r } ≡ transaction protocol sh d
transaction_is protocol sh d a w s r ea ew es er = made (ap (λ (n : ℕ). record { 0 = n }) ea) ew es er
  where
    made : {a b : Address} {w v s t r q : ℕ} → a ≡ b → w ≡ v → s ≡ t → r ≡ q
        → ◌≡◌ {A = Transaction} (record { protocol = protocol; address = a; direction = w; command = d.command; sent = s; received = r })
        (record { protocol = protocol; address = b; direction = v; command = d.command; sent = t; received = q })
    made ea ew es er = cc

-- the answer at the end
pub finish_is : (protocol : ℕ) (sh : Shape) (d : Decoder) (tr : List ℕ) (b c g : Bool) → is_cut d.due ≡ b → over d.due d.slot ≡ c → d.good ≡ g
    → pick b (refused NotAcknowledged (byte_count tr - 1)) (pick c (pick g (Ok (transaction protocol sh d)) (refused PecDiffers (length tr - 3))) (refused EndsEarly (length tr)))
    ≡ finish protocol sh d tr
unfolding finish
finish_is protocol sh d tr b c g e f h = sym (rw (e, f, h))
