-- What is sure of each thing that a trace tells.
use Rattle.std.specs.Prelude.{ℕ, zero, suc, ◌<◌, ◌≡◌, refl, Bool, true, false, List, [], eqb, length, get_or, drop, Ok, Err}
use Rattle.std.proofs.Common.{arith}
use Rattle.lists.specs.Choice.{pick}
use Rattle.lists.specs.Each.{Bytes}
use Rattle.trace.specs.declared.transaction.Transaction.{Transaction}
use Rattle.scan.specs.Handed.{lows, received_length, received_place}
use Rattle.scan.specs.Numbers.{is_nack}
use Rattle.scan.specs.Decoded.{Decoded}
use Rattle.udid.specs.Bytes.{udid_at}
use Rattle.udid.proofs.UdidLaws.{fits_at}
use Rattle.udid.specs.Udids.{Fits}
use Rattle.udid.proofs.WindowLaws.{byte_at}
use Rattle.udid.specs.declared.Udid.{Udid}
use Rattle.wire.specs.declared.address.Address.{Address}
use Rattle.hearing.specs.TraceLaws.{complete_assign_is_its_trace}
use Rattle.hearing.specs.Heard.{answer, sent_in, received_in, is_prepare, is_get, is_assign, nobody}
use Rattle.commands.specs.Codes.{send_byte, block_read, block_write}
use Rattle.commands.specs.Requests.{trace_of}
use Rattle.hearing.specs.Told.{told_prepare, told_reply, told_get, told_assign, tells, no_command}
use Rattle.commands.specs.declared.command.Command.TheVariants.{Prepare, GetUdid, Assign}
use Rattle.commands.specs.declared.command.Handed.{Handed}
use Rattle.commands.specs.declared.command.Handed.TheVariants.{Send, Wait}
use Rattle.hearing.specs.declared.told.Told.{Told}
use Rattle.hearing.specs.declared.told.Told.TheVariants.{Again, Over, GivenUp, Reply, Took, Unasked}

-- ---- data that the decoder hands over are bytes

lows_bytes : (n : ℕ) (l : List ℕ) → Bytes (lows n l)
lows_bytes zero l = tt
lows_bytes (suc n) l = (omega arith, lows_bytes n (drop 2 l))

pub received_are_bytes : (protocol : ℕ) (tr : List ℕ) → Bytes (received_in protocol tr)
received_are_bytes protocol tr = lows_bytes (received_length (answer protocol tr)) (drop (received_place true (received_length (answer protocol tr)) (length tr)) tr)

-- ---- what is sure

-- where k was handed out last and tr was received: a reply has an identifier of two halves and a byte; what was taken is the Assign that is
-- outstanding, and tr is its trace; and nothing was asked where no command is outstanding
abbrev pub Known : Handed → List ℕ → Told → Type 0
Known k tr Again = Unit
Known k tr Over = Unit
Known k tr GivenUp = Unit
Known k tr (Reply u b) = Fits u × (b < 256)
Known k tr (Took u a) = (k ≡ Send (Assign u a)) × (tr ≡ trace_of (Send (Assign u a)) [])
Known k tr Unasked = no_command k ≡ true

-- either of two, by the test between them
either : (P : Told → Type 0) (b : Bool) (x y : Told) → (b ≡ true → P x) → (b ≡ false → P y) → P (pick b x y)
either P true x y f g = f refl
either P false x y f g = g refl

module _ (k : Handed) (tr : List ℕ) where
  known_prepare : (d : Decoded) (xs : List ℕ) → Known k tr (told_prepare d xs)
  known_prepare (Ok t) xs = either (Known k tr) (is_prepare t xs) Again GivenUp (λ e. tt) (λ e. tt)
  known_prepare (Err r) xs = either (Known k tr) (is_nack r.why) Over GivenUp (λ e. tt) (λ e. tt)

  known_reply : (t : Transaction) (xs : List ℕ) → Bytes xs → Known k tr (told_reply t xs)
  known_reply t xs h =
      either (Known k tr) (is_get t) _ Again
      (λ e. either (Known k tr) (eqb t.received 17) (Reply (udid_at xs 0) (get_or xs 16 0)) Over (λ f. (fits_at xs 0 h, byte_at xs 16 h)) (λ f. tt))
      (λ e. tt)

  known_get : (d : Decoded) (xs : List ℕ) → Bytes xs → Known k tr (told_get d xs)
  known_get (Ok t) xs h = known_reply t xs h
  known_get (Err r) xs h = either (Known k tr) (nobody (Err r)) Over Again (λ e. tt) (λ e. tt)

known_assign : (u : Udid) (a : Address) (tr : List ℕ) (d : Decoded) → answer block_write tr ≡ d → Known (Send (Assign u a)) tr (told_assign u a d (sent_in block_write tr))
known_assign u a tr (Ok t) e =
    either (Known (Send (Assign u a)) tr) (is_assign u a.0 t (sent_in block_write tr)) (Took u a) Again (λ h. (refl, complete_assign_is_its_trace u a tr t e h)) (λ h. tt)
known_assign u a tr (Err r) e = tt

pub told_known : (k : Handed) (tr : List ℕ) → Known k tr (tells k tr)
told_known (Send Prepare) tr = known_prepare (Send Prepare) tr (answer send_byte tr) (sent_in send_byte tr)
told_known (Send GetUdid) tr = known_get (Send GetUdid) tr (answer block_read tr) (received_in block_read tr) (received_are_bytes block_read tr)
told_known (Send (Assign u a)) tr = known_assign u a tr (answer block_write tr) refl
told_known (Wait e) tr = refl
