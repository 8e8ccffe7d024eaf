-- The tests of refusal 1 pass exactly for the valid messages.
use Rattle.std.specs.Prelude.{◌≡◌, refl, Bool, true, false, List, ℕ, ◌+◌, ◌%◌, ◌≤◌, ◌<◌, ltb, leb, eqb, length}
use Rattle.std.proofs.Common.{arith, ltb-true, leb-true, eqb-true, lt-ltb, le-leb, eq-eqb}
use Rattle.lists.specs.Choice.{pick, or}
use Rattle.lists.specs.Each.{Bytes}
use Rattle.lists.specs.ChoiceLaws.{both_true}
use Rattle.wire.specs.Addresses.{host_address}
use Rattle.trace.specs.declared.shape.Part.{Part}
use Rattle.trace.specs.declared.shape.Part.TheVariants.{Nothing, Fixed, Counted}
use Rattle.trace.specs.declared.shape.Shape.{Shape}
use Rattle.trace.specs.Shapes.{writes, reads}
use Rattle.trace.specs.Trace.{Message, LengthOf, counted, Valid}
use Rattle.trace.specs.Allowed.{length_fits, lengths_fit, address_fits, direction_fits, command_fits, allowed}

length_back : (least : ℕ) (a : Part) (s : List ℕ) → length_fits least a (length s) ≡ true → LengthOf least a s
length_back least Nothing s h = eqb-true (length s) 0 h
length_back least (Fixed k) s h = eqb-true (length s) k h
length_back least Counted s h = leb-true least (length s) h

length_there : (least : ℕ) (a : Part) (s : List ℕ) → LengthOf least a s → length_fits least a (length s) ≡ true
length_there least Nothing s h = eq-eqb (length s) 0 h
length_there least (Fixed k) s h = eq-eqb (length s) k h
length_there least Counted s h = le-leb least (length s) h

pub address_back : (b : Bool) (a : ℕ) → pick b (eqb a host_address) (ltb a 128) ≡ true → pick b (a ≡ host_address) (a < 128)
address_back true a h = eqb-true a host_address h
address_back false a h = ltb-true a 128 h

pub address_below_128 : (b : Bool) (a : ℕ) → pick b (a ≡ host_address) (a < 128) → a < 128
address_below_128 true a h = omega arith
address_below_128 false a h = h

pub address_there : (b : Bool) (a : ℕ) → pick b (a ≡ host_address) (a < 128) → pick b (eqb a host_address) (ltb a 128) ≡ true
address_there true a h = eq-eqb a host_address h
address_there false a h = lt-ltb a 128 h

direction_back : (b : Bool) (d : ℕ) → pick b (eqb d 0) (leb d 1) ≡ true → pick b (d ≡ 0) (d ≤ 1)
direction_back true d h = eqb-true d 0 h
direction_back false d h = leb-true d 1 h

direction_there : (b : Bool) (d : ℕ) → pick b (d ≡ 0) (d ≤ 1) → pick b (eqb d 0) (leb d 1) ≡ true
direction_there true d h = eq-eqb d 0 h
direction_there false d h = le-leb d 1 h

pub sender_back : (b : Bool) (c : ℕ) → pick b (eqb (c % 2) 0) true ≡ true → pick b (c % 2 ≡ 0) Unit
sender_back true c h = eqb-true (c % 2) 0 h
sender_back false c h = tt

pub sender_there : (b : Bool) (c : ℕ) → pick b (c % 2 ≡ 0) Unit → pick b (eqb (c % 2) 0) true ≡ true
sender_there true c h = eq-eqb (c % 2) 0 h
sender_there false c h = refl

command_back : (b o : Bool) (c : ℕ) → c < 256 → pick b (pick o (eqb (c % 2) 0) true) (eqb c 0) ≡ true → pick b ((c < 256) × pick o (c % 2 ≡ 0) Unit) (c ≡ 0)
command_back true o c l h = (l, sender_back o c h)
command_back false o c l h = eqb-true c 0 h

command_there : (b o : Bool) (c : ℕ) → pick b ((c < 256) × pick o (c % 2 ≡ 0) Unit) (c ≡ 0) → pick b (pick o (eqb (c % 2) 0) true) (eqb c 0) ≡ true
command_there true o c h = sender_there o c h.1
command_there false o c h = eq-eqb c 0 h

pub allowed_valid : (sh : Shape) (t : Message) → t.command < 256 → Bytes t.sent → Bytes t.received
    → allowed sh t.address t.direction t.command (length t.sent) (length t.received) ≡ true → Valid sh t
unfolding allowed lengths_fit
allowed_valid sh t c s r h =
    let a = both_true (address_fits sh t.address) _ h in
    let d = both_true (direction_fits sh t.direction) _ a.1 in
    let e = both_true (command_fits sh t.command) _ d.1 in
    let f = both_true (length_fits sh.least sh.sent (length t.sent)) _ e.1 in
    let g = both_true (length_fits sh.least sh.received (length t.received)) _ f.1 in
    record {
      address = address_back sh.tohost t.address a.0;
      direction = direction_back (or (writes sh) (reads sh)) t.direction d.0;
      command = command_back sh.command sh.tohost t.command c e.0;
      sent_length_lem = length_back sh.least sh.sent t.sent f.0;
      sent_bytes = s;
      received_length_lem = length_back sh.least sh.received t.received g.0;
      received_bytes = r;
      counts = leb-true (counted sh.sent t.sent + counted sh.received t.received) sh.most g.1;
    }

-- the lengths of a valid message fit
pub lengths_of_valid : (sh : Shape) (t : Message) → Valid sh t → lengths_fit sh (length t.sent) (length t.received) ≡ true
unfolding lengths_fit
lengths_of_valid sh t v =
    rw (
      length_there sh.least sh.sent t.sent v.sent_length_lem,
      length_there sh.least sh.received t.received v.received_length_lem,
      le-leb (counted sh.sent t.sent + counted sh.received t.received) sh.most v.counts,
    )

pub valid_allowed : (sh : Shape) (t : Message) → Valid sh t → allowed sh t.address t.direction t.command (length t.sent) (length t.received) ≡ true
unfolding allowed
valid_allowed sh t v =
    rw (
      address_there sh.tohost t.address v.address,
      direction_there (or (writes sh) (reads sh)) t.direction v.direction,
      command_there sh.command sh.tohost t.command v.command,
      lengths_of_valid sh t v,
    )
