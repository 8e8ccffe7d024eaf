-- The tests of refusal 1, on numbers and on the lengths of the data.
use Rattle.std.specs.Prelude.{Bool, true, ℕ, ◌+◌, ◌%◌, ltb, leb, eqb}
use Rattle.lists.specs.Choice.{pick, or, and}
use Rattle.wire.specs.Addresses.{host_address}
use Rattle.trace.specs.declared.shape.Part.{Part}
use Rattle.trace.specs.declared.shape.Part.TheVariants.{Nothing, Fixed, Counted}
use Rattle.trace.specs.declared.shape.Shape.{Shape}
use Rattle.trace.specs.Shapes.{count_in, writes, reads}

abbrev pub length_fits : ℕ → Part → ℕ → Bool
length_fits least Nothing n = eqb n 0
length_fits least (Fixed k) n = eqb n k
length_fits least Counted n = leb least n

-- each length belongs to its part, and the counts together are not too many
unfoldable pub lengths_fit : Shape → ℕ → ℕ → Bool
lengths_fit sh m n =
    and (length_fits sh.least sh.sent m)
    (and (length_fits sh.least sh.received n) (leb (count_in sh.sent m + count_in sh.received n) sh.most))

abbrev pub address_fits : Shape → ℕ → Bool
address_fits sh a = pick sh.tohost (eqb a host_address) (ltb a 128)

abbrev pub direction_fits : Shape → ℕ → Bool
direction_fits sh d = pick (or (writes sh) (reads sh)) (eqb d 0) (leb d 1)

abbrev pub sender_fits : Shape → ℕ → Bool
sender_fits sh c = pick sh.tohost (eqb (c % 2) 0) true

abbrev pub command_fits : Shape → ℕ → Bool
command_fits sh c = pick sh.command (sender_fits sh c) (eqb c 0)

unfoldable pub allowed : Shape → ℕ → ℕ → ℕ → ℕ → ℕ → Bool
allowed sh address direction command m n =
    and (address_fits sh address) (and (direction_fits sh direction) (and (command_fits sh command) (lengths_fit sh m n)))
