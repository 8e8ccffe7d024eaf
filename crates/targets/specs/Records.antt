-- The records of targets, 18 bytes each: the identifier, highest byte first, the device address byte, the resolved flag.
use Rattle.std.specs.Prelude.{ℕ, zero, suc, ◌+◌, ◌*◌, ◌/◌, List, [], ◌∷◌, ltb, length, get_or, set}
use Rattle.lists.specs.Choice.{pick}
use Rattle.udid.specs.Bytes.{udid_at}
use Rattle.udid.specs.declared.Udid.{Udid}
use Rattle.targets.specs.Target.{Target, resolve}

-- the bytes of a record, and the most targets of a list
abbrev pub record_size : ℕ
record_size = 18

abbrev pub most_targets : ℕ
most_targets = 120

-- the three fields of record i
abbrev pub udid_of : List ℕ → ℕ → Udid
udid_of s i = udid_at s (i * 18)

abbrev pub address_byte : List ℕ → ℕ → ℕ
address_byte s i = get_or s (i * 18 + 16) 0

abbrev pub flag_of : List ℕ → ℕ → ℕ
flag_of s i = get_or s (i * 18 + 17) 0

unfoldable pub target_at : List ℕ → ℕ → Target
target_at s i = record { udid = udid_of s i; address_byte = address_byte s i; flag = flag_of s i }

-- the n targets from record i on
abbrev pub targets_from : List ℕ → ℕ → ℕ → List Target
targets_from s zero i = []
targets_from s (suc n) i = target_at s i ∷ targets_from s n (suc i)

-- how many whole records there are, and their targets
abbrev pub record_count : List ℕ → ℕ
record_count s = length s / 18

abbrev pub targets_of : List ℕ → List Target
targets_of s = targets_from s (record_count s) 0

-- ---- the records with the address bytes and flags of targets, all else as it was

unfoldable pub put_target : ℕ → Target → List ℕ → List ℕ
put_target i t s = set (set s (i * 18 + 16) t.address_byte) (i * 18 + 17) t.flag

abbrev pub put_from : List Target → ℕ → List ℕ → List ℕ
put_from [] i s = s
put_from (t ∷ ts) i s = put_from ts (suc i) (put_target i t s)

abbrev pub records_with : List Target → List ℕ → List ℕ
records_with ts s = put_from ts 0 s

-- what the function assign leaves: a number above 127 is no address, and nothing changes
abbrev pub assigned_in : Udid → ℕ → List ℕ → List ℕ
assigned_in u a s = pick (ltb 127 a) s (records_with (resolve u a (targets_of s)) s)
