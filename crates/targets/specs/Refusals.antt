-- The check of a target list: the tests of the refusals 9 to 12, and the first record that fails one. Cases says in words of the scope
-- when each is given, and RefusalLaws that it is given then and only then. `barred` are the addresses on which not even a fixed target may
-- stand: the reserved and the occupied ones.
use Rattle.std.specs.Prelude.{Option, Some, None, ℕ, ◌*◌, ◌/◌, ◌%◌, Bool, List, eqb, ltb, length, Ok, Err}
use Rattle.lists.specs.Choice.{pick, or, and, not}
use Rattle.pool.specs.Pools.{member}
use Rattle.pool.specs.declared.Pool.{Pool}
use Rattle.udid.specs.Udids.{same_udid, is_fixed}
use Rattle.targets.specs.First.{first, some}
use Rattle.targets.specs.Records.{record_size, most_targets, udid_of, address_byte, flag_of, record_count}
use Rattle.targets.specs.Checked.{Checked}
use Rattle.targets.specs.declared.admit.ListError.{ListError}
use Rattle.targets.specs.declared.admit.ListError.TheVariants.{BadLength, Malformed, Repeated, Taken}

-- 9: over 2,160 bytes, or no multiple of 18
abbrev pub is_bad_length : ℕ → Bool
is_bad_length l = or (ltb (most_targets * record_size) l) (not (eqb (l % record_size) 0))

-- 10: byte 16 even, or byte 17 above 1
abbrev pub is_malformed : List ℕ → ℕ → Bool
is_malformed s i = or (eqb (address_byte s i % 2) 0) (ltb 1 (flag_of s i))

-- 11: record i has the identifier of an earlier record j
abbrev pub is_same_as : List ℕ → ℕ → ℕ → Bool
is_same_as s i j = same_udid (udid_of s j) (udid_of s i)

abbrev pub is_repeated : List ℕ → ℕ → Bool
is_repeated s i = some (is_same_as s i) i

-- 12: record i is fixed, and its address is barred or that of an earlier fixed record j
abbrev pub is_fixed_as : List ℕ → ℕ → ℕ → Bool
is_fixed_as s i j = and (is_fixed (udid_of s j)) (eqb (address_byte s j / 2) (address_byte s i / 2))

abbrev pub is_taken : Pool → List ℕ → ℕ → Bool
is_taken barred s i = and (is_fixed (udid_of s i)) (or (member barred (address_byte s i / 2)) (some (is_fixed_as s i) i))

-- refused for the record that was found, or what else is answered
abbrev pub refused_by : Option ℕ → (ℕ → ListError) → Checked → Checked
refused_by None why rest = rest
refused_by (Some i) why rest = Err (why i)

-- 10, 11, 12, each over the first n records
abbrev pub among_records : Pool → List ℕ → ℕ → Checked
among_records barred s n =
    refused_by (first (is_malformed s) n) Malformed (refused_by (first (is_repeated s) n) Repeated (refused_by (first (is_taken barred s) n) Taken (Ok tt)))

-- 9 comes before them
unfoldable pub checked_list : Pool → List ℕ → Checked
checked_list barred s = pick (is_bad_length (length s)) (Err BadLength) (among_records barred s (record_count s))
