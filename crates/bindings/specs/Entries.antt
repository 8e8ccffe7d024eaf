-- What is bound to the addresses, the buffer that shows it, and the set of bound addresses.
use Rattle.std.specs.Prelude.{ℕ, zero, suc, ◌*◌, Bool, true, false, List, [], ◌++◌, ltb, Option, Some, None}
use Rattle.lists.specs.Choice.{pick}
use Rattle.pool.specs.Pools.{with_address}
use Rattle.pool.specs.Start.{empty_pool}
use Rattle.pool.specs.declared.Pool.{Pool}
use Rattle.udid.specs.Bytes.{udid_bytes, udid_at, put_at}
use Rattle.udid.specs.declared.Udid.{Udid}

abbrev pub is_bound : Option Udid → Bool
is_bound None = false
is_bound (Some u) = true

-- the identifier whose bytes stand for it: all zeros where nobody is bound
abbrev pub entry_udid : Option Udid → Udid
entry_udid None = record { high = 0; low = 0 }
entry_udid (Some u) = u

abbrev pub entry_bytes : Option Udid → List ℕ
entry_bytes e = udid_bytes (entry_udid e)

-- an entry written at its address; a number above 127 is no address, and nothing changes
abbrev pub put_entry : List ℕ → ℕ → Option Udid → List ℕ
put_entry l a e = pick (ltb 127 a) l (put_at l (16 * a) (entry_bytes e))

-- the identifier read at an address; zeros where the number is none
abbrev pub read_udid : List ℕ → ℕ → Udid
read_udid l a = pick (ltb 127 a) (record { high = 0; low = 0 }) (udid_at l (16 * a))

-- the bytes of the first n addresses, 16 each
unfoldable pub rows_of : (ℕ → Option Udid) → ℕ → List ℕ
rows_of held zero = []
rows_of held (suc n) = rows_of held n ++ entry_bytes (held n)

-- the 2,048 bytes of all 128
abbrev pub buffer_size : ℕ
buffer_size = 2048

abbrev pub buffer_of : (ℕ → Option Udid) → List ℕ
buffer_of held = rows_of held 128

abbrev pub with_entry : Pool → ℕ → Option Udid → Pool
with_entry set a e = pick (is_bound e) (with_address set a) set

-- the bound ones of the n addresses from a on, added to a set
unfoldable pub bound_from : (ℕ → Option Udid) → ℕ → ℕ → Pool → Pool
bound_from held zero a set = set
bound_from held (suc n) a set = bound_from held n (suc a) (with_entry set a (held a))

abbrev pub bound_set : (ℕ → Option Udid) → Pool
bound_set held = bound_from held 128 0 empty_pool
