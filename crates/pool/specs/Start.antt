-- The sets of addresses that a pass begins with.
use Rattle.pool.specs.Pools.{union_of}
use Rattle.pool.specs.declared.Pool.{Pool}

abbrev pub empty_pool : Pool
empty_pool = record { low = 0; high = 0 }

-- 00h to 08h, 0Ch, 28h, 37h; 61h, 78h to 7Fh
unfoldable pub reserved_pool : Pool
reserved_pool = record { low = 0x00800100000011FF; high = 0xFF00000200000000 }

-- those, and 09h to 0Bh, 2Ch, 2Dh; 40h to 44h, 48h to 4Bh
unfoldable pub listed_pool : Pool
listed_pool = record { low = 0x0080310000001FFF; high = 0xFF00000200000F1F }

-- nothing is picked from these: the listed and the occupied ones together
unfoldable pub starting_pool : Pool → Pool
starting_pool occupied = union_of listed_pool occupied

-- not even a fixed target may stand on these: the reserved and the occupied ones together
unfoldable pub barred_pool : Pool → Pool
barred_pool occupied = union_of reserved_pool occupied
