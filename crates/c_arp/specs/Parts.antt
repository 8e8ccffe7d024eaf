-- Identifiers and sets of addresses as structs for C, there and back.
use Rattle.std.specs.Prelude.{ℕ, Option, Some, None}
use Rattle.pool.specs.declared.Pool.{Pool}
use Rattle.udid.specs.declared.Udid.{Udid}
use Rattle.c_arp.specs.declared.parts.HbUdid.{HbUdid}
use Rattle.c_arp.specs.declared.parts.HbPool.{HbPool}
use Rattle.wire.specs.declared.address.Address.{Address}

-- what C gave
abbrev pub udid_in : HbUdid → Udid
udid_in u = record { high = u.high; low = u.low }

abbrev pub pool_in : HbPool → Pool
pool_in p = record { low = p.low; high = p.high }

-- what C is given
abbrev pub told_udid : Udid → HbUdid
told_udid u = record { high = u.high; low = u.low }

abbrev pub told_pool : Pool → HbPool
told_pool p = record { low = p.low; high = p.high }

-- a free address, or 128 where all are used
abbrev pub free_number : Option Address → ℕ
free_number (Some a) = a.0
free_number None = 128
