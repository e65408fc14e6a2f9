-- Who receives a frame, and whether it leaves for the wire.
use Rattle.std.specs.Prelude.{ℕ, Bool, true, false, not, ◌&&◌, ◌||◌, ◌==◌, List, Option, Some, None}
use Rattle.std.specs.List.{list_any, range_with_len}
use Rattle.byteorder.specs.Endian.{little_number}
use Rattle.wire_frame.specs.Frame.{destination}
use Rattle.wire_frame.specs.Address.{kind_of}
use Rattle.wire_frame.specs.declared.address.AddressKind.{AddressKind}
use Rattle.wire_frame.specs.declared.address.AddressKind.TheVariants.{Broadcast, Multicast, Unicast}
use Rattle.addr_tables.specs.Addresses.{is_held}
use Rattle.pool_filter.specs.Settings.{Settings}
use Rattle.pool_filter.specs.Accepts.{accepts, default_pool, loops_back, may_receive}
use Rattle.local_switch.specs.declared.ways.Source.{Source}
use Rattle.local_switch.specs.declared.ways.Source.TheVariants.{Wire, Pool}

-- some pool, of all 64, accepts the frame
unfoldable pub is_accepted : Settings → List ℕ → Bool
is_accepted s frame = list_any (λ pool. accepts s pool frame) (range_with_len 0 64)

-- the pool is that one, if there is one
abbrev pub is_pool : Option ℕ → ℕ → Bool
is_pool None pool = false
is_pool (Some one) pool = one == pool

-- a frame from the wire is for the pools that accept it, and for the default pool where no pool does
unfoldable pub takes_from_wire : Settings → List ℕ → ℕ → Bool
takes_from_wire s frame pool = accepts s pool frame || (not (is_accepted s frame) && is_pool (default_pool s) pool)

-- a frame of a pool is, under loopback, for every other pool that accepts it
unfoldable pub takes_from_pool : Settings → ℕ → List ℕ → ℕ → Bool
takes_from_pool s sender frame pool = loops_back s && (accepts s pool frame && not (sender == pool))

abbrev pub is_for_pool : Settings → Source → List ℕ → ℕ → Bool
is_for_pool s Wire frame pool = takes_from_wire s frame pool
is_for_pool s (Pool sender) frame pool = takes_from_pool s sender frame pool

-- the frame is for the pool, and the pool may receive
unfoldable pub receives : Settings → Source → List ℕ → ℕ → Bool
receives s from frame pool = is_for_pool s from frame pool && may_receive s pool

-- the frame is for a group, or for an address that no pool holds
abbrev pub is_group : AddressKind → Bool
is_group Broadcast = true
is_group Multicast = true
is_group Unicast = false

abbrev pub is_for_the_wire : Settings → List ℕ → Bool
is_for_the_wire s frame = is_group (kind_of (destination frame)) || not (is_held s.addresses (little_number 6 (destination frame)))

-- the frame goes to the wire: one of a pool does without loopback, and else where it may be for someone there
abbrev pub leaves : Settings → Source → List ℕ → Bool
leaves s Wire frame = false
leaves s (Pool sender) frame = not (loops_back s) || is_for_the_wire s frame
