-- What a message of one function leaves to the others, and what it leaves to all.
use Rattle.std.specs.Prelude.{◌≡◌, ℕ, List}
use Rattle.addr_tables.specs.Addresses.{multicast_hit}
use Rattle.vlan_table.specs.Vlans.{is_filtering}
use Rattle.pool_filter.specs.Settings.{Settings}
use Rattle.pool_filter.specs.Own.{own}
use Rattle.pool_filter.specs.Accepts.{accepts, default_pool, loops_back}
use Rattle.anti_spoof.specs.Permitted.{permitted}

-- pool q has the same of its own, accepts the same frames, and may send the same frames
pub record IsSameFor (s t : Settings) (q : ℕ) : Type 0 where
  pub settings : own s q ≡ own t q
  pub accepts : (frame : List ℕ) → accepts s q frame ≡ accepts t q frame
  pub permitted : (frame : List ℕ) → permitted (own s q) frame ≡ permitted (own t q) frame

-- loopback, VLAN filtering, the default pool and the multicast table are the same
pub record IsSameForAll (s t : Settings) : Type 0 where
  pub loopback : loops_back s ≡ loops_back t
  pub filtering : is_filtering s.vlans ≡ is_filtering t.vlans
  pub default_pool : default_pool s ≡ default_pool t
  pub multicast : (address : ℕ) → multicast_hit s.addresses address ≡ multicast_hit t.addresses address
