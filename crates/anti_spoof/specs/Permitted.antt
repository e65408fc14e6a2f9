-- Whether a pool's own settings permit it to send a frame.
use Rattle.std.specs.Prelude.{ℕ, Bool, not, ◌&&◌, ◌||◌, List, if◌then◌else◌}
use Rattle.byteorder.specs.Endian.{little_number}
use Rattle.wire_frame.specs.Frame.{source, is_tagged, vlan_id}
use Rattle.pool_filter.specs.Own.{OwnSettings, contains}

infix 10 ◌implies◌
abbrev pub ◌implies◌ : Bool → Bool → Bool
a implies b = not a || b

-- the frame's source is an address of the pool
unfoldable pub owns_source : OwnSettings → List ℕ → Bool
owns_source o frame = contains o.addresses (little_number 6 (source frame))

-- a tagged frame is in a VLAN of the pool; an untagged one is, where the pool takes untagged frames
unfoldable pub is_in_own_vlan : OwnSettings → List ℕ → Bool
is_in_own_vlan o frame = if is_tagged frame then contains o.vlan_ids (vlan_id frame) else o.takes_untagged

-- each check that is on is passed
unfoldable pub permitted : OwnSettings → List ℕ → Bool
permitted o frame = (o.checks_address implies owns_source o frame) && (o.checks_vlan implies is_in_own_vlan o frame)
