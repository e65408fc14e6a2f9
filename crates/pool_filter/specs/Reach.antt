-- From which pools the settings keep a pool's frames, whatever frames it sends.
use Rattle.std.specs.Prelude.{◌≡◌, ℕ, ◌<◌, ◌%◌, Bool, true, false, not, ◌&&◌, ◌||◌, List}
use Rattle.std.specs.List.{list_any}
use Rattle.wire_frame.specs.declared.vlan.PortVlan.{PortVlan}
use Rattle.wire_frame.specs.declared.vlan.PortVlan.TheVariants.{Descriptor, Always, Never}
use Rattle.vlan_table.specs.Vlans.{is_filtering}
use Rattle.pool_filter.specs.Settings.{Settings}
use Rattle.pool_filter.specs.Accepts.{loops_back}
use Rattle.pool_filter.specs.Own.{OwnSettings, own, contains, port_vlan_of}

-- some number is in both lists
abbrev pub have_common : List ℕ → List ℕ → Bool
have_common xs ys = list_any (contains ys) xs

-- a pool with settings n has the VLAN of the tag that a port VLAN puts into every frame
abbrev pub tag_arrives : PortVlan → OwnSettings → Bool
tag_arrives (Always tag) n = contains n.vlan_ids (tag % 4096)
tag_arrives Descriptor n = true
tag_arrives Never n = true

-- two pools have a VLAN in common, or both take untagged frames
unfoldable pub share_a_vlan : OwnSettings → OwnSettings → Bool
share_a_vlan o n = have_common o.vlan_ids n.vlan_ids || (o.takes_untagged && n.takes_untagged)

-- no VLAN keeps the frames of a pool with settings o from one with settings n: not that of the port tag, nor, where the
-- VLANs of its frames are checked, that the two share none
unfoldable pub vlans_meet : OwnSettings → OwnSettings → Bool
vlans_meet o n = tag_arrives (port_vlan_of o.port_vlan) n && (not o.checks_vlan || share_a_vlan o n)

-- nothing keeps the sender's frames from the pool: frames go from pool to pool, the sender may transmit, and no VLAN keeps
-- them from it
unfoldable pub may_reach : Settings → ℕ → ℕ → Bool
may_reach s sender pool = loops_back s && ((own s sender).may_transmit && (not (is_filtering s.vlans) || vlans_meet (own s sender) (own s pool)))

-- no pool of the group may reach one outside it
abbrev pub KeepsApart : Settings → (ℕ → Bool) → Type 0
KeepsApart s group = (q r : ℕ) → q < 64 → r < 64 → group q ≡ true → group r ≡ false → may_reach s q r ≡ false
