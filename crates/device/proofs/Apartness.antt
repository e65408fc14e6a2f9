-- A group of which no function may reach one outside, by the test of the settings, sends none a frame.
use Rattle.std.proofs.Common.{◌≡◌, ℕ, ◌%◌, Bool, true, false, not, ◌&&◌, ◌||◌, List, [], ◌∷◌, refl, sym, ap, ◌∙◌, eqb, eqb-true, true≢false}
use Rattle.std.proofs.lemmas.Bool.{and_parts}
use Rattle.std.specs.Prelude.{◌==◌, if◌then◌else◌}
use Rattle.std.specs.List.{list_any}
use Rattle.wire_frame.specs.Frame.{is_tagged, vlan_id, tag_control}
use Rattle.wire_frame.specs.declared.vlan.PortVlan.{PortVlan}
use Rattle.wire_frame.specs.declared.vlan.PortVlan.TheVariants.{Descriptor, Always, Never}
use Rattle.pool_filter.specs.Vlans.{is_filtering, has_vlan}
use Rattle.pool_filter.specs.Settings.{Settings}
use Rattle.pool_filter.specs.Accepts.{loops_back, takes_untagged, accepts, is_in_vlan}
use Rattle.pool_filter.specs.Own.{own, contains, port_vlan_of}
use Rattle.pool_filter.specs.Reach.{have_common, tag_arrives, share_a_vlan, vlans_meet, may_reach, KeepsApart}
use Rattle.pool_filter.proofs.OwnLemmas.{contains_own_vlan_ids}
use Rattle.pool_filter.proofs.ReachLemmas.{untagged_of}
use Rattle.anti_spoof.specs.Permitted.{permitted, is_in_own_vlan}
use Rattle.local_switch.specs.Switch.{takes_from_pool}
use Rattle.device.specs.Erased.{may_send, bears_port_tag, IsApart}

-- ---- of truth values

implied : (a b : Bool) → a ≡ true → (not a || b) ≡ true → b ≡ true
implied true b on is = is
implied false b on is = absurd (true≢false (sym on))

-- what holds where the condition does
under : (a b : Bool) → (a ≡ true → b ≡ true) → (not a || b) ≡ true
under true b h = h refl
under false b h = refl

both : (a b : Bool) → a ≡ true → b ≡ true → (a && b) ≡ true
both a b e f = λ i. e i && f i

either : (a b : Bool) → b ≡ true → (a || b) ≡ true
either true b is = refl
either false b is = is

-- a number of the list that passes the test
found : (test : ℕ → Bool) (xs : List ℕ) (x : ℕ) → contains xs x ≡ true → test x ≡ true → list_any test xs ≡ true
found test [] x there passes = there
found test (y ∷ ys) x there passes = go (eqb y x) refl there (λ later. found test ys x later passes)
  where
    go : (b : Bool) → eqb y x ≡ b → (b || contains ys x) ≡ true → (contains ys x ≡ true → list_any test ys ≡ true) → list_any test (y ∷ ys) ≡ true
    go true is h rest = ap (λ c. c || list_any test ys) (ap test (eqb-true y x is) ∙ passes)
    go false is h rest = either (test y) (list_any test ys) (rest h)

-- ---- a frame in the VLANs of both

-- its tag is the sender's port tag
tag_met : (s : Settings) (r : ℕ) (frame : List ℕ) (rule : PortVlan) → is_filtering s.vlans ≡ true → bears_port_tag rule frame ≡ true → is_in_vlan s r frame ≡ true → tag_arrives rule (own s r) ≡ true
unfolding is_in_vlan
tag_met s r frame Descriptor on bears inside = refl
tag_met s r frame Never on bears inside = refl
tag_met s r frame (Always tag) on bears inside =
    let parts = and_parts (is_tagged frame) (tag_control frame == tag) bears in
    let same : tag_control frame ≡ tag = eqb-true (tag_control frame) tag parts.1 in
    contains_own_vlan_ids s r (tag % 4096)
    ∙ sym (λ i. not (on i) || (if parts.0 i then has_vlan s.vlans r (same i % 4096) else takes_untagged s r))
    ∙ inside

-- it passed the check of the sender's VLANs
vlan_met : (s : Settings) (q r : ℕ) (frame : List ℕ) (tagged : Bool) → is_tagged frame ≡ tagged → is_filtering s.vlans ≡ true → is_in_own_vlan (own s q) frame ≡ true → is_in_vlan s r frame ≡ true → share_a_vlan (own s q) (own s r) ≡ true
unfolding is_in_own_vlan is_in_vlan share_a_vlan
vlan_met s q r frame true is on sends inside =
    let mine : contains (own s q).vlan_ids (vlan_id frame) ≡ true = sym (rw is refl) ∙ sends in
    let has : has_vlan s.vlans r (vlan_id frame) ≡ true = sym (rw (on, is) refl) ∙ inside in
    ap (λ b. b || ((own s q).takes_untagged && (own s r).takes_untagged))
    (found (contains (own s r).vlan_ids) (own s q).vlan_ids (vlan_id frame) mine (contains_own_vlan_ids s r (vlan_id frame) ∙ has))
vlan_met s q r frame false is on sends inside =
    let mine : (own s q).takes_untagged ≡ true = sym (rw is refl) ∙ sends in
    let takes : takes_untagged s r ≡ true = sym (rw (on, is) refl) ∙ inside in
    either (have_common (own s q).vlan_ids (own s r).vlan_ids) _ (both _ _ mine (untagged_of s r ∙ takes))

-- ---- who is sent a frame may be reached

vlans_met : (s : Settings) (q r : ℕ) (frame : List ℕ) → may_send (own s q) frame ≡ true → is_in_vlan s r frame ≡ true → is_filtering s.vlans ≡ true → vlans_meet (own s q) (own s r) ≡ true
unfolding vlans_meet permitted
vlans_met s q r frame may inside on =
    let sends = and_parts _ _ (and_parts (own s q).may_transmit _ may).1 in
    both _ _ (tag_met s r frame (port_vlan_of (own s q).port_vlan) on sends.1 inside)
    (under (own s q).checks_vlan _ (λ checks. vlan_met s q r frame _ refl on (implied _ _ checks (and_parts _ _ sends.0).1) inside))

reached : (s : Settings) (q r : ℕ) (frame : List ℕ) → may_send (own s q) frame ≡ true → takes_from_pool s q frame r ≡ true → may_reach s q r ≡ true
unfolding takes_from_pool accepts may_reach
reached s q r frame may takes =
    let looped = and_parts (loops_back s) _ takes in
    let inside : is_in_vlan s r frame ≡ true = (and_parts _ _ (and_parts _ _ looped.1).0).1 in
    both _ _ looped.0 (both _ _ (and_parts (own s q).may_transmit _ may).0 (under (is_filtering s.vlans) _ (vlans_met s q r frame may inside)))

pub apart_by_test : (group : ℕ → Bool) (s : Settings) → KeepsApart s group → IsApart group s
apart_by_test group s test q r frame small small' here there may = go (takes_from_pool s q frame r) refl
  where
    go : (b : Bool) → takes_from_pool s q frame r ≡ b → takes_from_pool s q frame r ≡ false
    go true is = absurd (true≢false (sym (reached s q r frame may is) ∙ test q r small small' here there))
    go false is = is
