-- A pool that accepts a frame to one address has the address.
use Rattle.std.proofs.Common.{◌≡◌, ℕ, List, refl, ◌<◌, ◌^◌, ◌&&◌, ◌||◌, Bool, true, false, sym, ap, ◌∙◌, eqb, arith}
use Rattle.std.specs.List.{range_with_len}
use Rattle.std.proofs.lemmas.Bool.{ne_eqb, not-false, false≢true}
use Rattle.std.proofs.lemmas.List.Folds.{Any-from_list_any, list_any-from_Any}
use Rattle.byteorder.specs.Endian.{little_number}
use Rattle.wire_frame.specs.Address.{kind_of}
use Rattle.wire_frame.specs.Bits.{has_bit}
use Rattle.wire_frame.specs.Frame.{destination}
use Rattle.wire_frame.specs.declared.address.AddressKind.TheVariants.{Unicast}
use Rattle.addr_tables.specs.Addresses.{has_address, is_held}
use Rattle.addr_tables.proofs.MaskLemmas.{mask_is_zero}
use Rattle.pool_filter.specs.Settings.{Settings}
use Rattle.pool_filter.specs.Accepts.{accepts, takes_group, takes_kind, is_in_vlan}
use Rattle.local_switch.specs.Switch.{is_for_the_wire}
use Rattle.local_switch.proofs.routing.is_for_the_wire.Goals as goal

has_it : (b v : Bool) → ((b || false) && v) ≡ true → b ≡ true
has_it true v h = refl
has_it false v h = absurd (false≢true h)

accepts_its_own : (s : Settings) (frame : List ℕ) (p : ℕ) → kind_of (destination frame) ≡ Unicast → accepts s p frame ≡ true → has_address s.addresses p (little_number 6 (destination frame)) ≡ true
unfolding accepts takes_group
accepts_its_own s frame p one h =
    let to : ℕ = little_number 6 (destination frame) in
    has_it (has_address s.addresses p to) (is_in_vlan s p frame)
    (sym (ap (λ kind. (has_address s.addresses p to || takes_kind s p to kind) && is_in_vlan s p frame) one) ∙ h)

some_holds : (s : Settings) (frame : List ℕ) (mask : ℕ) → mask < 2 ^ 64 → eqb mask 0 ≡ false → kind_of (destination frame) ≡ Unicast → ((p : ℕ) → p < 64 → has_bit mask p ≡ accepts s p frame) → is_held s.addresses (little_number 6 (destination frame)) ≡ true
unfolding is_held
some_holds s frame mask fits some one bits =
    let found = Any-from_list_any (λ p. accepts s p frame) (range_with_len 0 64) (not-false _ (sym (mask_is_zero mask (λ p. accepts s p frame) fits bits) ∙ some)) in
    list_any-from_Any (λ p. has_address s.addresses p (little_number 6 (destination frame))) (range_with_len 0 64)
    (found.0, found.1, found.2, found.3, accepts_its_own s frame found.1 one found.4)

wire_has_none : (s : Settings) (frame : List ℕ) (mask : ℕ) → mask < 2 ^ 64 → eqb mask 0 ≡ false → Unicast ≡ kind_of (destination frame) → ((p : ℕ) → p < 64 → has_bit mask p ≡ accepts s p frame) → eqb mask 0 ≡ is_for_the_wire s frame
wire_has_none s frame mask fits some one bits = some ∙ rw (← one, some_holds s frame mask fits some (sym one) bits) refl

pub returns-else-accepted-eq0 : goal.returns-else-accepted-eq0
returns-else-accepted-eq0 c =
    wire_has_none c.args.tables.now c.args.frame.bytes.now c.args.accepted (omega arith) (ne_eqb c.args.accepted 0 c.if-accepted-eq0.false)
    (c.in-Unicast.ensures ∙ ap kind_of c.dst-destination.ensures) c.requires
