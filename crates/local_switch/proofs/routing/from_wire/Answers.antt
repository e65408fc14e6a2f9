-- The mask of the accepting pools is 0 exactly where no pool accepts.
use Rattle.std.proofs.Common.{arith, ◌≡◌, ◌≢◌, ℕ, List, Some, refl, ◌<◌, ◌^◌, ◌&&◌, ◌||◌, not, Bool, true, false, sym, ap, ◌∙◌, eqb, eq-eqb}
use Rattle.std.proofs.lemmas.Bool.{ne_eqb}
use Rattle.std.proofs.Math.Bool.{or-false}
use Rattle.wire_frame.specs.Bits.{has_bit}
use Rattle.wire_frame.proofs.BitLemmas.{has_bit_zero}
use Rattle.addr_tables.proofs.MaskLemmas.{mask_is_zero}
use Rattle.pool_filter.specs.Settings.{Settings}
use Rattle.pool_filter.specs.Accepts.{accepts, default_pool}
use Rattle.local_switch.specs.Switch.{is_accepted, is_pool, takes_from_wire}
use Rattle.local_switch.proofs.routing.from_wire.Goals as goal

none_accepts : (s : Settings) (frame : List ℕ) (mask : ℕ) → mask < 2 ^ 64 → ((p : ℕ) → p < 64 → has_bit mask p ≡ accepts s p frame) → not (is_accepted s frame) ≡ eqb mask 0
unfolding is_accepted
none_accepts s frame mask fits bits = sym (mask_is_zero mask (λ pool. accepts s pool frame) fits bits)

some_accept : (s : Settings) (frame : List ℕ) (mask p : ℕ) → p < 64 → mask < 2 ^ 64 → mask ≢ 0 → ((q : ℕ) → q < 64 → has_bit mask q ≡ accepts s q frame) → has_bit mask p ≡ takes_from_wire s frame p
unfolding takes_from_wire
some_accept s frame mask p h fits some bits =
    let none : not (is_accepted s frame) ≡ false = none_accepts s frame mask fits bits ∙ ne_eqb mask 0 some in
    bits p h ∙ sym (or-false _) ∙ ap (λ (b : Bool). accepts s p frame || (b && is_pool (default_pool s) p)) (sym none)

pub returns-then-accepting-ne0 : goal.returns-then-accepting-ne0
returns-then-accepting-ne0 c = λ p h. some_accept c.args.tables.now c.args.frame.bytes.now _ p h (omega arith) c.if-accepting-ne0.true c.accepting_pools-accepting.ensures

falls_to_default : (s : Settings) (frame : List ℕ) (mask pool p : ℕ) (bit : Bool) → p < 64 → mask ≡ 0 → ((q : ℕ) → q < 64 → has_bit mask q ≡ accepts s q frame) → default_pool s ≡ Some pool → bit ≡ eqb pool p → bit ≡ takes_from_wire s frame p
unfolding takes_from_wire
falls_to_default s frame mask pool p bit h empty bits default is =
    let refused : accepts s p frame ≡ false = sym (bits p h) ∙ ap (λ (n : ℕ). has_bit n p) empty ∙ has_bit_zero p in
    let none : not (is_accepted s frame) ≡ true = none_accepts s frame mask (omega arith) bits ∙ eq-eqb mask 0 empty in
    is ∙ rw (refused, none, default) refl

pub returns-in-Some : goal.returns-in-Some
returns-in-Some c = λ p h. falls_to_default c.args.tables.now c.args.frame.bytes.now _ _ p _ h c.if-accepting-ne0.false c.accepting_pools-accepting.ensures (sym c.in-Some.ensures) (c.bit_of.ensures p h)
