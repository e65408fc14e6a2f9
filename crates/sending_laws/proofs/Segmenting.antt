-- A frame that is being cut gives its segments one after the other.
use Rattle.std.proofs.Common.{◌≡◌, ℕ, zero, suc, ◌+◌, true, false, List, ◌∷◌, map, Option, Some, nat_lt, ◌==◌, refl, ap, ◌∙◌, arith}
use Rattle.std.specs.List.{range_with_len}
use Rattle.std.proofs.lemmas.Bool.Decides.{nat_tests}
use Rattle.rings.specs.Ring.{RingState, head_slot}
use Rattle.tx_desc.specs.declared.terms.Terms.{Terms}
use Rattle.tx_desc.specs.declared.sending.Segments.{Segments}
use Rattle.tx_desc.specs.declared.sending.Stage.TheVariants.{Cutting}
use Rattle.tx_desc.specs.declared.sending.Sending.{Sending}
use Rattle.tx_desc.specs.Transmit.{next}
use Rattle.tx_desc.specs.Offloaded.{Serving, is_plain, fetch_with, served_next, served_at, segments_of, next_segment, concluded, emptied}
use Rattle.sending_laws.specs.Steps.{outcomes, after, count_for, leaving_segment}

-- one step of a queue whose frame is being cut
step_is : (t : Terms) (memory : List ℕ) (ring : RingState) (s : Sending) (g : Segments) (at : ℕ) → is_plain t.offloads ≡ false → head_slot ring ≡ Some at → segments_of s.stage ≡ Some g
    → fetch_with t memory ring s ≡ concluded at g.last memory ring (next_segment t s g)
unfolding fetch_with
step_is t memory ring s g at some slot cut =
    rw some (ap (served_next t memory ring s) slot ∙ ap (λ (o : Option Segments). served_at o t memory ring s at) cut)

-- the next number
abbrev following : Segments → Segments
following g = record { first = g.first; last = g.last; number = g.number + 1 }

-- one that isn't the last leaves, and the frame goes on
more_left : (t : Terms) (s : Sending) (g : Segments) (more : ℕ) → g.number + suc (suc more) ≡ count_for t s g
    → next_segment t s g ≡ record { outcome = leaving_segment t s g g.number; is_done = false; falls_short = false; sending = record s { stage = Cutting (record { first = g.first; last = g.last; number = g.number + 1 }) } }
unfolding next_segment
more_left t s g more is =
    let there : nat_lt g.number (count_for t s g) ≡ true = grind (arith, nat_tests, is) in
    let last : (g.number + 1 == count_for t s g) ≡ false = grind (arith, nat_tests, is) in
    rw (there, last) refl

-- the last one leaves, and the frame is done with
none_left : (t : Terms) (s : Sending) (g : Segments) → g.number + 1 ≡ count_for t s g
    → next_segment t s g ≡ record { outcome = leaving_segment t s g g.number; is_done = true; falls_short = false; sending = emptied s }
unfolding next_segment
none_left t s g is =
    let there : nat_lt g.number (count_for t s g) ≡ true = grind (arith, nat_tests, is) in
    let last : (g.number + 1 == count_for t s g) ≡ true = grind (arith, nat_tests, is) in
    rw (there, last) refl

-- ---- all of them

-- what a step leaves to the rest, where the frame goes on
then_outcomes : (t : Terms) (memory : List ℕ) (ring : RingState) (s : Sending) (g : Segments) (at k : ℕ) (left : Serving) → fetch_with t memory ring s ≡ left
    → outcomes t (suc k) memory ring s ≡ left.outcome ∷ outcomes t k left.memory left.ring left.sending
then_outcomes t memory ring s g at k left is = λ i. (is i).outcome ∷ outcomes t k (is i).memory (is i).ring (is i).sending

then_after : (t : Terms) (memory : List ℕ) (ring : RingState) (s : Sending) (k : ℕ) (left : Serving) → fetch_with t memory ring s ≡ left
    → after t (suc k) memory ring s ≡ after t k left.memory left.ring left.sending
then_after t memory ring s k left is = λ i. after t k (is i).memory (is i).ring (is i).sending

-- the frame as it is when the next segment is due
abbrev on : Sending → Segments → Sending
on s g = record s { stage = Cutting (record { first = g.first; last = g.last; number = g.number + 1 }) }

moved : (n more count : ℕ) → n + suc (suc more) ≡ count → n + 1 + suc more ≡ count
moved n more count is = omega (arith, is)

last_one : (n count : ℕ) → n + suc zero ≡ count → n + 1 ≡ count
last_one n count is = omega (arith, is)

pub all_leave : (more : ℕ) (t : Terms) (memory : List ℕ) (ring : RingState) (s : Sending) (g : Segments) (at : ℕ) → is_plain t.offloads ≡ false → head_slot ring ≡ Some at → segments_of s.stage ≡ Some g → g.number + suc more ≡ count_for t s g
    → outcomes t (suc more) memory ring s ≡ map (leaving_segment t s g) (range_with_len g.number (suc more))
all_leave zero t memory ring s g at some slot cut is =
    then_outcomes t memory ring s g at zero _ (step_is t memory ring s g at some slot cut ∙ ap (concluded at g.last memory ring) (none_left t s g (last_one g.number _ is)))
all_leave (suc more) t memory ring s g at some slot cut is =
    then_outcomes t memory ring s g at (suc more) _ (step_is t memory ring s g at some slot cut ∙ ap (concluded at g.last memory ring) (more_left t s g more is))
    ∙ ap (λ fs. leaving_segment t s g g.number ∷ fs) (all_leave more t memory ring (on s g) (following g) at some slot refl (moved g.number more _ is))

pub all_done : (more : ℕ) (t : Terms) (memory : List ℕ) (ring : RingState) (s : Sending) (g : Segments) (at : ℕ) → is_plain t.offloads ≡ false → head_slot ring ≡ Some at → segments_of s.stage ≡ Some g → g.number + suc more ≡ count_for t s g
    → after t (suc more) memory ring s ≡ record { ring = next ring; sending = emptied s }
all_done zero t memory ring s g at some slot cut is =
    then_after t memory ring s zero _ (step_is t memory ring s g at some slot cut ∙ ap (concluded at g.last memory ring) (none_left t s g (last_one g.number _ is)))
all_done (suc more) t memory ring s g at some slot cut is =
    then_after t memory ring s (suc more) _ (step_is t memory ring s g at some slot cut ∙ ap (concluded at g.last memory ring) (more_left t s g more is))
    ∙ all_done more t memory ring (on s g) (following g) at some slot refl (moved g.number more _ is)
