-- Steps of a queue, one after the other, where nobody touches its ring or the memory between them.
use Rattle.std.specs.Prelude.{ℕ, zero, suc, List, [], ◌∷◌}
use Rattle.rings.specs.Ring.{RingState}
use Rattle.tx_desc.specs.declared.outcome.Fetched.{Fetched}
use Rattle.tx_desc.specs.declared.terms.Terms.{Terms}
use Rattle.tx_desc.specs.declared.sending.Segments.{Segments}
use Rattle.tx_desc.specs.declared.sending.Sending.{Sending}
use Rattle.tx_desc.specs.Offloaded.{fetch_with, context_for, tag_with, room_beside, segments_in, leaving, bytes_of}
use Rattle.offload.specs.Segment.{segment_of}

-- what comes of so many steps
abbrev pub outcomes : Terms → ℕ → List ℕ → RingState → Sending → List Fetched
outcomes t zero memory ring s = []
outcomes t (suc k) memory ring s =
    (fetch_with t memory ring s).outcome ∷ outcomes t k (fetch_with t memory ring s).memory (fetch_with t memory ring s).ring (fetch_with t memory ring s).sending

-- the queue after them
pub record Queue : Type 0 where
  pub ring : RingState
  pub sending : Sending

abbrev pub after : Terms → ℕ → List ℕ → RingState → Sending → Queue
after t zero memory ring s = record { ring = ring; sending = s }
after t (suc k) memory ring s = after t k (fetch_with t memory ring s).memory (fetch_with t memory ring s).ring (fetch_with t memory ring s).sending

-- how many segments the frame that is being cut gives
abbrev pub count_for : Terms → Sending → Segments → ℕ
count_for t s g = segments_in (room_beside (tag_with t (context_for s g.first) g.first g.last) t.limit) (context_for s g.first) s.pending

-- what comes of one of them, by its number
abbrev pub leaving_segment : Terms → Sending → Segments → ℕ → Fetched
leaving_segment t s g n = leaving t.rule t.limit (tag_with t (context_for s g.first) g.first g.last) (segment_of (context_for s g.first) (bytes_of s.pending) n)
