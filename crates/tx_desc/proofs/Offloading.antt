-- A step of a queue does what is due of its frame, and then goes on.
use Rattle.std.proofs.Common.{◌≡◌, ℕ, ◌+◌, ◌^◌, ◌<◌, ◌≤◌, Bool, true, false, ◌&&◌, List, [], ◌∷◌, ◌++◌, length, slice_range, if◌then◌else◌, sym, ap, ◌∙◌, subst, append-nil}
use Rattle.guest_memory.specs.Memory.{overwrite, word_bytes, two_words}
use Rattle.live_memory.specs.Trace.{Access, Read, met}
use Rattle.live_memory.proofs.Accesses.{listed_then}
use Rattle.rings.specs.Ring.{RingState}
use Rattle.tx_desc.specs.declared.descriptor.Kind.{Kind}
use Rattle.tx_desc.specs.declared.descriptor.TxDescriptor.{TxDescriptor}
use Rattle.tx_desc.specs.declared.outcome.Progress.{Progress}
use Rattle.tx_desc.specs.declared.outcome.Turn.{Turn}
use Rattle.tx_desc.specs.declared.outcome.Ending.{Ending}
use Rattle.tx_desc.specs.declared.terms.Terms.{Terms}
use Rattle.tx_desc.specs.declared.sending.Sending.{Sending}
use Rattle.tx_desc.specs.Transmit.{wants_report, done_word, next, descriptor_at}
use Rattle.tx_desc.specs.Lent.{fetched_in, lent_after}
use Rattle.tx_desc.specs.Fetches.{Holds, ReadsApart, KeepsApart}
use Rattle.tx_desc.specs.Offloaded.{Step, Serving, concluded, taken_with, kind_with, next_taken}
use Rattle.tx_desc.specs.OffloadedAccesses.{done_write, taken_with_accesses, descriptor_accesses}
use Rattle.tx_desc.specs.Serves.{Serves, Ends}
use Rattle.tx_desc.proofs.Taking.{met_report, keeps_report, descriptor_there}

-- what is due by another name
pub serves_as : (due same : Serving) (turn : Turn) (bytes : List ℕ) (state : RingState) (left : Sending) (lent filled : List ℕ) → due ≡ same → Serves same turn bytes state left lent filled → Serves due turn bytes state left lent filled
serves_as due same turn bytes state left lent filled is done = subst (λ (d : Serving). Serves d turn bytes state left lent filled) (sym is) done

-- the frame is what is due, and then the queue goes on or stays
pub serves_then : (at word : ℕ) (m : List ℕ) (ring : RingState) (step same : Step) (ending : Ending) (turn : Turn) (bytes : List ℕ) (state : RingState) (left : Sending) (lent filled : List ℕ)
    → step ≡ same → Ends step ending left lent filled
    → turn.outcome ≡ ending.outcome → turn.reported ≡ (ending.is_done && wants_report word) → turn.falls_short ≡ ending.falls_short
    → bytes ≡ (if ending.is_done && wants_report word then overwrite (at + 8) (word_bytes (done_word word)) m else m)
    → state ≡ (if ending.is_done then next ring else ring)
    → Serves (concluded at word m ring same) turn bytes state left lent filled
serves_then at word m ring step same ending turn bytes state left lent filled is ends outcome reported short memory on =
    let done : ending.is_done ≡ same.is_done = ends.is_done ∙ ap (λ (s : Step). s.is_done) is in
    record {
      outcome = ap (λ (p : Progress). fetched_in p filled) outcome ∙ ends.outcome ∙ ap (λ (s : Step). s.outcome) is;
      frame = ends.frame ∙ ap (λ (s : Step). lent_after s.outcome lent) is;
      reported = reported ∙ ap (λ (b : Bool). b && wants_report word) done;
      falls_short = short ∙ ends.falls_short ∙ ap (λ (s : Step). s.falls_short) is;
      memory = memory ∙ ap (λ (b : Bool). if b && wants_report word then overwrite (at + 8) (word_bytes (done_word word)) m else m) done;
      ring = on ∙ ap (λ (b : Bool). if b then next ring else ring) done;
      sending = ends.sending ∙ ap (λ (s : Step). s.sending) is;
    }

-- ---- reads, and then the report where the queue is done

pub met_done : (shared : Bool) (place : ℕ) (t0 t1 t2 : List Access) (m0 m1 : List ℕ) (d : TxDescriptor) (done : Bool) → ReadsApart shared place t0 t1 m0 m1 → t2 ≡ t1 ++ done_write done d → met t0 t2 m0 ≡ m1
unfolding done_write
met_done shared place t0 t1 t2 m0 m1 d true one two = met_report shared place t0 t1 t2 m0 m1 d one two
met_done shared place t0 t1 t2 m0 m1 d false one two = ap (λ (t : List Access). met t0 t m0) (two ∙ append-nil t1) ∙ sym one.read.met_is

pub keeps_done : (shared : Bool) (place : ℕ) (t0 t1 t2 : List Access) (m0 m1 : List ℕ) (d : TxDescriptor) (done : Bool) → ReadsApart shared place t0 t1 m0 m1 → t2 ≡ t1 ++ done_write done d → d.at + 16 ≤ length m0 → KeepsApart shared place t0 t2 m0
unfolding done_write
keeps_done shared place t0 t1 t2 m0 m1 d true one two inside = keeps_report shared place t0 t1 t2 m0 m1 d one two inside
keeps_done shared place t0 t1 t2 m0 m1 d false one two inside =
    subst (λ (t : List Access). KeepsApart shared place t0 t m0) (sym (two ∙ append-nil t1)) (record {
      traced = one.read.traced;
      apart = one.apart;
      size = ap length (sym one.read.met_is) ∙ one.read.size;
      kept = ap (λ (m : List ℕ). slice_range m place (place + 16)) (sym one.read.met_is) ∙ one.kept;
    })

-- ---- the descriptor that was read

pub taken_there : (t : Terms) (found m : List ℕ) (ring : RingState) (s : Sending) (at n : ℕ) (d : TxDescriptor) (kind : Kind) → found ≡ m → d.at ≡ at → Holds m d → d.buffer < 2 ^ 64 → d.word < 2 ^ 64 → d.at + 16 ≤ length m → length m ≡ n → kind ≡ kind_with t.offloads n d → next_taken t found ring s (descriptor_at at found) ≡ taken_with kind t m ring s d
taken_there t found m ring s at n d kind same place holds low high fits len is =
    let there : descriptor_at at m ≡ d = ap (λ (p : ℕ). descriptor_at p m) (sym place) ∙ descriptor_there d.at d.buffer d.word m low high fits holds in
    ap (λ (l : List ℕ). next_taken t l ring s (descriptor_at at l)) same
    ∙ ap (λ (x : TxDescriptor). next_taken t m ring s x) there
    ∙ ap (λ (k : ℕ). taken_with (kind_with t.offloads k d) t m ring s d) len
    ∙ ap (λ (k : Kind). taken_with k t m ring s d) (sym is)

pub listed_there : (t : Terms) (found m : List ℕ) (s : Sending) (at n : ℕ) (d : TxDescriptor) (kind : Kind) (t0 t1 t2 : List Access) → found ≡ m → d.at ≡ at → Holds m d → d.buffer < 2 ^ 64 → d.word < 2 ^ 64 → d.at + 16 ≤ length m → length m ≡ n → kind ≡ kind_with t.offloads n d → t1 ≡ t0 ++ Read at (two_words d.buffer d.word) ∷ [] → t2 ≡ t1 ++ taken_with_accesses kind t m s d → t2 ≡ t0 ++ descriptor_accesses t found s (descriptor_at at found)
listed_there t found m s at n d kind t0 t1 t2 same place holds low high fits len is one two =
    let there : descriptor_at at m ≡ d = ap (λ (p : ℕ). descriptor_at p m) (sym place) ∙ descriptor_there d.at d.buffer d.word m low high fits holds in
    let due : descriptor_accesses t found s (descriptor_at at found) ≡ Read d.at (two_words d.buffer d.word) ∷ taken_with_accesses kind t m s d =
    ap (λ (l : List ℕ). descriptor_accesses t l s (descriptor_at at l)) same
    ∙ ap (λ (x : TxDescriptor). descriptor_accesses t m s x) there
    ∙ ap (λ (k : ℕ). Read d.at (two_words d.buffer d.word) ∷ taken_with_accesses (kind_with t.offloads k d) t m s d) len
    ∙ ap (λ (k : Kind). Read d.at (two_words d.buffer d.word) ∷ taken_with_accesses k t m s d) (sym is) in
    listed_then t0 t1 t2 (Read d.at (two_words d.buffer d.word) ∷ []) (taken_with_accesses kind t m s d) (one ∙ ap (λ (p : ℕ). t0 ++ Read p (two_words d.buffer d.word) ∷ []) (sym place)) two
    ∙ ap (λ (a : List Access). t0 ++ a) (sym due)
