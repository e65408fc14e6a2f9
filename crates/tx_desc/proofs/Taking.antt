-- Taking a descriptor: what is met by its accesses, and what is due on that.
use Rattle.std.proofs.Common.{◌≡◌, ℕ, ◌+◌, ◌-◌, ◌^◌, ◌<◌, ◌≤◌, Bool, List, [], ◌∷◌, ◌++◌, length, take, drop, slice_range, Some, None, refl, sym, ap, subst, ◌∙◌, arith, append-nil}
use Rattle.std.proofs.lemmas.List.{places, same_lists, drop-take, drop-drop}
use Rattle.byteorder.specs.Endian.{little_number, little_bytes}
use Rattle.byteorder.specs.Numbers.{little_number-reads_back}
use Rattle.guest_memory.specs.Memory.{word_at, two_words}
use Rattle.live_memory.specs.Trace.{Access, Read, since, reads, met, IsTraced, HasRead}
use Rattle.live_memory.proofs.Accesses.{since_is, since_join, met_join, met_still, listed_then}
use Rattle.live_memory.proofs.Once.{not_read_append, not_read_none, traced_writes, met_writes, traced_then, Later}
use Rattle.rings.specs.Ring.{RingState, head_slot}
use Rattle.wire_frame.specs.declared.vlan.PortVlan.{PortVlan}
use Rattle.tx_desc.specs.declared.descriptor.Kind.{Kind}
use Rattle.tx_desc.specs.declared.descriptor.TxDescriptor.{TxDescriptor}
use Rattle.tx_desc.specs.declared.outcome.Served.{Served}
use Rattle.tx_desc.specs.Transmit.{Fetching, Gathering, fetch, fetch_next, taken, kind_of, descriptor_at}
use Rattle.tx_desc.specs.Fetches.{Fetches, Holds, ReadsApart, KeepsApart}
use Rattle.tx_desc.specs.Accesses.{report_write, taken_accesses, fetch_accesses}
use Rattle.tx_desc.proofs.Listing.{report_unread, report_once, accesses_some}

-- what is due by another name
pub fetches_as : (due same : Fetching) (served : Served) (bytes : List ℕ) (state : RingState) (gathered : Gathering) (lent filled : List ℕ) → due ≡ same → Fetches same served bytes state gathered lent filled → Fetches due served bytes state gathered lent filled
fetches_as due same served bytes state gathered lent filled is done = subst (λ (d : Fetching). Fetches d served bytes state gathered lent filled) (sym is) done

-- ---- reads, and writes behind them

pub met_report : (shared : Bool) (place : ℕ) (t0 t1 t2 : List Access) (m0 m1 : List ℕ) (d : TxDescriptor) → ReadsApart shared place t0 t1 m0 m1 → t2 ≡ t1 ++ report_write d → met t0 t2 m0 ≡ m1
met_report shared place t0 t1 t2 m0 m1 d one two = met_writes shared t0 t1 t2 (report_write d) m0 m1 one.read.met_is one.read.traced two (report_unread d)

pub keeps_report : (shared : Bool) (place : ℕ) (t0 t1 t2 : List Access) (m0 m1 : List ℕ) (d : TxDescriptor) → ReadsApart shared place t0 t1 m0 m1 → t2 ≡ t1 ++ report_write d → d.at + 16 ≤ length m0 → KeepsApart shared place t0 t2 m0
keeps_report shared place t0 t1 t2 m0 m1 d one two inside =
    let is = met_report shared place t0 t1 t2 m0 m1 d one two in
    let own : since t1 t2 ≡ report_write d = since_is t1 t2 (report_write d) two in
    let grown : t2 ≡ t1 ++ since t1 t2 = two ∙ ap (λ (t : List Access). t1 ++ t) (sym own) in
    record {
      traced = traced_writes shared t0 t1 t2 (report_write d) m0 one.read.traced two (report_unread d) (report_once (length m0) d inside);
      apart = rw (since_join t0 t1 t2 one.read.traced.grown grown) (not_read_append place 16 (since t0 t1) (since t1 t2) one.apart (not_read_none place 16 (since t1 t2) (ap reads own ∙ report_unread d)));
      size = ap length is ∙ one.read.size;
      kept = ap (λ (l : List ℕ). slice_range l place (place + 16)) is ∙ one.kept;
    }

-- ---- the descriptor that was read

first_eight : (m : List ℕ) (s : ℕ) → s + 16 ≤ length m → take 8 (slice_range m s (s + 16)) ≡ slice_range m s (s + 8)
first_eight m s fits = same_lists _ _ (grind (arith, places)) (λ k d h. grind (arith, places))

last_eight : (m : List ℕ) (s : ℕ) → drop 8 (slice_range m s (s + 16)) ≡ slice_range m (s + 8) (s + 8 + 8)
last_eight m s =
    let sixteen : s + 16 - s ≡ 8 + 8 = omega arith in
    let eight : s + 8 + 8 - (s + 8) ≡ 8 = omega arith in
    ap (λ (n : ℕ). drop 8 (take n (drop s m))) sixteen ∙ drop-take 8 8 (drop s m) ∙ ap (λ (l : List ℕ). take 8 l) (drop-drop 8 s m) ∙ sym (ap (λ (n : ℕ). take n (drop (s + 8) m)) eight)

number_back : (w : ℕ) → w < 2 ^ 64 → little_number 8 (little_bytes 8 w) ≡ w
number_back w fits = ap (little_number 8) (sym (append-nil (little_bytes 8 w))) ∙ little_number-reads_back 8 w [] fits

-- a descriptor that stands in a memory is the one at its place
pub descriptor_there : (s b w : ℕ) (m : List ℕ) → b < 2 ^ 64 → w < 2 ^ 64 → s + 16 ≤ length m → two_words b w ≡ slice_range m s (s + 16) → descriptor_at s m ≡ record { at = s; buffer = b; word = w }
unfolding word_at two_words
descriptor_there s b w m low high fits e =
    let first : word_at s m ≡ b = ap (little_number 8) (sym (ap (take 8) e ∙ first_eight m s fits)) ∙ number_back b low in
    let second : word_at (s + 8) m ≡ w = ap (little_number 8) (sym (ap (drop 8) e ∙ last_eight m s)) ∙ number_back w high in
    λ i. record { at = s; buffer = first i; word = second i }

-- what taking it is
pub fetch_some : (limit : ℕ) (rule : PortVlan) (m : List ℕ) (ring : RingState) (pending : Gathering) (at n : ℕ) (d : TxDescriptor) (kind : Kind) → Some at ≡ head_slot ring → descriptor_at at m ≡ d → length m ≡ n → kind ≡ kind_of n d → fetch limit rule m ring pending ≡ taken kind limit rule m ring pending d
unfolding fetch
fetch_some limit rule m ring pending at n d kind slot there len is =
    ap (fetch_next limit rule m ring pending) (sym slot)
    ∙ ap (λ (x : TxDescriptor). taken (kind_of (length m) x) limit rule m ring pending x) there
    ∙ ap (λ (k : ℕ). taken (kind_of k d) limit rule m ring pending d) len
    ∙ ap (λ (k : Kind). taken k limit rule m ring pending d) (sym is)

pub fetch_none : (limit : ℕ) (rule : PortVlan) (m : List ℕ) (ring : RingState) (pending : Gathering) → None ≡ head_slot ring → fetch limit rule m ring pending ≡ fetch_next limit rule m ring pending None
unfolding fetch
fetch_none limit rule m ring pending slot = ap (fetch_next limit rule m ring pending) (sym slot)

-- what taking the descriptor is on a memory that has it at the head of the ring
pub due_on : (limit : ℕ) (rule : PortVlan) (found m : List ℕ) (ring : RingState) (pending : Gathering) (at n : ℕ) (d : TxDescriptor) (kind : Kind) → found ≡ m → Some at ≡ head_slot ring → d.at ≡ at → Holds m d → d.buffer < 2 ^ 64 → d.word < 2 ^ 64 → d.at + 16 ≤ length m → length m ≡ n → kind ≡ kind_of n d → fetch limit rule found ring pending ≡ taken kind limit rule m ring pending d
due_on limit rule found m ring pending at n d kind same slot place holds low high fits len is =
    ap (λ (l : List ℕ). fetch limit rule l ring pending) same
    ∙ fetch_some limit rule m ring pending at n d kind slot (ap (λ (s : ℕ). descriptor_at s m) (sym place) ∙ descriptor_there d.at d.buffer d.word m low high fits holds) len is

pub due_none : (limit : ℕ) (rule : PortVlan) (before : List Access) (m : List ℕ) (ring : RingState) (pending : Gathering) → None ≡ head_slot ring → fetch limit rule (met before before m) ring pending ≡ fetch_next limit rule m ring pending None
due_none limit rule before m ring pending slot =
    ap (λ (l : List ℕ). fetch limit rule l ring pending) (met_still before before m refl) ∙ fetch_none limit rule m ring pending slot

-- ---- the read of the descriptor, and what comes after it

pub at_place : (shared : Bool) (place at : ℕ) (before now : List Access) (old : List ℕ) → place ≡ at → KeepsApart shared place before now old → KeepsApart shared at before now old
at_place shared place at before now old is keeps = subst (λ (p : ℕ). KeepsApart shared p before now old) is keeps

pub met_after : (shared : Bool) (place : ℕ) (t0 t1 t2 : List Access) (m0 m1 : List ℕ) → HasRead shared m0 m1 t0 t1 → KeepsApart shared place t1 t2 m1 → met t0 t2 m0 ≡ met t1 t2 m1
met_after shared place t0 t1 t2 m0 m1 one two = met_join t0 t1 t2 m0 one.traced.grown two.traced.grown ∙ ap (met t1 t2) (sym one.met_is)

sixteen : (low high : ℕ) → length (two_words low high) ≡ 16
unfolding two_words
sixteen low high = refl

pub traced_after : (shared : Bool) (place low high : ℕ) (t0 t1 t2 : List Access) (m0 m1 : List ℕ) → t1 ≡ t0 ++ Read place (two_words low high) ∷ [] → HasRead shared m0 m1 t0 t1 → KeepsApart shared place t1 t2 m1 → IsTraced shared m0 t0 t2
unfolding Later
traced_after shared place low high t0 t1 t2 m0 m1 head one two =
    traced_then shared t0 t1 t2 m0 m1 one.met_is one.size one.traced two.traced
    (rw (since_is t0 t1 (Read place (two_words low high) ∷ []) head) (rw (sixteen low high) two.apart, tt))

-- ---- the accesses

pub listed_some : (limit : ℕ) (found m : List ℕ) (ring : RingState) (pending : Gathering) (at n : ℕ) (d : TxDescriptor) (kind : Kind) (t0 t1 t2 : List Access) → found ≡ m → Some at ≡ head_slot ring → d.at ≡ at → Holds m d → d.buffer < 2 ^ 64 → d.word < 2 ^ 64 → d.at + 16 ≤ length m → length m ≡ n → kind ≡ kind_of n d → t1 ≡ t0 ++ Read at (two_words d.buffer d.word) ∷ [] → t2 ≡ t1 ++ taken_accesses kind limit m pending d → t2 ≡ t0 ++ fetch_accesses limit found ring pending
listed_some limit found m ring pending at n d kind t0 t1 t2 same slot place holds low high fits len is one two =
    let there : descriptor_at at m ≡ d = ap (λ (s : ℕ). descriptor_at s m) (sym place) ∙ descriptor_there d.at d.buffer d.word m low high fits holds in
    listed_then t0 t1 t2 (Read d.at (two_words d.buffer d.word) ∷ []) (taken_accesses kind limit m pending d) (one ∙ ap (λ (s : ℕ). t0 ++ Read s (two_words d.buffer d.word) ∷ []) (sym place)) two
    ∙ ap (λ (t : List Access). t0 ++ t) (sym (accesses_some limit found m ring pending at n d kind same slot there len is))
