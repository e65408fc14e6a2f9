-- The accesses that were made are the definition's list.
use Rattle.std.proofs.Common.{◌≡◌, ℕ, ◌+◌, ◌-◌, min, max, ◌<◌, ◌≤◌, inl, inr, ⊎_elim, Bool, true, false, nat_lt, nat_le, List, [], ◌∷◌, ◌++◌, length, slice_range, Option, Some, None, refl, sym, ap, ◌∙◌, arith, append-nil}
use Rattle.std.proofs.lemmas.Bool.{cases_lt, lt-ltb, le-ltb, le-leb}
use Rattle.guest_memory.specs.Memory.{overwrite, word_bytes, two_words}
use Rattle.live_memory.specs.Trace.{Access, Read, reads, Apart, NotRead, ReadOnce}
use Rattle.live_memory.proofs.Accesses.{listed_then}
use Rattle.live_memory.proofs.Written.{kept_apart}
use Rattle.rings.specs.Ring.{RingState, head_slot}
use Rattle.tx_desc.specs.declared.descriptor.Kind.{Kind}
use Rattle.tx_desc.specs.declared.descriptor.TxDescriptor.{TxDescriptor}
use Rattle.tx_desc.specs.Transmit.{Gathering, Gathered, length_of, wants_report, kind_of, descriptor_at}
use Rattle.tx_desc.specs.Accesses.{part_read, data_reads, joined_reads, report_write, taken_accesses, accesses_of, accesses_at, fetch_accesses}

-- ---- the data

-- all of it, where it lies apart from the descriptor
pub apart_listed : (d : TxDescriptor) (m : List ℕ) → Apart d.at 16 d.buffer (length_of d.word) → part_read d.buffer (d.buffer + length_of d.word) m ≡ data_reads d m
unfolding part_read data_reads
apart_listed d m (inl behind) =
    let none : nat_lt d.buffer (min (d.buffer + length_of d.word) d.at) ≡ false = le-ltb _ _ (omega (arith, behind)) in
    let from : max d.buffer (d.at + 16) ≡ d.buffer = omega (arith, behind) in
    rw (none, from) refl
apart_listed d m (inr before) =
    let none : nat_lt (max d.buffer (d.at + 16)) (d.buffer + length_of d.word) ≡ false = le-ltb _ _ (omega (arith, before)) in
    let to : min (d.buffer + length_of d.word) d.at ≡ d.buffer + length_of d.word = omega (arith, before) in
    rw (none, to) (sym (append-nil (part_read d.buffer (d.buffer + length_of d.word) m)))

part_same : (a e f : ℕ) (m l : List ℕ) → (a < e → e ≡ f) → (a < f → e ≡ f) → (a < e → slice_range m a e ≡ slice_range l a e) → part_read a e m ≡ part_read a f l
unfolding part_read
part_same a e f m l one two same = ⊎_elim some none (cases_lt a e)
  where
    some : a < e → part_read a e m ≡ part_read a f l
    some h = rw (sym (one h), lt-ltb a e h, same h) refl

    none : e ≤ a → part_read a e m ≡ part_read a f l
    none h =
        let other : f ≤ a = ⊎_elim (λ more. let is = two more in omega (arith, is, h)) (λ (less : f ≤ a). less) (cases_lt a f) in
        rw (le-ltb a e h, le-ltb a f other) refl

-- the parts before and behind the descriptor
pub around_listed : (d : TxDescriptor) (size low high rest n1 n3 : ℕ) (t0 t1 t2 : List Access) (zs m1 m2 : List ℕ) → size ≡ length_of d.word → low ≡ d.at - d.buffer → rest ≡ d.at + 16 - d.buffer → high ≡ min rest size → n1 ≡ low → n3 ≡ size - high → d.at < d.buffer + size → d.buffer < d.at + 16 → d.at + 16 + n3 ≤ length m1 → length zs ≡ n3 → m2 ≡ overwrite (d.at + 16) zs m1 → t1 ≡ t0 ++ part_read d.buffer (d.buffer + n1) m1 → t2 ≡ t1 ++ part_read (d.at + 16) (d.at + 16 + n3) m2 → t2 ≡ t0 ++ data_reads d m2
unfolding data_reads
around_listed d size low high rest n1 n3 t0 t1 t2 zs m1 m2 all e1 e2 e3 front back over under fits len seen one two =
    let end : d.buffer + size ≡ d.buffer + length_of d.word = ap (λ (k : ℕ). d.buffer + k) all in
    let from : d.at + 16 ≡ max d.buffer (d.at + 16) = omega (arith, under) in
    let to : min (d.buffer + length_of d.word) d.at ≡ d.at = omega (arith, over, all) in
    let first : part_read d.buffer (d.buffer + n1) m1 ≡ part_read d.buffer (min (d.buffer + length_of d.word) d.at) m2 =
    part_same d.buffer (d.buffer + n1) (min (d.buffer + length_of d.word) d.at) m1 m2
    (λ some. omega (arith, some, front, e1, to)) (λ some. omega (arith, some, front, e1, to))
    (λ some. sym (ap (λ (m : List ℕ). slice_range m d.buffer (d.buffer + n1)) seen ∙ kept_apart (d.at + 16) n3 d.buffer n1 zs m1 len fits (inr (omega (arith, some, front, e1))))) in
    let second : part_read (d.at + 16) (d.at + 16 + n3) m2 ≡ part_read (max d.buffer (d.at + 16)) (d.buffer + length_of d.word) m2 =
    part_same (d.at + 16) (d.at + 16 + n3) (d.buffer + length_of d.word) m2 m2
    (λ some. omega (arith, some, back, e3, e2, end, under)) (λ some. omega (arith, some, back, e3, e2, end, under)) (λ some. refl)
    ∙ ap (λ (k : ℕ). part_read k (d.buffer + length_of d.word) m2) from in
    listed_then t0 t1 t2 (part_read d.buffer (d.buffer + n1) m1) (part_read (d.at + 16) (d.at + 16 + n3) m2) one two
    ∙ (λ i. t0 ++ (first i ++ second i))

-- all of it, where nothing is gathered and it isn't too long
pub whole_listed : (limit : ℕ) (pending : Gathering) (d : TxDescriptor) (m : List ℕ) → pending ≡ Gathered [] → length_of d.word ≤ limit → data_reads d m ≡ joined_reads limit pending d m
unfolding joined_reads
whole_listed limit pending d m none fits =
    let room : nat_le (length {A = ℕ} [] + length_of d.word) limit ≡ true = le-leb _ _ (omega (arith, fits)) in
    rw (none, room) refl

-- ---- the report

pub report_unread : (d : TxDescriptor) → reads (report_write d) ≡ []
unfolding reads report_write
report_unread d = at (wants_report d.word) refl
  where
    at : (wanted : Bool) → wants_report d.word ≡ wanted → reads (report_write d) ≡ []
    at true is = rw is refl
    at false is = rw is refl

eight : (word : ℕ) → length (word_bytes word) ≡ 8
unfolding word_bytes
eight word = refl

pub report_once : (n : ℕ) (d : TxDescriptor) → d.at + 16 ≤ n → ReadOnce n (report_write d)
unfolding ReadOnce NotRead report_write
report_once n d place = at (wants_report d.word) refl
  where
    at : (wanted : Bool) → wants_report d.word ≡ wanted → ReadOnce n (report_write d)
    at true is = rw (is, eight) (omega (arith, place), (tt, tt))
    at false is = rw is tt

-- ---- the whole

pub accesses_some : (limit : ℕ) (found m : List ℕ) (ring : RingState) (pending : Gathering) (at n : ℕ) (d : TxDescriptor) (kind : Kind) → found ≡ m → Some at ≡ head_slot ring → descriptor_at at m ≡ d → length m ≡ n → kind ≡ kind_of n d → fetch_accesses limit found ring pending ≡ Read d.at (two_words d.buffer d.word) ∷ taken_accesses kind limit m pending d
unfolding fetch_accesses
accesses_some limit found m ring pending at n d kind same slot there len is =
    ap (λ (l : List ℕ). accesses_at limit l pending (head_slot ring)) same
    ∙ ap (accesses_at limit m pending) (sym slot)
    ∙ ap (λ (x : TxDescriptor). accesses_of limit m pending x) there
    ∙ ap (λ (k : ℕ). Read d.at (two_words d.buffer d.word) ∷ taken_accesses (kind_of k d) limit m pending d) len
    ∙ ap (λ (k : Kind). Read d.at (two_words d.buffer d.word) ∷ taken_accesses k limit m pending d) (sym is)

pub accesses_none : (limit : ℕ) (m : List ℕ) (ring : RingState) (pending : Gathering) (before : List Access) → None ≡ head_slot ring → before ≡ before ++ fetch_accesses limit m ring pending
unfolding fetch_accesses
accesses_none limit m ring pending before slot = sym (append-nil before) ∙ ap (λ (s : Option ℕ). before ++ accesses_at limit m pending s) slot
