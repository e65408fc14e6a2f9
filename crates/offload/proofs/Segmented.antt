-- A segment: what it keeps of the frame, and that its sums verify.
use Rattle.std.proofs.Common.{◌≡◌, ℕ, ◌+◌, ◌-◌, ◌*◌, ◌/◌, ◌%◌, ◌^◌, ◌<◌, ◌≤◌, Bool, List, [], ◌∷◌, ◌++◌, length, take, drop, get_or, set, eqb, refl, sym, ap, ◌∙◌, arith, append_assoc, length-append, length-drop}
use Rattle.std.proofs.lemmas.List.{length-take-le, length-set, drop-set-lt, drop_at, drop-drop}
use Rattle.std.proofs.lemmas.Slice.{drop-append-drop}
use Rattle.std.specs.Prelude.{slice_range}
use Rattle.byteorder.specs.Endian.{big_bytes, big_number}
use Rattle.internet_checksum.specs.Sum.{word_sum, folded, checksum, word_at, with_word}
use Rattle.internet_checksum.proofs.Adding.{folded-most, folded-part, word_sum-append}
use Rattle.offload.specs.Context.{transport_at, payload_at}
use Rattle.offload.specs.Sums.{header_cleared, header_summed, tcp_summed, ip_header}
use Rattle.offload.specs.Cut.{IsCut, ip_least, segment_count}
use Rattle.offload.specs.Segment.{ip_of, pseudo_header, with_sequence, with_flags, flags_of, tcp_of, with_ip_of, with_tcp_of, pseudo_of, finished, piece, segment_of}
use Rattle.offload.specs.declared.context.Context.{Context}
use Rattle.offload.specs.declared.context.Ip.{Ip}
use Rattle.offload.specs.declared.context.Ip.TheVariants.{V4, V6}
use Rattle.internet_checksum.proofs.Written.{length-with_word, word_at-with_word}
use Rattle.offload.proofs.Parts.{drop-with_word, length-middle, drop-middle, slice-middle, length-slice, length-last, drop-last, slice-last}
use Rattle.offload.proofs.Pseudo.{length-part}
use Rattle.offload.proofs.Checked.{length-header_summed, header_verifies, tcp_verifies}

-- ---- the IP header

ip_numbered : ℕ → ℕ → List ℕ → List ℕ
ip_numbered total identification header = with_word 4 identification (with_word 2 total header)

length-ip_numbered : (total identification : ℕ) (header : List ℕ) → 20 ≤ length header → length (ip_numbered total identification header) ≡ length header
unfolding ip_numbered
length-ip_numbered total identification header least =
    let one = length-with_word 2 total header (omega arith) in
    length-with_word 4 identification (with_word 2 total header) (omega (arith, one)) ∙ one

pub length-ip_of : (ip : Ip) (n behind : ℕ) (header : List ℕ) → ip_least ip ≤ length header → length (ip_of ip n behind header) ≡ length header
unfolding ip_of ip_numbered
length-ip_of V4 n behind header least =
    let numbered = length-ip_numbered (length header + behind) ((word_at 4 header + n) % 2 ^ 16) header least in
    length-header_summed (ip_numbered (length header + behind) ((word_at 4 header + n) % 2 ^ 16) header) (omega (arith, numbered)) ∙ numbered
length-ip_of V6 n behind header least = length-with_word 4 (length header - 40 + behind) header (omega arith)

ip_verifies : (ip : Ip) (n behind : ℕ) (header : List ℕ) → ip ≡ V4 → ip_least ip ≤ length header → folded (word_sum (ip_of ip n behind header)) ≡ 65535
unfolding ip_of ip_numbered
ip_verifies V4 n behind header is least =
    header_verifies (ip_numbered (length header + behind) ((word_at 4 header + n) % 2 ^ 16) header)
    (omega (arith, length-ip_numbered (length header + behind) ((word_at 4 header + n) % 2 ^ 16) header least))
ip_verifies V6 n behind header is least = cc

-- the addresses stay
drop-header_summed : (header : List ℕ) (n : ℕ) → 12 ≤ n → 20 ≤ length header → drop n (header_summed header) ≡ drop n header
unfolding header_summed
drop-header_summed header n far least =
    let cleared = length-with_word 10 0 header (omega arith) in
    drop-with_word 10 (checksum (header_cleared header)) (header_cleared header) n far (omega (arith, cleared))
    ∙ drop-with_word 10 0 header n far (omega arith)

pseudo_kept : (ip : Ip) (n behind count : ℕ) (header : List ℕ) → ip_least ip ≤ length header
    → pseudo_header ip (ip_of ip n behind header) count ≡ pseudo_header ip header count
unfolding ip_of pseudo_header ip_numbered
pseudo_kept V4 n behind count header least =
    let total : ℕ = length header + behind in
    let identification : ℕ = (word_at 4 header + n) % 2 ^ 16 in
    let numbered = length-ip_numbered total identification header least in
    let one = length-with_word 2 total header (omega arith) in
    ap (λ (l : List ℕ). take 8 l ++ (0 ∷ (6 ∷ big_bytes 2 count)))
    (drop-header_summed (ip_numbered total identification header) 12 (omega arith) (omega (arith, numbered))
    ∙ drop-with_word 4 identification (with_word 2 total header) 12 (omega arith) (omega (arith, one))
    ∙ drop-with_word 2 total header 12 (omega arith) (omega arith))
pseudo_kept V6 n behind count header least =
    ap (λ (l : List ℕ). take 32 l ++ (big_bytes 4 count ++ (0 ∷ (0 ∷ (0 ∷ (6 ∷ []))))))
    (drop-with_word 4 (length header - 40 + behind) header 8 (omega arith) (omega arith))

pseudo_even : (ip : Ip) (header : List ℕ) (count : ℕ) → ip_least ip ≤ length header → length (pseudo_header ip header count) % 2 ≡ 0
unfolding pseudo_header
pseudo_even V4 header count least =
    let addresses = length-part header 12 8 least in
    ap (λ (n : ℕ). n % 2) (length-append (take 8 (drop 12 header)) (0 ∷ (6 ∷ big_bytes 2 count)) ∙ ap (λ (n : ℕ). n + 4) addresses)
pseudo_even V6 header count least =
    let addresses = length-part header 8 32 least in
    ap (λ (n : ℕ). n % 2) (length-append (take 32 (drop 8 header)) (big_bytes 4 count ++ (0 ∷ (0 ∷ (0 ∷ (6 ∷ []))))) ∙ ap (λ (n : ℕ). n + 8) addresses)

-- ---- the TCP header and what stands behind it

length-with_sequence : (before : ℕ) (bytes : List ℕ) → 20 ≤ length bytes → length (with_sequence before bytes) ≡ length bytes
unfolding with_sequence
length-with_sequence before bytes least =
    omega (arith, length-append (take 4 bytes) (big_bytes 4 ((big_number 4 (drop 4 bytes) + before) % 2 ^ 32) ++ drop 8 bytes), length-take-le 4 bytes (omega arith), length-drop 8 bytes)

pub drop-with_sequence : (before : ℕ) (bytes : List ℕ) (n : ℕ) → 20 ≤ n → 20 ≤ length bytes → drop n (with_sequence before bytes) ≡ drop n bytes
unfolding with_sequence
drop-with_sequence before bytes n far least =
    let new : List ℕ = big_bytes 4 ((big_number 4 (drop 4 bytes) + before) % 2 ^ 32) in
    let front : length (take 4 bytes ++ new) ≡ 8 = omega (arith, length-append (take 4 bytes) new, length-take-le 4 bytes (omega arith)) in
    ap (drop n) (sym (append_assoc (take 4 bytes) new (drop 8 bytes))) ∙ drop-append-drop 8 bytes (take 4 bytes ++ new) n (omega arith) front

-- before the sum is made, with the partial sum in its field
marked : Context → ℕ → Bool → List ℕ → List ℕ
marked c n last bytes = with_flags (eqb n 0) last (with_sequence (n * c.mss) bytes)

length-marked : (c : Context) (n : ℕ) (last : Bool) (bytes : List ℕ) → 20 ≤ length bytes → length (marked c n last bytes) ≡ length bytes
unfolding marked
length-marked c n last bytes least = length-set (with_sequence (n * c.mss) bytes) 13 _ ∙ length-with_sequence (n * c.mss) bytes least

drop-marked : (c : Context) (n : ℕ) (last : Bool) (bytes : List ℕ) (from : ℕ) → 20 ≤ from → 20 ≤ length bytes → drop from (marked c n last bytes) ≡ drop from bytes
unfolding marked
drop-marked c n last bytes from far least =
    drop-set-lt from (with_sequence (n * c.mss) bytes) 13 _ (omega arith) ∙ drop-with_sequence (n * c.mss) bytes from far least

pub length-tcp_of : (c : Context) (n : ℕ) (last : Bool) (partial : ℕ) (bytes : List ℕ) → 20 ≤ length bytes → length (tcp_of c n last partial bytes) ≡ length bytes
unfolding tcp_of tcp_summed marked
length-tcp_of c n last partial bytes least =
    let one = length-marked c n last bytes least in
    let two = length-with_word 16 partial (marked c n last bytes) (omega (arith, one)) in
    length-with_word 16 (checksum (with_word 16 partial (marked c n last bytes))) (with_word 16 partial (marked c n last bytes)) (omega (arith, one, two)) ∙ two ∙ one

pub drop-tcp_of : (c : Context) (n : ℕ) (last : Bool) (partial : ℕ) (bytes : List ℕ) (from : ℕ) → 20 ≤ from → 20 ≤ length bytes → drop from (tcp_of c n last partial bytes) ≡ drop from bytes
unfolding tcp_of tcp_summed marked
drop-tcp_of c n last partial bytes from far least =
    let one = length-marked c n last bytes least in
    let two = length-with_word 16 partial (marked c n last bytes) (omega (arith, one)) in
    drop-with_word 16 (checksum (with_word 16 partial (marked c n last bytes))) (with_word 16 partial (marked c n last bytes)) from (omega arith) (omega (arith, one, two))
    ∙ drop-with_word 16 partial (marked c n last bytes) from (omega arith) (omega (arith, one))
    ∙ drop-marked c n last bytes from far least

-- with the sum of what is not among them, the bytes verify
tcp_of_verifies : (c : Context) (n : ℕ) (last : Bool) (more : ℕ) (bytes : List ℕ) → 20 ≤ length bytes
    → folded (more + word_sum (tcp_of c n last (folded more) bytes)) ≡ 65535
unfolding tcp_of marked
tcp_of_verifies c n last more bytes least =
    let ready : List ℕ = with_word 16 (folded more) (marked c n last bytes) in
    let one = length-marked c n last bytes least in
    let two = length-with_word 16 (folded more) (marked c n last bytes) (omega (arith, one)) in
    let there = word_at-with_word 16 (folded more) (marked c n last bytes) (omega (arith, one)) (omega (arith, folded-most more)) in
    sym (folded-part more (word_sum (tcp_summed ready)))
    ∙ ap (λ (p : ℕ). folded (p + word_sum (tcp_summed ready))) (sym there)
    ∙ tcp_verifies ready (omega (arith, one, two))

-- ---- the segment

pub record IsCopy (c : Context) (bytes : List ℕ) : Type 0 where
  pub ip : ip_least c.ip ≤ c.iplen
  pub tcp : transport_at c + 20 ≤ length bytes

length-ip_header : (c : Context) (bytes : List ℕ) → transport_at c ≤ length bytes → length (ip_header c bytes) ≡ c.iplen
length-ip_header c bytes inside = length-slice c.maclen (transport_at c) bytes (omega arith) inside ∙ omega arith

length-new_header : (c : Context) (n : ℕ) (bytes : List ℕ) → IsCopy c bytes → length (ip_of c.ip n (length bytes - transport_at c) (ip_header c bytes)) ≡ transport_at c - c.maclen
length-new_header c n bytes copy =
    let header = length-ip_header c bytes (omega (arith, copy.tcp)) in
    length-ip_of c.ip n (length bytes - transport_at c) (ip_header c bytes) (omega (arith, header, copy.ip)) ∙ header ∙ omega arith

length-with_ip_of : (c : Context) (n : ℕ) (bytes : List ℕ) → IsCopy c bytes → length (with_ip_of c n bytes) ≡ length bytes
length-with_ip_of c n bytes copy =
    length-middle c.maclen (transport_at c) bytes (ip_of c.ip n (length bytes - transport_at c) (ip_header c bytes)) (omega arith) (omega (arith, copy.tcp)) (length-new_header c n bytes copy)

drop-with_ip_of : (c : Context) (n : ℕ) (bytes : List ℕ) → IsCopy c bytes → drop (transport_at c) (with_ip_of c n bytes) ≡ drop (transport_at c) bytes
drop-with_ip_of c n bytes copy =
    drop-middle c.maclen (transport_at c) bytes (ip_of c.ip n (length bytes - transport_at c) (ip_header c bytes)) (omega arith) (omega (arith, copy.tcp)) (length-new_header c n bytes copy)

-- and what stands further behind
pub drop_behind_ip : (c : Context) (n : ℕ) (bytes new : List ℕ) → IsCopy c bytes → new ≡ with_ip_of c n bytes
    → drop (transport_at c + 20) new ≡ drop (transport_at c + 20) bytes
drop_behind_ip c n bytes new copy is =
    sym (drop-drop 20 (transport_at c) new)
    ∙ ap (drop 20) (ap (drop (transport_at c)) is ∙ drop-with_ip_of c n bytes copy)
    ∙ drop-drop 20 (transport_at c) bytes

-- its parts
drop-finished : (c : Context) (n : ℕ) (last : Bool) (bytes : List ℕ) → IsCopy c bytes
    → drop (transport_at c) (finished c n last bytes) ≡ tcp_of c n last (folded (word_sum (pseudo_of c bytes))) (drop (transport_at c) bytes)
unfolding finished
drop-finished c n last bytes copy =
    let new : List ℕ = with_ip_of c n bytes in
    drop-last (transport_at c) new (tcp_of c n last (folded (word_sum (pseudo_of c bytes))) (drop (transport_at c) new)) (omega (arith, length-with_ip_of c n bytes copy, copy.tcp))
    ∙ ap (tcp_of c n last (folded (word_sum (pseudo_of c bytes)))) (drop-with_ip_of c n bytes copy)

header-finished : (c : Context) (n : ℕ) (last : Bool) (bytes : List ℕ) → IsCopy c bytes
    → ip_header c (finished c n last bytes) ≡ ip_of c.ip n (length bytes - transport_at c) (ip_header c bytes)
unfolding finished
header-finished c n last bytes copy =
    let new : List ℕ = with_ip_of c n bytes in
    slice-last c.maclen (transport_at c) new (tcp_of c n last (folded (word_sum (pseudo_of c bytes))) (drop (transport_at c) new)) (omega arith) (omega (arith, length-with_ip_of c n bytes copy, copy.tcp))
    ∙ slice-middle c.maclen (transport_at c) bytes (ip_of c.ip n (length bytes - transport_at c) (ip_header c bytes)) (omega arith) (omega (arith, copy.tcp)) (length-new_header c n bytes copy)

length-finished : (c : Context) (n : ℕ) (last : Bool) (bytes : List ℕ) → IsCopy c bytes → length (finished c n last bytes) ≡ length bytes
unfolding finished
length-finished c n last bytes copy =
    let new : List ℕ = with_ip_of c n bytes in
    let partial : ℕ = folded (word_sum (pseudo_of c bytes)) in
    let size = length-with_ip_of c n bytes copy in
    let left = length-drop (transport_at c) new in
    let count = length-tcp_of c n last partial (drop (transport_at c) new) (omega (arith, left, size, copy.tcp)) in
    length-last (transport_at c) new (tcp_of c n last partial (drop (transport_at c) new)) (omega (arith, size, copy.tcp)) (count ∙ left) ∙ size

pseudo-finished : (c : Context) (n : ℕ) (last : Bool) (bytes : List ℕ) → IsCopy c bytes → pseudo_of c (finished c n last bytes) ≡ pseudo_of c bytes
pseudo-finished c n last bytes copy =
    let header = length-ip_header c bytes (omega (arith, copy.tcp)) in
    ap (λ (size : ℕ). pseudo_header c.ip (ip_header c (finished c n last bytes)) (size - transport_at c)) (length-finished c n last bytes copy)
    ∙ ap (λ (l : List ℕ). pseudo_header c.ip l (length bytes - transport_at c)) (header-finished c n last bytes copy)
    ∙ pseudo_kept c.ip n (length bytes - transport_at c) (length bytes - transport_at c) (ip_header c bytes) (omega (arith, header, copy.ip))

finished_ip_verifies : (c : Context) (n : ℕ) (last : Bool) (bytes : List ℕ) → IsCopy c bytes → c.ip ≡ V4 → folded (word_sum (ip_header c (finished c n last bytes))) ≡ 65535
finished_ip_verifies c n last bytes copy is =
    let header = length-ip_header c bytes (omega (arith, copy.tcp)) in
    ap (λ (l : List ℕ). folded (word_sum l)) (header-finished c n last bytes copy)
    ∙ ip_verifies c.ip n (length bytes - transport_at c) (ip_header c bytes) is (omega (arith, header, copy.ip))

finished_tcp_verifies : (c : Context) (n : ℕ) (last : Bool) (bytes : List ℕ) → IsCopy c bytes
    → folded (word_sum (pseudo_of c (finished c n last bytes) ++ drop (transport_at c) (finished c n last bytes))) ≡ 65535
finished_tcp_verifies c n last bytes copy =
    let header = length-ip_header c bytes (omega (arith, copy.tcp)) in
    let behind : List ℕ = drop (transport_at c) bytes in
    let more : ℕ = word_sum (pseudo_of c bytes) in
    ap (λ (l : List ℕ). folded (word_sum (l ++ drop (transport_at c) (finished c n last bytes)))) (pseudo-finished c n last bytes copy)
    ∙ ap (λ (l : List ℕ). folded (word_sum (pseudo_of c bytes ++ l))) (drop-finished c n last bytes copy)
    ∙ ap folded (word_sum-append (pseudo_of c bytes) (tcp_of c n last (folded more) behind) (pseudo_even c.ip (ip_header c bytes) (length bytes - transport_at c) (omega (arith, header, copy.ip))))
    ∙ tcp_of_verifies c n last more behind (omega (arith, length-drop (transport_at c) bytes, copy.tcp))

-- ---- a segment of a frame

copied : (c : Context) (frame : List ℕ) (n : ℕ) → IsCut c (length frame) → IsCopy c (take (payload_at c) frame ++ piece c frame n)
copied c frame n cut = record {
  ip = cut.ip;
  tcp = omega (arith, cut.tcp, cut.payload, length-append (take (payload_at c) frame) (piece c frame n), length-take-le (payload_at c) frame (omega (arith, cut.payload)));
}

pub segment_ip_verifies : (c : Context) (frame : List ℕ) (n : ℕ) → IsCut c (length frame) → c.ip ≡ V4 → folded (word_sum (ip_header c (segment_of c frame n))) ≡ 65535
unfolding segment_of
segment_ip_verifies c frame n cut is =
    finished_ip_verifies c n (eqb (n + 1) (segment_count c (length frame))) (take (payload_at c) frame ++ piece c frame n) (copied c frame n cut) is

pub segment_tcp_verifies : (c : Context) (frame : List ℕ) (n : ℕ) → IsCut c (length frame)
    → folded (word_sum (pseudo_of c (segment_of c frame n) ++ drop (transport_at c) (segment_of c frame n))) ≡ 65535
unfolding segment_of
segment_tcp_verifies c frame n cut =
    finished_tcp_verifies c n (eqb (n + 1) (segment_count c (length frame))) (take (payload_at c) frame ++ piece c frame n) (copied c frame n cut)

pub length-segment : (c : Context) (frame : List ℕ) (n : ℕ) → IsCut c (length frame) → length (segment_of c frame n) ≡ payload_at c + length (piece c frame n)
unfolding segment_of
length-segment c frame n cut =
    length-finished c n (eqb (n + 1) (segment_count c (length frame))) (take (payload_at c) frame ++ piece c frame n) (copied c frame n cut)
    ∙ omega (arith, cut.payload, length-append (take (payload_at c) frame) (piece c frame n), length-take-le (payload_at c) frame (omega (arith, cut.payload)))

-- its payload is its piece
pub segment_payload : (c : Context) (frame : List ℕ) (n : ℕ) → IsCut c (length frame) → drop (payload_at c) (segment_of c frame n) ≡ piece c frame n
unfolding segment_of
segment_payload c frame n cut =
    let last : Bool = eqb (n + 1) (segment_count c (length frame)) in
    let bytes : List ℕ = take (payload_at c) frame ++ piece c frame n in
    let copy = copied c frame n cut in
    let partial : ℕ = folded (word_sum (pseudo_of c bytes)) in
    sym (drop-drop c.l4len (transport_at c) (finished c n last bytes))
    ∙ ap (drop c.l4len) (drop-finished c n last bytes copy)
    ∙ drop-tcp_of c n last partial (drop (transport_at c) bytes) c.l4len cut.tcp (omega (arith, length-drop (transport_at c) bytes, copy.tcp))
    ∙ drop-drop c.l4len (transport_at c) bytes
    ∙ drop_at (take (payload_at c) frame) (piece c frame n) (payload_at c) (length-take-le (payload_at c) frame (omega (arith, cut.payload)))
