-- Sums that were put into a frame verify.
use Rattle.std.proofs.Common.{◌≡◌, ℕ, ◌+◌, ◌-◌, ◌<◌, ◌≤◌, Bool, true, false, ltb, ◌||◌, List, ◌++◌, length, take, drop, Option, Some, None, refl, sym, ap, ◌∙◌, arith, length-drop}
use Rattle.std.proofs.lemmas.Bool.{ltb-false}
use Rattle.std.specs.Prelude.{slice_range, if◌then◌else◌}
use Rattle.internet_checksum.specs.Sum.{word_sum, folded, checksum, never_zero, word_at, with_word}
use Rattle.internet_checksum.proofs.Stored.{plain_verifies, never_zero_verifies}
use Rattle.offload.specs.Context.{transport_at}
use Rattle.offload.specs.Sums.{header_cleared, header_summed, tcp_summed, udp_summed, transport_summed, ip_refusal, transport_refusal, first_of_two, refusal, ip_header, with_ip_sum, with_transport_sum, summed}
use Rattle.offload.specs.declared.context.Context.{Context}
use Rattle.offload.specs.declared.context.Ip.{Ip}
use Rattle.offload.specs.declared.context.Ip.TheVariants.{V4, V6}
use Rattle.offload.specs.declared.context.Transport.{Transport}
use Rattle.offload.specs.declared.context.Transport.TheVariants.{Udp, Tcp, Sctp, Reserved}
use Rattle.offload.specs.declared.sums.Sums.{Sums}
use Rattle.offload.specs.declared.sums.NotSummed.{NotSummed}
use Rattle.offload.specs.declared.sums.NotSummed.TheVariants.{NotIpv4, IpOutside, TransportOutside, SctpUnsummed, NoProtocol}
use Rattle.internet_checksum.proofs.Written.{length-with_word, word_at-with_word}
use Rattle.offload.proofs.Parts.{word_at-drop, length-middle, drop-middle, slice-middle, length-slice, drop-last, slice-last}

-- ---- one header

pub length-header_summed : (header : List ℕ) → 20 ≤ length header → length (header_summed header) ≡ length header
unfolding header_summed
length-header_summed header least =
    let cleared = length-with_word 10 0 header (omega arith) in
    length-with_word 10 (checksum (header_cleared header)) (header_cleared header) (omega (arith, cleared)) ∙ cleared

pub header_verifies : (header : List ℕ) → 20 ≤ length header → folded (word_sum (header_summed header)) ≡ 65535
unfolding header_summed
header_verifies header least =
    let cleared = length-with_word 10 0 header (omega arith) in
    let none = word_at-with_word 10 0 header (omega arith) (omega arith) in
    ap folded (omega (arith, none)) ∙ plain_verifies 10 (header_cleared header) refl (omega (arith, cleared))

pub tcp_verifies : (bytes : List ℕ) → 20 ≤ length bytes → folded (word_at 16 bytes + word_sum (tcp_summed bytes)) ≡ 65535
unfolding tcp_summed
tcp_verifies bytes least = plain_verifies 16 bytes refl (omega arith)

pub udp_verifies : (bytes : List ℕ) → 8 ≤ length bytes → folded (word_at 6 bytes + word_sum (udp_summed bytes)) ≡ 65535
unfolding udp_summed
udp_verifies bytes least = never_zero_verifies 6 bytes refl (omega arith)

-- ---- what is not refused

unless : (b : Bool) (why : NotSummed) → (if b then Some why else None) ≡ None → b ≡ false
unless true why h = cc
unless false why h = refl

first_none : (a b : Option NotSummed) → first_of_two a b ≡ None → a ≡ None
first_none None b h = refl
first_none (Some a) b h = cc

second_none : (a b : Option NotSummed) → first_of_two a b ≡ None → b ≡ None
second_none None b h = h
second_none (Some a) b h = cc

or_none : (a b : Bool) → (a || b) ≡ false → (a ≡ false) × (b ≡ false)
or_none true b h = cc
or_none false b h = (refl, h)

record Fits (c : Context) (size : ℕ) : Type 0 where
  least : 20 ≤ c.iplen
  inside : transport_at c ≤ size

ip_fits : (c : Context) (size : ℕ) → ip_refusal c size ≡ None → Fits c size
unfolding ip_refusal
ip_fits c size h = by_ip c.ip h
  where
    by_ip : (ip : Ip) → ip_refusal (record c { ip = ip }) size ≡ None → Fits c size
    by_ip V6 h = cc
    by_ip V4 h =
        let neither = or_none (ltb c.iplen 20) (ltb size (transport_at c)) (unless (ltb c.iplen 20 || ltb size (transport_at c)) IpOutside h) in
        record { least = ltb-false c.iplen 20 neither.0; inside = ltb-false size (transport_at c) neither.1 }

tcp_fits : (c : Context) (size : ℕ) → c.transport ≡ Tcp → transport_refusal c size ≡ None → transport_at c + 20 ≤ size
unfolding transport_refusal
tcp_fits c size is h = by_transport c.transport is h
  where
    by_transport : (t : Transport) → t ≡ Tcp → transport_refusal (record c { transport = t }) size ≡ None → transport_at c + 20 ≤ size
    by_transport Tcp is h = ltb-false size (transport_at c + 20) (unless (ltb size (transport_at c + 20)) TransportOutside h)
    by_transport Udp is h = cc
    by_transport Sctp is h = cc
    by_transport Reserved is h = cc

udp_fits : (c : Context) (size : ℕ) → c.transport ≡ Udp → transport_refusal c size ≡ None → transport_at c + 8 ≤ size
unfolding transport_refusal
udp_fits c size is h = by_transport c.transport is h
  where
    by_transport : (t : Transport) → t ≡ Udp → transport_refusal (record c { transport = t }) size ≡ None → transport_at c + 8 ≤ size
    by_transport Udp is h = ltb-false size (transport_at c + 8) (unless (ltb size (transport_at c + 8)) TransportOutside h)
    by_transport Tcp is h = cc
    by_transport Sctp is h = cc
    by_transport Reserved is h = cc

asked_ip : (c : Context) (sums : Sums) (size : ℕ) → refusal c sums size ≡ None → sums.ip ≡ true → ip_refusal c size ≡ None
unfolding refusal
asked_ip c sums size h is =
    ap (λ (b : Bool). if b then ip_refusal c size else None) (sym is) ∙ first_none (if sums.ip then ip_refusal c size else None) (if sums.transport then transport_refusal c size else None) h

asked_transport : (c : Context) (sums : Sums) (size : ℕ) → refusal c sums size ≡ None → sums.transport ≡ true → transport_refusal c size ≡ None
unfolding refusal
asked_transport c sums size h is =
    ap (λ (b : Bool). if b then transport_refusal c size else None) (sym is) ∙ second_none (if sums.ip then ip_refusal c size else None) (if sums.transport then transport_refusal c size else None) h

-- ---- the frame

-- what the sum of the IP header leaves of what stands behind it
behind_ip : (c : Context) (frame : List ℕ) (b : Bool) → (b ≡ true → Fits c (length frame)) → transport_at c ≤ length frame
    → (drop (transport_at c) (if b then with_ip_sum c frame else frame) ≡ drop (transport_at c) frame) × (transport_at c ≤ length (if b then with_ip_sum c frame else frame))
behind_ip c frame false fits inside = (refl, inside)
behind_ip c frame true fits inside =
    let f = fits refl in
    let slice = length-slice c.maclen (transport_at c) frame (omega arith) inside in
    let count = length-header_summed (ip_header c frame) (omega (arith, slice, f.least)) ∙ slice in (
      drop-middle c.maclen (transport_at c) frame (header_summed (ip_header c frame)) (omega arith) inside count,
      omega (arith, length-middle c.maclen (transport_at c) frame (header_summed (ip_header c frame)) (omega arith) inside count),
    )

-- what stands behind the IP header, in the frame that is summed
behind : (c : Context) (sums : Sums) (frame : List ℕ) → refusal c sums (length frame) ≡ None → sums.transport ≡ true → transport_at c ≤ length frame
    → drop (transport_at c) (summed c sums frame) ≡ transport_summed c.transport (drop (transport_at c) frame)
unfolding summed
behind c sums frame h is inside =
    let first : List ℕ = if sums.ip then with_ip_sum c frame else frame in
    let after = behind_ip c frame sums.ip (λ asked. ip_fits c (length frame) (asked_ip c sums (length frame) h asked)) inside in
    ap (λ (b : Bool). drop (transport_at c) (if b then with_transport_sum c first else first)) is
    ∙ drop-last (transport_at c) first (transport_summed c.transport (drop (transport_at c) first)) after.1
    ∙ ap (transport_summed c.transport) after.0

pub tcp_sum_verifies : (c : Context) (sums : Sums) (frame : List ℕ) → refusal c sums (length frame) ≡ None → sums.transport ≡ true → c.transport ≡ Tcp
    → folded (word_at (transport_at c + 16) frame + word_sum (drop (transport_at c) (summed c sums frame))) ≡ 65535
unfolding transport_summed
tcp_sum_verifies c sums frame h is tcp =
    let fits = tcp_fits c (length frame) tcp (asked_transport c sums (length frame) h is) in
    let bytes : List ℕ = drop (transport_at c) frame in
    let same : drop (transport_at c) (summed c sums frame) ≡ tcp_summed bytes =
    behind c sums frame h is (omega (arith, fits)) ∙ ap (λ (t : Transport). transport_summed t bytes) tcp in
    ap folded (ap (λ (p : ℕ). p + word_sum (drop (transport_at c) (summed c sums frame))) (sym (word_at-drop (transport_at c) 16 frame))
    ∙ ap (λ (l : List ℕ). word_at 16 bytes + word_sum l) same)
    ∙ tcp_verifies bytes (omega (arith, fits, length-drop (transport_at c) frame))

pub udp_sum_verifies : (c : Context) (sums : Sums) (frame : List ℕ) → refusal c sums (length frame) ≡ None → sums.transport ≡ true → c.transport ≡ Udp
    → folded (word_at (transport_at c + 6) frame + word_sum (drop (transport_at c) (summed c sums frame))) ≡ 65535
unfolding transport_summed
udp_sum_verifies c sums frame h is udp =
    let fits = udp_fits c (length frame) udp (asked_transport c sums (length frame) h is) in
    let bytes : List ℕ = drop (transport_at c) frame in
    let same : drop (transport_at c) (summed c sums frame) ≡ udp_summed bytes =
    behind c sums frame h is (omega (arith, fits)) ∙ ap (λ (t : Transport). transport_summed t bytes) udp in
    ap folded (ap (λ (p : ℕ). p + word_sum (drop (transport_at c) (summed c sums frame))) (sym (word_at-drop (transport_at c) 6 frame))
    ∙ ap (λ (l : List ℕ). word_at 6 bytes + word_sum l) same)
    ∙ udp_verifies bytes (omega (arith, fits, length-drop (transport_at c) frame))

pub ip_sum_verifies : (c : Context) (sums : Sums) (frame : List ℕ) → refusal c sums (length frame) ≡ None → sums.ip ≡ true
    → folded (word_sum (ip_header c (summed c sums frame))) ≡ 65535
unfolding summed
ip_sum_verifies c sums frame h is =
    let fits = ip_fits c (length frame) (asked_ip c sums (length frame) h is) in
    let t : ℕ = transport_at c in
    let new : List ℕ = header_summed (ip_header c frame) in
    let slice = length-slice c.maclen t frame (omega arith) fits.inside in
    let count = length-header_summed (ip_header c frame) (omega (arith, slice, fits.least)) ∙ slice in
    let first : List ℕ = with_ip_sum c frame in
    let size = length-middle c.maclen t frame new (omega arith) fits.inside count in
    let middle = slice-middle c.maclen t frame new (omega arith) fits.inside count in
    ap (λ (b : Bool). folded (word_sum (ip_header c (if sums.transport then with_transport_sum c (if b then with_ip_sum c frame else frame) else (if b then with_ip_sum c frame else frame))))) is
    ∙ ap (λ (l : List ℕ). folded (word_sum l)) (kept sums.transport first (omega (arith, size, fits.inside)) ∙ middle)
    ∙ header_verifies (ip_header c frame) (omega (arith, slice, fits.least))
  where
    kept : (b : Bool) (first : List ℕ) → transport_at c ≤ length first → ip_header c (if b then with_transport_sum c first else first) ≡ ip_header c first
    kept false first inside = refl
    kept true first inside = slice-last c.maclen (transport_at c) first (transport_summed c.transport (drop (transport_at c) first)) (omega arith) inside
