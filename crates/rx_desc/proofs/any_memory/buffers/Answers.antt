-- A step of the loop reads one slot's word, and stops exactly where its piece would pass the end.
use Rattle.std.proofs.Common.{◌≡◌, ℕ, ◌+◌, ◌<◌, ◌≤◌, true, false, nat_le, length, List, [], refl, sym, ap, min, ◌∙◌, get_or, take, arith}
use Rattle.std.proofs.lemmas.List.{length-set}
use Rattle.std.proofs.lemmas.Bool.Decides.{nat_tests}
use Rattle.rings.specs.Ring.{owned}
use Rattle.guest_memory.specs.Memory.{word_at}
use Rattle.rx_desc.specs.Receive.{slots, cut, zip_writes, passes_end}
use Rattle.rx_desc.specs.Parts.{text_of}
use Rattle.rx_desc.proofs.Pieces.{rest_writes-none, rest_writes-all, passes_end-none, steps_on, passes_here, passes_later, get_or-slots, length-slots, words_at, words_at-is, length-words_at, get_or-words_at, filled_on, zip_writes-take}
use Rattle.rx_desc.proofs.any_memory.buffers.Goals as goal

pub loop-i-init : goal.loop-i-init
loop-i-init g c =
    record { nine = refl; filled = refl; passes = rw rest_writes-none refl }

pub returns-then-not-holds-clause-variant : goal.returns-then-not-holds-clause-variant
returns-then-not-holds-clause-variant g c =
    let now = (goal.GuestMem-dyn g c.args.memory.now).bytes c.args.memory.now.1 in
    let words = words_at (slots c.args.ring.now) now in
    let room : c.loop-i.i < length (owned c.args.ring.now) = omega arith in
    let inside : c.loop-i.i < length (slots c.args.ring.now) = omega (arith, length-slots c.args.ring.now) in
    let count : c.loop-i.i < length words = omega (arith, length-words_at (slots c.args.ring.now) now) in
    let at : c.read_word-buffer.result ≡ get_or words c.loop-i.i 0 =
    c.read_word-buffer.ensures.0 ∙ ap (λ (s : ℕ). word_at s now) (c.slot-at.ensures.value ∙ sym (get_or-slots c.args.ring.now c.loop-i.i room)) ∙ sym (get_or-words_at (slots c.args.ring.now) now c.loop-i.i inside) in
    let s = steps_on words c.args.size c.args.count c.loop-i.i _ (text_of c.loop-i.rest) _ _ [] _ (length now) (omega arith) count at (c.min.ensures ∙ ap (min c.args.size) c.len.ensures) c.split_at.ensures.front c.split_at.ensures.back in
    let no : nat_le (c.read_word-buffer.result + c.len-in-loop-i.result) c.args.memory_size ≡ false = sym c.holds.ensures ∙ c.if-not-holds.true in
    let past : length now < c.read_word-buffer.result + length (text_of c.split_at.result.0) = grind (arith, nat_tests) in
    sym (passes_here _ _ _ _ _ _ _ _ _ _ _ s past) ∙ c.loop-i.invariant.passes ∙ ap (passes_end (length now)) (words_at-is (slots c.args.ring.now) now c.args.size c.args.count (text_of c.args.source))

pub loop-i-preserved : goal.loop-i-preserved
loop-i-preserved g c =
    let now = (goal.GuestMem-dyn g c.args.memory.now).bytes c.args.memory.now.1 in
    let words = words_at (slots c.args.ring.now) now in
    let room : c.loop-i.i < length (owned c.args.ring.now) = omega arith in
    let inside : c.loop-i.i < length (slots c.args.ring.now) = omega (arith, length-slots c.args.ring.now) in
    let count : c.loop-i.i < length words = omega (arith, length-words_at (slots c.args.ring.now) now) in
    let at : c.read_word-buffer.result ≡ get_or words c.loop-i.i 0 =
    c.read_word-buffer.ensures.0 ∙ ap (λ (s : ℕ). word_at s now) (c.slot-at.ensures.value ∙ sym (get_or-slots c.args.ring.now c.loop-i.i room)) ∙ sym (get_or-words_at (slots c.args.ring.now) now c.loop-i.i inside) in
    let s = steps_on words c.args.size c.args.count c.loop-i.i _ (text_of c.loop-i.rest) _ _ [] _ (length now) (omega arith) count at (c.min.ensures ∙ ap (min c.args.size) c.len.ensures) c.split_at.ensures.front c.split_at.ensures.back in
    let yes : nat_le (c.read_word-buffer.result + c.len-in-loop-i.result) c.args.memory_size ≡ true = sym c.holds.ensures ∙ c.if-not-holds.false in
    let fits : c.read_word-buffer.result + c.len-in-loop-i.result ≤ c.args.memory_size = grind (arith, nat_tests) in
    record {
      nine = length-set _ _ _ ∙ c.loop-i.invariant.nine;
      filled = filled_on _ _ _ _ (omega (arith, c.loop-i.invariant.nine)) count at c.loop-i.invariant.filled;
      passes = passes_later _ _ _ _ _ _ _ _ _ _ _ s (omega (arith, fits)) ∙ c.loop-i.invariant.passes;
    }

pub returns-clause-variant : goal.returns-clause-variant
returns-clause-variant g c =
    let now = (goal.GuestMem-dyn g c.args.memory.now).bytes c.args.memory.now.1 in
    let words = words_at (slots c.args.ring.now) now in
    sym (passes_end-none (length now) _ (rest_writes-all words c.args.size c.args.count c.loop-i.i (text_of c.loop-i.rest) c.loop-i-test.false)) ∙ c.loop-i.invariant.passes ∙ ap (passes_end (length now)) (words_at-is (slots c.args.ring.now) now c.args.size c.args.count (text_of c.args.source))

pub returns-clause-value : goal.returns-clause-value
returns-clause-value g c =
    let now = (goal.GuestMem-dyn g c.args.memory.now).bytes c.args.memory.now.1 in
    let words = words_at (slots c.args.ring.now) now in
    let all : c.loop-i.i ≡ c.args.count = omega arith in
    let same : take c.args.count c.loop-i.addresses ≡ take c.args.count words = rw (← all) c.loop-i.invariant.filled in
    sym (zip_writes-take c.loop-i.addresses c.args.size c.args.count (text_of c.args.source))
    ∙ ap (λ (ps : List ℕ). zip_writes ps (cut c.args.size c.args.count (text_of c.args.source))) same
    ∙ zip_writes-take words c.args.size c.args.count (text_of c.args.source)
    ∙ words_at-is (slots c.args.ring.now) now c.args.size c.args.count (text_of c.args.source)
