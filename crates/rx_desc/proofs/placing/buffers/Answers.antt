-- A step of the loop reads one slot's word, and stops exactly where its piece would pass the end.
use Rattle.std.proofs.Common.{◌≡◌, ℕ, ◌+◌, ◌<◌, ◌≤◌, true, false, nat_le, length, List, [], ◌++◌, refl, sym, ap, min, ◌∙◌, set, take, arith}
use Rattle.std.proofs.lemmas.List.{length-set}
use Rattle.std.proofs.lemmas.Bool.Decides.{nat_tests}
use Rattle.rings.specs.Ring.{owned}
use Rattle.rx_desc.specs.Receive.{slots, cut, zip_writes}
use Rattle.rx_desc.specs.Parts.{text_of}
use Rattle.rx_desc.proofs.Pieces.{rest_writes-none, rest_writes-all, passes_end-none, steps_on, passes_here, passes_later, get_or-slots, length-slots, words_at, words_at-is, passes_words, length-words_at, zip_writes-take}
use Rattle.rx_desc.proofs.Slots.{slots_apart}
use Rattle.rx_desc.specs.Accesses.{descriptors_read, words_read}
use Rattle.rx_desc.proofs.Listed.{read_here, read_later, read_none, counts_words}
use Rattle.rx_desc.proofs.WordsRead.{WordsRead, none_read, one_read, same_back, words_listed}
use Rattle.rx_desc.proofs.placing.buffers.Given as given
use Rattle.rx_desc.proofs.placing.buffers.Goals as goal

pub loop-i-init : goal.loop-i-init
loop-i-init g c = record {
  nine = refl;
  read = none_read _ _ _ _ _;
  passes = λ words enough same. rw rest_writes-none refl;
  counts = λ words enough same. rw rest_writes-none (omega arith);
}

-- where a piece passes the end, one word more was read
step : (g : given.Over) (c : goal.Then-not-holds g) → WordsRead g.D.Dma.shared (slots c.args.ring.now) (c.loop-i.i + 1) c.args.memory.now.accesses c.load_word-buffer.new.self.accesses (g.D.Dma.seen c.args.memory.now.memory) (g.D.Dma.seen c.load_word-buffer.new.self.memory) (set c.loop-i.addresses c.loop-i.i c.load_word-buffer.result)
step g c =
    let r = c.args.ring.now in
    let owns : c.loop-i.i < length (owned r) = omega arith in
    let inside : c.loop-i.i < length (slots r) = omega (arith, length-slots r) in
    let fits : c.slot-at.result + 8 ≤ length (g.D.Dma.seen c.args.memory.now.memory) = omega (arith, c.slot-at.ensures.inside, c.requires.inside c.slot-at.ensures.on) in
    one_read _ (slots r) _ _ _ _ _ _ _ _ _ _ inside (omega (arith, c.loop-i.invariant.nine)) (c.slot-at.ensures.value ∙ sym (get_or-slots r c.loop-i.i owns)) (λ j less. slots_apart r j c.loop-i.i c.requires.valid less inside) fits
    c.load_word-buffer.ensures.seen c.load_word-buffer.ensures.listed c.load_word-buffer.ensures.value c.load_word-buffer.ensures.read c.loop-i.invariant.read

pub returns-then-not-holds-clause-met : goal.returns-then-not-holds-clause-met
returns-then-not-holds-clause-met g c = (step g c).met_is

pub returns-then-not-holds-clause-traced : goal.returns-then-not-holds-clause-traced
returns-then-not-holds-clause-traced g c = (step g c).traced

pub returns-then-not-holds-clause-variant : goal.returns-then-not-holds-clause-variant
returns-then-not-holds-clause-variant g c =
    let n = length (g.D.Dma.seen c.args.memory.now.memory) in
    let there = g.D.Dma.seen c.load_word-buffer.new.self.memory in
    let words = words_at (slots c.args.ring.now) there in
    let enough : c.args.count ≤ length words = omega (arith, length-words_at (slots c.args.ring.now) there, length-slots c.args.ring.now) in
    let here : c.loop-i.i < length words = omega (arith, enough) in
    let same = same_back c.loop-i.addresses words c.loop-i.i c.load_word-buffer.result (omega (arith, c.loop-i.invariant.nine)) here (step g c).filled in
    let s = steps_on words c.args.size c.args.count c.loop-i.i _ (text_of c.loop-i.rest) _ _ [] _ n (omega arith) here same.here (c.min.ensures ∙ ap (min c.args.size) c.len.ensures) c.split_at.ensures.front c.split_at.ensures.back in
    let no : nat_le (c.load_word-buffer.result + c.len-in-loop-i.result) c.size-memory_size.result ≡ false = sym c.holds.ensures ∙ c.if-not-holds.true in
    let past : n < c.load_word-buffer.result + length (text_of c.split_at.result.0) = grind (arith, nat_tests) in
    sym (passes_here _ _ _ _ _ _ _ _ _ _ _ s past) ∙ c.loop-i.invariant.passes words enough same.before
    ∙ passes_words _ n (slots c.args.ring.now) there c.args.size c.args.count (text_of c.args.source) (step g c).size

pub returns-then-not-holds-clause-listed : goal.returns-then-not-holds-clause-listed
returns-then-not-holds-clause-listed g c =
    let n = length (g.D.Dma.seen c.args.memory.now.memory) in
    let there = g.D.Dma.seen c.load_word-buffer.new.self.memory in
    let words = words_at (slots c.args.ring.now) there in
    let enough : c.args.count ≤ length words = omega (arith, length-words_at (slots c.args.ring.now) there, length-slots c.args.ring.now) in
    let here : c.loop-i.i < length words = omega (arith, enough) in
    let same = same_back c.loop-i.addresses words c.loop-i.i c.load_word-buffer.result (omega (arith, c.loop-i.invariant.nine)) here (step g c).filled in
    let s = steps_on words c.args.size c.args.count c.loop-i.i _ (text_of c.loop-i.rest) _ _ [] _ n (omega arith) here same.here (c.min.ensures ∙ ap (min c.args.size) c.len.ensures) c.split_at.ensures.front c.split_at.ensures.back in
    let no : nat_le (c.load_word-buffer.result + c.len-in-loop-i.result) c.size-memory_size.result ≡ false = sym c.holds.ensures ∙ c.if-not-holds.true in
    let past : n < c.load_word-buffer.result + length (text_of c.split_at.result.0) = grind (arith, nat_tests) in
    let here_one = read_here _ _ _ _ _ _ _ _ _ _ _ s past in
    let all = c.loop-i.invariant.counts words enough same.before in
    let count : descriptors_read n (zip_writes words (cut c.args.size c.args.count (text_of c.args.source))) ≡ c.loop-i.i + 1 = omega (arith, here_one, all) in
    words_listed _ _ _ _ _ _ _ _ (step g c)
    ∙ ap (λ (k : ℕ). c.args.memory.now.accesses ++ words_read (take k (slots c.args.ring.now)) there) (sym (sym (counts_words _ n (slots c.args.ring.now) there c.args.size c.args.count (text_of c.args.source) (step g c).size) ∙ count))

pub loop-i-preserved : goal.loop-i-preserved
loop-i-preserved g c =
    let n = length (g.D.Dma.seen c.args.memory.now.memory) in
    let r = c.args.ring.now in
    let owns : c.loop-i.i < length (owned r) = omega arith in
    let inside : c.loop-i.i < length (slots r) = omega (arith, length-slots r) in
    let room : c.loop-i.i < length c.loop-i.addresses = omega (arith, c.loop-i.invariant.nine) in
    let fits : c.slot-at.result + 8 ≤ n = omega (arith, c.slot-at.ensures.inside, c.requires.inside c.slot-at.ensures.on) in
    let yes : nat_le (c.load_word-buffer.result + c.len-in-loop-i.result) c.size-memory_size.result ≡ true = sym c.holds.ensures ∙ c.if-not-holds.false in
    let short : c.load_word-buffer.result + c.len-in-loop-i.result ≤ c.size-memory_size.result = grind (arith, nat_tests) in
    record {
      nine = length-set _ _ _ ∙ c.loop-i.invariant.nine;
      read = one_read _ (slots r) _ _ _ _ _ _ _ _ _ _ inside room (c.slot-at.ensures.value ∙ sym (get_or-slots r c.loop-i.i owns)) (λ j less. slots_apart r j c.loop-i.i c.requires.valid less inside) fits
          c.load_word-buffer.ensures.seen c.load_word-buffer.ensures.listed c.load_word-buffer.ensures.value c.load_word-buffer.ensures.read c.loop-i.invariant.read;
      passes = λ words enough kept.
          let here : c.loop-i.i < length words = omega (arith, enough) in
          let same = same_back c.loop-i.addresses words c.loop-i.i c.load_word-buffer.result room here kept in
          let s = steps_on words c.args.size c.args.count c.loop-i.i _ (text_of c.loop-i.rest) _ _ [] _ n (omega arith) here same.here (c.min.ensures ∙ ap (min c.args.size) c.len.ensures) c.split_at.ensures.front c.split_at.ensures.back in
          passes_later _ _ _ _ _ _ _ _ _ _ _ s (omega (arith, short)) ∙ c.loop-i.invariant.passes words enough same.before;
      counts = λ words enough kept.
          let here : c.loop-i.i < length words = omega (arith, enough) in
          let same = same_back c.loop-i.addresses words c.loop-i.i c.load_word-buffer.result room here kept in
          let s = steps_on words c.args.size c.args.count c.loop-i.i _ (text_of c.loop-i.rest) _ _ [] _ n (omega arith) here same.here (c.min.ensures ∙ ap (min c.args.size) c.len.ensures) c.split_at.ensures.front c.split_at.ensures.back in
          let more = read_later _ _ _ _ _ _ _ _ _ _ _ s (omega (arith, short)) in
          let all = c.loop-i.invariant.counts words enough same.before in
          omega (arith, more, all);
    }

pub returns-clause-variant : goal.returns-clause-variant
returns-clause-variant g c =
    let n = length (g.D.Dma.seen c.args.memory.now.memory) in
    let there = g.D.Dma.seen c.loop-i.memory.memory in
    let words = words_at (slots c.args.ring.now) there in
    let all : c.loop-i.i ≡ c.args.count = omega arith in
    let enough : c.args.count ≤ length words = omega (arith, length-words_at (slots c.args.ring.now) there, length-slots c.args.ring.now) in
    sym (passes_end-none n _ (rest_writes-all words c.args.size c.args.count c.loop-i.i (text_of c.loop-i.rest) c.loop-i-test.false)) ∙ c.loop-i.invariant.passes words enough c.loop-i.invariant.read.filled
    ∙ passes_words _ n (slots c.args.ring.now) there c.args.size c.args.count (text_of c.args.source) c.loop-i.invariant.read.size

pub returns-clause-value : goal.returns-clause-value
returns-clause-value g c =
    let words = words_at (slots c.args.ring.now) (g.D.Dma.seen c.loop-i.memory.memory) in
    let all : c.loop-i.i ≡ c.args.count = omega arith in
    let same : take c.args.count c.loop-i.addresses ≡ take c.args.count words = rw (← all) c.loop-i.invariant.read.filled in
    sym (zip_writes-take c.loop-i.addresses c.args.size c.args.count (text_of c.args.source))
    ∙ ap (λ (ps : List ℕ). zip_writes ps (cut c.args.size c.args.count (text_of c.args.source))) same
    ∙ zip_writes-take words c.args.size c.args.count (text_of c.args.source)
    ∙ words_at-is (slots c.args.ring.now) (g.D.Dma.seen c.loop-i.memory.memory) c.args.size c.args.count (text_of c.args.source)

pub returns-clause-listed : goal.returns-clause-listed
returns-clause-listed g c =
    let n = length (g.D.Dma.seen c.args.memory.now.memory) in
    let there = g.D.Dma.seen c.loop-i.memory.memory in
    let words = words_at (slots c.args.ring.now) there in
    let all : c.loop-i.i ≡ c.args.count = omega arith in
    let enough : c.args.count ≤ length words = omega (arith, length-words_at (slots c.args.ring.now) there, length-slots c.args.ring.now) in
    let left = read_none n _ (rest_writes-all words c.args.size c.args.count c.loop-i.i (text_of c.loop-i.rest) c.loop-i-test.false) in
    let total = c.loop-i.invariant.counts words enough c.loop-i.invariant.read.filled in
    let count : descriptors_read n (zip_writes words (cut c.args.size c.args.count (text_of c.args.source))) ≡ c.loop-i.i = omega (arith, left, total) in
    words_listed _ _ _ _ _ _ _ _ c.loop-i.invariant.read
    ∙ ap (λ (k : ℕ). c.args.memory.now.accesses ++ words_read (take k (slots c.args.ring.now)) there) (sym (sym (counts_words _ n (slots c.args.ring.now) there c.args.size c.args.count (text_of c.args.source) c.loop-i.invariant.read.size) ∙ count))
