-- Each end of placing one piece is the definition's, on the memory with the word that was read: there is no descriptor, or the piece passes the memory's end, or it is written and its descriptor too.
use Rattle.std.proofs.Common.{◌≡◌, ℕ, ◌+◌, ◌<◌, ◌≤◌, List, [], ◌∷◌, ◌++◌, length, refl, sym, ap, ◌∙◌, true, false, nat_le, arith}
use Rattle.std.proofs.lemmas.Bool.Decides.{nat_tests}
use Rattle.guest_memory.specs.Memory.{word_bytes, two_words}
use Rattle.rings.specs.Ring.{owned}
use Rattle.live_memory.specs.Trace.{Access, Read, Wrote, reads, met, IsTraced, NotRead, ReadOnce}
use Rattle.live_memory.proofs.Accesses.{traced_none, listed_then}
use Rattle.live_memory.proofs.Once.{traced_writes, met_writes}
use Rattle.live_memory.proofs.Written.{size_written}
use Rattle.rx_desc.specs.Receive.{deliver_pieces, status}
use Rattle.rx_desc.specs.Accesses.{pieces_accesses}
use Rattle.rx_desc.specs.Parts.{text_of}
use Rattle.rx_desc.proofs.Delivered.{on_still, one_past, one_written}
use Rattle.rx_desc.proofs.Listed.{length-two_words, few_accesses, one_past_accesses, one_put_accesses}
use Rattle.rx_desc.proofs.Pieces.{one-no_room, get_or-slots}
use Rattle.rx_desc.proofs.placing.place_one.Given as given
use Rattle.rx_desc.proofs.placing.place_one.Goals as goal

pub returns-in_default-clause-done : goal.returns-in_default-clause-done
returns-in_default-clause-done g c =
    on_still (λ (k : List ℕ). deliver_pieces c.args.back (text_of c.args.source ∷ []) k c.args.ring.now) _ _ _ _
    (one-no_room c.args.back (text_of c.args.source) (g.D.Dma.seen c.args.memory.now.memory) c.args.ring.now c.in_default.ensures.none)

pub returns-in_default-clause-listed : goal.returns-in_default-clause-listed
returns-in_default-clause-listed g c = few_accesses _ _ _ _ _ (omega (arith, c.in_default.ensures.none))

pub returns-in_default-clause-traced : goal.returns-in_default-clause-traced
returns-in_default-clause-traced g c = traced_none _ _ _

-- where the piece passes the end, a word was read
record Past (g : given.Over) (c : goal.After-disable g) : Type 0 where
  owns : 0 < length (owned c.args.ring.now)
  long : length (g.D.Dma.seen c.load_word-buffer.new.self.memory) < c.load_word-buffer.result + length (text_of c.args.source)

past : (g : given.Over) (c : goal.After-disable g) → Past g c
past g c =
    let no : nat_le (c.load_word-buffer.result + c.len-count.result) c.size.result ≡ false = sym c.holds.ensures ∙ c.if-not-holds.true in
    record {
      owns = c.in-Some.ensures.owned;
      long = grind (arith, nat_tests);
    }

pub returns-then-not-holds-clause-done : goal.returns-then-not-holds-clause-done
returns-then-not-holds-clause-done g c =
    let p = past g c in
    let at = c.in-Some.ensures.first ∙ sym (get_or-slots c.args.ring.now 0 p.owns) in
    one_past c.args.back (text_of c.args.source) _ _ c.args.ring.now _ _ _ (sym c.load_word-buffer.ensures.read.met_is) c.disable.ensures p.owns at c.load_word-buffer.ensures.value p.long

pub returns-then-not-holds-clause-listed : goal.returns-then-not-holds-clause-listed
returns-then-not-holds-clause-listed g c =
    let p = past g c in
    let at = c.in-Some.ensures.first ∙ sym (get_or-slots c.args.ring.now 0 p.owns) in
    c.load_word-buffer.ensures.listed
    ∙ ap (λ (t : List Access). c.args.memory.now.accesses ++ t) (one_past_accesses c.args.back (text_of c.args.source) (g.D.Dma.seen c.load_word-buffer.new.self.memory) c.args.ring.now _ _ p.owns at c.load_word-buffer.ensures.value p.long)
    ∙ ap (λ (m : List ℕ). c.args.memory.now.accesses ++ pieces_accesses c.args.back (text_of c.args.source ∷ []) m c.args.ring.now) c.load_word-buffer.ensures.read.met_is

pub returns-then-not-holds-clause-traced : goal.returns-then-not-holds-clause-traced
returns-then-not-holds-clause-traced g c = c.load_word-buffer.ensures.read.traced

-- where the piece is placed, a word was read, and all else was writing
record Placing (g : given.Over) (c : goal.After-advance g) : Type 0 where
  fits : c.load_word-buffer.result + length (text_of c.args.source) ≤ length (g.D.Dma.seen c.load_word-buffer.new.self.memory)
  size : length (g.D.Dma.seen c.store_words.new.self.memory) ≡ length (g.D.Dma.seen c.args.memory.now.memory)
  wrote : c.store_words.new.self.accesses ≡ c.load_word-buffer.new.self.accesses ++ Wrote c.load_word-buffer.result (text_of c.args.source) ∷ Wrote c.in-Some.at (two_words c.first_word.result c.status.result) ∷ []
  met_is : met c.args.memory.now.accesses c.store_words.new.self.accesses (g.D.Dma.seen c.args.memory.now.memory) ≡ g.D.Dma.seen c.load_word-buffer.new.self.memory
  traced : IsTraced g.D.Dma.shared (g.D.Dma.seen c.args.memory.now.memory) c.args.memory.now.accesses c.store_words.new.self.accesses

placing : (g : given.Over) (c : goal.After-advance g) → Placing g c
unfolding reads NotRead ReadOnce
placing g c =
    let n = length (g.D.Dma.seen c.args.memory.now.memory) in
    let read = c.load_word-buffer.ensures.read in
    let whole : c.in-Some.at + 16 ≤ n = omega (arith, c.in-Some.ensures.inside, c.requires.inside c.in-Some.ensures.on) in
    let yes : nat_le (c.load_word-buffer.result + c.len-count.result) c.size.result ≡ true = sym c.holds.ensures ∙ c.if-not-holds.false in
    let fits : c.load_word-buffer.result + c.len-count.result ≤ c.size.result = grind (arith, nat_tests) in
    let here : c.load_word-buffer.result + length (text_of c.args.source) ≤ n = omega (arith, fits, read.size) in
    let count = length-two_words c.first_word.result c.status.result in
    let room : length (g.D.Dma.seen c.write_parts.new.memory.memory) ≡ n = c.write_parts.ensures.size ∙ read.size in
    let ws : List Access = Wrote c.load_word-buffer.result (text_of c.args.source) ∷ Wrote c.in-Some.at (two_words c.first_word.result c.status.result) ∷ [] in
    let wrote = listed_then _ _ _ (Wrote c.load_word-buffer.result (text_of c.args.source) ∷ []) (Wrote c.in-Some.at (two_words c.first_word.result c.status.result) ∷ []) c.write_parts.ensures.listed c.store_words.ensures.listed in
    record {
      fits = omega (arith, here, read.size);
      size = ap length c.store_words.ensures.seen ∙ size_written c.in-Some.at (two_words c.first_word.result c.status.result) (g.D.Dma.seen c.write_parts.new.memory.memory) (omega (arith, whole, count, room)) ∙ room;
      wrote = wrote;
      met_is = met_writes g.D.Dma.shared _ _ _ ws _ _ read.met_is read.traced wrote refl;
      traced = traced_writes g.D.Dma.shared _ _ _ ws _ read.traced wrote refl (here, (tt, (omega (arith, whole, count), (tt, tt))));
    }

pub returns-clause-done : goal.returns-clause-done
returns-clause-done g c =
    let owns : 0 < length (owned c.args.ring.now) = c.in-Some.ensures.owned in
    let at = c.in-Some.ensures.first ∙ sym (get_or-slots c.args.ring.now 0 owns) in
    let word = c.status.ensures ∙ ap (status c.args.back true) c.len-count.ensures in
    one_written c.args.back (text_of c.args.source) _ _ _ _ c.args.ring.now _ _ _ _ _ (placing g c).met_is c.write_parts.ensures.written c.store_words.ensures.seen c.advance.ensures owns at c.load_word-buffer.ensures.value (placing g c).fits c.first_word.ensures word

pub returns-clause-listed : goal.returns-clause-listed
returns-clause-listed g c =
    let owns : 0 < length (owned c.args.ring.now) = c.in-Some.ensures.owned in
    let at = c.in-Some.ensures.first ∙ sym (get_or-slots c.args.ring.now 0 owns) in
    let word = c.status.ensures ∙ ap (status c.args.back true) c.len-count.ensures in
    listed_then _ _ _ (Read c.in-Some.at (word_bytes c.load_word-buffer.result) ∷ []) _ c.load_word-buffer.ensures.listed (placing g c).wrote
    ∙ ap (λ (t : List Access). c.args.memory.now.accesses ++ t) (one_put_accesses c.args.back (text_of c.args.source) (g.D.Dma.seen c.load_word-buffer.new.self.memory) c.args.ring.now _ _ _ _ owns at c.load_word-buffer.ensures.value (placing g c).fits c.first_word.ensures word)
    ∙ ap (λ (m : List ℕ). c.args.memory.now.accesses ++ pieces_accesses c.args.back (text_of c.args.source ∷ []) m c.args.ring.now) (sym (placing g c).met_is)

pub returns-clause-traced : goal.returns-clause-traced
returns-clause-traced g c = (placing g c).traced

pub returns-clause-size : goal.returns-clause-size
returns-clause-size g c = (placing g c).size
