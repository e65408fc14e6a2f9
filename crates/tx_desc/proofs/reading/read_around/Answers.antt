-- Two parts, and the descriptor's own words between.
use Rattle.std.proofs.Common.{◌≡◌, ℕ, ◌+◌, ◌-◌, ◌<◌, ◌≤◌, inl, inr, List, ◌++◌, length, slice_range, refl, sym, ap, ◌∙◌, arith}
use Rattle.guest_memory.specs.Memory.{overwrite, two_words}
use Rattle.tx_desc.proofs.Around.{Ways, ways, around}
use Rattle.tx_desc.proofs.Unread.{part_apart, later_parts, reads_then}
use Rattle.tx_desc.proofs.Listing.{around_listed}
use Rattle.tx_desc.proofs.reading.read_around.Given as given
use Rattle.tx_desc.proofs.reading.read_around.Goals as goal

-- how the two parts lie
record Parts (g : given.Over) (c : goal.After-slice_known-6-1 g) (size n1 n3 : ℕ) : Type 0 where
  w : Ways (length (g.D.Dma.seen c.args.memory.now.memory)) c.args.descriptor.buffer c.args.descriptor.at size c.gap-low.result c.min-high.result c.gap-skip.result
  over : c.args.descriptor.at < c.args.descriptor.buffer + size
  front : n1 ≡ c.gap-low.result
  back : n3 ≡ size - c.min-high.result
  first_len : length c.read_part.new.out ≡ n1
  last_len : length c.read_part-2.new.out ≡ n3
  once : length (g.D.Dma.seen c.read_part.new.memory.memory) ≡ length (g.D.Dma.seen c.args.memory.now.memory)
  fits : c.args.descriptor.buffer + n1 ≤ length (g.D.Dma.seen c.args.memory.now.memory)
  fits_behind : c.args.descriptor.at + 16 + n3 ≤ length (g.D.Dma.seen c.read_part.new.memory.memory)

parts : (g : given.Over) (c : goal.After-slice_known-6-1 g) → Parts g c (length c.args.out.now) (length c.split_at_mut-before.result.0.now) (length c.split_at_mut-own.result.1.now)
parts g c =
    let d = c.args.descriptor in
    let n : ℕ = length (g.D.Dma.seen c.args.memory.now.memory) in
    let size : ℕ = length c.args.out.now in
    let low = c.gap-low.result in
    let high = c.min-high.result in
    let n1 : ℕ = length c.split_at_mut-before.result.0.now in
    let n3 : ℕ = length c.split_at_mut-own.result.1.now in
    let inside : d.buffer + size ≤ n = rw c.requires.all c.requires.stands.inside in
    let over : d.at < d.buffer + size = rw c.requires.all c.requires.over in
    let w = ways n d.buffer d.at size low high c.gap-skip.result c.gap.result c.gap-low.ensures c.gap-skip.ensures c.gap.ensures c.min-high.ensures inside c.requires.stands.place over c.requires.under in
    let front : n1 ≡ low = c.split_at_mut-before.ensures.front_len in
    let back : n3 ≡ size - high = omega (arith, c.split_at_mut-own.ensures.back_len, c.split_at_mut-before.ensures.back_len, w.before, w.behind) in
    let once = c.read_part.ensures.read.size in
    record {
      w = w;
      over = over;
      front = front;
      back = back;
      first_len = c.read_part.auto.out;
      last_len = c.read_part-2.auto.out;
      once = once;
      fits = omega (arith, front, w.inside, w.before, w.behind);
      fits_behind = omega (arith, back, once, w.last);
    }

pub returns-clause-out : goal.returns-clause-out
returns-clause-out g c =
    let d = c.args.descriptor in
    let m = g.D.Dma.seen c.args.memory.now.memory in
    let size : ℕ = length c.args.out.now in
    let p = parts g c in
    let xs = c.read_part.new.out in
    let zs = c.read_part-2.new.out in
    let between : length c.split_at_mut-own.result.0.now ≡ c.min-high.result - c.gap-low.result = c.split_at_mut-own.ensures.front_len in
    (λ i. xs ++ ((c.copy_own.ensures ∙ ap (λ (k : ℕ). slice_range (two_words d.buffer d.word) c.gap-skip.result (c.gap-skip.result + k)) between) i ++ zs))
    ∙ around (length m) d.buffer d.at size c.gap-low.result c.min-high.result c.gap-skip.result xs (two_words d.buffer d.word) zs m p.w refl (p.first_len ∙ p.front) (p.last_len ∙ p.back) c.requires.stands.holds
    ∙ ap (λ (l : List ℕ). slice_range l d.buffer (d.buffer + size)) (sym (c.read_part-2.ensures.seen ∙ ap (overwrite (d.at + 16) zs) c.read_part.ensures.seen))
    ∙ ap (λ (k : ℕ). slice_range (g.D.Dma.seen c.read_part-2.new.memory.memory) d.buffer (d.buffer + k)) c.requires.all

pub returns-clause-reads : goal.returns-clause-reads
returns-clause-reads g c =
    let d = c.args.descriptor in
    let n1 : ℕ = length c.split_at_mut-before.result.0.now in
    let n3 : ℕ = length c.split_at_mut-own.result.1.now in
    let p = parts g c in
    let one = part_apart g.D.Dma.shared d.at d.buffer n1 _ _ _ _ _ c.read_part.ensures.listed c.read_part.ensures.seen p.first_len p.fits (λ some. let at_most = p.w.low_part (omega (arith, some, p.front)) in inr (omega (arith, at_most, p.front))) c.read_part.ensures.read in
    let two = part_apart g.D.Dma.shared d.at (d.at + 16) n3 _ _ _ _ _ c.read_part-2.ensures.listed c.read_part-2.ensures.seen p.last_len p.fits_behind (λ some. inl (omega arith)) c.read_part-2.ensures.read in
    reads_then g.D.Dma.shared d.at _ _ _ _ _ _ one two (later_parts d.buffer n1 (d.at + 16) n3 _ _ _ _ _ c.read_part.ensures.listed c.read_part-2.ensures.listed (omega (arith, p.front, p.w.first)))

pub returns-clause-listed : goal.returns-clause-listed
returns-clause-listed g c =
    let p = parts g c in
    around_listed c.args.descriptor (length c.args.out.now) c.gap-low.result c.min-high.result c.gap.result _ _ _ _ _ _ _ _ c.requires.all c.gap-low.ensures c.gap.ensures c.min-high.ensures p.front p.back p.over c.requires.under p.fits_behind p.last_len c.read_part-2.ensures.seen c.read_part.ensures.listed c.read_part-2.ensures.listed
