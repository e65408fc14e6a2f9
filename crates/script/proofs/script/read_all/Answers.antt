-- A block's lines lead on, or one is bad.
use Rattle.std.proofs.Common.{◌∙◌, sym}
use Rattle.std.proofs.lemmas.Result.{err_from_is_err_and}
use Rattle.script.proofs.BlockLemmas.{held_more, reads_bad, reads_next}
use Rattle.script.proofs.script.read_all.Goals as goal

pub returns-in_err-filled-clause-bad : goal.returns-in_err-filled-clause-bad
returns-in_err-filled-clause-bad g c =
    let p = err_from_is_err_and c.from_residual-in_err-filled.result c.from_residual-in_err-filled.ensures.1 in
    rw p.1 (λ n is.
    let held = held_more c.loop.block c.fill.new.block c.loop.filled c.in_ok-count.count c.fill.ensures.front in
    reads_bad (g.R.Read.remaining c.args.reader.now) (g.R.Read.remaining c.loop.reader) (g.R.Read.remaining c.fill.new.reader)
    _ _ _ c.loop.lines n c.loop.invariant.reads c.in_ok-count.ensures.bytes.0 held (c.in_err-filled.ensures.bad n (sym p.2 ∙ is)))

pub loop-preserved : goal.loop-preserved
loop-preserved g c =
    let held = held_more c.loop.block c.fill.new.block c.loop.filled c.in_ok-count.count c.fill.ensures.front in
    record {
      block = c.in_ok-filled.ensures.len ∙ c.in_ok-count.ensures.len ∙ c.loop.invariant.block;
      filled = c.in_ok-filled.ensures.short;
      clear = c.in_ok-filled.ensures.clear;
      reads = reads_next (g.R.Read.remaining c.args.reader.now) (g.R.Read.remaining c.loop.reader) (g.R.Read.remaining c.fill.new.reader)
          _ _ _ _ c.loop.lines c.take_lines.new.lines c.loop.invariant.reads c.in_ok-count.ensures.bytes.0 held c.in_ok-filled.ensures.ok;
    }
