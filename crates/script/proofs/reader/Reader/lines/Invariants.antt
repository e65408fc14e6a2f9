-- What is left of the text, and whatever follows it, leads from what is read now to what the whole says.
use Rattle.std.proofs.Common.{◌≡◌, ◌-◌, ◌≤◌, ◌++◌, ℕ, List, length, drop}
use Rattle.script.specs.Reading.{lines_of, read_on}
use Rattle.script.proofs.reader.Reader.lines.Given as goal

abbrev pub invariant-loop-after : goal.invariant-loop-after
invariant-loop-after l = record {
  reads : (more : List ℕ) → read_on (lines_of (l.text ++ more)) l.initial.self ≡ read_on (lines_of (l.rest ++ more)) l.self;
  rest : l.rest ≡ drop (length l.text - length l.rest) l.text;
  left : length l.rest ≤ length l.text;
}

abbrev pub decreases-loop-after : goal.decreases-loop-after
decreases-loop-after l = length l.rest
