-- What is held and what the reader has left lead to what the whole says.
use Rattle.std.proofs.Common.{◌≡◌, ◌≤◌, length, take}
use Rattle.script.specs.Text.{IsWithout}
use Rattle.script.proofs.BlockLemmas.{ReadsOn}
use Rattle.script.proofs.script.read_all.Given as goal

abbrev pub invariant-loop : goal.invariant-loop
invariant-loop g l = record {
  block : length l.block ≡ 65536;
  filled : l.filled ≤ 40000;
  clear : IsWithout 10 (take l.filled l.block);
  reads : ReadsOn (g.R.Read.remaining l.initial.reader) (g.R.Read.remaining l.reader) (take l.filled l.block) l.lines;
}
