-- What stands and the lines that are left are the whole.
use Rattle.std.proofs.Common.{◌≡◌, ◌++◌, drop}
use Rattle.std.specs.String.{string_bytes}
use Rattle.transcript.specs.Lines.{numbered}
use Rattle.modes.specs.Report.{line_of}
use Rattle.modes.proofs.report.push_callers.Given as goal

abbrev pub invariant-loop-number : goal.invariant-loop-number
invariant-loop-number l =
    string_bytes l.text ++ numbered line_of l.number (drop l.number l.calls) ≡ string_bytes l.fn.text ++ numbered line_of 0 l.calls
