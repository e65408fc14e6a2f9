-- How many calls the history of a script has room for.
use Rattle.std.specs.Prelude.{ℕ, ◌+◌, length}
use Rattle.script.specs.Reading.{Meaning}

-- one for each event, and one for the end of each of the 64 ports
abbrev pub most_calls : Meaning → ℕ
most_calls said = length said.events + 64
