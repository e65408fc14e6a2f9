-- Calls that contracts alone see.
use Rattle.std.specs.Prelude.{List}
use Rattle.history.specs.Entries.{Entry}

-- the calls, the oldest first
pub record Listed : Type 0 where
  pub calls : List Entry
