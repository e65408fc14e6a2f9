-- What a history is seen as, and what is true of its fields.
use Rattle.std.specs.Prelude.{◌≤◌, ◌*◌, map, vec_len, vec_capacity}
use Rattle.std.specs.List.{All}
use Rattle.history.specs.declared.history.History.TheInside.{Inside}
use Rattle.history.specs.Entries.{Kept}
use Rattle.history.specs.Heads.{entry_of, Stands}

abbrev pub kept_of : Inside → Kept
kept_of s = record { entries = map (entry_of s.store.items) s.heads.items; cap = s.cap }

-- an entry has at most 9018 + 24 bytes: those of the longest frame, and three words of messages
pub record IsKept (s : Inside) : Type 0 where
  pub stand : All (Stands s.store.items) s.heads.items
  pub short : vec_len s.heads ≤ s.cap
  pub few : s.cap ≤ 65536
  pub room : s.cap ≤ vec_capacity s.heads
  pub bytes : vec_len s.store ≤ vec_len s.heads * 9042
  pub bytes_room : s.cap * 9042 ≤ vec_capacity s.store
