-- The law, by its lemmas.
use Rattle.device.proofs.Across.{isolated_sights, isolated_accesses, isolated_end, same_for, events_alone, kept_alone}
use Rattle.device.proofs.laws.across.Goals as goal

pub returns : goal.returns
returns c = record {
  seen = isolated_sights;
  accesses = isolated_accesses;
  state = isolated_end;
  same_kept = same_for;
  events = events_alone;
  kept = kept_alone;
}
