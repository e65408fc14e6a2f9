-- The accesses that a lone function makes to its memory, in order.
use Rattle.std.specs.Prelude.{List, [], ◌∷◌, ◌++◌, if◌then◌else◌}
use Rattle.live_memory.specs.Trace.{Access}
use Rattle.vf_unit.specs.Unit.{given_accesses}
use Rattle.device.specs.Events.{Event}
use Rattle.device.specs.declared.event.Event.TheVariants.{Serve}
use Rattle.device.specs.Act.{act_accesses, serve_accesses}
use Rattle.device.specs.Lone.{Item, OwnEvent, NewSettings, Gone, Offer, Lone, moved}

-- those of an event of its own
abbrev pub made_by_own : Lone → Event → List Access
made_by_own s (Serve p q) = serve_accesses s.profile.limit s.settings s.function q
made_by_own s e = act_accesses s.function e

-- those of what it is given
abbrev pub made_by : Lone → Item → List Access
made_by s (OwnEvent e) = made_by_own s e
made_by s (NewSettings o) = []
made_by s Gone = []
made_by s (Offer frame looped) = if s.settings.may_receive then given_accesses looped frame s.function else []

abbrev pub lone_made : Lone → List Item → List Access
lone_made s [] = []
lone_made s (k ∷ ks) = made_by s k ++ lone_made (moved s k) ks
