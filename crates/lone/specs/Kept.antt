-- The values of the code that stand for what a run keeps for a pool, and for what is seen of a lone function.
use Rattle.std.specs.Prelude.{◌≡◌, ℕ, Option, Some, None}
use Rattle.device.specs.Request.{event_of}
use Rattle.device.specs.declared.room.Room.{Room}
use Rattle.device.specs.Outcome.{reply_of}
use Rattle.device.specs.World.{World}
use Rattle.device.specs.Lone.{Item, OwnEvent, NewSettings, Gone, Offer, Observation, Replied, Interrupted, Lone, lone_of, moved, shown}
use Rattle.lone.specs.declared.item.Given.{Given}
use Rattle.lone.specs.declared.item.Given.TheVariants.{OwnEvent, NewSettings, Gone, Offer}
use Rattle.lone.specs.declared.item.Seen.{Seen}
use Rattle.lone.specs.declared.item.Seen.TheVariants.{Replied, Interrupted}

-- a device that is watched for one of its pools
pub record Watched : Type 0 where
  pub world : World
  pub pool : ℕ

-- the item that a value stands for
abbrev pub item_of : Given → Item
item_of (OwnEvent request) = OwnEvent (event_of request)
item_of (NewSettings o) = NewSettings o.now
item_of Gone = Gone
item_of (Offer frame looped) = Offer frame.bytes.now looped

-- the observation that a value stands for, where bytes that were read stand first in the room
abbrev pub observation_of : Room → Seen → Observation
observation_of room (Replied outcome vectors) = Replied (reply_of room.bytes outcome) vectors
observation_of room (Interrupted vectors) = Interrupted vectors

-- what a lone function becomes by what an event leaves for it, if it leaves anything
abbrev pub moved_by_kept : Lone → Option Item → Lone
moved_by_kept s None = s
moved_by_kept s (Some k) = moved s k

-- and what is seen of it
abbrev pub shown_by_kept : Lone → Option Item → Option Observation
shown_by_kept s None = None
shown_by_kept s (Some k) = shown s k

-- a lone function is as the pool's part of a device
abbrev pub IsPartOf : Lone → Watched → Type 0
IsPartOf l w = l ≡ lone_of w.pool w.world
