-- The calls of the front that the thread makes that plays a script, in the order in which it was played: each by pass 0 of the front, with pass 0 of the table as it is handed over and as it comes back. And where the script stopped on each channel.
use Rattle.std.specs.Prelude.{ℕ, zero, suc, ◌==◌, Bool, List, [], ◌∷◌, ◌++◌, Option, Some, None}
use Rattle.std.proofs.Common.{inl, inr}
use Rattle.rd_carry.specs.declared.ended.Ended.{Ended as SessionEnd}
use Rattle.rd_host_channel.specs.Calls.{HostEntry}
use Rattle.rd_host_channel.specs.declared.ending.Ending.{Ending}
use Rattle.rd_host_front.specs.declared.calls.Came.TheVariants as came
use Rattle.rd_host_front.specs.declared.calls.HostFrontCall.TheVariants as call
use Rattle.rd_host_front.specs.declared.calls.HostFrontReply.TheVariants as reply
use Rattle.rd_host_front.specs.State.{TurnOfTable}
use Rattle.rd_host_player.specs.Play.{Acted, Acts, Ended, PlayState, Plays, Stops, Tried}
use Rattle.rd_host_player.specs.declared.player.Stop.{Stop}
use Rattle.rd_host_player.specs.declared.player.Stop.TheVariants as stop
use Rattle.rd_host_session.specs.Channels.{EndsAt, Served, ServesAll, ServesChannel, SessionState}
use Rattle.rd_turn.specs.History.{entry}
use Rattle.rd_turn.specs.Pass.{after_split}

module _ {F W : Type 0} where
  -- tries in vain to end the channel
  abbrev pub tried_calls : (times : ℕ) (old new : PlayState F W) → Tried times old new → List (HostEntry W)
  tried_calls zero old new is = []
  tried_calls (suc n) old new (here, tried, tries) = tried_calls n old here tried ++ entry 0 (call.DropSent here.first (n == 0)) (reply.First new.first came.NotYet) ∷ []

  -- those, and the one by which it ended
  abbrev pub ended_calls : (old new : PlayState F W) → Ended old new → List (HostEntry W)
  ended_calls old new (times, here, tried, tries) = tried_calls times old here tried ++ entry 0 (call.DropSent here.first (times == 0)) (reply.First new.first came.Done) ∷ []

  module _ (turn : TurnOfTable) where
    abbrev pub acts_calls : (old new : PlayState F W) → Acts turn old new → List (HostEntry W)
    acts_calls old new (here, next, issued, inl (comes, ended)) = ended_calls next new ended
    acts_calls old new (here, next, issued, inr goes_on) = []

    abbrev pub acted_calls : (times : ℕ) (old new : PlayState F W) → Acted turn times old new → List (HostEntry W)
    acted_calls zero old new is = []
    acted_calls (suc n) old new (here, acted, acts) = acted_calls n old here acted ++ acts_calls here new acts

    abbrev pub stops_calls : (why : Stop) (old new : PlayState F W) → Stops turn why old new → List (HostEntry W)
    stops_calls stop.Connect old new stops = []
    stops_calls stop.End old new (here, next, issued, none, ended, rest, all) = ended_calls here next ended

    module _ (devices : ℕ) where
      -- on a channel that began
      abbrev pub plays_calls : (why : Stop) (old new : PlayState F W) → Plays turn devices why old new → List (HostEntry W)
      plays_calls why old new (here, times, next, waited, acted, stops) = acted_calls times here next acted ++ stops_calls why next new stops

      -- on a channel: that by which it begins, and those
      abbrev pub channel_calls : (channel : ℕ) (why : Stop) (by : Ending) (starved : Bool) (old new : SessionState F W) → ServesChannel turn devices channel why by starved old new → List (HostEntry W)
      channel_calls channel why by starved old new serves =
          let begun = serves.begun in
          entry 0 (call.Begin channel (old.play).first) (reply.First begun.first came.Done)
          ∷ plays_calls why (record begun { front = after_split (after_split begun.front) }) (serves.serves).over (serves.serves).plays

      -- on so many channels
      abbrev pub served_calls : (count : ℕ) (old new : SessionState F W) → Served turn devices count old new → List (HostEntry W)
      served_calls zero old new is = []
      served_calls (suc n) old new (here, by, starved, served, serves, none) = served_calls n old here served ++ channel_calls (suc n) stop.Connect by starved here new serves

      -- on the channel that is the last, if there is one
      abbrev pub ends_calls : (channel : ℕ) (other : Option SessionEnd) (old new : SessionState F W) → EndsAt turn devices channel other old new → List (HostEntry W)
      ends_calls channel None old new (inl none) = []
      ends_calls channel None old new (inr (by, starved, serves, none)) = channel_calls channel stop.End by starved old new serves
      ends_calls channel (Some e) old new (why, by, starved, here, serves, is, linker, plays) = channel_calls channel why by starved old here serves

      -- on all channels
      abbrev pub session_calls : (other : Option SessionEnd) (old new : SessionState F W) → ServesAll turn devices other old new → List (HostEntry W)
      session_calls other old new (count, here, served, ends) = served_calls count old here served ++ ends_calls (suc count) other here new ends

      -- ---- where the script stopped

      -- on so many channels, after each of which a line begins the next
      abbrev pub served_stops : (count : ℕ) (old new : SessionState F W) → Served turn devices count old new → List Stop
      served_stops zero old new is = []
      served_stops (suc n) old new (here, by, starved, served, serves, none) = served_stops n old here served ++ stop.Connect ∷ []

      -- on the channel that is the last, if there is one
      abbrev pub ends_stops : (channel : ℕ) (other : Option SessionEnd) (old new : SessionState F W) → EndsAt turn devices channel other old new → List Stop
      ends_stops channel None old new (inl none) = []
      ends_stops channel None old new (inr last) = stop.End ∷ []
      ends_stops channel (Some e) old new (why, by, starved, here, serves, is, linker, plays) = why ∷ []

      -- on all channels
      abbrev pub session_stops : (other : Option SessionEnd) (old new : SessionState F W) → ServesAll turn devices other old new → List Stop
      session_stops other old new (count, here, served, ends) = served_stops count old here served ++ ends_stops (suc count) other here new ends
