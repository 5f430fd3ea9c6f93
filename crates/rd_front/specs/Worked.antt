-- A worked history of a front without desks: a channel begins and opens, a request is answered without its device, the writer takes what there is, and the
-- channel and the session end.
use Rattle.std.specs.Prelude.{ℕ, true, false, List, [], ◌∷◌, None}
use Rattle.rd_base.specs.Statuses.{no_such_device}
use Rattle.rd_client.specs.Core.{direct_bytes, new_client}
use Rattle.rd_client.specs.Worked.{announced, close, close_bytes, confirmed, logged_on, offered, own_confirm, own_devices, own_list, own_name, own_sets}
use Rattle.rd_client.specs.Core.{job_of}
use Rattle.rd_turn.specs.declared.object.Entry.{Entry}
use Rattle.rd_turn.specs.History.{entry}
use Rattle.rd_front.specs.declared.calls.FrontCall.{FrontCall}
use Rattle.rd_front.specs.declared.calls.FrontCall.TheVariants as call
use Rattle.rd_front.specs.declared.calls.FrontReply.{FrontReply}
use Rattle.rd_front.specs.declared.calls.FrontReply.TheVariants as reply
use Rattle.rd_front.specs.declared.calls.Rest.TheVariants as rest
use Rattle.rd_room.specs.Room.{MessageRoom}
use Rattle.rd_front.specs.State.{FrontState}

-- a front over a client with two drives, and no desks
abbrev pub bare_front : FrontState
bare_front = record {
  client = new_client own_devices;
  printers = [];
  cache = [];
  desks = [];
  kept = None;
  channel = 0;
  on = false;
  over = false;
  unsent = 0;
}

-- what the writer is given: what the opening writes, the list of the devices, and the completion of the request
abbrev pub written_first : List (List ℕ)
written_first = own_confirm ∷ own_name ∷ own_sets ∷ own_list ∷ direct_bytes (job_of (close 5) 1 0) 1 no_such_device ∷ []

-- room for so many messages
abbrev pub room_of : List (List ℕ) → MessageRoom
room_of messages = record { places = 8; messages = messages }

abbrev pub done : FrontReply
done = reply.Done None false

-- The reader's pass has the number 1, the writer's 2.
abbrev pub worked_history : List (Entry FrontCall FrontReply)
worked_history =
    entry 1 (call.Begin 1) done
    ∷ entry 1 (call.Hear announced) done
    ∷ entry 1 (call.Hear offered) done
    ∷ entry 1 (call.Hear confirmed) done
    ∷ entry 1 (call.Hear logged_on) done
    ∷ entry 1 (call.Hear (close_bytes 5)) done
    ∷ entry 2 (call.Next 1 0 (room_of [])) (reply.Messages (room_of written_first) rest.Nothing)
    ∷ entry 1 call.Look (reply.Stands true 1)
    ∷ entry 1 (call.Remove 7) reply.Refused
    ∷ entry 1 call.EndChannel done
    ∷ entry 1 (call.Hear (close_bytes 5)) reply.Refused
    ∷ entry 1 call.EndSession done
    ∷ []
