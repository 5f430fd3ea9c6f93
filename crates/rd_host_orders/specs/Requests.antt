-- The requests of a host on a channel: those that it accepted, and those that it wrote.
use Rattle.std.specs.Prelude.{◌==◌, ℕ, List, filter, map, reverse}
use Rattle.rd_irp.specs.Written.{request_bytes}
use Rattle.rd_pending.specs.History.{accepted_in}
use Rattle.rd_pending.specs.Outcomes.{Accepted}
use Rattle.rd_deeds.specs.HostDeeds.{calls_of}
use Rattle.rd_deeds.specs.Joining.{request_of_accepted}
use Rattle.rd_world.specs.Recording.{client_id}
use Rattle.rd_deeds.specs.Talk.{Deed, host_wrote, is_request}

-- the message of a request that was accepted: its own device, file, completion id and operation
abbrev pub message_for : Accepted → List ℕ
message_for a = request_bytes (request_of_accepted a)

-- the messages of those that were accepted on a channel, in order
abbrev pub messages_on : ℕ → List Accepted → List (List ℕ)
messages_on c requests = map message_for (filter (λ a. a.channel == c) requests)

abbrev pub accepted_messages : ℕ → List Deed → List (List ℕ)
accepted_messages c deeds = messages_on c (accepted_in (calls_of client_id deeds))

-- the requests among what was written on a channel, in order
abbrev pub sent_requests : ℕ → List Deed → List (List ℕ)
sent_requests c deeds = reverse (filter is_request (host_wrote c deeds))
