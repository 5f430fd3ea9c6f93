-- A host on a channel, for worked cases.
use Rattle.std.specs.Prelude.{ℕ, List, [], ◌∷◌, ◌++◌, codes, replicate, fold, Option, Some, Ok}
use Rattle.std.specs.List.{range_with_len}
use Rattle.rd_base.specs.declared.packet.Packet.TheVariants as packet
use Rattle.rd_base.specs.declared.status.Status.{Status}
use Rattle.rd_base.specs.Header.{header_bytes}
use Rattle.rd_devices.specs.declared.list.Announce.{Announce}
use Rattle.rd_devices.specs.DeviceList.{list_bytes}
use Rattle.rd_devices.specs.DeviceReply.{reply_bytes}
use Rattle.rd_devices.specs.Removal.{removal_bytes}
use Rattle.rd_base.specs.Statuses as status
use Rattle.rd_hello.specs.declared.host.HostState.TheVariants.{Ready}
use Rattle.rd_hello.specs.declared.hello.Hello.TheVariants.{Confirm, LoggedOn}
use Rattle.rd_hello.specs.Hello.{hello_bytes}
use Rattle.rd_hello.specs.Moves.{Move, reads, writes}
use Rattle.rd_hello.specs.Own.{client_name, client_sets, host_announce, host_sets}
use Rattle.rd_irp.specs.declared.completion.Body.TheVariants as body
use Rattle.rd_irp.specs.declared.completion.Head.{Head}
use Rattle.rd_irp.specs.declared.completion.Kind.TheVariants as kind
use Rattle.rd_irp.specs.declared.op.Op.TheVariants as op
use Rattle.rd_irp.specs.Written.{completion_bytes, request_bytes}
use Rattle.rd_core.specs.Core.{new_core}
use Rattle.rd_host.specs.declared.act.Act.TheVariants as act
use Rattle.rd_host.specs.Core.{HostCoreState, hears, host_begin, host_hear, new_host, replies, sends}
use Rattle.rd_host.specs.Order.{HostStanding, Replying, host_at_first, none_due, stand_after}
use Rattle.rd_host.specs.Events.{HostEvent, asks, calls, due_after_all}

-- a host whose channel began
abbrev pub host : HostCoreState
host = host_begin (new_host 1)

-- what is left of it by messages of the client
abbrev pub after : HostCoreState → List (List ℕ) → HostCoreState
after h messages = fold (λ at message. (host_hear at message).0) h messages

-- the client's messages
abbrev pub confirmed : List ℕ
confirmed = hello_bytes (Confirm (record { minor = 12; client = 1 }))

abbrev pub named : List ℕ
named = hello_bytes client_name

abbrev pub offered : List ℕ
offered = hello_bytes client_sets

abbrev pub ready : HostCoreState
ready = after host (confirmed ∷ named ∷ offered ∷ [])

-- a drive as it is announced, and the list of it
abbrev pub drive : Announce
drive = record { kind = 8; id = 1; dos = codes "DATA" ++ replicate 4 0; body = [] }

abbrev pub listed : List ℕ
listed = list_bytes (drive ∷ [])

-- the completion of a Close of device 1
abbrev pub closed_head : Head
closed_head = record { device = 1; completion = 5; status = record { 0 = 0 } }

abbrev pub closed : List ℕ
closed = completion_bytes kind.Close closed_head body.Closed

-- a completion whose head is cut short
abbrev pub short_head : List ℕ
short_head = header_bytes packet.IoCompletion

-- how a channel opens
abbrev pub opening_moves : List Move
opening_moves =
    writes (hello_bytes (host_announce 1)) ∷ reads confirmed ∷ reads named ∷ writes (hello_bytes host_sets)
    ∷ writes (hello_bytes (Confirm (record { minor = 12; client = 1 }))) ∷ reads offered ∷ writes (hello_bytes LoggedOn) ∷ []

-- where a host stands that gave no life before, after moves once the channel is open
abbrev pub stand_of : List Move → Option HostStanding
stand_of moves = stand_after (host_at_first 1 0) (opening_moves ++ moves)

-- a ready host that owes no reply, whose devices with these ids have a life, and that gave so many
abbrev pub replied_stand : List ℕ → ℕ → HostStanding
replied_stand alive given = record { shake = Ready; owed = []; own = record { due = []; alive = alive; given = given } }

-- the removal of device 1
abbrev pub removed : List ℕ
removed = removal_bytes (1 ∷ [])

-- the reply to device 1 that begins a life, to one that is there already, and to one of a type that isn't served
abbrev pub own_reply : List ℕ
own_reply = reply_bytes (record { id = 1; code = status.success })

abbrev pub again : List ℕ
again = reply_bytes (record { id = 1; code = status.object_name_collision })

abbrev pub unsupported : List ℕ
unsupported = reply_bytes (record { id = 1; code = status.not_supported })

-- device 1 is announced, and it is replied to with this code
abbrev pub announced_event : HostEvent
announced_event = calls (hears listed (Ok (act.Announced (drive ∷ []))))

abbrev pub replied_event : Status → HostEvent
replied_event code = calls (replies 1 code (Ok tt))

-- a message that says nothing more is heard, and a message is sent
abbrev pub heard_event : List ℕ → HostEvent
heard_event message = calls (hears message (Ok act.Nothing))

abbrev pub sent_event : List ℕ → HostEvent
sent_event message = calls (sends (Some message))

-- the request to close a file of device 1
abbrev pub closing : List ℕ
closing = request_bytes (record { device = 1; file = 1; completion = 5; op = op.Close })

-- the events of a host from its begin until it asks device 1, and what it is then
abbrev pub served_events : List HostEvent
served_events =
    sent_event (hello_bytes (host_announce 1)) ∷ heard_event confirmed ∷ heard_event named ∷ sent_event (hello_bytes host_sets)
    ∷ sent_event (hello_bytes (Confirm (record { minor = 12; client = 1 }))) ∷ heard_event offered ∷ sent_event (hello_bytes LoggedOn)
    ∷ announced_event ∷ replied_event status.success ∷ sent_event own_reply ∷ asks closing ∷ []

abbrev pub served : HostCoreState
served = record { client = 1; core = new_core Ready }

-- what is due after events, where nothing was before, if each reply was due
abbrev pub due_of : List HostEvent → Option Replying
due_of events = due_after_all (none_due 0) events

-- so many ids
abbrev pub many : ℕ → List ℕ
many count = range_with_len 0 count
