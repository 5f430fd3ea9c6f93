-- What passes between a host and a client, as one list of what each did, the newest first. It is said of messages and of journals alone, not of the
-- state that made them.
use Rattle.std.specs.Prelude.{◌≡◌, ◌⊎◌, ℕ, ◌==◌, ◌&&◌, ◌||◌, not, if◌then◌else◌, Bool, false, List, [], ◌∷◌, ◌++◌, length, filter, filter_map, Option, Some, None, Result, Ok, Err}
use Rattle.std.specs.List.{list_any}
use Rattle.std.specs.Option.{option_map_or}
use Rattle.rd_base.specs.declared.bad.Bad.{Bad}
use Rattle.rd_base.specs.declared.journal.Item.{Item}
use Rattle.rd_base.specs.declared.journal.Key.{Key}
use Rattle.rd_base.specs.declared.packet.Packet.TheVariants.{IoRequest}
use Rattle.rd_base.specs.Layout.{met}
use Rattle.rd_base.specs.Position.{Position, at_start}
use Rattle.rd_client.specs.Core.{op_read, request_with_head}
use Rattle.rd_devices.specs.declared.list.Announce.{Announce}
use Rattle.rd_devices.specs.DeviceList.{device_list}
use Rattle.rd_devices.specs.Removal.{removal}
use Rattle.rd_hello.specs.Moves.{Move, is_of, reads, writes}
use Rattle.rd_irp.specs.declared.completion.Head.{Head}
use Rattle.rd_irp.specs.declared.op.Op.{Op}
use Rattle.rd_irp.specs.declared.request.Request.{Request}
use Rattle.rd_irp.specs.declared.request.RequestHead.{RequestHead}
use Rattle.rd_irp.specs.Completion.{completion_head}
use Rattle.rd_irp.specs.Request.{body_after, request_head}
use Rattle.rd_pending.specs.declared.calls.Target.{Target}
use Rattle.rd_station.specs.Station.{is_key}
use Rattle.rd_printer.specs.declared.notice.Notice.{Notice}
use Rattle.rd_printer.specs.Notice.{notice}

-- What an end did: of the host that a channel began or ended, that a request was accepted or the outcome of a number handed out, that it told of a
-- printer, or that a message was written or read; of the client that a device was removed or added, that it read or wrote a message, or that it wrote the
-- completion that answers a key, on the key's channel; and that an entry was stored in a device's journal.
pub data Deed : Type 0 where
  host_begins host_ends removes adds : ℕ → Deed
  submits : ℕ → Target → Op → Deed
  takes : ℕ → Deed
  tells : Notice → Deed
  host_writes host_reads client_reads client_writes : ℕ → List ℕ → Deed
  completes : Key → List ℕ → Deed
  stores : ℕ → Item → Deed

-- ---- what stands on a channel, the newest first

abbrev pub on : {A : Type 0} → ℕ → ℕ → A → Option A
on c channel x = if channel == c then Some x else None

abbrev pub written_by_host : ℕ → Deed → Option (List ℕ)
written_by_host c (host_writes channel message) = on c channel message
written_by_host c _ = None

abbrev pub read_by_host : ℕ → Deed → Option (List ℕ)
read_by_host c (host_reads channel message) = on c channel message
read_by_host c _ = None

abbrev pub read_by_client : ℕ → Deed → Option (List ℕ)
read_by_client c (client_reads channel message) = on c channel message
read_by_client c _ = None

abbrev pub written_by_client : ℕ → Deed → Option (List ℕ)
written_by_client c (client_writes channel message) = on c channel message
written_by_client c (completes key message) = on c key.channel message
written_by_client c _ = None

abbrev pub host_wrote : ℕ → List Deed → List (List ℕ)
host_wrote c deeds = filter_map (written_by_host c) deeds

abbrev pub host_read : ℕ → List Deed → List (List ℕ)
host_read c deeds = filter_map (read_by_host c) deeds

abbrev pub client_read : ℕ → List Deed → List (List ℕ)
client_read c deeds = filter_map (read_by_client c) deeds

abbrev pub client_wrote : ℕ → List Deed → List (List ℕ)
client_wrote c deeds = filter_map (written_by_client c) deeds

-- the client's moves on a channel
abbrev pub client_move : ℕ → Deed → Option Move
client_move c (client_reads channel message) = on c channel (reads message)
client_move c (client_writes channel message) = on c channel (writes message)
client_move c (completes key message) = on c key.channel (writes message)
client_move c _ = None

abbrev pub client_moves : ℕ → List Deed → List Move
client_moves c deeds = filter_map (client_move c) deeds

-- the host's
abbrev pub host_move : ℕ → Deed → Option Move
host_move c (host_reads channel message) = on c channel (reads message)
host_move c (host_writes channel message) = on c channel (writes message)
host_move c _ = None

abbrev pub host_moves : ℕ → List Deed → List Move
host_moves c deeds = filter_map (host_move c) deeds

-- a device's journal
abbrev pub stored_by : ℕ → Deed → Option Item
stored_by device (stores d item) = on device d item
stored_by device _ = None

abbrev pub journal : ℕ → List Deed → List Item
journal device deeds = filter_map (stored_by device) deeds

-- ---- what a message says

abbrev pub is_request : List ℕ → Bool
is_request message = is_of IoRequest message

-- the request that a message spells, if it spells one
abbrev pub request_in : List ℕ → Option Request
request_in message = by (met request_head (at_start message))
  where
    by : Result (RequestHead × Position) Bad → Option Request
    by (Ok read) = Some (request_with_head read.0 (op_read read.0 (met (body_after read.0) read.1)))
    by (Err bad) = None

-- the head of the completion that a message is, if it is one
abbrev pub head_in : List ℕ → Option Head
head_in message = by (met completion_head (at_start message))
  where
    by : Result (Head × Position) Bad → Option Head
    by (Ok read) = Some read.0
    by (Err bad) = None

-- the devices that a message says are gone, and those that it announces
abbrev pub removed_in : List ℕ → List ℕ
removed_in message = by (met removal (at_start message))
  where
    by : Result (List ℕ × Position) Bad → List ℕ
    by (Ok read) = read.0
    by (Err bad) = []

abbrev pub announced_in : List ℕ → List Announce
announced_in message = by (met device_list (at_start message))
  where
    by : Result (List Announce × Position) Bad → List Announce
    by (Ok read) = read.0
    by (Err bad) = []

-- the notice that a message spells, if it spells one
abbrev pub notice_in : List ℕ → Option Notice
notice_in message = by (met notice (at_start message))
  where
    by : Result (Notice × Position) Bad → Option Notice
    by (Ok read) = Some read.0
    by (Err bad) = None

-- the request with an index among messages, the newest first
abbrev pub request_at : List (List ℕ) → ℕ → Option Request
request_at [] index = None
request_at (message ∷ older) index =
    if is_request message && length (filter is_request older) == index then request_in message else request_at older index

-- whether a request, and whether a completion, has this device and completion id
abbrev pub message_asks_pair : ℕ → ℕ → List ℕ → Bool
message_asks_pair device id message = option_map_or (λ (r : Request). r.device == device && r.completion == id) (request_in message) false

abbrev pub message_has_pair : ℕ → ℕ → List ℕ → Bool
message_has_pair device id message = option_map_or (λ (h : Head). h.device == device && h.completion == id) (head_in message) false

-- The indices of the requests with a pair among the messages that were read, and the indices that the completions with that pair answer; the newest
-- first.
abbrev pub indices_of : ℕ → ℕ → List (List ℕ) → List ℕ
indices_of device id [] = []
indices_of device id (message ∷ older) =
    if is_request message && message_asks_pair device id message then length (filter is_request older) ∷ indices_of device id older
    else indices_of device id older

abbrev pub asked : ℕ → ℕ → ℕ → List Deed → List ℕ
asked c device id deeds = indices_of device id (client_read c deeds)

abbrev pub answer_to : ℕ → ℕ → ℕ → Deed → Option ℕ
answer_to c device id (completes key message) = if key.channel == c && message_has_pair device id message then Some key.index else None
answer_to c device id _ = None

abbrev pub answered : ℕ → ℕ → ℕ → List Deed → List ℕ
answered c device id deeds = filter_map (answer_to c device id) deeds

-- whether a deed is the writing of a key's completion
abbrev pub is_completion_of : Key → Deed → Bool
is_completion_of key (completes k message) = is_key k key
is_completion_of key _ = false

-- ---- channels

-- the channel that is open
abbrev pub open_channel : List Deed → Option ℕ
open_channel [] = None
open_channel (host_begins channel ∷ before) = Some channel
open_channel (host_ends channel ∷ before) = None
open_channel (deed ∷ before) = open_channel before

-- whether a channel is the one that is open
abbrev pub is_open_at : ℕ → List Deed → Bool
is_open_at c deeds = option_map_or (λ channel. channel == c) (open_channel deeds) false

-- whether a channel ended
abbrev pub ends_on : ℕ → Deed → Bool
ends_on c (host_ends channel) = channel == c
ends_on c _ = false

abbrev pub has_ended : ℕ → List Deed → Bool
has_ended c deeds = list_any (ends_on c) deeds

-- whether a device was removed and not added since
abbrev pub is_removed : ℕ → List Deed → Bool
is_removed device [] = false
is_removed device (removes d ∷ before) = d == device || is_removed device before
is_removed device (adds d ∷ before) = not (d == device) && is_removed device before
is_removed device (deed ∷ before) = is_removed device before

-- what was done before a channel began
abbrev pub until_begin : ℕ → List Deed → List Deed
until_begin c [] = []
until_begin c (host_begins channel ∷ before) = if channel == c then before else until_begin c before
until_begin c (deed ∷ before) = until_begin c before

-- ---- lists that have the newest first

-- the second is what the first began with
abbrev pub EndsWith : {A : Type 0} → List A → List A → Type 0
EndsWith {A} whole part = (prefix : List A) × (whole ≡ prefix ++ part)

abbrev pub Has : {A : Type 0} → A → List A → Type 0
Has x [] = ⊥
Has x (y ∷ ys) = (x ≡ y) ⊎ Has x ys

-- P holds of each member and what is before it
abbrev pub EachAfter : {A : Type 0} → (List A → A → Type 0) → List A → Type 0
EachAfter P [] = Unit {0}
EachAfter P (x ∷ before) = P before x × EachAfter P before

-- P holds at each point
abbrev pub AtEachPoint : {A : Type 0} → (List A → Type 0) → List A → Type 0
AtEachPoint P [] = P []
AtEachPoint P (x ∷ before) = P (x ∷ before) × AtEachPoint P before
