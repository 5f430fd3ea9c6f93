-- What stands in a recording, by what both sides did, and in which order.
use Rattle.std.specs.Prelude.{◌≡◌, ℕ, Bool, List, [], ◌∷◌, ◌++◌, codes, map, reverse, Option, Some, None, IfSome, All}
use Rattle.std.specs.List.{flat_map}
use Rattle.std.specs.Option.{unwrap_or}
use Rattle.rd_base.specs.declared.journal.Key.{Key}
use Rattle.rd_chunk.specs.Carrier.{IsMessage, frames_for}
use Rattle.rd_client.specs.Order as client
use Rattle.rd_client.specs.Order.{ClientOrder, client_at_first}
use Rattle.rd_devices.specs.declared.list.Announce.{Announce}
use Rattle.rd_host.specs.Order as host
use Rattle.rd_host.specs.Order.{HostOrder, host_at_first}
use Rattle.rd_irp.specs.declared.request.Request.{Request}
use Rattle.rd_pending.specs.History.{lives_before}
use Rattle.rd_declared.specs.Devices.{Declared, announce_of}
use Rattle.rd_deeds.specs.HostDeeds.{calls_of}
use Rattle.rd_deeds.specs.Talk.{Deed, EachAfter, client_moves, client_reads, client_writes, completes, host_begins, host_ends, host_moves, host_writes, host_wrote, is_removed, open_channel, request_at, until_begin}
use Rattle.rd_declared.specs.Replies.{no_request}

-- the ClientId that a host announces
abbrev pub client_id : ℕ
client_id = 1

-- an entry: a channel begins, it ended, the host sent a frame, or the client did
pub data RecordingEntry : Type 0 where
  begins ends : RecordingEntry
  from_host from_client : List ℕ → RecordingEntry

-- a frame after the mark of the side that sent it
abbrev pub mark_before : ℕ → List ℕ → List ℕ
mark_before mark frame = mark ∷ frame

-- the bytes of an entry
abbrev pub recording_entry_bytes : RecordingEntry → List ℕ
recording_entry_bytes (from_host frame) = mark_before 0 frame
recording_entry_bytes (from_client frame) = mark_before 1 frame
recording_entry_bytes begins = 2 ∷ []
recording_entry_bytes ends = 3 ∷ []

-- what a deed leaves in the recording
abbrev pub entries_by : Deed → List RecordingEntry
entries_by (host_begins channel) = begins ∷ []
entries_by (host_ends channel) = ends ∷ []
entries_by (host_writes channel message) = map from_host (frames_for message)
entries_by (client_writes channel message) = map from_client (frames_for message)
entries_by (completes key message) = map from_client (frames_for message)
entries_by _ = []

-- the recording of deeds, of which the newest stands first
abbrev pub recording_of_deeds : List Deed → List ℕ
recording_of_deeds deeds = codes "RDRREC01" ++ flat_map recording_entry_bytes (flat_map entries_by (reverse deeds))

-- the message that is written by it
abbrev pub written_by : Deed → Option (List ℕ)
written_by (host_writes channel message) = Some message
written_by (client_writes channel message) = Some message
written_by (completes key message) = Some message
written_by _ = None

-- the channel on which a client reads or writes by it
abbrev pub client_channel : Deed → Option ℕ
client_channel (client_reads channel message) = Some channel
client_channel (client_writes channel message) = Some channel
client_channel (completes key message) = Some key.channel
client_channel _ = None

-- the devices as a client announces them, whatever is kept for printers
abbrev pub announced_of : List (ℕ × Declared) → List Announce
announced_of devices = map (λ (d : ℕ × Declared). announce_of [] d.1) devices

-- whether a device was removed, and not added since, when a channel began
abbrev pub is_gone_at : ℕ → List Deed → ℕ → Bool
is_gone_at c deeds device = is_removed device (until_begin c deeds)

-- The recording has the channels' begins and ends, and between them the frames of whole messages, which are in order on each channel.
pub record IsRecorded (devices : List (ℕ × Declared)) (recording : List ℕ) (deeds : List Deed) : Type 0 where
  pub bytes : recording ≡ recording_of_deeds deeds
  pub fit : All (λ deed. IfSome (written_by deed) IsMessage) deeds
  pub on_open : EachAfter (λ before deed. IfSome (client_channel deed) (λ c. open_channel before ≡ Some c)) deeds
  pub host_order : (c : ℕ) → HostOrder client_id (lives_before c (calls_of client_id deeds)) (reverse (host_moves c deeds))
  pub client_order : (c : ℕ) → ClientOrder (announced_of devices) (is_gone_at c deeds) (reverse (client_moves c deeds))

-- where the sides stand on a channel
abbrev pub client_stand : List (ℕ × Declared) → List Deed → ℕ → Option client.ClientStanding
client_stand devices deeds c = client.stand_after (announced_of devices) (is_gone_at c deeds) client_at_first (reverse (client_moves c deeds))

abbrev pub host_stand : List Deed → ℕ → Option host.HostStanding
host_stand deeds c = host.stand_after (host_at_first client_id (lives_before c (calls_of client_id deeds))) (reverse (host_moves c deeds))

-- ---- the requests that stand in it

-- the request of a key: the one that stands at its place on its channel
abbrev pub request_of : List Deed → Key → Request
request_of deeds key = unwrap_or (request_at (host_wrote key.channel deeds) key.index) no_request
