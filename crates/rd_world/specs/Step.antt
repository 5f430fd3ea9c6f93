-- The events of a session as its code has them, and what each adds to the recording.
use Rattle.std.specs.Prelude.{◌<◌, ◌^◌, ℕ, List, [], map, Option, None}
use Rattle.std.specs.List.{flat_map}
use Rattle.std.specs.Option.{option_map_or}
use Rattle.rd_chunk.specs.Carrier.{frames_for}
use Rattle.rd_client.specs.Core.{Outgoing, client_send}
use Rattle.rd_station.specs.declared.answers.Completion.{Completion}
use Rattle.rd_station.specs.Station as station
use Rattle.rd_station.specs.Station.{StationState}
use Rattle.rd_declared.specs.declared.device.SessionDevice.{SessionDevice}
use Rattle.rd_world.specs.declared.event.Event as happening
use Rattle.rd_world.specs.declared.event.Event.TheVariants as happens
use Rattle.rd_world.specs.Events.{Event, add, apply_job, client_read, client_send as client_sends, collect, completion_message, connect, drop_channel, host_read, host_send, issue, remove, take_job, tell}
use Rattle.rd_deeds.specs.Host.{next_message}
use Rattle.rd_world.specs.Noting.{IsTellable}
use Rattle.rd_world.specs.Run.{NextStep, event, reads_client, reads_host}
use Rattle.rd_world.specs.Recording.{begins, ends, from_client, from_host, recording_entry_bytes}
use Rattle.rd_world.specs.World.{WorldState, station_at}

abbrev pub event_in : happening.Event → Event
event_in (happens.Issue a) = issue a
event_in happens.HostSend = host_send
event_in (happens.ClientRead n) = client_read n
event_in happens.ClientSend = client_sends
event_in (happens.Collect device) = collect device
event_in (happens.HostRead n) = host_read n
event_in (happens.Take device hand) = take_job device hand
event_in (happens.Apply hand) = apply_job hand
event_in (happens.Remove device) = remove device
event_in (happens.Add device) = add device
event_in happens.Drop = drop_channel
event_in happens.Connect = connect
event_in (happens.Notice n) = tell n

-- What a call of a step asks: not too many channels began, and a notice is one that can be told.
abbrev pub MayHappen : WorldState → happening.Event → Type 0
MayHappen w happens.Connect = w.channels < 2 ^ 31
MayHappen w (happens.Notice n) = IsTellable n
MayHappen w _ = Unit {0}

-- ---- the recording

-- the entries of a message, of the host and of the client
abbrev pub host_entries : List ℕ → List ℕ
host_entries message = flat_map recording_entry_bytes (map from_host (frames_for message))

abbrev pub client_entries : List ℕ → List ℕ
client_entries message = flat_map recording_entry_bytes (map from_client (frames_for message))

-- the completion of a device that is collected next
abbrev pub next_completion : WorldState → ℕ → Option Completion
next_completion w device = option_map_or (λ (s : StationState SessionDevice). (station.collect s).1) (station_at w device) None

-- what an event adds to the recording
abbrev pub recorded_by : WorldState → Event → List ℕ
recorded_by w host_send = option_map_or host_entries (next_message w.side) []
recorded_by w client_sends = option_map_or (λ (o : Outgoing). client_entries o.message) (client_send w.client).1 []
recorded_by w (collect device) = option_map_or (λ (c : Completion). client_entries (completion_message device c)) (next_completion w device) []
recorded_by w drop_channel = recording_entry_bytes ends
recorded_by w connect = recording_entry_bytes begins
recorded_by w _ = []

-- what a choice adds to it; a read adds nothing
abbrev pub recorded_next : WorldState → NextStep → List ℕ
recorded_next w (event e) = recorded_by w e
recorded_next w reads_client = []
recorded_next w reads_host = []
