-- What each end makes of the bytes that it reads, and what the applications make of what comes back.
use Rattle.std.specs.Prelude.{ℕ, zero, suc, not, ◌&&◌, ◌==◌, Bool, if◌then◌else◌, List, [], ◌∷◌, ◌++◌, length, map, fold, Option, Some, None, is_some, slice_get, Result, Ok, Err}
use Rattle.std.specs.Map.{remove_entry}
use Rattle.std.specs.BTreeMap.{insert_entry, is_at}
use Rattle.std.specs.Option.{option_map_or}
use Rattle.rd_base.specs.declared.status.Status.{Status}
use Rattle.rd_client.specs.Core as client
use Rattle.rd_client.specs.Core.{ClientCoreState, client_hear, listed}
use Rattle.rd_client.specs.declared.heard.Heard.{Heard}
use Rattle.rd_client.specs.declared.heard.Heard.TheVariants.{Nothing, Ask, Print}
use Rattle.rd_client.specs.Order.{is_client_ready}
use Rattle.rd_devices.specs.declared.list.Announce.{Announce}
use Rattle.rd_drive.specs.declared.plan.Job.{Job}
use Rattle.rd_base.specs.Statuses as status
use Rattle.rd_base.specs.Statuses.{no_such_device}
use Rattle.rd_hello.specs.declared.client.ClientState.{ClientState}
use Rattle.rd_hello.specs.declared.end_fault.EndFault.{EndFault}
use Rattle.rd_irp.specs.declared.completion.Body.{Body}
use Rattle.rd_irp.specs.declared.completion.Body.TheVariants.{Created}
use Rattle.rd_pending.specs.declared.calls.Handle.{Handle}
use Rattle.rd_pending.specs.declared.calls.Outcome as table_outcome
use Rattle.rd_pending.specs.declared.calls.Outcome.TheVariants as settled
use Rattle.rd_pending.specs.declared.calls.Taken.{Taken}
use Rattle.rd_pending.specs.declared.calls.TakeNo.{TakeNo}
use Rattle.rd_pending.specs.Table as table
use Rattle.rd_pending.specs.Table.{TableState}
use Rattle.rd_printer.specs.Cache as cache
use Rattle.rd_printer.specs.Cache.{bytes_cmp}
use Rattle.rd_script.specs.declared.outcome.Outcome.{Outcome}
use Rattle.rd_script.specs.declared.outcome.Outcome.TheVariants as outcome
use Rattle.rd_station.specs.declared.refusals.PutWhy.{PutWhy}
use Rattle.rd_station.specs.declared.refusals.PutWhy.TheVariants as why
use Rattle.rd_station.specs.Station as station
use Rattle.rd_station.specs.Station.{StationState}
use Rattle.rd_declared.specs.declared.device.SessionDevice.{SessionDevice}
use Rattle.rd_deeds.specs.Host.{hears}
use Rattle.rd_deeds.specs.Talk.{client_reads, host_reads, takes}
use Rattle.rd_world.specs.World.{ApplicationState, Asked, Kept, WayState, WorldState, application_at, handling, most_messages, station_at, with_application, with_deed, with_station, with_table}

-- ---- the client

abbrev pub with_client : WorldState → ClientCoreState → WorldState
with_client w c = record w { client = c }

-- a request is answered without its device
abbrev pub answers_directly : WorldState → ℕ → Job → Status → WorldState
answers_directly w device job st = with_client w (client.direct w.client job device st)

-- the host is told of a device from now on, so its station is live
abbrev pub announcing : WorldState → ℕ → WorldState
announcing w device = option_map_or (λ (s : StationState SessionDevice). with_station w device (station.announce s).0) (station_at w device) w

-- whether the host was last told that a device is there
abbrev pub is_device_told : WorldState → ℕ → Bool
is_device_told w device =
    is_client_ready ((w.client).core).shake && (client.has_device w.client device && not (client.is_gone w.client device))

-- A job doesn't come to its station. A device that the host was told of has a station that isn't live only where its journal is worn. Where the station is
-- full the job is kept back.
abbrev pub refused_put : WorldState → ℕ → Job → PutWhy → WorldState
refused_put w device job why.Gone = answers_directly w device job (if is_device_told w device then status.insufficient_resources else no_such_device)
refused_put w device job (why.Full held) = record w { kept = Some (record { device = device; job = job }) }
refused_put w device job (why.Worn count) = answers_directly w device job status.insufficient_resources
-- no two requests with one completion id are held at a time, and want of memory is no answer of the definition
refused_put w device job (why.Duplicate key) = w
refused_put w device job why.Memory = w

abbrev pub put_by : WorldState → ℕ → Job → StationState SessionDevice × Option PutWhy → WorldState
put_by w device job (s, None) = with_station w device s
put_by w device job (s, Some cause) = refused_put w device job cause

abbrev pub put_at : WorldState → ℕ → Job → Option (StationState SessionDevice) → WorldState
put_at w device job None = answers_directly w device job no_such_device
put_at w device job (Some s) = put_by w device job (station.put s job)

-- a job goes to its station, if there is one
abbrev pub putting : WorldState → ℕ → Job → WorldState
putting w device job = put_at w device job (station_at w device)

-- where the client becomes ready, the devices that it lists are announced to their stations
abbrev pub after_opening : ClientState → WorldState → WorldState
after_opening shake w =
    if client.becomes_ready shake ((w.client).core).shake then fold (λ x (a : Announce). announcing x a.id) w (listed w.client)
    else w

-- what a message asks for is done, which the client heard in this state
abbrev pub heard_by_client : ClientState → WorldState → Result Heard EndFault → WorldState
heard_by_client shake w (Err fault) = w
heard_by_client shake w (Ok Nothing) = after_opening shake w
heard_by_client shake w (Ok (Ask device job)) = putting w device job
heard_by_client shake w (Ok (Print n)) = record w { cache = cache.heard w.cache n }

-- the client heard a message
abbrev pub client_hears : WorldState → List ℕ → WorldState
client_hears w message =
    let heard = client_hear w.client message in
    heard_by_client ((w.client).core).shake (with_deed (with_client w heard.0) (client_reads w.channels message)) heard.1

abbrev pub client_handles_first : WorldState → WayState × Option (List ℕ) → (WorldState → WorldState) → WorldState
client_handles_first w (y, None) on = record w { to_client = y }
client_handles_first w (y, Some message) on = on (client_hears (record w { to_client = y }) message)

-- The client handles what it read, message by message, until none is whole, or it keeps a job back; at most so many messages.
abbrev pub client_handles : ℕ → WorldState → WorldState
client_handles zero w = w
client_handles (suc most) w = if is_some w.kept then w else client_handles_first w (handling w.to_client) (client_handles most)

-- it handles all that it read
abbrev pub client_handles_all : WorldState → WorldState
client_handles_all w = client_handles (most_messages w.to_client) w

abbrev pub tries : WorldState → ℕ → Option Kept → WorldState
tries w device None = w
tries w device (Some k) = if k.device == device then client_handles_all (putting (record w { kept = None }) k.device k.job) else w

-- A job of a device that was kept back is tried again, and where it has gone what was read after it is handled.
abbrev pub tries_kept : WorldState → ℕ → WorldState
tries_kept w device = tries w device w.kept

-- ---- the host

-- the host heard a message
abbrev pub host_hears : WorldState → List ℕ → WorldState
host_hears w message = with_deed (record w { side = hears w.side message }) (host_reads w.channels message)

abbrev pub host_handles_first : WorldState → WayState × Option (List ℕ) → (WorldState → WorldState) → WorldState
host_handles_first w (y, None) on = record w { to_host = y }
host_handles_first w (y, Some message) on = on (host_hears (record w { to_host = y }) message)

-- the host handles what it read, message by message, until none is whole; at most so many messages
abbrev pub host_handles : ℕ → WorldState → WorldState
host_handles zero w = w
host_handles (suc most) w = host_handles_first w (handling w.to_host) (host_handles most)

-- ---- the applications

-- what the next line of an application asks for, or the line that awaits its outcome
abbrev pub next_asked : ApplicationState → Option Asked
next_asked a = slice_get a.asks (length a.outcomes)

-- the file id that a reply gives, if it opens a file
abbrev pub created_file : Status → Body → Option ℕ
created_file st (Created file information) = if st.0 == 0 then Some file else None
created_file st _ = None

abbrev pub file_given : table_outcome.Outcome → Option ℕ
file_given (settled.Done reply) = created_file reply.status reply.body
file_given (settled.Lost cause) = None

-- what an open gives its handle: the file id of a device in a life
abbrev pub given_handle : Taken → Option Handle
given_handle t = option_map_or (λ file. Some (record { device = t.device; life = t.life; file = file })) (file_given t.outcome) None

abbrev pub reported_outcome : table_outcome.Outcome → Outcome
reported_outcome (settled.Done reply) = outcome.Done reply
reported_outcome (settled.Lost cause) = outcome.Lost cause

-- a name holds this handle, or none
abbrev pub holding_under : List (List ℕ × Handle) → List ℕ → Option Handle → List (List ℕ × Handle)
holding_under handles name None = remove_entry (is_at (bytes_cmp name)) handles
holding_under handles name (Some h) = insert_entry bytes_cmp handles name h

-- the name of a handle holds what an open gave, or nothing where it gave none; any other line leaves it as it is
abbrev pub holding_after : ApplicationState → Asked → Option Handle → ApplicationState
holding_after a asked given = if is_some asked.device then record a { handles = holding_under a.handles asked.handle given } else a

-- a line has its outcome
abbrev pub with_outcome : ApplicationState → Outcome → Option Handle → Asked → ApplicationState
with_outcome a o given asked = record (holding_after a asked given) { awaits = None; outcomes = a.outcomes ++ o ∷ [] }

-- the next line of an application, or the one that awaits it, has its outcome
abbrev pub ends_line : WorldState → ℕ → Outcome → Option Handle → WorldState
ends_line w a o given =
    let application = application_at w a in
    option_map_or (λ asked. with_application w a (with_outcome application o given asked)) (next_asked application) w

abbrev pub takes_from : WorldState → ℕ → ℕ → TableState × Result Taken TakeNo → WorldState
takes_from w a number (t, Err cause) = w
takes_from w a number (t, Ok taken) = ends_line (with_deed (with_table w t) (takes number)) a (reported_outcome taken.outcome) (given_handle taken)

abbrev pub takes_awaited : WorldState → ℕ → Option ℕ → WorldState
takes_awaited w a None = w
takes_awaited w a (Some number) = takes_from w a number (table.take (w.side).table number)

-- an application takes the outcome that it awaits, if it is known
abbrev pub takes_outcome : WorldState → ℕ → WorldState
takes_outcome w a = takes_awaited w a (application_at w a).awaits

abbrev pub all_take : WorldState → WorldState
all_take w = fold takes_outcome w (map (λ (e : ℕ × ApplicationState). e.0) w.applications)

-- the host handles all that it read, and the applications take what came of it
abbrev pub host_handles_all : WorldState → WorldState
host_handles_all w = all_take (host_handles (most_messages w.to_host) w)
