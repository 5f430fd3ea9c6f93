-- What a choice among places means in a session, and when what may be drawn can happen.
use Rattle.std.specs.Prelude.{ℕ, ◌+◌, ◌<◌, Bool, List, get_or, length, ⊤}
use Rattle.rd_world.specs.Events.{apply_job, client_read, client_send, collect, host_read, host_send, is_enabled, issue, take_job}
use Rattle.rd_declared.specs.Declaring.{max_hands}
use Rattle.rd_world.specs.Run.{NextStep, event, reads_client, reads_host}
use Rattle.rd_world.specs.World.{WorldState}
use Rattle.rd_world.specs.declared.choices.Choice.{Choice}
use Rattle.rd_world.specs.declared.choices.Choice.TheVariants as choice

-- What a choice means where these are the ids of the stations by their places: applications and hands are counted from 1.
abbrev pub next_step_of : List ℕ → Choice → NextStep
next_step_of ids (choice.Issue place) = event (issue (place + 1))
next_step_of ids choice.HostSend = event host_send
next_step_of ids choice.ClientRead = reads_client
next_step_of ids choice.ClientSend = event client_send
next_step_of ids (choice.Collect place) = event (collect (get_or ids place 0))
next_step_of ids choice.HostRead = reads_host
next_step_of ids (choice.Take place hand) = event (take_job (get_or ids place 0) (hand + 1))
next_step_of ids (choice.Apply place) = event (apply_job (place + 1))

-- whether what may be drawn can happen, a read where it takes all that is under way
abbrev pub can_happen : WorldState → NextStep → Bool
can_happen w (event e) = is_enabled w e
can_happen w reads_client = is_enabled w (client_read (length (w.to_client).pipe))
can_happen w reads_host = is_enabled w (host_read (length (w.to_host).pipe))

-- A station stands at the place of a device, where there are so many stations, and the other places are below their number.
abbrev pub HasPlaces : ℕ → Choice → Type 0
HasPlaces stations (choice.Issue place) = place < 64
HasPlaces stations (choice.Collect place) = place < stations
HasPlaces stations (choice.Take place hand) = (place < stations) × (hand < max_hands)
HasPlaces stations (choice.Apply place) = place < max_hands
HasPlaces stations _ = ⊤
