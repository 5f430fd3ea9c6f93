-- What a client's end hears, as its code says it.
use Rattle.std.specs.Prelude.{◌≡◌, ℕ, ◌==◌, Bool, if◌then◌else◌, filter, not, List, map, Option, Some, None, Result, Ok, Err}
use Rattle.std.specs.BTreeSet.{BTreeSet, contains}
use Rattle.std.specs.Ordering.{nat_cmp}
use Rattle.rd_base.specs.declared.packet.Packet.{Packet}
use Rattle.rd_base.specs.declared.packet.Packet.TheVariants as packet
use Rattle.rd_core.specs.Core.{CoreState}
use Rattle.rd_core.specs.Hearing.{MayLack, Meaning, hear_said}
use Rattle.rd_devices.specs.declared.list.Announce.{Announce}
use Rattle.rd_devices.specs.DeviceList.{list_bytes}
use Rattle.rd_hello.specs.declared.client.ClientState.{ClientState}
use Rattle.rd_hello.specs.declared.end_fault.EndFault.{EndFault}
use Rattle.rd_hello.specs.declared.end_fault.EndFault.TheVariants.{Memory}
use Rattle.rd_irp.specs.declared.request.Request.{Request}
use Rattle.rd_client.specs.declared.heard.Came.{Came}
use Rattle.rd_client.specs.declared.heard.Came.TheVariants as came
use Rattle.rd_client.specs.declared.heard.Heard.{Heard}
use Rattle.rd_client.specs.declared.heard.Heard.TheVariants as heard
use Rattle.rd_client.specs.Core.{ClientCoreState, ClientDevice, HostSays, Outgoing, announce_in, client_hear, client_hear_made, client_side, hear_says, is_present, job_of, plain, requests}

-- the devices, where those with these ids are removed
abbrev pub client_device : BTreeSet ℕ → Announce → ClientDevice
client_device gone a = record { announce = a; removed = contains nat_cmp gone a.id }

abbrev pub client_devices : List Announce → BTreeSet ℕ → List ClientDevice
client_devices devices gone = map (client_device gone) devices

-- whether a device is told of: the one with this id, or where none is named each that isn't removed
abbrev pub is_in_list : BTreeSet ℕ → Option ℕ → Announce → Bool
is_in_list gone (Some device) a = a.id == device
is_in_list gone None a = not (contains nat_cmp gone a.id)

-- a request with its place on a channel
abbrev pub ask_of : Request → (channel index : ℕ) → Heard
ask_of r channel index = heard.Ask r.device (job_of r channel index)

-- what comes of a message, for a client that has heard it
abbrev pub made_of : ClientCoreState → Came → ClientCoreState × Heard
made_of c came.Nothing = (c, heard.Nothing)
made_of c (came.Ask r) = hear_says c (requests r)
made_of c (came.Print n) = (c, heard.Print n)

abbrev pub answered_heard : ClientCoreState → Result Came EndFault → ClientCoreState × Result Heard EndFault
answered_heard c (Ok heard) = let made = made_of c heard in (made.0, Ok made.1)
answered_heard c (Err fault) = (c, Err fault)

-- The end of a client with these devices heard a message, whatever its channel and however many requests it heard there: before it, the answer, and after it.
abbrev pub ClientEndHears : List ClientDevice → CoreState ClientState Outgoing → List ℕ → Result Came EndFault → CoreState ClientState Outgoing → Type 0
ClientEndHears devices old message (Err Memory) new = MayLack client_side old message × (new ≡ old)
ClientEndHears devices old message answer new =
    (channel asked : ℕ) → client_hear (record { core = old; channel = channel; asked = asked; devices = devices }) message
    ≡ answered_heard (record { core = new; channel = channel; asked = asked; devices = devices }) answer

-- where a message of the opening says this, the end of a client with these devices goes on to another
abbrev pub EndGoesOn : List ClientDevice → CoreState ClientState Outgoing → Meaning ClientState HostSays → CoreState ClientState Outgoing → Type 0
EndGoesOn devices old said new =
    (channel asked : ℕ) → client_hear_made (record { core = old; channel = channel; asked = asked; devices = devices }) (hear_said client_side old said)
    ≡ (record { core = new; channel = channel; asked = asked; devices = devices }, Ok heard.Nothing)

-- the list that is written where a client with these devices becomes ready
abbrev pub first_list : List ClientDevice → Bool → Option Outgoing
first_list devices ready = if ready then Some (plain (list_bytes (map announce_in (filter is_present devices)))) else None

-- the packets of what the host tells of printers
abbrev pub IsNotice : Packet → Type 0
IsNotice packet.PrinterCacheData = Unit {0}
IsNotice packet.PrinterUsingXps = Unit {0}
IsNotice _ = ⊥
