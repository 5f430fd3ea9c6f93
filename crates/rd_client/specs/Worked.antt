-- A client on a channel, for worked cases.
use Rattle.std.specs.Prelude.{ℕ, ◌==◌, Bool, false, List, [], ◌∷◌, ◌++◌, codes, map, replicate, fold, Option}
use Rattle.rd_base.specs.Statuses.{no_such_device}
use Rattle.rd_devices.specs.declared.list.Announce.{Announce}
use Rattle.rd_devices.specs.DeviceList.{list_bytes}
use Rattle.rd_devices.specs.DeviceReply.{reply_bytes}
use Rattle.rd_drive.specs.declared.plan.Job.{Job}
use Rattle.rd_hello.specs.declared.client.ClientState.TheVariants.{Ready}
use Rattle.rd_hello.specs.declared.hello.Hello.TheVariants.{Confirm, LoggedOn}
use Rattle.rd_hello.specs.Hello.{hello_bytes}
use Rattle.rd_hello.specs.Moves.{Move, reads, writes}
use Rattle.rd_hello.specs.Own.{client_confirm, client_name, client_sets, host_announce, host_sets}
use Rattle.rd_irp.specs.declared.op.Op.TheVariants as op
use Rattle.rd_irp.specs.declared.request.Request.{Request}
use Rattle.rd_irp.specs.Written.{request_bytes}
use Rattle.rd_client.specs.Core.{ClientCoreState, Outgoing, client_begin, client_hear, direct_bytes, new_client}
use Rattle.rd_client.specs.Order.{ClientStanding, client_at_first, stand_after, telling}

-- a drive as it is announced
abbrev pub drive : ℕ → Announce
drive id = record { kind = 8; id = id; dos = codes "DATA" ++ replicate 4 0; body = [] }

-- a client with two drives on the first channel
abbrev pub own_devices : List Announce
own_devices = drive 1 ∷ drive 2 ∷ []

abbrev pub client : ClientCoreState
client = client_begin (new_client own_devices) 1

-- what is left of it by messages of the host
abbrev pub after : ClientCoreState → List (List ℕ) → ClientCoreState
after c messages = fold (λ at message. (client_hear at message).0) c messages

-- what it has to send, and the same client with nothing to send
abbrev pub written : ClientCoreState → List (List ℕ)
written c = map (λ (o : Outgoing). o.message) (c.core).outbox

abbrev pub emptied : ClientCoreState → ClientCoreState
emptied c = record c { core = record c.core { outbox = [] } }

-- the host's messages, in the order of this project
abbrev pub announced : List ℕ
announced = hello_bytes (host_announce 1)

abbrev pub offered : List ℕ
offered = hello_bytes host_sets

abbrev pub confirmed : List ℕ
confirmed = hello_bytes (Confirm (record { minor = 12; client = 1 }))

abbrev pub logged_on : List ℕ
logged_on = hello_bytes LoggedOn

abbrev pub opening : List (List ℕ)
opening = announced ∷ offered ∷ confirmed ∷ logged_on ∷ []

abbrev pub ready : ClientCoreState
ready = after client opening

-- a Close of a file of device 1
abbrev pub close : ℕ → Request
close completion = record { device = 1; file = 3; completion = completion; op = op.Close }

abbrev pub close_bytes : ℕ → List ℕ
close_bytes completion = request_bytes (close completion)

-- the same as a job
abbrev pub close_job : Job
close_job = record { key = record { channel = 1; index = 4 }; file = 3; completion = 5; op = op.Close }

-- the host's reply to device 1
abbrev pub device_replied : List ℕ
device_replied = reply_bytes (record { id = 1; code = record { 0 = 0 } })

-- the client's own messages
abbrev pub own_confirm : List ℕ
own_confirm = hello_bytes (client_confirm (record { minor = 12; client = 1 }))

abbrev pub own_name : List ℕ
own_name = hello_bytes client_name

abbrev pub own_sets : List ℕ
own_sets = hello_bytes client_sets

-- the completion of that job where no device runs it
abbrev pub own_completion : List ℕ
own_completion = direct_bytes close_job 1 no_such_device

-- the list of both drives, and that of the second alone
abbrev pub own_list : List ℕ
own_list = list_bytes own_devices

abbrev pub second_list : List ℕ
second_list = list_bytes (drive 2 ∷ [])

-- where the client stands after moves on a channel, at whose begin no device is gone, or device 1 is
abbrev pub none_gone : ℕ → Bool
none_gone device = false

abbrev pub first_gone : ℕ → Bool
first_gone device = device == 1

abbrev pub stand_of : List Move → Option ClientStanding
stand_of moves = stand_after own_devices none_gone client_at_first moves

abbrev pub stand_without : List Move → Option ClientStanding
stand_without moves = stand_after own_devices first_gone client_at_first moves

-- how a channel opens, up to the list
abbrev pub opened_moves : List Move
opened_moves =
    reads announced ∷ writes own_confirm ∷ writes own_name ∷ reads offered ∷ reads confirmed ∷ writes own_sets ∷ reads logged_on ∷ []

-- a ready client whose devices with these ids are announced
abbrev pub listed_stand : List ℕ → ClientStanding
listed_stand ids = record { shake = Ready; owed = []; own = telling ids }
