-- The order of a host's messages on a channel (MS-RDPEFS 3.3.5), said of what it reads and what it writes.
use Rattle.std.specs.Prelude.{ℕ, ◌+◌, ◌==◌, ◌||◌, Bool, true, false, not, if◌then◌else◌, List, [], ◌∷◌, ◌++◌, filter, fold, Option, Some, None, IsSome, bytes_eq, is_ok}
use Rattle.rd_base.specs.declared.packet.Packet.TheVariants as packet
use Rattle.rd_base.specs.declared.status.Status.{Status}
use Rattle.rd_base.specs.Layout.{met}
use Rattle.rd_base.specs.Position.{at_start}
use Rattle.rd_core.specs.Order as order
use Rattle.rd_core.specs.Order.{OrderPart}
use Rattle.rd_devices.specs.declared.list.Announce.{Announce}
use Rattle.rd_devices.specs.declared.reply.DeviceReply.{DeviceReply}
use Rattle.rd_devices.specs.DeviceReply.{reply_bytes}
use Rattle.rd_base.specs.Statuses as status
use Rattle.rd_hello.specs.declared.host.HostState.{HostState}
use Rattle.rd_hello.specs.declared.host.HostState.TheVariants.{Start, Ready}
use Rattle.rd_hello.specs.Hello.{hello_bytes}
use Rattle.rd_hello.specs.Own.{host_announce}
use Rattle.rd_hello.specs.Moves.{Move, is_of}
use Rattle.rd_irp.specs.Request.{request_head}
use Rattle.rd_printer.specs.Notice.{notice}
use Rattle.rd_host.specs.declared.act.Act.{Act}
use Rattle.rd_host.specs.declared.act.Act.TheVariants as act
use Rattle.rd_host.specs.Core.{host_side}
use Rattle.rd_host.specs.Served.{code_for}

-- the host's part: the replies that it has to write next, the ids of the devices that have a life on the channel, and how many lives were given
pub record Replying : Type 0 where
  pub due : List DeviceReply
  pub alive : List ℕ
  pub given : ℕ

abbrev pub HostStanding : Type 0
HostStanding = order.Stand HostState Replying

-- no reply is due, no device has a life, and so many lives were given
abbrev pub none_due : ℕ → Replying
none_due given = record { due = []; alive = []; given = given }

-- a host that announces this ClientId, and gave so many lives before the channel
abbrev pub host_at_first : ℕ → ℕ → HostStanding
host_at_first client given = record { shake = Start; owed = hello_bytes (host_announce client) ∷ []; own = none_due given }

-- a device is replied to with this code: it has a life from now on where that says success
abbrev pub with_reply : Replying → ℕ → Status → Replying
with_reply r device code =
    let due = r.due ++ record { id = device; code = code } ∷ [] in
    if code.0 == (status.success).0 then record { due = due; alive = r.alive ++ device ∷ []; given = r.given + 1 }
    else record r { due = due }

-- a device was announced
abbrev pub with_device_reply : Replying → Announce → Replying
with_device_reply r a = with_reply r a.id (code_for r.alive r.given a.kind a.id)

-- a device is gone
abbrev pub without_device : Replying → ℕ → Replying
without_device r device = record r { alive = filter (λ id. not (id == device)) r.alive }

-- after what is read: devices are announced in order, or removed
abbrev pub after_act : Act → Replying → Replying
after_act (act.Announced devices) r = fold with_device_reply r devices
after_act (act.Removed ids) r = fold without_device r ids
after_act _ r = r

-- a reply is written: the first that is due, with its code
abbrev pub after_reply : Replying → List ℕ → List DeviceReply → Option Replying
after_reply r bytes (first ∷ others) = if bytes_eq (reply_bytes first) bytes then Some (record r { due = others }) else None
after_reply r bytes [] = None

-- what a ready host may write of itself: requests, and what it tells of printers
abbrev pub host_may_write : List ℕ → Bool
host_may_write bytes = is_ok (met request_head (at_start bytes)) || is_ok (met notice (at_start bytes))

abbrev pub is_host_ready : HostState → Bool
is_host_ready Ready = true
is_host_ready _ = false

-- Once the host is ready it writes replies, requests, and what it tells of printers.
abbrev pub after_own : HostState → List ℕ → Replying → Option Replying
after_own state bytes r =
    if not (is_host_ready state) then None
    else (if is_of packet.DeviceReply bytes then after_reply r bytes r.due
    else (if host_may_write bytes then Some r
    else None))

abbrev pub host_part : OrderPart HostState Act Replying
host_part = record { opened = λ state next r. r; read = after_act; written = after_own }

-- after the reading of a message, and after moves, if they are in order
abbrev pub after_read : HostStanding → List ℕ → Option HostStanding
after_read s bytes = order.after_read host_side host_part s bytes

abbrev pub stand_after : HostStanding → List Move → Option HostStanding
stand_after s moves = order.stand_after host_side host_part s moves

-- The moves of a host on a channel, the oldest first, are in order; so many lives were given before.
abbrev pub HostOrder : ℕ → ℕ → List Move → Type 0
HostOrder client given moves = IsSome (stand_after (host_at_first client given) moves)
