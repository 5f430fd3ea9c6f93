-- A client that hears a request is one that may be asked.
use Rattle.std.proofs.Common.{◌≡◌, refl, sym, subst, ℕ, Bool, true, false, List, Some, None, Option}
use Rattle.std.specs.Prelude.{Result, Ok, Err}
use Rattle.rd_base.specs.declared.bad.Bad.{Bad}
use Rattle.rd_base.specs.declared.packet.Packet.{Packet}
use Rattle.rd_base.specs.declared.packet.Packet.TheVariants as packet
use Rattle.rd_base.specs.Header.{any_header}
use Rattle.rd_base.specs.Layout.{met}
use Rattle.rd_base.specs.Position.{Position, at_start}
use Rattle.rd_client.specs.Core as client
use Rattle.rd_client.specs.Core.{ClientCoreState, HostSays, client_hear, client_hear_made, client_side, from_head, may_be_asked}
use Rattle.rd_client.specs.declared.heard.Heard.{Heard}
use Rattle.rd_client.specs.declared.heard.Heard.TheVariants as heard
use Rattle.rd_core.specs.Hearing as hearing
use Rattle.rd_core.specs.Hearing.{Meaning, read_as}
use Rattle.rd_devices.specs.declared.reply.DeviceReply.{DeviceReply}
use Rattle.rd_devices.specs.DeviceReply.{device_reply}
use Rattle.rd_drive.specs.declared.plan.Job.{Job}
use Rattle.rd_hello.specs.ClientTable.{client_step}
use Rattle.rd_hello.specs.Hello.{hello}
use Rattle.rd_hello.specs.Rows.{OrderRow}
use Rattle.rd_hello.specs.declared.client.ClientState.{ClientState}
use Rattle.rd_hello.specs.declared.client.ClientState.TheVariants.{Start, Named, Confirmed, Offered, Waiting, Ready}
use Rattle.rd_hello.specs.declared.end_fault.EndFault.{EndFault}
use Rattle.rd_hello.specs.declared.hello.Hello.{Hello}
use Rattle.rd_irp.specs.Request.{request_head}
use Rattle.rd_irp.specs.declared.request.RequestHead.{RequestHead}
use Rattle.rd_printer.specs.Notice.{notice}
use Rattle.rd_printer.specs.declared.notice.Notice.{Notice}

-- where a request is heard, the client may be asked
abbrev MayIfAsked : ClientCoreState × Result Heard EndFault → Type 0
MayIfAsked (x, Ok (heard.Ask device job)) = may_be_asked (x.core).shake ≡ true
MayIfAsked (x, Ok heard.Nothing) = Unit {0}
MayIfAsked (x, Ok (heard.Print n)) = Unit {0}
MayIfAsked (x, Err fault) = Unit {0}

abbrev made : ClientCoreState → Meaning ClientState HostSays → ClientCoreState × Result Heard EndFault
made c s = client_hear_made c (hearing.hear_said client_side c.core s)

asked_reads : (state : ClientState) → hearing.is_read_in client_side state packet.IoRequest ≡ true → may_be_asked state ≡ true
asked_reads Start e = absurd (cc (e))
asked_reads Named e = absurd (cc (e))
asked_reads Confirmed e = absurd (cc (e))
asked_reads (Offered tells) e = absurd (cc (e))
asked_reads Waiting e = refl
asked_reads Ready e = refl

hello_may : (c : ClientCoreState) (r : Result (Hello × Position) Bad) → MayIfAsked (made c (hearing.from_hello client_side (c.core).shake r))
hello_may c (Err bad) = tt
hello_may c (Ok read) = go (client_step (c.core).shake read.0)
  where
    go : (row : Option (OrderRow ClientState)) → MayIfAsked (made c (hearing.by_row client_side row))
    go None = tt
    go (Some row) = tt

notice_may : (c : ClientCoreState) (r : Result (Notice × Position) Bad) → MayIfAsked (made c (hearing.from_own client_side (read_as (λ (read : Notice × Position). client.notices read.0) r)))
notice_may c (Err bad) = tt
notice_may c (Ok read) = tt

packet_may : (c : ClientCoreState) (p : Packet) (m : List ℕ) → hearing.is_read_in client_side (c.core).shake p ≡ true → MayIfAsked (made c (hearing.from_packet client_side (c.core).shake p m))
packet_may c packet.IoRequest m reads = go (met request_head (at_start m))
  where
    go : (r : Result (RequestHead × Position) Bad) → MayIfAsked (made c (hearing.from_own client_side (read_as from_head r)))
    go (Err bad) = tt
    go (Ok read) = asked_reads (c.core).shake reads
packet_may c packet.DeviceReply m reads = go (met device_reply (at_start m))
  where
    go : (r : Result (DeviceReply × Position) Bad) → MayIfAsked (made c (hearing.from_own client_side (read_as (λ (read : DeviceReply × Position). client.replies read.0) r)))
    go (Err bad) = tt
    go (Ok read) = tt
packet_may c packet.PrinterCacheData m reads = notice_may c (met notice (at_start m))
packet_may c packet.PrinterUsingXps m reads = notice_may c (met notice (at_start m))
packet_may c packet.DeviceListAnnounce m reads = notice_may c (met notice (at_start m))
packet_may c packet.DeviceListRemove m reads = notice_may c (met notice (at_start m))
packet_may c packet.IoCompletion m reads = notice_may c (met notice (at_start m))
packet_may c packet.ServerAnnounce m reads = hello_may c (met hello (at_start m))
packet_may c packet.ClientIdConfirm m reads = hello_may c (met hello (at_start m))
packet_may c packet.ClientName m reads = hello_may c (met hello (at_start m))
packet_may c packet.ServerCapability m reads = hello_may c (met hello (at_start m))
packet_may c packet.ClientCapability m reads = hello_may c (met hello (at_start m))
packet_may c packet.UserLoggedOn m reads = hello_may c (met hello (at_start m))

deaf : (c : ClientCoreState) (m : List ℕ) (fault : EndFault) → (c.core).fault ≡ Some fault → client_hear c m ≡ (c, Err fault)
deaf c m fault e = rw e refl

listening : (c : ClientCoreState) (m : List ℕ) → (c.core).fault ≡ None → client_hear c m ≡ made c (hearing.said client_side (c.core).shake m)
listening c m e = rw e refl

hears_may : (c : ClientCoreState) (m : List ℕ) → MayIfAsked (client_hear c m)
hears_may c m = by_fault (c.core).fault refl
  where
    by_state : (p : Packet) (b : Bool) → hearing.is_read_in client_side (c.core).shake p ≡ b → MayIfAsked (made c (hearing.from_known client_side (c.core).shake m p))
    by_state p false f = rw f tt
    by_state p true f = rw f (packet_may c p m f)

    by_header : (r : Result (Option Packet × Position) Bad) → MayIfAsked (made c (hearing.from_header client_side (c.core).shake m r))
    by_header (Err bad) = tt
    by_header (Ok (None, rest)) = tt
    by_header (Ok (Some p, rest)) = by_state p (hearing.is_read_in client_side (c.core).shake p) refl

    by_fault : (f : Option EndFault) → (c.core).fault ≡ f → MayIfAsked (client_hear c m)
    by_fault (Some fault) e = subst MayIfAsked (sym (deaf c m fault e)) tt
    by_fault None e = subst MayIfAsked (sym (listening c m e)) (by_header (met any_header (at_start m)))

pub asked_may : (c x : ClientCoreState) (m : List ℕ) (device : ℕ) (job : Job) → client_hear c m ≡ (x, Ok (heard.Ask device job)) → may_be_asked (x.core).shake ≡ true
asked_may c x m device job e = subst MayIfAsked e (hears_may c m)
