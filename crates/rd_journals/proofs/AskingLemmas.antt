-- What a client makes of a message: which key a request gets.
use Rattle.std.proofs.Common.{◌≡◌, refl, sym, ap, subst, ℕ, ◌+◌, Bool, true, false, cond, List, Some, None, Option}
use Rattle.std.specs.Prelude.{is_some, Result, Ok, Err}
use Rattle.rd_base.specs.declared.bad.Bad.{Bad}
use Rattle.rd_base.specs.declared.packet.Packet.{Packet}
use Rattle.rd_base.specs.declared.packet.Packet.TheVariants as packet
use Rattle.rd_base.specs.Header.{any_header}
use Rattle.rd_base.specs.Layout.{met}
use Rattle.rd_base.specs.Position.{Position, at_start}
use Rattle.rd_client.specs.Core as client
use Rattle.rd_client.specs.Core.{ClientCoreState, HostSays, Outgoing, client_hear, client_hear_made, client_side, from_head, job_of}
use Rattle.rd_client.specs.declared.heard.Heard.{Heard}
use Rattle.rd_client.specs.declared.heard.Heard.TheVariants as heard
use Rattle.rd_core.specs.Core.{CoreState}
use Rattle.rd_core.specs.Hearing as hearing
use Rattle.rd_core.specs.Hearing.{Meaning, read_as}
use Rattle.rd_devices.specs.declared.reply.DeviceReply.{DeviceReply}
use Rattle.rd_devices.specs.DeviceList.{list_bytes}
use Rattle.rd_devices.specs.DeviceReply.{device_reply}
use Rattle.rd_hello.specs.ClientTable.{client_step}
use Rattle.rd_hello.specs.Hello.{hello}
use Rattle.rd_hello.specs.Moves.{packet_in}
use Rattle.rd_hello.specs.Rows.{OrderRow}
use Rattle.rd_hello.specs.declared.client.ClientState.{ClientState}
use Rattle.rd_hello.specs.declared.end_fault.EndFault.{EndFault}
use Rattle.rd_hello.specs.declared.hello.Hello.{Hello}
use Rattle.rd_irp.specs.Request.{request_head}
use Rattle.rd_irp.specs.declared.request.Request.{Request}
use Rattle.rd_irp.specs.declared.request.RequestHead.{RequestHead}
use Rattle.rd_printer.specs.Notice.{notice}
use Rattle.rd_printer.specs.declared.notice.Notice.{Notice}
use Rattle.rd_deeds.specs.Talk.{is_request, request_in}
use Rattle.rd_deeds.proofs.Messages.{packet_is}

-- the count of a channel's requests stays, and so does what is wrong
abbrev Stays : ClientCoreState → List ℕ → ClientCoreState → Type 0
Stays c m x = (x.channel ≡ c.channel) × (x.asked ≡ c.asked) × (is_request m ≡ false) × ((x.core).fault ≡ (c.core).fault)

-- A request is counted, and its job has the next key. Any other message is none, or nothing is heard from now on.
abbrev pub HeardAs : ClientCoreState → List ℕ → ClientCoreState × Result Heard EndFault → Type 0
HeardAs c m (x, Ok (heard.Ask device job)) =
    (x.channel ≡ c.channel) × (x.asked ≡ c.asked + 1) × (is_request m ≡ true) × ((x.core).fault ≡ (c.core).fault) × ((c.core).fault ≡ None)
    × (r : Request) × (request_in m ≡ Some r) × (device ≡ r.device) × (job ≡ job_of r c.channel c.asked)
HeardAs c m (x, Ok heard.Nothing) = Stays c m x
HeardAs c m (x, Ok (heard.Print n)) = Stays c m x
HeardAs c m (x, Err fault) = (x.channel ≡ c.channel) × (x.asked ≡ c.asked) × (is_some (x.core).fault ≡ true)

-- what a client makes of what a message says
abbrev made : ClientCoreState → Meaning ClientState HostSays → ClientCoreState × Result Heard EndFault
made c s = client_hear_made c (hearing.hear_said client_side c.core s)

opened_stays : (c : ClientCoreState) (m : List ℕ) (after : CoreState ClientState Outgoing) → is_request m ≡ false → after.fault ≡ (c.core).fault → Stays c m (client.client_opened c after)
opened_stays c m after other same = by (client.becomes_ready (c.core).shake after.shake)
  where
    next : ClientCoreState
    next = record c { core = after }

    by : (b : Bool) → Stays c m (cond b (client.with_outgoing next (client.plain (list_bytes (client.listed c)))) next)
    by true = (refl, refl, other, same)
    by false = (refl, refl, other, same)

heard_hello : (c : ClientCoreState) (m : List ℕ) → is_request m ≡ false → (r : Result (Hello × Position) Bad) → HeardAs c m (made c (hearing.from_hello client_side (c.core).shake r))
heard_hello c m other (Err bad) = (refl, refl, refl)
heard_hello c m other (Ok read) = go (client_step (c.core).shake read.0)
  where
    go : (row : Option (OrderRow ClientState)) → HeardAs c m (made c (hearing.by_row client_side row))
    go None = opened_stays c m c.core other refl
    go (Some row) = opened_stays c m (hearing.after_row client_side c.core row) other refl

heard_notice : (c : ClientCoreState) (m : List ℕ) → is_request m ≡ false → (r : Result (Notice × Position) Bad)
    → HeardAs c m (made c (hearing.from_own client_side (read_as (λ (read : Notice × Position). client.notices read.0) r)))
heard_notice c m other (Err bad) = (refl, refl, refl)
heard_notice c m other (Ok read) = (refl, refl, other, refl)

heard_packet : (c : ClientCoreState) (p : Packet) (m : List ℕ) → (c.core).fault ≡ None → packet_in m ≡ Some p → HeardAs c m (made c (hearing.from_packet client_side (c.core).shake p m))
heard_packet c packet.IoRequest m fine is = go (met request_head (at_start m)) refl
  where
    go : (r : Result (RequestHead × Position) Bad) → met request_head (at_start m) ≡ r → HeardAs c m (made c (hearing.from_own client_side (read_as from_head r)))
    go (Err bad) e = (refl, refl, refl)
    go (Ok read) e = (refl, refl, packet_is packet.IoRequest packet.IoRequest m is, refl, fine, _, rw e refl, refl, refl)
heard_packet c packet.DeviceReply m fine is = go (met device_reply (at_start m))
  where
    go : (r : Result (DeviceReply × Position) Bad) → HeardAs c m (made c (hearing.from_own client_side (read_as (λ (read : DeviceReply × Position). client.replies read.0) r)))
    go (Err bad) = (refl, refl, refl)
    go (Ok read) = (refl, refl, packet_is packet.DeviceReply packet.IoRequest m is, refl)
heard_packet c packet.PrinterCacheData m fine is = heard_notice c m (packet_is packet.PrinterCacheData packet.IoRequest m is) (met notice (at_start m))
heard_packet c packet.PrinterUsingXps m fine is = heard_notice c m (packet_is packet.PrinterUsingXps packet.IoRequest m is) (met notice (at_start m))
heard_packet c packet.DeviceListAnnounce m fine is = heard_notice c m (packet_is packet.DeviceListAnnounce packet.IoRequest m is) (met notice (at_start m))
heard_packet c packet.DeviceListRemove m fine is = heard_notice c m (packet_is packet.DeviceListRemove packet.IoRequest m is) (met notice (at_start m))
heard_packet c packet.IoCompletion m fine is = heard_notice c m (packet_is packet.IoCompletion packet.IoRequest m is) (met notice (at_start m))
heard_packet c packet.ServerAnnounce m fine is = heard_hello c m (packet_is packet.ServerAnnounce packet.IoRequest m is) (met hello (at_start m))
heard_packet c packet.ClientIdConfirm m fine is = heard_hello c m (packet_is packet.ClientIdConfirm packet.IoRequest m is) (met hello (at_start m))
heard_packet c packet.ClientName m fine is = heard_hello c m (packet_is packet.ClientName packet.IoRequest m is) (met hello (at_start m))
heard_packet c packet.ServerCapability m fine is = heard_hello c m (packet_is packet.ServerCapability packet.IoRequest m is) (met hello (at_start m))
heard_packet c packet.ClientCapability m fine is = heard_hello c m (packet_is packet.ClientCapability packet.IoRequest m is) (met hello (at_start m))
heard_packet c packet.UserLoggedOn m fine is = heard_hello c m (packet_is packet.UserLoggedOn packet.IoRequest m is) (met hello (at_start m))

deaf : (c : ClientCoreState) (m : List ℕ) (fault : EndFault) → (c.core).fault ≡ Some fault → client_hear c m ≡ (c, Err fault)
deaf c m fault e = rw e refl

listening : (c : ClientCoreState) (m : List ℕ) → (c.core).fault ≡ None → client_hear c m ≡ made c (hearing.said client_side (c.core).shake m)
listening c m e = rw e refl

pub hears : (c : ClientCoreState) (m : List ℕ) → HeardAs c m (client_hear c m)
hears c m = by_fault (c.core).fault refl
  where
    by_state : (p : Packet) → (c.core).fault ≡ None → packet_in m ≡ Some p → (b : Bool) → hearing.is_read_in client_side (c.core).shake p ≡ b → HeardAs c m (made c (hearing.from_known client_side (c.core).shake m p))
    by_state p e is false f = rw f (refl, refl, refl)
    by_state p e is true f = rw f (heard_packet c p m e is)

    by_header : (c.core).fault ≡ None → (r : Result (Option Packet × Position) Bad) → met any_header (at_start m) ≡ r → HeardAs c m (made c (hearing.from_header client_side (c.core).shake m r))
    by_header e (Err bad) f = (refl, refl, refl)
    by_header e (Ok (None, rest)) f = opened_stays c m c.core (rw f refl) refl
    by_header e (Ok (Some p, rest)) f = by_state p e (rw f refl) (hearing.is_read_in client_side (c.core).shake p) refl

    by_fault : (f : Option EndFault) → (c.core).fault ≡ f → HeardAs c m (client_hear c m)
    by_fault (Some fault) e = subst (HeardAs c m) (sym (deaf c m fault e)) (refl, refl, ap is_some e)
    by_fault None e = subst (HeardAs c m) (sym (listening c m e)) (by_header e (met any_header (at_start m)) refl)
