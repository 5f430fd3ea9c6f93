-- What a client makes of a message that tells of a printer.
use Rattle.std.proofs.Common.{◌≡◌, refl, sym, subst, ℕ, Bool, true, false, List, Some, None, Option, Result, Ok, Err, is_some}
use Rattle.std.specs.Prelude.{if◌then◌else◌}
use Rattle.rd_base.specs.Fields.{number16}
use Rattle.rd_base.specs.Header.{any_header, are_numbers_of, component_field, header, header_among, packet_among}
use Rattle.rd_base.specs.Layout.{met, test}
use Rattle.rd_base.specs.Position.{Position, at_start}
use Rattle.rd_base.specs.declared.bad.Bad.{Bad}
use Rattle.rd_base.specs.declared.bad.Why.TheVariants as why
use Rattle.rd_base.specs.declared.packet.Packet.{Packet}
use Rattle.rd_base.specs.declared.packet.Packet.TheVariants as packet
use Rattle.rd_base.proofs.MessageLemmas.{test_ok}
use Rattle.rd_base.proofs.ResultLemmas.{and_then_ok}
use Rattle.rd_client.specs.Core as client
use Rattle.rd_client.specs.Core.{HostSays, client_side, from_head, host_says}
use Rattle.rd_core.specs.Hearing.{Meaning, by_row, from_header, from_hello, from_own, from_packet, is_hello, is_read_in, nothing, opens, read_as, said, says, wrong}
use Rattle.rd_devices.specs.declared.reply.DeviceReply.{DeviceReply}
use Rattle.rd_devices.specs.DeviceReply.{device_reply}
use Rattle.rd_hello.specs.Hello.{hello}
use Rattle.rd_hello.specs.Moves.{packet_in}
use Rattle.rd_hello.specs.Rows.{OrderRow}
use Rattle.rd_hello.specs.declared.client.ClientState.{ClientState}
use Rattle.rd_hello.specs.declared.end_fault.EndFault.{EndFault}
use Rattle.rd_hello.specs.declared.hello.Hello.{Hello}
use Rattle.rd_irp.specs.declared.request.RequestHead.{RequestHead}
use Rattle.rd_irp.specs.Request.{request_head}
use Rattle.rd_printer.specs.declared.notice.Notice.{Notice}
use Rattle.rd_printer.specs.Notice.{notice, notices}
use Rattle.rd_deeds.proofs.Messages.{after_header}
use Rattle.rd_deeds.specs.Talk.{notice_in}

abbrev pub is_printing : Packet → Bool
is_printing packet.PrinterCacheData = true
is_printing packet.PrinterUsingXps = true
is_printing p = false

-- ---- of which packet a notice is

numbers_named : (c i : ℕ) → is_some (packet_among notices c i) ≡ true → (p : Packet) × (is_printing p ≡ true) × (are_numbers_of c i p ≡ true)
numbers_named c i some = by (are_numbers_of c i packet.PrinterCacheData) refl (are_numbers_of c i packet.PrinterUsingXps) refl some
  where
    by : (a : Bool) → are_numbers_of c i packet.PrinterCacheData ≡ a → (b : Bool) → are_numbers_of c i packet.PrinterUsingXps ≡ b
        → is_some (if a then Some packet.PrinterCacheData else (if b then Some packet.PrinterUsingXps else None)) ≡ true → (p : Packet) × (is_printing p ≡ true) × (are_numbers_of c i p ≡ true)
    by true e b f is = (packet.PrinterCacheData, refl, e)
    by false e true f is = (packet.PrinterUsingXps, refl, f)
    by false e false f is = absurd cc

headed : (p : Packet) (m : List ℕ) (component id : ℕ × Position) → met component_field (at_start m) ≡ Ok component → met number16 component.1 ≡ Ok id → are_numbers_of component.0 id.0 p ≡ true
    → met (header p) (at_start m) ≡ Ok (tt, id.1)
unfolding header
headed p m component id c i holds = rw (c, i, holds) refl

notice_packet : (m : List ℕ) (x : Notice × Position) → met notice (at_start m) ≡ Ok x → (p : Packet) × (is_printing p ≡ true) × (packet_in m ≡ Some p)
unfolding notice header_among
notice_packet m x e =
    let h = and_then_ok (met (header_among notices) (at_start m)) _ x e in
    let c = and_then_ok (met component_field (at_start m)) _ _ h.1 in
    let i = and_then_ok (met number16 c.0.1) _ _ c.2 in
    let t = and_then_ok (met (test (is_some (packet_among notices c.0.0 i.0.0)) 2 why.Packet) i.0.1) _ _ i.2 in
    let (p, printing, holds) = numbers_named c.0.0 i.0.0 (test_ok _ 2 why.Packet i.0.1 t.0 t.1).0 in
    (p, printing, after_header p m (tt, i.0.1) (headed p m c.0 i.0 c.1 i.1 holds))

pub no_notice : (p : Packet) (m : List ℕ) → packet_in m ≡ Some p → is_printing p ≡ false → notice_in m ≡ None
no_notice p m is other = go (met notice (at_start m)) refl
  where
    go : (r : Result (Notice × Position) Bad) → met notice (at_start m) ≡ r → notice_in m ≡ None
    go (Ok x) e =
        let (q, printing, names) = notice_packet m x e in
        let same : p ≡ q = cc (is, names) in
        let own : is_printing q ≡ false = subst (λ (k : Packet). is_printing k ≡ false) same other in
        absurd (cc (own, printing))
    go (Err bad) e = rw e refl

no_packet : (m : List ℕ) → packet_in m ≡ None → notice_in m ≡ None
no_packet m none = go (met notice (at_start m)) refl
  where
    go : (r : Result (Notice × Position) Bad) → met notice (at_start m) ≡ r → notice_in m ≡ None
    go (Ok x) e = let (q, printing, names) = notice_packet m x e in absurd (cc (none, names))
    go (Err bad) e = rw e refl

-- ---- what it says to a client

abbrev pub noticed : Meaning ClientState HostSays → Option Notice
noticed (says (client.notices n)) = Some n
noticed s = None

-- a message that isn't wrong says a notice where it spells one
IsHeardAs : Option Notice → Meaning ClientState HostSays → Type 0
IsHeardAs o (wrong fault) = Unit {0}
IsHeardAs o s = noticed s ≡ o

printed_as : (m : List ℕ) → IsHeardAs (notice_in m) (from_own client_side (read_as (λ (read : Notice × Position). client.notices read.0) (met notice (at_start m))))
unfolding IsHeardAs
printed_as m = go (met notice (at_start m)) refl
  where
    go : (r : Result (Notice × Position) Bad) → met notice (at_start m) ≡ r → IsHeardAs (notice_in m) (from_own client_side (read_as (λ (read : Notice × Position). client.notices read.0) r))
    go (Ok x) e = rw e refl
    go (Err bad) e = tt

own_as : (p : Packet) (m : List ℕ) → packet_in m ≡ Some p → is_hello p ≡ false → IsHeardAs (notice_in m) (from_own client_side (host_says p m))
unfolding IsHeardAs
own_as packet.IoRequest m is other = go (met request_head (at_start m))
  where
    go : (r : Result (RequestHead × Position) Bad) → IsHeardAs (notice_in m) (from_own client_side (read_as from_head r))
    go (Ok x) = sym (no_notice packet.IoRequest m is refl)
    go (Err bad) = tt
own_as packet.DeviceReply m is other = go (met device_reply (at_start m))
  where
    go : (r : Result (DeviceReply × Position) Bad) → IsHeardAs (notice_in m) (from_own client_side (read_as (λ (read : DeviceReply × Position). client.replies read.0) r))
    go (Ok x) = sym (no_notice packet.DeviceReply m is refl)
    go (Err bad) = tt
own_as packet.PrinterCacheData m is other = printed_as m
own_as packet.PrinterUsingXps m is other = printed_as m
own_as packet.ServerAnnounce m is other = absurd cc
own_as packet.ClientIdConfirm m is other = absurd cc
own_as packet.ClientName m is other = absurd cc
own_as packet.ServerCapability m is other = absurd cc
own_as packet.ClientCapability m is other = absurd cc
own_as packet.UserLoggedOn m is other = absurd cc
own_as packet.DeviceListAnnounce m is other = printed_as m
own_as packet.DeviceListRemove m is other = printed_as m
own_as packet.IoCompletion m is other = printed_as m

hello_printing : (p : Packet) → is_hello p ≡ true → is_printing p ≡ false
hello_printing packet.PrinterCacheData is = absurd cc
hello_printing packet.PrinterUsingXps is = absurd cc
hello_printing p is = refl

said_notice : (state : ClientState) (m : List ℕ) → IsHeardAs (notice_in m) (said client_side state m)
unfolding IsHeardAs
said_notice state m = by (met any_header (at_start m)) refl
  where
    rows : (none : None ≡ notice_in m) (o : Option (OrderRow ClientState)) → IsHeardAs (notice_in m) (by_row client_side o)
    rows none None = none
    rows none (Some row) = none

    greeting : (none : None ≡ notice_in m) (r : Result (Hello × Position) Bad) → IsHeardAs (notice_in m) (from_hello client_side state r)
    greeting none (Err bad) = tt
    greeting none (Ok read) = rows none (client_side.row state read.0)

    by_packet : (p : Packet) → packet_in m ≡ Some p → (b : Bool) → is_hello p ≡ b → IsHeardAs (notice_in m) (if b then from_hello client_side state (met hello (at_start m)) else from_own client_side (client_side.own p m))
    by_packet p is true e = greeting (sym (no_notice p m is (hello_printing p e))) (met hello (at_start m))
    by_packet p is false e = own_as p m is e

    by_known : (p : Packet) → packet_in m ≡ Some p → (b : Bool) (fault : EndFault) → IsHeardAs (notice_in m) (if b then from_packet client_side state p m else wrong fault)
    by_known p is true fault = by_packet p is (is_hello p) refl
    by_known p is false fault = tt

    by : (r : Result (Option Packet × Position) Bad) → met any_header (at_start m) ≡ r → IsHeardAs (notice_in m) (from_header client_side state m r)
    by (Err bad) e = tt
    by (Ok (None, rest)) e = let none : packet_in m ≡ None = rw e refl in sym (no_packet m none)
    by (Ok (Some p, rest)) e = let is : packet_in m ≡ Some p = rw e refl in by_known p is (is_read_in client_side state p) _

-- so where it isn't wrong
pub heard_notice : (state : ClientState) (m : List ℕ) (s : Meaning ClientState HostSays) → said client_side state m ≡ s → ((fault : EndFault) → s ≡ wrong fault → ⊥) → notice_in m ≡ noticed s
unfolding IsHeardAs
heard_notice state m s is fine = by s (subst (IsHeardAs (notice_in m)) is (said_notice state m)) fine
  where
    by : (t : Meaning ClientState HostSays) → IsHeardAs (notice_in m) t → ((fault : EndFault) → t ≡ wrong fault → ⊥) → notice_in m ≡ noticed t
    by (wrong fault) own right = absurd (right fault refl)
    by nothing own right = sym own
    by (opens row) own right = sym own
    by (says a) own right = sym own
