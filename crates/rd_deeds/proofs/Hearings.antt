-- What a host makes of a message, and that what its end writes is no request.
use Rattle.std.proofs.Common.{◌≡◌, refl, sym, ap, subst, ℕ, ◌==◌, Bool, true, false, List, [], ◌∷◌, ◌++◌, map, Some, None, Option, inl, inr}
use Rattle.std.specs.Prelude.{fold, is_some, Result, Ok, Err}
use Rattle.std.specs.List.{AllByRecursion}
use Rattle.std.specs.Option.{option_to_list}
use Rattle.std.proofs.lemmas.Bool.{cases_Bool}
use Rattle.rd_base.specs.declared.bad.Bad.{Bad}
use Rattle.rd_base.specs.declared.packet.Packet.{Packet}
use Rattle.rd_base.specs.declared.packet.Packet.TheVariants as packet
use Rattle.rd_base.specs.declared.status.Status.{Status}
use Rattle.rd_base.specs.Header.{any_header, packet_id}
use Rattle.rd_base.specs.Layout.{met}
use Rattle.rd_base.specs.Position.{Position, at_start}
use Rattle.rd_devices.specs.declared.list.Announce.{Announce}
use Rattle.rd_devices.specs.DeviceList.{device_list}
use Rattle.rd_devices.specs.Removal.{removal}
use Rattle.rd_hello.specs.declared.end_fault.EndFault.{EndFault}
use Rattle.rd_hello.specs.declared.hello.Hello.{Hello}
use Rattle.rd_hello.specs.declared.hello.Hello.TheVariants as hello
use Rattle.rd_hello.specs.declared.host.HostState.{HostState}
use Rattle.rd_hello.specs.Hello.{hello as hello_layout, hello_bytes}
use Rattle.rd_hello.specs.HostTable.{host_step}
use Rattle.rd_hello.specs.Moves.{packet_in}
use Rattle.rd_hello.specs.Own.{host_announce}
use Rattle.rd_hello.specs.Rows.{OrderRow}
use Rattle.rd_core.specs.Hearing as hearing
use Rattle.rd_core.specs.Hearing.{Meaning, nothing, opens, read_as, says, wrong}
use Rattle.rd_host.specs.Core as host
use Rattle.rd_host.specs.Core.{HostCoreState, host_hear, host_hear_made, host_side}
use Rattle.rd_host.specs.declared.act.Act.{Act}
use Rattle.rd_host.specs.declared.act.Act.TheVariants as act
use Rattle.rd_irp.specs.declared.completion.Head.{Head}
use Rattle.rd_irp.specs.Completion.{completion_head}
use Rattle.rd_printer.specs.declared.notice.Notice.{Notice}
use Rattle.rd_printer.specs.declared.notice.Notice.TheVariants as notice
use Rattle.rd_printer.specs.Notice.{notice_bytes}
use Rattle.rd_pending.specs.Table as table
use Rattle.rd_host.specs.Served.{is_served_type}
use Rattle.rd_base.specs.Statuses as status
use Rattle.rd_deeds.specs.Host.{HostSide, admits, forgets, hears, live_code, side_sends}
use Rattle.rd_deeds.specs.HostDeeds.{side_of}
use Rattle.rd_deeds.specs.Talk.{Deed, adds, announced_in, client_reads, client_writes, completes, head_in, host_begins, host_ends, host_reads, host_writes, is_request, removed_in, removes, stores, submits, takes, tells}
use Rattle.rd_deeds.proofs.Lists.{all_more}
use Rattle.rd_deeds.proofs.Messages.{no_head_in, no_list_in, no_removal_in, nothing_in, packet_is, written_packet}

-- what a host made of a message
abbrev pub Heard : HostCoreState → List ℕ → HostCoreState × Result Act EndFault → Type 0
Heard h m (c, Err fault) = is_some (c.core).fault ≡ true
Heard h m (c, Ok act.Nothing) = ((h.core).fault ≡ None) × ((c.core).fault ≡ None) × (removed_in m ≡ []) × (announced_in m ≡ []) × (head_in m ≡ None)
Heard h m (c, Ok (act.Announced devices)) = ((h.core).fault ≡ None) × (c ≡ h) × (removed_in m ≡ []) × (announced_in m ≡ devices) × (head_in m ≡ None)
Heard h m (c, Ok (act.Removed ids)) = ((h.core).fault ≡ None) × (c ≡ h) × (removed_in m ≡ ids) × (announced_in m ≡ []) × (head_in m ≡ None)
Heard h m (c, Ok (act.Complete head bytes)) =
    ((h.core).fault ≡ None) × (c ≡ h) × (removed_in m ≡ []) × (announced_in m ≡ [])
    × (q : Position) × (met completion_head (at_start m) ≡ Ok (head, q)) × (bytes ≡ q.left)

-- what a host makes of what a message says
abbrev made : HostCoreState → Meaning HostState Act → HostCoreState × Result Act EndFault
made h s = host_hear_made h (hearing.hear_said host_side h.core s)

-- of what other packets is
idle : (h c : HostCoreState) (p : Packet) (m : List ℕ) → (h.core).fault ≡ None → (c.core).fault ≡ None → packet_in m ≡ Some p → (packet_id p == packet_id packet.DeviceListRemove) ≡ false
    → (packet_id p == packet_id packet.DeviceListAnnounce) ≡ false → (packet_id p == packet_id packet.IoCompletion) ≡ false → Heard h m (c, Ok act.Nothing)
idle h c p m e e2 is a b d = (e, e2, no_removal_in p m is a, no_list_in p m is b, no_head_in p m is d)

heard_hello : (h : HostCoreState) (p : Packet) (m : List ℕ) → (h.core).fault ≡ None → packet_in m ≡ Some p → (packet_id p == packet_id packet.DeviceListRemove) ≡ false
    → (packet_id p == packet_id packet.DeviceListAnnounce) ≡ false → (packet_id p == packet_id packet.IoCompletion) ≡ false
    → (r : Result (Hello × Position) Bad) → Heard h m (made h (hearing.from_hello host_side (h.core).shake r))
heard_hello h p m e is a b d (Err bad) = refl
heard_hello h p m e is a b d (Ok read) = go (host_step (h.core).shake read.0)
  where
    go : (r : Option (OrderRow HostState)) → Heard h m (made h (hearing.by_row host_side r))
    go None = idle h h p m e e is a b d
    go (Some row) = idle h (record h { core = hearing.after_row host_side h.core row }) p m e e is a b d

heard_completion : (h : HostCoreState) (p : Packet) (m : List ℕ) → (h.core).fault ≡ None → packet_in m ≡ Some p → (packet_id p == packet_id packet.DeviceListRemove) ≡ false
    → (packet_id p == packet_id packet.DeviceListAnnounce) ≡ false
    → Heard h m (made h (hearing.from_own host_side (read_as (λ (read : Head × Position). act.Complete read.0 (read.1).left) (met completion_head (at_start m)))))
heard_completion h p m e is a b = go (met completion_head (at_start m)) refl
  where
    go : (r : Result (Head × Position) Bad) → met completion_head (at_start m) ≡ r
        → Heard h m (made h (hearing.from_own host_side (read_as (λ (read : Head × Position). act.Complete read.0 (read.1).left) r)))
    go (Err bad) e2 = refl
    go (Ok (head, q)) e2 = (e, refl, no_removal_in p m is a, no_list_in p m is b, q, e2, refl)

heard_packet : (h : HostCoreState) (p : Packet) (m : List ℕ) → (h.core).fault ≡ None → packet_in m ≡ Some p → Heard h m (made h (hearing.from_packet host_side (h.core).shake p m))
heard_packet h packet.DeviceListAnnounce m e is = go (met device_list (at_start m)) refl
  where
    go : (r : Result (List Announce × Position) Bad) → met device_list (at_start m) ≡ r
        → Heard h m (made h (hearing.from_own host_side (read_as (λ (read : List Announce × Position). act.Announced read.0) r)))
    go (Err bad) e2 = refl
    go (Ok read) e2 = (e, refl, no_removal_in packet.DeviceListAnnounce m is refl, rw e2 refl, no_head_in packet.DeviceListAnnounce m is refl)
heard_packet h packet.DeviceListRemove m e is = go (met removal (at_start m)) refl
  where
    go : (r : Result (List ℕ × Position) Bad) → met removal (at_start m) ≡ r → Heard h m (made h (hearing.from_own host_side (read_as (λ (read : List ℕ × Position). act.Removed read.0) r)))
    go (Err bad) e2 = refl
    go (Ok read) e2 = (e, refl, rw e2 refl, no_list_in packet.DeviceListRemove m is refl, no_head_in packet.DeviceListRemove m is refl)
heard_packet h packet.IoCompletion m e is = heard_completion h packet.IoCompletion m e is refl refl
heard_packet h packet.DeviceReply m e is = heard_completion h packet.DeviceReply m e is refl refl
heard_packet h packet.IoRequest m e is = heard_completion h packet.IoRequest m e is refl refl
heard_packet h packet.PrinterCacheData m e is = heard_completion h packet.PrinterCacheData m e is refl refl
heard_packet h packet.PrinterUsingXps m e is = heard_completion h packet.PrinterUsingXps m e is refl refl
heard_packet h packet.ServerAnnounce m e is = heard_hello h packet.ServerAnnounce m e is refl refl refl (met hello_layout (at_start m))
heard_packet h packet.ClientIdConfirm m e is = heard_hello h packet.ClientIdConfirm m e is refl refl refl (met hello_layout (at_start m))
heard_packet h packet.ClientName m e is = heard_hello h packet.ClientName m e is refl refl refl (met hello_layout (at_start m))
heard_packet h packet.ServerCapability m e is = heard_hello h packet.ServerCapability m e is refl refl refl (met hello_layout (at_start m))
heard_packet h packet.ClientCapability m e is = heard_hello h packet.ClientCapability m e is refl refl refl (met hello_layout (at_start m))
heard_packet h packet.UserLoggedOn m e is = heard_hello h packet.UserLoggedOn m e is refl refl refl (met hello_layout (at_start m))

deaf : (h : HostCoreState) (m : List ℕ) (fault : EndFault) → (h.core).fault ≡ Some fault → host_hear h m ≡ (h, Err fault)
deaf h m fault e = rw e refl

listening : (h : HostCoreState) (m : List ℕ) → (h.core).fault ≡ None → host_hear h m ≡ made h (hearing.said host_side (h.core).shake m)
listening h m e = rw e refl

pub heard : (h : HostCoreState) (m : List ℕ) → Heard h m (host_hear h m)
heard h m = by_fault (h.core).fault refl
  where
    by_state : (p : Packet) → (h.core).fault ≡ None → packet_in m ≡ Some p → (b : Bool) → hearing.is_read_in host_side (h.core).shake p ≡ b → Heard h m (made h (hearing.from_known host_side (h.core).shake m p))
    by_state p e is false e2 = rw e2 refl
    by_state p e is true e2 = rw e2 (heard_packet h p m e is)

    by_header : (h.core).fault ≡ None → (r : Result (Option Packet × Position) Bad) → met any_header (at_start m) ≡ r → Heard h m (made h (hearing.from_header host_side (h.core).shake m r))
    by_header e (Err bad) e2 = refl
    by_header e (Ok (None, rest)) e2 =
        let none : packet_in m ≡ None = rw e2 refl in
        let nothing = nothing_in m none in
        (e, e, nothing.0, nothing.1, nothing.2)
    by_header e (Ok (Some p, rest)) e2 = by_state p e (rw e2 refl) (hearing.is_read_in host_side (h.core).shake p) refl

    by_fault : (f : Option EndFault) → (h.core).fault ≡ f → Heard h m (host_hear h m)
    by_fault (Some fault) e = subst (Heard h m) (sym (deaf h m fault e)) (ap is_some e)
    by_fault None e = subst (Heard h m) (sym (listening h m e)) (by_header e (met any_header (at_start m)) refl)

-- ---- what the end writes

abbrev IsQuiet : List ℕ → Type 0
IsQuiet m = is_request m ≡ false

abbrev pub AreQuiet : List (List ℕ) → Type 0
AreQuiet messages = AllByRecursion IsQuiet messages

hello_quiet : (x : Hello) → is_request (hello_bytes x) ≡ false
hello_quiet (hello.Announce v) = packet_is packet.ServerAnnounce packet.IoRequest _ (written_packet packet.ServerAnnounce _)
hello_quiet (hello.Confirm v) = packet_is packet.ClientIdConfirm packet.IoRequest _ (written_packet packet.ClientIdConfirm _)
hello_quiet (hello.Name a b c) = packet_is packet.ClientName packet.IoRequest _ (written_packet packet.ClientName _)
hello_quiet (hello.ServerCaps caps) = packet_is packet.ServerCapability packet.IoRequest _ (written_packet packet.ServerCapability _)
hello_quiet (hello.ClientCaps caps) = packet_is packet.ClientCapability packet.IoRequest _ (written_packet packet.ClientCapability _)
hello_quiet hello.LoggedOn = packet_is packet.UserLoggedOn packet.IoRequest _ (written_packet packet.UserLoggedOn _)

hellos_quiet : (xs : List Hello) → AreQuiet (map host.as_it_is (map hello_bytes xs))
hellos_quiet [] = tt
hellos_quiet (x ∷ xs) = (hello_quiet x, hellos_quiet xs)

notice_quiet : (n : Notice) → is_request (notice_bytes n) ≡ false
notice_quiet (notice.Add port pnp driver name config) = packet_is packet.PrinterCacheData packet.IoRequest _ (written_packet packet.PrinterCacheData _)
notice_quiet (notice.Update name config) = packet_is packet.PrinterCacheData packet.IoRequest _ (written_packet packet.PrinterCacheData _)
notice_quiet (notice.Delete name) = packet_is packet.PrinterCacheData packet.IoRequest _ (written_packet packet.PrinterCacheData _)
notice_quiet (notice.Rename old new) = packet_is packet.PrinterCacheData packet.IoRequest _ (written_packet packet.PrinterCacheData _)
notice_quiet (notice.UsingXps printer flags) = packet_is packet.PrinterUsingXps packet.IoRequest _ (written_packet packet.PrinterUsingXps _)

reply_quiet : (h : HostCoreState) (device : ℕ) (code : Status) → AreQuiet (h.core).outbox → AreQuiet ((host.reply h device code).core).outbox
reply_quiet h device code all = all_more IsQuiet (h.core).outbox _ all (packet_is packet.DeviceReply packet.IoRequest _ (written_packet packet.DeviceReply _), tt)

heard_quiet : (h : HostCoreState) (m : List ℕ) → AreQuiet (h.core).outbox → AreQuiet (((host_hear h m).0).core).outbox
heard_quiet h m all = by_fault (h.core).fault refl
  where
    by : (s : Meaning HostState Act) → AreQuiet (((made h s).0).core).outbox
    by (wrong fault) = all
    by nothing = all
    by (opens row) = all_more IsQuiet (h.core).outbox _ all (hellos_quiet (option_to_list row.first ++ option_to_list row.second))
    by (says a) = all

    by_fault : (f : Option EndFault) → (h.core).fault ≡ f → AreQuiet (((host_hear h m).0).core).outbox
    by_fault (Some fault) e = subst (λ (x : HostCoreState × Result Act EndFault). AreQuiet ((x.0).core).outbox) (sym (deaf h m fault e)) all
    by_fault None e = subst (λ (x : HostCoreState × Result Act EndFault). AreQuiet ((x.0).core).outbox) (sym (listening h m e)) (by (hearing.said host_side (h.core).shake m))

admits_quiet : (s : HostSide) (a : Announce) → AreQuiet ((s.core).core).outbox → AreQuiet (((admits s a).core).core).outbox
admits_quiet s a all = elim (cases_Bool (is_served_type a.kind)) [
  | inl e ↦ rw e (reply_quiet s.core a.id (live_code (table.live s.table a.id).1) all)
  | inr e ↦ rw e (reply_quiet s.core a.id status.not_supported all)
]

admitted_quiet : (s : HostSide) (devices : List Announce) → AreQuiet ((s.core).core).outbox → AreQuiet (((fold admits s devices).core).core).outbox
admitted_quiet s [] all = all
admitted_quiet s (a ∷ devices) all = admitted_quiet (admits s a) devices (admits_quiet s a all)

forgot_quiet : (s : HostSide) (ids : List ℕ) → AreQuiet ((s.core).core).outbox → AreQuiet (((fold forgets s ids).core).core).outbox
forgot_quiet s [] all = all
forgot_quiet s (id ∷ ids) all = forgot_quiet (forgets s id) ids all

hears_quiet : (s : HostSide) (m : List ℕ) → AreQuiet ((s.core).core).outbox → AreQuiet (((hears s m).core).core).outbox
hears_quiet s m all = go (host_hear s.core m) refl (heard_quiet s.core m all)
  where
    go : (r : HostCoreState × Result Act EndFault) → host_hear s.core m ≡ r → AreQuiet (((host_hear s.core m).0).core).outbox → AreQuiet (((hears s m).core).core).outbox
    go (c, Err fault) e quiet = rw e (subst (λ (x : HostCoreState × Result Act EndFault). AreQuiet ((x.0).core).outbox) e quiet)
    go (c, Ok act.Nothing) e quiet = rw e (subst (λ (x : HostCoreState × Result Act EndFault). AreQuiet ((x.0).core).outbox) e quiet)
    go (c, Ok (act.Announced devices)) e quiet = rw e (admitted_quiet (record s { core = c }) devices (subst (λ (x : HostCoreState × Result Act EndFault). AreQuiet ((x.0).core).outbox) e quiet))
    go (c, Ok (act.Removed ids)) e quiet = rw e (forgot_quiet (record s { core = c }) ids (subst (λ (x : HostCoreState × Result Act EndFault). AreQuiet ((x.0).core).outbox) e quiet))
    go (c, Ok (act.Complete head bytes)) e quiet = rw e (subst (λ (x : HostCoreState × Result Act EndFault). AreQuiet ((x.0).core).outbox) e quiet)

sends_quiet : (s : HostSide) → AreQuiet ((s.core).core).outbox → AreQuiet (((side_sends s).core).core).outbox
sends_quiet s all = go ((s.core).core).outbox refl
  where
    go : (o : List (List ℕ)) → ((s.core).core).outbox ≡ o → AreQuiet (((side_sends s).core).core).outbox
    go [] e = rw e tt
    go (m ∷ ms) e = rw e (subst AreQuiet e all).1

-- what a host's end still has to write is no request
pub quiet : (client : ℕ) (deeds : List Deed) → AreQuiet (((side_of client deeds).core).core).outbox
quiet client [] = tt
quiet client (host_begins channel ∷ before) = (hello_quiet (host_announce ((side_of client before).core).client), tt)
quiet client (host_ends channel ∷ before) = tt
quiet client (removes device ∷ before) = quiet client before
quiet client (adds device ∷ before) = quiet client before
quiet client (submits application named o ∷ before) = quiet client before
quiet client (takes number ∷ before) = quiet client before
quiet client (tells n ∷ before) = all_more IsQuiet (((side_of client before).core).core).outbox _ (quiet client before) (notice_quiet n, tt)
quiet client (host_writes channel message ∷ before) = sends_quiet (side_of client before) (quiet client before)
quiet client (host_reads channel message ∷ before) = hears_quiet (side_of client before) message (quiet client before)
quiet client (client_reads channel message ∷ before) = quiet client before
quiet client (client_writes channel message ∷ before) = quiet client before
quiet client (completes key message ∷ before) = quiet client before
quiet client (stores device item ∷ before) = quiet client before
