-- What the messages of a ready end say to the other one: none of them is wrong.
use Rattle.std.proofs.Common.{◌≡◌, ◌∙◌, refl, ap, ℕ, ◌≤◌, true, List, [], ◌∷◌, length, Some, None, Option, arith}
use Rattle.std.specs.Prelude.{All, Result, Ok, Err, is_ok}
use Rattle.std.specs.List.{AllByRecursion}
use Rattle.std.proofs.lemmas.List.Elements.{All-tail}
use Rattle.rd_base.specs.declared.bad.Bad.{Bad}
use Rattle.rd_base.specs.declared.packet.Packet.{Packet}
use Rattle.rd_base.specs.declared.packet.Packet.TheVariants as packet
use Rattle.rd_base.specs.Counted.{count_to, counted}
use Rattle.rd_base.specs.Header.{any_header, component_field, header, header_among}
use Rattle.rd_base.specs.Layout.{met}
use Rattle.rd_base.specs.Limits.{max_devices}
use Rattle.rd_base.specs.Position.{Position, at_start}
use Rattle.rd_base.specs.Spelling.{IsSpelling}
use Rattle.rd_base.proofs.CountedLemmas.{counted_spelled}
use Rattle.rd_base.proofs.LayoutLemmas.{meets}
use Rattle.rd_base.proofs.ResultLemmas.{and_then_ok}
use Rattle.rd_base.proofs.SpellingLemmas.{AreSpelled, message_spelled, times_spelled}
use Rattle.rd_client.specs.Core.{HostSays, client_side, from_head, host_says, notices, replies}
use Rattle.rd_client.specs.Events.{IsWritableDevice}
use Rattle.rd_core.specs.Hearing.{Side, from_known, from_own, read_as, said, says}
use Rattle.rd_devices.specs.declared.list.Announce.{Announce}
use Rattle.rd_devices.specs.declared.reply.DeviceReply.{DeviceReply}
use Rattle.rd_devices.specs.DeviceList.{HasCountableBody, announce, announce_bytes, device_list, list_bytes}
use Rattle.rd_devices.specs.DeviceReply.{device_reply, reply_bytes}
use Rattle.rd_devices.specs.Removal.{removal, removal_bytes}
use Rattle.rd_devices.proofs.DeviceListLemmas.{announce_spelled, list_spelled}
use Rattle.rd_hello.specs.declared.client.ClientState.TheVariants as client_state
use Rattle.rd_hello.specs.declared.host.HostState.TheVariants as host_state
use Rattle.rd_hello.specs.Moves.{packet_in}
use Rattle.rd_host.specs.Core.{client_says, host_side}
use Rattle.rd_host.specs.declared.act.Act.{Act}
use Rattle.rd_host.specs.declared.act.Act.TheVariants as act
use Rattle.rd_irp.specs.declared.completion.Head.{Head}
use Rattle.rd_irp.specs.declared.request.Request.{Request}
use Rattle.rd_irp.specs.declared.request.RequestHead.{RequestHead}
use Rattle.rd_irp.specs.Completion.{completion_head}
use Rattle.rd_irp.specs.Request.{request_head}
use Rattle.rd_printer.specs.declared.notice.Notice.{Notice}
use Rattle.rd_printer.specs.declared.notice.Notice.TheVariants.{Add, Update, Delete, Rename, UsingXps}
use Rattle.rd_printer.specs.Notice.{HasWholePort, IsWritableNotice, notice, notice_bytes, using_xps}
use Rattle.rd_printer.proofs.NoticeLemmas.{IsInRange, notice_spelled}
use Rattle.rd_deeds.specs.Talk.{head_in, request_in}
use Rattle.rd_deeds.proofs.Messages.{after_header, head_is, written_packet}

-- ---- by packets

module _ {S M A : Type 0} (side : Side S M A) where
  -- what a message says is what its packet says
  pub said_of : (state : S) (p : Packet) (m : List ℕ) → packet_in m ≡ Some p → said side state m ≡ from_known side state m p
  said_of state p m named = go (met any_header (at_start m)) refl
    where
      go : (r : Result (Option Packet × Position) Bad) → met any_header (at_start m) ≡ r → said side state m ≡ from_known side state m p
      go (Err bad) e = let none : packet_in m ≡ None = rw e refl in absurd (cc (none, named))
      go (Ok (None, rest)) e = let none : packet_in m ≡ None = rw e refl in absurd (cc (none, named))
      go (Ok (Some q, rest)) e =
          let own : packet_in m ≡ Some q = rw e refl in
          let same : q ≡ p = cc (own, named) in
          rw e (ap (λ (x : Packet). from_known side state m x) same)

-- it says something to a ready client that isn't of the opening
abbrev pub SaysToClient : List ℕ → Type 0
SaysToClient m = (a : HostSays) × (said client_side client_state.Ready m ≡ says a)

-- and to a ready host
abbrev pub SaysToHost : List ℕ → Type 0
SaysToHost m = (a : Act) × (said host_side host_state.Ready m ≡ says a)

client_own : (p : Packet) (m : List ℕ) → packet_in m ≡ Some p → from_known client_side client_state.Ready m p ≡ from_own client_side (host_says p m)
    → (r : Result HostSays Bad) → host_says p m ≡ r → is_ok r ≡ true → SaysToClient m
client_own p m named own (Ok a) is ok = (a, said_of client_side client_state.Ready p m named ∙ own ∙ ap (from_own client_side) is)
client_own p m named own (Err bad) is ok = absurd (cc ok)

host_own : (p : Packet) (m : List ℕ) → packet_in m ≡ Some p → from_known host_side host_state.Ready m p ≡ from_own host_side (client_says p m)
    → (r : Result Act Bad) → client_says p m ≡ r → is_ok r ≡ true → SaysToHost m
host_own p m named own (Ok a) is ok = (a, said_of host_side host_state.Ready p m named ∙ own ∙ ap (from_own host_side) is)
host_own p m named own (Err bad) is ok = absurd (cc ok)

read_ok : {X A : Type 0} (f : X × Position → A) (r : Result (X × Position) Bad) → is_ok r ≡ true → is_ok (read_as f r) ≡ true
read_ok f (Ok x) ok = refl
read_ok f (Err bad) ok = absurd (cc ok)

-- ---- what a host writes

pub reply_met : (r : DeviceReply) → is_ok (met device_reply (at_start (reply_bytes r))) ≡ true
unfolding device_reply header component_field header_among
reply_met r = refl

pub reply_says : (r : DeviceReply) → SaysToClient (reply_bytes r)
reply_says r =
    client_own packet.DeviceReply (reply_bytes r) (written_packet packet.DeviceReply _) refl (host_says packet.DeviceReply (reply_bytes r)) refl
    (read_ok (λ (read : DeviceReply × Position). replies read.0) (met device_reply (at_start (reply_bytes r))) (reply_met r))

spelled_read : (n : Notice) → IsWritableNotice n → IsInRange n → is_ok (met notice (at_start (notice_bytes n))) ≡ true
spelled_read n writable range = let m = meets notice 0 (notice_bytes n) n 0 (message_spelled notice n (notice_bytes n) (notice_spelled n writable range)) in rw m.1 refl

notice_read : (n : Notice) → IsWritableNotice n → HasWholePort n → is_ok (met notice (at_start (notice_bytes n))) ≡ true
unfolding component_field header_among notice using_xps
notice_read (Add port pnp driver name config) writable whole = spelled_read (Add port pnp driver name config) writable whole
notice_read (Update name config) writable whole = spelled_read (Update name config) writable tt
notice_read (Delete name) writable whole = spelled_read (Delete name) writable tt
notice_read (Rename old new) writable whole = spelled_read (Rename old new) writable tt
notice_read (UsingXps printer flags) writable whole = refl

notice_own : (p : Packet) (n : Notice) (rest : List ℕ) → packet_in (notice_bytes n) ≡ Some p → from_known client_side client_state.Ready (notice_bytes n) p ≡ from_own client_side (host_says p (notice_bytes n))
    → host_says p (notice_bytes n) ≡ read_as (λ (read : Notice × Position). notices read.0) (met notice (at_start (notice_bytes n))) → IsWritableNotice n → HasWholePort n → SaysToClient (notice_bytes n)
notice_own p n rest named own is writable whole =
    client_own p (notice_bytes n) named own (read_as (λ (read : Notice × Position). notices read.0) (met notice (at_start (notice_bytes n)))) is
    (read_ok (λ (read : Notice × Position). notices read.0) (met notice (at_start (notice_bytes n))) (notice_read n writable whole))

pub notice_says : (n : Notice) → IsWritableNotice n → HasWholePort n → SaysToClient (notice_bytes n)
notice_says (Add port pnp driver name config) writable whole = notice_own packet.PrinterCacheData (Add port pnp driver name config) [] (written_packet packet.PrinterCacheData _) refl refl writable whole
notice_says (Update name config) writable whole = notice_own packet.PrinterCacheData (Update name config) [] (written_packet packet.PrinterCacheData _) refl refl writable whole
notice_says (Delete name) writable whole = notice_own packet.PrinterCacheData (Delete name) [] (written_packet packet.PrinterCacheData _) refl refl writable whole
notice_says (Rename old new) writable whole = notice_own packet.PrinterCacheData (Rename old new) [] (written_packet packet.PrinterCacheData _) refl refl writable whole
notice_says (UsingXps printer flags) writable whole = notice_own packet.PrinterUsingXps (UsingXps printer flags) [] (written_packet packet.PrinterUsingXps _) refl refl writable whole

head_packet : (bytes : List ℕ) (x : RequestHead × Position) → met request_head (at_start bytes) ≡ Ok x → packet_in bytes ≡ Some packet.IoRequest
unfolding request_head
head_packet bytes x e = let first = and_then_ok (met (header packet.IoRequest) (at_start bytes)) _ x e in after_header packet.IoRequest bytes first.0 first.1

-- a request that is spelled has its head
pub request_met : (m : List ℕ) (r : Request) → request_in m ≡ Some r → (x : RequestHead × Position) × (met request_head (at_start m) ≡ Ok x)
request_met m r is = go (met request_head (at_start m)) refl
  where
    go : (x : Result (RequestHead × Position) Bad) → met request_head (at_start m) ≡ x → (x : RequestHead × Position) × (met request_head (at_start m) ≡ Ok x)
    go (Ok x) e = (x, e)
    go (Err bad) e = let none : request_in m ≡ None = rw e refl in absurd (cc (none, is))

pub request_says : (m : List ℕ) (r : Request) → request_in m ≡ Some r → SaysToClient m
request_says m r is =
    let (x, e) = request_met m r is in
    client_own packet.IoRequest m (head_packet m x e) refl (Ok (from_head x)) (ap (read_as from_head) e) refl

-- ---- what a client writes

-- what begins with the head of a completion
pub completion_says : (m : List ℕ) → is_ok (met completion_head (at_start m)) ≡ true → SaysToHost m
completion_says m ok =
    host_own packet.IoCompletion m (named (met completion_head (at_start m)) refl ok) refl (client_says packet.IoCompletion m) refl
    (read_ok (λ (read : Head × Position). act.Complete read.0 (read.1).left) (met completion_head (at_start m)) ok)
  where
    named : (r : Result (Head × Position) Bad) → met completion_head (at_start m) ≡ r → is_ok r ≡ true → packet_in m ≡ Some packet.IoCompletion
    named (Ok x) e ok = let own : head_in m ≡ Some x.0 = rw e refl in head_is m x.0 own
    named (Err bad) e ok = absurd (cc ok)

removal_ok : (device : ℕ) → is_ok (met removal (at_start (removal_bytes (device ∷ [])))) ≡ true
unfolding removal header component_field count_to counted
removal_ok device = refl

pub removal_says : (device : ℕ) → SaysToHost (removal_bytes (device ∷ []))
removal_says device =
    let m : List ℕ = removal_bytes (device ∷ []) in
    host_own packet.DeviceListRemove m (written_packet packet.DeviceListRemove _) refl (client_says packet.DeviceListRemove m) refl
    (read_ok (λ (read : List ℕ × Position). act.Removed read.0) (met removal (at_start m)) (removal_ok device))

spelled_each : (list : List Announce) → AllByRecursion IsWritableDevice list → All HasCountableBody list → AllByRecursion (λ a. IsSpelling announce a (announce_bytes a)) list
spelled_each [] writable countable = tt
spelled_each (a ∷ list) writable countable =
    (announce_spelled a writable.0.0 writable.0.1 writable.0.2 (countable 0 a (omega arith)), spelled_each list writable.1 (All-tail HasCountableBody a list countable))

list_ok : (list : List Announce) → length list ≤ max_devices → AllByRecursion IsWritableDevice list → All HasCountableBody list → is_ok (met device_list (at_start (list_bytes list))) ≡ true
list_ok list few writable countable =
    let each : AreSpelled announce announce_bytes list = record { each = spelled_each list writable countable } in
    let s = list_spelled list (counted_spelled announce announce_bytes list max_devices (omega (arith, few)) few (times_spelled announce announce_bytes list each)) in
    let m = meets device_list 0 (list_bytes list) list 0 s in
    rw m.1 refl

pub list_says : (list : List Announce) → length list ≤ max_devices → AllByRecursion IsWritableDevice list → All HasCountableBody list → SaysToHost (list_bytes list)
list_says list few writable countable =
    let m : List ℕ = list_bytes list in
    host_own packet.DeviceListAnnounce m (written_packet packet.DeviceListAnnounce _) refl (client_says packet.DeviceListAnnounce m) refl
    (read_ok (λ (read : List Announce × Position). act.Announced read.0) (met device_list (at_start m)) (list_ok list few writable countable))
