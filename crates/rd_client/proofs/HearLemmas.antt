-- What comes of a message that comes to a client's end, by its packet.
use Rattle.std.proofs.Common.{◌≡◌, ◌∙◌, refl, sym, ap, subst, ℕ, ◌+◌, ◌≤◌, List, [], ◌∷◌, ◌++◌, length, Bool, true, false, Some, None, Option, Result, Ok, Err, lit≤, zero-add}
use Rattle.std.specs.Prelude.{IfSome, IsFalse, IsTrue, OnErr, OnOk, filter, map}
use Rattle.std.specs.Option.{option_map, option_to_list}
use Rattle.std.proofs.lemmas.List.{append-nil}
use Rattle.std.proofs.lemmas.List.Elements.{All-cons, All-nil}
use Rattle.rd_base.specs.declared.bad.Bad.{Bad}
use Rattle.rd_base.specs.declared.packet.Packet.{Packet}
use Rattle.rd_base.specs.declared.packet.Packet.TheVariants as packet
use Rattle.rd_base.specs.Layout.{met}
use Rattle.rd_base.specs.Position.{Position, at_start}
use Rattle.rd_base.specs.Reading.{WithTail}
use Rattle.rd_base.proofs.LayoutLemmas.{again, meets}
use Rattle.rd_base.proofs.ResultLemmas.{and_then_ok, ok_one}
use Rattle.std.specs.declared.alloc.AllocError.{AllocError}
use Rattle.rd_chunk.specs.Carrier.{IsMessage}
use Rattle.rd_core.specs.Core.{CoreState, Did, with_message}
use Rattle.rd_core.specs.Hearing.{MayLack, after_row, by_row, hear, hear_said, is_hello, is_read_in, read_as}
use Rattle.rd_core.specs.Expected.{IsComing, opening_asks_at}
use Rattle.rd_core.proofs.ExpectedLemmas.{held_heard}
use Rattle.rd_core.proofs.HearLemmas.{opening_heard, opening_lacks, opening_lacks_after, own_heard, own_lacks, row_opened}
use Rattle.rd_devices.specs.declared.reply.DeviceReply.{DeviceReply}
use Rattle.rd_devices.specs.DeviceList.{list_bytes}
use Rattle.rd_devices.specs.DeviceReply.{SpellsReply, device_reply}
use Rattle.rd_hello.specs.declared.capability.Cap.TheVariants as cap
use Rattle.rd_hello.specs.declared.client.ClientState.{ClientState}
use Rattle.rd_hello.specs.declared.client.ClientState.TheVariants.{Confirmed, Named, Offered, Ready, Start, Waiting}
use Rattle.rd_hello.specs.declared.end_fault.EndFault.{EndFault}
use Rattle.rd_hello.specs.declared.end_fault.EndFault.TheVariants.{Grammar, Memory, Order}
use Rattle.rd_hello.specs.declared.hello.Hello.{Hello}
use Rattle.rd_hello.specs.declared.hello.Hello.TheVariants.{Announce as Announced, Confirm, LoggedOn, ServerCaps}
use Rattle.rd_hello.specs.Capability.{IsWritableSet}
use Rattle.rd_hello.specs.ClientTable.{client_step}
use Rattle.rd_hello.specs.Hello.{FirstFaultOfHello, IsWritableHello, hello, hello_bytes}
use Rattle.rd_hello.specs.Moves.{packet_in}
use Rattle.rd_hello.specs.Own.{client_sets, own_general}
use Rattle.rd_hello.specs.Rows.{OrderRow}
use Rattle.rd_irp.specs.declared.op.Op.{Op}
use Rattle.rd_irp.specs.declared.op.Op.TheVariants.{Malformed}
use Rattle.rd_irp.specs.declared.request.Request.{Request}
use Rattle.rd_irp.specs.declared.request.RequestHead.{RequestHead}
use Rattle.rd_irp.specs.Request.{SpellsRequest, body_after, request_head, SpellsWith, whole_request}
use Rattle.rd_printer.specs.declared.notice.Notice.{Notice}
use Rattle.rd_printer.specs.Notice.{FirstFaultOfNotice, SpellsNotice, notice}
use Rattle.rd_client.specs.declared.heard.Came.{Came}
use Rattle.rd_client.specs.declared.heard.Came.TheVariants as came
use Rattle.rd_client.specs.Core.{ClientCoreState, ClientDevice, HostSays, IsClientKept, Outgoing, announce_in, becomes_ready, client_asks_at, client_hear, client_hear_made, client_opened, client_side, from_head, host_says, is_present, notices, op_read, plain, replies, request_with_head, requests, with_outgoing}
use Rattle.rd_client.specs.declared.heard.Heard.{Heard}
use Rattle.rd_client.specs.declared.heard.Heard.TheVariants as heard
use Rattle.rd_client.specs.Heard.{ClientEndHears, EndGoesOn, IsNotice, first_list}
use Rattle.rd_client.proofs.KeptLemmas.{kept_elsewhere, kept_heard, kept_written}

abbrev End : Type 0
End = CoreState ClientState Outgoing

-- a client with this end
abbrev with_end : List ClientDevice → ℕ → ℕ → End → ClientCoreState
with_end devices channel asked end = record { core = end; channel = channel; asked = asked; devices = devices }

-- ---- the answer

lacked : (devices : List ClientDevice) (old : End) (message : List ℕ) → MayLack client_side old message → ClientEndHears devices old message (Err Memory) old
lacked devices old message lack = (lack, refl)

request_heard : (old : End) (message : List ℕ) (r : Request) → hear client_side old message ≡ (old, Ok (Some (requests r))) → (devices : List ClientDevice) → ClientEndHears devices old message (Ok (came.Ask r)) old
request_heard old message r e devices = λ channel asked. ap (λ x. client_hear_made (with_end devices channel asked old) x) e

reply_heard : (old : End) (message : List ℕ) (r : DeviceReply) → hear client_side old message ≡ (old, Ok (Some (replies r))) → (devices : List ClientDevice) → ClientEndHears devices old message (Ok came.Nothing) old
reply_heard old message r e devices = λ channel asked. ap (λ x. client_hear_made (with_end devices channel asked old) x) e

notice_heard : (old : End) (message : List ℕ) (n : Notice) → hear client_side old message ≡ (old, Ok (Some (notices n))) → (devices : List ClientDevice) → ClientEndHears devices old message (Ok (came.Print n)) old
notice_heard old message n e devices = λ channel asked. ap (λ x. client_hear_made (with_end devices channel asked old) x) e

-- what is read has the fault of its layout
read_fault : {X : Type 0} (f : X × Position → HostSays) (r : Result (X × Position) Bad) (bad : Bad) → read_as f r ≡ Err bad → r ≡ Err bad
read_fault f (Ok read) bad e = absurd cc
read_fault f (Err other) bad e = let same : other ≡ bad = cc in ap (λ (d : Bad). Err d) same

-- ---- requests

-- a request whose body was read
whole_says : (message : List ℕ) (r : Request) (q : Position) → met whole_request (at_start message) ≡ Ok (r, q) → host_says packet.IoRequest message ≡ Ok (requests r)
unfolding whole_request
whole_says message r q e =
    let head = and_then_ok (met request_head (at_start message)) _ (r, q) e in
    let op = and_then_ok (met (body_after head.0.0) head.0.1) _ (r, q) head.2 in
    let first = head.1 in
    let second = op.1 in
    let same : ◌≡◌ {A = Request × Position} (record { device = head.0.0.device; file = head.0.0.file; completion = head.0.0.completion; op = op.0.0 }, op.0.1) (r, q) = ok_one _ _ _ refl op.2 in
    rw (first, second) (ap (λ (x : Request × Position). Ok (requests x.0)) same)

-- what the reader of requests says
request_says : (message : List ℕ) (r : Request) (tail : ℕ) → SpellsRequest r tail message → host_says packet.IoRequest message ≡ Ok (requests r)
request_says message r tail s = go r.op refl s
  where
    go : (op : Op) → r.op ≡ op → SpellsWith op r tail message → host_says packet.IoRequest message ≡ Ok (requests r)
    go (Malformed major minor bad) is s =
        let head : RequestHead = record { device = r.device; file = r.file; completion = r.completion; major = major; minor = minor } in
        ap (λ xs. read_as from_head (met request_head (at_start xs))) s.2 ∙ ap (λ x. read_as from_head x) (again request_head 0 head s.0 s.1 s.4)
        ∙ ap (λ k. Ok (requests (request_with_head head (op_read head (met (body_after head) (record { at = k; left = s.1 })))))) (zero-add (length s.0))
        ∙ ap (λ x. Ok (requests (request_with_head head (op_read head x)))) s.5
        ∙ ap (λ op. Ok (requests (record r { op = op }))) (sym is)
    go _ is s = let m = meets whole_request 0 message r tail s in whole_says message r m.0 m.1

pub asked : (old : End) (message : List ℕ) (r : Request) (count : ℕ) → IsComing client_side old message packet.IoRequest → WithTail count (λ tail. SpellsRequest r tail message)
    → (devices : List ClientDevice) → ClientEndHears devices old message (Ok (came.Ask r)) old
asked old message r count coming (tail, is, s) =
    request_heard old message r (own_heard client_side old message packet.IoRequest (Ok (requests r)) coming refl (request_says message r tail s))

pub request_lacks : (old : End) (message : List ℕ) → IsComing client_side old message packet.IoRequest → ((bad : Bad) → met request_head (at_start message) ≡ Err bad → 24 ≤ bad.at)
    → (devices : List ClientDevice) → ClientEndHears devices old message (Err Memory) old
request_lacks old message coming none devices =
    lacked devices old message (own_lacks client_side old message packet.IoRequest 24 coming refl refl (λ bad e. none bad (read_fault _ (met request_head (at_start message)) bad e)))

-- ---- replies to devices

pub replied : (old : End) (message : List ℕ) (r : DeviceReply) (count : ℕ) → IsComing client_side old message packet.DeviceReply → WithTail count (λ tail. SpellsReply r tail message)
    → (devices : List ClientDevice) → ClientEndHears devices old message (Ok came.Nothing) old
replied old message r count coming (tail, is, s) =
    let m = meets device_reply 0 message r tail s in
    let e = m.1 in
    reply_heard old message r (own_heard client_side old message packet.DeviceReply (Ok (replies r)) coming refl (rw e refl))

-- ---- notices

notice_of : (p : Packet) (message : List ℕ) → IsNotice p → (host_says p message ≡ read_as (λ (read : Notice × Position). notices read.0) (met notice (at_start message))) × IsFalse (is_hello p)
notice_of packet.PrinterCacheData message is = (refl, refl)
notice_of packet.PrinterUsingXps message is = (refl, refl)
notice_of _ message is = absurd is

notice_says : (old : End) (message : List ℕ) (p : Packet) (n : Notice) (rest : Position) → IsComing client_side old message p → IsNotice p → met notice (at_start message) ≡ Ok (n, rest)
    → (devices : List ClientDevice) → ClientEndHears devices old message (Ok (came.Print n)) old
notice_says old message p n rest coming is e =
    let own = notice_of p message is in
    notice_heard old message n (own_heard client_side old message p (Ok (notices n)) coming own.1 (own.0 ∙ ap (λ r. read_as (λ (read : Notice × Position). notices read.0) r) e))

pub noticed : (old : End) (message : List ℕ) (n : Notice) (count : ℕ) → (coming : (p : Packet) × IsComing client_side old message p × IsNotice p) → WithTail count (λ tail. SpellsNotice n tail message)
    → (devices : List ClientDevice) → ClientEndHears devices old message (Ok (came.Print n)) old
noticed old message n count (p, coming, notice_is) (tail, is, s) = let m = meets notice 0 message n tail s in notice_says old message p n m.0 coming notice_is m.1

pub noticed_whole : (old : End) (message : List ℕ) (n : Notice) → (coming : (p : Packet) × IsComing client_side old message p × IsNotice p)
    → (found : (rest : Position) × (met notice (at_start message) ≡ Ok (n, rest))) → (devices : List ClientDevice) → ClientEndHears devices old message (Ok (came.Print n)) old
noticed_whole old message n (p, coming, notice_is) (rest, e) = notice_says old message p n rest coming notice_is e

pub notice_lacks : (old : End) (message : List ℕ) → (coming : (p : Packet) × IsComing client_side old message p × IsNotice p)
    → ((p : Packet) → packet_in message ≡ Some p → (p ≡ packet.PrinterCacheData) × ((bad : Bad) → FirstFaultOfNotice message bad → 8 ≤ bad.at))
    → (devices : List ClientDevice) → ClientEndHears devices old message (Err Memory) old
notice_lacks old message (p, coming, notice_is) before devices =
    let found = before p coming.named in
    let own = notice_of p message notice_is in
    let asks : client_asks_at p ≡ Some 8 = ap client_asks_at found.0 in
    lacked devices old message (own_lacks client_side old message p 8 coming own.1 asks
    (λ bad e. found.1 bad (read_fault (λ (read : Notice × Position). notices read.0) (met notice (at_start message)) bad (sym own.0 ∙ e))))

-- ---- the opening

-- where a packet of the opening is read memory is asked for at its place
asks_opening : (state : ClientState) (p : Packet) → IsTrue (is_read_in client_side state p) → IsTrue (is_hello p) → client_asks_at p ≡ Some (opening_asks_at p)
asks_opening state packet.ServerAnnounce read is = refl
asks_opening state packet.ClientIdConfirm read is = refl
asks_opening state packet.ServerCapability read is = refl
asks_opening state packet.UserLoggedOn read is = refl
asks_opening Start _ read is = absurd cc
asks_opening Named _ read is = absurd cc
asks_opening Confirmed _ read is = absurd cc
asks_opening (Offered tells) _ read is = absurd cc
asks_opening Waiting packet.ClientName read is = absurd cc
asks_opening Waiting packet.ClientCapability read is = absurd cc
asks_opening Waiting _ read is = absurd cc
asks_opening Ready packet.ClientName read is = absurd cc
asks_opening Ready packet.ClientCapability read is = absurd cc
asks_opening Ready _ read is = absurd cc

pub opening_lacked : (devices : List ClientDevice) (old : End) (message : List ℕ) → (coming : (p : Packet) × IsComing client_side old message p × IsTrue (is_hello p))
    → ((p : Packet) → packet_in message ≡ Some p → (bad : Bad) → FirstFaultOfHello message bad → opening_asks_at p ≤ bad.at) → ClientEndHears devices old message (Err Memory) old
opening_lacked devices old message (p, coming, is) none =
    lacked devices old message (opening_lacks client_side old message p coming is (asks_opening old.shake p coming.read is) (none p coming.named))

-- a message of the opening that could not be answered
pub opening_failed : (devices : List ClientDevice) (old new : End) (message : List ℕ) (h : Hello) (fault : EndFault) → (coming : (p : Packet) × IsComing client_side old message p × IsTrue (is_hello p))
    → (found : (rest : Position) × (met hello (at_start message) ≡ Ok (h, rest))) → (fault ≡ Memory) × (new ≡ old) → ClientEndHears devices old message (Err fault) new
opening_failed devices old new message h fault (p, coming, hello_is) (rest, e) (is, stays) =
    rw (is, stays) (lacked devices old message (opening_lacks_after client_side old message p h rest coming hello_is (asks_opening old.shake p coming.read hello_is) e))

-- and one that was
pub opening_went : (devices : List ClientDevice) (old new : End) (message : List ℕ) (h : Hello) → (coming : (p : Packet) × IsComing client_side old message p × IsTrue (is_hello p))
    → (found : (rest : Position) × (met hello (at_start message) ≡ Ok (h, rest))) → EndGoesOn devices old (by_row client_side (client_step old.shake h)) new → ClientEndHears devices old message (Ok came.Nothing) new
opening_went devices old new message h (p, coming, is) (rest, e) goes =
    λ channel asked. ap (λ x. client_hear_made (with_end devices channel asked old) x) (opening_heard client_side old message p h rest coming is e) ∙ goes channel asked

-- a message that the table has no row for changes nothing
never_again : (state : ClientState) → becomes_ready state state ≡ false
never_again Start = refl
never_again Named = refl
never_again Confirmed = refl
never_again (Offered tells) = refl
never_again Waiting = refl
never_again Ready = refl

pub went_nowhere : (devices : List ClientDevice) (old : End) (h : Hello) → client_step old.shake h ≡ None → EndGoesOn devices old (by_row client_side (client_step old.shake h)) old
went_nowhere devices old h none =
    let never = never_again old.shake in
    λ channel asked. ap (λ row. client_hear_made (with_end devices channel asked old) (hear_said client_side old (by_row client_side row))) none ∙ rw never refl

abbrev ok_nothing : Result Heard EndFault
ok_nothing = Ok heard.Nothing

plainly : (h : Option Hello) → option_map plain (option_map hello_bytes h) ≡ option_map (λ h. plain (hello_bytes h)) h
plainly None = refl
plainly (Some h) = refl

pub went_on : (devices : List ClientDevice) (old new : End) (h : Hello) (first second : Option Hello) (next : ClientState) (f s list : Option Outgoing)
    → client_step old.shake h ≡ Some (record { first = first; second = second; next = next }) → f ≡ option_map plain (option_map hello_bytes first) → s ≡ option_map plain (option_map hello_bytes second)
    → list ≡ first_list devices (becomes_ready old.shake next)
    → new ≡ record old { shake = next; outbox = old.outbox ++ option_to_list f ++ option_to_list s ++ option_to_list list }
    → EndGoesOn devices old (by_row client_side (client_step old.shake h)) new
went_on devices old new h first second next f s list row f_is s_is list_is new_is channel count =
    ap (λ row. client_hear_made (with_end devices channel count old) (hear_said client_side old (by_row client_side row))) row
    ∙ go (becomes_ready old.shake next) refl list_is
  where
    after : End
    after = after_row client_side old (record { first = first; second = second; next = next })

    -- the end with these messages after those that it had
    ending : List Outgoing → End
    ending more = record old { shake = next; outbox = old.outbox ++ option_to_list f ++ option_to_list s ++ more }

    opened : ending [] ≡ after
    opened = row_opened client_side old (ending []) first second next f s (f_is ∙ plainly first) (s_is ∙ plainly second) refl

    outbox_is : after.outbox ≡ old.outbox ++ option_to_list f ++ option_to_list s
    outbox_is = sym (ap (λ (e : End). e.outbox) opened) ∙ append-nil (old.outbox ++ option_to_list f ++ option_to_list s)

    go : (b : Bool) → becomes_ready old.shake next ≡ b → list ≡ first_list devices b
        → ◌≡◌ {A = ClientCoreState × Result Heard EndFault} (client_opened (with_end devices channel count old) after, ok_nothing) (with_end devices channel count new, ok_nothing)
    go true e is =
        let m : Outgoing = plain (list_bytes (map announce_in (filter is_present devices))) in
        let made : record old { shake = next; outbox = after.outbox ++ m ∷ [] } ≡ new =
        ap (λ outbox. record old { shake = next; outbox = outbox ++ m ∷ [] }) outbox_is ∙ sym (new_is ∙ ap (λ l. ending (option_to_list l)) is) in
        rw e (ap (λ end. (with_end devices channel count end, ok_nothing)) made)
    go false e is =
        let made : after ≡ new = sym (new_is ∙ ap (λ l. ending (option_to_list l)) is ∙ opened) in
        rw e (ap (λ end. (with_end devices channel count end, ok_nothing)) made)

-- the messages of a row can be written
abbrev IsWritableRow : Option (OrderRow ClientState) → Type 0
IsWritableRow None = Unit {0}
IsWritableRow (Some row) = IfSome row.first IsWritableHello × IfSome row.second IsWritableHello

client_sets_writable : IsWritableHello client_sets
client_sets_writable = (
  lit≤ tt,
  All-cons IsWritableSet (cap.General (own_general 1)) (cap.Printer 1 ∷ cap.Drive 2 ∷ []) tt (All-cons IsWritableSet (cap.Printer 1) (cap.Drive 2 ∷ []) tt
      (All-cons IsWritableSet (cap.Drive 2) [] tt (All-nil IsWritableSet))),
)

row_writable : (state : ClientState) (h : Hello) → IsWritableRow (client_step state h)
row_writable Start (Announced v) = (tt, lit≤ tt)
row_writable Named (Confirm v) = (tt, tt)
row_writable Named (ServerCaps caps) = (tt, tt)
row_writable Confirmed (ServerCaps caps) = (client_sets_writable, tt)
row_writable (Offered tells) (Confirm v) = (client_sets_writable, tt)
row_writable Waiting LoggedOn = (tt, tt)
row_writable Ready LoggedOn = (tt, tt)
row_writable _ _ = tt

pub rows_writable : (state next : ClientState) (h : Hello) (first second : Option Hello) → client_step state h ≡ Some (record { first = first; second = second; next = next })
    → IfSome first IsWritableHello × IfSome second IsWritableHello
rows_writable state next h first second is = subst IsWritableRow is (row_writable state h)

-- ---- the whole client

-- what always holds is kept by what is heard
pub heard_kept : (devices : List ClientDevice) (channel count : ℕ) (old new : End) (message : List ℕ) (answer : Result Came EndFault) → IsClientKept (with_end devices channel count old)
    → ClientEndHears devices old message answer new → IsClientKept (with_end devices channel count new)
heard_kept devices channel count old new message (Err Memory) kept step = let stays = step.1 in rw stays kept
heard_kept devices channel count old new message (Err (Order state id)) kept step = subst (λ (x : ClientCoreState × Result Heard EndFault). IsClientKept x.0) (step channel count) (kept_heard (with_end devices channel count old) message kept)
heard_kept devices channel count old new message (Err (Grammar bad)) kept step = subst (λ (x : ClientCoreState × Result Heard EndFault). IsClientKept x.0) (step channel count) (kept_heard (with_end devices channel count old) message kept)
heard_kept devices channel count old new message (Ok came.Nothing) kept step = subst (λ (x : ClientCoreState × Result Heard EndFault). IsClientKept x.0) (step channel count) (kept_heard (with_end devices channel count old) message kept)
heard_kept devices channel count old new message (Ok (came.Print n)) kept step = subst (λ (x : ClientCoreState × Result Heard EndFault). IsClientKept x.0) (step channel count) (kept_heard (with_end devices channel count old) message kept)
heard_kept devices channel count old new message (Ok (came.Ask r)) kept step =
    kept_elsewhere (with_end devices channel (count + 1) new) channel count
    (subst (λ (x : ClientCoreState × Result Heard EndFault). IsClientKept x.0) (step channel count) (kept_heard (with_end devices channel count old) message kept))

-- a fault that is held is the answer
held_made : (devices : List ClientDevice) (old : End) (message : List ℕ) (held : EndFault) → old.fault ≡ Some held → client_hear (with_end devices 0 0 old) message ≡ (with_end devices 0 0 old, Err held)
held_made devices old message held e = ap (λ x. client_hear_made (with_end devices 0 0 old) x) (held_heard client_side old message held e)

pub end_held : (devices : List ClientDevice) (old new : End) (message : List ℕ) (fault : EndFault) → ClientEndHears devices old message (Err fault) new
    → IfSome old.fault (λ held. ◌≡◌ {A = Result Heard EndFault} (Err fault) (Err held))
end_held devices old new message fault step = go old.fault refl fault step
  where
    go : (o : Option EndFault) → old.fault ≡ o → (fault : EndFault) → ClientEndHears devices old message (Err fault) new → IfSome o (λ held. ◌≡◌ {A = Result Heard EndFault} (Err fault) (Err held))
    go None e fault step = tt
    go (Some held) e Memory step = let sound = step.0.sound in absurd cc
    go (Some held) e (Order state id) step = ap (λ (x : ClientCoreState × Result Heard EndFault). x.1) (sym (step 0 0) ∙ held_made devices old message held e)
    go (Some held) e (Grammar bad) step = ap (λ (x : ClientCoreState × Result Heard EndFault). x.1) (sym (step 0 0) ∙ held_made devices old message held e)

-- where a message is heard none is held
answer_in : (devices : List ClientDevice) (old new : End) (message : List ℕ) (c : Came) → ClientEndHears devices old message (Ok c) new → (h : Heard) × ((client_hear (with_end devices 0 0 old) message).1 ≡ Ok h)
answer_in devices old new message c step = (_, ap (λ (x : ClientCoreState × Result Heard EndFault). x.1) (step 0 0))

pub end_sound : (devices : List ClientDevice) (old new : End) (message : List ℕ) (c : Came) → ClientEndHears devices old message (Ok c) new → old.fault ≡ None
end_sound devices old new message c step = go old.fault refl (answer_in devices old new message c step)
  where
    go : (o : Option EndFault) → old.fault ≡ o → (h : Heard) × ((client_hear (with_end devices 0 0 old) message).1 ≡ Ok h) → o ≡ None
    go None e found = refl
    go (Some held) e (h, is) =
        let other : Err held ≡ Ok h = sym (ap (λ (x : ClientCoreState × Result Heard EndFault). x.1) (held_made devices old message held e)) ∙ is in
        absurd cc

-- so the answer is none that is held
pub sound_answer : (o : Option EndFault) (answer : Result Heard EndFault) → o ≡ None → IfSome o (λ held. answer ≡ Err held)
sound_answer o answer none = rw none tt

-- ---- what is put

pub put_did : (c : ClientCoreState) (m n : Outgoing) (new : End) (r : Result (Unit {0}) AllocError) → m ≡ n → OnOk r (new ≡ with_message c.core m) → OnErr r (new ≡ c.core)
    → Did r (with_outgoing c n) c (record c { core = new })
put_did c m n new (Ok u) same done stays = ap (λ (e : End). record c { core = e }) (done ∙ ap (λ o. with_message c.core o) same)
put_did c m n new (Err e) same done stays = ap (λ (e : End). record c { core = e }) stays

pub put_kept : (c : ClientCoreState) (m n : Outgoing) (new : End) (r : Result (Unit {0}) AllocError) → IsClientKept c → IsMessage n.message → m ≡ n → OnOk r (new ≡ with_message c.core m) → OnErr r (new ≡ c.core)
    → IsClientKept (record c { core = new })
put_kept c m n new (Ok u) kept fits same done stays = rw (done, same) (kept_written c n kept fits)
put_kept c m n new (Err e) kept fits same done stays = rw stays kept
