-- What the host told of printers and what waits to be told are the notices that are due, in order.
use Rattle.std.proofs.Common.{◌≡◌, ◌⊎◌, ◌∙◌, refl, sym, ap, subst, inl, inr, ℕ, ◌+◌, ◌<◌, ◌==◌, ◌||◌, Bool, true, false, not, arith, eq-eqb, eqb-true, List, [], ◌∷◌, ◌++◌, length, map, reverse, fold, Some, None, Option, Result, Ok, Err, append-nil, append_assoc, length-append, is_some}
use Rattle.std.specs.Prelude.{filter, if◌then◌else◌}
use Rattle.std.specs.List.{AllByRecursion, cons_option}
use Rattle.std.specs.Option.{option_map_or, option_to_list}
use Rattle.std.proofs.lemmas.List.Elements.{filter-append}
use Rattle.rd_base.specs.Header.{packet_id}
use Rattle.rd_base.specs.Layout.{met}
use Rattle.rd_base.specs.Position.{at_start}
use Rattle.rd_base.specs.Statuses.{not_supported}
use Rattle.rd_base.specs.declared.journal.Key.{Key}
use Rattle.rd_base.specs.declared.packet.Packet.{Packet}
use Rattle.rd_base.specs.declared.packet.Packet.TheVariants as packet
use Rattle.rd_base.specs.declared.status.Status.{Status}
use Rattle.rd_base.proofs.LayoutLemmas.{meets}
use Rattle.rd_base.proofs.SpellingLemmas.{message_spelled}
use Rattle.rd_rest.proofs.ControlsNumbers.{reverse_cons}
use Rattle.rd_core.specs.Hearing as hearing
use Rattle.rd_core.specs.Hearing.{Meaning, messages_of, nothing, opens, says, wrong}
use Rattle.rd_devices.specs.DeviceReply.{reply_bytes}
use Rattle.rd_devices.specs.declared.list.Announce.{Announce}
use Rattle.rd_drive.proofs.AllLemmas.{all_append}
use Rattle.rd_hello.specs.Hello.{hello_bytes}
use Rattle.rd_hello.specs.Moves.{packet_in}
use Rattle.rd_hello.specs.Own.{host_announce}
use Rattle.rd_hello.specs.declared.end_fault.EndFault.{EndFault}
use Rattle.rd_hello.specs.declared.hello.Hello.{Hello}
use Rattle.rd_hello.specs.declared.hello.Hello.TheVariants as hello
use Rattle.rd_hello.specs.declared.host.HostState.{HostState}
use Rattle.rd_host.specs.Core as host
use Rattle.rd_host.specs.Core.{HostCoreState, as_it_is, host_hear, host_hear_made, host_side}
use Rattle.rd_host.specs.Served.{is_served_type}
use Rattle.rd_host.specs.declared.act.Act.{Act}
use Rattle.rd_host.specs.declared.act.Act.TheVariants as act
use Rattle.rd_rest.proofs.JournalsChannelLemmas.{all_refreshed, begun_on}
use Rattle.rd_pending.proofs.Tame.{newest}
use Rattle.rd_pending.specs.Outcomes.{Accepted}
use Rattle.rd_pending.specs.Table as table
use Rattle.rd_pending.specs.Table.{TableState}
use Rattle.rd_pending.specs.declared.calls.LiveNo.{LiveNo}
use Rattle.rd_printer.specs.Notice.{HasWholePort, IsWritableNotice, notice, notice_bytes}
use Rattle.rd_printer.specs.declared.notice.Notice.{Notice}
use Rattle.rd_printer.proofs.NoticeLemmas.{IsInRange, notice_spelled}
use Rattle.rd_rest.proofs.RunsAskedLemmas.{tellable_lines}
use Rattle.rd_rest.proofs.RunsHostLemmas.{IsHostOf, host_channel, sending_opens}
use Rattle.rd_rest.proofs.RunsInsides.{AreOwn, IsInside, Outside, added_inside, all_dropped_inside, applied_inside, hears_inside, put_inside, removed_inside, stationed}
use Rattle.rd_rest.proofs.RunsParts.{IsBehind, MayBe, Part, accepts, adds_one, applies_one, begins, by_parts, client_gets, client_hears_one, client_keeps_part, client_sends_one, collects_one, done, draws_one, ends, hands_out, host_gets, host_hears_one, host_keeps_part, host_sends_one, idle_one, queues_one, refuses, removes_one, takes_one, tells_one, tries_one}
use Rattle.rd_rest.proofs.RunsStanding.{Stands, needs_open, shut_now}
use Rattle.rd_rest.proofs.RunsTogether.{knows}
use Rattle.rd_rest.specs.RunsPremises.{RunPremises}
use Rattle.rd_script.specs.declared.line.Line.{Line}
use Rattle.rd_script.specs.declared.line.Line.TheVariants as line
use Rattle.rd_script.specs.declared.line.NumberedLine.{NumberedLine}
use Rattle.rd_station.specs.Station.{StationState}
use Rattle.rd_world.proofs.BeginningLemmas.{begun_by}
use Rattle.rd_deeds.proofs.Messages.{packet_is, request_is, written_packet}
use Rattle.rd_world.proofs.OpeningLemmas.{lines_begin}
use Rattle.rd_deeds.proofs.Written.{Matches, Written, requests_on, written}
use Rattle.rd_deeds.specs.Joining.{accepted, request_of_accepted}
use Rattle.rd_world.specs.Acts.{notices_on}
use Rattle.rd_declared.specs.Devices.{PrinterNames}
use Rattle.rd_world.specs.Events.{completion_message, dropping, is_channel_open, telling_of}
use Rattle.rd_deeds.specs.Host.{HostSide, admits, forgets, hears, host_heard, live_code, lived, next_message, sent_from, side_sends}
use Rattle.rd_world.specs.Noting.{IsTellable}
use Rattle.rd_world.specs.Recording.{client_id}
use Rattle.rd_world.specs.Run.{notice_of}
use Rattle.rd_deeds.specs.Talk.{Deed, adds, client_reads, client_writes, completes, has_ended, host_begins, host_ends, host_reads, host_writes, host_wrote, is_open_at, is_request, notice_in, on, open_channel, removes, stores, submits, takes, tells}
use Rattle.rd_world.specs.Hearing.{with_client}
use Rattle.rd_world.specs.World.{WorldState, client_sends, host_sends, with_deed, with_station}
use Rattle.rd_declared.specs.declared.device.SessionDevice.{SessionDevice}
use Rattle.rd_acted.proofs.NoticeLemmas.{is_printing, no_notice}
use Rattle.rd_acted.proofs.SayingLemmas.{say_both, say_fewer, say_more, say_none}
use Rattle.rd_acted.specs.Acted.{SayFirst, notices_due}
use Rattle.rd_acted.specs.Waiting.{is_noted, notices_waiting}

-- ---- messages

abbrev pub AreUnnotedMessages : List (List ℕ) → Type 0
AreUnnotedMessages ms = AllByRecursion (λ (m : List ℕ). notice_in m ≡ None) ms

hello_unnoted : (x : Hello) → notice_in (hello_bytes x) ≡ None
hello_unnoted (hello.Announce v) = no_notice packet.ServerAnnounce _ (written_packet packet.ServerAnnounce _) refl
hello_unnoted (hello.Confirm v) = no_notice packet.ClientIdConfirm _ (written_packet packet.ClientIdConfirm _) refl
hello_unnoted (hello.Name a b c) = no_notice packet.ClientName _ (written_packet packet.ClientName _) refl
hello_unnoted (hello.ServerCaps caps) = no_notice packet.ServerCapability _ (written_packet packet.ServerCapability _) refl
hello_unnoted (hello.ClientCaps caps) = no_notice packet.ClientCapability _ (written_packet packet.ClientCapability _) refl
hello_unnoted hello.LoggedOn = no_notice packet.UserLoggedOn _ (written_packet packet.UserLoggedOn _) refl

hellos_unnoted : (xs : List Hello) → AreUnnotedMessages (map as_it_is (map hello_bytes xs))
hellos_unnoted [] = tt
hellos_unnoted (x ∷ xs) = (hello_unnoted x, hellos_unnoted xs)

reply_unnoted : (device : ℕ) (code : Status) → notice_in (reply_bytes (record { id = device; code = code })) ≡ None
reply_unnoted device code = no_notice packet.DeviceReply (reply_bytes (record { id = device; code = code })) (written_packet packet.DeviceReply _) refl

request_unnoted : (m : List ℕ) → is_request m ≡ true → notice_in m ≡ None
request_unnoted m is = by (packet_in m) refl
  where
    apart : (p : Packet) → (packet_id p == packet_id packet.IoRequest) ≡ true → is_printing p ≡ false
    apart packet.PrinterCacheData e = absurd (cc e)
    apart packet.PrinterUsingXps e = absurd (cc e)
    apart p e = refl

    by : (o : Option Packet) → packet_in m ≡ o → notice_in m ≡ None
    by None e = let off : is_request m ≡ false = rw e refl in absurd (cc (is, off))
    by (Some p) e = no_notice p m e (apart p (sym (packet_is p packet.IoRequest m e) ∙ is))

told_noted : (n : Notice) → IsWritableNotice n → IsInRange n → notice_in (notice_bytes n) ≡ Some n
told_noted n writable range =
    let m = meets notice 0 (notice_bytes n) n 0 (message_spelled notice n (notice_bytes n) (notice_spelled n writable range)) in
    let is : met notice (at_start (notice_bytes n)) ≡ Ok (n, m.0) = m.1 in
    rw is refl

noted_more : (ms more : List (List ℕ)) → AreUnnotedMessages more → notices_waiting (ms ++ more) ≡ notices_waiting ms
noted_more ms more all = filter-append is_noted ms more ∙ ap (λ (xs : List (List ℕ)). notices_waiting ms ++ xs) (none more all) ∙ append-nil (notices_waiting ms)
  where
    none : (xs : List (List ℕ)) → AreUnnotedMessages xs → notices_waiting xs ≡ []
    none [] each = refl
    none (x ∷ xs) each = rw each.0 (none xs each.1)

-- ---- what a host hears

pub record HostAdds (s t : HostSide) : Type 0 where
  pub others : List (List ℕ)
  pub quiet : AreUnnotedMessages others
  pub outbox : ((t.core).core).outbox ≡ ((s.core).core).outbox ++ others

adds_none : (s t : HostSide) → ((t.core).core).outbox ≡ ((s.core).core).outbox → HostAdds s t
adds_none s t same = record { others = []; quiet = tt; outbox = same ∙ sym (append-nil ((s.core).core).outbox) }

adds_by : (s t u : HostSide) → HostAdds s t → HostAdds t u → HostAdds s u
adds_by s t u one two = record {
  others = one.others ++ two.others;
  quiet = all_append (λ (m : List ℕ). notice_in m ≡ None) one.others two.others one.quiet two.quiet;
  outbox = two.outbox ∙ ap (λ (ms : List (List ℕ)). ms ++ two.others) one.outbox ∙ append_assoc ((s.core).core).outbox one.others two.others;
}

admitted_adds : (s : HostSide) (a : Announce) → HostAdds s (admits s a)
admitted_adds s a = by (is_served_type a.kind)
  where
    live : (r : TableState × Result ℕ LiveNo) → HostAdds s (lived s a.id r)
    live (after, life) = record { others = reply_bytes (record { id = a.id; code = live_code life }) ∷ []; quiet = (reply_unnoted a.id (live_code life), tt); outbox = refl }

    by : (b : Bool) → HostAdds s (if b then lived s a.id (table.live s.table a.id) else record s { core = host.reply s.core a.id not_supported })
    by true = live (table.live s.table a.id)
    by false = record { others = reply_bytes (record { id = a.id; code = not_supported }) ∷ []; quiet = (reply_unnoted a.id not_supported, tt); outbox = refl }

all_admitted : (devices : List Announce) (s : HostSide) → HostAdds s (fold admits s devices)
all_admitted [] s = adds_none s s refl
all_admitted (a ∷ devices) s = adds_by s (admits s a) _ (admitted_adds s a) (all_admitted devices (admits s a))

all_forgotten : (ids : List ℕ) (s : HostSide) → HostAdds s (fold forgets s ids)
all_forgotten [] s = adds_none s s refl
all_forgotten (id ∷ ids) s = adds_by s (forgets s id) _ (adds_none s (forgets s id) refl) (all_forgotten ids (forgets s id))

acted_adds : (s : HostSide) (r : Result Act EndFault) → HostAdds s (host_heard s r)
acted_adds s (Err fault) = adds_none s s refl
acted_adds s (Ok act.Nothing) = adds_none s s refl
acted_adds s (Ok (act.Announced devices)) = all_admitted devices s
acted_adds s (Ok (act.Removed ids)) = all_forgotten ids s
acted_adds s (Ok (act.Complete head bytes)) = adds_none s _ refl

heard_adds : (s : HostSide) (m : List ℕ) → HostAdds s (record s { core = (host_hear s.core m).0 })
heard_adds s m = by ((s.core).core).fault
  where
    meaning : (k : Meaning HostState Act) → HostAdds s (record s { core = (host_hear_made s.core (hearing.hear_said host_side (s.core).core k)).0 })
    meaning (wrong fault) = adds_none s _ refl
    meaning nothing = adds_none s _ refl
    meaning (opens row) = record { others = map as_it_is (messages_of row); quiet = hellos_unnoted (option_to_list row.first ++ option_to_list row.second); outbox = refl }
    meaning (says a) = adds_none s _ refl

    by : (f : Option EndFault) → HostAdds s (record s { core = (host_hear_made s.core (hearing.hear_unless host_side (s.core).core m f)).0 })
    by (Some fault) = adds_none s _ refl
    by None = meaning (hearing.said host_side ((s.core).core).shake m)

pub hears_adds : (s : HostSide) (m : List ℕ) → HostAdds s (hears s m)
hears_adds s m = let r = host_hear s.core m in let x : HostSide = record s { core = r.0 } in adds_by s x (hears s m) (heard_adds s m) (acted_adds x r.1)

-- ---- what the host sends of its table is a request

first_request : (xs : List Accepted) (before : List (List ℕ)) (m : List ℕ) (ms : List (List ℕ)) → Matches xs (before ++ m ∷ ms) → is_request m ≡ true
first_request [] [] m ms p = absurd p
first_request [] (b ∷ bs) m ms p = absurd p
first_request (x ∷ xs) [] m ms p = request_is m (request_of_accepted x) p.0
first_request (x ∷ xs) (b ∷ bs) m ms p = first_request xs bs m ms p.1

pub table_next : (s : HostSide) (c : ℕ) (deeds : List Deed) (m : List ℕ) → IsHostOf s c deeds → ((s.core).core).outbox ≡ [] → next_message s ≡ Some m → is_request m ≡ true
table_next s c deeds m h none next = by (s.table).outbox refl
  where
    opened : (s.table).channel ≡ Some c
    opened = host_channel s c deeds h ∙ sending_opens s c deeds h m next

    w : Written s.table (accepted client_id deeds) (requests_on c deeds) c
    w = subst (λ (x : HostSide). Written x.table (accepted client_id deeds) (requests_on c deeds) c) h.is (written client_id deeds h.may c)

    by : (o : List (List ℕ)) → (s.table).outbox ≡ o → is_request m ≡ true
    by [] e = let nothing_is : next_message s ≡ None = rw (none, e) refl in absurd (cc (nothing_is, next))
    by (x ∷ xs) e =
        let first : next_message s ≡ Some x = rw (none, e) refl in
        let same : x ≡ m = cc (first, next) in
        first_request (newest c (accepted client_id deeds)) (reverse xs) m (requests_on c deeds)
        (subst (λ (ms : List (List ℕ)). Matches (newest c (accepted client_id deeds)) ms) (ap (λ (ms : List (List ℕ)). ms ++ requests_on c deeds) (w.in_outbox opened ∙ ap reverse e ∙ reverse_cons x xs ∙ ap (λ (k : List ℕ). reverse xs ++ k ∷ []) same) ∙ append_assoc (reverse xs) (m ∷ []) (requests_on c deeds)) w.matches)

-- ---- deeds by which nothing is told of printers, and nothing due

abbrev IsUnnoted : Deed → Type 0
IsUnnoted (host_begins channel) = ⊥
IsUnnoted (host_ends channel) = ⊥
IsUnnoted (host_writes channel message) = ⊥
IsUnnoted (tells n) = ⊥
IsUnnoted deed = Unit {0}

abbrev AreUnnoted : List Deed → Type 0
AreUnnoted deeds = AllByRecursion IsUnnoted deeds

own_unnoted : (more : List Deed) → AreOwn more → AreUnnoted more
own_unnoted [] own = tt
own_unnoted (stores device item ∷ more) own = (tt, own_unnoted more own.1)
own_unnoted (removes device ∷ more) own = (tt, own_unnoted more own.1)
own_unnoted (adds device ∷ more) own = (tt, own_unnoted more own.1)
own_unnoted (deed ∷ more) own = absurd own.0

record LeftNoted (old new : List Deed) : Type 0 where
  told : (c : ℕ) → notices_on c new ≡ notices_on c old
  due : (c : ℕ) → notices_due c new ≡ notices_due c old
  opened : open_channel new ≡ open_channel old
  ended : (c : ℕ) → has_ended c new ≡ has_ended c old

left_one : (x : Deed) (deeds : List Deed) → IsUnnoted x → LeftNoted deeds (x ∷ deeds)
left_one (host_begins channel) deeds off = absurd off
left_one (host_ends channel) deeds off = absurd off
left_one (host_writes channel message) deeds off = absurd off
left_one (tells n) deeds off = absurd off
left_one x deeds off = record { told = λ c. refl; due = λ c. refl; opened = refl; ended = λ c. refl }

left_all : (more deeds : List Deed) → AreUnnoted more → LeftNoted deeds (more ++ deeds)
left_all [] deeds off = record { told = λ c. refl; due = λ c. refl; opened = refl; ended = λ c. refl }
left_all (x ∷ more) deeds off =
    let one = left_one x (more ++ deeds) off.0 in
    let all = left_all more deeds off.1 in
    record { told = λ c. one.told c ∙ all.told c; due = λ c. one.due c ∙ all.due c; opened = one.opened ∙ all.opened; ended = λ c. one.ended c ∙ all.ended c }

-- ---- the invariant

abbrev pub SaysNotice : Notice → List ℕ → Type 0
SaysNotice n message = message ≡ notice_bytes n

-- What was told of printers on a channel says what was due there first. On the channel that began last that and what waits does, all that is due there while the channel is open.
pub record NoticesAs (w : WorldState) : Type 0 where
  pub each : (c : ℕ) → SayFirst SaysNotice (notices_on c w.deeds) (notices_due c w.deeds)
  pub now : SayFirst SaysNotice (notices_on w.channels w.deeds ++ notices_waiting (((w.side).core).core).outbox) (notices_due w.channels w.deeds)
  pub all : open_channel w.deeds ≡ Some w.channels → length (notices_on w.channels w.deeds ++ notices_waiting (((w.side).core).core).outbox) ≡ length (notices_due w.channels w.deeds)
  pub above : (c : ℕ) → w.channels < c → notices_due c w.deeds ≡ []
  pub over : (c : ℕ) → (notices_due c w.deeds ≡ []) ⊎ ((has_ended c w.deeds ≡ true) ⊎ (open_channel w.deeds ≡ Some c))

-- The second world is what is left of the first by something by which the host tells nothing of printers.
record Unnoted (w v : WorldState) : Type 0 where
  more : List Deed
  silent : AreUnnoted more
  deeds : v.deeds ≡ more ++ w.deeds
  adds : HostAdds w.side v.side
  channels : v.channels ≡ w.channels

inside_unnoted : (w v : WorldState) → IsInside w v → Unnoted w v
inside_unnoted w v i = record {
  more = i.more;
  silent = own_unnoted i.more i.own;
  deeds = i.deeds;
  adds = adds_none w.side v.side (ap (λ (o : Outside). ((o.side).core).core.outbox) i.same);
  channels = ap (λ (o : Outside). o.channels) i.same;
}

unnoted_by : (w x y : WorldState) → Unnoted w x → Unnoted x y → Unnoted w y
unnoted_by w x y one two = record {
  more = two.more ++ one.more;
  silent = all_append IsUnnoted two.more one.more two.silent one.silent;
  deeds = two.deeds ∙ ap (λ (ds : List Deed). two.more ++ ds) one.deeds ∙ sym (append_assoc two.more one.more w.deeds);
  adds = adds_by w.side x.side y.side one.adds two.adds;
  channels = two.channels ∙ one.channels;
}

unnoted_notices : (w v : WorldState) → Unnoted w v → NoticesAs w → NoticesAs v
unnoted_notices w v u is = record {
  each = λ c. subst (λ (ms : List (List ℕ)). SayFirst SaysNotice ms (notices_due c v.deeds)) (sym (left.told c)) (subst (λ (ts : List Notice). SayFirst SaysNotice (notices_on c w.deeds) ts) (sym (left.due c)) (is.each c));
  now = subst (λ (ms : List (List ℕ)). SayFirst SaysNotice ms (notices_due v.channels v.deeds)) (sym now_same) (subst (λ (ts : List Notice). SayFirst SaysNotice (notices_on w.channels w.deeds ++ notices_waiting (((w.side).core).core).outbox) ts) (sym due_same) is.now);
  all = λ opened. ap length now_same ∙ is.all (sym left.opened ∙ opened ∙ ap (λ (n : ℕ). Some n) u.channels) ∙ ap length (sym due_same);
  above = λ c higher. left.due c ∙ is.above c (subst (λ (n : ℕ). n < c) u.channels higher);
  over = λ c. elim (is.over c) [
    | inl none ↦ inl (left.due c ∙ none)
    | inr (inl ended) ↦ inr (inl (left.ended c ∙ ended))
    | inr (inr opened) ↦ inr (inr (left.opened ∙ opened))
  ];
}
  where
    left : LeftNoted w.deeds v.deeds
    left = subst (LeftNoted w.deeds) (sym u.deeds) (left_all u.more w.deeds u.silent)

    now_same : notices_on v.channels v.deeds ++ notices_waiting (((v.side).core).core).outbox ≡ notices_on w.channels w.deeds ++ notices_waiting (((w.side).core).core).outbox
    now_same =
        ap (λ (n : ℕ). notices_on n v.deeds ++ notices_waiting (((v.side).core).core).outbox) u.channels ∙ ap (λ (ms : List (List ℕ)). ms ++ notices_waiting (((v.side).core).core).outbox) (left.told w.channels)
        ∙ ap (λ (ms : List (List ℕ)). notices_on w.channels w.deeds ++ notices_waiting ms) u.adds.outbox ∙ ap (λ (ms : List (List ℕ)). notices_on w.channels w.deeds ++ ms) (noted_more (((w.side).core).core).outbox u.adds.others u.adds.quiet)

    due_same : notices_due v.channels v.deeds ≡ notices_due w.channels w.deeds
    due_same = ap (λ (n : ℕ). notices_due n v.deeds) u.channels ∙ left.due w.channels

-- ---- the host writes

wrote_more : (c channel : ℕ) (m : List ℕ) (deeds : List Deed) → notices_on c (host_writes channel m ∷ deeds) ≡ notices_on c deeds ++ filter is_noted (cons_option (on c channel m) [])
wrote_more c channel m deeds = by (on c channel m)
  where
    by : (o : Option (List ℕ)) → filter is_noted (reverse (cons_option o (host_wrote c deeds))) ≡ filter is_noted (reverse (host_wrote c deeds)) ++ filter is_noted (cons_option o [])
    by None = sym (append-nil (filter is_noted (reverse (host_wrote c deeds))))
    by (Some x) = ap (filter is_noted) (reverse_cons x (host_wrote c deeds)) ∙ filter-append is_noted (reverse (host_wrote c deeds)) (x ∷ [])

own_wrote : (c : ℕ) (m : List ℕ) (deeds : List Deed) → notices_on c (host_writes c m ∷ deeds) ≡ notices_on c deeds ++ filter is_noted (m ∷ [])
own_wrote c m deeds = wrote_more c c m deeds ∙ ap (λ (b : Bool). notices_on c deeds ++ filter is_noted (cons_option (if b then Some m else None) [])) (eq-eqb c c refl)

other_wrote : (c channel : ℕ) (m : List ℕ) (deeds : List Deed) → (channel == c) ≡ false → notices_on c (host_writes channel m ∷ deeds) ≡ notices_on c deeds
other_wrote c channel m deeds apart =
    wrote_more c channel m deeds ∙ ap (λ (b : Bool). notices_on c deeds ++ filter is_noted (cons_option (if b then Some m else None) [])) apart ∙ append-nil (notices_on c deeds)

-- what the host has to say then, and what it said, are the same in all
sent_now : (s : HostSide) (c : ℕ) (deeds : List Deed) (m : List ℕ) → IsHostOf s c deeds → next_message s ≡ Some m
    → notices_on c (host_writes c m ∷ deeds) ++ notices_waiting (((side_sends s).core).core).outbox ≡ notices_on c deeds ++ notices_waiting ((s.core).core).outbox
sent_now s c deeds m h next = by ((s.core).core).outbox refl
  where
    by : (o : List (List ℕ)) → ((s.core).core).outbox ≡ o → notices_on c (host_writes c m ∷ deeds) ++ notices_waiting (((side_sends s).core).core).outbox ≡ notices_on c deeds ++ notices_waiting ((s.core).core).outbox
    by [] e =
        let quiet : notice_in m ≡ None = request_unnoted m (table_next s c deeds m h e next) in
        let left_over : (((side_sends s).core).core).outbox ≡ ((s.core).core).outbox = ap (λ (ms : List (List ℕ)). ((sent_from s ms).core).core.outbox) e in
        ap (λ (ms : List (List ℕ)). notices_on c (host_writes c m ∷ deeds) ++ notices_waiting ms) left_over
        ∙ ap (λ (ms : List (List ℕ)). ms ++ notices_waiting ((s.core).core).outbox)
        (own_wrote c m deeds ∙ ap (λ (o : Option Notice). notices_on c deeds ++ (if is_some o then m ∷ [] else [])) quiet ∙ append-nil (notices_on c deeds))
    by (x ∷ xs) e =
        let first : next_message s ≡ Some x = rw e refl in
        let same : x ≡ m = cc (first, next) in
        let left_over : (((side_sends s).core).core).outbox ≡ xs = rw e refl in
        ap (λ (ms : List (List ℕ)). notices_on c (host_writes c m ∷ deeds) ++ notices_waiting ms) left_over ∙ ap (λ (ms : List (List ℕ)). ms ++ notices_waiting xs) (own_wrote c m deeds)
        ∙ append_assoc (notices_on c deeds) (filter is_noted (m ∷ [])) (notices_waiting xs) ∙ ap (λ (ms : List (List ℕ)). notices_on c deeds ++ ms) (sym (filter-append is_noted (m ∷ []) xs))
        ∙ ap (λ (ms : List (List ℕ)). notices_on c deeds ++ notices_waiting ms) (ap (λ (k : List ℕ). k ∷ xs) (sym same) ∙ sym e)

sends_notices : (w : WorldState) (m : List ℕ) → Stands w → next_message w.side ≡ Some m → NoticesAs w → NoticesAs (host_sends (record w { side = side_sends w.side }) m)
sends_notices w m stands next is = record {
  each = λ c. by c (w.channels == c) refl;
  now = subst (λ (ms : List (List ℕ)). SayFirst SaysNotice ms (notices_due w.channels w.deeds)) (sym moved) is.now;
  all = λ opened. ap length moved ∙ is.all opened;
  above = is.above;
  over = is.over;
}
  where
    moved : notices_on w.channels (host_writes w.channels m ∷ w.deeds) ++ notices_waiting (((side_sends w.side).core).core).outbox ≡ notices_on w.channels w.deeds ++ notices_waiting (((w.side).core).core).outbox
    moved = sent_now w.side w.channels w.deeds m stands.host next

    by : (c : ℕ) (b : Bool) → (w.channels == c) ≡ b → SayFirst SaysNotice (notices_on c (host_writes w.channels m ∷ w.deeds)) (notices_due c w.deeds)
    by c true e =
        subst (λ (n : ℕ). SayFirst SaysNotice (notices_on n (host_writes w.channels m ∷ w.deeds)) (notices_due n w.deeds)) (eqb-true w.channels c e)
        (say_fewer SaysNotice (notices_on w.channels (host_writes w.channels m ∷ w.deeds)) (notices_waiting (((side_sends w.side).core).core).outbox) (notices_due w.channels w.deeds)
        (subst (λ (ms : List (List ℕ)). SayFirst SaysNotice ms (notices_due w.channels w.deeds)) (sym moved) is.now))
    by c false e = subst (λ (ms : List (List ℕ)). SayFirst SaysNotice ms (notices_due c w.deeds)) (sym (other_wrote c w.channels m w.deeds e)) (is.each c)

-- ---- the host tells of a printer

open_is : (c n : ℕ) (deeds : List Deed) → open_channel deeds ≡ Some n → is_open_at c deeds ≡ (n == c)
open_is c n deeds opened = ap (λ (o : Option ℕ). option_map_or (λ channel. channel == c) o false) opened

told_notices : (w : WorldState) (n : Notice) → open_channel w.deeds ≡ Some w.channels → notice_in (notice_bytes n) ≡ Some n → NoticesAs w → NoticesAs (telling_of w n)
told_notices w n opened spelled is = record {
  each = λ c. say_more SaysNotice (notices_on c w.deeds) (notices_due c w.deeds) (if is_open_at c w.deeds then n ∷ [] else []) (is.each c);
  now = subst (λ (ms : List (List ℕ)). SayFirst SaysNotice ms (notices_due w.channels (tells n ∷ w.deeds))) (sym now_is)
      (subst (λ (ts : List Notice). SayFirst SaysNotice ((notices_on w.channels w.deeds ++ notices_waiting (((w.side).core).core).outbox) ++ notice_bytes n ∷ []) ts) (sym due_is)
      (say_both SaysNotice (notices_on w.channels w.deeds ++ notices_waiting (((w.side).core).core).outbox) (notices_due w.channels w.deeds) (notice_bytes n) n (is.all opened) refl is.now));
  all = λ open_too.
      ap length now_is ∙ length-append (notices_on w.channels w.deeds ++ notices_waiting (((w.side).core).core).outbox) (notice_bytes n ∷ []) ∙ ap (λ (k : ℕ). k + 1) (is.all opened)
      ∙ sym (length-append (notices_due w.channels w.deeds) (n ∷ [])) ∙ ap length (sym due_is);
  above = λ c higher.
      ap (λ (b : Bool). notices_due c w.deeds ++ (if b then n ∷ [] else [])) (open_is c w.channels w.deeds opened ∙ apart w.channels c higher) ∙ append-nil (notices_due c w.deeds) ∙ is.above c higher;
  over = λ c. by c (w.channels == c) refl (is.over c);
}
  where
    own : is_open_at w.channels w.deeds ≡ true
    own = open_is w.channels w.channels w.deeds opened ∙ eq-eqb w.channels w.channels refl

    apart : (a k : ℕ) → a < k → (a == k) ≡ false
    apart a k higher = at (a == k) refl
      where
        at : (b : Bool) → (a == k) ≡ b → b ≡ false
        at true e = let same : a ≡ k = eqb-true a k e in absurd (omega (arith, higher, same))
        at false e = refl

    due_is : notices_due w.channels (tells n ∷ w.deeds) ≡ notices_due w.channels w.deeds ++ n ∷ []
    due_is = ap (λ (b : Bool). notices_due w.channels w.deeds ++ (if b then n ∷ [] else [])) own

    now_is : notices_on w.channels w.deeds ++ notices_waiting ((((w.side).core).core).outbox ++ notice_bytes n ∷ []) ≡ (notices_on w.channels w.deeds ++ notices_waiting (((w.side).core).core).outbox) ++ notice_bytes n ∷ []
    now_is =
        ap (λ (ms : List (List ℕ)). notices_on w.channels w.deeds ++ ms) (filter-append is_noted (((w.side).core).core).outbox (notice_bytes n ∷ [])
        ∙ ap (λ (o : Option Notice). notices_waiting (((w.side).core).core).outbox ++ (if is_some o then notice_bytes n ∷ [] else [])) spelled)
        ∙ sym (append_assoc (notices_on w.channels w.deeds) (notices_waiting (((w.side).core).core).outbox) (notice_bytes n ∷ []))

    by : (c : ℕ) (b : Bool) → (w.channels == c) ≡ b → (notices_due c w.deeds ≡ []) ⊎ ((has_ended c w.deeds ≡ true) ⊎ (open_channel w.deeds ≡ Some c))
        → (notices_due c (tells n ∷ w.deeds) ≡ []) ⊎ ((has_ended c w.deeds ≡ true) ⊎ (open_channel w.deeds ≡ Some c))
    by c true e before = inr (inr (opened ∙ ap (λ (k : ℕ). Some k) (eqb-true w.channels c e)))
    by c false e (inl none) = inl (ap (λ (b : Bool). notices_due c w.deeds ++ (if b then n ∷ [] else [])) (open_is c w.channels w.deeds opened ∙ e) ∙ append-nil (notices_due c w.deeds) ∙ none)
    by c false e (inr before) = inr before

-- ---- a channel begins, and ends

begun_notices : (w v : WorldState) → open_channel w.deeds ≡ None → v.deeds ≡ host_begins (w.channels + 1) ∷ w.deeds → v.channels ≡ w.channels + 1 → notices_waiting (((v.side).core).core).outbox ≡ [] → NoticesAs w → NoticesAs v
begun_notices w v shut deeds channels quiet is = record {
  each = λ c. subst (λ (ds : List Deed). SayFirst SaysNotice (notices_on c ds) (notices_due c ds)) (sym deeds) (is.each c);
  now = subst (λ (ms : List (List ℕ)). SayFirst SaysNotice ms (notices_due v.channels v.deeds)) (sym none) tt;
  all = λ opened. ap length none ∙ sym (ap length (ap (λ (n : ℕ). notices_due n v.deeds) channels ∙ ap (notices_due (w.channels + 1)) deeds ∙ is.above (w.channels + 1) (omega arith)));
  above = λ c higher. ap (notices_due c) deeds ∙ is.above c (let over_it : w.channels + 1 < c = subst (λ (n : ℕ). n < c) channels higher in omega (arith, over_it));
  over = λ c. by c (is.over c);
}
  where
    untold : notices_on (w.channels + 1) w.deeds ≡ []
    untold =
        say_none SaysNotice (notices_on (w.channels + 1) w.deeds) (subst (λ (ts : List Notice). SayFirst SaysNotice (notices_on (w.channels + 1) w.deeds) ts) (is.above (w.channels + 1) (omega arith)) (is.each (w.channels + 1)))

    none : notices_on v.channels v.deeds ++ notices_waiting (((v.side).core).core).outbox ≡ []
    none =
        ap (λ (ms : List (List ℕ)). notices_on v.channels v.deeds ++ ms) quiet ∙ append-nil (notices_on v.channels v.deeds) ∙ ap (λ (n : ℕ). notices_on n v.deeds) channels
        ∙ ap (notices_on (w.channels + 1)) deeds ∙ untold

    by : (c : ℕ) → (notices_due c w.deeds ≡ []) ⊎ ((has_ended c w.deeds ≡ true) ⊎ (open_channel w.deeds ≡ Some c)) → (notices_due c v.deeds ≡ []) ⊎ ((has_ended c v.deeds ≡ true) ⊎ (open_channel v.deeds ≡ Some c))
    by c (inl nothing_due) = inl (ap (notices_due c) deeds ∙ nothing_due)
    by c (inr (inl ended)) = inr (inl (ap (has_ended c) deeds ∙ ended))
    by c (inr (inr there)) = absurd (cc (shut, there))

ended_notices : (w v : WorldState) → open_channel w.deeds ≡ Some w.channels → v.deeds ≡ host_ends w.channels ∷ w.deeds → v.channels ≡ w.channels → (((v.side).core).core).outbox ≡ [] → NoticesAs w → NoticesAs v
ended_notices w v opened deeds channels quiet is = record {
  each = λ c. subst (λ (ds : List Deed). SayFirst SaysNotice (notices_on c ds) (notices_due c ds)) (sym deeds) (is.each c);
  now = subst (λ (n : ℕ). SayFirst SaysNotice (notices_on n v.deeds ++ notices_waiting (((v.side).core).core).outbox) (notices_due n v.deeds)) (sym channels)
      (subst (λ (ds : List Deed). SayFirst SaysNotice (notices_on w.channels ds ++ notices_waiting (((v.side).core).core).outbox) (notices_due w.channels ds)) (sym deeds)
      (subst (λ (ms : List (List ℕ)). SayFirst SaysNotice ms (notices_due w.channels w.deeds)) (sym (ap (λ (ms : List (List ℕ)). notices_on w.channels w.deeds ++ notices_waiting ms) quiet ∙ append-nil (notices_on w.channels w.deeds))) (is.each w.channels)));
  all = λ still. absurd (cc (sym (ap open_channel deeds) ∙ still));
  above = λ c higher. ap (notices_due c) deeds ∙ is.above c (subst (λ (n : ℕ). n < c) channels higher);
  over = λ c. by c (w.channels == c) refl (is.over c);
}
  where
    by : (c : ℕ) (b : Bool) → (w.channels == c) ≡ b → (notices_due c w.deeds ≡ []) ⊎ ((has_ended c w.deeds ≡ true) ⊎ (open_channel w.deeds ≡ Some c))
        → (notices_due c v.deeds ≡ []) ⊎ ((has_ended c v.deeds ≡ true) ⊎ (open_channel v.deeds ≡ Some c))
    by c true e before = inr (inl (ap (has_ended c) deeds ∙ ap (λ (b : Bool). b || has_ended c w.deeds) e))
    by c false e (inl none) = inl (ap (notices_due c) deeds ∙ none)
    by c false e (inr (inl ended)) = inr (inl (ap (has_ended c) deeds ∙ ap (λ (b : Bool). b || has_ended c w.deeds) e ∙ ended))
    by c false e (inr (inr there)) =
        let same : w.channels ≡ c = cc (opened, there) in
        absurd (cc (eq-eqb w.channels c same, e))

-- ---- every world

abbrev NumbersFit : Option Notice → Type 0
NumbersFit (Some n) = HasWholePort n → IsInRange n
NumbersFit None = Unit {0}

line_numbers : (l : Line) → NumbersFit (notice_of l)
unfolding notice_of
line_numbers (line.CacheAdd port driver name bytes) = λ whole. whole
line_numbers (line.CacheUpdate name bytes) = λ whole. tt
line_numbers (line.CacheDelete name) = λ whole. tt
line_numbers (line.CacheRename old new) = λ whole. tt
line_numbers l = tt

is_off : (b : Bool) → not b ≡ true → b ≡ false
is_off true e = absurd cc
is_off false e = refl

module _ (lines : List NumberedLine) (starves : Key → Bool) (premises : RunPremises lines) where
  aside : (w v : WorldState) (more : List Deed) → AreUnnoted more → v.deeds ≡ more ++ w.deeds → ((v.side).core).core.outbox ≡ ((w.side).core).core.outbox → v.channels ≡ w.channels → NoticesAs w → NoticesAs v
  aside w v more silent deeds same channels is = unnoted_notices w v (record { more = more; silent = silent; deeds = deeds; adds = adds_none w.side v.side same; channels = channels }) is

  inside : (w v : WorldState) → IsInside w v → NoticesAs w → NoticesAs v
  inside w v i is = unnoted_notices w v (inside_unnoted w v i) is

  part_notices : (w : WorldState) (p : Part) → MayBe lines starves w p → Stands w → NoticesAs w → NoticesAs (done starves w p)
  part_notices w (accepts a asked named t number) may stands is = aside w _ (submits a named _ ∷ []) (tt, tt) refl refl refl is
  part_notices w (refuses a asked cause) may stands is = aside w _ [] tt refl refl refl is
  part_notices w (hands_out a number t taken None) may stands is = aside w _ (takes number ∷ []) (tt, tt) refl refl refl is
  part_notices w (hands_out a number t taken (Some asked)) may stands is = aside w _ (takes number ∷ []) (tt, tt) refl refl refl is
  part_notices w (host_sends_one message) may stands is = sends_notices w message stands may is
  part_notices w (host_gets n) may stands is = aside w _ [] tt refl refl refl is
  part_notices w host_keeps_part may stands is = aside w _ [] tt refl refl refl is
  part_notices w (host_hears_one message rest) may stands is =
      unnoted_notices w _ (record { more = host_reads w.channels message ∷ []; silent = (tt, tt); deeds = refl; adds = hears_adds w.side message; channels = refl }) is
  part_notices w (tells_one n) ((l, has, said), can) stands is =
      let tellable : IsTellable n = tellable_lines lines premises.notable l n has said in
      let range : IsInRange n = subst NumbersFit said (line_numbers l.line) tellable.port in
      told_notices w n (needs_open lines starves w (tells_one n) ((l, has, said), can) tt stands) (told_noted n tellable.writable range) is
  part_notices w begins may stands is =
      begun_notices w (done starves w begins) (shut_now w stands (is_off (is_channel_open w) may)) (ap (λ (x : WorldState). (begun_on w x).deeds) (all_refreshed (map (λ (e : ℕ × PrinterNames). e.0) w.printers) w)) refl
      (noted_more [] (hello_bytes (host_announce ((w.side).core).client) ∷ []) (hello_unnoted (host_announce ((w.side).core).client), tt)) is
  part_notices w ends may stands is =
      let stations : List ℕ = map (λ (e : ℕ × StationState SessionDevice). e.0) w.stations in
      let i = all_dropped_inside stations w in
      let cut : WorldState = fold dropping w stations in
      ended_notices cut (done starves w ends) (open_left w cut i (needs_open lines starves w ends may tt stands)) refl refl refl (inside w cut i is)
    where
      open_left : (x y : WorldState) → IsInside x y → open_channel x.deeds ≡ Some x.channels → open_channel y.deeds ≡ Some y.channels
      open_left x y i opened =
          let left = left_all i.more x.deeds (own_unnoted i.more i.own) in
          ap open_channel i.deeds ∙ left.opened ∙ opened ∙ ap (λ (o : Outside). Some o.channels) (sym i.same)
  part_notices w (client_sends_one c o) may stands is = by o.answers
    where
      by : (key : Option Key) → NoticesAs (client_sends (with_client w c) (option_map_or (λ k. completes k o.message) key (client_writes w.channels o.message)) o.message)
      by None = aside w _ (client_writes w.channels o.message ∷ []) (tt, tt) refl refl refl is
      by (Some key) = aside w _ (completes key o.message ∷ []) (tt, tt) refl refl refl is
  part_notices w (client_gets n) may stands is = aside w _ [] tt refl refl refl is
  part_notices w client_keeps_part may stands is = aside w _ [] tt refl refl refl is
  part_notices w (client_hears_one message rest) may stands is =
      let x : WorldState = record w { to_client = record w.to_client { part = []; taken = _; unhandled = rest } } in
      inside (with_deed x (client_reads w.channels message)) (done starves w (client_hears_one message rest)) (hears_inside x message) (aside w _ (client_reads w.channels message ∷ []) (tt, tt) refl refl refl is)
  part_notices w (tries_one k) may stands is =
      let x : WorldState = record w { kept = None } in
      inside x (done starves w (tries_one k)) (put_inside x k.device k.job) (aside w x [] tt refl refl refl is)
  part_notices w (collects_one device s after c) may stands is =
      let x : WorldState = with_station w device after in
      aside x _ (completes c.key (completion_message device c) ∷ []) (tt, tt) refl refl refl (inside w x (stationed w device after) is)
  part_notices w (takes_one device hand s after job) may stands is =
      let x : WorldState = with_station w device after in
      aside x _ [] tt refl refl refl (inside w x (stationed w device after) is)
  part_notices w (applies_one hand device job o) may stands is = inside w (done starves w (applies_one hand device job o)) (applied_inside starves w hand device job o) is
  part_notices w (removes_one device o) may stands is = inside w (done starves w (removes_one device o)) (removed_inside w device o) is
  part_notices w (adds_one device names o) may stands is = inside w (done starves w (adds_one device names o)) (added_inside w device names o) is
  part_notices w (queues_one a) may stands is = aside w _ [] tt refl refl refl is
  part_notices w (idle_one number) may stands is = aside w _ [] tt refl refl refl is
  part_notices w draws_one may stands is = aside w _ [] tt refl refl refl is

  -- What was told of printers, and what waits to be, is what is due.
  pub behind_notices : (w : WorldState) → IsBehind lines starves w → NoticesAs w
  behind_notices =
      by_parts lines starves NoticesAs
      (subst NoticesAs (sym (begun_by lines _ (lines_begin lines))) (record { each = λ c. tt; now = tt; all = λ opened. refl; above = λ c higher. refl; over = λ c. inl refl }))
      (λ w p before after may is. part_notices w p may (knows lines starves premises w before).stands is)
