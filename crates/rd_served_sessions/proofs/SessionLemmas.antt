-- A session that was served: the history of its front tells the deeds of the client.
use Rattle.std.proofs.Common.{◌≡◌, ◌≢◌, ◌⊎◌, ◌∙◌, ◌≤◌, ◌<◌, refl, sym, ap, subst, inl, inr, ℕ, zero, suc, ◌+◌, Bool, true, false, List, [], ◌∷◌, ◌++◌, length, map, reverse, Option, Some, None, slice_get, append-nil, arith, ne_eqb, ◌==◌, ◌||◌, eq-eqb}
use Rattle.std.specs.Prelude.{IfSome, filter_map, if◌then◌else◌}
use Rattle.std.specs.List.{AllByRecursion, AllZip, flat_map, zip}
use Rattle.std.specs.List.Sorted.{IsStrictlySortedBy}
use Rattle.std.specs.Map.{keys_of, lookup}
use Rattle.std.specs.Ordering.{nat_cmp}
use Rattle.std.specs.BTreeMap.{is_at}
use Rattle.std.proofs.lemmas.Bool.{cases_eq}
use Rattle.std.proofs.KnownBytes.{Appends-nil}
use Rattle.std.proofs.lemmas.List.{reverse-reverse}
use Rattle.rd_base.specs.declared.journal.Item.{Item}
use Rattle.rd_base.specs.History.{History}
use Rattle.rd_base.specs.Lawful.{IsLawful}
use Rattle.rd_carry.specs.Outgoing.{HasWritten, OutgoingState}
use Rattle.rd_carry.specs.declared.ended.Ended.{Ended}
use Rattle.rd_carry.specs.declared.ended.Ended.TheVariants as ended
use Rattle.rd_client.specs.Core.{new_client}
use Rattle.rd_devices.specs.declared.list.Announce.{Announce}
use Rattle.rd_drive.proofs.AllLemmas.{all_append}
use Rattle.rd_desk.specs.Desk.{told_calls}
use Rattle.rd_drive.specs.DriveState.{DriveState}
use Rattle.rd_drive.specs.Replies.{AreToldBy}
use Rattle.rd_front.specs.Calls.{FrontEntry, HearBytes, HearsBytes}
use Rattle.rd_front.specs.Front.{FrontStep}
use Rattle.rd_room.specs.Room.{MessageRoom}
use Rattle.rd_front.specs.State.{DeviceDeskState, FrontState, SessionDeskStep, SessionStation}
use Rattle.rd_front.specs.declared.calls.FrontCall.{FrontCall}
use Rattle.rd_front.specs.declared.calls.FrontCall.TheVariants as call
use Rattle.rd_front.specs.declared.calls.FrontReply.{FrontReply}
use Rattle.rd_front.specs.declared.calls.FrontReply.TheVariants as reply
use Rattle.rd_served_causes.proofs.JournalsWorkLemmas.{grown_more}
use Rattle.rd_served_causes.proofs.RefusedAnswerLemmas.{all_answer}
use Rattle.rd_script.specs.declared.line.NumberedLine.{NumberedLine}
use Rattle.rd_sharing.specs.Closing.{AreUntroubled, IsUntroubled, station_devices}
use Rattle.rd_sharing.specs.ServedOpening.{ServedDeclared, shown_of}
use Rattle.rd_station.specs.Station.{new_station}
use Rattle.rd_turn.specs.History.{Leads}
use Rattle.rd_declared.specs.Devices.{Declared, device_cut, device_step}
use Rattle.rd_world.specs.Acts.{act_by, tellings_on}
use Rattle.rd_world.specs.Control.{is_among}
use Rattle.rd_world.specs.Recording.{announced_of}
use Rattle.rd_declared.specs.Replies.{request_read}
use Rattle.rd_world.specs.Session.{journals_of}
use Rattle.rd_deeds.specs.Talk.{Deed, EachAfter, Has, client_read, client_moves, client_wrote, journal}
use Rattle.rd_deeds.specs.Told.{AreAnswered}
use Rattle.rd_declared.specs.declared.device.SessionDevice.{SessionDevice}
use Rattle.rd_workers.specs.Channels.{ChannelRun, HaveNumbers, IsChannelRun, LinkerTold, calls_by_all}
use Rattle.rd_workers.specs.Lines.{at_lines}
use Rattle.rd_workers.specs.Logs.{AllFound, asks_any, given_by, messages_by, messages_for, messages_heard, reader_calls}
use Rattle.rd_workers.specs.Served.{IsWritten, ServesJournals}
use Rattle.rd_served_causes.proofs.ServedCauseLemmas.{AnyRequest}
use Rattle.rd_served_causes.proofs.ServedChannelLemmas.{begins_here, history_on}
use Rattle.rd_served_causes.proofs.ServedKeyLemmas.{begins_at, keyed_lawful}
use Rattle.rd_served_causes.proofs.ServedOrderLemmas.{history_order}
use Rattle.rd_served_causes.proofs.ServedStandingLemmas.{IsKnownAt, begins_known, history_known}
use Rattle.rd_served_causes.proofs.ServedWalkLemmas.{served}
use Rattle.rd_served_causes.specs.ServedDeeds.{EachOnChannel, deeds_of_calls}
use Rattle.rd_served_causes.specs.ServedDevices as served_device
use Rattle.rd_served_causes.specs.ServedDevices.{ServedDeviceState}
use Rattle.rd_served_causes.specs.ServedRepliesGiven.{HadNoFault, HadNoFaults, known_as, replies_served}
use Rattle.rd_served_causes.specs.ServedRepliesPremises.{IsFitServed}
use Rattle.rd_served_causes.specs.ServedHistories.{AreStationed, HistoryGoes, may_start}
use Rattle.rd_served_causes.specs.ServedParts.{FrontPart, PartsGo}
use Rattle.rd_served_causes.specs.ServedServed.{IsStationed, Served, Works, idle}
use Rattle.rd_served_causes.proofs.CallLemmas.{all_said, heard_unhindered}
use Rattle.rd_served_causes.proofs.CutLemmas.{all_cut}
use Rattle.rd_served_causes.proofs.LeftLemmas.{all_left, bytes_in_room}
use Rattle.rd_served_causes.proofs.PlaceLemmas.{ids_of, part_ids}
use Rattle.rd_served_causes.specs.Causes.{StartUnhindered}
use Rattle.rd_served_causes.specs.Left.{IsLeftOf, rest_of}
use Rattle.rd_served_causes.proofs.ServedOrderOrderLemmas.{begins_order, history_ordered}
use Rattle.rd_served_causes.proofs.ServedOrderOwnLemmas.{begins_own}
use Rattle.rd_served_causes.proofs.ServedOrderSentLemmas.{history_tells, room_at, tells_order}
use Rattle.rd_served_causes.specs.ServedOrderOrders.{AreMovesInOrder, BeginsWith, is_gone_until, none_until}
use Rattle.rd_served_causes.specs.ServedOrderSent.{AreSentInOrder}
use Rattle.rd_served_causes.specs.ServedOrderTellings.{TellsReady, acts_on}
use Rattle.rd_served_causes.proofs.ServedRefusalsHinderLemmas.{hear_before}
use Rattle.rd_served_causes.proofs.ServedRefusalsInLineLemmas.{begins_line_all, history_line}
use Rattle.rd_served_causes.proofs.ServedRefusalsPointLemmas.{in_order}
use Rattle.rd_served_causes.specs.ServedRefusalsHeeding.{HearInRoom}
use Rattle.rd_served_causes.proofs.ServedRepliesBeginLemmas.{IsOneOf, first_of, known_first}
use Rattle.rd_served_causes.proofs.ServedRepliesEachLemmas.{all_answered, all_told as all_gone}
use Rattle.rd_served_causes.proofs.ServedRepliesFollowLemmas.{IsFollowed, history_followed}
use Rattle.rd_served_causes.proofs.ServedRepliesKnownLemmas.{known_calm, known_plays}
use Rattle.rd_served_causes.proofs.ServedRepliesLedLemmas.{led_by, led_tied}
use Rattle.rd_served_causes.proofs.ServedRepliesReadLemmas.{all_fine, history_bytes}
use Rattle.rd_served_sessions.proofs.DoesLemmas.{session_does}
use Rattle.rd_served_sessions.proofs.ActLemmas.{acts_inside, done_in_all, given_reader, history_act, history_acts, runs_act}
use Rattle.rd_served_sessions.proofs.CallLemmas.{BeginsUpTo, GivesInside, asks_only, begun_up_to, given_in, given_of, given_on, heard_in_all, hears_inside, lift_all, lift_given, lift_starts, none_above, none_below, none_on, on_channel, own_given, runs_given, runs_start, runs_up_to, unbegun_up_to}
use Rattle.rd_served_sessions.proofs.ChainLemmas.{Chain, chain_of, history_read, history_wrote}
use Rattle.rd_served_sessions.proofs.CloseLemmas.{WereClosed, closed_own, were_closed}
use Rattle.rd_served_sessions.proofs.ComingLemmas.{all_coming}
use Rattle.rd_served_sessions.proofs.AnnounceLemmas.{all_announce, first_kept}
use Rattle.rd_served_sessions.proofs.DropLemmas.{AreDropped, all_dropped}
use Rattle.rd_served_sessions.proofs.DoneLemmas.{IsDone, all_done, works_same}
use Rattle.rd_served_sessions.proofs.EndingLemmas.{given_replies, history_causes, replies_each, replies_inside}
use Rattle.rd_served_sessions.proofs.FirstLemmas.{IsBegun, all_at, at_same, found_at, keys_shown, keys_states, session_begun, state_at}
use Rattle.rd_served_sessions.proofs.FollowLemmas.{new_follows}
use Rattle.rd_served_sessions.proofs.FoundLemmas.{history_found}
use Rattle.rd_served_sessions.proofs.LookLemmas.{LookUnhindered, session_looks}
use Rattle.rd_served_sessions.proofs.MoveLemmas.{session_moves}
use Rattle.rd_served_sessions.proofs.PartedLemmas.{ComeReady, IsCutFor, all_cut_for, parted_all}
use Rattle.rd_served_sessions.proofs.PlacedLemmas.{first_last, first_open, first_point, history_placed}
use Rattle.rd_served_sessions.proofs.ReadyLemmas.{history_ready}
use Rattle.rd_served_sessions.proofs.StoredLemmas.{all_groups, groups_of}
use Rattle.rd_workers.proofs.RunLemmas.{AreRuns, DoesSurely, IsSure, calls_bytes, calls_surely, no_rest, runs_middle, runs_of, AreMiddle}
use Rattle.rd_served_sessions.proofs.StillLemmas.{next_says, tracks}
use Rattle.rd_served_sessions.proofs.UnderLemmas.{history_comes}
use Rattle.rd_served_sessions.proofs.UnwrittenLemmas.{history_unwritten}
use Rattle.rd_served_sessions.specs.Acts.{RunsDo, act_done, acts_done, none_gone}
use Rattle.rd_served_sessions.specs.Parted.{AreInPlace, ArePartedAt}
use Rattle.rd_served_sessions.specs.Placed.{AreDoneBy, ArePlaced, ComesLast, all_done_by}
use Rattle.rd_served_sessions.specs.Announcing.{AnnouncesOwn}
use Rattle.rd_served_sessions.specs.Causes.{HaveCauses, IsCausedReply}
use Rattle.rd_served_sessions.specs.Sessions.{IsMarkedAs, device_states, IsServedRun, IsToldSession, TellsRun}

abbrev Of : Type 0
Of = SessionStation

-- ---- lists

both_all : {A : Type 0} (P Q : A → Type 0) (xs : List A) → AllByRecursion P xs → AllByRecursion Q xs → AllByRecursion (λ x. P x × Q x) xs
both_all P Q [] first second = tt
both_all P Q (x ∷ xs) first second = ((first.0, second.0), both_all P Q xs first.1 second.1)

to_all : {A : Type 0} (P Q : A → Type 0) → ((x : A) → P x → Q x) → (xs : List A) → AllByRecursion P xs → AllByRecursion Q xs
to_all P Q to [] all = tt
to_all P Q to (x ∷ xs) all = (to x all.0, to_all P Q to xs all.1)

-- the run of a channel
run_at : (P : ChannelRun → Type 0) (n c : ℕ) (runs : List ChannelRun) → HaveNumbers n runs → n < c → c ≤ n + length runs → AllByRecursion P runs → (r : ChannelRun) × ((r.reading).channel ≡ c) × P r
run_at P n c [] have low high all = absurd (omega (arith, low, high))
run_at P n c (r ∷ runs) have low high all = elim (cases_eq c (suc n)) [
  | inl same ↦ (r, have.0 ∙ sym same, all.0)
  | inr apart ↦ run_at P (suc n) c runs have.1 (omega (arith, low, apart)) (omega (arith, high)) all.1
]

zip_at : {A B : Type 0} (P : A → B → Type 0) (xs : List A) (ys : List B) → AllZip P xs ys → (i : ℕ) (x : A) → slice_get xs i ≡ Some x → (y : B) × (slice_get ys i ≡ Some y) × P x y
zip_at P [] [] all i x there = absurd (cc (there))
zip_at P [] (y ∷ ys) all i x there = absurd all
zip_at P (a ∷ xs) [] all i x there = absurd all
zip_at P (a ∷ xs) (b ∷ ys) all zero x there = let is : a ≡ x = cc (there) in (b, refl, subst (λ z. P z b) is all.0)
zip_at P (a ∷ xs) (b ∷ ys) all (suc i) x there = zip_at P xs ys all.1 i x there

-- ---- the stations at the end

same_stations : (mids ss : List Of) → AllZip Works mids ss → ((x : Of) → Has x mids → IsDone x) → ss ≡ mids
same_stations [] [] works done = refl
same_stations [] (s ∷ ss) works done = absurd works
same_stations (m ∷ mids) [] works done = absurd works
same_stations (m ∷ mids) (s ∷ ss) works done =
    let here = works_same m s works.0 (done m (inl refl)) in let more = same_stations mids ss works.1 (λ x has. done x (inr has)) in λ i. here i ∷ more i

parts_ids : (ps : List FrontPart) (p q : Served) → PartsGo p ps q → ids_of (q.front).desks ≡ ids_of (p.front).desks
parts_ids [] p q goes = ap (λ (s : Served). ids_of (s.front).desks) goes
parts_ids (x ∷ ps) p q goes = parts_ids ps goes.0 q goes.2 ∙ part_ids p goes.0 x goes.1

history_ids : (entries : List FrontEntry) (parts : List (List FrontPart)) (p q : Served) → HistoryGoes p entries parts q → ids_of (q.front).desks ≡ ids_of (p.front).desks
history_ids [] [] p q goes = ap (λ (s : Served). ids_of (s.front).desks) goes
history_ids [] (ps ∷ parts) p q goes = absurd goes
history_ids (e ∷ entries) [] p q goes = absurd goes
history_ids (e ∷ entries) (ps ∷ parts) p q goes = history_ids entries parts goes.0 q goes.2 ∙ parts_ids ps p goes.0 (goes.1).goes

abbrev book : List Deed → ℕ → ℕ × List Item
book deeds n = (n, reverse (journal n deeds))

books_at : (deeds : List Deed) (ds : List DeviceDeskState) (ss : List Of) → AreStationed ds ss → ((place : ℕ) (d : DeviceDeskState) (s : Of) → slice_get ds place ≡ Some d → slice_get ss place ≡ Some s → journal d.id deeds ≡ reverse s.journal)
    → zip (ids_of ds) (map (λ (s : Of). s.journal) ss) ≡ map (book deeds) (ids_of ds)
books_at deeds [] [] at tied = refl
books_at deeds [] (s ∷ ss) at tied = absurd at
books_at deeds (d ∷ ds) [] at tied = absurd at
books_at deeds (d ∷ ds) (s ∷ ss) at tied =
    let here : s.journal ≡ reverse (journal d.id deeds) = sym (ap reverse (tied zero d s refl refl) ∙ reverse-reverse s.journal) in
    let more = books_at deeds ds ss at.1 (λ place x y. tied (suc place) x y) in
    λ i. (d.id, here i) ∷ more i

books_of : (deeds : List Deed) (devices : List (ℕ × ServedDeclared)) → map (book deeds) (keys_of devices) ≡ map {B = ℕ × List Item} (λ (d : ℕ × ServedDeclared). (d.0, reverse (journal d.0 deeds))) devices
books_of deeds [] = refl
books_of deeds (d ∷ devices) = ap (λ (l : List (ℕ × List Item)). book deeds d.0 ∷ l) (books_of deeds devices)

among_at : {A : Type 0} (f : A → ℕ) (xs : List A) (i : ℕ) (x : A) → slice_get xs i ≡ Some x → (n : ℕ) → f x ≡ n → is_among (map f xs) n ≡ true
among_at f [] i x there n is = absurd (cc (there))
among_at f (y ∷ xs) zero x there n is = let same : y ≡ x = cc (there) in ap (λ (b : Bool). b || is_among (map f xs) n) (eq-eqb (f y) n (ap f same ∙ is))
among_at f (y ∷ xs) (suc i) x there n is = by (f y == n) (among_at f xs i x there n is)
  where
    by : (b : Bool) → is_among (map f xs) n ≡ true → (b || is_among (map f xs) n) ≡ true
    by true more = refl
    by false more = more

keys_map : (devices : List (ℕ × ServedDeclared)) → map (λ (d : ℕ × ServedDeclared). d.0) devices ≡ keys_of devices
keys_map [] = refl
keys_map (d ∷ devices) = ap (λ (l : List ℕ). d.0 ∷ l) (keys_map devices)

-- ---- messages

-- nothing is handed out for a channel after the last
none_after : (most c : ℕ) → most < c → (entries : List FrontEntry) (p q : FrontState) → Leads FrontStep p entries q → p.channel ≤ most → AllByRecursion (λ (e : FrontEntry). BeginsUpTo most e.call e.reply) entries → messages_for c entries ≡ []
none_after most c high [] p q leads low upto = refl
none_after most c high (e ∷ entries) p q leads low upto =
    ap (λ (ms : List (List ℕ)). ms ++ messages_for c entries) (one e.call e.reply leads.1)
    ∙ none_after most c high entries leads.0 q leads.2 (subst (λ (n : ℕ). n ≤ most) (sym (tracks p e.call e.reply leads.0 leads.1)) (begun_up_to most p.channel e.call e.reply low upto.0)) upto.1
  where
    next : (channel place : ℕ) (room : MessageRoom) (back : FrontReply) → FrontStep p (call.Next channel place room) back leads.0 → messages_by c (call.Next channel place room) back ≡ []
    next channel place room (reply.Messages filled left) step = elim (next_says p channel place room (reply.Messages filled left) leads.0 step).here [
      | inl same ↦ ap (λ (b : Bool). if b then filled.messages else []) (ne_eqb channel c (λ (is : channel ≡ c). omega (arith, is, same, low, high)))
      | inr none ↦ let is : filled ≡ record room { messages = [] } = cc (none) in ap (λ (x : MessageRoom). on_channel c channel x.messages) is ∙ none_on c channel
    ]
    next channel place room (reply.Done at full) step = refl
    next channel place room (reply.Stands ready asked) step = refl
    next channel place room reply.Kept step = refl
    next channel place room (reply.Wrong cause) step = refl
    next channel place room (reply.Duplicate key) step = refl
    next channel place room reply.Unfit step = refl
    next channel place room reply.Memory step = refl
    next channel place room reply.Full step = refl
    next channel place room reply.Refused step = refl

    one : (does : FrontCall) (back : FrontReply) → FrontStep p does back leads.0 → messages_by c does back ≡ []
    one (call.Next channel place room) back step = next channel place room back step
    one (call.Begin channel) back step = refl
    one (call.Hear message) back step = refl
    one call.Retry back step = refl
    one (call.Remove device) back step = refl
    one (call.Add device) back step = refl
    one call.Look back step = refl
    one call.EndChannel back step = refl
    one call.EndSession back step = refl

-- ---- the session

none_behind : (xs ys : List ℕ) → [] ≡ xs ++ ys → ys ≡ []
none_behind [] [] is = refl
none_behind [] (y ∷ ys) is = absurd (cc (is))
none_behind (x ∷ xs) ys is = absurd (cc (is))

-- a half to which nothing was put begins as it is
begins_bare : (held : Option (List ℕ)) (s : OutgoingState) → HasWritten held [] s → HasWritten s.held [] s
begins_bare held s w = record {
  fit = tt;
  written = [];
  rest = [];
  frames_are = refl;
  wrote = Appends-nil s.held;
  waits = λ sound. sym (none_behind w.written w.rest w.frames_are) ∙ w.waits sound;
}

-- what is untroubled had no fault
faultless : (ss : List Of) → AreUntroubled (station_devices ss) → HadNoFaults ss
faultless [] all place s there = absurd (cc (there))
faultless (x ∷ ss) all zero s there = let same : x ≡ s = cc (there) in subst (λ (y : Of). HadNoFault y.device) same (one x.device all.0)
  where
    one : (d : ServedDeviceState) → IsUntroubled d → HadNoFault d
    one (served_device.made device) is = tt
    one (served_device.over drive) is = by drive.drive
      where
        by : (o : Option DriveState) → IfSome o (λ (y : DriveState). (drive.faults).count ≡ 0)
        by None = tt
        by (Some y) = is
faultless (x ∷ ss) all (suc place) s there = faultless ss all.1 place s there

module _ (calm : Bool) (devices : List (ℕ × ServedDeclared)) (fit : AllByRecursion (λ (d : ℕ × ServedDeclared). IsFitServed (d.1).state) devices) (numbered : List NumberedLine) (in_place : AreInPlace numbered) (channels : ℕ) (by : Ended) (books : List (ℕ × History)) (old new : LinkerTold)
    (not : by ≢ ended.Memory) (b : ServesJournals devices (at_lines numbered) channels by (journals_of books) old new) (quiet : calm ≡ true → AreUntroubled (station_devices b.stations))
  where
    abbrev Shown : List (ℕ × Declared)
    Shown = map shown_of devices

    abbrev States : List (ℕ × ServedDeviceState)
    States = device_states devices

    abbrev Entries : List FrontEntry
    Entries = (b.front).entries

    abbrev First : FrontState
    First = (b.front).opening

    abbrev Last : FrontState
    Last = (b.front).last

    abbrev Calls : List FrontEntry
    Calls = (((b.front).served).called).calls

    abbrev End : FrontEntry
    End = (((b.front).served).called).last

    closed : WereClosed Last.desks b.stations
    closed = were_closed Last.desks b.stations b.closes

    chained : (mids : List Of) → AreStationed Last.desks mids → Chain First Entries Last mids
    chained mids at = chain_of First Entries Last (b.front).leads mids at

    -- what is known once the runs, the stations and the parts are had
    module _ (runs : List ChannelRun) (are : AreRuns runs Calls ((b.front).served).done (at_lines numbered)) (mids : List Of) (works : AllZip Works mids b.stations) (c : Chain First Entries Last mids) where
      abbrev Old : Served
      Old = served First idle c.stations

      abbrev New : Served
      New = served Last idle mids

      abbrev Deeds : List Deed
      Deeds = deeds_of_calls c.parts []

      -- what is announced is of the devices, and can be written
      announced_are : b.announced ≡ announced_of Shown
      announced_are = ((b.opens).shown).announced_are

      begun : IsBegun devices b.announced Old
      begun = session_begun devices fit b.announced b.printers b.ids b.turns b.opens First (b.front).begins c.stations c.at

      stations_same : b.stations ≡ mids
      stations_same = same_stations mids b.stations works
          (all_done Entries c.parts Old New c.goes c.steps begun.fresh Calls End (((b.front).served).called).all_are (((b.front).served).called).over)

      -- no fault of a folder was counted, where none is said to be
      none_here : calm ≡ true → HadNoFaults mids
      none_here said = faultless mids (subst (λ (ss : List Of). AreUntroubled (station_devices ss)) stations_same (quiet said))

      whole : reader_calls Entries ≡ calls_by_all runs ++ End ∷ []
      whole = (((b.front).served).called).all_are ∙ ap (λ (es : List FrontEntry). es ++ End ∷ []) are.calls_are

      -- of the reader's calls and so of all
      of_calls : (P : FrontCall → FrontReply → Type 0) → ((does : FrontCall) (back : FrontReply) → asks_any does ≡ true → P does back) → ((back : FrontReply) → P call.EndSession back)
          → AllByRecursion (λ (e : FrontEntry). P e.call e.reply) (calls_by_all runs) → AllByRecursion (λ (e : FrontEntry). P e.call e.reply) Entries
      of_calls P asked ends all =
          lift_all P asked Entries (subst (AllByRecursion (λ (e : FrontEntry). P e.call e.reply)) (sym whole)
          (all_append (λ (e : FrontEntry). P e.call e.reply) (calls_by_all runs) (End ∷ []) all (subst (λ (does : FrontCall). P does End.reply) (sym (((b.front).served).called).over) (ends End.reply), tt)))

      hear_bytes : HearBytes Entries
      hear_bytes = of_calls (λ does back. HearsBytes does) (λ does back asks. (asks_only does back asks).bytes) (λ back. tt) (calls_bytes runs are.each)

      hear_surely : AllByRecursion (λ (e : FrontEntry). DoesSurely e.call e.reply) Entries
      hear_surely = of_calls DoesSurely (λ does back asks. (asks_only does back asks).surely) (λ back. tt) (calls_surely runs are.each are.sure)

      up_to : AllByRecursion (λ (e : FrontEntry). BeginsUpTo (length runs) e.call e.reply) Entries
      up_to = of_calls (BeginsUpTo (length runs)) (λ does back asks. unbegun_up_to (length runs) does back (λ channel is. let none = ap asks_any is in cc (asks, none))) (λ back. tt)
          (runs_up_to (length runs) 0 runs are.numbered (omega arith) are.each (runs_middle runs are))

      starts : StartUnhindered false Entries
      starts = lift_starts Entries First Last false (b.front).leads (subst (StartUnhindered false) (sym whole) (runs_start runs (End ∷ []) are.each are.sure (λ was. (λ may. absurd (ended_none may), tt)) false))
        where
          ended_none : may_start End.call End.reply ≡ true → ⊥
          ended_none may = let none = ap (λ (does : FrontCall). may_start does End.reply) (((b.front).served).called).over in cc (none, may)

      -- each run's other half
      half_of : AllByRecursion (λ (r : ChannelRun). IsWritten Entries r.wrote) runs
      half_of = halves runs (subst (AllByRecursion (IsWritten Entries)) are.done_are ((b.front).served).written)
        where
          halves : (rs : List ChannelRun) → AllByRecursion (IsWritten Entries) (map (λ (r : ChannelRun). r.wrote) rs) → AllByRecursion (λ (r : ChannelRun). IsWritten Entries r.wrote) rs
          halves [] all = tt
          halves (r ∷ rs) all = (all.0, halves rs all.1)

      abbrev IsKnownRun : ChannelRun → Type 0
      IsKnownRun r = (IsChannelRun r × IsSure r) × IsWritten Entries r.wrote

      known_runs : AllByRecursion IsKnownRun runs
      known_runs = both_all (λ (r : ChannelRun). IsChannelRun r × IsSure r) (λ (r : ChannelRun). IsWritten Entries r.wrote) runs (both_all IsChannelRun IsSure runs are.each are.sure) half_of

      found : (n : ℕ) → 0 < n → n ≤ length runs → AllFound n Entries
      found n some few =
          let (r, same, is) = run_at IsKnownRun 0 n runs are.numbered some (omega (arith, few)) known_runs in
          subst (λ (m : ℕ). AllFound m Entries) ((is.0).0.channel ∙ same) ((is.1).found (is.0).1.fed)

      known_first_here : IsKnownAt Old []
      known_first_here = let new_here = (begun.begins).new in begins_known Old new_here.new new_here.apart new_here.stationed new_here.idle_is

      known : IsKnownAt New Deeds
      known = history_known Entries c.parts Old New [] c.goes known_first_here

      sent_in_order : AreSentInOrder Deeds
      sent_in_order channel device =
          tells_order Deeds (known.standing).stand (history_tells Entries c.parts Old New [] c.goes known_first_here (room_at First.desks begun.room) tt) channel device
          ∙ history_order Entries c.parts Old New []
          (history_found (length runs) Entries c.parts Old New [] c.goes c.steps (let is = begun.first in omega (arith, is)) up_to found known_first_here (λ none. (begun.off, begun.unasked)))
          c.goes known_first_here refl (λ x y. refl) channel device

      in_room : HearInRoom Entries
      in_room = bytes_in_room Entries hear_bytes

      answered : AreAnswered (replies_served calm States c.parts Deeds) Deeds
      answered =
          let bytes = history_bytes Entries c.parts Old New [] c.goes hear_bytes tt in
          let said = all_said b.announced Old New Entries c.parts begun.begins begun.have c.goes (all_fine Deeds bytes) starts in
          let line = history_line Entries c.parts false Old New [] c.goes known_first_here in_room (hear_before Entries c.parts Old New c.goes (heard_unhindered Entries false starts)) (begins_line_all Old ((begun.begins).new).new refl) in
          record {
            sent_in_order = sent_in_order;
            direct_in_order = in_order line.0 _ _ line.1;
            answers = all_answer (replies_served calm States c.parts Deeds) Deeds (said.0).each (all_answered calm States Old New Entries c.parts (begun.begins).new begun.opened c.goes (closed_own Last.desks b.stations b.closes) none_here bytes);
            comes = (said.1).comes;
          }

      -- ---- messages

      -- what calls give on a channel is what its run gave
      of_runs : {A : Type 0} (given : FrontCall → FrontReply → List A) → GivesInside given → (n : ℕ) → given_on given n First.channel Entries ≡ given_of given n runs
      of_runs given inside n = lift_given given inside n Entries First.channel ∙ ap (given_on given n First.channel) whole ∙ runs_given given inside n runs End First.channel (((b.front).served).called).over are.each (runs_middle runs are)

      read_is : (n : ℕ) → client_read n Deeds ≡ reverse (given_of given_by n runs)
      read_is n =
          history_read n Entries c.parts Old New c.goes c.steps hear_surely [] ∙ append-nil (reverse (given_on given_by n First.channel Entries)) ∙ ap reverse (of_runs given_by hears_inside n)

      wrote_is : (n : ℕ) → reverse (client_wrote n Deeds) ≡ messages_for n Entries
      wrote_is n =
          let new_here = (begun.begins).new in
          let here = history_on Entries c.parts Old New c.goes (begins_at Old new_here.new new_here.stationed refl) (begins_here Old (new_here.new).nothing refl) in
          ap reverse (history_wrote n Entries c.parts Old New c.goes c.steps here [] ∙ append-nil (reverse (messages_for n Entries))) ∙ reverse-reverse (messages_for n Entries)

      run_told : (r : ChannelRun) → (IsKnownRun r × (given_of given_by (r.reading).channel runs ≡ given_in given_by (r.reading).calls)) → IsServedRun Deeds r
      run_told r told =
          let is = (told.0).0.0 in
          let sure = (told.0).0.1 in
          let half = (told.0).1 in
          let all : ((r.reading).incoming).messages ≡ messages_heard (r.reading).calls =
          (is.reading).messages ∙ ap (λ (ms : List (List ℕ)). messages_heard (r.reading).calls ++ ms) (no_rest (r.reading).by (r.reading).rest sure.found (is.reading).all) ∙ append-nil (messages_heard (r.reading).calls) in
          let puts = half.puts in
          let put : puts.put ≡ reverse (client_wrote (r.reading).channel Deeds) =
          sym (puts.messages_are ∙ ap (λ (ms : List (List ℕ)). puts.put ++ ms) (puts.all sure.fed) ∙ append-nil puts.put) ∙ ap (λ (n : ℕ). messages_for n Entries) is.channel ∙ sym (wrote_is (r.reading).channel) in
          record {
            is = is;
            read = read_is (r.reading).channel ∙ ap reverse (told.1 ∙ heard_in_all (r.reading).calls ∙ sym all);
            written = subst (λ (ms : List (List ℕ)). HasWritten ((r.wrote).began).held ms (r.wrote).ended) put (puts.since ((r.wrote).began).held [] (begins_bare r.held (r.wrote).began is.began));
            flushed = half.flushed;
            stopped = λ stopped. elim (half.stopped stopped) [ inl failed ↦ failed | inr starved ↦ absurd (let fed = sure.fed in cc (starved, fed)) ];
          }

      runs_told : AllByRecursion (IsServedRun Deeds) runs
      runs_told =
          to_all (λ (r : ChannelRun). IsKnownRun r × (given_of given_by (r.reading).channel runs ≡ given_in given_by (r.reading).calls)) (IsServedRun Deeds) run_told runs
          (both_all IsKnownRun (λ (r : ChannelRun). given_of given_by (r.reading).channel runs ≡ given_in given_by (r.reading).calls) runs known_runs (own_given given_by 0 runs are.numbered))

      unread : (n : ℕ) → (n ≡ 0) ⊎ (length runs < n) → client_read n Deeds ≡ []
      unread n (inl none) = read_is n ∙ ap reverse (none_below given_by n 0 runs are.numbered (omega (arith, none)))
      unread n (inr above) = read_is n ∙ ap reverse (none_above given_by n 0 runs are.numbered (omega (arith, above)))

      unwritten : (n : ℕ) → (n ≡ 0) ⊎ (length runs < n) → client_wrote n Deeds ≡ []
      unwritten n (inl none) =
          let new_here = (begun.begins).new in
          let here = history_on Entries c.parts Old New c.goes (begins_at Old new_here.new new_here.stationed refl) (begins_here Old (new_here.new).nothing refl) in
          ap (λ (m : ℕ). client_wrote m Deeds) none
          ∙ history_unwritten Entries c.parts Old New [] c.goes here (record { known = known_first_here; unbegun = λ none. (begun.off, begun.unasked); unsaid = λ none. (new_here.new).nothing })
      unwritten n (inr above) =
          sym (reverse-reverse (client_wrote n Deeds)) ∙ ap reverse (wrote_is n ∙ none_after (length runs) n above Entries First Last (b.front).leads (let is = begun.first in omega (arith, is)) up_to)

      -- ---- journals

      last_ids : ids_of Last.desks ≡ keys_of devices
      last_ids = history_ids Entries c.parts Old New c.goes ∙ begun.ids

      tied_at : (place : ℕ) (d : DeviceDeskState) (s : Of) → slice_get Last.desks place ≡ Some d → slice_get mids place ≡ Some s → journal d.id Deeds ≡ reverse s.journal
      tied_at place d s there has = (known.told).tied place d s (there, has)

      journals_are : AreStationed Last.desks mids → zip b.ids (map (λ (s : Of). s.journal) b.stations) ≡ map {B = ℕ × List Item} (λ (d : ℕ × ServedDeclared). (d.0, reverse (journal d.0 Deeds))) devices
      journals_are at =
          (λ i. zip (their i) (map (λ (s : Of). s.journal) (stations_same i))) ∙ books_at Deeds Last.desks mids at tied_at ∙ ap (map (book Deeds)) last_ids ∙ books_of Deeds devices
        where
          their : b.ids ≡ ids_of Last.desks
          their = sym ((b.front).begins).ids_are ∙ sym (history_ids Entries c.parts Old New c.goes)

      -- the desk and the station of a device
      record OfDevice (e : ℕ × ServedDeclared) : Type 0 where
        place : ℕ
        d : DeviceDeskState
        s : Of
        there : slice_get Last.desks place ≡ Some d
        has : slice_get mids place ≡ Some s
        same : d.id ≡ e.0
        is : journal e.0 Deeds ≡ reverse s.journal

      of_device : AreStationed Last.desks mids → (i : ℕ) (e : ℕ × ServedDeclared) → slice_get devices i ≡ Some e → OfDevice e
      of_device at i e there =
          let (d, desk, id) = at_same (λ (x : ℕ × ServedDeclared). x.0) (λ (x : DeviceDeskState). x.id) devices Last.desks (keys_map devices ∙ sym last_ids) i e there in
          let (s, station, stationed) = zip_at IsStationed Last.desks mids at i d desk in
          record { place = i; d = d; s = s; there = desk; has = station; same = id; is = ap (λ (n : ℕ). journal n Deeds) (sym id) ∙ tied_at i d s desk station }

      turned : (e : ℕ × ServedDeclared) (o : OfDevice e) → reverse (journal e.0 Deeds) ≡ (o.s).journal
      turned e o = ap reverse o.is ∙ reverse-reverse (o.s).journal

      lawful_of : AreStationed Last.desks mids → AllByRecursion (λ (e : ℕ × ServedDeclared). IsLawful (reverse (journal e.0 Deeds))) devices
      lawful_of at = all_at (λ (e : ℕ × ServedDeclared). IsLawful (reverse (journal e.0 Deeds))) devices (λ i e there.
          let o = of_device at i e there in subst IsLawful (sym (turned e o)) (keyed_lawful New known.keyed o.place o.s o.has))

      marked_of : AreStationed Last.desks mids → AllByRecursion (IsMarkedAs calm Deeds) devices
      marked_of at = all_at (IsMarkedAs calm Deeds) devices (λ i e there. one i e there (of_device at i e there) (known_as calm (e.1).state) refl)
        where
          follows : IsFollowed (IsOneOf States) New Deeds
          follows = history_followed (IsOneOf States) Entries c.parts Old New [] c.goes (known_first Old (begun.begins).new) (first_of States Old (begun.begins).new begun.opened)

          rise : IsStrictlySortedBy nat_cmp (keys_of States)
          rise = subst (IsStrictlySortedBy nat_cmp) (keys_shown devices ∙ sym (keys_states devices)) ((b.opens).openable).rise

          one : (i : ℕ) (e : ℕ × ServedDeclared) → slice_get devices i ≡ Some e → OfDevice e → (known : Option SessionDevice) → known_as calm (e.1).state ≡ known
              → IfSome known (λ (s : SessionDevice). AreToldBy device_step device_cut (request_read Deeds) s (reverse (journal e.0 Deeds)))
          one i e there o None is = tt
          one i e there o (Some other) is =
              let its = follows.opened o.place o.d o.there in
              let both : Some its.opening ≡ Some (e.1).state = sym (ap (λ (n : ℕ). lookup (is_at (nat_cmp n)) States) (sym o.same) ∙ its.found) ∙ found_at States rise i (e.0, (e.1).state) (state_at devices i e there) in
              let same : its.opening ≡ (e.1).state = cc (both) in
              let known : known_as calm its.opening ≡ Some other = ap (known_as calm) same ∙ is in
              let leads : Leads SessionDeskStep (new_station its.opening) ((o.d).pass).seen o.s = subst (λ (t : Of). Leads SessionDeskStep t ((o.d).pass).seen o.s) its.is (follows.stationed o.place o.d o.s (o.there, o.has)).leads in
              let gives = closed_own Last.desks b.stations b.closes o.place o.d o.there in
              let puts = follows.puts o.place o.d o.there in
              let none = known_calm calm its.opening other (told_calls ((o.d).pass).seen) o.s known (led_by AnyRequest Deeds Deeds (grown_more [] Deeds) (o.d).id its.opening ((o.d).pass).seen o.s leads gives puts) (λ said. none_here said o.place o.s o.has) in
              let tied = led_tied AnyRequest Deeds Deeds (grown_more [] Deeds) (o.d).id its.opening ((o.d).pass).seen o.s leads gives puts other (known_plays calm its.opening other known its.fit) its.nothing none in
              subst (AreToldBy device_step device_cut (request_read Deeds) other) (sym (turned e o)) (tied.tied).marked

      in_order_of : (n : ℕ) → AreMovesInOrder (announced_of Shown) (is_gone_until c.parts n) (client_moves n Deeds)
      in_order_of n =
          let is = (begun.begins).new in
          subst (λ (list : List Announce). AreMovesInOrder list (is_gone_until c.parts n) (client_moves n Deeds)) announced_are
          ((history_ordered b.announced (b.opens).writable Entries c.parts Old New c.goes [] none_until
          (history_on Entries c.parts Old New c.goes (begins_at Old is.new is.stationed refl) (begins_here Old (is.new).nothing refl))
          known_first_here (begins_own b.announced Old begun.begins) (begins_order b.announced Old begun.begins)).orders n)

      -- ---- what was left

      abbrev Rest : ℕ → List Deed
      Rest = rest_of Old Entries c.parts New c.goes

      left_of : (n : ℕ) → IsLeftOf (replies_served calm States c.parts Deeds) (announced_of Shown) (is_gone_until c.parts n) (acts_on n Old Entries c.parts New c.goes) n Deeds (Rest n)
      left_of n =
          subst (λ (list : List Announce). IsLeftOf (replies_served calm States c.parts Deeds) list (is_gone_until c.parts n) (acts_on n Old Entries c.parts New c.goes) n Deeds (Rest n)) announced_are
          (all_left calm b.announced States Old New Entries c.parts begun.begins begun.have begun.opened c.goes (closed_own Last.desks b.stations b.closes) none_here hear_bytes starts n)

      run_tells : (r : ChannelRun) → given_of act_done (r.reading).channel runs ≡ given_in act_done (r.reading).calls → TellsRun (announced_of Shown) (is_gone_until c.parts) Deeds Rest r
      run_tells r own =
          let n = (r.reading).channel in
          let left = left_of n in
          let acts : acts_on n Old Entries c.parts New c.goes ≡ acts_done (r.reading).calls =
          history_acts n Entries c.parts Old New c.goes c.steps hear_surely ∙ of_runs act_done acts_inside n ∙ own ∙ done_in_all (r.reading).calls in
          record { ready = left.ready; tells = subst (TellsReady left.ready (announced_of Shown) (is_gone_until c.parts n) n (tellings_on n (Rest n ++ Deeds))) acts left.tells }

      acts_are : filter_map act_by (reverse Deeds) ≡ flat_map (λ (r : ChannelRun). acts_done (r.reading).calls) runs
      acts_are =
          history_act Entries c.parts Old New c.goes hear_surely [] ∙ given_reader Entries ∙ ap (given_in act_done) whole ∙ runs_act runs End (((b.front).served).called).over are.each

      lines_do_so : RunsDo (map (λ (a : Announce). a.id) (announced_of Shown)) (is_gone_until c.parts) none_gone runs
      lines_do_so =
          let start = (begun.begins).new in
          subst (λ (list : List Announce). RunsDo (map (λ (a : Announce). a.id) list) (is_gone_until c.parts) none_gone runs) announced_are
          (session_does b.announced runs End (at_lines numbered) are.left Entries c.parts Old New c.goes c.steps hear_surely whole (((b.front).served).called).over are.each are.lines_go (begins_known Old start.new start.apart start.stationed start.idle_is) (begins_own b.announced Old begun.begins))

      -- ---- where deeds stand

      on_channels : EachOnChannel Old Entries c.parts New c.goes
      on_channels = let start = (begun.begins).new in history_on Entries c.parts Old New c.goes (begins_at Old start.new start.stationed refl) (begins_here Old (start.new).nothing refl)

      looks : LookUnhindered false Entries
      looks = session_looks Entries First Last (b.front).leads runs End whole (((b.front).served).called).over are.each are.sure

      done_by : AreDoneBy 0 [] Entries (groups_of c.parts)
      done_by = history_placed b.announced Entries c.parts Old New c.goes begun.first c.steps on_channels hear_surely looks (first_point b.announced Old begun.begins) (first_open b.announced Old begun.begins) (sym begun.unasked)

      come_ready : ComeReady None Entries (groups_of c.parts)
      come_ready =
          history_ready b.announced Entries c.parts false None Old New [] c.goes c.steps on_channels hear_surely looks (first_point b.announced Old begun.begins) (first_open b.announced Old begun.begins) (λ none. sym begun.unasked) (λ looked. absurd (cc (looked)))

      placed_here : ArePlaced Entries Deeds
      placed_here = record { groups = groups_of c.parts; each = done_by; all = all_groups c.parts [] }

      comes_last : EachAfter ComesLast Deeds
      comes_last = history_comes Entries c.parts Old New [] c.goes known_first_here.keyed known_first_here.told (first_last b.announced Old begun.begins) tt

      parted_here : ArePartedAt numbered Deeds
      parted_here =
          let same : Deeds ≡ all_done_by (groups_of c.parts) [] = all_groups c.parts [] in
          let moves = session_moves numbered Entries runs are.left End whole (((b.front).served).called).over are.each are.lines_go are.numbered in
          let each = all_cut_for numbered Entries (groups_of c.parts) done_by moves come_ready (subst (EachAfter ComesLast) same comes_last) in
          parted_all numbered in_place Deeds (subst (EachAfter (IsCutFor numbered)) (sym same) each) comes_last

      runs_tell : AllByRecursion (TellsRun (announced_of Shown) (is_gone_until c.parts) Deeds Rest) runs
      runs_tell =
          to_all (λ (r : ChannelRun). given_of act_done (r.reading).channel runs ≡ given_in act_done (r.reading).calls) (TellsRun (announced_of Shown) (is_gone_until c.parts) Deeds Rest) run_tells runs
          (own_given act_done 0 runs are.numbered)

      -- ---- ends

      causes_on : (n : ℕ) → AllByRecursion (IsCausedReply Deeds n) (given_of given_replies n runs)
      causes_on n =
          subst (AllByRecursion (IsCausedReply Deeds n)) (of_runs given_replies replies_inside n)
          (history_causes n Entries c.parts false false Old New [] c.goes c.steps (hear_before Entries c.parts Old New c.goes (heard_unhindered Entries false starts)) starts
          known_first_here.keyed known_first_here.told (new_follows Old begun.off refl ((begun.begins).new).new.kept))

      replies_told : (r : ChannelRun) → (AreMiddle (r.reading).calls × (given_of given_replies (r.reading).channel runs ≡ given_in given_replies (r.reading).calls)) → HaveCauses Deeds r
      replies_told r told =
          replies_each (IsCausedReply Deeds (r.reading).channel) (r.reading).calls told.0 (subst (AllByRecursion (IsCausedReply Deeds (r.reading).channel)) told.1 (causes_on (r.reading).channel))

      replies_caused : AllByRecursion (HaveCauses Deeds) runs
      replies_caused =
          to_all (λ (r : ChannelRun). AreMiddle (r.reading).calls × (given_of given_replies (r.reading).channel runs ≡ given_in given_replies (r.reading).calls)) (HaveCauses Deeds) replies_told runs
          (both_all (λ (r : ChannelRun). AreMiddle (r.reading).calls) (λ (r : ChannelRun). given_of given_replies (r.reading).channel runs ≡ given_in given_replies (r.reading).calls) runs (runs_middle runs are) (own_given given_replies 0 runs are.numbered))

      -- nothing is stored but for the devices
      unowned : (device : ℕ) → is_among (map (λ (d : ℕ × ServedDeclared). d.0) devices) device ≡ false → (j : List Item) → journal device Deeds ≡ j → j ≡ []
      unowned device other [] is = refl
      unowned device other (x ∷ j) is =
          let (place, d, s, at, id) = (known.standing).owned device x (subst (Has x) (sym is) (inl refl)) in
          let (e, there, same) = at_same (λ (y : DeviceDeskState). y.id) (λ (y : ℕ × ServedDeclared). y.0) Last.desks devices (last_ids ∙ sym (keys_map devices)) place d at.0 in
          absurd (let some = among_at (λ (y : ℕ × ServedDeclared). y.0) devices place e there device (same ∙ id) in cc (some, other))

      announced_all : AllByRecursion (AnnouncesOwn Shown) Deeds
      announced_all =
          all_announce Shown Entries c.parts Old New c.goes
          (first_kept Shown (b.opens).openable Old (ap (λ (s : FrontState). s.client) ((b.front).begins).is ∙ ap new_client announced_are) (ap (λ (s : FrontState). s.printers) ((b.front).begins).is ∙ ((b.opens).shown).printers_are)) [] tt

      dropped : AreDropped Deeds
      dropped =
          let is = (begun.begins).new in
          all_dropped runs End Entries c.parts Old New c.goes c.steps (history_on Entries c.parts Old New c.goes (begins_at Old is.new is.stationed refl) (begins_here Old (is.new).nothing refl)) is whole (((b.front).served).called).over are.each

      all_told : AreStationed Last.desks mids → IsToldSession calm devices numbered channels by Entries books old new
      all_told at = record {
        deeds = Deeds;
        gone = is_gone_until c.parts;
        rest = Rest;
        runs = runs;
        calls = Calls;
        done = ((b.front).served).done;
        ends = (((b.front).served).called).ends;
        calls_are = are.calls_are;
        called = (End, (((b.front).served).called).all_are, (((b.front).served).called).over);
        handed = wrote_is;
        done_are = are.done_are;
        numbered = are.numbered;
        does = lines_do_so;
        placed = placed_here;
        last = comes_last;
        parted = parted_here;
        opening = Old;
        final = New;
        parts = c.parts;
        goes = c.goes;
        steps = c.steps;
        opens = subst (λ (list : List Announce). BeginsWith list Old) announced_are begun.begins;
        opened = begun.opened;
        done_so = refl;
        left = λ n. refl;
        lines_go = (record { calls = Calls; done = ((b.front).served).done; lines = are.left; linker = new }, are.lines_go);
        each = runs_told;
        unread = unread;
        unwritten = unwritten;
        told = answered;
        heeded = λ n. (left_of n).heeded;
        stands = (known.standing).stand;
        removals = all_gone Old New Entries c.parts (begun.begins).new c.goes (history_bytes Entries c.parts Old New [] c.goes hear_bytes tt);
        order = in_order_of;
        tells = runs_tell;
        acts = acts_are;
        cuts = all_cut b.announced Old New Entries c.parts begun.begins c.goes;
        journals = b.journals_are ∙ journals_are at;
        lawful = lawful_of at;
        marked = marked_of at;
        caused = replies_caused;
        comes = all_coming b.announced Old New Entries c.parts begun.begins begun.have c.goes (all_fine Deeds (history_bytes Entries c.parts Old New [] c.goes hear_bytes tt)) starts;
        own = λ device other. unowned device other (journal device Deeds) refl;
        drops = dropped.each;
        cut_off = dropped.last;
        announces = announced_all;
      }

    -- The session is told by its front's history.
    pub session_told : IsToldSession calm devices numbered channels by Entries books old new
    session_told =
        let (runs, are) = runs_of (at_lines numbered) channels by Calls ((b.front).served).done old new not (((b.front).served).called).ends in
        all_told runs are closed.mids closed.works (chained closed.mids closed.stationed) closed.stationed
