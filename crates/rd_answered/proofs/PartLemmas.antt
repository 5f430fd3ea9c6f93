-- What each part of a move leaves of what a client says and refuses, and so every run.
use Rattle.std.proofs.Common.{◌≡◌, ◌∙◌, refl, sym, ap, subst, ℕ, ◌+◌, ◌<◌, ◌==◌, Bool, true, false, cond, arith, eqb-true, eq-eqb, List, [], ◌∷◌, ◌++◌, map, length, inl, inr, Some, None, Option, Result}
use Rattle.std.specs.Prelude.{fold, not, ◌&&◌, Contains}
use Rattle.std.specs.List.{AllByRecursion, cons_option}
use Rattle.std.specs.Map.{lookup}
use Rattle.std.specs.Ordering.{nat_cmp}
use Rattle.std.specs.BTreeMap.{is_at}
use Rattle.std.specs.Option.{IfSome, option_map_or}
use Rattle.rd_base.specs.declared.journal.Item.{Item}
use Rattle.rd_base.specs.declared.journal.Item.TheVariants.{Came, Sent}
use Rattle.rd_base.specs.declared.journal.Key.{Key}
use Rattle.rd_client.proofs.KeptLemmas.{same_announces}
use Rattle.rd_client.specs.Core.{ClientCoreState, Outgoing, announces, has_device, is_device, is_gone, listed_one, plain, refresh, tell_added, tell_removed}
use Rattle.rd_client.specs.Order.{is_client_ready}
use Rattle.rd_core.specs.Core as core
use Rattle.rd_devices.specs.DeviceList.{list_bytes}
use Rattle.rd_devices.specs.Removal.{removal_bytes}
use Rattle.rd_drive.specs.Ranged.{IsReplyInRange}
use Rattle.rd_irp.specs.declared.completion.Head.{Head}
use Rattle.rd_irp.specs.declared.completion.Reply.{Reply}
use Rattle.rd_irp.specs.declared.request.Request.{Request}
use Rattle.rd_refused.proofs.JournalsCameLemmas.{came_true, fines, was_ready}
use Rattle.rd_refused.proofs.JournalsChannelLemmas.{all_refreshed, begun_on}
use Rattle.rd_refused.proofs.JournalsClientLemmas.{channel_of}
use Rattle.rd_refused.proofs.JournalsCompletionLemmas.{lost_ranged, ready_completes, runs_good}
use Rattle.rd_refused.proofs.JournalsHeldLemmas.{found_then, stored_deeds}
use Rattle.rd_refused.proofs.JournalsHostLemmas.{hears_same, sends_same}
use Rattle.rd_refused.proofs.JournalsOrderlyLemmas.{ready_came}
use Rattle.rd_refused.proofs.JournalsRunLemmas.{behind_orderly, hears_open, left, opened, right}
use Rattle.rd_refused.proofs.JournalsWorkLemmas.{behind_working, grown_more}
use Rattle.rd_refused.specs.JournalsJobs.{FitsCompletion, IsCompletionOf}
use Rattle.rd_refused.specs.JournalsOrderly.{HasStation, Orderly}
use Rattle.rd_refused.specs.JournalsStations.{AreFit}
use Rattle.rd_pending.proofs.Neutral.{channel_kept}
use Rattle.rd_pending.specs.History as call
use Rattle.rd_pending.specs.Table.{TableState}
use Rattle.rd_pending.specs.declared.calls.SubmitNo.{SubmitNo}
use Rattle.rd_pending.specs.declared.calls.TakeNo.{TakeNo}
use Rattle.rd_pending.specs.declared.calls.Taken.{Taken}
use Rattle.rd_refused.proofs.MarkLemmas.{addition_marks, refresh_marks, removal_marks}
use Rattle.rd_refused.proofs.SaidLemmas.{completion_says}
use Rattle.rd_refused.specs.Refused.{MarksSay, RefusesDirectly}
use Rattle.rd_refused.proofs.RunsInsides.{hears_inside}
use Rattle.rd_refused.proofs.RunsKeysOn.{AnswersOn}
use Rattle.rd_refused.proofs.RunsParts.{IsBehind, MayBe, Part, accepts, adds_one, announced_by, applies_one, begins, by_parts, client_gets, client_hears_one, client_keeps_part, client_sends_one, collects_one, cut_by, done, draws_one, ends, hands_out, host_gets, host_hears_one, host_keeps_part, host_sends_one, idle_one, queues_one, refreshed_by, refuses, removes_one, takes_one, tells_one, told_added, told_removed, tries_one}
use Rattle.rd_refused.proofs.RunsTogether.{knows}
use Rattle.rd_refused.proofs.RunsTrafficLemmas.{Traffic}
use Rattle.rd_refused.specs.RunsPremises.{RunPremises}
use Rattle.rd_script.specs.declared.line.NumberedLine.{NumberedLine}
use Rattle.rd_station.specs.Station as station
use Rattle.rd_station.specs.Station.{StationState, collect_first}
use Rattle.rd_station.specs.declared.answers.Completion.{Completion}
use Rattle.rd_deeds.proofs.Journals.{contains_has}
use Rattle.rd_deeds.proofs.Messages.{head_read}
use Rattle.rd_declared.specs.Devices.{PrinterNames, device_cut, printer_data}
use Rattle.rd_world.specs.Events.{came_of, client_has_message, client_sends_first, client_sends_next, completion_message, connects, cutting, dropping, is_channel_open, is_empty, is_ready, refreshing}
use Rattle.rd_declared.specs.Declaring.{bare_lines, declared_devices}
use Rattle.rd_world.specs.Opening.{AreShort}
use Rattle.rd_world.specs.Run.{world_of}
use Rattle.rd_deeds.specs.Talk as deed
use Rattle.rd_deeds.specs.Talk.{Deed, EachAfter, client_reads, client_writes, client_wrote, completes, head_in, journal, on, request_at, client_read, stores}
use Rattle.rd_deeds.specs.Told.{CompletesWith, came, is_said_gone, worn_entries}
use Rattle.rd_world.specs.World.{Asked, WorldState, client_sends, handling_by, station_at, with_station}
use Rattle.rd_declared.specs.declared.device.SessionDevice.{SessionDevice}
use Rattle.rd_directs.proofs.AloneLemmas.{kept_open}
use Rattle.rd_answered.proofs.GrowingLemmas.{few_end, part_grows}
use Rattle.rd_answered.proofs.ListedLemmas.{has_marked, has_refreshed, room_of, room_refreshed, spells, told_other, told_refreshed, told_removed_off}
use Rattle.rd_answered.proofs.LiveLemmas.{announce_live, announced_found, apply_live, collect_live, orderly_room, take_live}
use Rattle.rd_answered.proofs.RefusingLemmas.{announced_client, announced_saying, hears_saying, putting_saying, station_live, station_saying}
use Rattle.rd_answered.proofs.SayingLemmas.{refuse_more, refuses_so, then_more}
use Rattle.rd_answered.specs.Refusing.{AllKeepRoom, AllRefuse, AreLive, AreSaying, HasRoomToAnnounce, IsLiveIn, IsSaying, RefusesGone, SaysMarks, is_told_by, written_then}

abbrev Of : Type 0
Of = StationState SessionDevice

abbrev now : WorldState → Option ℕ
now w = ((w.side).table).channel

abbrev pub IsGood : WorldState → Type 0
IsGood w = IsSaying w × IsLiveIn w

abbrev IsGoodAs : ClientCoreState → List (ℕ × Of) → ℕ → Option ℕ → List Deed → Type 0
IsGoodAs clt stations channels opened deeds = AreSaying clt stations channels opened deeds × AreLive clt stations opened

-- ---- deeds of a host

abbrev IsOfHost : Deed → Type 0
IsOfHost (deed.submits a n o) = Unit {0}
IsOfHost (deed.takes n) = Unit {0}
IsOfHost (deed.tells n) = Unit {0}
IsOfHost (deed.host_writes c m) = Unit {0}
IsOfHost (deed.host_reads c m) = Unit {0}
IsOfHost (deed.host_begins c) = Unit {0}
IsOfHost (deed.host_ends c) = Unit {0}
IsOfHost y = ⊥

good_host : {clt : ClientCoreState} {stations : List (ℕ × Of)} {channels : ℕ} {o o' : Option ℕ} {deeds : List Deed} (y : Deed) → IsOfHost y → o' ≡ o → IsGoodAs clt stations channels o deeds → IsGoodAs clt stations channels o' (y ∷ deeds)
good_host {clt} {stations} {channels} {o} {o'} {deeds} y of same (is, live) = by y of
  where
    by : (y : Deed) → IsOfHost y → IsGoodAs clt stations channels o' (y ∷ deeds)
    by (deed.submits a n q) of = (record { room = is.room; stationed = is.stationed; marks = λ c at. is.marks c (sym same ∙ at); out = is.out; each = (tt, is.each) }, λ c at. live c (sym same ∙ at))
    by (deed.takes n) of = (record { room = is.room; stationed = is.stationed; marks = λ c at. is.marks c (sym same ∙ at); out = is.out; each = (tt, is.each) }, λ c at. live c (sym same ∙ at))
    by (deed.tells n) of = (record { room = is.room; stationed = is.stationed; marks = λ c at. is.marks c (sym same ∙ at); out = is.out; each = (tt, is.each) }, λ c at. live c (sym same ∙ at))
    by (deed.host_writes c m) of = (record { room = is.room; stationed = is.stationed; marks = λ c at. is.marks c (sym same ∙ at); out = is.out; each = (tt, is.each) }, λ c at. live c (sym same ∙ at))
    by (deed.host_reads c m) of = (record { room = is.room; stationed = is.stationed; marks = λ c at. is.marks c (sym same ∙ at); out = is.out; each = (tt, is.each) }, λ c at. live c (sym same ∙ at))
    by (deed.host_begins c) of = (record { room = is.room; stationed = is.stationed; marks = λ c at. is.marks c (sym same ∙ at); out = is.out; each = (tt, is.each) }, λ c at. live c (sym same ∙ at))
    by (deed.host_ends c) of = (record { room = is.room; stationed = is.stationed; marks = λ c at. is.marks c (sym same ∙ at); out = is.out; each = (tt, is.each) }, λ c at. live c (sym same ∙ at))
    by (deed.removes d) of = absurd of
    by (deed.adds d) of = absurd of
    by (client_reads c m) of = absurd of
    by (client_writes c m) of = absurd of
    by (completes k m) of = absurd of
    by (stores d x) of = absurd of

-- ---- a channel begins

-- the devices stay, whatever their data
abbrev DevicesStay : ClientCoreState → ClientCoreState → Type 0
DevicesStay c x = (AllByRecursion HasRoomToAnnounce (announces c) → AllByRecursion HasRoomToAnnounce (announces x)) × ((d : ℕ) → has_device x d ≡ has_device c d)

refreshing_stays : (w : WorldState) (d : ℕ) (o : Option PrinterNames) → DevicesStay w.client (refreshed_by w d o).client
refreshing_stays w d None = (λ room. room, λ e. refl)
refreshing_stays w d (Some names) = (room_refreshed d (printer_data w.cache names) (w.client).devices, λ e. has_refreshed e d (printer_data w.cache names) (w.client).devices)

all_refreshing : (ds : List ℕ) (w : WorldState) → DevicesStay w.client (fold refreshing w ds).client
all_refreshing [] w = (λ room. room, λ e. refl)
all_refreshing (d ∷ ds) w =
    let one = refreshing_stays w d (lookup (is_at (nat_cmp d)) w.printers) in
    let others = all_refreshing ds (refreshing w d) in
    (λ room. others.0 (one.0 room), λ e. others.1 e ∙ one.1 e)

connects_good : (w : WorldState) → client_wrote (w.channels + 1) w.deeds ≡ [] → IsGood w → IsGood (connects w)
connects_good w unwritten (is, live) = subst (λ (x : WorldState). IsGood (begun_on w x)) (sym (all_refreshed ids w)) (
  record {
    room = stays.0 is.room;
    stationed = λ d has. is.stationed d (sym (stays.1 d) ∙ has);
    marks = λ c at d. ap (is_said_gone d) unwritten;
    out = tt;
    each = (tt, is.each);
  },
  λ c at d s has told. absurd (cc told),
)
  where
    ids : List ℕ
    ids = map (λ (e : ℕ × PrinterNames). e.0) w.printers

    stays : DevicesStay w.client (fold refreshing w ids).client
    stays = all_refreshing ids w

-- ---- a channel ends

one_dropped : (x : WorldState) (d : ℕ) → IsSaying x → IsSaying (dropping x d)
one_dropped x d is = by (station_at x d)
  where
    by : (o : Option Of) → IsSaying (option_map_or (λ (s : Of). with_station x d (station.drop_channel s (device_cut s.device).state)) o x)
    by None = is
    by (Some s) = station_saying x d (station.drop_channel s (device_cut s.device).state) is

all_dropped : (ds : List ℕ) (x : WorldState) → IsSaying x → IsSaying (fold dropping x ds)
all_dropped [] x is = is
all_dropped (d ∷ ds) x is = all_dropped ds (dropping x d) (one_dropped x d is)

cutting_good : (w : WorldState) → IsSaying w → IsGood (cutting w)
cutting_good w is =
    let cut = all_dropped (map (λ (e : ℕ × Of). e.0) w.stations) w is in
    (record { room = cut.room; stationed = cut.stationed; marks = λ c at. absurd (cc at); out = tt; each = (tt, cut.each) }, λ c at. absurd (cc at))

-- ---- a client sends

own_on : (c : ℕ) (m : List ℕ) (older : List (List ℕ)) → cons_option (on c c m) older ≡ m ∷ older
own_on c m older = ap (λ (b : Bool). cons_option (cond b (Some m) None) older) (eq-eqb c c refl)

client_sends_good : (w : WorldState) → AllByRecursion (AnswersOn w.channels) ((w.client).core).outbox → IsGood w → IsGood (client_sends_next w)
client_sends_good w on_channel (is, live) = by ((w.client).core).outbox refl
  where
    wrote : List (List ℕ)
    wrote = client_wrote w.channels w.deeds

    left_with : List Outgoing → ClientCoreState
    left_with others = record w.client { core = record (w.client).core { outbox = others } }

    sent_one : (o : Outgoing) (others : List Outgoing) → ((w.client).core).outbox ≡ o ∷ others → (a : Option Key) → o.answers ≡ a → IfSome a (λ (key : Key). key.channel ≡ w.channels)
        → AreSaying (left_with others) w.stations w.channels (now w) (option_map_or (λ key. completes key o.message) a (client_writes w.channels o.message) ∷ w.deeds)
    sent_one o others e None a of = record {
      room = is.room;
      stationed = is.stationed;
      marks = λ c at. subst (λ (ms : List (List ℕ)). SaysMarks (left_with others) (written_then others ms)) (sym (own_on w.channels o.message wrote)) (subst (λ (os : List Outgoing). SaysMarks w.client (written_then os wrote)) e (is.marks c at));
      out = subst (AllRefuse others) (sym (own_on w.channels o.message wrote)) (subst (λ (os : List Outgoing). AllRefuse os wrote) e is.out).1;
      each = (tt, is.each);
    }
    sent_one o others e (Some key) a of =
        let all : AllRefuse (o ∷ others) wrote = subst (λ (os : List Outgoing). AllRefuse os wrote) e is.out in
        let added : client_wrote w.channels (completes key o.message ∷ w.deeds) ≡ o.message ∷ wrote = ap (λ (n : ℕ). cons_option (on w.channels n o.message) wrote) of ∙ own_on w.channels o.message wrote in
        record {
          room = is.room;
          stationed = is.stationed;
          marks = λ c at. subst (λ (ms : List (List ℕ)). SaysMarks (left_with others) (written_then others ms)) (sym added) (subst (λ (os : List Outgoing). SaysMarks w.client (written_then os wrote)) e (is.marks c at));
          out = subst (AllRefuse others) (sym added) all.1;
          each = (refuses_so key o.message w.deeds (subst (λ (n : ℕ). RefusesGone (Some key) o.message (client_wrote n w.deeds)) (sym of) (subst (λ (x : Option Key). RefusesGone x o.message wrote) a all.0)), is.each);
        }

    by : (messages : List Outgoing) → ((w.client).core).outbox ≡ messages → let r = core.send_from (w.client).core messages in IsGood (client_sends_first w (record w.client { core = r.0 }, r.1))
    by [] e = (is, live)
    by (o ∷ others) e = (sent_one o others e o.answers refl (subst (AllByRecursion (AnswersOn w.channels)) e on_channel).0.0, live)

no_message : (os : List Outgoing) → not (is_empty os) ≡ false → os ≡ []
no_message [] e = refl
no_message (o ∷ os) e = absurd (cc e)

same_device : (r q : Request) (reply other : Reply) (m : List ℕ) → CompletesWith r reply m → CompletesWith q other m → r.device ≡ q.device
same_device r q reply other m done also =
    let h : Head = record { device = r.device; completion = r.completion; status = reply.status } in
    let k : Head = record { device = q.device; completion = q.completion; status = other.status } in
    let is_h : head_in m ≡ Some h = rw (head_read h m done.head).1 refl in
    let is_k : head_in m ≡ Some k = rw (head_read k m also.head).1 refl in
    let both : Some h ≡ Some k = sym is_h ∙ is_k in
    let same : h ≡ k = cc both in
    ap (λ (x : Head). x.device) same

collects_good : (w : WorldState) (d : ℕ) (s after : Of) (x : Completion) → station_at w d ≡ Some s → station.collect s ≡ (after, Some x) → client_has_message w ≡ false → Orderly w → IsCompletionOf w.deeds d x → IsGood w
    → IsGood (client_sends (with_station w d after) (completes x.key (completion_message d x)) (completion_message d x))
collects_good w d s after x there made idle ordered of (is, live) = (
  record {
    room = was.room;
    stationed = was.stationed;
    marks = λ c at e. ap (λ (os : List Outgoing). is_said_gone e (written_then os (client_wrote w.channels (completes x.key m ∷ left_then.deeds)))) none
        ∙ says e (client_wrote w.channels left_then.deeds) ((x.key).channel == w.channels)
        ∙ ap (λ (os : List Outgoing). is_said_gone e (written_then os (client_wrote w.channels left_then.deeds))) (sym none) ∙ was.marks c at e;
    out = subst (λ (os : List Outgoing). AllRefuse os (client_wrote w.channels (completes x.key m ∷ left_then.deeds))) (sym none) tt;
    each = (own, was.each);
  },
  station_live w d s after there (λ lives. collect_live s after x made ∙ lives) live,
)
  where
    m : List ℕ
    m = completion_message d x

    left_then : WorldState
    left_then = with_station w d after

    was : IsSaying left_then
    was = station_saying w d after is

    none : ((w.client).core).outbox ≡ []
    none = no_message ((w.client).core).outbox idle

    says : (e : ℕ) (older : List (List ℕ)) (b : Bool) → is_said_gone e (cons_option (cond b (Some m) None) older) ≡ is_said_gone e older
    says e older true = completion_says e x.kind (record { device = d; completion = x.completion; status = (x.reply).status }) (x.reply).body older
    says e older false = refl

    first : (cs : List Completion) → s.ready ≡ cs → collect_first s cs ≡ (after, Some x) → Contains s.journal (Came x.key) × (after.journal ≡ s.journal ++ Sent x.key ∷ [])
    first [] e same = let nothing : None ≡ Some x = ap (λ (r : Of × Option Completion). r.1) same in absurd (cc (nothing))
    first (y ∷ ys) e same =
        let one : Some y ≡ Some x = ap (λ (r : Of × Option Completion). r.1) same in
        let equal : y ≡ x = cc in (
          subst (λ (z : Completion). Contains s.journal (Came z.key)) equal (ready_came (channel_of w) s ((ordered.held).on d s there) y ys e),
          ap (λ (r : Of × Option Completion). (r.0).journal) (sym same) ∙ ap (λ (z : Completion). s.journal ++ Sent z.key ∷ []) equal,
        )

    stored : left_then.deeds ≡ stores d (Sent x.key) ∷ w.deeds
    stored = stored_deeds w d s after there (Sent x.key ∷ []) (first s.ready refl made).1

    came_w : came (x.key).channel (journal d w.deeds) (x.key).index ≡ true
    came_w = came_true x.key (journal d w.deeds) (contains_has (Came x.key) (journal d w.deeds) (subst (λ (js : List Item). Contains js (Came x.key)) (sym ((ordered.held).tied d s there)) (first s.ready refl made).0))

    came_left : came (x.key).channel (journal d left_then.deeds) (x.key).index ≡ true
    came_left = subst (λ (ds : List Deed). came (x.key).channel (journal d ds) (x.key).index ≡ true) (sym stored) (by (d == d))
      where
        by : (b : Bool) → came (x.key).channel (cons_option (cond b (Some (Sent x.key)) None) (journal d w.deeds)) (x.key).index ≡ true
        by true = came_w
        by false = came_w

    own : RefusesDirectly left_then.deeds (completes x.key m)
    own r reply read done never refusal =
        let device : r.device ≡ d = same_device r of.request reply x.reply m done of.completes ∙ of.device in
        let none_came : came (x.key).channel (journal d left_then.deeds) (x.key).index ≡ false = subst (λ (n : ℕ). came (x.key).channel (journal n left_then.deeds) (x.key).index ≡ false) device never in
        absurd (cc (came_left, none_came))

-- ---- devices go and come

module _ (c : ClientCoreState) (older : List (List ℕ)) (ready : is_client_ready (c.core).shake ≡ true) where
  to_marks : SaysMarks c older → MarksSay c older
  to_marks say d = say d ∙ ap (λ (r : Bool). not (r && (has_device c d && not (is_gone c d)))) ready

  of_marks : MarksSay c older → SaysMarks c older
  of_marks say d = say d ∙ ap (λ (r : Bool). not (r && (has_device c d && not (is_gone c d)))) (sym ready)

removes_good : (w : WorldState) (d : ℕ) (o : Option Of) → station_at w d ≡ o → is_client_ready ((w.client).core).shake ≡ true → has_device w.client d ≡ true → IsGood w → IsGood (cut_by (told_removed w d) d o)
removes_good w d o there ready has (is, live) = by o there
  where
    x : ClientCoreState
    x = tell_removed w.client d

    own : Outgoing
    own = plain (removal_bytes (d ∷ []))

    wrote : List (List ℕ)
    wrote = client_wrote w.channels w.deeds

    older : List (List ℕ)
    older = written_then ((w.client).core).outbox wrote

    told : IsSaying (told_removed w d)
    told = record {
      room = subst (AllByRecursion HasRoomToAnnounce) (sym (same_announces d true (w.client).devices)) is.room;
      stationed = λ e has. is.stationed e (sym (has_marked e d true (w.client).devices) ∙ has);
      marks = λ c at. subst (SaysMarks x) (sym (then_more ((w.client).core).outbox (own ∷ []) wrote))
          (of_marks x (removal_bytes (d ∷ []) ∷ older) ready (removal_marks w.client d older (room_of d (w.client).devices is.room has) (to_marks w.client older ready (is.marks c at))));
      out = refuse_more ((w.client).core).outbox (own ∷ []) wrote is.out (tt, tt);
      each = (tt, is.each);
    }

    -- another device is told of as before, and this one isn't
    lives : (c : ℕ) → now w ≡ Some c → (e : ℕ) (s : Of) → is_told_by x e ≡ true → (((e == d) ≡ false) → HasStation w.stations e s) → s.live ≡ true
    lives c at e s is_told was = go (e == d) refl
      where
        go : (b : Bool) → (e == d) ≡ b → s.live ≡ true
        go true same = absurd (let off : is_told_by x e ≡ false = subst (λ (n : ℕ). is_told_by x n ≡ false) (sym (eqb-true e d same)) (told_removed_off w.client d) in cc (is_told, off))
        go false other = live c at e s (was other) (sym (told_other w.client d e true other) ∙ is_told)

    by : (o : Option Of) → station_at w d ≡ o → IsGood (cut_by (told_removed w d) d o)
    by None there = (told, λ c at e s has is_told. lives c at e s is_told (λ other. has))
    by (Some s) there =
        let new : Of = (station.remove s (device_cut s.device).state).0 in
        (station_saying (told_removed w d) d new told, λ c at e t has is_told. lives c at e t is_told (λ other. elim (found_then w.stations d new e t has) [ inl (same, equal) ↦ absurd (let yes : (e == d) ≡ true = eq-eqb e d same in cc (yes, other)) | inr (apart, was) ↦ was ]))

-- a device's data is another
refresh_good : (w : WorldState) (d : ℕ) (body : List ℕ) → is_client_ready ((w.client).core).shake ≡ true → IsGood w → IsGood (record w { client = refresh w.client d body })
refresh_good w d body ready (is, live) =
    let wrote : List (List ℕ) = client_wrote w.channels w.deeds in
    let older : List (List ℕ) = written_then ((w.client).core).outbox wrote in (
      record {
        room = room_refreshed d body (w.client).devices is.room;
        stationed = λ e has. is.stationed e (sym (has_refreshed e d body (w.client).devices) ∙ has);
        marks = λ c at. of_marks (refresh w.client d body) older ready (refresh_marks w.client d body older (to_marks w.client older ready (is.marks c at)));
        out = is.out;
        each = is.each;
      },
      λ c at e s has told. live c at e s has (sym (told_refreshed w.client d e body) ∙ told),
    )

adds_good : (w : WorldState) (d : ℕ) (o : Option Of) → station_at w d ≡ o → is_client_ready ((w.client).core).shake ≡ true → AreShort (announces w.client) → AllKeepRoom w.stations → IsGood w → IsGood (announced_by (told_added w d) d o)
adds_good w d o there ready short room (is, live) = (announced_saying (told_added w d) d o told, lives)
  where
    x : ClientCoreState
    x = tell_added w.client d

    list : List ℕ
    list = list_bytes (listed_one w.client d)

    wrote : List (List ℕ)
    wrote = client_wrote w.channels w.deeds

    older : List (List ℕ)
    older = written_then ((w.client).core).outbox wrote

    told : IsSaying (told_added w d)
    told = record {
      room = subst (AllByRecursion HasRoomToAnnounce) (sym (same_announces d false (w.client).devices)) is.room;
      stationed = λ e has. is.stationed e (sym (has_marked e d false (w.client).devices) ∙ has);
      marks = λ c at. subst (SaysMarks x) (sym (then_more ((w.client).core).outbox (plain list ∷ []) wrote))
          (of_marks x (list ∷ older) ready (addition_marks w.client d older (spells (is_device d) w.client short is.room) (to_marks w.client older ready (is.marks c at))));
      out = refuse_more ((w.client).core).outbox (plain list ∷ []) wrote is.out (tt, tt);
      each = (tt, is.each);
    }

    lives_as : (o : Option Of) → (announced_by (told_added w d) d o).client ≡ x
    lives_as None = refl
    lives_as (Some s) = refl

    now_as : (o : Option Of) → now (announced_by (told_added w d) d o) ≡ now w
    now_as None = refl
    now_as (Some s) = refl

    lives : IsLiveIn (announced_by (told_added w d) d o)
    lives c at e s has is_told = elim (announced_found (told_added w d) d o there e s has) [
      | inl (same, old, was, equal) ↦ subst (λ (t : Of). t.live ≡ true) (sym equal) (announce_live old (room d old was))
      | inr (other, was) ↦ live c (sym (now_as o) ∙ at) e s was (sym (told_other w.client d e false other) ∙ subst (λ (y : ClientCoreState). is_told_by y e ≡ true) (lives_as o) is_told)
    ]

-- ---- each part, and every run

abbrev pub AreUnworn : List Deed → Type 0
AreUnworn deeds = (d : ℕ) → length (journal d deeds) < worn_entries

module _ (lines : List NumberedLine) (starves : Key → Bool) (fit : AreFit (declared_devices (bare_lines lines))) (premises : RunPremises lines) where
  -- a part before which no journal is worn
  pub record Before (w : WorldState) (p : Part) : Type 0 where
    pub behind : IsBehind lines starves w
    pub after : IsBehind lines starves (done starves w p)
    pub few : AreUnworn w.deeds

  pub part_good : (w : WorldState) (p : Part) → Before w p → MayBe lines starves w p → IsGood w → IsGood (done starves w p)
  part_good w (accepts a asked named t number) b (reached, may, next, target, made) is =
      good_host (deed.submits a named asked.op) tt (sym (sym (channel_kept (call.submits a named asked.op) tt (w.side).table) ∙ ap (λ (r : TableState × Result ℕ SubmitNo). (r.0).channel) made)) is
  part_good w (refuses a asked cause) b may is = is
  part_good w (hands_out a number t had next) b (waits, nexts, made) is = by next
    where
      so : IsGoodAs w.client w.stations w.channels t.channel (deed.takes number ∷ w.deeds)
      so = good_host (deed.takes number) tt (sym (sym (channel_kept (call.takes number) tt (w.side).table) ∙ ap (λ (r : TableState × Result Taken TakeNo). (r.0).channel) made)) is

      by : (x : Option Asked) → IsGood (done starves w (hands_out a number t had x))
      by None = so
      by (Some asked) = so
  part_good w (host_sends_one m) b may is = good_host (deed.host_writes w.channels m) tt (sends_same w.side) is
  part_good w (host_gets n) b may is = is
  part_good w host_keeps_part b may is = is
  part_good w (host_hears_one m rest) b may is = good_host (deed.host_reads w.channels m) tt (hears_same w.side m) is
  part_good w (tells_one n) b may is = good_host (deed.tells n) tt refl is
  part_good w begins b can is =
      connects_good w (ap (λ (t : Traffic). t.client_wrote) ((knows lines starves premises w b.behind).carries.later (w.channels + 1) (omega arith))) is
  part_good w ends b may is = cutting_good w is.0
  part_good w (client_sends_one x o) b made is =
      subst (λ (r : ClientCoreState × Option Outgoing). IsGood (client_sends_first w r)) made (client_sends_good w (knows lines starves premises w b.behind).on.outbox is)
  part_good w (client_gets n) b may is = is
  part_good w client_keeps_part b may is = is
  part_good w (client_hears_one m rest) b (kept, some) is =
      let (ordered, handled) = behind_orderly lines starves w fit b.behind in
      let (c, at) = hears_open w ordered handled m rest some in
      let x : WorldState = record w { to_client = (handling_by w.to_client (Some (m, rest))).0 } in
      let inside = hears_inside x m in
      let read : List Deed = client_reads w.channels m ∷ w.deeds in
      let ends = (knows lines starves premises w b.behind).fits.ends in
      hears_saying c x m ordered at kept (λ n k r e. fines lines starves premises (done starves w (client_hears_one m rest)) b.after n k r
      (subst (λ (ds : List Deed). request_at (client_read n ds) k ≡ Some r) (sym inside.deeds) (grown_more inside.more read n k r e))) (orderly_room w ordered b.few) ends.kept.devices ends.short is.0 is.1
  part_good w (tries_one k) b some is =
      let ordered = (behind_orderly lines starves w fit b.behind).0 in
      let (c, at) = kept_open w k ordered some in
      putting_saying (record w { kept = None }) k.device k.job (fines lines starves premises w b.behind) (ordered.kept_next k some) (orderly_room w ordered b.few) c at is.0 is.1
  part_good w (collects_one d s next x) b (reached, idle, there, made) is =
      let ordered = (behind_orderly lines starves w fit b.behind).0 in
      collects_good w d s next x there made idle ordered
      (ready_completes (declared_devices (bare_lines lines)) w ordered (behind_working FitsCompletion IsReplyInRange lost_ranged runs_good lines starves w fit b.behind (fines lines starves premises w b.behind)) d s there x (was_ready s next x made)) is
  part_good w (takes_one d hand s next job) b (free, there, made) is = (station_saying w d next is.0, station_live w d s next there (λ on. take_live s next job made ∙ on) is.1)
  part_good w (applies_one hand d job None) b may is = is
  part_good w (applies_one hand d job (Some s)) b (holds, there) is =
      let new : Of = (station.apply s job w.moment (came_of starves w job s.device)).0 in
      (station_saying w d new is.0, station_live w d s new there (λ on. apply_live s job w.moment (came_of starves w job s.device) ∙ on) is.1)
  part_good w (removes_one d o) b (can, there) is =
      let open_ready = left (is_ready w) _ can in
      removes_good w d o there (right (is_channel_open w) _ open_ready) (left (has_device w.client d) _ (right (is_ready w) _ can)) is
  part_good w (adds_one d names o) b (can, printers, there) is =
      by names there is_short
    where
      ready : is_client_ready ((w.client).core).shake ≡ true
      ready = right (is_channel_open w) _ (left (is_ready w) _ can)

      room : AllKeepRoom w.stations
      room = orderly_room w (behind_orderly lines starves w fit b.behind).0 b.few

      is_short : AreShort (announces (refreshed_by w d names).client)
      is_short =
          subst AreShort (same_announces d false ((refreshed_by w d names).client).devices)
          (subst (λ (x : ClientCoreState). AreShort (announces x)) (announced_client (told_added (refreshed_by w d names) d) d o) (knows lines starves premises (done starves w (adds_one d names o)) b.after).fits.ends.short)

      by : (names : Option PrinterNames) → station_at w d ≡ o → AreShort (announces (refreshed_by w d names).client) → IsGood (announced_by (told_added (refreshed_by w d names) d) d o)
      by None there short = adds_good w d o there ready short room is
      by (Some names) there short = adds_good (refreshed_by w d (Some names)) d o there ready short room (refresh_good w d (printer_data w.cache names) ready is)
  part_good w (queues_one a) b may is = is
  part_good w (idle_one number) b may is = is
  part_good w draws_one b may is = is

  -- where no journal is worn at last
  pub behind_good : IsGood (world_of lines) → (w : WorldState) → IsBehind lines starves w → AreUnworn w.deeds → IsGood w
  behind_good first w behind =
      by_parts lines starves (λ x. (AreUnworn x.deeds → IsGood x)) (λ few. first)
      (λ x p before after may is few.
      let (more, same) = part_grows starves x p in
      let was : AreUnworn x.deeds = λ d. few_end worn_entries d more x.deeds (subst (λ (ds : List Deed). length (journal d ds) < worn_entries) same (few d)) in
      part_good x p (record { behind = before; after = after; few = was }) may (is was)) w behind
